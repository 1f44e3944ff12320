use Rattle.std.proofs.Common.{◌∙◌, ◌+◌, [], ◌∷◌, ◌++◌, Ok, ap, length, subst, sym}
use Rattle.std.proofs.lemmas.List.{map-append}
use Rattle.chr_semantics.specs.Checked.{error_in_rule, unless, with_rule}
use Rattle.chr_read.specs.SyntaxView.{rule_view as syntax_rule}
use Rattle.chr_rules.specs.Building.{IsPlaced, checked_of, with_rule_in_line}
use Rattle.chr_rules.specs.Checks.{IsFault}
use Rattle.chr_rules.specs.RuleView.{rule_view, rules_view}
use Rattle.chr_rules.proofs.Placed.{placed}
use Rattle.chr_rules.proofs.building.add_rule.Goals as goal

pub returns-in_ok-push-in-Ok-clause-accepted : goal.returns-in_ok-push-in-Ok-clause-accepted
returns-in_ok-push-in-Ok-clause-accepted g c =
    let d = c.args.declared in
    let r = syntax_rule c.args.written.now in
    let earlier = rules_view c.as_slice-2.result.now in
    let here = checked_of c.args.names.now d earlier in
    ap (λ rs. with_rule_in_line (checked_of c.args.names.now d (rules_view rs)) c.args.line r) (sym c.as_slice-2.ensures.value)
    ∙ ap (λ m. unless m c.args.line (length earlier + 1) (with_rule here r)) c.in-Ok.ensures.accepted
    ∙ ap (λ q. Ok (checked_of q.0 d (earlier ++ q.1 ∷ []))) (sym c.in-Ok.ensures.rule)
    ∙ ap (λ rs. Ok (checked_of c.rule.new.names d (rules_view rs ++ rule_view c.in-Ok.made ∷ []))) c.as_slice-2.ensures.value
    ∙ ap (λ rs. Ok (checked_of c.rule.new.names d rs)) (sym (ap rules_view c.in_ok-push-in-Ok.ensures.items ∙ map-append rule_view c.args.rules.now.items (c.in-Ok.made ∷ [])))

pub returns-in-Err-clause-refused : goal.returns-in-Err-clause-refused
returns-in-Err-clause-refused g c =
    let d = c.args.declared in
    let names = c.args.names.now in
    let r = syntax_rule c.args.written.now in
    let earlier = rules_view c.args.rules.now.items in
    let fault = subst (λ rs. IsFault c.in-Err.fault (error_in_rule names d (rules_view rs) r)) c.as_slice-2.ensures.value c.in-Err.ensures.refused in
    let number = c.count-number.ensures ∙ ap (λ rs. length (rules_view rs)) c.as_slice.ensures.value in
    let at = subst (λ n. IsPlaced c.in-Err.fault c.args.line (n + 1) c.error.result) number c.error.ensures in
    placed c.in-Err.fault (error_in_rule names d earlier r) c.args.line (length earlier + 1) c.error.result (with_rule (checked_of names d earlier) r) at fault
