use Rattle.std.proofs.Common.{◌∙◌, ◌+◌, ℕ, List, [], ap, length, map, subst, sym}
use Rattle.chr_semantics.specs.Checked.{first_of}
use Rattle.chr_semantics.specs.Meaning.{Scope, all_heads, head_from, in_turn, kept_count, label_of, scope}
use Rattle.chr_semantics.specs.Names.{Names}
use Rattle.chr_semantics.specs.Program.{Goal, Head, Rule, Test}
use Rattle.chr_read.specs.SyntaxView.{rule_view as syntax_rule}
use Rattle.chr_bind.specs.Guards.{test_view}
use Rattle.chr_rules.specs.Checks.{IsFault, guard_and_body_from, too_many, wrong_beside_items}
use Rattle.chr_rules.specs.Heads.{heads_of}
use Rattle.chr_rules.specs.RuleView.{goal_view, rules_view}
use Rattle.chr_rules.proofs.Each.{err_answers}
use Rattle.chr_rules.proofs.Ruled.{last_decides, memory_refused, rule_made, rule_refused}
use Rattle.chr_rules.proofs.rules.rule_beside_items.Goals as goal

pub returns-in-Some-clause-refused : goal.returns-in-Some-clause-refused
returns-in-Some-clause-refused g c =
    let r = syntax_rule c.args.written.now in
    let heads = c.in_ok-heads.ensures.heads ∙ ap (λ vs. in_turn head_from (scope c.args.names.now vs, []) (all_heads r)) c.requires in
    λ _. rule_refused c.args.names.now (rules_view c.args.earlier.now) r c.heads.new.variables c.in-Some.fault (ap (λ q. q.0.variables) heads) c.in-Some.ensures

pub returns-in_err-made-clause-refused : goal.returns-in_err-made-clause-refused
returns-in_err-made-clause-refused g c =
    let r = syntax_rule c.args.written.now in
    let names = c.args.names.now in
    let earlier = rules_view c.args.earlier.now in
    let hs : Scope × List Head = (scope c.heads.new.names c.heads.new.variables, heads_of c.in_ok-heads.heads) in
    let heads = c.in_ok-heads.ensures.heads ∙ ap (λ vs. in_turn head_from (scope names vs, []) (all_heads r)) c.requires in
    let decides = last_decides names earlier r hs heads c.in_default.ensures in
    let fault = c.in_err-made.field-0.0 in
    err_answers c.from_residual-in_err-made.result fault (λ f. IsFault f (first_of (wrong_beside_items names earlier r))) c.from_residual-in_err-made.ensures.1
    (subst (IsFault fault) (sym decides) c.in_err-made.ensures.refused)

pub returns-clause-accepted : goal.returns-clause-accepted
returns-clause-accepted g c =
    let r = syntax_rule c.args.written.now in
    let names = c.args.names.now in
    let earlier = rules_view c.args.earlier.now in
    let hs : Scope × List Head = (scope c.heads.new.names c.heads.new.variables, heads_of c.in_ok-heads.heads) in
    let heads = c.in_ok-heads.ensures.heads ∙ ap (λ vs. in_turn head_from (scope names vs, []) (all_heads r)) c.requires in
    last_decides names earlier r hs heads c.in_default.ensures ∙ ap (λ q. first_of (too_many (length q.0.variables))) (sym c.in_ok-made.ensures.made) ∙ c.in_ok-made.ensures.few

pub returns-clause-rule : goal.returns-clause-rule
returns-clause-rule g c =
    let r = syntax_rule c.args.written.now in
    let names = c.args.names.now in
    let earlier = rules_view c.args.earlier.now in
    let hs : Scope × List Head = (scope c.heads.new.names c.heads.new.variables, heads_of c.in_ok-heads.heads) in
    let bs : Scope × List Test × List Goal = (scope c.guard_and_body.new.names c.guard_and_body.new.variables, map test_view c.in_ok-made.made.0.items, map goal_view c.in_ok-made.made.1.items) in
    let heads = c.in_ok-heads.ensures.heads ∙ ap (λ vs. in_turn head_from (scope names vs, []) (all_heads r)) c.requires in
    let k = length earlier + 1 in
    let whole : List ℕ → ℕ → ℕ → ℕ → Names × Rule =
    λ l kept head_vars vars. (c.guard_and_body.new.names, record { label = l; kept = kept; heads = hs.1; guard = bs.1; body = bs.2; head_vars = head_vars; vars = vars }) in
    let label = c.in_ok-label.ensures ∙ ap (λ n. label_of (n + 1) r.label) c.count.ensures in
    ap (λ l. whole l c.kept_count.result c.len-head_vars.result c.len.result) label
    ∙ ap (λ n. whole (label_of k r.label) n c.len-head_vars.result c.len.result) c.kept_count.ensures
    ∙ ap (λ n. whole (label_of k r.label) (kept_count r) n c.len.result) c.len-head_vars.ensures
    ∙ ap (whole (label_of k r.label) (kept_count r) (length hs.0.variables)) c.len.ensures
    ∙ rule_made names k r hs bs heads c.in_ok-made.ensures.made

pub returns-in_err-label-clause-refused : goal.returns-in_err-label-clause-refused
returns-in_err-label-clause-refused g c =
    memory_refused c.from_residual-in_err-label.result (first_of (wrong_beside_items c.args.names.now (rules_view c.args.earlier.now) (syntax_rule c.args.written.now))) c.from_residual-in_err-label.ensures.1

-- each head has its flag
pub invariant_of-result : goal.invariant_of-result
invariant_of-result g c = record { flagged = c.in_ok-heads.ensures.flagged }
