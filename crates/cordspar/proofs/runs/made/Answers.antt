use Rattle.std.proofs.Common.{◌≡◌, ◌∙◌, Bool, ap, subst, sym}
use Rattle.chr_semantics.specs.Names.{Names}
use Rattle.chr_semantics.specs.Outcome as semantics
use Rattle.chr_semantics.specs.Outcome.{outcome_after}
use Rattle.chr_semantics.specs.Program as program
use Rattle.chr_machine.specs.OutcomeView.{outcome_view}
use Rattle.chr_rules.specs.ProgramView.{names_of, rules_of}
use Rattle.embedding.specs.SessionView.{IsAnswer, session_program, session_view}
use Rattle.cordspar.specs.Calls.{IsMade, status_code}
use Rattle.cordspar.specs.Runs.{IsRunOf}
use Rattle.cordspar.specs.declared.held.Held.{Held}
use Rattle.cordspar.specs.declared.held.Held.TheVariants as held
use Rattle.cordspar.proofs.runs.made.Goals as goal

pub returns-in-Ok-handled-clause-made : goal.returns-in-Ok-handled-clause-made
returns-in-Ok-handled-clause-made c =
    let old = c.in-Program.session in
    let new = c.ask.new.self in
    let names : Names = names_of (session_program new) in
    let text = c.args.query.now in
    let n = c.args.budget in
    let traced : Bool = c.args.is_traced in
    let run = c.in-Ok-run_of.run' in
    let answer : IsAnswer (session_view old) text n names c.in-Ok.outcome = c.in-Ok.ensures.answered in
    let rules : rules_of c.program.result.now ≡ (session_view old).rules = ap rules_of c.program.ensures ∙ ap (λ v. v.rules) c.in-Ok.ensures.same in
    let is : IsRunOf names (session_view old).rules (outcome_after names (session_view old).rules answer.query n) traced run =
    subst (λ (o : semantics.Outcome). IsRunOf names (session_view old).rules o traced run) answer.outcome_is
    (subst (λ (r : program.Program). IsRunOf names r (outcome_view c.in-Ok.outcome) traced run) rules
    (subst (λ (m : Names). IsRunOf m (rules_of c.program.result.now) (outcome_view c.in-Ok.outcome) traced run) (ap names_of c.program.ensures) c.in-Ok-run_of.ensures))
    in
    let code = c.status_code-code.result in
    let made : IsMade (held.Program old) (held.Program new) text n traced code (held.Run run) =
    record { few = answer.few; query = answer.query; is_query = answer.is_query; run = is; code_is = c.status_code-code.ensures ∙ ap status_code is.status } in
    subst (λ (h : Held). IsMade h (held.Program new) text n traced code c.in-Ok-handled.handle.value.value) (sym c.in-Program.is)
    (subst (λ (r : Held). IsMade (held.Program old) (held.Program new) text n traced code r) (sym c.in-Ok-handled.ensures) made)
