use Rattle.std.proofs.Common.{◌≡◌, ◌∙◌, Option, Some, ap, subst, sym}
use Rattle.std.specs.Prelude.{option_and_then, slice_get}
use Rattle.chr_rules.specs.ProgramView.{rules_of}
use Rattle.chr_rules.specs.RuleView.{rule_view}
use Rattle.chr_semantics.specs.Program.{Atom, Occurrence, Rule, occurrence}
use Rattle.chr_store.specs.Rows.{row_atom}
use Rattle.chr_find.specs.ScopeView.{IsScope}
use Rattle.chr_find.specs.declared.scope.Scope.TheVariants as scope
use Rattle.chr_find.proofs.FoundLaw.{occurrence_is}
use Rattle.chr_semantics.proofs.OccurrenceRule.{occurrence_rule}
use Rattle.chr_find.proofs.snapshot_taking.scope_of.Goals as goal

some_rule : (x y : Rule) → ◌≡◌ {A = Option Rule} (Some x) (Some y) → x ≡ y
some_rule x y e = cc

pub returns-in-Some-occurrence : goal.returns-in-Some-occurrence
returns-in-Some-occurrence g c =
    let p = rules_of c.args.program.now in
    let j = c.args.task.occurrence in
    let a : Atom = row_atom c.in-Some.row.now in
    let w = occurrence_is p a.sym j c.in-Some-occurrence.occurrence c.in-Some-occurrence.ensures.found in
    let same : rule_view c.rule.result.now ≡ w.o.rule = some_rule (rule_view c.rule.result.now) w.o.rule (sym c.rule.ensures.is ∙ (ap (slice_get p) (sym w.number) ∙ occurrence_rule p a.sym j w.o w.is)) in
    subst (λ (o : Option Occurrence). IsScope o (scope.Rule c.in-Some-occurrence.occurrence.rule c.rule.result))
    (sym (ap (option_and_then (λ (b : Atom). occurrence p b.sym j)) (sym c.in-Some.ensures) ∙ w.is)) (sym w.number, same)
