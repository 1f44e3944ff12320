use Rattle.std.proofs.Common.{◌≡◌, ◌∙◌, ◌+◌, Option, Some, ap, subst, sym, ℕ}
use Rattle.std.specs.Prelude.{slice_get}
use Rattle.chr_rules.specs.ProgramView.{rules_of}
use Rattle.chr_rules.specs.RuleView.{rule_view}
use Rattle.chr_semantics.specs.Program.{Atom, Rule}
use Rattle.chr_semantics.specs.Search.{atom_of}
use Rattle.chr_semantics.specs.Tries.{capped, tried_tuples}
use Rattle.chr_store.specs.Rows.{row_atom}
use Rattle.chr_store.specs.declared.row.Row.{Row}
use Rattle.chr_find.specs.TableView.{IsFor, atom_at}
use Rattle.chr_find.proofs.FoundLaw.{answered, occurrence_is}
use Rattle.chr_find.proofs.OwnSearch.{first_own, tried_own}
use Rattle.chr_semantics.proofs.OccurrenceRule.{occurrence_rule}
use Rattle.chr_find.proofs.task_search.search.Goals as goal

some_rule : (x y : Rule) → ◌≡◌ {A = Option Rule} (Some x) (Some y) → x ≡ y
some_rule x y e = cc

pub first-requires-clause-own : goal.first-requires-clause-own
first-requires-clause-own g c = subst (λ (n : ℕ). IsFor n c.args.table.now) (ap (λ x. x.0) (sym c.at-active.ensures.id)) c.requires.own

pub first-requires-clause-row : goal.first-requires-clause-row
first-requires-clause-row g c = ap (atom_at c.args.table.now) (ap (λ x. x.0) c.at-active.ensures.id) ∙ sym c.in-Some.ensures

pub returns : goal.returns
returns g c = λ rows has h alike.
    let p = rules_of c.args.program.now in
    let i = c.args.task.goal.0 in
    let j = c.args.task.occurrence in
    let row : Row g.row.A.Denot = c.in-Some.row.now in
    let a : Atom = row_atom row in
    let at : atom_of rows i ≡ Some a = has.same i ∙ sym c.in-Some.ensures in
    let w = occurrence_is p a.sym j c.in-Some-occurrence.occurrence c.in-Some-occurrence.ensures.found in
    let s = c.at-active.result in
    let same : rule_view s.rule.now ≡ w.o.rule = some_rule (rule_view s.rule.now) w.o.rule (sym c.at-active.ensures.rule ∙ (ap (slice_get p) (sym w.number) ∙ occurrence_rule p a.sym j w.o w.is)) in
    let id : s.id.0 ≡ i = ap (λ x. x.0) c.at-active.ensures.id in
    let there : atom_at c.args.table.now s.id.0 ≡ Some a = ap (atom_at c.args.table.now) id ∙ sym c.in-Some.ensures in
    let k = g.P.FiringHistory.history c.args.past.now in
    let f = c.in_ok-ids.ensures rows has a there in
    let y = answered p rows h i j a at w.o w.is s.number (rule_view s.rule.now) s.place s.id.0 c.first.new.tried.lists c.in_ok-ids.ids (c.at-active.ensures.number ∙ sym w.number) same (c.at-active.ensures.place ∙ sym w.place) id
    (first_own c.args.table.now s rows has k h alike a there c.in_ok-ids.ids f.0) (tried_own c.args.table.now s rows has k h alike a there 0 c.first.new.tried.lists (subst (λ (n : ℕ). c.first.new.tried.lists ≡ capped (n + tried_tuples rows k s.number (rule_view s.rule.now) s.place (s.id.0, a))) c.nothing-tried.ensures.lists f.1)) in
    record { ids_are = y.0; least = y.1.0; most = y.1.1 }
