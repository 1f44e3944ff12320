use Rattle.std.proofs.Common.{◌≡◌, ◌∙◌, ◌==◌, Bool, List, ap, refl, false, not, subst, sym, true, ℕ}
use Rattle.std.specs.Prelude.{option_map}
use Rattle.std.proofs.lemmas.Bool.Decides.{Decides-eqb}
use Rattle.chr_map.proofs.Clauses.{if_more}
use Rattle.chr_rules.specs.ProgramView.{rules_of}
use Rattle.chr_semantics.specs.Match as semantics
use Rattle.chr_semantics.specs.Search.{first}
use Rattle.chr_semantics.specs.Snapshot.{found_in, tries_in}
use Rattle.chr_semantics.specs.Tries.{tries_bounds}
use Rattle.chr_store.specs.Rows.{row_atom}
use Rattle.chr_find.specs.Firings.{firing}
use Rattle.chr_find.specs.AnswerView.{IsAnswer}
use Rattle.chr_find.proofs.FiredHistory.{history_stands}
use Rattle.chr_find.proofs.NotDead.{live_not_dead}
use Rattle.chr_find.proofs.SnapshotGuest.{seen_other}
use Rattle.chr_find.proofs.snapshot.Snapshot.find.Goals as goal

was_true : (b : Bool) → false ≡ not b → b ≡ true
was_true true e = refl
was_true false e = cc

was_false : (b : Bool) → true ≡ not b → b ≡ false
was_false true e = cc
was_false false e = refl

pub returns-then-ne : goal.returns-then-ne
returns-then-ne g c =
    let s = c.args.self.now in
    let p = rules_of c.args.program.now in
    let i = c.args.task.goal.0 in
    let j = c.args.task.occurrence in
    if_more _ _ c.search.result c.search.ensures
    (λ found f q is.
    let other : (i == q.next_id) ≡ false = ap (λ (n : ℕ). i == n) is.next ∙ was_false _ c.if-ne.ensures in
    subst (λ (l : List semantics.Row). IsAnswer (first p l q.history i j) (tries_bounds p l q.history i j) found.ids found.tries) (sym (seen_other q i other))
    (f q.rows is.rows q.history (λ r ids live. is.history r ids (live_not_dead s.table s.next.0 ids live) ∙ sym (history_stands s.firings.all (firing r ids)))))

pub search-requires-clause-own : goal.search-requires-clause-own
search-requires-clause-own g c = c.args.self.now.whole.all c.args.task.goal.0

pub returns-in-Some : goal.returns-in-Some
returns-in-Some g c =
    let p = rules_of c.args.program.now in
    let s = c.args.self.now in
    let j = c.args.task.occurrence in
    let at : c.args.task.goal.0 ≡ s.next.0 = (Decides-eqb c.args.task.goal.0 s.next.0).0 (was_true _ c.if-ne.ensures) in
    if_more _ _ c.find_for_guest.result c.find_for_guest.ensures
    (λ found f q is. subst (λ (i : ℕ). IsAnswer (found_in p q (i, j)) (tries_in p q (i, j)) found.ids found.tries) (sym at) (f q is (is.guest ∙ ap (option_map row_atom) c.in-Some.is)))
