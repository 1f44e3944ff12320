use Rattle.std.proofs.Common.{◌≡◌, ◌∙◌, ◌==◌, ◌++◌, ◌∷◌, ◌≤◌, [], List, None, Option, Some, ap, arith, cond, refl, subst, sym, ℕ}
use Rattle.chr_map.proofs.Clauses.{if_more}
use Rattle.chr_rules.specs.ProgramView.{rules_of}
use Rattle.chr_semantics.specs.Match as semantics
use Rattle.chr_semantics.specs.Program.{Atom}
use Rattle.chr_semantics.specs.Search.{atom_of, first}
use Rattle.chr_semantics.specs.Tries.{tries_bounds}
use Rattle.chr_store.specs.Rows.{row_atom}
use Rattle.chr_find.specs.Firings.{firing}
use Rattle.chr_find.specs.AnswerView.{IsAnswer}
use Rattle.chr_find.specs.TableView.{HasRows, atom_at}
use Rattle.chr_find.proofs.FiredHistory.{history_stands}
use Rattle.chr_find.proofs.NotDead.{guest_not_dead}
use Rattle.chr_find.proofs.SnapshotGuest.{looked_guest, rises_guest, seen_guest}
use Rattle.chr_find.proofs.snapshot.Snapshot.find_for_guest.Goals as goal

pub returns : goal.returns
returns g c =
    let s = c.args.self.now in
    let p = rules_of c.args.program.now in
    let i = s.next.0 in
    let j = c.args.occurrence in
    let a : Atom = row_atom c.args.guest.now in
    let t = c.in_ok-table.table in
    if_more _ _ c.search.result c.search.ensures
    (λ found f q is has_guest.
    let here : i ≡ q.next_id = sym is.next in
    let free : (k : ℕ) → q.next_id ≤ k → atom_of q.rows k ≡ None = λ k le. is.rows.same k ∙ s.free k (omega (arith, le, is.next)) in
    let rows : List semantics.Row = q.rows ++ (q.next_id, a) ∷ [] in
    let same : (k : ℕ) → atom_of rows k ≡ atom_at t k =
    λ k. looked_guest q.rows q.next_id k a (free q.next_id (omega arith))
    ∙ (ap (λ (n : ℕ). cond (k == n) (Some a) (atom_of q.rows k)) (sym here)
    ∙ (ap (λ (o : Option Atom). cond (k == i) (Some a) o) (is.rows.same k)
    ∙ sym (c.in_ok-table.ensures.atoms k)))
    in
    let has : HasRows t rows = record { rises = rises_guest q.next_id a q.rows is.rows.rises free; same = same } in
    subst (λ (l : List semantics.Row). IsAnswer (first p l q.history i j) (tries_bounds p l q.history i j) found.ids found.tries) (sym (seen_guest q i a here has_guest))
    (f rows has q.history (λ r ids live. is.history r ids (guest_not_dead s.table s.next.0 t i a refl c.in_ok-table.ensures.atoms ids live) ∙ sym (history_stands s.firings.all (firing r ids)))))
