use Rattle.std.proofs.Common.{◌≡◌, ◌∙◌, ◌&&◌, ◌==◌, ◌||◌, ◌++◌, ◌∷◌, ◌+◌, List, [], ap, arith, refl, subst, sym, take, ℕ}
use Rattle.std.proofs.lemmas.List.{take_all}
use Rattle.chr_semantics.specs.Match as semantics
use Rattle.chr_semantics.specs.Search.{History as Entries, fired_before, same_ids}
use Rattle.chr_store.specs.HistoryView.{fired_view, firings_view}
use Rattle.chr_store.specs.StoreView.{store_view}
use Rattle.chr_store.specs.declared.fired.Fired.{Fired}
use Rattle.chr_find.specs.Firings.{fired_in}
use Rattle.chr_find.specs.ScopeView.{entries_kept}
use Rattle.chr_find.specs.declared.firings.Firings.{Firings}
use Rattle.chr_find.proofs.Loops.{map_more}
use Rattle.chr_find.proofs.TakenFirings.{entry_left, entry_taken}
use Rattle.chr_find.proofs.snapshot_taking.add_firings.Goals as goal
use Rattle.chr_find.proofs.snapshot_taking.add_firings.Goals.{then-is_taken+in_ok-enter, else-is_taken}

pub loop-entry-preserved : goal.loop-entry-preserved
loop-entry-preserved g c =
    let rows : List semantics.Row = (store_view c.args.store.now).rows in
    let all : List Fired = c.list-entry-items.result.now in
    let k = c.loop-entry.entry-index in
    let f : Fired = c.entry-item.result in
    let so_far : Entries = firings_view (take k all) in
    let old = c.args.firings.now in
    let mid = c.loop-entry.firings in
    let more : firings_view (take (k + 1) all) ≡ so_far ++ fired_view f ∷ [] = map_more (λ (e : Fired). fired_view e) all k f (omega (arith, c.loop-entry-test.true)) ∙ ap (λ (e : Fired). so_far ++ fired_view e ∷ []) (sym c.entry-item.is) in
    let goes : Entries → Firings g.row.A.Denot → Type 0 = λ h n. (r : ℕ) (ids : List ℕ) → fired_in n r ids ≡ (fired_in old r ids || fired_before (entries_kept c.args.scope rows h) r ids) in
    let done : goes (so_far ++ fired_view f ∷ []) c.if-is_taken.firings =
    elim c.if-is_taken.branch [
      | then-is_taken+in_ok-enter w ↦ subst (goes (so_far ++ fired_view f ∷ [])) (sym w.firings-is) (
          λ r ids. entry_taken c.args.scope rows so_far (fired_view f) r ids (fired_in old r ids) (fired_in mid r ids) (fired_in w.enter.new.self r ids) (c.loop-entry.invariant r ids) (sym c.is_taken.ensures ∙ w.if-is_taken.true)
          (w.in_ok-enter.ensures.ok r ids ∙ ap (λ (e : Fired). fired_in mid r ids || r == e.rule && same_ids ids e.ids) w.fired.ensures)
          )
      | else-is_taken w ↦ subst (goes (so_far ++ fired_view f ∷ [])) (sym w.firings-is) (
          λ r ids. entry_left c.args.scope rows so_far (fired_view f) r ids (fired_in old r ids) (fired_in mid r ids) (fired_in mid r ids) (c.loop-entry.invariant r ids) (sym c.is_taken.ensures ∙ w.if-is_taken.false) refl
          )
    ]
    in
    subst (λ (h : Entries). goes h c.if-is_taken.firings) (sym more) done

pub returns : goal.returns
returns g c = λ r ids.
    let rows : List semantics.Row = (store_view c.args.store.now).rows in
    let all : List Fired = c.list-entry-items.result.now in
    c.loop-entry.invariant r ids
    ∙ ap (λ (h : Entries). fired_in c.args.firings.now r ids || fired_before (entries_kept c.args.scope rows h) r ids)
    (ap firings_view (take_all c.loop-entry.entry-index all (omega (arith, c.loop-entry-test.false))) ∙ c.list-entry-items.ensures)
