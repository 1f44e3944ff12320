use Rattle.std.proofs.Common.{◌≡◌, ◌∙◌, ◌+◌, Bool, List, [], ◌∷◌, length, cond, ℕ, ap, refl}
use Rattle.std.specs.List.{list_any}
use Rattle.std.proofs.Math.Path.{fun_ext}
use Rattle.chr_semantics.specs.Changes.{Store, rebound, touching}
use Rattle.chr_store.specs.Counts.{count_at}
use Rattle.chr_store.specs.Numbers.{numbers}
use Rattle.chr_store.specs.SlotsView.{rows_in}
use Rattle.chr_store.specs.StoreView.{store_view}
use Rattle.chr_store.specs.declared.id.Id.{Id}
use Rattle.chr_store.proofs.SlotRows.{Ascends-rows}
use Rattle.chr_store.proofs.Woken.{is_row_among, symbols_among}
use Rattle.chr_store.proofs.store.Store.rebound.Goals as goal

rebound_some : (s : Store) (ids : List Id) → (length ids ≡ 0 → ⊥) → touching (λ f. list_any (is_row_among f ids) s.rows) s ≡ rebound s (numbers ids)
rebound_some s [] h = absurd (h refl)
rebound_some s (i ∷ is) h = refl

pub returns : goal.returns
returns g c =
    let counts : (n : ℕ) → count_at c.raise_all.new.stamps.stamps.items n ≡ count_at c.args.self.now.stamps.stamps.items n + cond (list_any (is_row_among n c.args.ids.now) (rows_in c.args.self.now.slots)) 1 0 =
    λ n. c.raise_all.ensures.counts n ∙ ap (λ (b : Bool). count_at c.args.self.now.stamps.stamps.items n + cond b 1 0) (symbols_among n 1 (1 + length c.args.self.now.slots.items.items) (rows_in c.args.self.now.slots) c.args.ids.now (Ascends-rows 1 c.args.self.now.slots.items.items)) in
    let old : Store = store_view c.args.self.now in
    (λ i. record { rows = old.rows; next_id = old.next_id; stamps = fun_ext counts i; changes = old.changes + 1 }) ∙ rebound_some old c.args.ids.now c.if-ids-eq0.false
