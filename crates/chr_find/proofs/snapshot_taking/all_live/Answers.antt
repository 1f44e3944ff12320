use Rattle.std.proofs.Common.{◌≡◌, ◌∙◌, ◌<◌, ℕ, zero, suc, Bool, true, false, ◌&&◌, List, [], ◌∷◌, arith, get_or, length, refl, sym}
use Rattle.std.specs.List.{list_all}
use Rattle.std.specs.Prelude.{is_some}
use Rattle.chr_semantics.specs.Search.{atom_of}
use Rattle.chr_store.specs.Numbers.{numbers}
use Rattle.chr_store.specs.StoreView.{store_view}
use Rattle.chr_store.specs.declared.id.Id.{Id}
use Rattle.chr_find.proofs.snapshot_taking.all_live.Goals as goal

never : (b : Bool) → (b && false) ≡ false
never true = refl
never false = refl

-- a test that fails of one fails of all
one_fails : (p : ℕ → Bool) (ids : List Id) (k : ℕ) (d : Id) → k < length ids → p (get_or ids k d).0 ≡ false → list_all p (numbers ids) ≡ false
one_fails p [] k d lt e = absurd (omega (arith, lt))
one_fails p (x ∷ ids) zero d lt e = rw e refl
one_fails p (x ∷ ids) (suc k) d lt e = rw (one_fails p ids k d (omega (arith, lt)) e) (never (p x.0))

pub returns-then-not-alive : goal.returns-then-not-alive
returns-then-not-alive g c = sym (one_fails (λ i. is_some (atom_of (store_view c.args.store.now).rows i)) c.args.ids.now c.loop-id.id-index _ (omega (arith, c.loop-id-test.true)) (sym c.alive.ensures ∙ cc (c.if-not-alive.ensures)))
