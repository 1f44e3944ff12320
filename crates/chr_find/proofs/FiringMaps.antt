-- Firings in a map.
use Rattle.std.proofs.Common.{◌≡◌, ◌∙◌, ◌==◌, ◌&&◌, ◌||◌, ℕ, Bool, true, false, cond, List, ap, refl, sym}
use Rattle.std.specs.Prelude.{Option, Some, is_some}
use Rattle.std.specs.Ordering.{is_eq}
use Rattle.std.specs.Bool.{Decides}
use Rattle.std.proofs.lemmas.Bool.Decides.{Decides-and, Decides-eqb, Decides-like}
use Rattle.std.proofs.lemmas.Slice.Eq.{slice_eq-Decides}
use Rattle.chr_map.specs.Order.{entry_put, value_of}
use Rattle.chr_map.proofs.Lookups.{value_of-put}
use Rattle.chr_semantics.specs.Search.{same_ids}
use Rattle.chr_store.specs.FiredLaws.{same_fired}
use Rattle.chr_store.specs.contracts.fired.FiredOrd.TheImpl.Laws.{matches_eq-law, total-law}
use Rattle.chr_store.specs.declared.fired.Fired.{Fired}
use Rattle.chr_find.specs.Firings.{fired_cmp, firing, is_in}

-- firings that are the same are equal
pub same_Decides : (f g : Fired) → Decides (same_fired f g) (f ≡ g)
same_Decides f g =
    Decides-like (same_fired f g) (λ e i. record { rule = e.0 i; ids = e.1 i }) (λ e. (ap (λ (x : Fired). x.rule) e, ap (λ (x : Fired). x.ids) e))
    (Decides-and (f.rule == g.rule) _ (Decides-eqb f.rule g.rule) (slice_eq-Decides Decides-eqb f.ids g.ids _ refl))

some_if : (b : Bool) (o : Option (Unit {0})) → is_some (cond b (Some tt) o) ≡ cond b true (is_some o)
some_if true o = refl
some_if false o = refl

-- one firing more
pub in_put : (es : List (Fired × Unit {0})) (g : Fired) (f : Fired) → is_in (entry_put fired_cmp es g tt) f ≡ cond (same_fired f g) true (is_in es f)
in_put es g f =
    ap is_some (value_of-put fired_cmp total-law es g tt f) ∙ (some_if (is_eq (fired_cmp f g)) (value_of fired_cmp es f) ∙ ap (λ (b : Bool). cond b true (is_in es f)) (sym (matches_eq-law f g)))

is_it : (same was : Bool) → cond same true was ≡ (was || same)
is_it true true = refl
is_it true false = refl
is_it false true = refl
is_it false false = refl

-- the same of a rule with its identities
pub one_more : (f : Fired) (r : ℕ) (ids : List ℕ) (was : Bool) → cond (same_fired (firing r ids) f) true was ≡ (was || (r == f.rule && same_ids ids f.ids))
one_more f r ids was = is_it (r == f.rule && same_ids ids f.ids) was
