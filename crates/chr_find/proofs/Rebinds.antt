-- Rows that are replaced one after the other, from the last on.
use Rattle.std.proofs.Common.{◌≡◌, ◌∙◌, ◌==◌, ◌<◌, ℕ, Bool, cond, List, [], ◌∷◌, ◌++◌, ap, subst, sym, arith, length, ◌+◌}
use Rattle.std.proofs.lemmas.List.{length-append}
use Rattle.std.specs.Prelude.{Option, Some}
use Rattle.std.proofs.lemmas.Bool.{ne_eqb}
use Rattle.chr_semantics.proofs.Tests.{eqb_sym}
use Rattle.chr_semantics.specs.Match as semantics
use Rattle.chr_semantics.specs.Program.{Atom}
use Rattle.chr_store.specs.Rows.{row_atom}
use Rattle.chr_find.specs.Rebinding.{AreThere, Replaces, new_rows, over}
use Rattle.chr_find.specs.Shown.{AllOver, Rises}
use Rattle.chr_find.specs.TableView.{atoms_with}
use Rattle.chr_find.specs.declared.rebinding.Replaced.{Replaced}

over_alike : (rows : List semantics.Row) (f g : ℕ → Option Atom) (i : ℕ) → f i ≡ g i → over rows f i ≡ over rows g i
over_alike [] f g i e = e
over_alike (c ∷ rows) f g i e = ap (λ (o : Option Atom). cond (c.0 == i) (Some c.1) o) (over_alike rows f g i e)

apart : (x y : ℕ) (o p : Option Atom) → x < y → cond (x == y) o p ≡ p
apart x y o p lt = ap (λ (b : Bool). cond b o p) (ne_eqb x y (λ e. omega (arith, lt, e)))

module _ {A : Type 0} where
  -- the last one, and then those before it
  over_last : (rs : List (Replaced A)) (r : Replaced A) (f : ℕ → Option Atom) (i : ℕ) → over (new_rows (rs ++ r ∷ [])) f i ≡ over (new_rows rs) (atoms_with f r.id.0 (Some (row_atom r.new))) i
  over_last [] r f i = ap (λ (b : Bool). cond b (Some (row_atom r.new)) (f i)) (eqb_sym r.id.0 i)
  over_last (x ∷ rs) r f i = ap (λ (o : Option Atom). cond (x.id.0 == i) (Some (row_atom x.new)) o) (over_last rs r f i)

  last_over : (n : ℕ) (rs : List (Replaced A)) (r : Replaced A) → AllOver n (new_rows (rs ++ r ∷ [])) → n < r.id.0
  last_over n [] r h = h.0
  last_over n (x ∷ rs) r h = last_over n rs r h.1

  over_before : (n : ℕ) (rs : List (Replaced A)) (r : Replaced A) → AllOver n (new_rows (rs ++ r ∷ [])) → AllOver n (new_rows rs)
  over_before n [] r h = tt
  over_before n (x ∷ rs) r h = (h.0, over_before n rs r h.1)

  rises_before : (rs : List (Replaced A)) (r : Replaced A) → Rises (new_rows (rs ++ r ∷ [])) → Rises (new_rows rs)
  rises_before [] r up = tt
  rises_before (x ∷ rs) r up = (over_before x.id.0 rs r up.0, rises_before rs r up.1)

  there_last : (f : ℕ → Option Atom) (rs : List (Replaced A)) (r : Replaced A) → AreThere f (rs ++ r ∷ []) → f r.id.0 ≡ Some (row_atom r.old)
  there_last f [] r h = h.0
  there_last f (x ∷ rs) r h = there_last f rs r h.1

  there_before : (f g : ℕ → Option Atom) (o : Option Atom) (rs : List (Replaced A)) (r : Replaced A) → ((i : ℕ) → g i ≡ atoms_with f r.id.0 o i) → Rises (new_rows (rs ++ r ∷ [])) → AreThere f (rs ++ r ∷ []) → AreThere g rs
  there_before f g o [] r e up h = tt
  there_before f g o (x ∷ rs) r e up h = (e x.id.0 ∙ (apart x.id.0 r.id.0 o (f x.id.0) (last_over x.id.0 rs r up.0) ∙ h.0), there_before f g o rs r e up.1 h.1)

  -- what is left to be replaced, where the constraints were f and are g
  pub record IsOn (f g : ℕ → Option Atom) (left all : List (Replaced A)) : Type 0 where
    pub sees : (i : ℕ) → over (new_rows left) g i ≡ over (new_rows all) f i
    pub replaces : Replaces g left

  module _ (f g : ℕ → Option Atom) (left all rs : List (Replaced A)) (r : Replaced A) (on : IsOn f g left all) (is : left ≡ rs ++ r ∷ []) where
    replaces : Replaces g (rs ++ r ∷ [])
    replaces = subst (Replaces g) is on.replaces

    pub last_there : g r.id.0 ≡ Some (row_atom r.old)
    last_there = there_last g rs r replaces.there

    pub next_on : (h : ℕ → Option Atom) → ((i : ℕ) → h i ≡ atoms_with g r.id.0 (Some (row_atom r.new)) i) → IsOn f h rs all
    next_on h e = record {
      sees = λ i. over_alike (new_rows rs) h (atoms_with g r.id.0 (Some (row_atom r.new))) i (e i) ∙ (sym (over_last rs r g i) ∙ (ap (λ (l : List (Replaced A)). over (new_rows l) g i) (sym is) ∙ on.sees i));
      replaces = record { rises = rises_before rs r replaces.rises; there = there_before g h (Some (row_atom r.new)) rs r e replaces.rises replaces.there };
    }

  pub none_left : (f g : ℕ → Option Atom) (left all : List (Replaced A)) → IsOn f g left all → length left ≡ 0 → (i : ℕ) → g i ≡ over (new_rows all) f i
  none_left f g [] all on e i = on.sees i
  none_left f g (r ∷ left) all on e i = absurd (omega (arith, e))

  pub one_less : (left rs : List (Replaced A)) (r : Replaced A) → left ≡ rs ++ r ∷ [] → length left ≡ length rs + 1
  one_less left rs r e = ap (λ (l : List (Replaced A)). length l) e ∙ length-append rs (r ∷ [])
