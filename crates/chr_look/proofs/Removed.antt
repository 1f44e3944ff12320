-- The first firing that removes a constraint.
use Rattle.std.proofs.Common.{◌≡◌, ◌∙◌, ◌<◌, ◌≤◌, ◌+◌, ◌∷◌, [], List, None, Option, Some, add-one, ap, arith, cond, drop, false, get_or, length, map, refl, suc, sym, true, zero, ℕ}
use Rattle.std.proofs.lemmas.List.{length-map}
use Rattle.std.proofs.lemmas.Option.{slice_get_read}
use Rattle.std.specs.Prelude.{option_and_then, slice_get}
use Rattle.chr_semantics.specs.Program.{Program}
use Rattle.chr_semantics.specs.Search.{History}
use Rattle.chr_store.specs.HistoryView.{fired_view, firings_view}
use Rattle.chr_store.specs.declared.fired.Fired.{Fired}
use Rattle.chr_look.specs.Logs.{removal, removes_of}

pub removal_at : (p : Program) (ks : List ℕ) (h : History) (i n : ℕ) (f : ℕ × List ℕ) → slice_get h n ≡ Some f → length ks ≡ length h
    → removal p (drop n ks) (drop n h) i ≡ removes_of (slice_get p f.0) f.1 i (slice_get ks n) (removal p (drop (n + 1) ks) (drop (n + 1) h) i)
removal_at p ks h i n f is e = by_suc ks h n is e ∙ ap (λ m. removes_of (slice_get p f.0) f.1 i (slice_get ks n) (removal p (drop m ks) (drop m h) i)) (sym (add-one n))
  where
    by_suc : (ks : List ℕ) (h : History) (n : ℕ) → slice_get h n ≡ Some f → length ks ≡ length h
        → removal p (drop n ks) (drop n h) i ≡ removes_of (slice_get p f.0) f.1 i (slice_get ks n) (removal p (drop (suc n) ks) (drop (suc n) h) i)
    by_suc [] [] n is e = cc
    by_suc [] (g ∷ h) n is e = cc
    by_suc (k ∷ ks) [] n is e = cc
    by_suc (k ∷ ks) (g ∷ h) zero is e = let same : g ≡ f = cc in ap (λ (x : ℕ × List ℕ). removes_of (slice_get p x.0) x.1 i (Some k) (removal p ks h i)) same
    by_suc (k ∷ ks) (g ∷ h) (suc n) is e = by_suc ks h n is (omega (arith, e))

pub removal_past : (p : Program) (ks : List ℕ) (h : History) (i n : ℕ) → length h ≤ n → length ks ≡ length h → removal p (drop n ks) (drop n h) i ≡ None
removal_past p [] [] i zero l e = refl
removal_past p [] [] i (suc n) l e = refl
removal_past p [] (g ∷ h) i n l e = cc
removal_past p (k ∷ ks) [] i n l e = cc
removal_past p (k ∷ ks) (g ∷ h) i zero l e = absurd (omega (arith, l))
removal_past p (k ∷ ks) (g ∷ h) i (suc n) l e = removal_past p ks h i n (omega (arith, l)) (omega (arith, e))

-- what stands at a place of a list that is made of another
pub mapped_at : {X Y : Type 0} (f : X → Y) (xs : List X) (n : ℕ) (x : X) → slice_get xs n ≡ Some x → slice_get (map f xs) n ≡ Some (f x)
mapped_at f [] n x e = cc
mapped_at f (y ∷ ys) zero x e = let same : y ≡ x = cc in ap (λ z. Some (f z)) same
mapped_at f (y ∷ ys) (suc n) x e = mapped_at f ys n x e

-- of firings that were looked at from the last one down, the n-th of which is e, by the place that is kept for a constraint
pub looked_down : (p : Program) (h : History) (i n : ℕ) (e : ℕ × List ℕ) (old new : Option ℕ) → slice_get h n ≡ Some e
    → ((ks : List ℕ) → length ks ≡ length h → removal p (drop (n + 1) ks) (drop (n + 1) h) i ≡ option_and_then (slice_get ks) old)
    → ((ks : List ℕ) → option_and_then (slice_get ks) new ≡ removes_of (slice_get p e.0) e.1 i (slice_get ks n) (option_and_then (slice_get ks) old))
    → (ks : List ℕ) → length ks ≡ length h → removal p (drop n ks) (drop n h) i ≡ option_and_then (slice_get ks) new
looked_down p h i n e old new is before more ks l =
    removal_at p ks h i n e is l ∙ ap (λ later. removes_of (slice_get p e.0) e.1 i (slice_get ks n) later) (before ks l) ∙ sym (more ks)

pub dropped : {X : Type 0} (k j : ℕ) (x : X) (xs : List X) → j + 1 ≡ k → drop k (x ∷ xs) ≡ drop j xs
dropped k j x xs e = ap (λ m. drop m (x ∷ xs)) (sym e ∙ add-one j)

-- the firing at a place, as its rule and identities
pub firing_there : (es : List Fired) (n : ℕ) (e : Fired) → n < length es → e ≡ get_or es n e → slice_get (firings_view es) n ≡ Some (fired_view e)
firing_there es n e here is = mapped_at fired_view es n e (slice_get_read es (length es) n e refl here is)
