-- The newest constraint, beside those of the lists.
use Rattle.std.proofs.Common.{◌≡◌, ◌∙◌, ◌==◌, ℕ, suc, Bool, true, false, cond, Option, Some, None, ap, arith, refl, sym}
use Rattle.std.proofs.lemmas.Bool.Decides.{Decides-eqb}
use Rattle.chr_semantics.specs.Program.{Atom}
use Rattle.chr_store.specs.Rows.{row_atom}
use Rattle.chr_find.specs.Newest.{IsApart, IsNot, with_newest}
use Rattle.chr_find.specs.TableView.{IsForAll, atoms_with}
use Rattle.chr_find.specs.declared.constraint.Constraint.{Constraint}
use Rattle.chr_find.specs.declared.table.Table.{Table}

module _ {A : Type 0} where
  none_some : (s : Constraint A) → ◌≡◌ {A = Option (Constraint A)} None (Some s) → ⊥
  none_some s e = cc

  some_same : (s r : Constraint A) → ◌≡◌ {A = Option (Constraint A)} (Some s) (Some r) → s ≡ r
  some_same s r e = cc

  -- the same constraints in the lists
  pub newest_alike : (o : Option (Constraint A)) (f g : ℕ → Option Atom) → ((i : ℕ) → g i ≡ f i) → (i : ℕ) → with_newest o g i ≡ with_newest o f i
  newest_alike None f g same i = same i
  newest_alike (Some s) f g same i = ap (λ (x : Option Atom). cond (i == s.id.0) (Some (row_atom s.row)) x) (same i)

  pub apart_alike : (o : Option (Constraint A)) (f g : ℕ → Option Atom) → ((i : ℕ) → g i ≡ f i) → IsApart o f → IsApart o g
  apart_alike o f g same apart s e = same s.id.0 ∙ apart s e

  -- there is none
  pub newest_none : (o : Option (Constraint A)) (f : ℕ → Option Atom) (i : ℕ) → o ≡ None → with_newest o f i ≡ f i
  newest_none o f i e = ap (λ (x : Option (Constraint A)). with_newest x f i) e

  pub apart_none : (o : Option (Constraint A)) (f : ℕ → Option Atom) → o ≡ None → IsApart o f
  apart_none o f none s e = absurd (none_some s (sym none ∙ e))

  pub none_for : (t : Table A) → t.newest ≡ None → IsForAll t
  none_for t none own s e = absurd (none_some s (sym none ∙ e))

  pub for_all : (t : Table A) → IsForAll t → t.newest ≡ None
  for_all t all = by_case t.newest refl
    where
      by_case : (o : Option (Constraint A)) → t.newest ≡ o → o ≡ None
      by_case None e = refl
      by_case (Some s) e = let same = all (suc s.id.0) s e in absurd (omega (arith, same))

  -- it is put into the lists
  pub newest_listed : (o : Option (Constraint A)) (s : Constraint A) (f g : ℕ → Option Atom) → o ≡ Some s → ((i : ℕ) → g i ≡ atoms_with f s.id.0 (Some (row_atom s.row)) i) → (i : ℕ) → g i ≡ with_newest o f i
  newest_listed o s f g e put i = put i ∙ ap (λ (x : Option (Constraint A)). with_newest x f i) (sym e)

  -- it is taken away
  pub newest_gone : (o : Option (Constraint A)) (s : Constraint A) (n : ℕ) (f : ℕ → Option Atom) → o ≡ Some s → s.id.0 ≡ n → IsApart o f → (i : ℕ) → f i ≡ atoms_with (with_newest o f) n None i
  newest_gone o s n f e is apart i = by_test (i == n) refl
    where
      by_test : (b : Bool) → (i == n) ≡ b → f i ≡ cond b None (with_newest o f i)
      by_test true at = ap f ((Decides-eqb i n).0 at ∙ sym is) ∙ apart s e
      by_test false at =
          sym (ap (λ (x : Option (Constraint A)). with_newest x f i) e ∙ ap (λ (b : Bool). cond b (Some (row_atom s.row)) (f i)) (ap (λ (k : ℕ). i == k) is ∙ at))

  -- it stays where another is taken out
  pub newest_stays : (o : Option (Constraint A)) (n : ℕ) (f : ℕ → Option Atom) → IsNot o n → (i : ℕ) → with_newest o (atoms_with f n None) i ≡ atoms_with (with_newest o f) n None i
  newest_stays None n f other i = refl
  newest_stays (Some s) n f other i = by_tests (i == s.id.0) (i == n) refl refl
    where
      by_tests : (b c : Bool) → (i == s.id.0) ≡ b → (i == n) ≡ c → cond b (Some (row_atom s.row)) (cond c None (f i)) ≡ cond c None (cond b (Some (row_atom s.row)) (f i))
      by_tests true true at here = absurd (other s refl (sym ((Decides-eqb i s.id.0).0 at) ∙ (Decides-eqb i n).0 here))
      by_tests true false at here = refl
      by_tests false true at here = refl
      by_tests false false at here = refl

  pub apart_without : (o : Option (Constraint A)) (n : ℕ) (f g : ℕ → Option Atom) → IsNot o n → ((i : ℕ) → g i ≡ atoms_with f n None i) → IsApart o f → IsApart o g
  apart_without o n f g other same apart s e = same s.id.0 ∙ by_test (s.id.0 == n)
    where
      by_test : (b : Bool) → cond b None (f s.id.0) ≡ None
      by_test true = refl
      by_test false = apart s e

  -- the constraint at another identity stands in the lists
  pub newest_not : (o : Option (Constraint A)) (n : ℕ) (f : ℕ → Option Atom) → IsNot o n → with_newest o f n ≡ f n
  newest_not None n f other = refl
  newest_not (Some s) n f other = by_test (n == s.id.0) refl
    where
      by_test : (b : Bool) → (n == s.id.0) ≡ b → cond b (Some (row_atom s.row)) (f n) ≡ f n
      by_test true at = absurd (other s refl (sym ((Decides-eqb n s.id.0).0 at)))
      by_test false at = refl

  -- another is the newest, where there was none
  pub newest_added : (o : Option (Constraint A)) (s : Constraint A) (f : ℕ → Option Atom) → o ≡ None → (i : ℕ) → with_newest (Some s) f i ≡ atoms_with (with_newest o f) s.id.0 (Some (row_atom s.row)) i
  newest_added o s f none i = ap (λ (x : Option Atom). cond (i == s.id.0) (Some (row_atom s.row)) x) (sym (newest_none o f i none))

  pub apart_added : (o : Option (Constraint A)) (s : Constraint A) (f : ℕ → Option Atom) → o ≡ None → with_newest o f s.id.0 ≡ None → IsApart (Some s) f
  apart_added o s f none absent r e = ap (λ (x : Constraint A). f x.id.0) (sym (some_same s r e)) ∙ (sym (newest_none o f s.id.0 none) ∙ absent)
