-- Numbering variables anew changes nothing of whether terms have a unifier.
use Rattle.std.proofs.Common.{◌≡◌, ◌≢◌, ℕ, zero, suc, ◌<◌, ◌≤◌, ◌+◌, Bool, true, false, cond, ◌==◌, Option, Some, None, is_some, List, [], ◌∷◌, ◌++◌, length, get_or, slice_get, take, ap, refl, sym, subst, ◌∙◌, arith}
use Rattle.std.proofs.lemmas.Bool.Decides.{Decides-eqb}
use Rattle.std.proofs.lemmas.List.{length-append, take_more}
use Rattle.std.proofs.lemmas.Option.{slice_get-get_or}
use Rattle.std.specs.List.{AllByRecursion, IsDistinct}
use Rattle.chr_semantics.specs.Tree.{Tree, Trees, var, int, node, none, more}
use Rattle.chr_semantics.specs.Subst.{Solves, Subst, apply, instance, instances, value_at}
use Rattle.chr_semantics.specs.Mgu.{mgu}
use Rattle.chr_semantics.proofs.Instances.{instance-instance}
use Rattle.chr_semantics.proofs.SolvedLaw.{nothing_solved}
use Rattle.chr_semantics.proofs.UnifierEqual.{mgu_makes_equal}
use Rattle.chr_semantics.proofs.UnifierNone.{mgu_none}
use Rattle.chr_term.specs.TermView.{trees_view, view}
use Rattle.chr_term.specs.declared.term.Term.{Term}
use Rattle.chr_semantics.specs.Bounds.{AreBelow, IsBelow}
use Rattle.chr_semantics.proofs.Below.{below_more, below_more_all}
use Rattle.chr_term.specs.Extension.{IsExtension}
use Rattle.chr_bind.specs.Renamed.{AreRenamed, IsNames, IsRenamed, old_variable}

-- the first place of a number
place_of : List ℕ → ℕ → ℕ
place_of [] x = 0
place_of (y ∷ ys) x = cond (y == x) 0 (suc (place_of ys x))

-- each number stands once
abbrev pub Once : List ℕ → Type 0
Once names = (i j : ℕ) → i < length names → j < length names → get_or names i 0 ≡ get_or names j 0 → i ≡ j

once_tail : (y : ℕ) (ys : List ℕ) → Once (y ∷ ys) → Once ys
once_tail y ys h i j hi hj e = omega (arith, h (suc i) (suc j) (omega arith) (omega arith) e)

place_at : (b : Bool) (y : ℕ) (ys : List ℕ) (i n : ℕ) → (y == get_or ys i 0) ≡ b → Once (y ∷ ys) → i < length ys → n ≡ i → cond b 0 (suc n) ≡ suc i
place_at true y ys i n e h hi k = let same : 0 ≡ suc i = h 0 (suc i) (omega arith) (omega arith) ((Decides-eqb y (get_or ys i 0)).0 e) in absurd (omega (arith, same))
place_at false y ys i n e h hi k = ap suc k

place_of-get : (names : List ℕ) (i : ℕ) → Once names → i < length names → place_of names (get_or names i 0) ≡ i
unfolding place_of
place_of-get [] i h hi = absurd (omega arith)
place_of-get (y ∷ ys) zero h hi = ap (λ (b : Bool). cond b 0 (suc (place_of ys y))) ((Decides-eqb y y).1 refl)
place_of-get (y ∷ ys) (suc i) h hi = place_at (y == get_or ys i 0) y ys i (place_of ys (get_or ys i 0)) refl h (omega arith) (place_of-get ys i (once_tail y ys h) (omega arith))

mutual
  instance_below : (n : ℕ) (f g : ℕ → Tree) (t : Tree) → ((i : ℕ) → i < n → f i ≡ g i) → IsBelow n t → instance f t ≡ instance g t
  instance_below n f g (var x) h b = h x b
  instance_below n f g (int z) h b = refl
  instance_below n f g (node k ts) h b = ap (node k) (instances_below n f g ts h b)

  instances_below : (n : ℕ) (f g : ℕ → Tree) (ts : Trees) → ((i : ℕ) → i < n → f i ≡ g i) → AreBelow n ts → instances f ts ≡ instances g ts
  instances_below n f g none h b = refl
  instances_below n f g (more t ts) h b = cc (instance_below n f g t h b.0, instances_below n f g ts h b.1)

-- a unifier of the terms, taken back to the new numbers
forth : (names : List ℕ) (f : ℕ → Tree) (r t : Tree) → IsRenamed names r t → instance (λ i. f (get_or names i 0)) r ≡ instance f t
forth names f r t h = sym (instance-instance f (old_variable names) r) ∙ ap (instance f) h.same

-- a unifier of the new terms, taken to the old numbers
home : (names : List ℕ) (g : ℕ → Tree) (r t : Tree) → Once names → IsRenamed names r t → instance (λ x. g (place_of names x)) t ≡ instance g r
home names g r t once h =
    sym (forth names (λ x. g (place_of names x)) r t h) ∙ instance_below (length names) (λ i. g (place_of names (get_or names i 0))) g r (λ i k. ap g (place_of-get names i once k)) h.below

no_bindings : (f : ℕ → Tree) → Solves f []
no_bindings f x = refl

same_answer : (names : List ℕ) (r q s t : Tree) (a b : Option Subst) → Once names → IsRenamed names r s → IsRenamed names q t → mgu [] r q ≡ a → mgu [] s t ≡ b → is_some a ≡ is_some b
same_answer names r q s t None None once h k ea eb = refl
same_answer names r q s t (Some w) (Some v) once h k ea eb = refl
same_answer names r q s t None (Some w) once h k ea eb =
    let f = value_at w in
    let u = (mgu_makes_equal [] s t nothing_solved w eb).2 in
    absurd (mgu_none [] r q ea (λ i. f (get_or names i 0)) (no_bindings (λ i. f (get_or names i 0))) (forth names f r s h ∙ u ∙ sym (forth names f q t k)))
same_answer names r q s t (Some w) None once h k ea eb =
    let g = value_at w in
    let u = (mgu_makes_equal [] r q nothing_solved w ea).2 in
    absurd (mgu_none [] s t eb (λ x. g (place_of names x)) (no_bindings (λ x. g (place_of names x))) (home names g r s once h ∙ u ∙ sym (home names g q t once k)))

-- the new terms have a unifier where the old ones have
pub renamed_unifiable : (names : List ℕ) (r q s t : Tree) → Once names → IsRenamed names r s → IsRenamed names q t → is_some (mgu [] r q) ≡ is_some (mgu [] s t)
renamed_unifiable names r q s t once h k = same_answer names r q s t (mgu [] r q) (mgu [] s t) once h k refl refl

-- names that are distinct stand once each
all_at : (P : ℕ → Type 0) (xs : List ℕ) (i : ℕ) → AllByRecursion P xs → i < length xs → P (get_or xs i 0)
all_at P [] i h k = absurd (omega arith)
all_at P (x ∷ xs) zero h k = h.0
all_at P (x ∷ xs) (suc i) h k = all_at P xs i h.1 (omega arith)

differs : (x : ℕ) (xs : List ℕ) (i : ℕ) → AllByRecursion (λ y. (x == y) ≡ false) xs → i < length xs → x ≢ get_or xs i 0
differs x xs i h k e = let same : true ≡ false = sym ((Decides-eqb x (get_or xs i 0)).1 e) ∙ all_at (λ y. (x == y) ≡ false) xs i h k in cc

once_more : (x : ℕ) (xs : List ℕ) → AllByRecursion (λ y. (x == y) ≡ false) xs → Once xs → Once (x ∷ xs)
once_more x xs h o zero zero hi hj e = refl
once_more x xs h o zero (suc j) hi hj e = absurd (differs x xs j h (omega arith) e)
once_more x xs h o (suc i) zero hi hj e = absurd (differs x xs i h (omega arith) (sym e))
once_more x xs h o (suc i) (suc j) hi hj e = ap suc (o i j (omega arith) (omega arith) e)

pub names_once : (names : List ℕ) → IsNames names → Once names
unfolding IsDistinct
names_once [] h = λ i j hi hj e. absurd (omega arith)
names_once (x ∷ xs) h = once_more x xs h.0 (names_once xs h.1)

-- a variable at its place among the names
pub renamed_var : (names : List ℕ) (x i k : ℕ) → slice_get names i ≡ Some k → (x == k) ≡ true → i < length names → IsRenamed names (var i) (var x)
renamed_var names x i k at e h =
    let got : Some (get_or names i 0) ≡ Some k = sym (slice_get-get_or names i 0 h) ∙ at in
    let found : get_or names i 0 ≡ k = cc in
    record { same = ap var (found ∙ sym ((Decides-eqb x k).0 e)); below = h }

extended_at : (old rest : List ℕ) (i : ℕ) → i < length old → old_variable old i ≡ old_variable (old ++ rest) i
extended_at [] rest i h = absurd (omega arith)
extended_at (x ∷ old) rest zero h = refl
extended_at (x ∷ old) rest (suc i) h = extended_at old rest i (omega arith)

longer : (old rest : List ℕ) → length old ≤ length (old ++ rest)
longer old rest = omega (arith, length-append old rest)

-- further names change nothing of what was numbered
extended : (old new : List ℕ) (rs ts : Trees) → IsExtension old new → AreRenamed old rs ts → AreRenamed new rs ts
extended old new rs ts e h = subst (λ n. AreRenamed n rs ts) (sym e.whole)
    (record { same = sym (instances_below (length old) (old_variable old) (old_variable (old ++ e.more)) rs (extended_at old e.more) h.below) ∙ h.same; below = below_more_all (length old) (length (old ++ e.more)) rs (longer old e.more) h.below })

-- trees with one more at their end
trees_with_last : Trees → Tree → Trees
trees_with_last none t = more t none
trees_with_last (more u us) t = more u (trees_with_last us t)

view_with_last : {A : Type 0} (xs : List (Term A)) (x : Term A) → trees_view (xs ++ x ∷ []) ≡ trees_with_last (trees_view xs) (view x)
unfolding trees_with_last
view_with_last [] x = refl
view_with_last (y ∷ xs) x = ap (more (view y)) (view_with_last xs x)

instances_with_last : (f : ℕ → Tree) (ts : Trees) (t : Tree) → instances f (trees_with_last ts t) ≡ trees_with_last (instances f ts) (instance f t)
unfolding trees_with_last
instances_with_last f none t = refl
instances_with_last f (more u us) t = ap (more (instance f u)) (instances_with_last f us t)

below_with_last : (n : ℕ) (ts : Trees) (t : Tree) → AreBelow n ts → IsBelow n t → AreBelow n (trees_with_last ts t)
unfolding trees_with_last
below_with_last n none t h b = (b, tt)
below_with_last n (more u us) t h b = (h.0, below_with_last n us t h.1 b)

renamed_with_last : (names : List ℕ) (rs ts : Trees) (r t : Tree) → AreRenamed names rs ts → IsRenamed names r t → AreRenamed names (trees_with_last rs r) (trees_with_last ts t)
renamed_with_last names rs ts r t h k = record { same = instances_with_last (old_variable names) rs r ∙ cc (h.same, k.same); below = below_with_last (length names) rs r h.below k.below }

-- one more term of a list, with the names that it added
pub renamed_more : {A : Type 0} (old new : List ℕ) (items xs : List (Term A)) (r x : Term A) (i : ℕ) → IsExtension old new → AreRenamed old (trees_view items) (trees_view (take i xs)) → IsRenamed new (view r) (view x) → i < length xs → x ≡ get_or xs i x
    → AreRenamed new (trees_view (items ++ r ∷ [])) (trees_view (take (i + 1) xs))
renamed_more old new items xs r x i e h k lt at =
    let rest : trees_view (take (i + 1) xs) ≡ trees_with_last (trees_view (take i xs)) (view x) = ap trees_view (take_more xs i x lt) ∙ view_with_last (take i xs) (get_or xs i x) ∙ ap (λ y. trees_with_last (trees_view (take i xs)) (view y)) (sym at) in
    rw (rest, view_with_last items r) (renamed_with_last new (trees_view items) (trees_view (take i xs)) (view r) (view x) (extended old new (trees_view items) (trees_view (take i xs)) e h) k)

pub extended_term : (old new : List ℕ) (r t : Tree) → IsExtension old new → IsRenamed old r t → IsRenamed new r t
extended_term old new r t e h = subst (λ n. IsRenamed n r t) (sym e.whole)
    (record { same = sym (instance_below (length old) (old_variable old) (old_variable (old ++ e.more)) r (extended_at old e.more) h.below) ∙ h.same; below = below_more (length old) (length (old ++ e.more)) r (longer old e.more) h.below })

-- terms that are the same have a unifier
pub some_unifier : (r q : Tree) (o : Option Subst) → apply [] r ≡ apply [] q → mgu [] r q ≡ o → true ≡ is_some o
some_unifier r q None e m = absurd (mgu_none [] r q m (value_at []) (no_bindings (value_at [])) e)
some_unifier r q (Some w) e m = refl

-- renamed terms have a unifier where the terms have one
pub same_unifiable : (names : List ℕ) (r q s t : Tree) (distinct : IsNames names) (left : IsRenamed names r s) (right : IsRenamed names q t) → is_some (mgu [] r q) ≡ is_some (mgu [] s t)
same_unifiable names r q s t distinct left right = renamed_unifiable names r q s t (names_once names distinct) left right
