-- The variables without a value that are noted.
use Rattle.std.proofs.Common.{◌≡◌, ◌∙◌, ◌≤◌, ◌==◌, ◌&&◌, ◌||◌, ◌↔◌, ◌⊎◌, inl, inr, IsTrue, true, false, not, true≢false, ℕ, Bool, List, [], ◌∷◌, ◌++◌, ap, append-nil, arith, drop, length, refl, subst, sym, take}
use Rattle.std.specs.List.{list_any}
use Rattle.std.specs.Prelude.{IsPermutation}
use Rattle.std.proofs.lemmas.Bool.Decides.{Decides-eqb}
use Rattle.std.proofs.lemmas.List.Folds.{list_any-append}
use Rattle.std.proofs.lemmas.List.{drop_all}
use Rattle.std.proofs.lemmas.List.Sorted.{list_any-IsPermutation}
use Rattle.std.proofs.Math.Seq.{take-length}
use Rattle.chr_semantics.specs.Program as semantics
use Rattle.chr_semantics.specs.Effect.{AreValues, sides}
use Rattle.chr_semantics.specs.Subst.{IsSolved, Subst, binds_var, value_at}
use Rattle.chr_semantics.specs.Tree.{Tree, var}
use Rattle.chr_semantics.proofs.SolvedLaw.{bound_moves, unbound_stays}
use Rattle.chr_semantics.specs.State.{Element, active, goal, known}
use Rattle.chr_term.specs.TermView.{view}
use Rattle.chr_term.specs.declared.term.Term.{Term}
use Rattle.chr_rules.specs.RuleView.{goal_view}
use Rattle.chr_rules.specs.declared.goal.Goal.TheVariants.{Told}
use Rattle.chr_rules.specs.declared.goal.Op.{Op}
use Rattle.chr_rules.specs.declared.goal.Op.TheVariants.{AtLeast, AtMost, Differs, Equals, Greater, Is, Less, Unify}
use Rattle.chr_look.specs.EffectView.{AreNoted, has}

-- what a list is, all of whose elements were written anew
pub written_whole : {X : Type 0} (n : ℕ) (xs ys : List X) → length ys ≡ length xs → n ≡ length xs → take n (ys ++ drop (length ys) xs) ≡ ys
written_whole n xs ys e l =
    ap (λ (zs : List _). take n (ys ++ zs)) (drop_all (length ys) xs (omega (arith, e))) ∙ ap (take n) (append-nil ys) ∙ ap (λ (k : ℕ). take k ys) (l ∙ sym e) ∙ take-length ys

pub sorted_has : (n : ℕ) (xs ys ws : List ℕ) (x : ℕ) → IsPermutation xs ys → length ys ≡ length xs → n ≡ length xs → xs ≡ ws → has (take n (ys ++ drop (length ys) xs)) x ≡ has ws x
sorted_has n xs ys ws x p e l is =
    ap (λ (zs : List ℕ). has zs x) (written_whole n xs ys e l) ∙ sym (list_any-IsPermutation (λ y. y == x) xs ys p) ∙ ap (λ (zs : List ℕ). has zs x) is

-- the sides of a built-in
pub sides_told : {A : Type 0} (op : Op) (l r : Term A) → sides (goal_view (Told op l r)) ≡ view l ∷ view r ∷ []
sides_told Unify l r = refl
sides_told Is l r = refl
sides_told Less l r = refl
sides_told Greater l r = refl
sides_told AtMost l r = refl
sides_told AtLeast l r = refl
sides_told Equals l r = refl
sides_told Differs l r = refl

-- the goal of an element
pub one_goal : (g h : semantics.Goal) → ◌≡◌ {A = Element} (goal g) (goal h) → g ≡ h
one_goal g h e = cc

pub known_no_goal : (i : ℕ) (a : semantics.Atom) (g : semantics.Goal) → ◌≡◌ {A = Element} (known i a) (goal g) → ⊥
known_no_goal i a g e = cc

pub active_no_goal : (i j : ℕ) (a : semantics.Atom) (g : semantics.Goal) → ◌≡◌ {A = Element} (active i j a) (goal g) → ⊥
active_no_goal i j a g e = cc

-- the first element of a stack
pub one_top : (e f : Element) (es fs : List Element) → e ∷ es ≡ f ∷ fs → e ≡ f
one_top e f es fs h = cc

pub no_top : (f : Element) (es fs : List Element) → length es ≡ 0 → es ≡ f ∷ fs → ⊥
no_top f [] fs l h = cc
no_top f (e ∷ es) fs l h = cc

-- ---- values

-- under solved bindings a variable is bound exactly where it does not stand for itself
pub bound_is : (s : Subst) → IsSolved s → (x : ℕ) (b : Bool) → (IsTrue b ↔ (value_at s x ≡ var x)) → binds_var s x ≡ not b
bound_is s solved x b h = by (binds_var s x) b refl h
  where
    by : (c b : Bool) → binds_var s x ≡ c → (IsTrue b ↔ (value_at s x ≡ var x)) → c ≡ not b
    by true true e h = absurd (bound_moves s solved x e (h.0 refl))
    by true false e h = refl
    by false true e h = refl
    by false false e h = absurd (true≢false (sym (h.1 (unbound_stays s x e))))

has_more : (seen : List ℕ) (n x : ℕ) → has (seen ++ n ∷ []) x ≡ (has seen x || (n == x))
has_more seen n x = list_any-append (λ (y : ℕ). y == x) seen (n ∷ []) ∙ ap (λ (b : Bool). has seen x || b) (or_false (n == x))
  where
    or_false : (b : Bool) → (b || false) ≡ b
    or_false true = refl
    or_false false = refl

binds_more : (new : Subst) (n x : ℕ) (t : Tree) → binds_var (new ++ (n, t) ∷ []) x ≡ (binds_var new x || (n == x))
binds_more new n x t = list_any-append (λ (p : ℕ × Tree). p.0 == x) new ((n, t) ∷ []) ∙ ap (λ (b : Bool). binds_var new x || b) (or_false (n == x))
  where
    or_false : (b : Bool) → (b || false) ≡ b
    or_false true = refl
    or_false false = refl

values_more : (s new : Subst) (n : ℕ) (t : Tree) → AreValues s new → value_at s n ≡ t → AreValues s (new ++ (n, t) ∷ [])
values_more s [] n t h e = (e, tt)
values_more s (p ∷ new) n t h e = (h.0, values_more s new n t h.1 e)

module _ (s : Subst) (seen : List ℕ) (new : Subst) (noted : AreNoted s seen new) (n : ℕ) where
  -- one that has no value, or is noted
  pub noted_same : (binds_var new n ≡ true) ⊎ (binds_var s n ≡ false) → AreNoted s (seen ++ n ∷ []) new
  noted_same h = record {
    those = λ x. noted.those x ∙ by x (n == x) refl h ∙ ap (λ (b : Bool). b && binds_var s x) (sym (has_more seen n x));
    values = noted.values;
  }
    where
      both : (a b : Bool) → (a && b) ≡ true → b ≡ (b && true)
      both a true e = refl
      both a false e = refl

      by : (x : ℕ) (b : Bool) → (n == x) ≡ b → (binds_var new n ≡ true) ⊎ (binds_var s n ≡ false) → (has seen x && binds_var s x) ≡ ((has seen x || b) && binds_var s x)
      by x false is h = ap (λ (c : Bool). c && binds_var s x) (or_none (has seen x))
        where
          or_none : (c : Bool) → c ≡ (c || false)
          or_none true = refl
          or_none false = refl
      by x true is (inl bound) =
          let same : n ≡ x = (Decides-eqb n x).0 is in
          let there : (has seen x && binds_var s x) ≡ true = sym (noted.those x) ∙ ap (binds_var new) (sym same) ∙ bound in
          taken (has seen x) (binds_var s x) there
        where
          taken : (c d : Bool) → (c && d) ≡ true → (c && d) ≡ ((c || true) && d)
          taken true d e = refl
          taken false d e = absurd (true≢false (sym e))
      by x true is (inr free) =
          let same : n ≡ x = (Decides-eqb n x).0 is in
          none (has seen x) (binds_var s x) (ap (binds_var s) (sym same) ∙ free)
        where
          none : (c d : Bool) → d ≡ false → (c && d) ≡ ((c || true) && d)
          none true d e = refl
          none false d e = sym e

  -- one that has a value
  pub noted_more : (t : Tree) → binds_var s n ≡ true → value_at s n ≡ t → AreNoted s (seen ++ n ∷ []) (new ++ (n, t) ∷ [])
  noted_more t bound e = record {
    those = λ x. binds_more new n x t ∙ ap (λ (b : Bool). b || (n == x)) (noted.those x) ∙ by x (n == x) refl ∙ ap (λ (b : Bool). b && binds_var s x) (sym (has_more seen n x));
    values = values_more s new n t noted.values e;
  }
    where
      by : (x : ℕ) (b : Bool) → (n == x) ≡ b → ((has seen x && binds_var s x) || b) ≡ ((has seen x || b) && binds_var s x)
      by x true is =
          let same : n ≡ x = (Decides-eqb n x).0 is in
          all (has seen x) (binds_var s x) (ap (binds_var s) (sym same) ∙ bound)
        where
          all : (c d : Bool) → d ≡ true → ((c && d) || true) ≡ ((c || true) && d)
          all true true e = refl
          all false true e = refl
          all true false e = absurd (true≢false (sym e))
          all false false e = absurd (true≢false (sym e))
      by x false is = keeps (has seen x) (binds_var s x)
        where
          keeps : (c d : Bool) → ((c && d) || false) ≡ ((c || false) && d)
          keeps true true = refl
          keeps true false = refl
          keeps false true = refl
          keeps false false = refl

pub noted_none : (s : Subst) → AreNoted s [] []
noted_none s = record { those = λ x. refl; values = tt }
