-- A test that is undecided is decided by a binding.
use Rattle.std.proofs.Common.{◌≡◌, ◌∙◌, ◌+◌, ◌==◌, ◌&&◌, ◌<◌, ◌≤◌, ◌∷◌, [], Bool, Err, List, None, Ok, Option, Some, ap, arith, cond, not, refl, sym, true, false, true≢false, ℕ, ℤ, pos, nat_le}
use Rattle.std.proofs.lemmas.Bool.{and_from, and_parts}
use Rattle.std.specs.Prelude.{◌+ℤ◌, ◌-ℤ◌, ◌*ℤ◌, int_div, is_some}
use Rattle.std.specs.Ordering.{int_eq}
use Rattle.chr_semantics.specs.Guard.{is_int}
use Rattle.chr_semantics.specs.Mgu.{mgu}
use Rattle.chr_semantics.specs.Program.{Test, compares, identical, is_ground, is_integer, not_unifiable}
use Rattle.chr_semantics.specs.Subst.{Subst, apply, instance, instances, value_at}
use Rattle.chr_semantics.specs.Tree.{Tree, Trees, int, is_ground_tree, is_ground_trees, more, node, none, same, var}
use Rattle.chr_semantics.specs.Value.{Value, both_values, is_in_range, modulo, node_value, not_number, operator_value, overflow, value, value_in_range, values, zero_divisor}
use Rattle.chr_semantics.specs.Names.{divide_symbol, minus_symbol, modulo_symbol, plus_symbol, times_symbol}
use Rattle.chr_semantics.specs.Verdict.{IsDecided, is_unbound, is_variable, lack, lack_where, undecided}
use Rattle.chr_semantics.proofs.Ground.{ground_stays}
use Rattle.chr_semantics.proofs.SameLaw.{same_itself}
use Rattle.chr_semantics.proofs.SolvedLaw.{nothing_solved}
use Rattle.chr_semantics.proofs.UnifierLaw.{unifier_law}

-- ---- terms made ground

-- ground where each variable becomes ground
mutual
  made_ground : (f : ℕ → Tree) → ((x : ℕ) → is_ground_tree (f x) ≡ true) → (t : Tree) → is_ground_tree (instance f t) ≡ true
  made_ground f h (var x) = h x
  made_ground f h (int z) = refl
  made_ground f h (node g ts) = all_made_ground f h ts

  all_made_ground : (f : ℕ → Tree) → ((x : ℕ) → is_ground_tree (f x) ≡ true) → (ts : Trees) → is_ground_trees (instances f ts) ≡ true
  all_made_ground f h none = refl
  all_made_ground f h (more t ts) = and_from (is_ground_tree (instance f t)) _ (made_ground f h t) (all_made_ground f h ts)

abbrev zeros : ℕ → Tree
zeros x = int (pos 0)

-- ---- terms that are told apart

-- every symbol is below a number
abbrev mutual
  HasBelow : ℕ → Tree → Type 0
  HasBelow n (var x) = Unit {0}
  HasBelow n (int z) = Unit {0}
  HasBelow n (node f ts) = (f < n) × HaveBelow n ts

  HaveBelow : ℕ → Trees → Type 0
  HaveBelow n none = Unit {0}
  HaveBelow n (more t ts) = HasBelow n t × HaveBelow n ts

-- variables as terms that stand nowhere
abbrev tag : ℕ → ℕ → Tree
tag n x = node n (more (int (pos x)) none)

mutual
  told_apart : (n : ℕ) (a b : Tree) → HasBelow n a → HasBelow n b → instance (tag n) a ≡ instance (tag n) b → a ≡ b
  told_apart n (var x) (var y) h k e = cc
  told_apart n (var x) (int z) h k e = cc
  told_apart n (var x) (node g us) h k e = let same : n ≡ g = cc in let l : g < n = k.0 in absurd (omega (arith, same, l))
  told_apart n (int z) (var y) h k e = cc
  told_apart n (int z) (int w) h k e = cc
  told_apart n (int z) (node g us) h k e = cc
  told_apart n (node f ts) (var y) h k e = let same : f ≡ n = cc in let l : f < n = h.0 in absurd (omega (arith, same, l))
  told_apart n (node f ts) (int w) h k e = cc
  told_apart n (node f ts) (node g us) h k e =
      let symbols : f ≡ g = cc in
      let arguments : instances (tag n) ts ≡ instances (tag n) us = cc in
      let same = all_told_apart n ts us h.1 k.1 arguments in cc

  all_told_apart : (n : ℕ) (ts us : Trees) → HaveBelow n ts → HaveBelow n us → instances (tag n) ts ≡ instances (tag n) us → ts ≡ us
  all_told_apart n none none h k e = refl
  all_told_apart n none (more u us) h k e = cc
  all_told_apart n (more t ts) none h k e = cc
  all_told_apart n (more t ts) (more u us) h k e =
      let first : instance (tag n) t ≡ instance (tag n) u = cc in
      let rest : instances (tag n) ts ≡ instances (tag n) us = cc in
      let same = told_apart n t u h.0 k.0 first in
      let others = all_told_apart n ts us h.1 k.1 rest in cc

-- a number past all symbols of a term
abbrev mutual
  past_symbols : Tree → ℕ
  past_symbols (var x) = 0
  past_symbols (int z) = 0
  past_symbols (node f ts) = f + 1 + past_all_symbols ts

  past_all_symbols : Trees → ℕ
  past_all_symbols none = 0
  past_all_symbols (more t ts) = past_symbols t + past_all_symbols ts

mutual
  has_past : (n : ℕ) (t : Tree) → past_symbols t ≤ n → HasBelow n t
  has_past n (var x) h = tt
  has_past n (int z) h = tt
  has_past n (node f ts) h = (omega (arith, h), have_past n ts (omega (arith, h)))

  have_past : (n : ℕ) (ts : Trees) → past_all_symbols ts ≤ n → HaveBelow n ts
  have_past n none h = tt
  have_past n (more t ts) h = (has_past n t (omega (arith, h)), have_past n ts (omega (arith, h)))

same_is : (t u : Tree) → t ≡ u → same t u ≡ true
same_is t u e = ap (same t) (sym e) ∙ same_itself t

-- two terms that differ, made ground, have no unifier
no_unifier : (a b : Tree) → same a b ≡ false → (f : ℕ → Tree) × (mgu [] (instance f a) (instance f b) ≡ None)
no_unifier a b differ = (tag n, by (mgu [] (instance (tag n) a) (instance (tag n) b)) refl)
  where
    n : ℕ
    n = past_symbols a + past_symbols b

    by : (o : Option Subst) → mgu [] (instance (tag n) a) (instance (tag n) b) ≡ o → o ≡ None
    by None e = refl
    by (Some r) e =
        let ground = made_ground (tag n) (λ x. refl) in
        let equal = (unifier_law.equal [] (instance (tag n) a) (instance (tag n) b) nothing_solved r e).2 in
        let alike = sym (ground_stays (value_at r) (instance (tag n) a) (ground a)) ∙ equal ∙ ground_stays (value_at r) (instance (tag n) b) (ground b) in
        let equals = told_apart n a b (has_past n a (omega arith)) (has_past n b (omega arith)) alike in
        absurd (true≢false (sym (same_is a b equals) ∙ differ))

-- ---- values of ground terms

abbrev AreBound : List Value → Type 0
AreBound [] = Unit {0}
AreBound (v ∷ vs) = (is_unbound v ≡ false) × AreBound vs

either_bound : (b : Bool) (v w : Value) → is_unbound v ≡ false → is_unbound w ≡ false → is_unbound (cond b v w) ≡ false
either_bound true v w h k = h
either_bound false v w h k = k

in_range_bound : (z : ℤ) → is_unbound (value_in_range z) ≡ false
in_range_bound z = either_bound (is_in_range z) (Ok z) (Err overflow) refl refl

operator_bound : (f : ℕ) (x y : ℤ) → is_unbound (operator_value f x y) ≡ false
operator_bound f x y =
    either_bound (f == plus_symbol) _ _ (in_range_bound (x +ℤ y))
    (either_bound (f == minus_symbol) _ _ (in_range_bound (x -ℤ y))
    (either_bound (f == times_symbol) _ _ (in_range_bound (x *ℤ y))
    (either_bound (int_eq y (pos 0)) (Err zero_divisor) _ refl
    (either_bound (f == divide_symbol) _ (Ok (modulo x y)) (in_range_bound (int_div x y)) refl))))

both_bound : (f : ℕ) (v w : Value) → is_unbound v ≡ false → is_unbound w ≡ false → is_unbound (both_values (operator_value f) v w) ≡ false
both_bound f (Ok x) (Ok y) h k = operator_bound f x y
both_bound f (Ok x) (Err e) h k = k
both_bound f (Err e) w h k = h

node_bound : (f : ℕ) (vs : List Value) → AreBound vs → is_unbound (node_value f vs) ≡ false
node_bound f [] h = refl
node_bound f (a ∷ []) h = refl
node_bound f (a ∷ b ∷ []) h = either_bound (nat_le plus_symbol f && nat_le f modulo_symbol) _ (Err not_number) (both_bound f a b h.0 h.1.0) refl
node_bound f (a ∷ b ∷ c ∷ others) h = refl

mutual
  ground_bound : (t : Tree) → is_ground_tree t ≡ true → is_unbound (value t) ≡ false
  ground_bound (var x) h = absurd (true≢false (sym h))
  ground_bound (int z) h = refl
  ground_bound (node f ts) h = node_bound f (values ts) (all_ground_bound ts h)

  all_ground_bound : (ts : Trees) → is_ground_trees ts ≡ true → AreBound (values ts)
  all_ground_bound none h = tt
  all_ground_bound (more t ts) h = let parts = and_parts (is_ground_tree t) (is_ground_trees ts) h in (ground_bound t parts.0, all_ground_bound ts parts.1)

-- ---- tests

some_unifier : (a b : Tree) (o : Option Subst) → mgu [] a b ≡ o → lack_where (is_some o) ≡ undecided → (f : ℕ → Tree) × (same (instance f a) (instance f b) ≡ true)
some_unifier a b None e h = cc
some_unifier a b (Some r) e h = (value_at r, same_is (instance (value_at r) a) (instance (value_at r) b) (unifier_law.equal [] a b nothing_solved r e).2)

not_same : (b : Bool) → lack_where (not b) ≡ undecided → b ≡ false
not_same true h = cc
not_same false h = refl

a_variable : (t : Tree) → lack_where (is_variable t) ≡ undecided → is_int (instance zeros t) ≡ true
a_variable (var x) h = refl
a_variable (int z) h = cc
a_variable (node f ts) h = cc

pub decides : (m : Subst) (t : Test) → lack m t ≡ undecided → (f : ℕ → Tree) × IsDecided f m t
decides m (identical s t) h = some_unifier (apply m s) (apply m t) (mgu [] (apply m s) (apply m t)) refl h
decides m (not_unifiable s t) h = no_unifier (apply m s) (apply m t) (not_same (same (apply m s) (apply m t)) h)
decides m (compares c s t) h = (zeros, (ground_bound (instance zeros (apply m s)) (made_ground zeros (λ x. refl) (apply m s)), ground_bound (instance zeros (apply m t)) (made_ground zeros (λ x. refl) (apply m t))))
decides m (is_integer t) h = (zeros, a_variable (apply m t) h)
decides m (is_ground t) h = (zeros, made_ground zeros (λ x. refl) (apply m t))
