-- Heads that match rows become equal to what the rows were before bindings, once they are renamed apart.
use Rattle.std.proofs.Common.{◌≡◌, ◌∙◌, ◌+◌, ◌-◌, ◌<◌, ◌≤◌, ◌++◌, ◌∷◌, [], List, Bool, ap, arith, cond, refl, sym, true, false, ℕ, nat_lt}
use Rattle.std.proofs.lemmas.Bool.{le-ltb, lt-ltb, ltb-false, ltb-true}
use Rattle.chr_semantics.specs.Bounds.{AreBelow, IsBelow}
use Rattle.chr_semantics.specs.Match.{AreMade, Row, made_atom}
use Rattle.chr_semantics.specs.Mgu.{vars, vars_of_all}
use Rattle.chr_semantics.specs.Program.{Atom, Head}
use Rattle.chr_semantics.specs.Subst.{Subst, instance, instances, value_at}
use Rattle.chr_semantics.specs.Tree.{Tree, Trees, int, more, node, none, var}
use Rattle.chr_semantics.specs.Verdict.{past, renamed, row_vars}
use Rattle.chr_semantics.proofs.Instances.{instances-instances}
use Rattle.chr_semantics.proofs.Joinings.{AreEqual}

-- variables below n: whatever agrees there makes the same
mutual
  same_below : (n : ℕ) (f g : ℕ → Tree) (t : Tree) → ((x : ℕ) → x < n → f x ≡ g x) → IsBelow n t → instance f t ≡ instance g t
  same_below n f g (var x) h b = h x b
  same_below n f g (int z) h b = refl
  same_below n f g (node s ts) h b = ap (node s) (same_below_all n f g ts h b)

  same_below_all : (n : ℕ) (f g : ℕ → Tree) (ts : Trees) → ((x : ℕ) → x < n → f x ≡ g x) → AreBelow n ts → instances f ts ≡ instances g ts
  same_below_all n f g none h b = refl
  same_below_all n f g (more t ts) h b = λ k. more (same_below n f g t h b.0 k) (same_below_all n f g ts h b.1 k)

-- past all of a list, in parts
past_left : (xs ys : List ℕ) → past xs ≤ past (xs ++ ys)
past_left [] ys = omega arith
past_left (x ∷ xs) ys = by (nat_lt x (past xs)) (nat_lt x (past (xs ++ ys))) refl refl (past_left xs ys)
  where
    by : (b c : Bool) → nat_lt x (past xs) ≡ b → nat_lt x (past (xs ++ ys)) ≡ c → past xs ≤ past (xs ++ ys) → cond b (past xs) (x + 1) ≤ cond c (past (xs ++ ys)) (x + 1)
    by true true e i h = h
    by true false e i h = let l = ltb-true x (past xs) e in let m = ltb-false x (past (xs ++ ys)) i in omega (arith, h, l, m)
    by false true e i h = let m = ltb-true x (past (xs ++ ys)) i in omega (arith, m)
    by false false e i h = omega arith

past_right : (xs ys : List ℕ) → past ys ≤ past (xs ++ ys)
past_right [] ys = omega arith
past_right (x ∷ xs) ys = by (nat_lt x (past (xs ++ ys))) refl (past_right xs ys)
  where
    by : (c : Bool) → nat_lt x (past (xs ++ ys)) ≡ c → past ys ≤ past (xs ++ ys) → past ys ≤ cond c (past (xs ++ ys)) (x + 1)
    by true i h = h
    by false i h = let m = ltb-false x (past (xs ++ ys)) i in omega (arith, h, m)

past_first : (x : ℕ) (xs : List ℕ) → x < past (x ∷ xs)
past_first x xs = by (nat_lt x (past xs)) refl
  where
    by : (b : Bool) → nat_lt x (past xs) ≡ b → x < cond b (past xs) (x + 1)
    by true e = ltb-true x (past xs) e
    by false e = omega arith

mutual
  below_past : (n : ℕ) (t : Tree) → past (vars t) ≤ n → IsBelow n t
  below_past n (var x) h = let l = past_first x [] in omega (arith, h, l)
  below_past n (int z) h = tt
  below_past n (node f ts) h = all_below_past n ts h

  all_below_past : (n : ℕ) (ts : Trees) → past (vars_of_all ts) ≤ n → AreBelow n ts
  all_below_past n none h = tt
  all_below_past n (more t ts) h =
      let l = past_left (vars t) (vars_of_all ts) in
      let r = past_right (vars t) (vars_of_all ts) in
      (below_past n t (omega (arith, h, l)), all_below_past n ts (omega (arith, h, r)))

-- what the heads are made by: below n as the rows were bound, and above as matched
abbrev pub beside : ℕ → (ℕ → Tree) → Subst → ℕ → Tree
beside n g m x = cond (nat_lt x n) (g x) (value_at m (x - n))

beside_below : (n : ℕ) (g : ℕ → Tree) (m : Subst) (x : ℕ) → x < n → beside n g m x ≡ g x
beside_below n g m x h = ap (λ (b : Bool). cond b (g x) (value_at m (x - n))) (lt-ltb x n h)

beside_above : (n : ℕ) (g : ℕ → Tree) (m : Subst) (x : ℕ) → beside n g m (n + x) ≡ value_at m x
beside_above n g m x =
    ap (λ (b : Bool). cond b (g (n + x)) (value_at m (n + x - n))) (le-ltb (n + x) n (omega arith))
    ∙ ap (value_at m) (omega arith)

renamed_made : (n : ℕ) (g : ℕ → Tree) (m : Subst) (ts : Trees) → instances (beside n g m) (renamed n ts) ≡ instances (value_at m) ts
renamed_made n g m ts = instances-instances (beside n g m) (λ x. var (n + x)) ts ∙ (λ k. instances (λ x. beside_above n g m x k) ts)

-- the later rows are the earlier ones, bound further
abbrev pub AreBound : (ℕ → Tree) → List Row → List Row → Type 0
AreBound g [] cs = Unit {0}
AreBound g (r ∷ rs) [] = ⊥
AreBound g (r ∷ rs) (c ∷ cs) = (instances g r.1.args ≡ c.1.args) × AreBound g rs cs

pub equal_by_match : (n : ℕ) (g : ℕ → Tree) (m : Subst) (hs : List Head) (rs cs : List Row) → past (row_vars rs) ≤ n → AreBound g rs cs → AreMade (value_at m) hs cs → AreEqual (beside n g m) n hs rs
equal_by_match n g m [] rs cs b w e = tt
equal_by_match n g m (h ∷ hs) [] cs b w e = tt
equal_by_match n g m (h ∷ hs) (r ∷ rs) [] b w e = absurd w
equal_by_match n g m (h ∷ hs) (r ∷ rs) (c ∷ cs) b w e =
    let here : made_atom (value_at m) h ≡ c.1 = cc in
    let rest : AreMade (value_at m) hs cs = cc in
    let l = past_left (vars_of_all r.1.args) (row_vars rs) in
    let k = past_right (vars_of_all r.1.args) (row_vars rs) in (
      renamed_made n g m h.atom.args ∙ ap (λ (a : Atom). a.args) here ∙ sym w.0
          ∙ sym (same_below_all n (beside n g m) g r.1.args (beside_below n g m) (all_below_past n r.1.args (omega (arith, b, l)))),
      equal_by_match n g m hs rs cs (omega (arith, b, k)) w.1 rest,
    )
