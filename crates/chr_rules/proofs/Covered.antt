-- Each variable that is met with heads occurs in them.
use Rattle.std.proofs.Common.{◌≡◌, ◌∙◌, ◌<◌, ◌≤◌, ◌+◌, ◌++◌, ◌||◌, ◌==◌, ℕ, List, [], ◌∷◌, Bool, true, false, Option, Some, None, length, nat_lt, refl, arith, unwrap_or}
use Rattle.std.proofs.lemmas.Bool.{eq-eqb, or_left, or_right}
use Rattle.std.proofs.lemmas.List.{length-append}
use Rattle.std.proofs.lemmas.List.Folds.{list_any-append}
use Rattle.chr_semantics.specs.Match.{has_variable}
use Rattle.chr_semantics.specs.Meaning.{Scope, atom_from, call_of, count, head_from, head_of, in_turn, tree_from, trees_from, variable_in, variable_of, with_name, with_turn, with_variable}
use Rattle.chr_semantics.specs.Program.{Head}
use Rattle.chr_semantics.specs.Subst.{occurs, occurs_any}
use Rattle.chr_semantics.specs.Syntax as syntax
use Rattle.chr_semantics.specs.Syntax.{Expr, Exprs, variable, number, call, nil, pair, operation, Item, plain, related}
use Rattle.chr_semantics.specs.Tree.{var}
use Rattle.chr_rules.proofs.Counted.{width, with_met}

-- each number from n on, and below m, passes
abbrev Covers : ℕ → ℕ → (ℕ → Bool) → Type 0
Covers n m f = (x : ℕ) → n ≤ x → x < m → f x ≡ true

empty_covers : (n : ℕ) (f : ℕ → Bool) → Covers n n f
empty_covers n f x le lt = absurd (omega (arith, le, lt))

one_more_covers : (n : ℕ) → Covers n (n + 1) (λ x. occurs x (var n))
one_more_covers n x le lt = let same : x ≡ n = omega (arith, le, lt) in eq-eqb x n same

joined_covers : (n k m : ℕ) (f g : ℕ → Bool) → Covers n k f → Covers k m g → Covers n m (λ x. f x || g x)
joined_covers n k m f g h i x le lt = by (nat_lt x k) refl
  where
    by : (b : Bool) → nat_lt x k ≡ b → (f x || g x) ≡ true
    by true e = or_left (f x) (g x) (h x le (grind (arith, e)))
    by false e = or_right (f x) (g x) (i x (grind (arith, e)) lt)

ended_covers : (n m : ℕ) (f : ℕ → Bool) → Covers n m f → Covers n m (λ x. f x || false)
ended_covers n m f h x le lt = or_left (f x) false (h x le lt)

two_cover : (n k m : ℕ) (f g : ℕ → Bool) → Covers n k f → Covers k m g → Covers n m (λ x. f x || (g x || false))
two_cover n k m f g h i = joined_covers n k m f (λ x. g x || false) h (ended_covers k m g i)

variable_covers : (vs : List (List ℕ)) (w : List ℕ) → Covers (length vs) (length (with_variable vs w)) (λ x. occurs x (var (variable_in vs w)))
variable_covers vs w = by (variable_of vs w)
  where
    by : (o : Option ℕ) → Covers (length vs) (length (with_met vs w o)) (λ x. occurs x (var (unwrap_or o (length vs))))
    by None x le lt = one_more_covers (length vs) x le (omega (arith, lt, length-append vs (w ∷ [])))
    by (Some k) x le lt = absurd (omega (arith, le, lt))

-- what is new in the scope after a tree occurs in it
mutual
  tree_covers : (s : Scope) (e : Expr) → Covers (width s) (width (tree_from s e).0) (λ x. occurs x (tree_from s e).1)
  tree_covers s (variable w) = variable_covers s.variables w
  tree_covers s (number z) = empty_covers (width s) _
  tree_covers s (call w es) = trees_cover (with_name s w (count es)) es
  tree_covers s nil = empty_covers (width s) _
  tree_covers s (pair e f) =
      two_cover (width s) (width (tree_from s e).0) (width (tree_from (tree_from s e).0 f).0) (λ x. occurs x (tree_from s e).1) (λ x. occurs x (tree_from (tree_from s e).0 f).1) (tree_covers s e) (tree_covers (tree_from s e).0 f)
  tree_covers s (operation o e f) =
      two_cover (width s) (width (tree_from s e).0) (width (tree_from (tree_from s e).0 f).0) (λ x. occurs x (tree_from s e).1) (λ x. occurs x (tree_from (tree_from s e).0 f).1) (tree_covers s e) (tree_covers (tree_from s e).0 f)

  trees_cover : (s : Scope) (es : Exprs) → Covers (width s) (width (trees_from s es).0) (λ x. occurs_any x (trees_from s es).1)
  trees_cover s syntax.none = empty_covers (width s) _
  trees_cover s (syntax.more e es) =
      joined_covers (width s) (width (tree_from s e).0) (width (trees_from (tree_from s e).0 es).0) (λ x. occurs x (tree_from s e).1) (λ x. occurs_any x (trees_from (tree_from s e).0 es).1) (tree_covers s e) (trees_cover (tree_from s e).0 es)

-- heads
head_covers_by : (s : Scope) (p : Bool) (o : Option (List ℕ × Exprs))
    → (let r = elim o as (λ o. Scope × List Head) [ None ↦ (s, []) | Some c ↦ (let r = atom_from s c.0 c.1 in (r.0, record { atom = r.1; passive = p } ∷ [])) ] in Covers (width s) (width r.0) (has_variable r.1))
head_covers_by s p None = empty_covers (width s) _
head_covers_by s p (Some c) = ended_covers (width s) _ _ (trees_cover (with_name s c.0 (count c.1)) c.1)

head_covers : (s : Scope) (h : syntax.Head) → Covers (width s) (width (head_from s h).0) (has_variable (head_from s h).1)
head_covers s h = by h.item
  where
    by : (i : Item) → Covers (width s) (width (head_of s h.passive i).0) (has_variable (head_of s h.passive i).1)
    by (related r e f) = empty_covers (width s) _
    by (plain e) = head_covers_by s h.passive (call_of e)

heads_cover_from : (n : ℕ) (q : Scope × List Head) (hs : List syntax.Head) → Covers n (width q.0) (has_variable q.1) → Covers n (width (in_turn head_from q hs).0) (has_variable (in_turn head_from q hs).1)
heads_cover_from n q [] h = h
heads_cover_from n q (x ∷ hs) h =
    let r = head_from q.0 x in
    heads_cover_from n (with_turn head_from q x) hs
    (λ y le lt. list_any-append (λ (g : Head). occurs_any y g.atom.args) q.1 r.1 ∙ joined_covers n (width q.0) (width r.0) (has_variable q.1) (has_variable r.1) h (head_covers q.0 x) y le lt)

-- heads in turn
pub heads_cover : (s : Scope) (hs : List syntax.Head) → Covers (width s) (width (in_turn head_from (s, []) hs).0) (has_variable (in_turn head_from (s, []) hs).1)
heads_cover s hs = heads_cover_from (width s) (s, []) hs (empty_covers (width s) _)
