-- Rows of a store of which some are gone, one is new, or all stand for the same under more bindings.
use Rattle.std.proofs.Common.{◌≡◌, ◌∙◌, ◌<◌, ◌≤◌, ◌+◌, ◌==◌, ℕ, zero, suc, Bool, true, false, not, cond, List, [], ◌∷◌, ◌++◌, map, Option, Some, None, ap, refl, subst, sym, inl, inr, ◌⊎◌, arith}
use Rattle.std.specs.Prelude.{Contains, filter, slice_index}
use Rattle.std.specs.List.{fold}
use Rattle.std.specs.List.Sorted.{IsStrictlyIncreasing}
use Rattle.std.proofs.lemmas.List.{map-append}
use Rattle.chr_semantics.proofs.Ground.{extended_stays}
use Rattle.chr_semantics.proofs.Lists.{contains_cases}
use Rattle.chr_semantics.proofs.Lookups.{Ascends-filter, Ascends-resolved, atom_before, atom_of_part, resolved_row}
use Rattle.chr_semantics.specs.Changes.{Store, removed, removed_as}
use Rattle.chr_semantics.specs.Footprint.{Ascends}
use Rattle.chr_semantics.specs.Match.{Row}
use Rattle.chr_semantics.specs.Program.{Atom}
use Rattle.chr_semantics.specs.Search.{atom_of, ids_of}
use Rattle.chr_semantics.specs.State.{resolved_atom}
use Rattle.chr_semantics.specs.Subst.{Solves, Subst, instances, value_at}
use Rattle.chr_semantics.specs.Tree.{is_ground_trees}

-- each row of the first is one of the second, and what is looked up in the first is found in the second
pub record ArePart (xs ys : List Row) : Type 0 where
  pub each : (x : Row) → Contains xs x → Contains ys x
  pub same : (i : ℕ) (a : Atom) → atom_of xs i ≡ Some a → atom_of ys i ≡ Some a

part_whole : (xs : List Row) → ArePart xs xs
part_whole xs = record { each = λ x c. c; same = λ i a e. e }

part_twice : (xs ys zs : List Row) → ArePart xs ys → ArePart ys zs → ArePart xs zs
part_twice xs ys zs p q = record { each = λ x c. q.each x (p.each x c); same = λ i a e. q.same i a (p.same i a e) }

-- what stands in a list stands behind one more
contains_later : (x y : Row) (ys : List Row) → Contains ys x → Contains (y ∷ ys) x
contains_later x y ys (k, lt, e) = (suc k, omega (arith, lt), e)

kept_at : (b : Bool) (x y : Row) (xs ys : List Row) → ((z : Row) → Contains xs z → Contains ys z) → Contains (cond b (y ∷ xs) xs) x → Contains (y ∷ ys) x
kept_at true x y xs ys h c = by (contains_cases y x xs c)
  where
    by : (y ≡ x) ⊎ Contains xs x → Contains (y ∷ ys) x
    by (inl e) = (zero, omega arith, e)
    by (inr d) = contains_later x y ys (h x d)
kept_at false x y xs ys h c = contains_later x y ys (h x c)

-- what passes a test was there
contains_kept : (test : Row → Bool) (ys : List Row) (x : Row) → Contains (filter test ys) x → Contains ys x
contains_kept test [] x c = c
contains_kept test (y ∷ ys) x c = kept_at (test y) x y (filter test ys) ys (contains_kept test ys) c

-- those with other identities
abbrev others : ℕ → List Row → List Row
others i rows = filter (λ (r : Row). not (r.0 == i)) rows

mapped_at : (b : Bool) (s : Subst) (r : Row) (xs ys : List Row) → map (resolved_row s) xs ≡ ys → map (resolved_row s) (cond b (r ∷ xs) xs) ≡ cond b (resolved_row s r ∷ ys) ys
mapped_at true s r xs ys e = ap (λ (l : List Row). resolved_row s r ∷ l) e
mapped_at false s r xs ys e = e

mapped_others : (s : Subst) (i : ℕ) (rows : List Row) → map (resolved_row s) (others i rows) ≡ others i (map (resolved_row s) rows)
mapped_others s i [] = refl
mapped_others s i (r ∷ rows) = mapped_at (not (r.0 == i)) s r (others i rows) (others i (map (resolved_row s) rows)) (mapped_others s i rows)

others_part : (s : Subst) (i hi : ℕ) (rows : List Row) → Ascends 0 rows hi → ArePart (map (resolved_row s) (others i rows)) (map (resolved_row s) rows)
others_part s i hi rows up =
    subst (λ (l : List Row). ArePart l (map (resolved_row s) rows)) (sym (mapped_others s i rows))
    (record {
      each = contains_kept (λ (r : Row). not (r.0 == i)) (map (resolved_row s) rows);
      same = λ j a e. atom_of_part (λ (r : Row). not (r.0 == i)) 0 hi (map (resolved_row s) rows) j a (Ascends-resolved s 0 hi rows up) e;
    })

-- what a removal leaves
record IsLeft (s : Subst) (hi : ℕ) (m n : Store) : Type 0 where
  pub next : n.next_id ≡ m.next_id
  pub up : Ascends 0 n.rows hi
  pub part : ArePart (map (resolved_row s) n.rows) (map (resolved_row s) m.rows)

removed_left : (s : Subst) (hi : ℕ) (m : Store) (i : ℕ) (o : Option Atom) → Ascends 0 m.rows hi → IsLeft s hi m (removed_as m i o)
removed_left s hi m i None up = record { next = refl; up = up; part = part_whole (map (resolved_row s) m.rows) }
removed_left s hi m i (Some a) up = record { next = refl; up = Ascends-filter (λ (r : Row). not (r.0 == i)) 0 hi m.rows up; part = others_part s i hi m.rows up }

-- removals leave the next identity, and a part of the rows
pub removals_left : (s : Subst) (hi : ℕ) (m : Store) (ids : List ℕ) → Ascends 0 m.rows hi → ((fold removed m ids).next_id ≡ m.next_id) × ArePart (map (resolved_row s) (fold removed m ids).rows) (map (resolved_row s) m.rows)
removals_left s hi m [] up = (refl, part_whole (map (resolved_row s) m.rows))
removals_left s hi m (i ∷ ids) up =
    let one = removed_left s hi m i (atom_of m.rows i) up in
    let rest = removals_left s hi (removed m i) ids one.up in
    (rest.0 ∙ one.next, part_twice (map (resolved_row s) (fold removed (removed m i) ids).rows) (map (resolved_row s) (removed m i).rows) (map (resolved_row s) m.rows) rest.1 one.part)

-- below the next identity a constraint that is added brings no row
pub contains_before : (s : Subst) (n : ℕ) (a : Atom) (rows : List Row) (x : Row) → Contains (map (resolved_row s) (rows ++ (n, a) ∷ [])) x → x.0 < n → Contains (map (resolved_row s) rows) x
contains_before s n a [] x c lt = by (contains_cases (n, resolved_atom s a) x [] c)
  where
    by : ((n, resolved_atom s a) ≡ x) ⊎ Contains [] x → Contains [] x
    by (inl e) = absurd (omega (arith, lt, ap (λ (r : Row). r.0) e))
    by (inr d) = d
contains_before s n a (r ∷ rows) x c lt = by (contains_cases (resolved_row s r) x (map (resolved_row s) (rows ++ (n, a) ∷ [])) c) (λ d. contains_before s n a rows x d lt)
  where
    by : (resolved_row s r ≡ x) ⊎ Contains (map (resolved_row s) (rows ++ (n, a) ∷ [])) x → (Contains (map (resolved_row s) (rows ++ (n, a) ∷ [])) x → Contains (map (resolved_row s) rows) x) → Contains (map (resolved_row s) (r ∷ rows)) x
    by (inl e) more = (zero, omega arith, e)
    by (inr d) more = contains_later x (resolved_row s r) (map (resolved_row s) rows) (more d)

-- and hides none
pub looked_before : (s : Subst) (n i : ℕ) (a c : Atom) (rows : List Row) → i < n → atom_of (map (resolved_row s) (rows ++ (n, a) ∷ [])) i ≡ Some c → atom_of (map (resolved_row s) rows) i ≡ Some c
looked_before s n i a c rows lt e = atom_before n i (resolved_atom s a) c (map (resolved_row s) rows) lt (ap (λ (l : List Row). atom_of l i) (sym (map-append (resolved_row s) rows ((n, a) ∷ []))) ∙ e)

-- rows that are ground are the same under what extends the bindings
ground_at : (b : Bool) (s r : Subst) (x : Row) (rows others : List Row) → Solves (value_at r) s → is_ground_trees (instances (value_at s) x.1.args) ≡ b → ids_of (cond (not b) (x ∷ others) others) ≡ [] → (ids_of others ≡ [] → map (resolved_row r) rows ≡ map (resolved_row s) rows) → map (resolved_row r) (x ∷ rows) ≡ map (resolved_row s) (x ∷ rows)
ground_at true s r x rows others h ground none rest =
    let args : instances (value_at r) x.1.args ≡ instances (value_at s) x.1.args = extended_stays s r x.1.args h ground in
    (λ k. (x.0, record { sym = x.1.sym; args = args k }) ∷ rest none k)
ground_at false s r x rows others h ground none rest = cc

pub ground_rows : (s r : Subst) (rows : List Row) → Solves (value_at r) s → ids_of (filter (λ (x : Row). not (is_ground_trees (instances (value_at s) x.1.args))) rows) ≡ [] → map (resolved_row r) rows ≡ map (resolved_row s) rows
ground_rows s r [] h none = refl
ground_rows s r (x ∷ rows) h none = ground_at (is_ground_trees (instances (value_at s) x.1.args)) s r x rows (filter (λ (y : Row). not (is_ground_trees (instances (value_at s) y.1.args))) rows) h refl none (ground_rows s r rows h)

-- identities that ascend increase
pub increasing : (s : Subst) (lo hi : ℕ) (rows : List Row) → Ascends lo rows hi → IsStrictlyIncreasing (ids_of (map (resolved_row s) rows))
increasing s lo hi [] up k lt = absurd (omega (arith, lt))
increasing s lo hi (x ∷ []) up k lt = absurd (omega (arith, lt))
increasing s lo hi (x ∷ y ∷ rows) up zero lt = let first : x.0 + 1 ≤ y.0 = up.1.0 in omega (arith, first)
increasing s lo hi (x ∷ y ∷ rows) up (suc k) lt =
    let e : suc (k + 1) ≡ suc k + 1 = omega arith in
    let ids : List ℕ = ids_of (map (resolved_row s) rows) in
    subst (λ (n : ℕ). slice_index (y.0 ∷ ids) k < slice_index (x.0 ∷ y.0 ∷ ids) n) e (increasing s (x.0 + 1) hi (y ∷ rows) up.1 k (omega (arith, lt)))
