-- Rows that a search after a list may pass over.
use Rattle.std.proofs.Common.{◌≡◌, ◌^◌, ℕ, ◌+◌, ◌<◌, ◌≤◌, Bool, true, false, cond, ◌==◌, List, [], ◌∷◌, map, Option, Some, None, drop, ap, refl, ◌∙◌, arith}
use Rattle.std.specs.Prelude.{flat_map}
use Rattle.chr_bind.specs.declared.matching.Match.{Match}
use Rattle.chr_semantics.proofs.KeyLaw.{root_law}
use Rattle.chr_semantics.specs.Cursor.{is_new}
use Rattle.chr_semantics.specs.Join.{Joined, after_row, branch, joined}
use Rattle.chr_semantics.specs.Keys.{is_of}
use Rattle.chr_semantics.specs.Match.{Row, fit_atom}
use Rattle.chr_semantics.specs.Program.{Atom, Head, Rule}
use Rattle.chr_semantics.specs.Search.{History, has_number}
use Rattle.chr_semantics.specs.Subst.{Subst}
use Rattle.chr_find.specs.Threshold.{Threshold, before, threshold_bound, next_threshold, passed}
use Rattle.chr_find.specs.Joins.{AreOld, QuietFrom, WalkIs, step_of}
use Rattle.chr_find.specs.Shown.{AllUnder}
use Rattle.chr_find.proofs.FoundLists.{finds_none, finds_same}
use Rattle.chr_find.proofs.Thresholds.{below_bound, passed-after, passed-flat_map}
use Rattle.chr_find.proofs.JoinSteps.{step_misfit}

-- nothing lies after a row that leaves the search before the list, where no later row is new
quiet_branch : (from : ℕ) (g : Threshold) (further : Subst → List Joined) (c : Row) (b : Bool) (e : Option Subst) → next_threshold from g c.0 ≡ before → ((n : Subst) → passed from before (further n) ≡ []) → passed from g (branch further c b e) ≡ []
quiet_branch from g further c true e is none = refl
quiet_branch from g further c false None is none = refl
quiet_branch from g further c false (Some n) is none = passed-after from g c (further n) ∙ ap (λ (x : Threshold). map (after_row c) (passed from x (further n))) is ∙ ap (map (after_row c)) (none n)

flat_quiet : (from f : ℕ) (g : Row → List Joined) (rows : List Row) → AreOld from f rows → ((c : Row) → is_of f c ≡ false → g c ≡ []) → ((c : Row) → is_new from c.0 ≡ false → g c ≡ []) → flat_map g rows ≡ []
flat_quiet from f g [] o other old = refl
flat_quiet from f g (c ∷ rows) o other old = let e : g c ≡ [] = by_symbol (is_of f c) refl in rw (e, flat_quiet from f g rows o.1 other old) refl
  where
    by_symbol : (b : Bool) → is_of f c ≡ b → g c ≡ []
    by_symbol true is = old c (o.0 is)
    by_symbol false is = other c is

before_stays : (from c : ℕ) → is_new from c ≡ false → next_threshold from before c ≡ before
before_stays from c e = rw e refl

quiet_at : (b : Bool) (from : ℕ) (a : Row) (xs : List Joined) (ys : List Joined) → (b ≡ true → is_new from a.0 ≡ false) → passed from before xs ≡ [] → (b ≡ false → passed from before ys ≡ []) → passed from before (cond b (map (after_row a) xs) ys) ≡ []
quiet_at true from a xs ys old none other = passed-after from before a xs ∙ ap (λ (x : Threshold). map (after_row a) (passed from x xs)) (before_stays from a.0 (old refl)) ∙ ap (map (after_row a)) none
quiet_at false from a xs ys old none other = other refl

quiet_none : (rows : List Row) (a : Row) (place own from : ℕ) (hs : List Head) (used : List ℕ) (k : ℕ) (m : Subst) → a.0 ≡ own → QuietFrom rows place own from k hs → passed from before (joined rows a place hs used k m) ≡ []
quiet_none rows a place own from [] used k m owns q = refl
quiet_none rows a place own from (h ∷ hs) used k m owns q =
    quiet_at (k == place) from a (joined rows a place hs (a.0 ∷ used) (k + 1) m) (flat_map (step_of rows a place hs used k m h.atom) rows) (λ here. ap (is_new from) owns ∙ q.0.0 here)
    (quiet_none rows a place own from hs (a.0 ∷ used) (k + 1) m owns q.1)
    (λ other.
    passed-flat_map from before (step_of rows a place hs used k m h.atom) rows
    ∙ flat_quiet from h.atom.sym (λ c. passed from before (step_of rows a place hs used k m h.atom c)) rows (q.0.1 other)
    (λ c e. ap (passed from before) (step_misfit rows a place hs used k m h.atom c (root_law.symbols h m c e)))
    (λ c e. quiet_branch from before (λ n. joined rows a place hs (c.0 ∷ used) (k + 1) n) c (has_number (a.0 ∷ used) c.0) (fit_atom h.atom c.1 m) (before_stays from c.0 e) (λ n. quiet_none rows a place own from hs (c.0 ∷ used) (k + 1) n owns q.1)))

flat_none : {X Y : Type 0} (f : X → List Y) (x : X) (xs : List X) → f x ≡ [] → flat_map f xs ≡ [] → flat_map f (x ∷ xs) ≡ []
flat_none f x xs e go = rw (e, go) refl

module _ {A : Type 0} (rows : List Row) (h : History) (r : ℕ) (rule : Rule) (place own level : ℕ) (partners : List ℕ) (matching : Match A) (from quiet : ℕ) (threshold : Threshold) (head : Atom) where
  -- rows under the bound give nothing, where no row of a later head is new
  pub rows_passed : (xs : List Row) (least told : ℕ) → told < 2 ^ 64 → AllUnder least xs → least ≤ threshold_bound from threshold → (0 < least → quiet < level + 2) → WalkIs rows h r rule place own level partners matching from quiet threshold head xs None told told
  rows_passed xs least told small under bound late a used m owns known agrees q =
      finds_same h r rule.guard partners (flat_map (λ (c : Row). passed from threshold (step_of rows a place (drop (level + 1) rule.heads) used level m head c)) xs) [] None told told (none xs under)
      (finds_none h r rule.guard partners told small)
    where
      none : (ys : List Row) → AllUnder least ys → flat_map (λ (c : Row). passed from threshold (step_of rows a place (drop (level + 1) rule.heads) used level m head c)) ys ≡ []
      none [] u = refl
      none (c ∷ ys) u =
          let lt : c.0 < least = u.0 in
          let some : 0 < least = omega (arith, lt) in
          let quiet_next : quiet < (level + 1) + 1 = let l : quiet < level + 2 = late some in omega (arith, l) in
          flat_none (λ (d : Row). passed from threshold (step_of rows a place (drop (level + 1) rule.heads) used level m head d)) c ys
          (quiet_branch from threshold (λ n. joined rows a place (drop (level + 1) rule.heads) (c.0 ∷ used) (level + 1) n) c (has_number (a.0 ∷ used) c.0) (fit_atom head c.1 m)
          (below_bound from threshold c.0 (omega (arith, lt, bound)))
          (λ n. quiet_none rows a place own from (drop (level + 1) rule.heads) (c.0 ∷ used) (level + 1) n owns (q (level + 1) quiet_next)))
          (none ys u.1)
