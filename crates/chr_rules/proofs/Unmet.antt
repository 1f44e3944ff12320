-- An item in which every variable was met before meets none.
use Rattle.std.proofs.Common.{◌≡◌, ◌∙◌, ◌||◌, ℕ, List, [], ◌∷◌, ◌++◌, Bool, true, false, if◌then◌else◌, is_none, refl, ap}
use Rattle.std.specs.List.{list_any}
use Rattle.chr_semantics.specs.Program.{Test, is_ground, is_integer}
use Rattle.chr_semantics.specs.Syntax as syntax
use Rattle.chr_semantics.specs.Syntax.{Expr, Exprs, variable, number, call, nil, pair, operation, Item, plain, related}
use Rattle.chr_semantics.specs.Meaning.{Scope, count, in_turn, is_ground_test, is_integer_test, test_from, test_of, tree_from, trees_from, variable_of, with_name, with_turn, with_variable}
use Rattle.chr_semantics.specs.Checked.{have_part, is_free, on_sides}

-- an expression has a variable that is none of these
abbrev are_free : List (List ℕ) → Exprs → Bool
are_free vs = have_part (λ w. is_none (variable_of vs w)) (λ n. false)

-- where one of two holds not, and neither does the other
neither : (a b : Bool) → (a || b) ≡ false → (a ≡ false) × (b ≡ false)
neither true b e = cc
neither false b e = (refl, e)

known_stays : (vs : List (List ℕ)) (w : List ℕ) → is_none (variable_of vs w) ≡ false → with_variable vs w ≡ vs
known_stays vs w h = ap (λ b. if b then vs ++ w ∷ [] else vs) h

mutual
  tree_stays : (s : Scope) (e : Expr) → is_free s.variables e ≡ false → (tree_from s e).0.variables ≡ s.variables
  tree_stays s (variable w) h = known_stays s.variables w h
  tree_stays s (number z) h = refl
  tree_stays s (call w es) h = trees_stay (with_name s w (count es)) es h
  tree_stays s nil h = refl
  tree_stays s (pair e f) h =
      let parts = neither (is_free s.variables e) (is_free s.variables f) h in
      let first = tree_stays s e parts.0 in
      tree_stays (tree_from s e).0 f (ap (λ vs. is_free vs f) first ∙ parts.1) ∙ first
  tree_stays s (operation o e f) h =
      let parts = neither (is_free s.variables e) (is_free s.variables f) h in
      let first = tree_stays s e parts.0 in
      tree_stays (tree_from s e).0 f (ap (λ vs. is_free vs f) first ∙ parts.1) ∙ first

  trees_stay : (s : Scope) (es : Exprs) → are_free s.variables es ≡ false → (trees_from s es).0.variables ≡ s.variables
  trees_stay s syntax.none h = refl
  trees_stay s (syntax.more e es) h =
      let parts = neither (is_free s.variables e) (are_free s.variables es) h in
      let first = tree_stays s e parts.0 in
      trees_stay (tree_from s e).0 es (ap (λ vs. are_free vs es) first ∙ parts.1) ∙ first

abbrev tested : Scope → Expr → Bool → Bool → Scope × List Test
tested s e b c = let r = tree_from s e in if b then (r.0, is_integer r.1 ∷ []) else if c then (r.0, is_ground r.1 ∷ []) else (s, [])

test_alone_stays : (s : Scope) (e : Expr) (b c : Bool) → is_free s.variables e ≡ false → (tested s e b c).0.variables ≡ s.variables
test_alone_stays s e true c h = tree_stays s e h
test_alone_stays s e false true h = tree_stays s e h
test_alone_stays s e false false h = refl

test_of_stays : (s : Scope) (w : List ℕ) (es : Exprs) → are_free s.variables es ≡ false → (test_of s w es).0.variables ≡ s.variables
test_of_stays s w syntax.none h = refl
test_of_stays s w (syntax.more e syntax.none) h = test_alone_stays s e (is_integer_test w 1) (is_ground_test w 1) (neither (is_free s.variables e) false h).0
test_of_stays s w (syntax.more e (syntax.more f es)) h = refl

plain_stays : (s : Scope) (e : Expr) → is_free s.variables e ≡ false → (test_from s (plain e)).0.variables ≡ s.variables
plain_stays s (variable w) h = refl
plain_stays s (number z) h = refl
plain_stays s (call w es) h = test_of_stays s w es h
plain_stays s nil h = refl
plain_stays s (pair e f) h = refl
plain_stays s (operation o e f) h = refl

test_stays : (s : Scope) (i : Item) → on_sides (is_free s.variables) i ≡ false → (test_from s i).0.variables ≡ s.variables
test_stays s (related r e f) h = tree_stays s (pair e f) h
test_stays s (plain e) h = plain_stays s e h

-- so a guard whose variables are in the heads meets none
pub tests_stay : (q : Scope × List Test) (is : List Item) → list_any (on_sides (is_free q.0.variables)) is ≡ false → (in_turn test_from q is).0.variables ≡ q.0.variables
tests_stay q [] h = refl
tests_stay q (i ∷ is) h =
    let parts = neither (on_sides (is_free q.0.variables) i) (list_any (on_sides (is_free q.0.variables)) is) h in
    let first = test_stays q.0 i parts.0 in
    tests_stay (with_turn test_from q i) is (ap (λ vs. list_any (on_sides (is_free vs)) is) first ∙ parts.1) ∙ first
