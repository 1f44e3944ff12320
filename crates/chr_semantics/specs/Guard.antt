-- Guards, which are entailed by a match or not (Duck et al. 2004, guards; a comparison with no value is not entailed, by our choice).
use Rattle.std.specs.Prelude.{ℤ, Bool, true, false, not, int_lt, List, [], is_none, Result, Ok, Err}
use Rattle.std.specs.Ordering.{int_eq}
use Rattle.std.specs.List.{list_all}
use Rattle.chr_semantics.specs.Tree.{Tree, var, int, node, is_ground_tree, same}
use Rattle.chr_semantics.specs.Subst.{Subst, apply}
use Rattle.chr_semantics.specs.Mgu.{mgu}
use Rattle.chr_semantics.specs.Value.{value}
use Rattle.chr_semantics.specs.Program.{Comparison, less, greater, at_most, at_least, equals, differs, Test, identical, not_unifiable, compares, is_integer, is_ground}

-- the comparison holds of two numbers
abbrev pub comparison_holds : Comparison → ℤ → ℤ → Bool
comparison_holds less x y = int_lt x y
comparison_holds greater x y = int_lt y x
comparison_holds at_most x y = not (int_lt y x)
comparison_holds at_least x y = not (int_lt x y)
comparison_holds equals x y = int_eq x y
comparison_holds differs x y = not (int_eq x y)

-- both sides have values, and the comparison holds of them
abbrev pub value_comparison_holds : {F : Type 0} → Comparison → Result ℤ F → Result ℤ F → Bool
value_comparison_holds c (Ok x) (Ok y) = comparison_holds c x y
value_comparison_holds c (Ok x) (Err e) = false
value_comparison_holds c (Err e) b = false

abbrev pub is_int : Tree → Bool
is_int (var x) = false
is_int (int z) = true
is_int (node f ts) = false

-- the test is entailed under the match
abbrev pub entailed : Subst → Test → Bool
entailed m (identical s t) = same (apply m s) (apply m t)
entailed m (not_unifiable s t) = is_none (mgu [] (apply m s) (apply m t))
entailed m (compares c s t) = value_comparison_holds c (value (apply m s)) (value (apply m t))
entailed m (is_integer t) = is_int (apply m t)
entailed m (is_ground t) = is_ground_tree (apply m t)

abbrev pub all_entailed : Subst → List Test → Bool
all_entailed m = list_all (entailed m)
