-- How large an expression is, by which the recursions over it end.
use Rattle.std.specs.Prelude.{ℕ, suc, ◌+◌, List, [], ◌∷◌, map, box_value}
use Rattle.chr_read.specs.declared.syntax.Expr.{Expr, fold-Expr}
use Rattle.chr_read.specs.declared.syntax.Expr.TheOpen.{Expr-F}
use Rattle.chr_read.specs.declared.syntax.Operator.{Operator}

-- the sum, with one more for each
abbrev pub total : List ℕ → ℕ
total [] = 0
total (n ∷ ns) = suc (n + total ns)

abbrev pub weight_step : {A : Type 0} → Expr-F A ℕ → ℕ
weight_step (Expr-F.Variable w) = 1
weight_step (Expr-F.Number z) = 1
weight_step (Expr-F.Call w es) = suc (total es.items)
weight_step (Expr-F.List es) = suc (total es.items)
weight_step (Expr-F.ListWithEnd es e) = suc (total es.items + box_value e)
weight_step (Expr-F.Chain e es) = suc (total (map (λ x. x.1) es.items) + box_value e)

abbrev pub weight : {A : Type 0} → Expr A → ℕ
weight {A} = fold-Expr A ℕ weight_step

abbrev pub weights : {A : Type 0} → List (Expr A) → ℕ
weights es = total (map weight es)

abbrev pub operand_weights : {A : Type 0} → List (Operator × Expr A) → ℕ
operand_weights xs = total (map (λ x. weight x.1) xs)
