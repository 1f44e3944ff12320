-- What is looked for in the parts of an expression.
use Rattle.std.specs.Prelude.{ℕ, Bool, false, nat_lt, List, map, is_none}
use Rattle.chr_semantics.specs.Syntax as syntax
use Rattle.chr_semantics.specs.Meaning.{variable_of}
use Rattle.chr_semantics.specs.Checked.{has_part, have_part}
use Rattle.chr_semantics.specs.declared.limits.TheConstants.{MAX_ARITY}
use Rattle.chr_read.specs.SyntaxView.{view}
use Rattle.chr_read.specs.declared.syntax.Expr.{Expr}
use Rattle.chr_read.specs.declared.syntax.Operator.{Operator}
use Rattle.chr_rules.specs.declared.parts.Sought.{Sought}
use Rattle.chr_rules.specs.declared.parts.Sought.TheVariants.{Free, Wide}

abbrev pub is_variable_sought : {A : Type 0} → Sought A → List ℕ → Bool
is_variable_sought (Free variables) = λ w. is_none (variable_of variables.now w)
is_variable_sought Wide = λ w. false

abbrev pub is_arity_sought : {A : Type 0} → Sought A → ℕ → Bool
is_arity_sought (Free variables) = λ n. false
is_arity_sought Wide = λ n. nat_lt MAX_ARITY n

abbrev pub has_sought : {A : Type 0} → Sought A → syntax.Expr → Bool
has_sought sought = has_part (is_variable_sought sought) (is_arity_sought sought)

abbrev pub have_sought : {A : Type 0} → Sought A → syntax.Exprs → Bool
have_sought sought = have_part (is_variable_sought sought) (is_arity_sought sought)

-- the operands of a chain but the first
abbrev pub operands : {A : Type 0} → List (Operator × Expr A) → List syntax.Expr
operands xs = map (λ x. view x.1) xs
