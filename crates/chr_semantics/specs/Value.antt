-- Values of arithmetic terms, and their faults (this project's own choice: whole numbers of 128 bits, checked).
use Rattle.std.specs.Prelude.{ℕ, ◌^◌, ℤ, pos, negsuc, ◌+ℤ◌, ◌-ℤ◌, ◌*ℤ◌, int_div, int_rem, int_lt, Bool, cond, ◌&&◌, ◌||◌, not, ◌==◌, nat_le, nat_lt, Result, Ok, Err, List, [], ◌∷◌}
use Rattle.std.specs.Ordering.{int_eq}
use Rattle.chr_semantics.specs.Tree.{Tree, var, int, node, Trees, none, more}
use Rattle.chr_semantics.specs.Names.{plus_symbol, minus_symbol, times_symbol, divide_symbol, modulo_symbol}

-- why a term has no value
pub data Fault : Type 0 where
  unbound : Fault
  not_number : Fault
  overflow : Fault
  zero_divisor : Fault

abbrev pub Value : Type 0
Value = Result ℤ Fault

-- the greatest magnitude of a number of 128 bits, which the least number alone has
abbrev pub max_magnitude : ℕ
max_magnitude = 2 ^ 127

-- the number is one of 128 bits
abbrev pub is_in_range : ℤ → Bool
is_in_range (pos n) = nat_lt n max_magnitude
is_in_range (negsuc n) = nat_lt n max_magnitude

abbrev pub value_in_range : ℤ → Value
value_in_range z = cond (is_in_range z) (Ok z) (Err overflow)

-- the remainder with the sign of the divisor
abbrev pub modulo : ℤ → ℤ → ℤ
modulo x y =
    let r = int_rem x y in
    cond (int_eq r (pos 0) || not (int_lt r (pos 0)) && not (int_lt y (pos 0)) || int_lt r (pos 0) && int_lt y (pos 0)) r (r +ℤ y)

-- what an operator gives for two numbers
abbrev pub operator_value : ℕ → ℤ → ℤ → Value
operator_value f x y = cond (f == plus_symbol) (value_in_range (x +ℤ y)) (cond (f == minus_symbol) (value_in_range (x -ℤ y)) (cond (f == times_symbol) (value_in_range (x *ℤ y))
    (cond (int_eq y (pos 0)) (Err zero_divisor) (cond (f == divide_symbol) (value_in_range (int_div x y)) (Ok (modulo x y))))))

-- the first fault counts
abbrev pub both_values : (ℤ → ℤ → Value) → Value → Value → Value
both_values f (Ok x) (Ok y) = f x y
both_values f (Ok x) (Err e) = Err e
both_values f (Err e) b = Err e

-- a symbol over the values of its arguments: an operator has two
abbrev pub node_value : ℕ → List Value → Value
node_value f [] = Err not_number
node_value f (a ∷ []) = Err not_number
node_value f (a ∷ b ∷ []) = cond (nat_le plus_symbol f && nat_le f modulo_symbol) (both_values (operator_value f) a b) (Err not_number)
node_value f (a ∷ b ∷ c ∷ others) = Err not_number

-- the value of a resolved term, or its first fault from the left
abbrev mutual
  pub value : Tree → Value
  value (var x) = Err unbound
  value (int z) = Ok z
  value (node f ts) = node_value f (values ts)

  pub values : Trees → List Value
  values none = []
  values (more t ts) = value t ∷ values ts
