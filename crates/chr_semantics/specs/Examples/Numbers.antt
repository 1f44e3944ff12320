-- The examples of whole numbers: terms over numbers near the ends of 64 and of 128 bits.
use Rattle.std.specs.Prelude.{◌-◌, ◌^◌, [], ◌∷◌, codes}
use Rattle.chr_semantics.specs.Tree.{Tree, var}
use Rattle.chr_semantics.specs.Program.{tell}
use Rattle.chr_semantics.specs.Examples.Terms.{number, negative}
use Rattle.chr_semantics.specs.Examples.Example.{Example}

-- no rule    X = t.
abbrev pub told_equal : Tree → Example
told_equal t = record { symbols = []; program = []; query = record { goals = tell (var 0) t ∷ []; var_names = codes "X" ∷ [] } }

-- 9223372036854775807, the greatest number of 64 bits
abbrev pub greatest_of_64 : Tree
greatest_of_64 = number (2 ^ 63 - 1)

-- 170141183460469231731687303715884105727, the greatest number of 128 bits
abbrev pub greatest : Tree
greatest = number (2 ^ 127 - 1)

-- -170141183460469231731687303715884105728, the least number of 128 bits
abbrev pub least : Tree
least = negative (2 ^ 127)
