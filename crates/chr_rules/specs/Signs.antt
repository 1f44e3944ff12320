-- The signs of built-ins.
use Rattle.std.specs.Prelude.{ℕ, List, codes}
use Rattle.chr_rules.specs.declared.goal.Op.{Op}
use Rattle.chr_rules.specs.declared.goal.Op.TheVariants.{Unify, Is, Less, Greater, AtMost, AtLeast, Equals, Differs}

abbrev pub sign_text : Op → List ℕ
sign_text Unify = codes " = "
sign_text Is = codes " is "
sign_text Less = codes " < "
sign_text Greater = codes " > "
sign_text AtMost = codes " =< "
sign_text AtLeast = codes " >= "
sign_text Equals = codes " =:= "
sign_text Differs = codes " =\\= "
