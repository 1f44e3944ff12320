-- What a symbol with two arguments is printed as.
use Rattle.std.specs.Prelude.{ℕ, Bool, true, false, [], ◌∷◌}
use Rattle.chr_semantics.specs.Names.{Names, name_at}
use Rattle.chr_semantics.specs.Print.{Printing, call_text, list_printing, operator_printing, plain_printing}
use Rattle.chr_term.specs.declared.printer.Shape.{Shape}
use Rattle.chr_term.specs.declared.printer.Shape.TheVariants.{List, Sum, Product, Call}

abbrev pub shaped_printing : Shape → Names → ℕ → Printing → Printing → Printing
shaped_printing List names f a b = list_printing a b
shaped_printing Sum names f a b = operator_printing false f a b
shaped_printing Product names f a b = operator_printing true f a b
shaped_printing Call names f a b = plain_printing (call_text (name_at names f) (a ∷ b ∷ []))

abbrev pub is_sum_shape : Shape → Bool
is_sum_shape Sum = true
is_sum_shape _ = false

abbrev pub is_product_shape : Shape → Bool
is_product_shape Product = true
is_product_shape _ = false
