-- Whether a shape is printed as a sum, or as a product.
use Rattle.std.proofs.Common.{◌≡◌, ◌∷◌, [], ℕ, refl, ap, ◌∙◌, sym}
use Rattle.chr_semantics.specs.Names.{Names, VarNames}
use Rattle.chr_semantics.specs.Print.{Printing, node_printing, pair_printing, printing_of, printings_of}
use Rattle.chr_semantics.specs.Tree.{Trees}
use Rattle.chr_term.specs.TermView.{trees_view, view}
use Rattle.chr_term.specs.declared.term.Sym.{Sym}
use Rattle.chr_term.specs.declared.term.Term.{Term}
use Rattle.chr_term.specs.declared.term.Term.TheVariants.{Node}
use Rattle.chr_term.specs.Shapes.{is_product_shape, is_sum_shape, shaped_printing}
use Rattle.chr_term.specs.declared.printer.Shape.{Shape}
use Rattle.chr_term.specs.declared.printer.Shape.TheVariants.{List, Sum, Product, Call}

shaped_sum : (s : Shape) (names : Names) (f : ℕ) (a b : Printing) → is_sum_shape s ≡ (shaped_printing s names f a b).is_sum
shaped_sum List names f a b = refl
shaped_sum Sum names f a b = refl
shaped_sum Product names f a b = refl
shaped_sum Call names f a b = refl

shaped_product : (s : Shape) (names : Names) (f : ℕ) (a b : Printing) → is_product_shape s ≡ (shaped_printing s names f a b).is_product
shaped_product List names f a b = refl
shaped_product Sum names f a b = refl
shaped_product Product names f a b = refl
shaped_product Call names f a b = refl

-- a shape that prints what a symbol and two printed arguments do
abbrev pub Prints : Shape → ℕ → Type 0
Prints s f = (names : Names) (a b : Printing) → pair_printing names f a b ≡ shaped_printing s names f a b

module _ {A : Type 0} (names : Names) (vars : VarNames) (t : Term A) (f : Sym) (ts : Trees) (a b : Term A) (s : Shape) (is : t ≡ Node f ts) (two : ts ≡ trees_view (a ∷ b ∷ [])) (prints : Prints s f.0) where
  left : Printing
  left = printing_of names vars (view a)

  right : Printing
  right = printing_of names vars (view b)

  shaped : shaped_printing s names f.0 left right ≡ printing_of names vars (view t)
  unfolding left right
  shaped = sym (ap (λ u. printing_of names vars (view u)) is ∙ ap (λ us. node_printing names f.0 (printings_of names vars us)) two ∙ prints names left right)

  pub sum_printed : is_sum_shape s ≡ (printing_of names vars (view t)).is_sum
  sum_printed = shaped_sum s names f.0 left right ∙ ap (λ p. p.is_sum) shaped

  pub product_printed : is_product_shape s ≡ (printing_of names vars (view t)).is_product
  product_printed = shaped_product s names f.0 left right ∙ ap (λ p. p.is_product) shaped
