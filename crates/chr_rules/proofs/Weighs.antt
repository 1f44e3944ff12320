-- The parts of an expression weigh less than the whole.
use Rattle.std.proofs.Common.{rules, ◌≡◌, ◌∙◌, ◌<◌, ◌+◌, ℕ, zero, suc, List, [], ◌∷◌, Vec, Box, String, length, get_or, map, ap, arith}
use Rattle.std.proofs.lemmas.Simd.{map-map}
use Rattle.std.specs.Prelude.{box_value}
use Rattle.chr_read.specs.declared.syntax.Expr.{Expr, the_lemmas}
use Rattle.chr_read.specs.declared.syntax.Operator.{Operator}
use Rattle.chr_read.specs.declared.syntax.Expr.TheVariants.{Call, List as ListOf, ListWithEnd, Chain}
use Rattle.chr_rules.specs.Weight.{total, weight, weights, operand_weights}

-- an element weighs less than the list
pub element_weighs : {X : Type 0} (f : X → ℕ) (xs : List X) (k : ℕ) (x : X) → k < length xs → x ≡ get_or xs k x → f x < total (map f xs)
element_weighs f [] k x h e = absurd (omega (arith, h))
element_weighs f (y ∷ xs) zero x h e = let same : f x ≡ f y = ap f e in omega (arith, same)
element_weighs f (y ∷ xs) (suc k) x h e = let less = element_weighs f xs k x (omega (arith, h)) e in omega (arith, less)

pub call_weighs : {A : Type 0} (e : Expr A) (w : String A) (es : Vec (Expr A) A) → e ≡ Call w es → weight e ≡ suc (weights es.items)
call_weighs e w es h = ap weight h ∙ search (rules, the_lemmas)

pub list_weighs : {A : Type 0} (e : Expr A) (es : Vec (Expr A) A) → e ≡ ListOf es → weight e ≡ suc (weights es.items)
list_weighs e es h = ap weight h ∙ search (rules, the_lemmas)

pub list_with_end_weighs : {A : Type 0} (e : Expr A) (es : Vec (Expr A) A) (end : Box (Expr A) A) → e ≡ ListWithEnd es end → weight e ≡ suc (weights es.items + weight (box_value end))
list_with_end_weighs e es end h = ap weight h ∙ search (rules, the_lemmas)

weight-Chain : (A : Type 0) (f : Box (Expr A) A) (es : Vec (Operator × Expr A) A) → weight {A = A} (Chain f es) ≡ suc (total (map (λ x. x.1) (map {B = Operator × ℕ} (λ x. (x.0, weight x.1)) es.items)) + weight (box_value f))
weight-Chain A f es = search (rules, the_lemmas)

pub chain_weighs : {A : Type 0} (e : Expr A) (f : Box (Expr A) A) (es : Vec (Operator × Expr A) A) → e ≡ Chain f es → weight e ≡ suc (operand_weights es.items + weight (box_value f))
chain_weighs {A} e f es h = ap weight h ∙ weight-Chain A f es ∙ ap (λ ns. suc (total ns + weight (box_value f))) (map-map {C = ℕ} (λ x. x.1) (λ x. (x.0, weight x.1)) es.items)
