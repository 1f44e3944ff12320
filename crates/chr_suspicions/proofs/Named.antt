-- The variables of lists and chains are those of their parts.
use Rattle.std.proofs.Common.{◌≡◌, ◌∙◌, ◌++◌, List, [], ◌∷◌, Vec, Box, ap, append_assoc, flat_map, refl, sym}
use Rattle.std.specs.Prelude.{box_value}
use Rattle.std.proofs.lemmas.List.{append-nil}
use Rattle.chr_semantics.specs.Syntax as s
use Rattle.chr_semantics.specs.Syntax.{Expr, exprs_of, list}
use Rattle.chr_semantics.specs.Suspicion.{names_in, names_in_all}
use Rattle.chr_read.specs.SyntaxView.{chain, operand_views, operator_view, view, views}
use Rattle.chr_read.specs.declared.syntax.Expr.{Expr as Code}
use Rattle.chr_read.specs.declared.syntax.Expr.TheVariants.{List as Listed, ListWithEnd, Chain}
use Rattle.chr_read.specs.declared.syntax.Operator.{Operator}
use Rattle.chr_read.proofs.Views.{view-Chain, view-List, view-ListWithEnd}
use Rattle.chr_rules.specs.Parts.{operands}

named_in_list : (es : List Expr) (end : Expr) → names_in (list es end) ≡ names_in_all (exprs_of es) ++ names_in end
named_in_list [] end = refl
named_in_list (e ∷ es) end = ap (λ ws. names_in e ++ ws) (named_in_list es end) ∙ sym (append_assoc (names_in e) (names_in_all (exprs_of es)) (names_in end))

named_in_chain : {A : Type 0} (e : Expr) (xs : List (Operator × Code A)) → names_in (chain e (operand_views xs)) ≡ names_in e ++ flat_map names_in (operands xs)
named_in_chain e [] = sym (append-nil (names_in e))
named_in_chain e (x ∷ xs) = named_in_chain (s.operation (operator_view x.0) e (view x.1)) xs ∙ append_assoc (names_in e) (names_in (view x.1)) (flat_map names_in (operands xs))

-- the same of a value of the code, by what it is
pub list_names : {A : Type 0} (e : Code A) (es : Vec (Code A) A) → e ≡ Listed es → names_in (view e) ≡ names_in_all (exprs_of (views es.items))
list_names {A} e es h = ap (λ x. names_in (view x)) h ∙ ap names_in (view-List A es) ∙ named_in_list (views es.items) s.nil ∙ append-nil (names_in_all (exprs_of (views es.items)))

pub list_with_end_names : {A : Type 0} (e : Code A) (es : Vec (Code A) A) (end : Box (Code A) A) → e ≡ ListWithEnd es end → names_in (view e) ≡ names_in_all (exprs_of (views es.items)) ++ names_in (view (box_value end))
list_with_end_names {A} e es end h = ap (λ x. names_in (view x)) h ∙ ap names_in (view-ListWithEnd A es end) ∙ named_in_list (views es.items) (view (box_value end))

pub chain_names : {A : Type 0} (e : Code A) (f : Box (Code A) A) (xs : Vec (Operator × Code A) A) → e ≡ Chain f xs → names_in (view e) ≡ names_in (view (box_value f)) ++ flat_map names_in (operands xs.items)
chain_names {A} e f xs h = ap (λ x. names_in (view x)) h ∙ ap names_in (view-Chain A f xs) ∙ named_in_chain (view (box_value f)) xs.items
