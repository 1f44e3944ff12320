-- What is found in the parts of lists and chains.
use Rattle.std.proofs.Common.{◌≡◌, ◌<◌, arith, Vec, Box, String, length, ◌∙◌, ℕ, List, [], ◌∷◌, Bool, ◌||◌, refl, ap, sym, None}
use Rattle.std.specs.List.{list_any}
use Rattle.chr_semantics.specs.Syntax as s
use Rattle.chr_semantics.specs.Syntax.{Expr, exprs_of, list}
use Rattle.chr_semantics.specs.Meaning.{call_of, count}
use Rattle.chr_semantics.specs.Checked.{has_part, have_part}
use Rattle.chr_semantics.proofs.Lists.{no_items}
use Rattle.chr_read.specs.SyntaxView.{chain, operand_views, operator_view, view, views}
use Rattle.chr_read.proofs.Views.{view-Call, view-Chain, view-List, view-ListWithEnd}
use Rattle.chr_read.specs.declared.syntax.Expr.TheVariants.{Call, List as Listed, ListWithEnd, Chain}
use Rattle.std.specs.Prelude.{box_value, string_bytes}
use Rattle.chr_read.specs.declared.syntax.Expr.{Expr as Code}
use Rattle.chr_read.specs.declared.syntax.Operator.{Operator}
use Rattle.chr_semantics.proofs.Tests.{or_assoc, or_false}
use Rattle.chr_rules.specs.Parts.{operands}

-- a list and a chain are no names
pub called_list : (es : List Expr) → call_of (list es s.nil) ≡ None
called_list [] = refl
called_list (e ∷ es) = refl

pub called_chain : (e f : Expr) (o : Operator) (xs : List (Operator × Expr)) → call_of (chain (s.operation (operator_view o) e f) xs) ≡ None
called_chain e f o [] = refl
called_chain e f o (x ∷ xs) = called_chain (s.operation (operator_view o) e f) x.1 x.0 xs

part_of_list : (v : List ℕ → Bool) (n : ℕ → Bool) (es : List Expr) (end : Expr) → has_part v n (list es end) ≡ (have_part v n (exprs_of es) || has_part v n end)
part_of_list v n [] end = refl
part_of_list v n (e ∷ es) end = ap (λ b. has_part v n e || b) (part_of_list v n es end) ∙ or_assoc (has_part v n e) (have_part v n (exprs_of es)) (has_part v n end)

part_of_chain : {A : Type 0} (v : List ℕ → Bool) (n : ℕ → Bool) (e : Expr) (xs : List (Operator × Code A)) → has_part v n (chain e (operand_views xs)) ≡ (has_part v n e || list_any (has_part v n) (operands xs))
part_of_chain v n e [] = or_false (has_part v n e)
part_of_chain v n e (x ∷ xs) = part_of_chain v n (s.operation (operator_view x.0) e (view x.1)) xs ∙ sym (or_assoc (has_part v n e) (has_part v n (view x.1)) (list_any (has_part v n) (operands xs)))

pub count_views : {A : Type 0} (es : List (Code A)) → count (exprs_of (views es)) ≡ length es
count_views [] = refl
count_views (e ∷ es) = let h = count_views es in omega (arith, h)

-- the same of a value of the code, by what it is
pub part_in_call : {A : Type 0} (v : List ℕ → Bool) (n : ℕ → Bool) (e : Code A) (w : String A) (es : Vec (Code A) A) → e ≡ Call w es → has_part v n (view e) ≡ (n (length es.items) || have_part v n (exprs_of (views es.items)))
part_in_call {A} v n e w es h = ap (λ x. has_part v n (view x)) h ∙ ap (has_part v n) (view-Call A w es) ∙ ap (λ k. n k || have_part v n (exprs_of (views es.items))) (count_views es.items)

pub part_in_list : {A : Type 0} (v : List ℕ → Bool) (n : ℕ → Bool) (e : Code A) (es : Vec (Code A) A) → e ≡ Listed es → has_part v n (view e) ≡ have_part v n (exprs_of (views es.items))
part_in_list {A} v n e es h = ap (λ x. has_part v n (view x)) h ∙ ap (has_part v n) (view-List A es) ∙ part_of_list v n (views es.items) s.nil ∙ sym (or_false (have_part v n (exprs_of (views es.items))))

pub part_in_list_with_end : {A : Type 0} (v : List ℕ → Bool) (n : ℕ → Bool) (e : Code A) (es : Vec (Code A) A) (end : Box (Code A) A) → e ≡ ListWithEnd es end → has_part v n (view e) ≡ (have_part v n (exprs_of (views es.items)) || has_part v n (view (box_value end)))
part_in_list_with_end {A} v n e es end h = ap (λ x. has_part v n (view x)) h ∙ ap (has_part v n) (view-ListWithEnd A es end) ∙ part_of_list v n (views es.items) (view (box_value end))

pub part_in_chain : {A : Type 0} (v : List ℕ → Bool) (n : ℕ → Bool) (e : Code A) (f : Box (Code A) A) (xs : Vec (Operator × Code A) A) → e ≡ Chain f xs → has_part v n (view e) ≡ (has_part v n (view (box_value f)) || list_any (has_part v n) (operands xs.items))
part_in_chain {A} v n e f xs h = ap (λ x. has_part v n (view x)) h ∙ ap (has_part v n) (view-Chain A f xs) ∙ part_of_chain v n (view (box_value f)) xs.items

-- a list with an end, or a chain, that has nothing else is its one part, and otherwise no name
pub called_in_list : {A : Type 0} (e : Code A) (es : Vec (Code A) A) → e ≡ Listed es → call_of (view e) ≡ None
called_in_list {A} e es h = ap (λ x. call_of (view x)) h ∙ ap call_of (view-List A es) ∙ called_list (views es.items)

pub called_in_end : {A : Type 0} (e : Code A) (es : Vec (Code A) A) (end : Box (Code A) A) → e ≡ ListWithEnd es end → length es.items ≡ 0 → call_of (view e) ≡ call_of (view (box_value end))
called_in_end {A} e es end h none = ap (λ x. call_of (view x)) h ∙ ap call_of (view-ListWithEnd A es end) ∙ ap (λ xs. call_of (list (views xs) (view (box_value end)))) (no_items es.items none)

called_some : {A : Type 0} (es : List (Code A)) (end : Expr) → 0 < length es → call_of (list (views es) end) ≡ None
called_some [] end h = absurd (omega (arith, h))
called_some (e ∷ es) end h = refl

pub called_in_list_with_end : {A : Type 0} (e : Code A) (es : Vec (Code A) A) (end : Box (Code A) A) → e ≡ ListWithEnd es end → 0 < length es.items → call_of (view e) ≡ None
called_in_list_with_end {A} e es end h some = ap (λ x. call_of (view x)) h ∙ ap call_of (view-ListWithEnd A es end) ∙ called_some es.items (view (box_value end)) some

pub called_in_operand : {A : Type 0} (e : Code A) (f : Box (Code A) A) (xs : Vec (Operator × Code A) A) → e ≡ Chain f xs → length xs.items ≡ 0 → call_of (view e) ≡ call_of (view (box_value f))
called_in_operand {A} e f xs h none = ap (λ x. call_of (view x)) h ∙ ap call_of (view-Chain A f xs) ∙ ap (λ os. call_of (chain (view (box_value f)) (operand_views os))) (no_items xs.items none)

called_some_chain : {A : Type 0} (e : Expr) (xs : List (Operator × Code A)) → 0 < length xs → call_of (chain e (operand_views xs)) ≡ None
called_some_chain e [] h = absurd (omega (arith, h))
called_some_chain e (x ∷ xs) h = called_chain e (view x.1) x.0 (operand_views xs)

pub called_in_chain : {A : Type 0} (e : Code A) (f : Box (Code A) A) (xs : Vec (Operator × Code A) A) → e ≡ Chain f xs → 0 < length xs.items → call_of (view e) ≡ None
called_in_chain {A} e f xs h some = ap (λ x. call_of (view x)) h ∙ ap call_of (view-Chain A f xs) ∙ called_some_chain (view (box_value f)) xs.items some

-- a value of the code, by what it is
pub call_is : {A : Type 0} (e : Code A) (w : String A) (es : Vec (Code A) A) → e ≡ Call w es → view e ≡ s.call (string_bytes w) (exprs_of (views es.items))
call_is {A} e w es h = ap view h ∙ view-Call A w es

pub list_is : {A : Type 0} (e : Code A) (es : Vec (Code A) A) → e ≡ Listed es → view e ≡ list (views es.items) s.nil
list_is {A} e es h = ap view h ∙ view-List A es

pub list_with_end_is : {A : Type 0} (e : Code A) (es : Vec (Code A) A) (end : Box (Code A) A) → e ≡ ListWithEnd es end → view e ≡ list (views es.items) (view (box_value end))
list_with_end_is {A} e es end h = ap view h ∙ view-ListWithEnd A es end

pub chain_is : {A : Type 0} (e : Code A) (f : Box (Code A) A) (xs : Vec (Operator × Code A) A) → e ≡ Chain f xs → view e ≡ chain (view (box_value f)) (operand_views xs.items)
chain_is {A} e f xs h = ap view h ∙ view-Chain A f xs
