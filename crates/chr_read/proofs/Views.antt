-- What expressions are as trees.
use Rattle.std.proofs.Common.{◌≡◌, ℕ, zero, suc, ◌==◌, true, false, List, [], ◌∷◌, ◌++◌, rules, Vec, Box, box_value, String, string_bytes, refl, ap, sym, ◌∙◌, map, length, ◌<◌, arith}
use Rattle.std.proofs.lemmas.Bool.Decides.{Decides-eqb}
use Rattle.chr_semantics.specs.Syntax as s
use Rattle.chr_semantics.specs.Tokens as semantics
use Rattle.chr_tokens.specs.TokenView.{place_view, placed_view, placed_views, token_view}
use Rattle.chr_tokens.specs.declared.token.Placed.{Placed}
use Rattle.chr_tokens.specs.declared.token.Token.{Token}
use Rattle.chr_read.specs.SyntaxView.{chain, operand_views, operator_view, view, views}
use Rattle.chr_read.specs.declared.syntax.Expr.{Expr, the_lemmas}
use Rattle.chr_read.specs.declared.syntax.Operator.{Operator}
use Rattle.chr_read.specs.declared.syntax.Expr.TheVariants.{Call, List as Listed, ListWithEnd, Chain}

pub view-Chain : (A : Type 0) (e : Box (Expr A) A) (es : Vec (Operator × Expr A) A) → view {A = A} (Chain e es) ≡ chain (view (box_value e)) (operand_views es.items)
view-Chain A e es = search (rules, the_lemmas)

pub view-Call : (A : Type 0) (w : String A) (es : Vec (Expr A) A) → view {A = A} (Call w es) ≡ s.call (string_bytes w) (s.exprs_of (views es.items))
view-Call A w es = search (rules, the_lemmas)

pub view-List : (A : Type 0) (es : Vec (Expr A) A) → view {A = A} (Listed es) ≡ s.list (views es.items) s.nil
view-List A es = search (rules, the_lemmas)

pub view-ListWithEnd : (A : Type 0) (es : Vec (Expr A) A) (e : Box (Expr A) A) → view {A = A} (ListWithEnd es e) ≡ s.list (views es.items) (view (box_value e))
view-ListWithEnd A es e = search (rules, the_lemmas)

-- one more operand, of a list that is one longer
chain_pushed : {A : Type 0} (e : s.Expr) (es : List (Operator × Expr A)) (x : Operator × Expr A) → chain e (operand_views (es ++ x ∷ [])) ≡ s.operation (operator_view x.0) (chain e (operand_views es)) (view x.1)
chain_pushed e [] x = refl
chain_pushed e (y ∷ es) x = chain_pushed (s.operation (operator_view y.0) e (view y.1)) es x

pub chain_grown : {A : Type 0} (e : s.Expr) (es longer : List (Operator × Expr A)) (x : Operator × Expr A) → longer ≡ es ++ x ∷ [] → s.operation (operator_view x.0) (chain e (operand_views es)) (view x.1) ≡ chain e (operand_views longer)
chain_grown e es longer x h = sym (ap (λ os. chain e (operand_views os)) h ∙ chain_pushed e es x)

pub map_pushed : {X Y : Type 0} (f : X → Y) (xs : List X) (x : X) → map f (xs ++ x ∷ []) ≡ map f xs ++ f x ∷ []
map_pushed f [] x = refl
map_pushed f (y ∷ xs) x = ap (λ ys. f y ∷ ys) (map_pushed f xs x)

-- lists of tokens are as long as what they stand for
pub empty_views : (ts : List Placed) → length ts ≡ 0 → length (placed_views ts) ≡ 0
empty_views [] h = refl
empty_views (t ∷ ts) h = absurd (omega (arith, h))

pub longer_views : (ts : List Placed) → 0 < length ts → 0 < length (placed_views ts)
longer_views [] h = absurd (omega (arith, h))
longer_views (t ∷ ts) h = omega arith

pub eqb_true : (n m : ℕ) → (n == m) ≡ true → n ≡ m
eqb_true n m e = (Decides-eqb n m).0 e

pub not_empty : (n : ℕ) → (n == 0) ≡ false → 0 < n
not_empty zero e = cc
not_empty (suc n) e = omega arith

-- the first of some tokens, by what its token is
pub begins_so : (ts : List semantics.Placed) (first : Placed) (rest : List semantics.Placed) (token : Token) → ts ≡ placed_view first ∷ rest → first.token ≡ token → ts ≡ semantics.at (place_view first.place) (token_view token) ∷ rest
begins_so ts first rest token are is = are ∙ ap (λ t. semantics.at (place_view first.place) (token_view t) ∷ rest) is
