-- A tree as a list of tokens that gives it back, so that a model's value can hold trees.
use Rattle.std.specs.Prelude.{◌≡◌, ℕ, zero, suc, ℤ, pos, List, [], ◌∷◌, refl}
use Rattle.std.specs.Coded.{Coded, code_by, coded×, coded_ℕ, coded_ℤ, coded_list}
use Rattle.std.proofs.Common.{ap, ◌∙◌}
use Rattle.chr_semantics.specs.Tree.{Tree, var, int, node, Trees, none, more}

-- a kind, a number and a whole number
abbrev pub Token : Type 0
Token = ℕ × (ℕ × ℤ)

abbrev mutual
  pub tokens_onto : Tree → List Token → List Token
  tokens_onto (var x) rest = (0, (x, pos 0)) ∷ rest
  tokens_onto (int z) rest = (1, (0, z)) ∷ rest
  tokens_onto (node f ts) rest = (2, (f, pos 0)) ∷ all_tokens_onto ts rest

  pub all_tokens_onto : Trees → List Token → List Token
  all_tokens_onto none rest = (3, (0, pos 0)) ∷ rest
  all_tokens_onto (more t ts) rest = (4, (0, pos 0)) ∷ tokens_onto t (all_tokens_onto ts rest)

pub data Item : Type 0 where
  tree : Tree → Item
  trees : Trees → Item

abbrev pub tree_in : Item → Tree
tree_in (tree t) = t
tree_in (trees ts) = var 0

abbrev pub trees_in : Item → Trees
trees_in (tree t) = none
trees_in (trees ts) = ts

abbrev pub first_in : List Item → Item
first_in [] = trees none
first_in (i ∷ is) = i

abbrev pub rest_in : List Item → List Item
rest_in [] = []
rest_in (i ∷ is) = is

abbrev pub items_from_token : ℕ → ℕ → ℤ → List Item → List Item
items_from_token zero x z is = tree (var x) ∷ is
items_from_token (suc zero) x z is = tree (int z) ∷ is
items_from_token (suc (suc zero)) x z is = tree (node x (trees_in (first_in is))) ∷ rest_in is
items_from_token (suc (suc (suc zero))) x z is = trees none ∷ is
items_from_token _ x z is = trees (more (tree_in (first_in is)) (trees_in (first_in (rest_in is)))) ∷ rest_in (rest_in is)

abbrev pub items_from : List Token → List Item
items_from [] = []
items_from (t ∷ ts) = items_from_token t.0 t.1.0 t.1.1 (items_from ts)

mutual
  pub items_from-tokens_onto : (t : Tree) (rest : List Token) → items_from (tokens_onto t rest) ≡ tree t ∷ items_from rest
  items_from-tokens_onto (var x) rest = refl
  items_from-tokens_onto (int z) rest = refl
  items_from-tokens_onto (node f ts) rest = ap (items_from_token 2 f (pos 0)) (items_from-all_tokens_onto ts rest)

  pub items_from-all_tokens_onto : (ts : Trees) (rest : List Token) → items_from (all_tokens_onto ts rest) ≡ trees ts ∷ items_from rest
  items_from-all_tokens_onto none rest = refl
  items_from-all_tokens_onto (more t ts) rest = ap (items_from_token 4 0 (pos 0)) (items_from-tokens_onto t (all_tokens_onto ts rest) ∙ ap (λ is. tree t ∷ is) (items_from-all_tokens_onto ts rest))

abbrev pub tree_code : Coded Tree
tree_code = code_by (List Token) (coded_list (coded× coded_ℕ (coded× coded_ℕ coded_ℤ))) (λ t. tokens_onto t []) (λ ts. tree_in (first_in (items_from ts))) (λ t. ap (λ is. tree_in (first_in is)) (items_from-tokens_onto t []))

abbrev pub trees_code : Coded Trees
trees_code = code_by (List Token) (coded_list (coded× coded_ℕ (coded× coded_ℕ coded_ℤ))) (λ ts. all_tokens_onto ts []) (λ ts. trees_in (first_in (items_from ts))) (λ ts. ap (λ is. trees_in (first_in is)) (items_from-all_tokens_onto ts []))
