-- The last token of a text.
use Rattle.std.proofs.Common.{◌≡◌, ◌+◌, List, [], ◌∷◌, ◌++◌, length, length-append}
use Rattle.std.proofs.lemmas.List.{map_push}
use Rattle.chr_tokens.specs.TokenView.{IsEnded, IsLast, place_view, placed_view, placed_views, token_view}
use Rattle.chr_tokens.specs.declared.token.Placed.{Placed}

-- the tokens that are found, with a last one
pub views_with_last : (all found : List Placed) (last : Placed) → all ≡ found ++ last ∷ [] → placed_views all ≡ placed_views found ++ placed_view last ∷ []
views_with_last all found last e = rw e (map_push placed_view found last)

pub length_with_last : (all found : List Placed) (last : Placed) → all ≡ found ++ last ∷ [] → length all ≡ length found + 1
length_with_last all found last e = rw e (length-append found (last ∷ []))

-- tokens that end with a fault, or with the end of the text
pub ends_so : (xs : List Placed) (x : Placed) → IsLast (token_view x.token) → IsEnded (placed_views (xs ++ x ∷ []))
ends_so xs x h = record { before = placed_views xs; place = place_view x.place; last = token_view x.token; are = map_push placed_view xs x; is_last = h }
