-- The texts of a set of strings.
use Rattle.std.proofs.Common.{◌≡◌, ℕ, Bool, true, false, cond, ◌||◌, List, [], ◌∷◌, ◌++◌, map, refl, sym, ap, ◌∙◌, Some, None, bytes_eq, slice_get, position, option_map, if◌then◌else◌, string_bytes, is_some}
use Rattle.std.specs.List.{list_any}
use Rattle.std.specs.String.{string_eq}
use Rattle.std.specs.declared.string.String.{String}
use Rattle.std.proofs.lemmas.List.{map-append}
use Rattle.std.proofs.lemmas.List.Quantifiers.{position-Some}
use Rattle.std.proofs.lemmas.Option.{slice_get-get_or, slice_get-map}
use Rattle.std.proofs.lemmas.Slice.Eq.{bytes_eq-Decides}
use Rattle.indexmap.specs.IndexSet.{insert_key}
use Rattle.chr_term.specs.Texts.{texts_of, with_text}
use Rattle.chr_term.proofs.Positions.{position-map, is_some-position}

list_any-map : {X Y : Type 0} (q : Y → Bool) (f : X → Y) (xs : List X) → list_any (λ x. q (f x)) xs ≡ list_any q (map f xs)
list_any-map q f [] = refl
list_any-map q f (x ∷ xs) = ap (λ b. q (f x) || b) (list_any-map q f xs)

module _ {Z : Type 0} (keys : List (String Z)) where
  -- where a string is found, its text stands
  pub text_found : (text : List ℕ) (i : ℕ) → position (λ k. bytes_eq text (string_bytes k)) keys ≡ Some i → slice_get (texts_of keys) i ≡ Some text
  text_found text i found =
      let p = position-Some (bytes_eq text) (texts_of keys) i [] (sym (position-map (λ k. bytes_eq text (string_bytes k)) (bytes_eq text) string_bytes keys (λ k d lt. refl)) ∙ found) in
      slice_get-get_or (texts_of keys) i [] p.0 ∙ ap Some (sym ((bytes_eq-Decides _ _).0 p.1))

  -- where none is found, its text is not there
  pub text_absent : (text : List ℕ) → position (λ k. bytes_eq text (string_bytes k)) keys ≡ None → position (bytes_eq text) (texts_of keys) ≡ None
  text_absent text none = sym (position-map (λ k. bytes_eq text (string_bytes k)) (bytes_eq text) string_bytes keys (λ k d lt. refl)) ∙ none

  -- where one equal to it stands, so does its text
  pub text_stands : (key k : String Z) (i : ℕ) → slice_get keys i ≡ Some k → string_eq key k ≡ true → slice_get (texts_of keys) i ≡ Some (string_bytes key)
  text_stands key k i at same = slice_get-map string_bytes keys i ∙ ap (option_map string_bytes) at ∙ ap Some (sym ((bytes_eq-Decides _ _).0 same))

  -- a text that is found changes nothing
  pub with_text-found : (text : List ℕ) (i : ℕ) → position (λ k. bytes_eq text (string_bytes k)) keys ≡ Some i → with_text (texts_of keys) text ≡ texts_of keys
  with_text-found text i found = ap (λ b. cond b (texts_of keys) (texts_of keys ++ text ∷ []))
      (sym (list_any-map (bytes_eq text) string_bytes keys) ∙ sym (is_some-position (λ k. bytes_eq text (string_bytes k)) keys) ∙ ap is_some found)

  -- an inserted string is one more text, where it is new
  pub texts_of-insert_key : (key : String Z) → texts_of (insert_key string_eq keys key) ≡ with_text (texts_of keys) (string_bytes key)
  texts_of-insert_key key = pushed (list_any (string_eq key) keys) ∙ ap (λ b. cond b (texts_of keys) (texts_of keys ++ string_bytes key ∷ [])) (list_any-map (bytes_eq (string_bytes key)) string_bytes keys)
    where
      pushed : (b : Bool) → texts_of (if b then keys else keys ++ key ∷ []) ≡ cond b (texts_of keys) (texts_of keys ++ string_bytes key ∷ [])
      pushed true = refl
      pushed false = map-append string_bytes keys (key ∷ [])
