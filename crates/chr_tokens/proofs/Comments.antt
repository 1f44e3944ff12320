-- The length of a comment, read with one character in mind.
use Rattle.std.proofs.Common.{◌≡◌, ℕ, ◌+◌, Bool, true, false, ◌&&◌, ◌==◌, if◌then◌else◌, List, [], ◌∷◌, codes, Option, Some, None, option_map, ap, arith, sym, ◌∙◌, refl}
use Rattle.chr_semantics.specs.Tokens.{begins, comment_len}

-- The same where `star` says whether a `*` stands in front.
abbrev pub len_after : Bool → List ℕ → Option ℕ
len_after star [] = None
len_after star (c ∷ cs) = if star && (c == 47) then Some 1 else option_map (λ n. n + 1) (len_after (c == 42) cs)

at_slash : (is_slash : Bool) (x y : Option ℕ) → x ≡ y → option_map (λ n. n + 1) (if true && is_slash then Some 1 else x) ≡ (if true && (is_slash && true) then Some 2 else option_map (λ n. n + 1) y)
at_slash true x y h = refl
at_slash false x y h = ap (option_map (λ n. n + 1)) h

at_star : (star : Bool) (cs : List ℕ) → len_after false cs ≡ comment_len cs → option_map (λ n. n + 1) (len_after star cs) ≡ (if star && begins (codes "/") cs then Some 2 else option_map (λ n. n + 1) (comment_len cs))
at_star false cs h = ap (option_map (λ n. n + 1)) h
at_star true [] h = refl
at_star true (d ∷ ds) h = at_slash (d == 47) _ _ h

len_after_is : (cs : List ℕ) → len_after false cs ≡ comment_len cs
len_after_is [] = refl
len_after_is (c ∷ cs) = at_star (c == 42) cs (len_after_is cs)

none_before : (o : Option ℕ) → o ≡ option_map (λ n. 0 + n) o
none_before None = refl
none_before (Some n) = ap Some (omega arith)

pub from_start : (cs : List ℕ) → comment_len cs ≡ option_map (λ n. 0 + n) (len_after false cs)
from_start cs = sym (len_after_is cs) ∙ none_before (len_after false cs)
