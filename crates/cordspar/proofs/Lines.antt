-- The lines of a text, and where they end.
use Rattle.std.proofs.Common.{◌≡◌, ◌∙◌, ℕ, suc, ◌+◌, ◌==◌, Bool, true, false, List, [], ◌∷◌, ◌++◌, ap, arith, cond, length, refl, sym}
use Rattle.std.proofs.lemmas.Bool.{eqb-true, false_from_ne_true}
use Rattle.chr_semantics.specs.Text.{lines_text}
use Rattle.chr_trace.specs.Lined.{IsLined, cut_at, ends_of}
use Rattle.chr_trace.proofs.Lined.{ends_count, made_is}
use Rattle.cordspar.specs.Lines.{begun, lines_in}

-- a byte that is another one
pub other : (b : ℕ) → (b ≡ 10 → ⊥) → (b == 10) ≡ false
other b is = false_from_ne_true (b == 10) (λ e. is (eqb-true b 10 e))

-- a first line that is one longer ends where it would if it began one later
begun_ends : (k b : ℕ) (ls : List (List ℕ)) → ends_of k (begun b ls) ≡ ends_of (k + 1) ls
begun_ends k b [] = refl
begun_ends k b (l ∷ ls) =
    let same : k + (suc (length l) + 1) ≡ (k + 1) + (length l + 1) = omega arith in
    ap (λ e. e ∷ ends_of e ls) same

-- a byte that is no line feed ends no line
pub unfed : (xs : List ℕ) (b : ℕ) → (b == 10) ≡ false → lines_in (xs ++ b ∷ []) ≡ lines_in xs
unfed [] b other = ap (λ (t : Bool). cond t ([] ∷ []) []) other
unfed (x ∷ xs) b other = ap (λ ls. cond (x == 10) ([] ∷ ls) (begun x ls)) (unfed xs b other)

fed_by : (t : Bool) (k x : ℕ) (more less : List (List ℕ)) (n : ℕ) → ((m : ℕ) → ends_of m more ≡ ends_of m less ++ (m + (n + 1)) ∷ [])
    → ends_of k (cond t ([] ∷ more) (begun x more)) ≡ ends_of k (cond t ([] ∷ less) (begun x less)) ++ (k + (suc n + 1)) ∷ []
fed_by true k x more less n is =
    let same : (k + (0 + 1)) + (n + 1) ≡ k + (suc n + 1) = omega arith in
    ap (λ es. (k + (0 + 1)) ∷ es) (is (k + (0 + 1)) ∙ ap (λ e. ends_of (k + (0 + 1)) less ++ e ∷ []) same)
fed_by false k x more less n is =
    let same : (k + 1) + (n + 1) ≡ k + (suc n + 1) = omega arith in
    begun_ends k x more ∙ (is (k + 1) ∙ (λ i. sym (begun_ends k x less) i ++ same i ∷ []))

-- a line feed ends the line that stands open
pub fed : (k : ℕ) (xs : List ℕ) → ends_of k (lines_in (xs ++ 10 ∷ [])) ≡ ends_of k (lines_in xs) ++ (k + (length xs + 1)) ∷ []
fed k [] = refl
fed k (x ∷ xs) = fed_by (x == 10) k x (lines_in (xs ++ 10 ∷ [])) (lines_in xs) (length xs) (λ m. fed m xs)

-- a text is its lines and a rest
rest_by : (t : Bool) (x : ℕ) (xs : List ℕ) (ls : List (List ℕ)) → (x == 10) ≡ t → (rest : List ℕ) × (xs ≡ lines_text ls ++ rest) → (rest : List ℕ) × (x ∷ xs ≡ lines_text (cond t ([] ∷ ls) (begun x ls)) ++ rest)
rest_by true x xs ls is (rest, whole) = (rest, λ i. eqb-true x 10 is i ∷ whole i)
rest_by false x xs [] is (rest, whole) = (x ∷ xs, refl)
rest_by false x xs (l ∷ ls) is (rest, whole) = (rest, ap (λ ys. x ∷ ys) whole)

rest_in : (text : List ℕ) → (rest : List ℕ) × (text ≡ lines_text (lines_in text) ++ rest)
rest_in [] = ([], refl)
rest_in (x ∷ xs) = rest_by (x == 10) x xs (lines_in xs) refl (rest_in xs)

-- the ends of its lines are known
module _ (text ends : List ℕ) (is : ends ≡ ends_of 0 (lines_in text)) where
  pub is_lined : IsLined text ends
  is_lined = record { made = lines_in text; rest = (rest_in text).0; text_is = (rest_in text).1; ends_are = is }

  pub cut_are : cut_at text 0 ends ≡ lines_in text
  unfolding is_lined
  cut_are = made_is text ends is_lined

  pub count_are : length ends ≡ length (lines_in text)
  count_are = ap length is ∙ ends_count 0 (lines_in text)
