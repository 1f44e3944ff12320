-- The rule of an occurrence is the one of its number.
use Rattle.std.proofs.Common.{◌≡◌, ◌∙◌, ◌+◌, ℕ, zero, suc, List, [], ◌∷◌, Some, ap, arith, get_or, map, refl, reverse, sym}
use Rattle.std.specs.Prelude.{All, slice_get}
use Rattle.std.proofs.lemmas.List.Elements.{All-append, All-map, All-nil, All-weaker}
use Rattle.chr_semantics.specs.Program.{Occurrence, Program, Rule, occurrence, occurrences_from, occurrences_in, places_from}
use Rattle.chr_semantics.proofs.Lists.{All-got}

record IsNumbered (p : Program) (n : ℕ) (o : Occurrence) : Type 0 where
  pub k : ℕ
  pub number : o.number ≡ n + k
  pub rule : slice_get p k ≡ Some o.rule

plus_zero : (n : ℕ) → n ≡ n + 0
plus_zero n = omega arith

in_rule : (p : Program) (n f : ℕ) (r : Rule) → All (IsNumbered (r ∷ p) n) (occurrences_in n r f)
in_rule p n f r =
    All-map (IsNumbered (r ∷ p) n) (λ k. record { number = n; rule = r; place = k }) (reverse (places_from 0 f r.heads))
    (λ k d lt. record { k = 0; number = plus_zero n; rule = refl })

later : (p : Program) (r : Rule) (n : ℕ) (o : Occurrence) → IsNumbered p (n + 1) o → IsNumbered (r ∷ p) n o
later p r n o h = record { k = suc h.k; number = h.number ∙ moved n h.k; rule = h.rule }
  where
    moved : (n k : ℕ) → n + 1 + k ≡ n + suc k
    moved n k = omega arith

in_program : (f n : ℕ) (p : Program) → All (IsNumbered p n) (occurrences_from n p f)
in_program f n [] = All-nil (IsNumbered [] n)
in_program f n (r ∷ p) = All-append (IsNumbered (r ∷ p) n) _ (occurrences_from (n + 1) p f) (in_rule p n f r) (All-weaker (IsNumbered p (n + 1)) (IsNumbered (r ∷ p) n) (later p r n) (occurrences_from (n + 1) p f) (in_program f (n + 1) p))

pub occurrence_rule : (p : Program) (f j : ℕ) (o : Occurrence) → occurrence p f j ≡ Some o → slice_get p o.number ≡ Some o.rule
occurrence_rule p f zero o e = cc
occurrence_rule p f (suc k) o e = let h = All-got (IsNumbered p 0) (occurrences_from 0 p f) k o e (in_program f 0 p) in ap (slice_get p) (h.number ∙ zero_plus h.k) ∙ h.rule
  where
    zero_plus : (k : ℕ) → 0 + k ≡ k
    zero_plus k = omega arith
