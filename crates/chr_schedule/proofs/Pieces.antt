-- Texts that are written in pieces.
use Rattle.std.proofs.Common.{◌≡◌, ℕ, List, ◌∷◌, ◌++◌, Result, Ok, Err, OnOk, append_assoc, ◌∙◌, sym}
use Rattle.std.specs.Prelude.{codes}
use Rattle.std.specs.Str.{byte}

-- the line of an arrival
pub arrival_written : {T E : Type 0} (written : Result T E) (a b c d e round index : List ℕ) → b ≡ a ++ codes "arrive " → c ≡ b ++ round → d ≡ c ++ codes " " → OnOk written (e ≡ d ++ index) → OnOk written (e ≡ a ++ (codes "arrive" ++ byte " " ∷ (round ++ byte " " ∷ index)))
arrival_written (Ok v) a b c d e round index first second third last = last ∙ rw (third, second, first) (simp append_assoc)
arrival_written (Err w) a b c d e round index first second third last = tt

-- what is written, in other words
pub written_as : {T E : Type 0} (written : Result T E) (out old new : List ℕ) → OnOk written (out ≡ old) → old ≡ new → OnOk written (out ≡ new)
written_as (Ok v) out old new ok is = ok ∙ is
written_as (Err w) out old new ok is = tt

-- what is written before the rest of a text
pub written_on : (out new text first rest : List ℕ) → new ≡ out ++ first → text ≡ first ++ rest → out ++ text ≡ new ++ rest
written_on out new text first rest written is = rw (is, written) (sym (append_assoc out first rest))
