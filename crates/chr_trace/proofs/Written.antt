-- Calls that write a text or nothing.
use Rattle.std.proofs.Common.{◌≡◌, ◌∙◌, ◌++◌, ℕ, List, [], Result, Ok, Err, OnOk, OnErr, ap, append-nil, append_assoc, sym}
use Rattle.chr_term.specs.Extension.{IsExtension}

-- where a call wrote a text or nothing, the new text begins with the old one
pub written_on : {T E : Type 0} (r : Result T E) (old new text : List ℕ) → OnOk r (new ≡ old ++ text) → OnErr r (new ≡ old) → IsExtension old new
written_on (Ok x) old new text ok err = record { more = text; whole = ok }
written_on (Err e) old new text ok err = record { more = []; whole = err ∙ sym (append-nil old) }

-- what is written after a first text
pub written_after : {T E : Type 0} (r : Result T E) (x y new first last text : List ℕ) → y ≡ x ++ first → OnOk r (new ≡ y ++ last) → first ++ last ≡ text → OnOk r (new ≡ x ++ text)
written_after (Ok v) x y new first last text before ok whole = ok ∙ (ap (λ ys. ys ++ last) before ∙ (append_assoc x first last ∙ ap (λ ys. x ++ ys) whole))
written_after (Err e) x y new first last text before ok whole = tt

-- two texts, one after the other
pub both_written : (x y z a b : List ℕ) → y ≡ x ++ a → z ≡ y ++ b → z ≡ x ++ (a ++ b)
both_written x y z a b first second = second ∙ (ap (λ ys. ys ++ b) first ∙ append_assoc x a b)

-- a text begins with itself
pub not_written : (old : List ℕ) → IsExtension old old
not_written old = record { more = []; whole = sym (append-nil old) }
