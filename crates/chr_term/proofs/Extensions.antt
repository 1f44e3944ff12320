-- Texts that are written on.
use Rattle.std.proofs.Common.{◌≡◌, ℕ, List, [], ◌++◌, length, take, ap, sym, ◌∙◌, append_assoc, append-nil}
use Rattle.std.proofs.Math.Seq.{take-append_seam}
use Rattle.chr_term.specs.Extension.{IsExtension}

-- a text begins with itself
pub extended_none : (a : List ℕ) → IsExtension a a
extended_none a = record { more = []; whole = sym (append-nil a) }

-- an extension of an extension is one
pub extended_on : (a b c : List ℕ) → IsExtension a b → IsExtension b c → IsExtension a c
extended_on a b c first last = record {
  more = first.more ++ last.more;
  whole = last.whole ∙ ap (λ t. t ++ last.more) first.whole ∙ append_assoc a first.more last.more;
}

pub taken_back : (len : ℕ) (old new : List ℕ) → len ≡ length old → IsExtension old new → take len new ≡ old
taken_back len old new is extension = ap (λ n. take n new) is ∙ ap (take (length old)) extension.whole ∙ take-append_seam old extension.more
