-- A test of two parts, which were tested in turn.
use Rattle.std.proofs.Common.{◌≡◌, Bool, true, false, ◌&&◌, ◌||◌, sym, ap, ◌∙◌}

pub and_after : (both asked b : Bool) → asked ≡ true → both ≡ b → both ≡ (asked && b)
and_after both asked b yes' is = is ∙ ap (λ a. a && b) (sym yes')

pub or_at_once : (first b c : Bool) → first ≡ true → first ≡ b → first ≡ (b || c)
or_at_once first b c yes' is = yes' ∙ ap (λ a. a || c) (sym yes' ∙ is)

pub or_after : (first last b c : Bool) → first ≡ false → first ≡ b → last ≡ c → last ≡ (b || c)
or_after first last b c no' is lasts = lasts ∙ ap (λ a. a || c) (sym no' ∙ is)
