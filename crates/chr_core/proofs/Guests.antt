-- Whether a guest that was kept is a constraint.
use Rattle.std.proofs.Common.{Bool, IsTrue, ap, false, refl, sym, true, ℕ, ◌&&◌, ◌==◌, ◌↔◌, ◌∙◌, ◌≡◌}
use Rattle.chr_semantics.specs.Tree.{Trees, same_all}
use Rattle.chr_semantics.proofs.SameLaw.{same_all_itself, same_all_true}

both : (a b : Bool) → (a ≡ true → b ≡ true) → (b ≡ true → a ≡ true) → a ≡ b
both true b f g = sym (f refl)
both false true f g = g refl
both false false f g = refl

-- where the symbols are the same, the arguments decide
pub same_by : (b : Bool) (f g : ℕ) (ts us : Trees) → true ≡ (f == g) → (IsTrue b ↔ (us ≡ ts)) → b ≡ (f == g && same_all ts us)
same_by b f g ts us same is =
    both b (same_all ts us) (λ e. ap (same_all ts) (is.0 e) ∙ same_all_itself ts) (λ e. is.1 (sym (same_all_true ts us e)))
    ∙ ap (λ (z : Bool). z && same_all ts us) same
