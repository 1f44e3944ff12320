-- Firings that are noted: those that are alike stay so.
use Rattle.std.proofs.Common.{◌≡◌, Bool, true, cond, ap}
use Rattle.chr_store.specs.FiredLaws.{same_fired}
use Rattle.chr_store.specs.declared.fired.Fired.{Fired}
use Rattle.chr_find.specs.PendingFiringsView.{with_firing}

pub firing_alike : (g : Fired) (f h : Fired → Bool) (x : Fired) → f x ≡ h x → with_firing g f x ≡ with_firing g h x
firing_alike g f h x e = ap (λ (b : Bool). cond (same_fired x g) true b) e
