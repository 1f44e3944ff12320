-- What stays true where two terms were made equal by new bindings.
use Rattle.std.proofs.Common.{◌≡◌, ℕ, Bool, true, List, Option, subst, sym}
use Rattle.chr_bind.specs.Unified.{IsUnified}
use Rattle.chr_bind.specs.declared.bindings.Unified.TheVariants.{Bound}
use Rattle.chr_semantics.proofs.UnifierEqual.{mgu_makes_equal}
use Rattle.chr_semantics.specs.Changes.{Entries, Store, rebound}
use Rattle.chr_semantics.specs.Program.{Atom}
use Rattle.chr_semantics.specs.Subst.{Solves, Subst, value_at}
use Rattle.chr_semantics.specs.Tree.{Tree}
use Rattle.chr_find.specs.declared.pending_firings.PendingFirings.{PendingFirings}
use Rattle.chr_base.specs.Agreement.{Agrees}
use Rattle.chr_base.specs.Lending.{Lends}
use Rattle.chr_base.proofs.Agreements.{agrees_bound, agrees_touched}
use Rattle.chr_base.proofs.Lent.{lends_touched}

module _ (m : Store) (h : Entries) (s r : Subst) (at : ℕ → Option Atom) (stale : Bool) (agrees : Agrees m h s at stale) (t u : Tree) (is : IsUnified t u s r Bound) where
  -- the new bindings solve the old ones
  pub solves : Solves (value_at r) s
  solves = (mgu_makes_equal s t u agrees.solved r is.0).1

  module _ (n : Store) (ids : List ℕ) (touched : n ≡ rebound m ids) where
    pub agrees_equated : Agrees n h r at true
    agrees_equated =
        subst (λ (k : Store). Agrees k h r at true) (sym touched)
        (agrees_touched _ _ _ _ _ (agrees_bound _ _ _ _ _ agrees r (mgu_makes_equal s t u agrees.solved r is.0).0 solves) ids)

    pub lends_equated : {A : Type 0} (f : Option (PendingFirings A)) → Lends m h f → Lends n h f
    lends_equated f lends = subst (λ (k : Store). Lends k h f) (sym touched) (lends_touched m h s at stale agrees f lends ids)
