-- Heads for which there is no partner.
use Rattle.std.specs.Prelude.{◌≡◌, ℕ, ◌==◌, false, All, List, Some, None, slice_get}
use Rattle.chr_bind.specs.Matching.{AgreesWith}
use Rattle.chr_bind.specs.declared.matching.Match.{Match}
use Rattle.chr_semantics.specs.Match.{Row, fit_atom}
use Rattle.chr_semantics.specs.Program.{Head}
use Rattle.chr_semantics.specs.Subst.{Subst}

module _ {A : Type 0} (rows : List Row) (matching : Match A) where
  -- no constraint fits the head under the match
  abbrev pub IsBarren : Head → Type 0
  IsBarren x = (m : Subst) → AgreesWith matching m → All (λ (c : Row). fit_atom x.atom c.1 m ≡ None) rows

  -- and it is another head than the own one
  abbrev pub LacksPartner : List Head → ℕ → Type 0
  LacksPartner heads place = (k : ℕ) × (x : Head) × (slice_get heads k ≡ Some x) × ((k == place) ≡ false) × IsBarren x
