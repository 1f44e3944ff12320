-- Constraints that stand in a table.
use Rattle.std.specs.Prelude.{◌≡◌, All, List, Some}
use Rattle.chr_semantics.specs.Match.{Row}
use Rattle.chr_find.specs.TableView.{atom_at}
use Rattle.chr_find.specs.declared.table.Table.{Table}

-- each row is the constraint that stands at its identity
abbrev pub AreStanding : {A : Type 0} → Table A → List Row → Type 0
AreStanding table rows = All (λ (r : Row). atom_at table r.0 ≡ Some r.1) rows
