use Rattle.std.proofs.Common.{◌∙◌, sym}
use Rattle.chr_store.specs.Rows.{row_atom}
use Rattle.chr_base.proofs.Searched.{ground_stands}
use Rattle.chr_base.proofs.base.Base.row.Goals as goal

pub returns-then-is_ground : goal.returns-then-is_ground
returns-then-is_ground g c =
    let row = c.in-Some.row.now in
    ground_stands c.args.self.now c.requires c.args.id.0 (row_atom row) c.in-Some.ensures (sym c.is_ground.ensures ∙ c.if-is_ground.true)
