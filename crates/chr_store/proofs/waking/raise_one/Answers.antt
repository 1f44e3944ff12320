use Rattle.std.proofs.Common.{◌∙◌, ap, sym}
use Rattle.std.specs.Prelude.{option_map}
use Rattle.chr_store.specs.Counts.{has_stamp}
use Rattle.chr_store.specs.Rows.{row_atom}
use Rattle.chr_store.proofs.Stamped.{stamped_at}
use Rattle.chr_store.proofs.waking.raise_one.Goals as goal

pub raise-requires : goal.raise-requires
raise-requires g c =
    let at = sym c.row.ensures ∙ ap (option_map (λ r. row_atom r.now)) c.in-Some.is in
    let has = stamped_at c.args.stamps.now.stamps.items _ c.args.id.0 (row_atom c.in-Some.row.now) c.requires at in
    record { room = ap (has_stamp c.args.stamps.now.stamps.items) c.from.ensures ∙ has }
