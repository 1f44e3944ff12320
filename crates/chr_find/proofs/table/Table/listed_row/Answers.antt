use Rattle.std.proofs.Common.{Bor, ◌≡◌, ◌∙◌, ap, refl, sym}
use Rattle.std.specs.Prelude.{None, Option, Some, option_map}
use Rattle.std.specs.Option.{option_copied}
use Rattle.chr_store.specs.Rows.{row_atom}
use Rattle.chr_store.specs.declared.row.Row.{Row}
use Rattle.chr_find.specs.declared.bucket.Bucket.TheVariants.{All}
use Rattle.chr_find.proofs.table.Table.listed_row.Goals as goal

copied_atom : {A : Type 0} (o : Option (Bor (Row A))) → option_map (λ row. row_atom row.now) o ≡ option_map row_atom (option_copied o)
copied_atom None = refl
copied_atom (Some row) = refl

pub returns : goal.returns
returns g c =
    copied_atom c.row.result
    ∙ ap (option_map row_atom) (c.row.ensures ∙ sym (c.requires.index (record { bucket = All; id = c.args.id })))
