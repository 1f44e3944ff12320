use Rattle.std.proofs.Common.{subst, sym}
use Rattle.chr_term.specs.TermView.{atom_view}
use Rattle.chr_find.specs.Enough.{IsEnoughBy}
use Rattle.chr_find.specs.declared.bucket.Bucket.TheVariants.{Symbol}
use Rattle.chr_find.specs.declared.plan.Lookup.{Lookup}
use Rattle.chr_find.proofs.EnoughRows.{alone_enough}
use Rattle.chr_find.proofs.candidates.bucket_by.Goals as goal

pub returns-in-Symbol : goal.returns-in-Symbol
returns-in-Symbol g c =
    subst (λ (x : Lookup). IsEnoughBy c.args.matching.now (atom_view c.args.sym c.args.args.now) x (Symbol c.args.sym)) (sym c.in-Symbol.is) (alone_enough c.args.sym c.args.args.now c.args.matching.now)
