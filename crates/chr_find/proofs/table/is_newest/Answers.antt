use Rattle.std.proofs.Common.{◌∙◌, sym}
use Rattle.std.proofs.lemmas.Bool.Decides.{Decides-eqb}
use Rattle.chr_find.proofs.table.is_newest.Goals as goal

pub returns-in-Some-clause-yes : goal.returns-in-Some-clause-yes
returns-in-Some-clause-yes g c same = record { newest = c.in-Some.standing; is = c.in-Some.is; id = (Decides-eqb c.in-Some.standing.id.0 c.args.id.0).0 (sym c.eq.ensures ∙ same) }
