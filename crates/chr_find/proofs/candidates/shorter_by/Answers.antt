use Rattle.chr_term.specs.TermView.{atom_view}
use Rattle.chr_find.proofs.candidates.shorter_by.Goals as goal

pub returns-in-Some : goal.returns-in-Some
returns-in-Some g c ps m planned agrees best = c.shorter.ensures ps (atom_view c.args.sym c.args.args.now) m best (c.in-Some.ensures ps m planned agrees)
