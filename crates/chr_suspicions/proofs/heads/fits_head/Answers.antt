use Rattle.std.proofs.Common.{ap, sym}
use Rattle.chr_term.specs.TermView.{atom_view, trees_view}
use Rattle.chr_suspicions.proofs.Covered.{fits_by_arguments}
use Rattle.chr_suspicions.proofs.heads.fits_head.Goals as goal

pub returns-then-eq-clause-fits : goal.returns-then-eq-clause-fits
returns-then-eq-clause-fits g c =
    fits_by_arguments c.fit_or_spoil.result (atom_view c.args.pattern.now.0 c.args.pattern.now.1.items) (atom_view c.args.head.now.0 c.args.head.now.1.items) _ _ c.args.matching.now c.fit_or_spoil.new.matching (sym c.if-eq.ensures)
    (ap trees_view c.as_slice.ensures.value) (ap trees_view c.as_slice-then-eq.ensures.value) c.fit_or_spoil.ensures.fits
