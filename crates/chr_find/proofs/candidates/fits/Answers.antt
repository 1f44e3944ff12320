use Rattle.std.proofs.Common.{List, subst, sym}
use Rattle.chr_store.specs.Rows.{row_atom}
use Rattle.chr_term.specs.TermView.{atom_view}
use Rattle.chr_term.specs.declared.term.Term.{Term}
use Rattle.chr_find.specs.Enough.{FitsHead}
use Rattle.chr_find.proofs.EnoughRows.{head_fits}
use Rattle.chr_find.proofs.candidates.fits.Goals as goal

pub returns-then-eq : goal.returns-then-eq
returns-then-eq g c = record {
  fits = subst (λ (l : List (Term g.row.A.Denot)). FitsHead c.fit_or_spoil.result (atom_view c.args.head.now.0 l) (row_atom c.args.row.now) c.args.matching.now c.fit_or_spoil.new.matching) c.as_slice.ensures.value
      (head_fits c.fit_or_spoil.result c.args.head.now.0 c.as_slice.result.now c.args.row.now _ c.args.matching.now c.fit_or_spoil.new.matching c.as_slice-then-eq.ensures.value (sym c.if-eq.ensures) c.fit_or_spoil.ensures.fits);
  kept = c.fit_or_spoil.ensures.kept;
}
