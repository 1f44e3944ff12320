use Rattle.std.proofs.Common.{◌∷◌, ◌∙◌, List, ap, sym, true≢false, ℕ}
use Rattle.std.proofs.lemmas.Bool.{eq-eqb}
use Rattle.chr_semantics.specs.Search.{has_number}
use Rattle.chr_store.specs.Rows.{row_atom}
use Rattle.chr_term.specs.TermView.{atom_view}
use Rattle.chr_find.proofs.EnoughRows.{takes_fit, unused}
use Rattle.chr_find.proofs.candidates.takes.Goals as goal

pub returns : goal.returns
returns g c = record {
  takes = takes_fit c.fits.result (c.args.own.0 ∷ c.args.used.now) (atom_view c.args.head.now.0 c.args.head.now.1.items) (c.args.id.0, row_atom c.args.row.now) c.args.matching.now c.fits.new.matching
      (unused c.args.id.0 c.args.own.0 c.args.used.now (sym (c.is_among.ensures ∙ ap (λ (l : List ℕ). has_number l c.args.id.0) c.as_slice.ensures.ids) ∙ c.if-is_among.false) (λ e. true≢false (sym (eq-eqb c.args.id.0 c.args.own.0 e) ∙ (sym c.eq.ensures ∙ c.if-eq.false)))) c.fits.ensures.fits;
  kept = c.fits.ensures.kept;
}
