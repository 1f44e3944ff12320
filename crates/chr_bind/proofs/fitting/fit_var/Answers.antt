use Rattle.std.proofs.Common.{◌∙◌, ap, option_map, sym}
use Rattle.std.specs.Borrow.{Bor}
use Rattle.chr_term.specs.TermView.{view}
use Rattle.chr_term.specs.declared.term.Term.{Term}
use Rattle.chr_bind.proofs.Fits.{fit_matched, fit_new}
use Rattle.chr_bind.proofs.fitting.fit_var.Goals as goal

pub returns-in-Some-clause-fits : goal.returns-in-Some-clause-fits
returns-in-Some-clause-fits g c m h =
    fit_matched c.args.matching.now m c.args.var (view c.args.term.now) (view c.in-Some.matched.now) c.same.result h
    (sym c.get.ensures ∙ ap (option_map (λ (r : Bor (Term g.row.A.Denot)). view r.now)) c.in-Some.is) c.same.ensures

pub returns-in-None-clause-fits : goal.returns-in-None-clause-fits
returns-in-None-clause-fits g c m h =
    fit_new c.args.matching.now c.put.new.self m c.args.var (view c.args.term.now) h
    (sym c.get.ensures ∙ ap (option_map (λ (r : Bor (Term g.row.A.Denot)). view r.now)) c.in-None.is) (c.put.ensures.agrees m h)
