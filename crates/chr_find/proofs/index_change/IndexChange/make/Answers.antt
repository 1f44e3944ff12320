use Rattle.std.proofs.Common.{◌≡◌, OnErr, refl, subst, sym}
use Rattle.chr_map.proofs.Clauses.{err_more}
use Rattle.chr_find.specs.IndexChangeView.{rows_after}
use Rattle.chr_find.specs.IndexKeys.{IndexKey, held}
use Rattle.chr_find.specs.declared.index_change.IndexChange.{IndexChange}
use Rattle.chr_find.proofs.NoteSteps.{replaced_again}
use Rattle.chr_find.proofs.index_change.IndexChange.make.Goals as goal

pub returns-in_ok-make-in-Replaced-clause-again : goal.returns-in_ok-make-in-Replaced-clause-again
returns-in_ok-make-in-Replaced-clause-again g c =
    subst (λ (n : IndexChange g.row.A.Denot). OnErr c.make-in-Replaced.result ((q : IndexKey) → rows_after c.args.plan.now n (held c.make-in-Replaced.new.rows) q ≡ rows_after c.args.plan.now n (held c.args.rows.now) q)) (sym c.in-Replaced.is)
    (err_more _ _ c.make-in-Replaced.result c.make-in-Replaced.result refl c.make-in-Replaced.ensures.err
    (λ kept. replaced_again c.args.plan.now c.in-Replaced.out c.in-Replaced.into c.make-in-Replaced.new.rows c.make.new.rows c.args.rows.now c.in_ok-make-in-Replaced.ensures.ok kept))
