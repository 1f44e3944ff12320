use Rattle.std.proofs.Common.{◌≡◌, ◌∙◌, ap, sym}
use Rattle.chr_semantics.specs.Subst.{instances, value_at}
use Rattle.chr_term.specs.Replaced.{args_by}
use Rattle.chr_term.specs.TermView.{atom_over}
use Rattle.chr_find.proofs.resolved_row.resolved.Goals as goal

pub returns-in-None : goal.returns-in-None
returns-in-None g c =
    let row = c.args.row.now in
    let same : row.args ≡ instances (value_at c.args.bindings.now.subst) row.args = ap (args_by row.args) (sym c.in-None.is) ∙ c.in_ok-replaced_args.ensures in
    ap (atom_over row.sym) (sym same)
