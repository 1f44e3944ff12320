use Rattle.std.proofs.Common.{◌∙◌, ap, not, sym}
use Rattle.chr_store.specs.Rows.{row_atom}
use Rattle.chr_find.specs.ScopeView.{keeps_row}
use Rattle.chr_find.specs.declared.scope.Scope.{Scope}
use Rattle.chr_find.proofs.scope.Scope.has_row.Goals as goal

pub returns-in-Rule : goal.returns-in-Rule
returns-in-Rule g c = λ i. ap not (c.clashes.ensures i) ∙ ap (λ (s : Scope g.row.A.Denot). keeps_row s (i, row_atom c.args.row.now)) (sym c.in-Rule.is)
