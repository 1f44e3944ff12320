use Rattle.std.proofs.Common.{◌∙◌, ap, refl}
use Rattle.chr_semantics.specs.Syntax.{list}
use Rattle.chr_read.specs.SyntaxView.{view, views}
use Rattle.chr_read.proofs.Views.{view-ListWithEnd}
use Rattle.chr_read.proofs.exprs.list_with_end.Goals as goal

pub returns : goal.returns
returns g c = (view-ListWithEnd g.row.A.Denot c.args.items c.in_ok-last.last ∙ ap (λ e. list (views c.args.items.items) (view e)) c.in_ok-last.ensures.ok, refl)
