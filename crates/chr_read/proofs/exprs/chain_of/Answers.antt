use Rattle.std.proofs.Common.{◌∙◌, ap, refl}
use Rattle.chr_read.specs.SyntaxView.{chain, operand_views, view}
use Rattle.chr_read.proofs.Views.{view-Chain}
use Rattle.chr_read.proofs.exprs.chain_of.Goals as goal

pub returns : goal.returns
returns g c = (view-Chain g.row.A.Denot c.in_ok-first.first c.args.operands ∙ ap (λ e. chain (view e) (operand_views c.args.operands.items)) c.in_ok-first.ensures.ok, refl)
