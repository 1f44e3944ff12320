use Rattle.std.proofs.lemmas.Result.{IfOk-weaker}
use Rattle.chr_store.specs.Rows.{row_atom}
use Rattle.chr_base.proofs.Searched.{tried_none, tried_some}
use Rattle.chr_base.proofs.base.Base.tried.Goals as goal

pub returns-in-None : goal.returns-in-None
returns-in-None g c = tried_none c.args.self.now c.requires.fresh c.args.active.now c.nothing.result c.nothing.ensures.lists c.nothing.ensures.partial c.in-None.ensures

pub returns : goal.returns
returns g c = IfOk-weaker c.tried.result _ _ (λ tried f. tried_some c.args.self.now c.requires.fresh c.args.active.now tried (row_atom c.in-Some.row.now) f c.in-Some.ensures) c.tried.ensures
