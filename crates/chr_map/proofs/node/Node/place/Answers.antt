use Rattle.chr_map.proofs.Clauses.{if_err_more, if_more}
use Rattle.chr_map.proofs.Parts.{spans}
use Rattle.chr_map.proofs.Runs.{above_last, below_first, found_first}
use Rattle.chr_map.proofs.node.Node.place.Goals as goal

pub returns-clause-found : goal.returns-clause-found
returns-clause-found g c = if_more _ _ c.place_among.result c.place_among.ensures.found (λ i h. found_first g.K.Ord.cmp c.args.key.now i (spans c.args.self.now).branches.items h.inside h.here)

pub returns-clause-above : goal.returns-clause-above
returns-clause-above g c = if_err_more _ _ c.place_among.result c.place_among.ensures.between (λ i h. above_last g.K.Ord.cmp c.args.key.now i (spans c.args.self.now).first (spans c.args.self.now).branches.items h.inside h.greater)

pub returns-clause-below : goal.returns-clause-below
returns-clause-below g c = if_err_more _ _ c.place_among.result c.place_among.ensures.between (λ i h. below_first g.K.Ord.cmp c.args.key.now i (spans c.args.self.now).branches.items h.less)
