use Rattle.std.proofs.Common.{◌∙◌, ◌-◌, ◌<◌, length, ap, arith}
use Rattle.chr_map.proofs.Parts.{nodes_are, spans}
use Rattle.chr_map.proofs.Runs.{at_branch, nodes_first, nodes_branch, place_is}
use Rattle.chr_map.specs.Places.{at_place}
use Rattle.chr_map.proofs.node.Node.tree.Goals as goal

pub returns-then-place-eq0-clause-fewer : goal.returns-then-place-eq0-clause-fewer
returns-then-place-eq0-clause-fewer g c =
    let h = nodes_are c.args.self.now in
    let m = nodes_first (spans c.args.self.now).first (spans c.args.self.now).branches.items in omega arith

pub returns-else-place-eq0-clause-entries : goal.returns-else-place-eq0-clause-entries
returns-else-place-eq0-clause-entries g c =
    let n = spans c.args.self.now in
    let i = c.args.place - 1 in
    let lt : i < length n.branches.items = omega (arith, n.branches.ok.0) in
    at_branch i n.first n.branches.items c.index.result.now lt c.index.ensures ∙ ap (λ j. at_place j n.first n.branches.items) (place_is c.args.place c.if-place-eq0.false)

pub returns-else-place-eq0-clause-fewer : goal.returns-else-place-eq0-clause-fewer
returns-else-place-eq0-clause-fewer g c =
    let h = nodes_are c.args.self.now in
    let m = nodes_branch (c.args.place - 1) (spans c.args.self.now).first (spans c.args.self.now).branches.items c.index.result.now (omega (arith, (spans c.args.self.now).branches.ok.0)) c.index.ensures in omega arith
