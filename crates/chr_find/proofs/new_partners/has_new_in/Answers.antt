use Rattle.std.proofs.Common.{◌∙◌, arith}
use Rattle.chr_store.specs.declared.id.Id.{Id}
use Rattle.chr_store.specs.declared.row.Row.{Row}
use Rattle.chr_find.proofs.Thresholds.{new_id}
use Rattle.chr_find.proofs.NewRows.{span_new, span_old}
use Rattle.chr_find.proofs.new_partners.has_new_in.Goals as goal

pub returns-then-middle-from : goal.returns-then-middle-from
returns-then-middle-from g c =
    let m : Id × Row g.row.A.Denot = (c.in-Some.middle.key.now, c.in-Some.middle.value.now) in
    span_new c.loop-middle.left c.in-Some.middle.before m c.in-Some.middle.after c.args.from c.in-Some.ensures.some (new_id c.args.from m.0.0 (omega (arith, c.if-middle-from.true))) ∙ c.loop-middle.invariant

pub loop-middle-preserved : goal.loop-middle-preserved
loop-middle-preserved g c =
    let m : Id × Row g.row.A.Denot = (c.in-Some.middle.key.now, c.in-Some.middle.value.now) in
    span_old c.loop-middle.left c.in-Some.middle.before m c.in-Some.middle.after c.args.from c.in-Some.ensures.some c.in-Some.ensures.ascending (omega (arith, c.if-middle-from.false)) ∙ c.loop-middle.invariant
