use Rattle.std.proofs.Common.{IsOk, rules}
use Rattle.std.specs.Arc.{arc_value}
use Rattle.chr_keys.specs.declared.id_list.Items.{Items}
use Rattle.chr_keys.proofs.IdLists.{taken_absent, taken_there}
use Rattle.chr_keys.proofs.id_list.IdList.take_out.Goals as goal

pub returns-in-Err-clause-ok : goal.returns-in-Err-clause-ok
returns-in-Err-clause-ok g c = taken_absent c.args.id c.as_slice.result.now c.args.self.now c.as_slice.ensures.ascending c.as_slice.ensures.ids c.in-Err.field-0 c.in-Err.ensures.bound c.in-Err.ensures.position

pub invariant_of-self-in-Ok : goal.invariant_of-self-in-Ok
invariant_of-self-in-Ok g c =
    let ok : IsOk c.make_mut.result = search rules in
    let changed : Items g.row.A.Denot = record { ids = c.remove.new.self } in
    (taken_there c.args.id c.as_slice.result.now c.args.self.now c.as_slice.ensures.ascending c.as_slice.ensures.ids c.in-Ok.position (arc_value c.self.inside.items) c.in_ok-make_mut-in-Ok.field-0.now changed (arc_value (c.make_mut.follows.lender changed)) c.self.view_is c.in_ok-make_mut-in-Ok.ensures.value (c.make_mut.follows.holds changed ok) c.in-Ok.ensures.bound c.in-Ok.ensures.position c.remove.ensures.items).1

pub returns-in_ok-make_mut-in-Ok-clause-ok : goal.returns-in_ok-make_mut-in-Ok-clause-ok
returns-in_ok-make_mut-in-Ok-clause-ok g c =
    let ok : IsOk c.make_mut.result = search rules in
    let changed : Items g.row.A.Denot = record { ids = c.remove.new.self } in
    (taken_there c.args.id c.as_slice.result.now c.args.self.now c.as_slice.ensures.ascending c.as_slice.ensures.ids c.in-Ok.position (arc_value c.self.inside.items) c.in_ok-make_mut-in-Ok.field-0.now changed (arc_value (c.make_mut.follows.lender changed)) c.self.view_is c.in_ok-make_mut-in-Ok.ensures.value (c.make_mut.follows.holds changed ok) c.in-Ok.ensures.bound c.in-Ok.ensures.position c.remove.ensures.items).0
