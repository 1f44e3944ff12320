use Rattle.std.proofs.Common.{IsOk, rules}
use Rattle.std.specs.Arc.{arc_value}
use Rattle.chr_keys.specs.declared.id_list.Items.{Items}
use Rattle.chr_keys.proofs.IdLists.{put_absent, put_there}
use Rattle.chr_keys.proofs.id_list.IdList.put.Goals as goal

pub returns-in-Ok-clause-ok : goal.returns-in-Ok-clause-ok
returns-in-Ok-clause-ok g c = put_there c.args.id c.as_slice.result.now c.args.self.now c.as_slice.ensures.ascending c.as_slice.ensures.ids c.in-Ok.field-0 c.in-Ok.ensures.bound c.in-Ok.ensures.position

pub invariant_of-self-in-Err : goal.invariant_of-self-in-Err
invariant_of-self-in-Err g c =
    let ok : IsOk c.make_mut.result = search rules in
    let changed : Items g.row.A.Denot = record { ids = c.insert.new.self } in
    (put_absent c.args.id c.as_slice.result.now c.args.self.now c.as_slice.ensures.ascending c.as_slice.ensures.ids c.in-Err.position (arc_value c.self.inside.items) c.in_ok-make_mut-in-Err.field-0.now changed (arc_value (c.make_mut.follows.lender changed)) c.self.view_is c.in_ok-make_mut-in-Err.ensures.value (c.make_mut.follows.holds changed ok) c.in-Err.ensures.bound c.in-Err.ensures.position c.in_ok-insert-in-Err.ensures.items).1

pub returns-in_ok-insert-in-Err-clause-ok : goal.returns-in_ok-insert-in-Err-clause-ok
returns-in_ok-insert-in-Err-clause-ok g c =
    let ok : IsOk c.make_mut.result = search rules in
    let changed : Items g.row.A.Denot = record { ids = c.insert.new.self } in
    (put_absent c.args.id c.as_slice.result.now c.args.self.now c.as_slice.ensures.ascending c.as_slice.ensures.ids c.in-Err.position (arc_value c.self.inside.items) c.in_ok-make_mut-in-Err.field-0.now changed (arc_value (c.make_mut.follows.lender changed)) c.self.view_is c.in_ok-make_mut-in-Err.ensures.value (c.make_mut.follows.holds changed ok) c.in-Err.ensures.bound c.in-Err.ensures.position c.in_ok-insert-in-Err.ensures.items).0
