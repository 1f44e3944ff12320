use Rattle.std.proofs.Common.{◌≡◌, map, take}
use Rattle.chr_trace.specs.State.{elem_view}
use Rattle.chr_base.specs.BaseView.{base_view}
use Rattle.chr_machine.specs.Waking.{elements_at}
use Rattle.chr_machine.proofs.course.Course.elements.Given as goal

abbrev pub invariant-loop-id : goal.invariant-loop-id
invariant-loop-id g l = map elem_view l.elems.items ≡ elements_at (base_view l.self.base).store.rows (take l.id-index l.ids)
