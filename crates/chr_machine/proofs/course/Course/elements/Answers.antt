use Rattle.chr_base.specs.BaseView.{base_view}
use Rattle.chr_machine.proofs.Woken.{elements_more}
use Rattle.chr_machine.proofs.course.Course.elements.Goals as goal

pub loop-id-preserved : goal.loop-id-preserved
loop-id-preserved g c = elements_more (base_view c.args.self.now.base).store.rows c.args.ids.now c.loop-id.id-index _ _ _ c.loop-id-test.true c.loop-id.invariant c.in_ok-push_element.ensures
