use Rattle.std.proofs.Common.{◌∙◌, ap, not}
use Rattle.chr_semantics.specs.Changes.{woken}
use Rattle.chr_semantics.specs.Match.{Row}
use Rattle.chr_semantics.specs.Subst.{instances, value_at}
use Rattle.chr_semantics.specs.Tree.{is_ground_trees}
use Rattle.chr_store.specs.Numbers.{numbers}
use Rattle.chr_base.specs.Model.{BaseModel}
use Rattle.chr_base.specs.BaseView.{base_view}
use Rattle.chr_machine.specs.Waking.{elements_at}
use Rattle.chr_machine.proofs.Woken.{found_all}
use Rattle.chr_machine.proofs.course.Course.waking.Goals as goal

pub returns-clause-elems : goal.returns-clause-elems
returns-clause-elems g c =
    let m = base_view c.args.self.now.base in
    let same = c.refresh.ensures.same in
    let ids = ap numbers c.as_slice.ensures.value ∙ (c.in_ok-ids.ensures.woken ∙ ap (λ (b : BaseModel). woken b.store b.subst) same) in
    c.in_ok-elems.ensures
    ∙ (ap (λ (b : BaseModel). elements_at b.store.rows c.as_slice.result.now) same
    ∙ found_all (λ (r : Row). not (is_ground_trees (instances (value_at m.subst) r.1.args))) m.store.rows m.store.next_id c.as_slice.result.now c.requires ids)
