use Rattle.std.proofs.Common.{ap, drop}
use Rattle.chr_rules.specs.ProgramView.{names_of}
use Rattle.chr_base.specs.BaseView.{base_view, program_of}
use Rattle.chr_machine.proofs.ShownTexts.{shown_tried}
use Rattle.chr_machine.proofs.course.Course.fire.Goals as goal

pub invariant_of-self : goal.invariant_of-self
invariant_of-self g c =
    let t = c.args.self.now in
    let f = c.args.firing.now in
    record {
      shows = λ right.
          shown_tried c.fire.result (names_of (program_of t.base)) (names_of (program_of c.fire.new.self)) t.var_names (base_view t.base) (base_view c.fire.new.self) t.shown.id.0 t.shown.text.items _ _ (drop f.active.rule.now.kept f.ids)
          c.requires.can.proper.sound.ascends (ap names_of c.fire.ensures.program) c.fire.ensures.ok c.fire.ensures.err (t.shows right);
    }
