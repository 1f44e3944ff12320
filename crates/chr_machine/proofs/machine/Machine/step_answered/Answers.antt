use Rattle.chr_machine.specs.Model.{model_of}
use Rattle.chr_machine.proofs.Answered.{answers_step}
use Rattle.chr_machine.proofs.machine.Machine.step_answered.Goals as goal

pub step-requires-clause-answer : goal.step-requires-clause-answer
step-requires-clause-answer g c = answers_step (model_of c.args.self.now.execution) c.args.ids c.args.self.now.steady.proper.sound.agrees c.requires
