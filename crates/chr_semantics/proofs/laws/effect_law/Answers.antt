use Rattle.chr_semantics.proofs.EffectLaw.{effect_law}
use Rattle.chr_semantics.proofs.laws.effect_law.Goals as goal

pub returns : goal.returns
returns c = effect_law
