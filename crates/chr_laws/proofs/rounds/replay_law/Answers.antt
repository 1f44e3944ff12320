use Rattle.chr_laws.proofs.Replay.{replay_law}
use Rattle.chr_laws.proofs.rounds.replay_law.Goals as goal

pub returns : goal.returns
returns c = replay_law
