use Rattle.chr_run.proofs.running.fn.turns_beside.turns+FnOnce.call_once.Goals as goal

pub turns-requires : goal.turns-requires
turns-requires g c = assumption c.requires
