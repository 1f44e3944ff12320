-- Names that grow, a step at a time.
use Rattle.std.proofs.Common.{[], ◌∙◌, ◌++◌, ap, append-nil, append_assoc, sym}
use Rattle.chr_semantics.specs.Names.{Names}
use Rattle.chr_rules.specs.Grown.{Grows}

pub grows_none : (a : Names) → Grows a a
grows_none a = record { more = []; is = sym (append-nil a) }

pub grows_both : (a b c : Names) → Grows a b → Grows b c → Grows a c
grows_both a b c f g = record { more = f.more ++ g.more; is = g.is ∙ ap (λ n. n ++ g.more) f.is ∙ append_assoc a f.more g.more }
