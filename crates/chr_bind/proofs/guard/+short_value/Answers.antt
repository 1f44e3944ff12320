use Rattle.std.proofs.Common.{◌∙◌, ap, sym}
use Rattle.std.proofs.lemmas.Option.{IfSome_then}
use Rattle.chr_semantics.specs.Value.{value}
use Rattle.chr_term.specs.TermView.{view}
use Rattle.chr_bind.proofs.Instances.{instance_matched}
use Rattle.chr_bind.proofs.guard.+short_value.Goals as goal

pub short_value_under-returns-in-Some : goal.short_value_under-returns-in-Some
short_value_under-returns-in-Some g t c =
    IfSome_then c.short_number.result c.short_number.ensures
    (λ short is m h. ap value (sym (instance_matched c.args.matching.now m c.in-Var.x (view c.args.pattern.now) c.get.result c.in-Some.matched h (ap view c.in-Var.is) c.get.ensures c.in-Some.is) ∙ is))
