use Rattle.std.proofs.Common.{◌≡◌, ◌∙◌, ap, sym}
use Rattle.chr_semantics.specs.Subst.{apply, instances, value_at}
use Rattle.chr_semantics.specs.Tree.{var}
use Rattle.chr_semantics.specs.Value.{node_value, value, values}
use Rattle.chr_term.specs.TermView.{view}
use Rattle.chr_bind.proofs.Instances.{instance_free, instance_matched}
use Rattle.chr_bind.proofs.Values.{instances_value-other}
use Rattle.chr_bind.proofs.guard.+matched_value.Goals as goal

pub value_under-returns-in-Some : goal.value_under-returns-in-Some
value_under-returns-in-Some g t c m h =
    c.value.ensures ∙ ap value (instance_matched c.args.matching.now m c.in-Var.x (view c.args.pattern.now) c.get.result c.in-Some.matched h (ap view c.in-Var.is) c.get.ensures c.in-Some.is)

pub value_under-returns-in-None : goal.value_under-returns-in-None
value_under-returns-in-None g t c m h =
    let is : view c.args.pattern.now ≡ var c.in-Var.x = ap view c.in-Var.is in
    ap value (sym is ∙ instance_free c.args.matching.now m c.in-Var.x (view c.args.pattern.now) c.get.result h is c.get.ensures c.in-None.is)

pub value_under-returns-in-Node : goal.value_under-returns-in-Node
value_under-returns-in-Node g t c m h =
    let is = ap view c.in-Node.is in
    c.node_value_under.ensures m h ∙ (ap (λ ts. node_value c.in-Node.sym.0 (values (instances (value_at m) ts))) c.as_slice.ensures.value ∙ ap (λ p. value (apply m p)) (sym is))

pub node_value_under-returns-in-None : goal.node_value_under-returns-in-None
node_value_under-returns-in-None g t c m h = sym (instances_value-other (value_at m) c.args.sym.0 c.args.patterns.now c.in-None.ensures)
