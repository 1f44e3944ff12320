use Rattle.std.proofs.Common.{[], ◌∙◌, subst, sym}
use Rattle.chr_semantics.specs.Checked.{each, rule_in}
use Rattle.chr_read.specs.SyntaxView.{part_view, part_views}
use Rattle.chr_rules.specs.Building.{checked_of}
use Rattle.chr_rules.specs.RuleView.{rules_view}
use Rattle.chr_rules.specs.Checks.{IsError}
use Rattle.chr_rules.proofs.Each.{each_more, each_refused, err_answers}
use Rattle.chr_rules.proofs.building.rules.Goals as goal

pub returns-in_err-add_part-clause-refused : goal.returns-in_err-add_part-clause-refused
returns-in_err-add_part-clause-refused g c =
    let refused = each_refused rule_in part_view (checked_of c.loop-part.names c.args.declared (rules_view c.loop-part.rules.items)) c.args.parts.now c.loop-part.part-index c.part-item.result c.in_err-add_part.field-0.0
    c.loop-part-test.true c.part-item.is c.in_err-add_part.ensures.refused in
    err_answers c.from_residual.result c.in_err-add_part.field-0.0 (λ e. IsError e (each rule_in (checked_of c.args.names.now c.args.declared []) (part_views c.args.parts.now))) c.from_residual.ensures.1
    (subst (λ r. IsError c.in_err-add_part.field-0.0 r) (sym c.loop-part.invariant) refused)

pub loop-part-preserved : goal.loop-part-preserved
loop-part-preserved g c =
    c.loop-part.invariant
    ∙ each_more rule_in part_view (checked_of c.loop-part.names c.args.declared (rules_view c.loop-part.rules.items)) (checked_of c.add_part.new.names c.args.declared (rules_view c.add_part.new.rules.items)) c.args.parts.now c.loop-part.part-index c.part-item.result
    c.loop-part-test.true c.part-item.is c.in_ok-add_part.ensures.accepted
