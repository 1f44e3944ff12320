use Rattle.std.proofs.Common.{rules, ◌∙◌}
use Rattle.chr_semantics.specs.Checked.{declare}
use Rattle.chr_read.specs.SyntaxView.{declaration_view}
use Rattle.chr_rules.proofs.Each.{each_more, each_refused}
use Rattle.chr_rules.proofs.building.declare_each.Goals as goal

pub returns-in_err-declare-clause-refused : goal.returns-in_err-declare-clause-refused
returns-in_err-declare-clause-refused g c =
    let refused = each_refused (declare c.args.line) declaration_view c.loop-declaration.names c.args.declarations.now c.loop-declaration.declaration-index c.declaration-item.result c.in_err-declare.field-0.0
    c.loop-declaration-test.true c.declaration-item.is c.in_err-declare.ensures.refused in
    rw c.loop-declaration.invariant (search (rules, refused))

pub loop-declaration-preserved : goal.loop-declaration-preserved
loop-declaration-preserved g c =
    c.loop-declaration.invariant
    ∙ each_more (declare c.args.line) declaration_view c.loop-declaration.names c.declare.new.names c.args.declarations.now c.loop-declaration.declaration-index c.declaration-item.result
    c.loop-declaration-test.true c.declaration-item.is c.in_ok-declare.ensures.declared
