use Rattle.std.proofs.Common.{◌∙◌, [], ap, arith, subst, sym}
use Rattle.std.proofs.lemmas.List.Elements.{All-nil}
use Rattle.chr_semantics.specs.Checked.{checked, declare_in, declared_only, each, rule_in}
use Rattle.chr_semantics.specs.Names.{first_names}
use Rattle.chr_read.specs.SyntaxView.{part_views}
use Rattle.chr_semantics.specs.Bounds.{IsBounded}
use Rattle.chr_rules.specs.Building.{checked_of}
use Rattle.chr_rules.specs.Checks.{IsError}
use Rattle.chr_rules.specs.RuleView.{rules_view}
use Rattle.chr_rules.proofs.Bounded.{bounded_in_all}
use Rattle.chr_rules.proofs.Each.{err_answers}
use Rattle.chr_rules.proofs.Few.{few_in_all}
use Rattle.chr_rules.proofs.Placed.{first_refused, second_refused}
use Rattle.chr_rules.proofs.program.declared_and_rules.Goals as goal

pub returns-in_err-declare_all-clause-refused : goal.returns-in_err-declare_all-clause-refused
returns-in_err-declare_all-clause-refused g c =
    let parts = part_views c.args.parts.now in
    let e = c.in_err-declare_all.field-0.0 in
    let refused = subst (λ names. IsError e (each declare_in names parts)) c.requires c.in_err-declare_all.ensures.refused in
    err_answers c.from_residual.result e (λ e. IsError e (checked parts)) c.from_residual.ensures.1
    (first_refused e (each declare_in first_names parts) (λ names. each rule_in (declared_only names) parts) refused)

pub returns-in_err-rules-clause-refused : goal.returns-in_err-rules-clause-refused
returns-in_err-rules-clause-refused g c =
    let parts = part_views c.args.parts.now in
    let names = c.declare_all.new.names in
    let e = c.in_err-rules.field-0.0 in
    let declared = sym (ap (λ n. each declare_in n parts) c.requires) ∙ c.in_ok-declare_all.ensures.declared in
    let refused = subst (λ n. IsError e (each rule_in (checked_of names n []) parts)) c.len-declared.ensures c.in_err-rules.ensures.refused in
    err_answers c.from_residual-in_err-rules.result e (λ e. IsError e (checked parts)) c.from_residual-in_err-rules.ensures.1
    (second_refused e (each declare_in first_names parts) (λ names. each rule_in (declared_only names) parts) names declared refused)

pub returns-clause-bounded : goal.returns-clause-bounded
returns-clause-bounded g c =
    bounded_in_all (checked_of c.declare_all.new.names c.len-declared.result []) (checked_of c.rules.new.names c.len-declared.result (rules_view c.in_ok-rules.rules.items)) (part_views c.args.parts.now) c.in_ok-rules.ensures.accepted (All-nil IsBounded)

pub returns-clause-few : goal.returns-clause-few
returns-clause-few g c =
    let few = few_in_all (checked_of c.declare_all.new.names c.len-declared.result []) (checked_of c.rules.new.names c.len-declared.result (rules_view c.in_ok-rules.rules.items)) (part_views c.args.parts.now) c.in_ok-rules.ensures.accepted (omega arith, omega arith) in
    omega (arith, few.0, few.1)
