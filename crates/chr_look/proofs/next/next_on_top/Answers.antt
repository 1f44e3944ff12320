use Rattle.chr_rules.specs.ProgramView.{rules_of}
use Rattle.chr_rules.specs.RuleView.{rule_view}
use Rattle.chr_term.specs.TermView.{atom_over}
use Rattle.chr_look.proofs.Placed.{searched_next}
use Rattle.chr_look.proofs.next.next_on_top.Goals as goal

pub returns-in-Some : goal.returns-in-Some
returns-in-Some g c s below runs stack =
    searched_next (rules_of c.args.program.now) s c.in-Active.field-0.0 c.in-Active.number (atom_over c.in-Active.sym c.in-Active.field-3) below c.in-Some.at (rule_view c.rule.result.now) runs (rw c.in-Active.is at stack) c.in-Some.ensures.found
    c.rule.ensures.is
