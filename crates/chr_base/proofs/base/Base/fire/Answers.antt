use Rattle.std.proofs.Common.{◌+◌, drop, subst, sym}
use Rattle.chr_rules.specs.ProgramView.{rules_of}
use Rattle.chr_rules.specs.RuleView.{rule_view}
use Rattle.chr_rules.specs.declared.program.Program.{Program}
use Rattle.chr_base.specs.BaseView.{base_view}
use Rattle.chr_base.specs.Bookmarks.{IsAhead}
use Rattle.chr_base.proofs.Ascending.{ascends_agrees}
use Rattle.chr_base.proofs.Bookmarked.{ahead_behind}
use Rattle.chr_base.proofs.FirstFound.{can_enter, first_rows}
use Rattle.chr_base.proofs.base.Base.fire.Goals as goal

pub settle_fired-requires-clause-can : goal.settle_fired-requires-clause-can
settle_fired-requires-clause-can g c = can_enter (base_view c.args.self.now) c.args.active.now c.args.ids.now (ascends_agrees _ _ _ _ _ c.args.self.now.agrees) c.requires.lives c.requires.found

pub settle_fired-requires-2-clause-can : goal.settle_fired-requires-2-clause-can
settle_fired-requires-2-clause-can g c = can_enter (base_view c.args.self.now) c.args.active.now c.args.ids.now (ascends_agrees _ _ _ _ _ c.args.self.now.agrees) c.requires.lives c.requires.found

pub put-requires-clause-ahead : goal.put-requires-clause-ahead
put-requires-clause-ahead g c =
    let self = c.args.self.now in
    let b = base_view self in
    let s = c.args.active.now in
    let up = ascends_agrees _ _ _ _ _ self.agrees in
    let given = (first_rows b s c.args.ids.now up c.requires.lives c.requires.found).given in
    let new = base_view c.settle_fired-2.new.self in
    subst (λ (p : Program _). IsAhead (rules_of p) new (record { id = s.id; number = s.number; place = s.place; cursor = record { after = c.args.ids.now; from = c.next.result.0 } })) (sym c.in_ok-settle_fired.ensures.program)
    (ahead_behind (rules_of self.program.now) b (drop s.rule.now.kept c.args.ids.now) (b.next_var + c.args.variables) up new _ (rule_view s.rule.now)
    c.in_ok-settle_fired.ensures.ok c.requires.of_program given c.next.ensures c.requires.found)
