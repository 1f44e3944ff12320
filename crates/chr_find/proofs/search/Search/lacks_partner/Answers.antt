use Rattle.std.proofs.Common.{◌<◌, arith, length}
use Rattle.std.proofs.lemmas.Bool.{ne_eqb}
use Rattle.chr_rules.specs.RuleView.{rule_view}
use Rattle.chr_find.proofs.RuleHeads.{heads_length}
use Rattle.chr_find.proofs.SearchParts.{head_there}
use Rattle.chr_find.proofs.search.Search.lacks_partner.Goals as goal

pub returns-then-is_barren : goal.returns-then-is_barren
returns-then-is_barren g c t rows shown =
    let s = c.args.self.now in
    let level = c.loop-level.level in
    let lt : level < length (rule_view s.rule.now).heads = omega (arith, heads_length s.rule.now.heads.items s.rule.now.passive.items, c.loop-level-test.true, c.len-level-end.ensures) in
    let x = head_there (rule_view s.rule.now).heads level lt in
    (level, x.0, x.1, ne_eqb level s.place c.if-level-self.true, c.is_barren.ensures c.if-is_barren.true x.0 x.1 rows shown)
