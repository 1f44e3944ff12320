use Rattle.std.proofs.Common.{◌≡◌, ◌+◌, ◌-◌, ◌<◌, ◌≤◌, List, Some, arith, drop, length, subst, sym, ℕ}
use Rattle.std.proofs.lemmas.List.{drop_all}
use Rattle.std.specs.Prelude.{slice_get}
use Rattle.chr_rules.specs.RuleView.{rule_view}
use Rattle.chr_semantics.specs.Program.{Head}
use Rattle.chr_find.specs.Joins.{QuietFrom}
use Rattle.chr_find.proofs.NewRows.{quiet_all, quiet_more}
use Rattle.chr_find.proofs.RuleHeads.{heads_length}
use Rattle.chr_find.proofs.SearchParts.{head_there}
use Rattle.chr_find.proofs.new_partners.quiet_from.Goals as goal

pub loop-quiet-init : goal.loop-quiet-init
loop-quiet-init g c =
    let heads : List Head = (rule_view c.args.rule.now).heads in
    let all : length heads ≤ c.len-quiet.result = omega (arith, heads_length c.args.rule.now.heads.items c.args.rule.now.passive.items, c.len-quiet.ensures) in
    ((omega (arith, c.len-quiet.ensures)), λ rows shown. subst (λ (hs : List Head). QuietFrom rows c.args.place c.args.own c.args.from c.len-quiet.result hs) (sym (drop_all c.len-quiet.result heads all)) tt)

pub loop-quiet-preserved : goal.loop-quiet-preserved
loop-quiet-preserved g c =
    let heads : List Head = (rule_view c.args.rule.now).heads in
    let k : ℕ = c.loop-quiet.quiet - 1 in
    let some : 0 < c.loop-quiet.quiet = omega (arith, c.loop-quiet-test.true) in
    let inside : k < length heads = omega (arith, some, heads_length c.args.rule.now.heads.items c.args.rule.now.passive.items, c.loop-quiet.invariant.0) in
    let x : (x : Head) × (slice_get heads k ≡ Some x) = head_there heads k inside in
    let next : c.loop-quiet.quiet ≡ k + 1 = omega (arith, some) in (
      (omega (arith, c.loop-quiet.invariant.0)),
      λ rows shown. quiet_more rows heads c.args.place c.args.own c.args.from k x.0 x.1 (c.is_new_at.ensures c.if-not-is_new_at.true rows shown x.0 x.1)
          (subst (λ (n : ℕ). QuietFrom rows c.args.place c.args.own c.args.from n (drop n heads)) next (c.loop-quiet.invariant.1 rows shown)),
    )

pub returns-else-not-is_new_at : goal.returns-else-not-is_new_at
returns-else-not-is_new_at g c rows shown = quiet_all rows (rule_view c.args.rule.now).heads c.args.place c.args.own c.args.from c.loop-quiet.quiet (c.loop-quiet.invariant.1 rows shown)

pub returns-after-loop-quiet : goal.returns-after-loop-quiet
returns-after-loop-quiet g c rows shown = quiet_all rows (rule_view c.args.rule.now).heads c.args.place c.args.own c.args.from c.loop-quiet.quiet (c.loop-quiet.invariant.1 rows shown)
