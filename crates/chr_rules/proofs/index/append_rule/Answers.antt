use Rattle.std.proofs.Common.{◌≡◌, ◌∙◌, ap, sym, ◌++◌, arith}
use Rattle.std.specs.Prelude.{slice_get}
use Rattle.chr_rules.specs.Index.{pairs_in}
use Rattle.chr_rules.specs.RuleView.{rule_view}
use Rattle.chr_rules.proofs.Listed.{pairs_of-in}
use Rattle.chr_rules.proofs.index.append_rule.Goals as goal

pub returns : goal.returns
returns g c = λ f.
    let first : c.loop-place.place ≡ 0 = omega arith in
    rw first at (c.loop-place.invariant f)
    ∙ ap (λ ps. pairs_in (slice_get c.args.index.now.items f) ++ ps) (sym (pairs_of-in c.args.number (rule_view c.args.rule.now) f))
