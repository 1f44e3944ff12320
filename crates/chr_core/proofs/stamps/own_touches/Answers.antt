use Rattle.std.proofs.Common.{◌≡◌, ◌∙◌, List, Some, ap, sym}
use Rattle.std.specs.Prelude.{option_map}
use Rattle.chr_semantics.specs.Footprint.{marks_added}
use Rattle.chr_semantics.specs.Touch.{Mark}
use Rattle.chr_rules.specs.Index.{pair_view}
use Rattle.chr_rules.specs.ProgramView.{rules_of}
use Rattle.chr_rules.specs.RuleView.{rule_view}
use Rattle.chr_store.specs.HistoryView.{entries_view}
use Rattle.chr_store.specs.StoreView.{store_view}
use Rattle.chr_laws.specs.Sums.{sum_of}
use Rattle.chr_core.specs.Marks.{mark_stamp}
use Rattle.chr_core.proofs.Heads.{occurs_is}
use Rattle.chr_core.proofs.stamps.own_touches.Goals as goal

pub returns-in-Some : goal.returns-in-Some
returns-in-Some g c =
    c.own_heads.ensures
    ∙ ap (sum_of (marks_added c.args.sym.0)) (sym (occurs_is (rules_of c.args.program.now) c.args.sym.0 c.args.number c.in-Some.found.rule c.in-Some.found.place (rule_view c.rule.result.now)
    (sym (ap (option_map pair_view) c.in-Some.is) ∙ c.occurrence.ensures.found) c.rule.ensures.is))
