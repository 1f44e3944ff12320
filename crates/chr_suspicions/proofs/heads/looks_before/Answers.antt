use Rattle.std.proofs.Common.{◌&&◌, ◌∙◌, ap, sym}
use Rattle.std.specs.List.{list_any}
use Rattle.chr_semantics.specs.Program.{Head}
use Rattle.chr_semantics.specs.Suspicion.{has_head}
use Rattle.chr_rules.specs.RuleView.{rule_view}
use Rattle.chr_suspicions.proofs.Marked.{symbols_of_heads}
use Rattle.chr_suspicions.proofs.heads.looks_before.Goals as goal

pub returns-then-drops_duplicates : goal.returns-then-drops_duplicates
returns-then-drops_duplicates g c =
    let earlier = rule_view c.args.earlier.now in
    let looks = list_any (λ (h : Head). has_head h.atom.sym earlier) (rule_view c.args.later.now).heads in
    c.shares_symbol.ensures
    ∙ ap (list_any (λ h. has_head h.0.0 earlier)) c.as_slice.ensures.value
    ∙ sym (symbols_of_heads (λ n. has_head n earlier) c.args.later.now.passive.items 0 c.args.later.now.heads.items)
    ∙ ap (λ b. b && looks) c.if-drops_duplicates.ensures
