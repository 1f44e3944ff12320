use Rattle.std.proofs.Common.{◌∙◌, ◌==◌, ◌||◌, ap, sym}
use Rattle.std.specs.List.{list_any}
use Rattle.std.proofs.lemmas.List.{take_all}
use Rattle.chr_rules.specs.RuleView.{flag_at}
use Rattle.chr_suspicions.proofs.Marked.{symbols_of_heads}
use Rattle.chr_suspicions.proofs.symbols.mark_heads.Goals as goal

pub returns : goal.returns
returns g c f lt =
    let heads = c.deref-head-items.result.now in
    let all = ap (λ hs. list_any (λ h. h.0.0 == f) hs) (take_all c.loop-head.head-index heads c.loop-head-test.false) in
    let same = ap (λ hs. list_any (λ h. h.0.0 == f) hs) c.deref-head-items.ensures.value in
    c.loop-head.invariant f lt ∙ ap (λ b. flag_at c.args.flags.now f || b) (all ∙ same ∙ sym (symbols_of_heads (λ n. n == f) c.args.rule.now.passive.items 0 c.args.rule.now.heads.items))
