use Rattle.std.proofs.Common.{◌==◌, ◌∙◌, ap, sym}
use Rattle.std.specs.List.{list_any}
use Rattle.chr_suspicions.proofs.Marked.{symbols_of_heads}
use Rattle.chr_suspicions.proofs.heads.has_head.Goals as goal

pub returns : goal.returns
returns g c =
    c.have_symbol.ensures
    ∙ ap (list_any (λ h. h.0.0 == c.args.sym.0)) c.as_slice.ensures.value
    ∙ sym (symbols_of_heads (λ n. n == c.args.sym.0) c.args.rule.now.passive.items 0 c.args.rule.now.heads.items)
