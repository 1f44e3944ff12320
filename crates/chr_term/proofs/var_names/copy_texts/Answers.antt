use Rattle.std.proofs.Common.{◌∙◌}
use Rattle.std.specs.Prelude.{string_bytes}
use Rattle.chr_term.proofs.Mapped.{map_pushed}
use Rattle.chr_term.proofs.var_names.copy_texts.Goals as goal

pub loop-text-preserved : goal.loop-text-preserved
loop-text-preserved g c =
    rw c.in_ok-push.ensures.items (map_pushed string_bytes string_bytes _ _ _ c.text-item.result _ c.loop-text.invariant c.loop-text-test.true (c.in_ok-from_str.ensures.ok ∙ c.as_str.ensures.value) c.text-item.is)
