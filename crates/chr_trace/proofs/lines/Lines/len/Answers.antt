use Rattle.std.proofs.Common.{◌∙◌, ap, length}
use Rattle.chr_trace.specs.Lined.{LinesValue}
use Rattle.chr_trace.proofs.Lined.{count_is}
use Rattle.chr_trace.proofs.lines.Lines.len.Goals as goal

pub returns : goal.returns
returns g c =
    let lines = c.self.inside in
    c.len.ensures ∙ (lines.ends.ok.0 ∙ (count_is lines.text.items lines.ends.items c.self.invariant.0 ∙ ap (λ (v : LinesValue). length v.made) c.self.view_is))
