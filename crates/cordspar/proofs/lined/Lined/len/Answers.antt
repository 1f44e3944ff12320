use Rattle.std.proofs.Common.{◌∙◌, ℕ, List, ap, length}
use Rattle.cordspar.specs.Lines.{lines_in}
use Rattle.cordspar.proofs.Lines.{count_are}
use Rattle.cordspar.proofs.lined.Lined.len.Goals as goal

pub returns : goal.returns
returns c =
    let lined = c.self.inside in
    c.len.ensures ∙ (lined.ends.ok.0 ∙ (count_are lined.text.items lined.ends.items c.self.invariant ∙ ap (λ (t : List ℕ). length (lines_in t)) c.self.view_is))
