use Rattle.std.proofs.Common.{◌∙◌, length, sym}
use Rattle.chr_tokens.specs.TokenView.{placed_views}
use Rattle.chr_read.specs.Automaton as m
use Rattle.chr_read.specs.SyntaxView.{part_views}
use Rattle.chr_read.proofs.Listings.{done_ends, done_refuses}
use Rattle.chr_read.proofs.Views.{empty_views, eqb_true, longer_views, not_empty}
use Rattle.chr_read.proofs.reading.program.Goals as goal

pub returns-then-is_empty : goal.returns-then-is_empty
returns-then-is_empty g c =
    let parts = part_views c.in_ok-parts.parts.items in
    let after = c.in_ok-parts.after.now in
    c.in_ok-parts.ensures ∙ done_ends (m.program parts) (placed_views after) (empty_views after (eqb_true (length after) 0 (sym c.if-is_empty.ensures)))

pub returns-else-is_empty : goal.returns-else-is_empty
returns-else-is_empty g c =
    let parts = part_views c.in_ok-parts.parts.items in
    let after = c.in_ok-parts.after.now in
    c.in_ok-parts.ensures ∙ done_refuses (m.program parts) (placed_views after) (longer_views after (not_empty (length after) (sym c.if-is_empty.ensures)))
