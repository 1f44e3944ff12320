use Rattle.chr_read.proofs.Halted.{halts, refused}
use Rattle.std.proofs.Common.{◌∙◌, ap, sym, arith, refl}
use Rattle.chr_tokens.specs.TokenView.{placed_views}
use Rattle.chr_read.specs.Automaton.{between, limited_room, run}
use Rattle.chr_read.specs.SyntaxView.{part_view, part_views}
use Rattle.chr_read.proofs.Views.{map_pushed}
use Rattle.chr_read.proofs.reading.parts.Goals as goal

pub loop-after-preserved : goal.loop-after-preserved
loop-after-preserved g c =
    let parts = part_views c.loop-after.parts.items in
    let pushed = ap part_views c.in_ok-push-in-None.ensures.items ∙ map_pushed part_view c.loop-after.parts.items c.in_ok-next-in-None.next in
    c.loop-after.invariant
    ∙ c.in_ok-next-in-None.ensures.reads parts
    ∙ ap (λ ps. run limited_room (between ps) (placed_views c.in_ok-next-in-None.others.now)) (sym pushed)

pub loop-after-init : goal.loop-after-init
loop-after-init g c = rw (c.new-parts.ensures.items, c.split_at.ensures.back) refl

pub loop-after-smaller : goal.loop-after-smaller
loop-after-smaller g c = omega (arith, c.in_ok-next-in-None.ensures.shorter)

pub returns-in-Some : goal.returns-in-Some
returns-in-Some g c = c.loop-after.invariant ∙ ap (run limited_room (between (part_views c.loop-after.parts.items))) c.in-Some.ensures.are

pub returns-in_err-next-in-None : goal.returns-in_err-next-in-None
returns-in_err-next-in-None g c =
    halts _ _ _ c.from_residual.result c.in_err-next-in-None.field-0.0 c.from_residual.ensures.1 c.loop-after.invariant (c.in_err-next-in-None.ensures.reads (part_views c.loop-after.parts.items))

pub returns-in_err-push-in-None : goal.returns-in_err-push-in-None
returns-in_err-push-in-None g c = refused _ _ c.from_residual-in_err-push-in-None.result c.from_residual-in_err-push-in-None.ensures.1
