use Rattle.std.proofs.Common.{ap, option_map, refl, ◌∙◌}
use Rattle.std.proofs.lemmas.Option.{slice_get-map, slice_get_past, slice_get_read}
use Rattle.std.specs.Prelude.{slice_get}
use Rattle.chr_find.specs.SnapshotView.{task_view}
use Rattle.chr_shelf.proofs.solving.task_at.Goals as goal

pub returns-in-None : goal.returns-in-None
returns-in-None g c = λ q is.
    ap (λ ts. slice_get ts c.args.index) (c.tasks.ensures q is) ∙ slice_get-map task_view c.tasks.result.now c.args.index
    ∙ ap (option_map task_view) (slice_get_past c.tasks.result.now c.args.index c.in-None.ensures.lookup.3)

pub returns-in-Some : goal.returns-in-Some
returns-in-Some g c = λ q is.
    ap (λ ts. slice_get ts c.args.index) (c.tasks.ensures q is) ∙ slice_get-map task_view c.tasks.result.now c.args.index
    ∙ ap (option_map task_view) (slice_get_read c.tasks.result.now _ c.args.index c.in-Some.task.now refl c.in-Some.ensures.lookup.3.0 c.in-Some.ensures.lookup.1)
