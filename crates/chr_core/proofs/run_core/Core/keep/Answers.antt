use Rattle.std.proofs.Common.{[], ap, cond, length, map, not, refl, subst, sym, ℕ, ◌&&◌, ◌++◌, ◌<◌, ◌==◌, ◌∙◌, ◌∷◌, ◌≡◌}
use Rattle.std.proofs.lemmas.List.{length-map, map-append, map-set}
use Rattle.std.proofs.lemmas.Option.{slice_get-map, slice_get_read}
use Rattle.std.specs.Prelude.{Option, List, Some, option_map, set, slice_get}
use Rattle.chr_semantics.specs.Calls.{rise_by_calls}
use Rattle.chr_semantics.specs.State.{start}
use Rattle.chr_semantics.specs.Tasks.{Task, same_task}
use Rattle.chr_find.specs.SnapshotView.{task_view}
use Rattle.chr_rules.specs.RuleView.{query_view}
use Rattle.chr_schedule.specs.EventView.{event_view}
use Rattle.chr_schedule.specs.declared.event.Event.TheVariants.{Arrive}
use Rattle.chr_laws.specs.Kept.{Answered, newest}
use Rattle.chr_laws.specs.Rounds.{Round, ats}
use Rattle.chr_laws.proofs.Flags.{flagged}
use Rattle.chr_shelf.specs.Seat.{ids_of, shots_in, task_of}
use Rattle.chr_core.specs.AnswersView.{guests_in, row_in}
use Rattle.chr_core.specs.Arriving.{answered}
use Rattle.chr_core.specs.CoreView.{core_in}
use Rattle.chr_core.specs.RoundView.{round_view, rounds_view}
use Rattle.chr_core.specs.Shown.{at_in}
use Rattle.chr_core.proofs.Found.{flag_within}
use Rattle.chr_core.proofs.Keeps.{ats_next, kept_next}
use Rattle.chr_core.proofs.Shown.{shown_again}
use Rattle.chr_core.proofs.run_core.Core.keep.Goals as goal

pub keep-requires : goal.keep-requires
keep-requires g c =
    let old = c.args.self.now in
    let rounds = old.rounds.items in
    let i = c.args.round in
    let d = c.index_mut.result.now in
    let lt = subst (λ (n : ℕ). i < n) (length-map (rounds_view rounds) (λ (x : Round). x.at) ∙ length-map rounds round_view) c.requires.there.0 in
    let there = slice_get-map round_view rounds i ∙ ap (option_map round_view) (slice_get_read rounds (length rounds) i d refl lt c.index_mut.ensures.value) in
    subst (λ (x : ℕ). x < length d.is_kept.items) (sym c.index-index.ensures)
    (flag_within g.J.RunName.rules (rise_by_calls g.J.RunName.rules) (start (query_view old.query)) (rounds_view rounds) old.stands.holds.are_rounds i (round_view d) there (answered i c.args.answer.now) refl c.requires.there)

pub invariant_of-self : goal.invariant_of-self
invariant_of-self g c =
    let old = c.args.self.now in
    let p = g.J.RunName.rules in
    let q = start (query_view old.query) in
    let rounds = old.rounds.items in
    let i = c.args.round in
    let d = c.index_mut.result.now in
    let k : Answered = answered i c.args.answer.now in
    let lt = subst (λ (n : ℕ). i < n) (length-map (rounds_view rounds) (λ (x : Round). x.at) ∙ length-map rounds round_view) c.requires.there.0 in
    let there = slice_get-map round_view rounds i ∙ ap (option_map round_view) (slice_get_read rounds (length rounds) i d refl lt c.index_mut.ensures.value) in
    let one_there = slice_get-map round_view rounds i ∙ ap (option_map round_view) (slice_get_read rounds (length rounds) i c.index.result.now refl lt c.index.ensures) in
    let same_round : Some (round_view c.index.result.now) ≡ Some (round_view d) = sym one_there ∙ there in
    let next_is : c.index.result.now.next.0 ≡ d.next.0 = let e : round_view c.index.result.now ≡ round_view d = cc in ap (λ (x : Round). x.next) e in
    let guests_is : c.is_guest-is_guests.result ≡ (k.task.0 == d.next.0) =
    c.is_guest-is_guests.ensures ∙ (λ j. (let t : Task = c.task-task.ensures j in t.0) == next_is j) in
    let rounds_are =
    map-set round_view rounds i c.keep.new.self
    ∙ ap (set (rounds_view rounds) i) (c.keep.ensures ∙ ap (flagged (round_view d)) c.index-index.ensures) in
    let before = core_in old in
    let its = c.is_guest-is_guests.result in
    let first = c.is_newest-is_newest.result in
    let newest_is = λ (n : ℕ). subst (λ (u : Task). newest (ats before.rounds) before.answers (at_in before.rounds i) n (before.row u) ≡ cond first (Some n) (before.row u)) c.task-task.ensures (c.is_newest-is_newest.ensures n) in
    let kept_is : (record { round = i; index = c.index-index.result; task = task_view c.task-task.result; ids = c.found.result.now.ids }) ≡ k = λ j. record { round = i; index = c.index-index.ensures j; task = c.task-task.ensures j; ids = c.found.ensures.ids j } in
    let answers_are = c.put.ensures.answers ∙ ap (λ (x : Answered). (core_in old).answers ++ x ∷ []) kept_is in
    let new_events = ap (map event_view) c.push_reserved.ensures.items ∙ map-append event_view old.events.items (Arrive i c.index-index.result ∷ []) ∙ ap (λ (x : ℕ). map event_view old.events.items ++ Rattle.chr_semantics.specs.Schedule.arrive i x ∷ []) c.index-index.ensures in
    record {
      at = old.at;
      stands = rw new_events (kept_next p (rise_by_calls p) q (map event_view old.events.items) (core_in old) old.stands k (round_view d) there c.requires.there c.is_guest-is_guests.result c.is_newest-is_newest.result guests_is
          _ _ _ _ c.requires.kept c.requires.right newest_is rounds_are answers_are
          (λ t. subst (λ (u : Task). row_in c.put.new.self t ≡ cond (same_task t u && not its) (cond first (Some (length before.answers)) (before.row t)) (before.row t)) c.task-task.ensures (c.put.ensures.row t))
          (λ t. subst (λ (u : Task). guests_in c.put.new.self t ≡ cond (same_task t u && its) (before.guests t ++ length before.answers ∷ []) (before.guests t)) c.task-task.ensures (c.put.ensures.guests t)));
      shown = shown_again p q (rounds_view rounds) (shots_in old.tickets.items) old.shown _
          (ats_next p (rise_by_calls p) q (map event_view old.events.items) (core_in old) old.stands k (round_view d) there c.requires.there c.is_guest-is_guests.result c.is_newest-is_newest.result guests_is _ rounds_are);
      numbered = old.numbered;
    }
