use Rattle.std.proofs.Common.{ap, sym, ◌∙◌}
use Rattle.std.proofs.lemmas.Option.{slice_get-map}
use Rattle.std.specs.Prelude.{option_map}
use Rattle.chr_core.specs.RoundView.{round_view, rounds_view}
use Rattle.chr_core.proofs.Found.{at_of_round, got}
use Rattle.chr_core.proofs.run_core.Core.transitions_before.Goals as goal

pub returns-in-Some : goal.returns-in-Some
returns-in-Some g c =
    let rounds = c.args.self.now.rounds.items in
    let its = got c.deref.result.now rounds c.args.round c.in-Some.found.now c.deref.ensures.value c.in-Some.ensures.lookup.3.0 c.in-Some.ensures.lookup.1 in
    sym (at_of_round (rounds_view rounds) c.args.round (round_view c.in-Some.found.now) (slice_get-map round_view rounds c.args.round ∙ ap (option_map round_view) its))
