use Rattle.std.proofs.Common.{[], List, ap, subst, sym, ◌≡◌}
use Rattle.chr_semantics.specs.Calls.{rise_by_calls}
use Rattle.chr_semantics.specs.Names.{Names}
use Rattle.chr_semantics.specs.Program.{Program, Query}
use Rattle.chr_semantics.specs.Schedule.{Event}
use Rattle.chr_semantics.specs.State.{start}
use Rattle.chr_rules.specs.ProgramView.{names_of, rules_of}
use Rattle.chr_rules.specs.RuleView.{query_view}
use Rattle.chr_schedule.specs.EventView.{events_view}
use Rattle.chr_laws.specs.Stands.{Core, Stands, no_core}
use Rattle.chr_laws.proofs.Stands.{stands_law}
use Rattle.chr_machine.specs.MachineView.{Starts, machine_view}
use Rattle.chr_core.specs.RoundView.{parts, rounds_view}
use Rattle.chr_core.proofs.Moves.{at_start}
use Rattle.chr_core.proofs.Shown.{none_shown}
use Rattle.chr_core.proofs.run_core.Core.new.Goals as goal

pub invariant_of-result : goal.invariant_of-result
invariant_of-result g c =
    let p = g.J.RunName.rules in
    let m = machine_view c.in_ok-start.field-0 in
    let r = query_view c.in_ok-copied.copied in
    let s = c.in_ok-start.ensures in
    let starts : Starts m.names p r m =
    subst (λ (n : Names). Starts n p r m) (sym s.names_are)
    (subst (λ (x : Program). Starts (names_of c.args.program.now) x r m) c.requires.rules
    (subst (λ (x : Query). Starts (names_of c.args.program.now) (rules_of c.args.program.now) x m) (sym c.in_ok-copied.ensures) s)) in
    let core : Core = parts c.in_ok-start.field-0 c.new-2.result.items c.new-5.result 0 0 0 0 in
    let core_is : core ≡ no_core = λ k. record {
      steps = s.steps_are k;
      rounds = ap rounds_view c.new-2.ensures.items k;
      answers = c.new-5.ensures.answers k;
      row = λ t. c.new-5.ensures.row t k;
      guests = λ t. c.new-5.ensures.guests t k;
      late = 0;
      double = 0;
      used = 0;
      own = 0;
    } in
    record {
      at = at_start m.names p r m starts;
      stands =
          subst (λ (es : List Event). Stands p (rise_by_calls p) (start r) es core) (sym (ap events_view c.new.ensures.items))
          (subst (λ (z : Core). Stands p (rise_by_calls p) (start r) [] z) (sym core_is) (stands_law.none p (rise_by_calls p) (start r)));
      shown = rw (c.new-2.ensures.items, c.new-3.ensures.items) (none_shown p (start r));
      numbered = λ y. rw c.new-3.ensures.items (c.new-4.ensures y);
    }
