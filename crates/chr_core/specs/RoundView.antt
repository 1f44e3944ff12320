-- What a core keeps, as the laws have it.
use Rattle.std.specs.Prelude.{ℕ, false, List, Option, Vec, length, map, option_map, replicate}
use Rattle.chr_semantics.specs.Program.{Atom}
use Rattle.chr_semantics.specs.Tasks.{Task}
use Rattle.chr_semantics.specs.Tree.{Trees}
use Rattle.chr_laws.specs.Rounds as rounds
use Rattle.chr_laws.specs.Stands as stands
use Rattle.chr_laws.specs.Sums.{marks_at, sum_of}
use Rattle.chr_term.specs.TermView.{atom_over}
use Rattle.chr_term.specs.declared.term.Sym.{Sym}
use Rattle.chr_machine.specs.MachineView.{machine_view}
use Rattle.chr_machine.specs.Model.{Model, state_in}
use Rattle.chr_machine.specs.declared.machine.Machine.{Machine}
use Rattle.chr_core.specs.AnswersView.{answers_in, guests_in, row_in}
use Rattle.chr_core.specs.Marks.{mark_stamp}
use Rattle.chr_core.specs.declared.answers.Answers.{Answers}
use Rattle.chr_core.specs.declared.round.Round.{Round}

-- how often the footprint of a task was touched, for a machine that stands like this
abbrev pub touches_at : Model → Task → ℕ
touches_at m t = sum_of (mark_stamp m.base.store m.base.entries) (marks_at m.rules (state_in m) t)

-- the round of its state, with these tasks and the guest's goal; no answer was kept
abbrev pub round_of : Model → List Task → Option Atom → rounds.Round
round_of m ts g = record { at = m.steps; next = m.base.store.next_id; guest = g; sums = map (touches_at m) ts; flags = replicate (length ts) false }

-- a guest as it is kept: its symbol and its arguments
abbrev pub kept_guest : Option (Sym × Trees) → Option Atom
kept_guest g = option_map (λ p. atom_over p.0 p.1) g

module _ {A : Type 0} where
  abbrev pub round_view : Round A → rounds.Round
  round_view d = record { at = d.at; next = d.next.0; guest = kept_guest d.guest; sums = d.touches.items; flags = d.is_kept.items }

  abbrev pub rounds_view : List (Round A) → List rounds.Round
  rounds_view ds = map round_view ds

  abbrev pub parts : Machine A → List (Round A) → Answers A → ℕ → ℕ → ℕ → ℕ → stands.Core
  parts machine ds answers late double used own = record {
    steps = (machine_view machine).steps;
    rounds = rounds_view ds;
    answers = answers_in answers;
    row = row_in answers;
    guests = guests_in answers;
    late = late;
    double = double;
    used = used;
    own = own;
  }
