-- A machine goes on to stand where the transitions of its query's run lead.
use Rattle.std.proofs.Common.{◌≡◌, ◌∙◌, ◌+◌, ℕ, ap, arith, refl, subst, sym}
use Rattle.chr_semantics.specs.Calls.{rise_by_calls, store_calls, history_calls}
use Rattle.chr_semantics.specs.Changes.{Entries, Store}
use Rattle.chr_semantics.specs.Footprint.{IsSound}
use Rattle.chr_semantics.specs.Names.{Names}
use Rattle.chr_semantics.specs.Program.{Program, Query}
use Rattle.chr_semantics.specs.Stamps.{stamp}
use Rattle.chr_semantics.specs.State.{State, start}
use Rattle.chr_semantics.specs.Step.{after}
use Rattle.chr_semantics.specs.Touch.{Mark, rule, symbol}
use Rattle.chr_semantics.proofs.CallsLaw.{calls_law}
use Rattle.chr_semantics.proofs.Soundness.{sound_after, sound_start}
use Rattle.chr_laws.proofs.Risen.{stamp_add}
use Rattle.chr_machine.specs.MachineView.{Further, Moves, Starts}
use Rattle.chr_machine.specs.Model.{Model, state_in}
use Rattle.chr_machine.proofs.Runs.{further_more}
use Rattle.chr_core.specs.IsAt.{IsAt, begun}
use Rattle.chr_core.specs.Marks.{mark_stamp}

pub at_start : (names : Names) (p : Program) (r : Query) (m : Model) → Starts names p r m → IsAt names p r m
at_start names p r m s = record {
  run = record {
    made = ap (λ (k : ℕ). Rattle.chr_semantics.specs.Step.steps p (start r) k) s.steps_are ∙ sym s.steps_are;
    state_is = s.state_is ∙ ap (after p (start r)) (sym s.steps_are);
    lines_are = s.lines_are ∙ ap (Rattle.chr_semantics.specs.Text.trace names r.var_names p (start r) 1) (sym s.steps_are);
    steps_are = omega arith;
    same = record { names = s.names_are; rules = s.rules_are; var_names = s.var_names_are };
  };
  stamps_are = λ x. by x;
}
  where
    by : (x : Mark) → mark_stamp m.base.store m.base.entries x ≡ stamp p (rise_by_calls p) (start r) m.steps x
    by (symbol f) = ap (λ (c : Store). c.stamps f) s.store_is ∙ ap (λ (k : ℕ). stamp p (rise_by_calls p) (start r) k (symbol f)) (sym s.steps_are)
    by (rule n) = ap (λ (h : Entries). h.stamps n) s.entries_are ∙ ap (λ (k : ℕ). stamp p (rise_by_calls p) (start r) k (rule n)) (sym s.steps_are)

-- one transition raises each stamp as it does in the run
stamp_more : (p : Program) (r : Query) (k : ℕ) (x : Mark) → stamp p (rise_by_calls p) (start r) (k + 1) x ≡ stamp p (rise_by_calls p) (start r) k x + rise_by_calls p (after p (start r) k) x
stamp_more p r k x = let e = stamp_add p (rise_by_calls p) (start r) k 1 x in e ∙ omega arith

module _ (names : Names) (p : Program) (r : Query) (m n : Model) (at : IsAt names p r m) (moves : Moves m n) where
  state_is : state_in m ≡ after p (start r) m.steps
  state_is = at.run.state_is

  sound : IsSound (state_in m)
  sound = subst IsSound (sym state_is) (sound_after p m.steps (start r) (sound_start r))

  rules_are : m.rules ≡ p
  rules_are = at.run.same.rules

  stamps_by : (x : Mark) → mark_stamp n.base.store n.base.entries x ≡ stamp p (rise_by_calls p) (start r) (m.steps + 1) x
  stamps_by (symbol f) =
      ap (λ (c : Store). c.stamps f) moves.store_is
      ∙ calls_law.stamps m.rules (state_in m) m.base.store sound refl f
      ∙ (λ k. at.stamps_are (symbol f) k + rise_by_calls (rules_are k) (state_is k) (symbol f))
      ∙ sym (stamp_more p r m.steps (symbol f))
  stamps_by (rule i) =
      ap (λ (h : Entries). h.stamps i) moves.entries_are
      ∙ calls_law.entry_stamps m.rules (state_in m) m.base.entries refl i
      ∙ (λ k. at.stamps_are (rule i) k + rise_by_calls (rules_are k) (state_is k) (rule i))
      ∙ sym (stamp_more p r m.steps (rule i))

  pub at_moved : IsAt names p r n
  at_moved = record {
    run = subst (λ (k : ℕ). Further k (begun names p r) n) (sym moves.steps_are) (further_more m.steps (begun names p r) m n at.run moves);
    stamps_are = λ x. stamps_by x ∙ ap (λ (k : ℕ). stamp p (rise_by_calls p) (start r) k x) (sym moves.steps_are);
  }
