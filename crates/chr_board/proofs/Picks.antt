-- What is picked, a task at a time.
use Rattle.std.proofs.Common.{◌≡◌, ◌∙◌, ◌+◌, ◌∷◌, [], ℕ, zero, suc, Bool, true, cond, List, Option, Some, None, ap, arith, refl, slice_get, sym}
use Rattle.std.specs.Prelude.{option_map}
use Rattle.std.specs.Option.{option_and_then}
use Rattle.chr_semantics.specs.Desk.{Desk, Phase, Serial, Slip, holds_slip, is_slip_of, next_serial, out, taken, with_phase, without_answer}
use Rattle.chr_board.specs.IsDesk.{seat}
use Rattle.chr_board.specs.Picking.{IsHanded, IsPassed, Pick, next_slip, one_later, pick, slip_at}
use Rattle.chr_board.proofs.Slips.{IsHeld, held_is, one_taken}

-- ---- the slip of the task that is next

-- a task keeps its place and its index in every phase
seat_stays : (phase : Phase) (ss : List Serial) (k : ℕ) → option_map seat (slice_get (with_phase phase ss k) k) ≡ option_map seat (slice_get ss k)
seat_stays phase [] k = refl
seat_stays phase (s ∷ ss) zero = refl
seat_stays phase (s ∷ ss) (suc k) = seat_stays phase ss k

abbrev slip_by_seat : ℕ → ℕ × ℕ → Slip
slip_by_seat k x = record { serial = k; place = x.0; index = x.1 }

by_seat : (k : ℕ) (o : Option Serial) → option_map (λ s. record { serial = k; place = s.place; index = s.index }) o ≡ option_map (slip_by_seat k) (option_map seat o)
by_seat k None = refl
by_seat k (Some s) = refl

-- it is the slip that was handed out
pub next_is_slip : {A : Type 0} (d : Desk A) (w : Slip) → next_serial d ≡ Some w.serial → holds_slip (taken d) w ≡ true → next_slip d ≡ Some w
next_is_slip d w next held =
    let outside : List Serial = with_phase out d.serials w.serial in
    let there : IsHeld outside w = held_is outside w (sym (ap (λ (e : Desk _). is_slip_of w (slice_get e.serials w.serial)) (one_taken d w.serial next)) ∙ held) in
    let seated : option_map seat (slice_get d.serials w.serial) ≡ Some (w.place, w.index) =
    sym (seat_stays out d.serials w.serial) ∙ (ap (option_map seat) there.is_there ∙ ap (λ x. Some x) there.seat_is) in
    ap (option_and_then (slip_at d.serials)) next ∙ (by_seat w.serial (slice_get d.serials w.serial) ∙ ap (option_map (slip_by_seat w.serial)) seated)

-- ---- what is picked

-- after so many more were given up
abbrev pub later : {X : Type 0} → ℕ → Pick X → Pick X
later k p = record p { passed = k + p.passed }

-- one more that was given up counts as one
pub later_one : {X : Type 0} (k : ℕ) (p : Pick X) → later k (one_later p) ≡ later (k + 1) p
later_one k p = ap (λ n. record p { passed = n }) (omega arith)

module _ {X : Type 0} (fresh : ℕ → ℕ → Bool) where
  -- what is picked, by the next slip
  abbrev by_slip : ℕ → Desk X → Option Slip → Pick X
  by_slip more d o = elim o [
    | None ↦ record { desk = d; slip = None; passed = 0 }
    | Some w ↦ cond (fresh w.place w.index) (record { desk = taken d; slip = Some w; passed = 0 }) (one_later (pick fresh more (without_answer (taken d) w)))
  ]

  -- no task waits
  pub pick_none : (n : ℕ) (d : Desk X) → next_slip d ≡ None → pick fresh n d ≡ record { desk = d; slip = None; passed = 0 }
  pick_none zero d e = refl
  pick_none (suc more) d e = ap (by_slip more d) e

  -- the next task is given up
  pub pick_passed : (more : ℕ) (d new : Desk X) → IsPassed fresh d new → pick fresh (suc more) d ≡ one_later (pick fresh more new)
  pick_passed more d new h =
      ap (by_slip more d) h.next
      ∙ ap (λ b. cond b (record { desk = taken d; slip = Some h.slip; passed = 0 }) (one_later (pick fresh more (without_answer (taken d) h.slip)))) h.stale
      ∙ ap (λ e. one_later (pick fresh more e)) (sym h.given_up)

  -- the next task is fresh
  pub pick_handed : (more : ℕ) (d new : Desk X) (w : Slip) → IsHanded fresh d new w → pick fresh (suc more) d ≡ record { desk = new; slip = Some w; passed = 0 }
  pick_handed more d new w h =
      ap (by_slip more d) h.next
      ∙ ap (λ b. cond b (record { desk = taken d; slip = Some w; passed = 0 }) (one_later (pick fresh more (without_answer (taken d) w)))) h.is_fresh
      ∙ ap (λ e. record { desk = e; slip = Some w; passed = 0 }) (sym h.out)
