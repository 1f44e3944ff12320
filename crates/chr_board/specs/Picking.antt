-- What is handed out where some tasks are not worth a search.
use Rattle.std.specs.Prelude.{◌≡◌, ℕ, zero, suc, Bool, true, false, cond, List, Option, Some, None, option_map, slice_get}
use Rattle.std.specs.Option.{option_and_then}
use Rattle.chr_semantics.specs.Desk.{Desk, Serial, Slip, next_serial, taken, without_answer}
use Rattle.chr_board.specs.OfferedView.{slip_view}
use Rattle.chr_board.specs.declared.desk.Next.{Next}
use Rattle.chr_board.specs.declared.desk.Next.TheVariants.{Nothing, Stale, Fresh}
use Rattle.chr_board.specs.declared.desk.Picked.{Picked}

-- the slip of a serial
abbrev pub slip_at : List Serial → ℕ → Option Slip
slip_at ss k = option_map (λ s. record { serial = k; place = s.place; index = s.index }) (slice_get ss k)

-- the slip of the least serial that waits, unless the desk is closed
abbrev pub next_slip : {X : Type 0} → Desk X → Option Slip
next_slip d = option_and_then (slip_at d.serials) (next_serial d)

-- what is handed out: the desk afterwards, a slip, where one is fresh, and how many tasks were given up before it
pub record Pick (X : Type 0) : Type 0 where
  pub desk : Desk X
  pub slip : Option Slip
  pub passed : ℕ

-- the same after one more was given up
abbrev pub one_later : {X : Type 0} → Pick X → Pick X
one_later p = record p { passed = suc p.passed }

module _ {X : Type 0} (fresh : ℕ → ℕ → Bool) where
  -- a task is handed out, and given up where it is not fresh, and so on until one is, or as many were given up as may be
  abbrev pub pick : ℕ → Desk X → Pick X
  pick zero d = record { desk = d; slip = None; passed = 0 }
  pick (suc more) d = elim (next_slip d) [
    | None ↦ record { desk = d; slip = None; passed = 0 }
    | Some w ↦ cond (fresh w.place w.index) (record { desk = taken d; slip = Some w; passed = 0 }) (one_later (pick more (without_answer (taken d) w)))
  ]

  -- a task was handed out that is not fresh, and given up
  pub record IsPassed (old new : Desk X) : Type 0 where
    pub slip : Slip
    pub next : next_slip old ≡ Some slip
    pub stale : fresh slip.place slip.index ≡ false
    pub given_up : new ≡ without_answer (taken old) slip

  -- a slip of a task that is fresh was handed out
  pub record IsHanded (old new : Desk X) (slip : Slip) : Type 0 where
    pub next : next_slip old ≡ Some slip
    pub is_fresh : fresh slip.place slip.index ≡ true
    pub out : new ≡ taken old

  -- what the next task comes to
  abbrev pub IsNext : Desk X → Desk X → Next → Type 0
  IsNext old new Nothing = (next_slip old ≡ None) × (new ≡ old)
  IsNext old new Stale = IsPassed old new
  IsNext old new (Fresh slip) = IsHanded old new (slip_view slip)

-- the desk and what it handed out are these
pub record IsPicked {X : Type 0} (p : Pick X) (new : Desk X) (picked : Picked) : Type 0 where
  pub desk : new ≡ p.desk
  pub slip : option_map slip_view picked.slip ≡ p.slip
  pub passed : picked.passed ≡ p.passed
