-- The desk: tasks that are offered to workers, handed out and answered, each under a serial of its own (this project's own).
use Rattle.std.specs.Prelude.{◌≡◌, ℕ, zero, suc, ◌+◌, Bool, true, false, cond, not, ◌&&◌, ◌||◌, ◌==◌, nat_lt, List, [], ◌∷◌, ◌++◌, map, length, filter, position, Option, Some, None, slice_get}
use Rattle.chr_semantics.specs.Tasks.{numbers_from}
use Rattle.chr_semantics.specs.declared.limits.TheConstants.{MAX_OFFERED_TASKS}

-- how far the task of a serial has come
pub data Phase : Type 0 where
  waiting : Phase
  out : Phase
  given_up : Phase
  posted : Phase
  drained : Phase

-- a task: the place of its round on the shelf, its index there, and its phase
pub record Serial : Type 0 where
  pub place : ℕ
  pub index : ℕ
  pub phase : Phase

-- The tasks by their serials from 0 on; the serials that are posted, in the order of their posts, each with its answer; and whether the
-- desk is closed.
pub record Desk (A : Type 0) : Type 0 where
  pub serials : List Serial
  pub posts : List (ℕ × A)
  pub closed : Bool

-- a task as it is handed out
pub record Slip : Type 0 where
  pub serial : ℕ
  pub place : ℕ
  pub index : ℕ

abbrev pub open_desk : {A : Type 0} → Desk A
open_desk = record { serials = []; posts = []; closed = false }

abbrev pub is_waiting : Serial → Bool
is_waiting s = elim s.phase [ waiting ↦ true | _ ↦ false ]

abbrev pub is_out : Serial → Bool
is_out s = elim s.phase [ out ↦ true | _ ↦ false ]

abbrev pub is_given_up : Serial → Bool
is_given_up s = elim s.phase [ given_up ↦ true | _ ↦ false ]

abbrev pub is_posted : Serial → Bool
is_posted s = elim s.phase [ posted ↦ true | _ ↦ false ]

abbrev pub is_drained : Serial → Bool
is_drained s = elim s.phase [ drained ↦ true | _ ↦ false ]

-- why tasks are not taken in, the first of these
pub data OfferRefusal : Type 0 where
  is_closed : OfferRefusal
  too_many_tasks : OfferRefusal

abbrev pub offer_refusal : {A : Type 0} → Desk A → ℕ → Option OfferRefusal
offer_refusal d n = cond d.closed (Some is_closed) (cond (nat_lt MAX_OFFERED_TASKS (length d.serials + n)) (Some too_many_tasks) None)

-- the tasks of a round are offered, from index 0 on
abbrev pub offered : {A : Type 0} → Desk A → ℕ → ℕ → Desk A
offered d place n = record d { serials = d.serials ++ map (λ x. record { place = place; index = x; phase = waiting }) (numbers_from 0 n) }

-- the least serial that waits, unless the desk is closed
abbrev pub next_serial : {A : Type 0} → Desk A → Option ℕ
next_serial d = cond d.closed None (position is_waiting d.serials)

abbrev pub with_phase : Phase → List Serial → ℕ → List Serial
with_phase phase [] k = []
with_phase phase (s ∷ others) zero = record s { phase = phase } ∷ others
with_phase phase (s ∷ others) (suc k) = s ∷ with_phase phase others k

-- it is handed out
abbrev pub taken : {A : Type 0} → Desk A → Desk A
taken d = elim (next_serial d) [ None ↦ d | Some k ↦ record d { serials = with_phase out d.serials k } ]

-- the slip's serial is out, for the slip's task
abbrev pub is_slip_of : Slip → Option Serial → Bool
is_slip_of w None = false
is_slip_of w (Some s) = is_out s && (s.place == w.place && s.index == w.index)

abbrev pub holds_slip : {A : Type 0} → Desk A → Slip → Bool
holds_slip d w = is_slip_of w (slice_get d.serials w.serial)

-- an answer is posted, or the task is given up; nothing changes where the slip's serial is not out
abbrev pub with_post : {A : Type 0} → Desk A → Slip → A → Desk A
with_post d w a = cond (holds_slip d w) (record d { serials = with_phase posted d.serials w.serial; posts = d.posts ++ (w.serial, a) ∷ [] }) d

abbrev pub without_answer : {A : Type 0} → Desk A → Slip → Desk A
without_answer d w = cond (holds_slip d w) (record d { serials = with_phase given_up d.serials w.serial }) d

-- the posted answers are handed over, in the order of their posts
abbrev pub answers : {A : Type 0} → Desk A → List A
answers d = map (λ x. x.1) d.posts

abbrev pub handed_over : Serial → Serial
handed_over s = cond (is_posted s) (record s { phase = drained }) s

abbrev pub after_drain : {A : Type 0} → Desk A → Desk A
after_drain d = record d { serials = map handed_over d.serials; posts = [] }

abbrev pub after_close : {A : Type 0} → Desk A → Desk A
after_close d = record d { closed = true }

pub record Totals : Type 0 where
  pub put : ℕ
  pub taken : ℕ
  pub posted : ℕ
  pub given_up : ℕ
  pub drained : ℕ
  pub waiting : ℕ
  pub left : ℕ

-- how many serials are so
abbrev pub count_of : (Serial → Bool) → List Serial → ℕ
count_of test ss = length (filter test ss)

abbrev pub totals_of : List Serial → Totals
totals_of ss = record {
  put = length ss;
  taken = count_of (λ s. not (is_waiting s)) ss;
  posted = count_of (λ s. is_posted s || is_drained s) ss;
  given_up = count_of is_given_up ss;
  drained = count_of is_drained ss;
  waiting = count_of is_waiting ss;
  left = count_of is_posted ss;
}

abbrev pub totals : {A : Type 0} → Desk A → Totals
totals d = totals_of d.serials

-- whatever was offered waits or was taken; what was posted was drained or is left; what was taken was posted, given up, or is out
pub record TotalsLaw : Type 0 where
  pub put : (ss : List Serial) → (totals_of ss).put ≡ (totals_of ss).taken + (totals_of ss).waiting
  pub posted : (ss : List Serial) → (totals_of ss).posted ≡ (totals_of ss).drained + (totals_of ss).left
  pub taken : (ss : List Serial) → (totals_of ss).taken ≡ (totals_of ss).posted + (totals_of ss).given_up + count_of is_out ss
