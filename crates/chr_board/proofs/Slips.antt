-- What a slip, a take and a post are to a desk.
use Rattle.std.proofs.Common.{◌≡◌, ◌∙◌, ◌+◌, ◌&&◌, ◌==◌, ◌<◌, ℕ, zero, suc, Bool, get_or, true, false, cond, refl, sym, ap, ap₂, arith, List, [], ◌∷◌, ◌++◌, length, map, Option, Some, None, slice_get, true≢false}
use Rattle.std.specs.Prelude.{option_map}
use Rattle.std.specs.List.{position, zip}
use Rattle.std.proofs.lemmas.List.{length-map}
use Rattle.std.proofs.lemmas.Bool.{and_parts}
use Rattle.chr_semantics.specs.Desk.{Desk, Serial, Slip, after_drain, handed_over, holds_slip, is_out, is_slip_of, is_waiting, next_serial, out, posted, taken, with_phase, with_post}
use Rattle.chr_board.specs.IsDesk.{IsDesk, seat}
use Rattle.chr_board.specs.OfferedView.{offered_task_view, offered_view}
use Rattle.chr_board.specs.declared.offered_task.OfferedTask.{OfferedTask}
use Rattle.chr_board.proofs.Keeps.{equal_is}

-- the task that a slip is of
pub record IsHeld (ss : List Serial) (w : Slip) : Type 0 where
  pub task : Serial
  pub is_there : slice_get ss w.serial ≡ Some task
  pub is_out : is_out task ≡ true
  pub seat_is : seat task ≡ (w.place, w.index)

pub held_is : (ss : List Serial) (w : Slip) → is_slip_of w (slice_get ss w.serial) ≡ true → IsHeld ss w
held_is ss w e = go (slice_get ss w.serial) refl e
  where
    go : (o : Option Serial) → slice_get ss w.serial ≡ o → is_slip_of w o ≡ true → IsHeld ss w
    go None found e = absurd (true≢false (sym e))
    go (Some s) found e =
        let parts = and_parts (is_out s) (s.place == w.place && s.index == w.index) e in
        let seats = and_parts (s.place == w.place) (s.index == w.index) parts.1 in
        record {
          task = s;
          is_there = found;
          is_out = parts.0;
          seat_is = ap₂ (λ x y. (x, y)) (equal_is s.place w.place seats.0) (equal_is s.index w.index seats.1);
        }

-- ---- what is next

module _ {A : Type 0} (d : Desk A) where
  pub closed_next : d.closed ≡ true → next_serial d ≡ None
  closed_next e = ap (λ b. cond b None (position is_waiting d.serials)) e

  pub open_next : d.closed ≡ false → next_serial d ≡ position is_waiting d.serials
  open_next e = ap (λ b. cond b None (position is_waiting d.serials)) e

  pub none_taken : next_serial d ≡ None → taken d ≡ d
  none_taken e = ap (λ o. elim o [ None ↦ d | Some k ↦ record d { serials = with_phase out d.serials k } ]) e

  pub one_taken : (k : ℕ) → next_serial d ≡ Some k → taken d ≡ record d { serials = with_phase out d.serials k }
  one_taken k e = ap (λ o. elim o [ None ↦ d | Some j ↦ record d { serials = with_phase out d.serials j } ]) e

-- ---- posts and their answers

pub zip-snoc : {A : Type 0} (ks : List ℕ) (xs : List A) (k : ℕ) (x : A) → length ks ≡ length xs → zip (ks ++ k ∷ []) (xs ++ x ∷ []) ≡ zip ks xs ++ (k, x) ∷ []
zip-snoc [] [] k x e = refl
zip-snoc [] (y ∷ ys) k x e = absurd (omega (arith, e))
zip-snoc (j ∷ js) [] k x e = absurd (omega (arith, e))
zip-snoc (j ∷ js) (y ∷ ys) k x e = ap (λ rest. (j, y) ∷ rest) (zip-snoc js ys k x (omega (arith, e)))

pub length-zip-same : {A : Type 0} (ks : List ℕ) (xs : List A) → length ks ≡ length xs → length (zip ks xs) ≡ length xs
length-zip-same [] [] e = refl
length-zip-same [] (y ∷ ys) e = absurd (omega (arith, e))
length-zip-same (j ∷ js) [] e = refl
length-zip-same (j ∷ js) (y ∷ ys) e = ap suc (length-zip-same js ys (omega (arith, e)))

-- as many answers as posts
pub as_many : {A : Type 0} (seat_at : A → ℕ × ℕ) (ss : List Serial) (next owed : ℕ) (posts : List ℕ) (answers : List A) (post_capacity answer_capacity : ℕ)
    → IsDesk ss next owed posts (map seat_at answers) post_capacity answer_capacity → length posts ≡ length answers
as_many seat_at ss next owed posts answers post_capacity answer_capacity h =
    let seats : List (ℕ × ℕ) = map seat_at answers in
    let same = ap (λ (xs : List (Option (ℕ × ℕ))). length xs) h.seats_are in
    omega (arith, same, length-map seats (λ (x : ℕ × ℕ). Some x), length-map answers seat_at, length-map posts (λ k. option_map seat (slice_get ss k)))

-- ---- a task that is handed out

pub task_at : (offered : List OfferedTask) (k : ℕ) → k < length offered → (s : Serial) × (slice_get (offered_view offered) k ≡ Some s)
task_at [] k lt = absurd (omega (arith, lt))
task_at (r ∷ rs) zero lt = (offered_task_view r, refl)
task_at (r ∷ rs) (suc k) lt = task_at rs k (omega (arith, lt))

equal_self : (a : ℕ) → (a == a) ≡ true
equal_self a = grind arith

-- its slip is one of the desk, once it is out
pub slip_of_task : (offered : List OfferedTask) (k : ℕ) (d : OfferedTask) → k < length offered
    → is_slip_of (record { serial = k; place = (get_or offered k d).place; index = (get_or offered k d).index }) (slice_get (with_phase out (offered_view offered) k) k) ≡ true
slip_of_task [] k d lt = absurd (omega (arith, lt))
slip_of_task (r ∷ rs) zero d lt = ap₂ (λ a b. a && b) (equal_self r.place) (equal_self r.index)
slip_of_task (r ∷ rs) (suc k) d lt = slip_of_task rs k d (omega (arith, lt))

-- ---- a post

pub posted_is : {A : Type 0} (d : Desk A) (w : Slip) (a : A) (ss : List Serial) (posts : List (ℕ × A)) → holds_slip d w ≡ true → ss ≡ with_phase posted d.serials w.serial → posts ≡ d.posts ++ (w.serial, a) ∷ []
    → record d { serials = ss; posts = posts } ≡ with_post d w a
posted_is d w a ss posts held serials all =
    (λ i. record d { serials = serials i; posts = all i })
    ∙ sym (ap (λ b. cond b (record d { serials = with_phase posted d.serials w.serial; posts = d.posts ++ (w.serial, a) ∷ [] }) d) held)

pub drained_is : {A : Type 0} (d : Desk A) (ss : List Serial) (posts : List (ℕ × A)) → ss ≡ map handed_over d.serials → posts ≡ [] → record d { serials = ss; posts = posts } ≡ after_drain d
drained_is d ss posts serials none = λ i. record d { serials = serials i; posts = none i }
