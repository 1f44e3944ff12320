-- What a list of serials has where one of them comes to another phase.
use Rattle.std.proofs.Common.{◌≡◌, ◌∙◌, ◌+◌, ◌<◌, ◌≤◌, ◌&&◌, ◌==◌, ℕ, zero, suc, Bool, true, false, cond, not, refl, sym, ap, arith, List, [], ◌∷◌, ◌++◌, length, Option, Some, None, map, slice_get, get_or, set, inl, inr, true≢false}
use Rattle.std.specs.Prelude.{◌⊎◌, option_map, unwrap_or, is_some}
use Rattle.std.specs.List.{filter}
use Rattle.chr_semantics.specs.Desk.{Phase, Serial, count_of, is_posted, is_waiting, out, waiting, given_up, posted, drained, with_phase}
use Rattle.chr_board.specs.IsDesk.{seat}
use Rattle.chr_board.specs.OfferedView.{phase_view, offered_task_view, offered_view}
use Rattle.chr_board.specs.declared.offered_task.Phase.{Phase as Code}
use Rattle.chr_board.specs.declared.offered_task.OfferedTask.{OfferedTask}

abbrev pub in_phase : Phase → Serial → Serial
in_phase p s = record s { phase = p }

cond-same : {X : Type 0} (b : Bool) (x : X) → cond b x x ≡ x
cond-same true x = refl
cond-same false x = refl

pub set_phase : (p : Phase) (ss : List Serial) (k : ℕ) (s : Serial) → slice_get ss k ≡ Some s → set ss k (in_phase p s) ≡ with_phase p ss k
set_phase p [] k s e = absurd (true≢false (ap is_some (sym e)))
set_phase p (x ∷ xs) zero s e = ap (λ o. in_phase p (unwrap_or o x) ∷ xs) (sym e)
set_phase p (x ∷ xs) (suc k) s e = ap (λ r. x ∷ r) (set_phase p xs k s e)

pub with_phase-none : (p : Phase) (ss : List Serial) (k : ℕ) → slice_get ss k ≡ None → with_phase p ss k ≡ ss
with_phase-none p [] k e = refl
with_phase-none p (x ∷ xs) zero e = absurd (true≢false (ap is_some e))
with_phase-none p (x ∷ xs) (suc k) e = ap (λ r. x ∷ r) (with_phase-none p xs k e)

-- a task that comes to a phase
pub moved : (offered : List OfferedTask) (k : ℕ) (d : OfferedTask) (p : Code) → k < length offered
    → offered_view (set offered k (record (get_or offered k d) { phase = p })) ≡ with_phase (phase_view p) (offered_view offered) k
moved [] k d p lt = absurd (omega (arith, lt))
moved (r ∷ rs) zero d p lt = refl
moved (r ∷ rs) (suc k) d p lt = ap (λ xs. offered_task_view r ∷ xs) (moved rs k d p (omega (arith, lt)))

pub not_moved : (offered : List OfferedTask) (k : ℕ) (p : Phase) → length offered ≤ k → with_phase p (offered_view offered) k ≡ offered_view offered
not_moved [] k p le = refl
not_moved (r ∷ rs) zero p le = absurd (omega (arith, le))
not_moved (r ∷ rs) (suc k) p le = ap (λ xs. offered_task_view r ∷ xs) (not_moved rs k p (omega (arith, le)))

pub length-with_phase : (p : Phase) (ss : List Serial) (k : ℕ) → length (with_phase p ss k) ≡ length ss
length-with_phase p [] k = refl
length-with_phase p (x ∷ xs) zero = refl
length-with_phase p (x ∷ xs) (suc k) = ap suc (length-with_phase p xs k)

not_zero : (j : ℕ) → (suc j == 0) ≡ false
not_zero j = grind arith

zero_not : (k : ℕ) → (0 == suc k) ≡ false
zero_not k = grind arith

both_more : (j k : ℕ) → (suc j == suc k) ≡ (j == k)
both_more j k = grind arith

-- the serial itself is in the phase, and each other one is as it was
pub get-with_phase : (p : Phase) (ss : List Serial) (k j : ℕ) → slice_get (with_phase p ss k) j ≡ cond (j == k) (option_map (in_phase p) (slice_get ss j)) (slice_get ss j)
get-with_phase p [] k j = sym (cond-same (j == k) None)
get-with_phase p (x ∷ xs) zero zero = refl
get-with_phase p (x ∷ xs) zero (suc j) = ap (λ b. cond b (option_map (in_phase p) (slice_get xs j)) (slice_get xs j)) (sym (not_zero j))
get-with_phase p (x ∷ xs) (suc k) zero = ap (λ b. cond b (Some (in_phase p x)) (Some x)) (sym (zero_not k))
get-with_phase p (x ∷ xs) (suc k) (suc j) = get-with_phase p xs k j ∙ ap (λ b. cond b (option_map (in_phase p) (slice_get xs j)) (slice_get xs j)) (sym (both_more j k))

-- no place and no index changes
pub seat-with_phase : (p : Phase) (ss : List Serial) (k j : ℕ) → option_map seat (slice_get (with_phase p ss k) j) ≡ option_map seat (slice_get ss j)
seat-with_phase p [] k j = refl
seat-with_phase p (x ∷ xs) zero zero = refl
seat-with_phase p (x ∷ xs) zero (suc j) = refl
seat-with_phase p (x ∷ xs) (suc k) zero = refl
seat-with_phase p (x ∷ xs) (suc k) (suc j) = seat-with_phase p xs k j

-- ---- how many pass a test

abbrev pub one : Bool → ℕ
one b = cond b 1 0

pub count_of-step : (t : Serial → Bool) (s : Serial) (ss : List Serial) → count_of t (s ∷ ss) ≡ one (t s) + count_of t ss
count_of-step t s ss = go (t s)
  where
    go : (b : Bool) → length (cond b (s ∷ filter t ss) (filter t ss)) ≡ one b + count_of t ss
    go true = omega arith
    go false = omega arith

pub count_of-with_phase : (t : Serial → Bool) (p : Phase) (ss : List Serial) (k : ℕ) (s : Serial) → slice_get ss k ≡ Some s
    → count_of t (with_phase p ss k) + one (t s) ≡ count_of t ss + one (t (in_phase p s))
count_of-with_phase t p [] k s e = absurd (true≢false (ap is_some (sym e)))
count_of-with_phase t p (x ∷ xs) zero s e =
    let is : x ≡ s = ap (λ o. unwrap_or o x) e in
    let moved = ap (λ y. one (t (in_phase p y))) is in
    let was = ap (λ y. one (t y)) is in
    omega (arith, count_of-step t (in_phase p x) xs, count_of-step t x xs, moved, was)
count_of-with_phase t p (x ∷ xs) (suc k) s e = omega (arith, count_of-step t x (with_phase p xs k), count_of-step t x xs, count_of-with_phase t p xs k s e)

-- one that passes is counted
pub count_of-some : (t : Serial → Bool) (ss : List Serial) (k : ℕ) (s : Serial) → slice_get ss k ≡ Some s → t s ≡ true → 1 ≤ count_of t ss
count_of-some t [] k s e passes = absurd (true≢false (ap is_some (sym e)))
count_of-some t (x ∷ xs) zero s e passes =
    let passed = ap (λ y. one (t y)) (ap (λ o. unwrap_or o x) e) ∙ ap one passes in
    omega (arith, count_of-step t x xs, passed)
count_of-some t (x ∷ xs) (suc k) s e passes = omega (arith, count_of-step t x xs, count_of-some t xs k s e passes)

pub count_of-append : (t : Serial → Bool) (ss others : List Serial) → count_of t (ss ++ others) ≡ count_of t ss + count_of t others
count_of-append t [] others = omega arith
count_of-append t (x ∷ xs) others = omega (arith, count_of-step t x (xs ++ others), count_of-step t x xs, count_of-append t xs others)

one-few : (b : Bool) → one b ≤ 1
one-few true = omega arith
one-few false = omega arith

pub count_of-few : (t : Serial → Bool) (ss : List Serial) → count_of t ss ≤ length ss
count_of-few t [] = omega arith
count_of-few t (x ∷ xs) = omega (arith, count_of-step t x xs, one-few (t x), count_of-few t xs)

-- ---- phases

pub waiting_not_posted : (s : Serial) → is_waiting s ≡ true → is_posted s ≡ false
waiting_not_posted s e = go s.phase e
  where
    go : (p : Phase) → is_waiting (in_phase p s) ≡ true → is_posted (in_phase p s) ≡ false
    go waiting e = refl
    go out e = refl
    go given_up e = refl
    go posted e = absurd (true≢false (sym e))
    go drained e = refl

-- ---- places

-- what stands behind others
pub get-append : (ss others : List Serial) (k : ℕ) (s : Serial) → slice_get (ss ++ others) k ≡ Some s
    → ((k < length ss) × (slice_get ss k ≡ Some s)) ⊎ ((j : ℕ) × (k ≡ length ss + j) × (slice_get others j ≡ Some s))
get-append [] others k s e = inr (k, omega arith, e)
get-append (x ∷ xs) others zero s e = inl (omega arith, e)
get-append (x ∷ xs) others (suc k) s e = go (get-append xs others k s e)
  where
    go : ((k < length xs) × (slice_get xs k ≡ Some s)) ⊎ ((j : ℕ) × (k ≡ length xs + j) × (slice_get others j ≡ Some s))
        → ((suc k < suc (length xs)) × (slice_get xs k ≡ Some s)) ⊎ ((j : ℕ) × (suc k ≡ suc (length xs) + j) × (slice_get others j ≡ Some s))
    go (inl h) = inl (omega (arith, h.0), h.1)
    go (inr h) = inr (h.0, omega (arith, h.1), h.2)

pub get-front : (ss others : List Serial) (k : ℕ) → k < length ss → slice_get (ss ++ others) k ≡ slice_get ss k
get-front [] others k lt = absurd (omega (arith, lt))
get-front (x ∷ xs) others zero lt = refl
get-front (x ∷ xs) others (suc k) lt = get-front xs others k (omega (arith, lt))

-- two lists with the same elements at each place
pub same_at_each : (xs ys : List Serial) → ((k : ℕ) → slice_get xs k ≡ slice_get ys k) → xs ≡ ys
same_at_each [] [] same = refl
same_at_each [] (y ∷ ys) same = absurd (true≢false (sym (ap is_some (same 0))))
same_at_each (x ∷ xs) [] same = absurd (true≢false (ap is_some (same 0)))
same_at_each (x ∷ xs) (y ∷ ys) same =
    let first : x ≡ y = ap (λ o. unwrap_or o x) (same 0) in
    let rest : xs ≡ ys = same_at_each xs ys (λ k. same (suc k)) in
    λ i. first i ∷ rest i
