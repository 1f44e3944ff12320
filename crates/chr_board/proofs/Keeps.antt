-- Each call keeps what is true of the fields of a desk.
use Rattle.std.proofs.Common.{◌≡◌, ◌∙◌, ◌+◌, ◌-◌, ◌<◌, ◌≤◌, ◌&&◌, ◌||◌, ◌==◌, ℕ, zero, suc, Bool, true, false, cond, not, refl, sym, ap, ap₂, subst, arith, List, [], ◌∷◌, ◌++◌, length, Option, Some, None, map, nat_lt, slice_get, inl, inr, true≢false}
use Rattle.std.proofs.lemmas.List.{length-append, length-map}
use Rattle.std.proofs.lemmas.Option.{slice_get-map}
use Rattle.std.specs.Prelude.{◌⊎◌, option_map, unwrap_or, is_some}
use Rattle.std.specs.List.{list_any, position, position_or_len}
use Rattle.chr_semantics.specs.Desk.{Phase, Serial, count_of, drained, given_up, handed_over, is_out, is_posted, is_waiting, out, posted, waiting, with_phase}
use Rattle.chr_semantics.specs.declared.limits.TheConstants.{MAX_OFFERED_TASKS}
use Rattle.chr_board.specs.IsDesk.{IsDesk, are_once, is_among, is_owed, seat, tasks_at}
use Rattle.chr_board.proofs.Phases.{count_of-append, count_of-few, count_of-some, count_of-step, count_of-with_phase, get-append, get-front, get-with_phase, in_phase, length-with_phase, one, seat-with_phase, waiting_not_posted}
use Rattle.std.proofs.Math.Bool.{or-true}

pub nothing_offered : (post_room answer_room : ℕ) → IsDesk [] 0 0 [] [] post_room answer_room
nothing_offered post_room answer_room = record {
  within = omega arith;
  few = omega arith;
  waits_from = λ k s e. absurd (true≢false (ap is_some (sym e)));
  owed_are = refl;
  posts_are = λ k s e. absurd (true≢false (ap is_some (sym e)));
  posts_once = refl;
  seats_are = refl;
  post_room = omega arith;
  answer_room = omega arith;
}

some_is : {X : Type 0} (x y : X) → Some x ≡ Some y → x ≡ y
some_is x y e = ap (λ o. unwrap_or o x) e

same_seats : (p : Phase) (ss : List Serial) (j : ℕ) (posts : List ℕ)
    → map (λ k. option_map seat (slice_get (with_phase p ss j) k)) posts ≡ map (λ k. option_map seat (slice_get ss k)) posts
same_seats p ss j posts = λ i. map (λ k. seat-with_phase p ss j k i) posts

pub equal_is : (a b : ℕ) → (a == b) ≡ true → a ≡ b
equal_is a b e = grind (arith, e)

unequal_is : (a b : ℕ) → (a == b) ≡ false → nat_lt a (b + 1) ≡ nat_lt a b
unequal_is a b e = grind (arith, e)

below_next : (a : ℕ) → nat_lt a (a + 1) ≡ true
below_next a = grind arith

below_self : (a : ℕ) → nat_lt a a ≡ false
below_self a = grind arith

-- ---- what is among the posts

map-snoc : {X Y : Type 0} (f : X → Y) (xs : List X) (x : X) → map f (xs ++ x ∷ []) ≡ map f xs ++ f x ∷ []
map-snoc f [] x = refl
map-snoc f (y ∷ ys) x = ap (λ r. f y ∷ r) (map-snoc f ys x)

pub length-snoc : {X : Type 0} (xs : List X) (x : X) → length (xs ++ x ∷ []) ≡ length xs + 1
length-snoc [] x = refl
length-snoc (y ∷ ys) x = omega (arith, length-snoc ys x)

equal_sym : (a b : ℕ) (r : Bool) → (a == b) ≡ r → (b == a) ≡ r
equal_sym a b true e = grind (arith, e)
equal_sym a b false e = grind (arith, e)

among_last : (posts : List ℕ) (at k : ℕ) → (at == k) ≡ true → is_among (posts ++ at ∷ []) k ≡ true
among_last [] at k e = ap (λ b. b || false) e
among_last (p ∷ ps) at k e = ap (λ b. (p == k) || b) (among_last ps at k e) ∙ or-true (p == k)

among_other : (posts : List ℕ) (at k : ℕ) → (at == k) ≡ false → is_among (posts ++ at ∷ []) k ≡ is_among posts k
among_other [] at k e = ap (λ b. b || false) e
among_other (p ∷ ps) at k e = ap (λ b. (p == k) || b) (among_other ps at k e)

-- one more that is not among them
not_or : (a b : Bool) → (a || b) ≡ false → (a ≡ false) × (b ≡ false)
not_or true b e = absurd (true≢false e)
not_or false b e = (refl, e)

not_and : (a b : Bool) → (not a && b) ≡ true → (a ≡ false) × (b ≡ true)
not_and true b e = absurd (true≢false (sym e))
not_and false b e = (refl, e)

once_more : (posts : List ℕ) (at : ℕ) → are_once posts ≡ true → is_among posts at ≡ false → are_once (posts ++ at ∷ []) ≡ true
once_more [] at once new = refl
once_more (p ∷ ps) at once new =
    let apart = not_or (p == at) (is_among ps at) new in
    let both = not_and (is_among ps p) (are_once ps) once in
    ap₂ (λ a b. not a && b) (among_other ps at p (equal_sym p at false apart.0) ∙ both.0) (once_more ps at both.1 apart.1)

-- ---- tasks that are offered

pub length-tasks_at : (place from n : ℕ) → length (tasks_at place from n) ≡ n
length-tasks_at place from zero = refl
length-tasks_at place from (suc n) = ap suc (length-tasks_at place (from + 1) n)

owed-tasks_at : (place from n : ℕ) → count_of is_owed (tasks_at place from n) ≡ n
owed-tasks_at place from zero = refl
owed-tasks_at place from (suc n) = ap suc (owed-tasks_at place (from + 1) n)

waits-tasks_at : (place from n j : ℕ) (s : Serial) → slice_get (tasks_at place from n) j ≡ Some s → is_waiting s ≡ true
waits-tasks_at place from zero j s e = absurd (true≢false (ap is_some (sym e)))
waits-tasks_at place from (suc n) zero s e = ap is_waiting (sym (some_is _ _ e))
waits-tasks_at place from (suc n) (suc j) s e = waits-tasks_at place (from + 1) n j s e

-- one task more
tasks_at-more : (place from n : ℕ) → tasks_at place from (n + 1) ≡ tasks_at place from n ++ record { place = place; index = from + n; phase = waiting } ∷ []
tasks_at-more place from zero = ap (λ x. record { place = place; index = x; phase = waiting } ∷ []) (omega arith)
tasks_at-more place from (suc n) =
    ap (tasks_at place from) (more n)
    ∙ ap (λ xs. record { place = place; index = from; phase = waiting } ∷ xs)
    (tasks_at-more place (from + 1) n ∙ ap (λ x. tasks_at place (from + 1) n ++ record { place = place; index = x; phase = waiting } ∷ []) (omega arith))
  where
    more : (n : ℕ) → suc n + 1 ≡ suc (n + 1)
    more n = omega arith

pub tasks_at-next : (place n : ℕ) → tasks_at place 0 (n + 1) ≡ tasks_at place 0 n ++ record { place = place; index = n; phase = waiting } ∷ []
tasks_at-next place n = tasks_at-more place 0 n ∙ ap (λ x. tasks_at place 0 n ++ record { place = place; index = x; phase = waiting } ∷ []) (omega arith)

not_below : (k next : ℕ) → next ≤ k → nat_lt k next ≡ false
not_below k next le = grind (arith, le)

abbrev is_full : {X : Type 0} → List X → Bool
is_full [] = false
is_full (x ∷ xs) = true

abbrev first_or : {X : Type 0} → X → List X → X
first_or d [] = d
first_or d (x ∷ xs) = x

abbrev rest_of : {X : Type 0} → List X → List X
rest_of [] = []
rest_of (x ∷ xs) = xs

-- a post has a serial
is_there : (ss : List Serial) (k : ℕ) (x : ℕ × ℕ) → Some x ≡ option_map seat (slice_get ss k) → k < length ss
is_there [] k x e = absurd (true≢false (ap is_some e))
is_there (s ∷ others) zero x e = omega arith
is_there (s ∷ others) (suc k) x e = omega (arith, is_there others k x e)

not_among : (ss : List Serial) (seats : List (ℕ × ℕ)) (posts : List ℕ) → map Some seats ≡ map (λ k. option_map seat (slice_get ss k)) posts → (k : ℕ) → length ss ≤ k → is_among posts k ≡ false
not_among ss seats [] e k le = refl
not_among ss [] (p ∷ ps) e k le = absurd (true≢false (sym (ap is_full e)))
not_among ss (x ∷ xs) (p ∷ ps) e k le =
    let lt : p < length ss = is_there ss p x (ap (first_or (Some x)) e) in
    ap₂ (λ a b. a || b) (other p k (omega (arith, lt, le))) (not_among ss xs ps (ap rest_of e) k le)
  where
    other : (a b : ℕ) → a < b → (a == b) ≡ false
    other a b lt = grind (arith, lt)

-- ---- tasks that are handed over

waiting-handed : (s : Serial) → is_waiting (handed_over s) ≡ is_waiting s
waiting-handed s = go s.phase
  where
    go : (p : Phase) → is_waiting (handed_over (in_phase p s)) ≡ is_waiting (in_phase p s)
    go waiting = refl
    go out = refl
    go given_up = refl
    go posted = refl
    go drained = refl

posted-handed : (s : Serial) → is_posted (handed_over s) ≡ false
posted-handed s = go s.phase
  where
    go : (p : Phase) → is_posted (handed_over (in_phase p s)) ≡ false
    go waiting = refl
    go out = refl
    go given_up = refl
    go posted = refl
    go drained = refl

owed-one : (s : Serial) → is_owed (handed_over s) ≡ is_owed s
owed-one s = go s.phase
  where
    go : (p : Phase) → is_owed (handed_over (in_phase p s)) ≡ is_owed (in_phase p s)
    go waiting = refl
    go out = refl
    go given_up = refl
    go posted = refl
    go drained = refl

owed-handed : (ss : List Serial) → count_of is_owed (map handed_over ss) ≡ count_of is_owed ss
owed-handed [] = refl
owed-handed (x ∷ xs) = count_of-step is_owed (handed_over x) (map handed_over xs) ∙ ap₂ (λ b n. one b + n) (owed-one x) (owed-handed xs) ∙ sym (count_of-step is_owed x xs)

-- ---- taking

module _ (ss : List Serial) (next owed : ℕ) (posts : List ℕ) (seats : List (ℕ × ℕ)) (post_room answer_room : ℕ) (h : IsDesk ss next owed posts seats post_room answer_room) where
  -- the one at `next` waits, if there is one
  pub next_waits : (s : Serial) → slice_get ss next ≡ Some s → is_waiting s ≡ true
  next_waits s e = h.waits_from next s e ∙ ap not (below_self next)

  pub take_keeps : (s : Serial) → slice_get ss next ≡ Some s → next < length ss → IsDesk (with_phase out ss next) (next + 1) owed posts seats post_room answer_room
  take_keeps s found lt =
      let waited : is_waiting s ≡ true = next_waits s found in
      let same : one (is_owed s) ≡ 1 = rw waited refl in
      record {
        within = omega (arith, lt, length-with_phase out ss next);
        few = omega (arith, h.few, length-with_phase out ss next);
        waits_from = λ k r e. waits k r (k == next) refl e;
        owed_are = omega (arith, h.owed_are, same, count_of-with_phase is_owed out ss next s found);
        posts_are = λ k r e. are k r (k == next) refl e;
        posts_once = h.posts_once;
        seats_are = h.seats_are ∙ sym (same_seats out ss next posts);
        post_room = h.post_room;
        answer_room = h.answer_room;
      }
    where
      waits : (k : ℕ) (r : Serial) (b : Bool) → (k == next) ≡ b → slice_get (with_phase out ss next) k ≡ Some r → is_waiting r ≡ not (nat_lt k (next + 1))
      waits k r true eq e =
          let is : k ≡ next = equal_is k next eq in
          let found_is : Some (in_phase out s) ≡ Some r = sym (ap (option_map (in_phase out)) (ap (slice_get ss) is ∙ found)) ∙ sym (get-with_phase out ss next k ∙ ap (λ b. cond b (option_map (in_phase out) (slice_get ss k)) (slice_get ss k)) eq) ∙ e in
          ap is_waiting (sym (some_is _ _ found_is)) ∙ sym (ap not (ap (λ n. nat_lt n (next + 1)) is ∙ below_next next))
      waits k r false eq e =
          let was : slice_get ss k ≡ Some r = sym (get-with_phase out ss next k ∙ ap (λ b. cond b (option_map (in_phase out) (slice_get ss k)) (slice_get ss k)) eq) ∙ e in
          h.waits_from k r was ∙ sym (ap not (unequal_is k next eq))

      are : (k : ℕ) (r : Serial) (b : Bool) → (k == next) ≡ b → slice_get (with_phase out ss next) k ≡ Some r → is_posted r ≡ is_among posts k
      are k r true eq e =
          let is : k ≡ next = equal_is k next eq in
          let found_is : Some (in_phase out s) ≡ Some r = sym (ap (option_map (in_phase out)) (ap (slice_get ss) is ∙ found)) ∙ sym (get-with_phase out ss next k ∙ ap (λ b. cond b (option_map (in_phase out) (slice_get ss k)) (slice_get ss k)) eq) ∙ e in
          ap is_posted (sym (some_is _ _ found_is)) ∙ sym (waiting_not_posted s (next_waits s found)) ∙ h.posts_are next s found ∙ ap (is_among posts) (sym is)
      are k r false eq e =
          let was : slice_get ss k ≡ Some r = sym (get-with_phase out ss next k ∙ ap (λ b. cond b (option_map (in_phase out) (slice_get ss k)) (slice_get ss k)) eq) ∙ e in
          h.posts_are k r was

  -- ---- a task that is out

  abbrev IsOutAt : ℕ → Serial → Type 0
  IsOutAt at s = (slice_get ss at ≡ Some s) × (is_out s ≡ true)

  out_not_waiting : (s : Serial) → is_out s ≡ true → is_waiting s ≡ false
  out_not_waiting s e = go s.phase e
    where
      go : (p : Phase) → is_out (in_phase p s) ≡ true → is_waiting (in_phase p s) ≡ false
      go waiting e = absurd (true≢false (sym e))
      go out e = refl
      go given_up e = refl
      go posted e = refl
      go drained e = refl

  out_not_posted : (s : Serial) → is_out s ≡ true → is_posted s ≡ false
  out_not_posted s e = go s.phase e
    where
      go : (p : Phase) → is_out (in_phase p s) ≡ true → is_posted (in_phase p s) ≡ false
      go waiting e = refl
      go out e = refl
      go given_up e = refl
      go posted e = absurd (true≢false (sym e))
      go drained e = refl

  owed_once : (s : Serial) → is_out s ≡ true → one (is_owed s) ≡ 1
  owed_once s e = rw (out_not_waiting s e, e) refl

  pub owed_some : (at : ℕ) (s : Serial) → slice_get ss at ≡ Some s → is_out s ≡ true → 1 ≤ owed
  owed_some at s found is = omega (arith, h.owed_are, count_of-some is_owed ss at s found (rw (out_not_waiting s is, is) refl))

  -- whatever comes of it, it did not wait
  closes : (p : Phase) (at : ℕ) (s : Serial) → slice_get ss at ≡ Some s → is_out s ≡ true → is_waiting (in_phase p s) ≡ false → (k : ℕ) (r : Serial)
      → slice_get (with_phase p ss at) k ≡ Some r → is_waiting r ≡ not (nat_lt k next)
  closes p at s found is never k r e = go (k == at) refl
    where
      go : (b : Bool) → (k == at) ≡ b → is_waiting r ≡ not (nat_lt k next)
      go true eq =
          let same : k ≡ at = equal_is k at eq in
          let found_is : Some (in_phase p s) ≡ Some r = sym (ap (option_map (in_phase p)) (ap (slice_get ss) same ∙ found)) ∙ sym (get-with_phase p ss at k ∙ ap (λ b. cond b (option_map (in_phase p) (slice_get ss k)) (slice_get ss k)) eq) ∙ e in
          ap is_waiting (sym (some_is _ _ found_is)) ∙ never ∙ sym (out_not_waiting s is) ∙ h.waits_from at s found ∙ ap (λ n. not (nat_lt n next)) (sym same)
      go false eq = h.waits_from k r (sym (get-with_phase p ss at k ∙ ap (λ b. cond b (option_map (in_phase p) (slice_get ss k)) (slice_get ss k)) eq) ∙ e)

  pub give_up_keeps : (at : ℕ) (s : Serial) → slice_get ss at ≡ Some s → is_out s ≡ true → IsDesk (with_phase given_up ss at) next (owed - 1) posts seats post_room answer_room
  give_up_keeps at s found is =
      let less : count_of is_owed (with_phase given_up ss at) + 1 ≡ count_of is_owed ss =
      omega (arith, owed_once s is, count_of-with_phase is_owed given_up ss at s found) in
      record {
        within = omega (arith, h.within, length-with_phase given_up ss at);
        few = omega (arith, h.few, length-with_phase given_up ss at);
        waits_from = closes given_up at s found is refl;
        owed_are = omega (arith, h.owed_are, less);
        posts_are = are;
        posts_once = h.posts_once;
        seats_are = h.seats_are ∙ sym (same_seats given_up ss at posts);
        post_room = omega (arith, h.post_room);
        answer_room = omega (arith, h.answer_room);
      }
    where
      are : (k : ℕ) (r : Serial) → slice_get (with_phase given_up ss at) k ≡ Some r → is_posted r ≡ is_among posts k
      are k r e = go (k == at) refl
        where
          go : (b : Bool) → (k == at) ≡ b → is_posted r ≡ is_among posts k
          go true eq =
              let same : k ≡ at = equal_is k at eq in
              let found_is : Some (in_phase given_up s) ≡ Some r = sym (ap (option_map (in_phase given_up)) (ap (slice_get ss) same ∙ found)) ∙ sym (get-with_phase given_up ss at k ∙ ap (λ b. cond b (option_map (in_phase given_up) (slice_get ss k)) (slice_get ss k)) eq) ∙ e in
              ap is_posted (sym (some_is _ _ found_is)) ∙ sym (out_not_posted s is) ∙ h.posts_are at s found ∙ ap (is_among posts) (sym same)
          go false eq = h.posts_are k r (sym (get-with_phase given_up ss at k ∙ ap (λ b. cond b (option_map (in_phase given_up) (slice_get ss k)) (slice_get ss k)) eq) ∙ e)

  pub post_keeps : (at : ℕ) (s : Serial) → slice_get ss at ≡ Some s → is_out s ≡ true
      → IsDesk (with_phase posted ss at) next (owed - 1) (posts ++ at ∷ []) (seats ++ seat s ∷ []) post_room answer_room
  post_keeps at s found is =
      let less : count_of is_owed (with_phase posted ss at) + 1 ≡ count_of is_owed ss =
      omega (arith, owed_once s is, count_of-with_phase is_owed posted ss at s found) in
      let some : 1 ≤ owed = owed_some at s found is in
      record {
        within = omega (arith, h.within, length-with_phase posted ss at);
        few = omega (arith, h.few, length-with_phase posted ss at);
        waits_from = closes posted at s found is refl;
        owed_are = omega (arith, h.owed_are, less);
        posts_are = are;
        posts_once = once_more posts at h.posts_once (sym (h.posts_are at s found) ∙ out_not_posted s is);
        seats_are = seats_more;
        post_room = omega (arith, h.post_room, some, length-snoc posts at);
        answer_room = omega (arith, h.answer_room, some, length-snoc posts at);
      }
    where
      are : (k : ℕ) (r : Serial) → slice_get (with_phase posted ss at) k ≡ Some r → is_posted r ≡ is_among (posts ++ at ∷ []) k
      are k r e = go (k == at) refl
        where
          go : (b : Bool) → (k == at) ≡ b → is_posted r ≡ is_among (posts ++ at ∷ []) k
          go true eq =
              let same : k ≡ at = equal_is k at eq in
              let found_is : Some (in_phase posted s) ≡ Some r = sym (ap (option_map (in_phase posted)) (ap (slice_get ss) same ∙ found)) ∙ sym (get-with_phase posted ss at k ∙ ap (λ b. cond b (option_map (in_phase posted) (slice_get ss k)) (slice_get ss k)) eq) ∙ e in
              ap is_posted (sym (some_is _ _ found_is)) ∙ sym (among_last posts at k (equal_sym k at true eq))
          go false eq =
              h.posts_are k r (sym (get-with_phase posted ss at k ∙ ap (λ b. cond b (option_map (in_phase posted) (slice_get ss k)) (slice_get ss k)) eq) ∙ e)
              ∙ sym (among_other posts at k (equal_sym k at false eq))

      seats_more : map Some (seats ++ seat s ∷ []) ≡ map (λ k. option_map seat (slice_get (with_phase posted ss at) k)) (posts ++ at ∷ [])
      seats_more =
          map-snoc Some seats (seat s)
          ∙ ap₂ (λ xs x. xs ++ x ∷ []) (h.seats_are ∙ sym (same_seats posted ss at posts)) (sym (seat-with_phase posted ss at at ∙ ap (option_map seat) found))
          ∙ sym (map-snoc (λ k. option_map seat (slice_get (with_phase posted ss at) k)) posts at)

  -- ---- draining

  pub drain_keeps : IsDesk (map handed_over ss) next owed [] [] post_room answer_room
  drain_keeps = record {
    within = omega (arith, h.within, length-map ss handed_over);
    few = omega (arith, h.few, length-map ss handed_over);
    waits_from = λ k r e. waits k r (slice_get ss k) refl e;
    owed_are = h.owed_are ∙ sym (owed-handed ss);
    posts_are = λ k r e. none k r (slice_get ss k) refl e;
    posts_once = refl;
    seats_are = refl;
    post_room = omega (arith, h.post_room);
    answer_room = omega (arith, h.answer_room);
  }
    where
      waits : (k : ℕ) (r : Serial) (o : Option Serial) → slice_get ss k ≡ o → slice_get (map handed_over ss) k ≡ Some r → is_waiting r ≡ not (nat_lt k next)
      waits k r None e found = absurd (true≢false (sym (ap is_some (sym (slice_get-map handed_over ss k ∙ ap (option_map handed_over) e) ∙ found))))
      waits k r (Some s) e found =
          let is : handed_over s ≡ r = some_is _ _ (sym (slice_get-map handed_over ss k ∙ ap (option_map handed_over) e) ∙ found) in
          ap is_waiting (sym is) ∙ waiting-handed s ∙ h.waits_from k s e

      none : (k : ℕ) (r : Serial) (o : Option Serial) → slice_get ss k ≡ o → slice_get (map handed_over ss) k ≡ Some r → is_posted r ≡ false
      none k r None e found = absurd (true≢false (sym (ap is_some (sym (slice_get-map handed_over ss k ∙ ap (option_map handed_over) e) ∙ found))))
      none k r (Some s) e found =
          let is : handed_over s ≡ r = some_is _ _ (sym (slice_get-map handed_over ss k ∙ ap (option_map handed_over) e) ∙ found) in
          ap is_posted (sym is) ∙ posted-handed s

  -- ---- offering

  pub offer_keeps : (place n : ℕ) (wider_post wider_answer : ℕ) → length ss + n ≤ MAX_OFFERED_TASKS → length posts + (owed + n) ≤ wider_post → length posts + (owed + n) ≤ wider_answer
      → IsDesk (ss ++ tasks_at place 0 n) next (owed + n) posts seats wider_post wider_answer
  offer_keeps place n wider_post wider_answer few post_room answer_room = record {
    within = omega (arith, h.within, length-append ss (tasks_at place 0 n));
    few = omega (arith, few, length-append ss (tasks_at place 0 n), length-tasks_at place 0 n);
    waits_from = λ k r e. waits k r (get-append ss (tasks_at place 0 n) k r e);
    owed_are = omega (arith, h.owed_are, count_of-append is_owed ss (tasks_at place 0 n), owed-tasks_at place 0 n);
    posts_are = λ k r e. are k r (get-append ss (tasks_at place 0 n) k r e);
    posts_once = h.posts_once;
    seats_are = h.seats_are ∙ seats_front seats posts h.seats_are;
    post_room = post_room;
    answer_room = answer_room;
  }
    where
      waits : (k : ℕ) (r : Serial) → ((k < length ss) × (slice_get ss k ≡ Some r)) ⊎ ((j : ℕ) × (k ≡ length ss + j) × (slice_get (tasks_at place 0 n) j ≡ Some r)) → is_waiting r ≡ not (nat_lt k next)
      waits k r (inl x) = h.waits_from k r x.1
      waits k r (inr x) = waits-tasks_at place 0 n x.0 r x.2 ∙ sym (ap not (not_below k next (omega (arith, h.within, x.1))))

      are : (k : ℕ) (r : Serial) → ((k < length ss) × (slice_get ss k ≡ Some r)) ⊎ ((j : ℕ) × (k ≡ length ss + j) × (slice_get (tasks_at place 0 n) j ≡ Some r)) → is_posted r ≡ is_among posts k
      are k r (inl x) = h.posts_are k r x.1
      are k r (inr x) =
          waiting_not_posted r (waits-tasks_at place 0 n x.0 r x.2) ∙ sym (not_among ss seats posts h.seats_are k (omega (arith, x.1)))

      seats_front : (places : List (ℕ × ℕ)) (ks : List ℕ) → map Some places ≡ map (λ k. option_map seat (slice_get ss k)) ks
          → map (λ k. option_map seat (slice_get ss k)) ks ≡ map (λ k. option_map seat (slice_get (ss ++ tasks_at place 0 n) k)) ks
      seats_front places [] e = refl
      seats_front [] (k ∷ ks) e = absurd (true≢false (sym (ap is_full e)))
      seats_front (x ∷ xs) (k ∷ ks) e =
          let lt : k < length ss = is_there ss k x (ap (first_or (Some x)) e) in
          ap₂ (λ o os. o ∷ os) (ap (option_map seat) (sym (get-front ss (tasks_at place 0 n) k lt))) (seats_front xs ks (ap rest_of e))

-- the same with what is equal
pub same_desk : {ss tt : List Serial} {posts others : List ℕ} {seats places : List (ℕ × ℕ)} {pc pd ac ad : ℕ} (next owed : ℕ) → ss ≡ tt → posts ≡ others → seats ≡ places → pc ≡ pd → ac ≡ ad
    → IsDesk ss next owed posts seats pc ac → IsDesk tt next owed others places pd ad
same_desk {ss} {tt} {posts} {others} {seats} {places} {pc} {pd} {ac} {ad} next owed a b c d e h =
    subst (λ x. IsDesk tt next owed others places pd x) e (subst (λ x. IsDesk tt next owed others places x ac) d
    (subst (λ x. IsDesk tt next owed others x pc ac) c (subst (λ x. IsDesk tt next owed x seats pc ac) b (subst (λ x. IsDesk x next owed posts seats pc ac) a h))))

-- ---- what is next

-- of a list in which those from `next` on wait
abbrev WaitFrom : List Serial → ℕ → Type 0
WaitFrom ss next = (k : ℕ) (s : Serial) → slice_get ss k ≡ Some s → is_waiting s ≡ not (nat_lt k next)

first_waiting : (ss : List Serial) (next : ℕ) → WaitFrom ss next → next ≤ length ss → position_or_len is_waiting ss ≡ next
first_waiting [] next waits le = omega (arith, le)
first_waiting (x ∷ xs) zero waits le = ap (λ b. cond (not b) (1 + position_or_len is_waiting xs) 0) (waits 0 x refl)
first_waiting (x ∷ xs) (suc n) waits le =
    ap (λ b. cond (not b) (1 + position_or_len is_waiting xs) 0) (waits 0 x refl ∙ ap not (at_front n))
    ∙ one_more (first_waiting xs n (λ k s e. waits (suc k) s e ∙ ap not (both_below k n)) (omega (arith, le)))
  where
    at_front : (n : ℕ) → nat_lt 0 (suc n) ≡ true
    at_front n = grind arith

    both_below : (k n : ℕ) → nat_lt (suc k) (suc n) ≡ nat_lt k n
    both_below k n = grind arith

    one_more : {a b : ℕ} → a ≡ b → 1 + a ≡ suc b
    one_more e = omega (arith, e)

-- the first that waits is the one at `next`
pub next_is : (ss : List Serial) (next : ℕ) → WaitFrom ss next → next < length ss → position is_waiting ss ≡ Some next
next_is ss next waits lt =
    let first = first_waiting ss next waits (omega (arith, lt)) in
    ap (λ n. cond (nat_lt n (length ss)) (Some n) None) first ∙ ap (λ b. cond b (Some next) None) (below next (length ss) lt)
  where
    below : (a b : ℕ) → a < b → nat_lt a b ≡ true
    below a b lt = grind (arith, lt)

-- none waits
pub none_next : (ss : List Serial) (next : ℕ) → WaitFrom ss next → next ≤ length ss → length ss ≤ next → position is_waiting ss ≡ None
none_next ss next waits within past =
    let first = first_waiting ss next waits within in
    ap (λ n. cond (nat_lt n (length ss)) (Some n) None) first ∙ ap (λ b. cond b (Some next) None) (not_below next (length ss) past)
