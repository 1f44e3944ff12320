-- What is true of the fields of a desk.
use Rattle.std.specs.Prelude.{◌≡◌, ◌≤◌, ◌+◌, ◌&&◌, ◌||◌, ◌==◌, ℕ, List, [], ◌∷◌, Bool, true, not, nat_lt, length, map, slice_get, option_map, Some, fold}
use Rattle.std.specs.List.{list_any}
use Rattle.chr_semantics.specs.Desk.{Serial, count_of, is_out, drained, is_posted, is_waiting, waiting, with_phase}
use Rattle.chr_semantics.specs.Tasks.{numbers_from}
use Rattle.chr_semantics.specs.declared.limits.TheConstants.{MAX_OFFERED_TASKS}

-- it waits, or is out: an answer may come
abbrev pub is_owed : Serial → Bool
is_owed s = is_waiting s || is_out s

-- the place and the index of a task
abbrev pub seat : Serial → ℕ × ℕ
seat s = (s.place, s.index)

abbrev pub is_among : List ℕ → ℕ → Bool
is_among posts k = list_any (λ x. x == k) posts

-- each stands there once
abbrev pub are_once : List ℕ → Bool
are_once [] = true
are_once (k ∷ posts) = not (is_among posts k) && are_once posts

-- the tasks of a round, from an index on, as many as the number says
abbrev pub tasks_at : ℕ → ℕ → ℕ → List Serial
tasks_at place from n = map (λ x. record { place = place; index = x; phase = waiting }) (numbers_from from n)

-- with those of these numbers drained
abbrev pub marked : List Serial → List ℕ → List Serial
marked ss posts = fold (λ rest k. with_phase drained rest k) ss posts

-- Of the tasks `ss`, those from `next` on wait, and `owed` may get an answer. The posts are those of the tasks that are posted, each once,
-- and each answer with the place and the index of its task; and there is room for all answers that may come.
pub record IsDesk (ss : List Serial) (next owed : ℕ) (posts : List ℕ) (seats : List (ℕ × ℕ)) (post_capacity answer_capacity : ℕ) : Type 0 where
  pub within : next ≤ length ss
  pub few : length ss ≤ MAX_OFFERED_TASKS
  pub waits_from : (k : ℕ) (s : Serial) → slice_get ss k ≡ Some s → is_waiting s ≡ not (nat_lt k next)
  pub owed_are : owed ≡ count_of is_owed ss
  pub posts_are : (k : ℕ) (s : Serial) → slice_get ss k ≡ Some s → is_posted s ≡ is_among posts k
  pub posts_once : are_once posts ≡ true
  pub seats_are : map Some seats ≡ map (λ k. option_map seat (slice_get ss k)) posts
  pub post_room : length posts + owed ≤ post_capacity
  pub answer_room : length posts + owed ≤ answer_capacity
