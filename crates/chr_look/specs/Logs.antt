-- The log of a run: what is noted at each transition, and what that says of the run.
use Rattle.std.specs.Prelude.{◌≡◌, ◌<◌, ◌≤◌, ◌==◌, ℕ, ◌+◌, cond, take, unwrap_or, drop, List, [], ◌∷◌, ◌++◌, Option, Some, None, length, option_and_then, option_map, option_to_list, slice_get}
use Rattle.chr_semantics.specs.Life.{came, firing_at, firings, gone, last_no_higher, origin}
use Rattle.chr_semantics.specs.Program.{Atom, Program, Rule}
use Rattle.chr_semantics.specs.Search.{History, atom_of, has_number}
use Rattle.chr_semantics.specs.State.{State}
use Rattle.chr_semantics.specs.Step.{after}

-- For each identity from 1 on the transition that brought it, its constraint then, and the entry of the history whose firing put its goal on the stack, where one
-- did; for each entry its transition; and for each height from 0 to the stack's the entry that the last transition made which was made with a
-- stack no higher, where it made one.
pub record LogModel : Type 0 where
  pub births : List ℕ
  pub atoms : List Atom
  pub origins : List (Option ℕ)
  pub times : List ℕ
  pub lows : List (Option ℕ)

-- what is looked at of a state: the number of entries, and the height of the stack
pub record Sight : Type 0 where
  pub entries : ℕ
  pub height : ℕ

abbrev pub sight : State → Sight
sight s = record { entries = length s.history; height = length s.stack }

-- entries with their transitions
abbrev pub timed : List ℕ → History → List (ℕ × ℕ × List ℕ)
timed [] h = []
timed (k ∷ ks) [] = []
timed (k ∷ ks) (f ∷ h) = (k, f.0, f.1) ∷ timed ks h

abbrev pub removes_of : Option Rule → List ℕ → ℕ → Option ℕ → Option ℕ → Option ℕ
removes_of None ids i k later = later
removes_of (Some rule) ids i k later = cond (has_number (drop rule.kept ids) i) k later

-- the transition of the first of these firings that removes the constraint
abbrev pub removal : Program → List ℕ → History → ℕ → Option ℕ
removal p [] h i = None
removal p (k ∷ ks) [] i = None
removal p (k ∷ ks) (f ∷ h) i = removes_of (slice_get p f.0) f.1 i (Some k) (removal p ks h i)

-- the entry at a place that is kept, where there is one
abbrev pub entry_at : History → Option (Option ℕ) → Option (ℕ × List ℕ)
entry_at h None = None
entry_at h (Some None) = None
entry_at h (Some (Some e)) = slice_get h e

abbrev pub AreEntries : ℕ → List (Option ℕ) → Type 0
AreEntries n places = (i e : ℕ) → slice_get places i ≡ Some (Some e) → e < n

-- the log of the first n transitions of a run
pub record IsLog (p : Program) (s : State) (n : ℕ) (log : LogModel) : Type 0 where
  pub next_id_is : (after p s n).next_id ≡ length log.births + 1
  pub births_are : (i : ℕ) → came p s n (i + 1) ≡ slice_get log.births i
  pub atoms_are : (i k : ℕ) → slice_get log.births i ≡ Some k → atom_of (after p s k).store (i + 1) ≡ slice_get log.atoms i
  pub as_many_atoms : length log.atoms ≡ length log.births
  pub as_many : length log.origins ≡ length log.births
  pub origins_are : (i k : ℕ) → slice_get log.births i ≡ Some k → entry_at (after p s n).history (slice_get log.origins i) ≡ option_and_then (firing_at p s) (origin p s k)
  pub origins_below : AreEntries (length (after p s n).history) log.origins
  pub one_each : length log.times ≡ length (after p s n).history
  pub times_are : (e k : ℕ) → slice_get log.times e ≡ Some k → firing_at p s k ≡ slice_get (after p s n).history e
  pub firings_are : firings p s n ≡ timed log.times (after p s n).history
  pub gone_are : (i : ℕ) → gone p s n (i + 1) ≡ removal p log.times (after p s n).history (i + 1)
  pub lows_long : length log.lows ≡ length (after p s n).stack + 1
  pub lows_are : (h : ℕ) → h ≤ length (after p s n).stack → entry_at (after p s n).history (slice_get log.lows h) ≡ option_and_then (firing_at p s) (last_no_higher p s h n)
  pub lows_below : AreEntries (length (after p s n).history) log.lows

-- a list to which a value is appended until it has a place for the height
pub record IsRaised (v : Option ℕ) (height : ℕ) (old new : List (Option ℕ)) : Type 0 where
  pub long : length new ≡ height + 1
  pub kept : (h : ℕ) → h < length old → slice_get new h ≡ slice_get old h
  pub raised : (h : ℕ) → length old ≤ h → h ≤ height → slice_get new h ≡ Some v

-- of no transition
pub record IsFirst (height : ℕ) (log : LogModel) : Type 0 where
  pub births_are : log.births ≡ []
  pub atoms_are : log.atoms ≡ []
  pub origins_are : log.origins ≡ []
  pub times_are : log.times ≡ []
  pub lows_are : IsRaised None height [] log.lows

-- the entry that a transition makes between two states
abbrev pub made_between : Sight → Sight → Option ℕ
made_between s t = cond (t.entries == s.entries) None (Some s.entries)

-- the constraint that a transition between two states brings
abbrev pub brought : State → State → Option Atom
brought s t = atom_of t.store s.next_id

-- what is noted of the k-th transition, from a state to the next
pub record IsNoted (k : ℕ) (born : Option Atom) (s t : Sight) (old new : LogModel) : Type 0 where
  pub births_are : new.births ≡ old.births ++ option_to_list (option_map (λ a. k) born)
  pub atoms_are : new.atoms ≡ old.atoms ++ option_to_list born
  pub origins_are : new.origins ≡ old.origins ++ option_to_list (option_map (λ a. unwrap_or (slice_get old.lows s.height) None) born)
  pub times_are : new.times ≡ cond (t.entries == s.entries) old.times (old.times ++ k ∷ [])
  pub lows_are : IsRaised (made_between s t) t.height (take s.height old.lows) new.lows
