-- A rule whose heads are all passive fires in no run.
use Rattle.std.proofs.Common.{◌≡◌, ◌∙◌, ◌-◌, ◌==◌, ◌∷◌, [], ℕ, zero, suc, Bool, true, false, cond, List, Option, Some, None, ap, length, refl, sym, subst, true≢false}
use Rattle.std.proofs.lemmas.Bool.{and_parts}
use Rattle.std.proofs.lemmas.Bool.Decides.{Decides-eqb}
use Rattle.std.proofs.lemmas.List.Folds.{list_any-append}
use Rattle.std.specs.List.{list_all, list_any}
use Rattle.std.specs.Prelude.{option_map, option_to_list, slice_get, ◌||◌}
use Rattle.chr_semantics.specs.Program.{Atom, Goal, Head, Occurrence, Program, Query, Rule, compare, constraint, evaluate, fail, occurrence, tell}
use Rattle.chr_semantics.specs.Match.{Row}
use Rattle.chr_semantics.specs.Search.{History, first_tuple, found_at, found_for, found_with, rule_entries, atom_of}
use Rattle.chr_semantics.specs.State.{Element, State, Status, active, done, failed, faulted, goal, known, rows, running, start}
use Rattle.chr_semantics.specs.Step.{after, step}
use Rattle.chr_semantics.specs.Suspicion.{is_barren}
use Rattle.chr_semantics.specs.Touch.{found_touches, goal_touches, rule, touches_at, touches_top}
use Rattle.chr_semantics.specs.Life.{firing_at, firings}
use Rattle.chr_semantics.proofs.KeptEntries.{entries_step}
use Rattle.chr_semantics.proofs.OccurrenceRule.{occurrence_rule}
use Rattle.chr_semantics.proofs.Occurrences.{occurrence_at}

from_some : {X : Type 0} (x y : X) → Some x ≡ Some y → x ≡ y
from_some {X = X} x y e = ap (λ (o : Option X). elim o [ Some z ↦ z | None ↦ x ]) e

-- each of heads that are all passive
all_at : (hs : List Head) (k : ℕ) (h : Head) → list_all (λ (g : Head). g.passive) hs ≡ true → slice_get hs k ≡ Some h → h.passive ≡ true
all_at [] k h all got = cc
all_at (g ∷ hs) zero h all got = subst (λ (x : Head). x.passive ≡ true) (from_some g h got) (and_parts g.passive (list_all (λ (g : Head). g.passive) hs) all).0
all_at (g ∷ hs) (suc k) h all got = all_at hs k h (and_parts g.passive (list_all (λ (g : Head). g.passive) hs) all).1 got

module _ (p : Program) (r : ℕ) (it : Rule) (there : slice_get p r ≡ Some it) (barren : is_barren it ≡ true) where
  -- no occurrence is one of the rule's
  apart : (f j : ℕ) (o : Occurrence) → occurrence p f j ≡ Some o → (b : Bool) → (o.number == r) ≡ b → b ≡ false
  apart f j o is true e =
      let number : o.number ≡ r = (Decides-eqb o.number r).0 e in
      let same : o.rule ≡ it = from_some o.rule it (sym (occurrence_rule p f j o is) ∙ ap (slice_get p) number ∙ there) in
      let head = occurrence_at p f j o is in
      let passive = all_at it.heads o.place head.head barren (subst (λ (q : Rule). slice_get q.heads o.place ≡ Some head.head) same head.there) in
      absurd (true≢false (sym passive ∙ head.active))
  apart f j o is false e = refl

  found_apart : (s : State) (i : ℕ) (f j : ℕ) (o : Occurrence) → occurrence p f j ≡ Some o → (t : Option (List Row)) → found_touches s (found_with o.number o.rule o.place t) (rule r) ≡ false
  found_apart s i f j o is None = refl
  found_apart s i f j o is (Some t) = apart f j o is (o.number == r) refl

  for_apart : (s : State) (i : ℕ) (f j : ℕ) (o : Occurrence) → occurrence p f j ≡ Some o → (a : Option Atom) → found_touches s (found_for (rows s) s.history o.number o.rule o.place i a) (rule r) ≡ false
  for_apart s i f j o is None = refl
  for_apart s i f j o is (Some a) = found_apart s i f j o is (first_tuple (rows s) s.history o.number o.rule o.place (i, a))

  at_apart : (s : State) (i : ℕ) (f j : ℕ) (o : Option Occurrence) → occurrence p f j ≡ o → found_touches s (found_at (rows s) s.history i o) (rule r) ≡ false
  at_apart s i f j None is = refl
  at_apart s i f j (Some o) is = for_apart s i f j o is (atom_of (rows s) i)

  goal_apart : (s : State) (rest : List Element) (g : Goal) → goal_touches s rest g (rule r) ≡ false
  goal_apart s rest (constraint a) = refl
  goal_apart s rest (tell t u) = refl
  goal_apart s rest (evaluate t u) = refl
  goal_apart s rest (compare c t u) = refl
  goal_apart s rest fail = refl

  top_apart : (s : State) (es : List Element) → touches_top p s es (rule r) ≡ false
  top_apart s [] = refl
  top_apart s (goal g ∷ es) = goal_apart s es g
  top_apart s (known i a ∷ es) = refl
  top_apart s (active i j a ∷ es) = at_apart s i a.sym j (occurrence p a.sym j) refl

  status_apart : (s : State) (w : Status) → touches_at p s w (rule r) ≡ false
  status_apart s running = top_apart s s.stack
  status_apart s done = refl
  status_apart s failed = refl
  status_apart s (faulted f) = refl

  -- so the history has no entry of it
  no_entry : (s : State) (n : ℕ) → rule_entries r (after p s n).history ≡ rule_entries r s.history
  no_entry s zero = refl
  no_entry s (suc n) = no_entry (step p s) n ∙ entries_step p r s (status_apart s s.status)

entry_apart : (r : ℕ) (h : History) (k : ℕ) (f : ℕ × List ℕ) → rule_entries r h ≡ [] → slice_get h k ≡ Some f → (f.0 == r) ≡ false
entry_apart r [] k f none got = cc
entry_apart r (g ∷ h) k f none got = by (λ n j e. entry_apart r h j f n e) (g.0 == r) refl none k got
  where
    by : (rule_entries r h ≡ [] → (k : ℕ) → slice_get h k ≡ Some f → (f.0 == r) ≡ false) → (b : Bool) → (g.0 == r) ≡ b → cond b (g ∷ rule_entries r h) (rule_entries r h) ≡ [] → (k : ℕ) → slice_get (g ∷ h) k ≡ Some f → (f.0 == r) ≡ false
    by later true e none k got = cc
    by later false e none zero got = subst (λ (x : ℕ × List ℕ). (x.0 == r) ≡ false) (from_some g f got) e
    by later false e none (suc k) got = later none k got

-- a firing of a rule whose heads are all passive is in no run
pub barren : (p : Program) (r : ℕ) (it : Rule) (q : Query) (n : ℕ) → slice_get p r ≡ Some it → is_barren it ≡ true → list_any (λ (f : ℕ × ℕ × List ℕ). f.1 == r) (firings p (start q) n) ≡ false
barren p r it q zero there is = refl
barren p r it q (suc n) there is =
    list_any-append (λ (f : ℕ × ℕ × List ℕ). f.1 == r) (firings p (start q) n) (option_to_list (option_map (λ (f : ℕ × List ℕ). (suc n, f.0, f.1)) (firing_at p (start q) (suc n))))
    ∙ either (list_any (λ (f : ℕ × ℕ × List ℕ). f.1 == r) (firings p (start q) n)) (barren p r it q n there is) (last (firing_at p (start q) (suc n)) refl)
  where
    either : (b : Bool) → b ≡ false → {c : Bool} → c ≡ false → (b || c) ≡ false
    either true h k = absurd (true≢false h)
    either false h k = k

    last : (o : Option (ℕ × List ℕ)) → firing_at p (start q) (suc n) ≡ o → list_any (λ (f : ℕ × ℕ × List ℕ). f.1 == r) (option_to_list (option_map (λ (f : ℕ × List ℕ). (suc n, f.0, f.1)) o)) ≡ false
    last None e = refl
    last (Some f) e = either (f.0 == r) (entry_apart r (after p (start q) (suc n)).history (length (after p (start q) (suc n - 1)).history) f (no_entry p r it there is (start q) (suc n)) e) refl
