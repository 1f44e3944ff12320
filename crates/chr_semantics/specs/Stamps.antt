-- Stamps: what a run keeps in place of counts of touches. A transition that touches a mark may raise its stamp by more than one, since a
-- stamp counts calls that change the store or the history (this project's own).
use Rattle.std.specs.Prelude.{◌≡◌, ◌↔◌, ◌<◌, IsTrue, ℕ, zero, suc, ◌+◌, ◌==◌, true, false, List, Some}
use Rattle.std.specs.List.{list_all}
use Rattle.chr_semantics.specs.Program.{Atom, Occurrence, Program, Query, occurrence}
use Rattle.chr_semantics.specs.Search.{atom_of}
use Rattle.chr_semantics.specs.State.{State, start}
use Rattle.chr_semantics.specs.Step.{after, step}
use Rattle.chr_semantics.specs.Touch.{Mark, footprint, touched_any, touches}
use Rattle.chr_semantics.specs.Footprint.{IsSound, marks_added}

-- how much the transition from a state raises the stamp of a mark
abbrev pub Rise : Type 0
Rise = State → Mark → ℕ

-- the stamp of a mark after n transitions
abbrev pub stamp : Program → Rise → State → ℕ → Mark → ℕ
stamp p rise s zero x = 0
stamp p rise s (suc n) x = rise s x + stamp p rise (step p s) n x

-- A stamp of a run rises exactly where its mark is touched, and by exactly one where a constraint enters the store.
pub record IsRise (p : Program) (rise : Rise) : Type 0 where
  pub stays : (s : State) → IsSound s → (x : Mark) → touches p s x ≡ false → rise s x ≡ 0
  pub rises : (s : State) → IsSound s → (x : Mark) → touches p s x ≡ true → 0 < rise s x
  pub by_one : (s : State) → IsSound s → (x : Mark) → s.next_id < (step p s).next_id → touches p s x ≡ true → rise s x ≡ 1

-- In a query's run, the stamps of some marks are equal at two places exactly where no transition between touches any of them; and where
-- the constraint i came in between, the stamp of its symbol alone has risen, by one, exactly where one transition touches the footprint,
-- its Activate.
pub record StampsByCallLaw : Type 0 where
  pub untouched :
      (p : Program) (rise : Rise) → IsRise p rise → (r : Query) (k m : ℕ) (marks : List Mark)
      → (let q = start r in IsTrue (list_all (λ x. stamp p rise q k x == stamp p rise q (k + m) x) marks) ↔ (touched_any p (after p q k) m marks ≡ 0))
  pub activated :
      (p : Program) (rise : Rise) → IsRise p rise → (r : Query) (k m i j : ℕ) (a : Atom) (o : Occurrence)
      → (let q = start r in (after p q k).next_id ≡ i → atom_of (after p q (k + m)).store i ≡ Some a → occurrence p a.sym j ≡ Some o
      → IsTrue (list_all (λ x. stamp p rise q k x + marks_added a.sym x == stamp p rise q (k + m) x) (footprint p (after p q (k + m)) i j)) ↔ (touched_any p (after p q k) m (footprint p (after p q (k + m)) i j) ≡ 1))
