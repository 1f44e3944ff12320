-- Which kept answers have to be looked at to know whether one serves.
use Rattle.std.proofs.Common.{Bool, List, None, Option, Some, [], ap, arith, false, refl, subst, sym, true, true≢false, zero, suc, ℕ, ◌&&◌, ◌≤◌, ◌-◌, ◌+◌, ◌==◌, ◌∙◌, ◌∷◌, ◌≡◌, map}
use Rattle.std.proofs.lemmas.Bool.{and_from, and_parts, eqb-true, leb-true, not-true}
use Rattle.std.specs.List.{list_any}
use Rattle.std.specs.Prelude.{nat_le, not, slice_get}
use Rattle.chr_semantics.specs.Program.{Program}
use Rattle.chr_semantics.specs.Schedule.{Progress, answer_serves, serves, task_serves}
use Rattle.chr_semantics.specs.Search.{has_number}
use Rattle.chr_semantics.specs.State.{State}
use Rattle.chr_semantics.specs.Step.{after}
use Rattle.chr_semantics.specs.Tasks.{Task, same_task}
use Rattle.chr_laws.specs.Kept.{Answered, ArePast, ArePlaced, AreSpots, ServedLaw, at_of, is_guests, is_newer, IsPlaced, passes, place_of, serves_at}
use Rattle.chr_laws.proofs.Newest.{newest_law}
use Rattle.chr_laws.proofs.Places.{any_mapped, get_some, none_mapped, none_of, passing}

pub placed_at : (p : Program) (q : State) (rounds : List ℕ) (kept : List Answered) (c : ℕ) (k : Answered) → ArePlaced p q rounds kept → slice_get kept c ≡ Some k → IsPlaced p q rounds k
placed_at p q rounds [] c k h e = cc
placed_at p q rounds (l ∷ ls) zero k h e = let same : l ≡ k = cc in subst (IsPlaced p q rounds) same h.0
placed_at p q rounds (l ∷ ls) (suc c) k h e = placed_at p q rounds ls c k h.1 e

-- what the definition says of a kept answer
placed_serves : (p : Program) (q : State) (rounds : List ℕ) (n : ℕ) (t : Task) (k : Answered) → IsPlaced p q rounds k
    → answer_serves p q n t k.index (slice_get rounds k.round) ≡ (same_task t k.task && serves p q (at_of rounds k) n t)
placed_serves p q rounds n t k h =
    ap (answer_serves p q n t k.index) (get_some rounds k.round 0 h.0)
    ∙ ap (task_serves p q (at_of rounds k) n t) h.1

pub same_task_true : (t u : Task) → same_task t u ≡ true → t ≡ u
same_task_true t u h =
    let r = and_parts (t.0 == u.0) (t.1 == u.1) h in
    let a = eqb-true t.0 u.0 r.0 in
    let b = eqb-true t.1 u.1 r.1 in
    ap (λ (x : ℕ). (x, t.1)) a ∙ ap (λ (x : ℕ). (u.0, x)) b

-- the same in other numbers
newer_serves : (p : Program) (q : State) (a b n : ℕ) (t : Task) → a ≤ b → b ≤ n → (t.0 == (after p q a).next_id) ≡ false → (t.0 == (after p q b).next_id) ≡ false → serves p q a n t ≡ true → serves p q b n t ≡ true
newer_serves p q a b n t l m old new e =
    let eb : b ≡ a + (b - a) = omega (arith, l) in
    let en : n ≡ a + (b - a) + (n - b) = omega (arith, l, m) in
    let w = newest_law p q a (b - a) (n - b) t old (subst (λ (x : ℕ). (t.0 == (after p q x).next_id) ≡ false) eb new) (subst (λ (x : ℕ). serves p q a x t ≡ true) en e) in
    subst (λ (x : ℕ). serves p q x n t ≡ true) (sym eb) (subst (λ (x : ℕ). serves p q (a + (b - a)) x t ≡ true) (sym en) w)

pub past_at : (n : ℕ) (rounds : List ℕ) (i a : ℕ) → ArePast n rounds → slice_get rounds i ≡ Some a → nat_le a n ≡ true
past_at n [] i a h e = cc
past_at n (b ∷ bs) zero a h e = let same : b ≡ a = cc in ap (λ (x : ℕ). nat_le x n) (sym same) ∙ (and_parts (nat_le b n) _ h).0
past_at n (b ∷ bs) (suc i) a h e = past_at n bs i a (and_parts (nat_le b n) _ h).1 e

denied : (b : Bool) → (b ≡ true → false ≡ true) → b ≡ false
denied true h = absurd (true≢false (sym (h refl)))
denied false h = refl

module _ (p : Program) (q : State) (g : Progress) (kept : List Answered) (row : Task → Option ℕ) (guests : Task → List ℕ) (t : Task)
    (placed : ArePlaced p q g.rounds kept) (past : ArePast g.steps g.rounds) (spots : AreSpots p q g.rounds kept row guests)
    (row_serves : (c : ℕ) → row t ≡ Some c → serves_at p q g.rounds g.steps kept t c ≡ false)
    (guests_serve : list_any (serves_at p q g.rounds g.steps kept t) (guests t) ≡ false) where
  -- an answer to a stored constraint's task, by the newest one
  by_row : (k : Answered) (x : Option ℕ) → row t ≡ x → t ≡ k.task → is_guests p q g.rounds k ≡ false → is_newer g.rounds kept (at_of g.rounds k) x ≡ true → serves p q (at_of g.rounds k) g.steps t ≡ false
  by_row k None e same kind newer = cc
  by_row k (Some d) e same kind newer =
      let w = passing (λ l. nat_le (at_of g.rounds k) (at_of g.rounds l)) (slice_get kept d) newer in
      let l : Answered = w.0 in
      let v = passing (λ l. same_task t l.task && not (is_guests p q g.rounds l)) (slice_get kept d) (spots.row_is t d e) in
      let one : v.0 ≡ l = (let a = v.1 in let b = w.1 in cc) in
      let parts = and_parts (same_task t v.0.task) _ v.2 in
      let its = same_task_true t v.0.task parts.0 in
      let kind_then : (t.0 == (after p q (at_of g.rounds l)).next_id) ≡ false =
      ap (λ (u : Task). u.0 == (after p q (at_of g.rounds l)).next_id) its ∙ ap (λ (z : Answered). v.0.task.0 == (after p q (at_of g.rounds z)).next_id) (sym one) ∙ not-true _ parts.1 in
      let at_l = placed_at p q g.rounds kept d l placed w.1 in
      let before = leb-true (at_of g.rounds k) (at_of g.rounds l) w.2 in
      let then = leb-true (at_of g.rounds l) g.steps (past_at g.steps g.rounds l.round (at_of g.rounds l) past (get_some g.rounds l.round 0 at_l.0)) in
      let no_service = sym (ap (passes (λ z. serves p q (at_of g.rounds z) g.steps t)) w.1) ∙ row_serves d e in
      denied _ (λ yes_it. sym (sym (newer_serves p q (at_of g.rounds k) (at_of g.rounds l) g.steps t before then
      (ap (λ (u : Task). u.0 == (after p q (at_of g.rounds k)).next_id) same ∙ kind) kind_then yes_it) ∙ no_service))

  by_kind : (c : ℕ) (k : Answered) → slice_get kept c ≡ Some k → t ≡ k.task → (b : Bool) → is_guests p q g.rounds k ≡ b → serves p q (at_of g.rounds k) g.steps t ≡ false
  by_kind c k e same true kind =
      let member = ap (λ (u : Task). has_number (guests u) c) same ∙ spots.all_guests c k e kind in
      sym (ap (passes (λ z. serves p q (at_of g.rounds z) g.steps t)) e) ∙ none_of (serves_at p q g.rounds g.steps kept t) (guests t) c guests_serve member
  by_kind c k e same false kind = by_row k (row t) refl same kind (ap (λ (u : Task). is_newer g.rounds kept (at_of g.rounds k) (row u)) same ∙ spots.all_rows c k e kind)

  by_task : (c : ℕ) (k : Answered) → slice_get kept c ≡ Some k → (b : Bool) → same_task t k.task ≡ b → (b && serves p q (at_of g.rounds k) g.steps t) ≡ false
  by_task c k e true is = by_kind c k e (same_task_true t k.task is) (is_guests p q g.rounds k) refl
  by_task c k e false is = refl

  pub nothing_serves : list_any (λ (a : ℕ × ℕ). answer_serves p q g.steps t a.1 (slice_get g.rounds a.0)) (map place_of kept) ≡ false
  nothing_serves = none_mapped (λ (a : ℕ × ℕ). answer_serves p q g.steps t a.1 (slice_get g.rounds a.0)) place_of kept
      (λ c k e. placed_serves p q g.rounds g.steps t k (placed_at p q g.rounds kept c k placed e) ∙ by_task c k e (same_task t k.task) refl)

pub served_law : ServedLaw
served_law = record {
  served = λ p q g kept t c k same placed e task serving.
      ap (list_any (λ (a : ℕ × ℕ). answer_serves p q g.steps t a.1 (slice_get g.rounds a.0))) (sym same)
      ∙ any_mapped (λ (a : ℕ × ℕ). answer_serves p q g.steps t a.1 (slice_get g.rounds a.0)) place_of kept c k e
      (placed_serves p q g.rounds g.steps t k (placed_at p q g.rounds kept c k placed e) ∙ and_from (same_task t k.task) _ task serving);
  not_served = λ p q g kept row guests t same placed past spots row_serves guests_serve.
      ap (list_any (λ (a : ℕ × ℕ). answer_serves p q g.steps t a.1 (slice_get g.rounds a.0))) (sym same)
      ∙ nothing_serves p q g kept row guests t placed past spots row_serves guests_serve;
}
