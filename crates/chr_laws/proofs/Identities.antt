-- An identity keeps its constraint.
use Rattle.std.proofs.Common.{Bool, List, None, Option, Some, Result, Ok, Err, ℤ, [], arith, cond, false, inl, inr, true, zero, suc, ℕ, ◌<◌, ◌≤◌, ◌∷◌, ◌≡◌}
use Rattle.chr_semantics.specs.Footprint.{IsSound}
use Rattle.chr_semantics.specs.Mgu.{mgu}
use Rattle.chr_semantics.specs.Program.{Atom, Comparison, Goal, Program, constraint, tell, evaluate, compare, fail}
use Rattle.chr_semantics.specs.Guard.{comparison_holds}
use Rattle.chr_semantics.specs.Search.{Found, no_occurrence, no_firing, firing, atom_of, has_number, ids_of}
use Rattle.chr_semantics.specs.State.{Element, State, Status, active, goal, known, running, done, failed, faulted}
use Rattle.chr_semantics.specs.Step.{after, bind_step, compare_step, evaluate_step, search_at, search_step, solve, step, step_at, step_top}
use Rattle.chr_semantics.specs.Subst.{Subst, apply}
use Rattle.chr_semantics.specs.Tree.{Tree, int}
use Rattle.chr_semantics.specs.Value.{Fault, value}
use Rattle.std.specs.Prelude.{drop, not}
use Rattle.chr_semantics.proofs.Guest.{enters_or_stays}
use Rattle.chr_semantics.proofs.Lookups.{atom_before, atom_of_part}
use Rattle.chr_semantics.proofs.Soundness.{sound_step}

-- each constraint of the later store whose identity was given before stood in the earlier one
abbrev Back : State → State → Type 0
Back s t = (i : ℕ) (a : Atom) → i < s.next_id → atom_of t.store i ≡ Some a → atom_of s.store i ≡ Some a

back_bound : (s : State) (rest : List Element) (m : Option Subst) → Back s (bind_step s rest m)
back_bound s rest None i a l e = e
back_bound s rest (Some r) i a l e = e

back_evaluated : (s : State) (rest : List Element) (x : Tree) (v : Result ℤ Fault) → Back s (evaluate_step s rest x v)
back_evaluated s rest x (Err f) i a l e = e
back_evaluated s rest x (Ok z) i a l e = back_bound s rest (mgu s.subst x (int z)) i a l e

back_either : (b : Bool) (s t u : State) → Back s t → Back s u → Back s (cond b t u)
back_either true s t u h k = h
back_either false s t u h k = k

back_compared : (s : State) (rest : List Element) (c : Comparison) (v w : Result ℤ Fault) → Back s (compare_step s rest c v w)
back_compared s rest c (Err f) w i a l e = e
back_compared s rest c (Ok x) (Err f) i a l e = e
back_compared s rest c (Ok x) (Ok y) i a l e = back_either (comparison_holds c x y) s _ _ (λ j b k d. d) (λ j b k d. d) i a l e

back_solved : (s : State) (rest : List Element) (g : Goal) → Back s (solve s rest g)
back_solved s rest (constraint b) i a l e = atom_before s.next_id i b a s.store l e
back_solved s rest (tell t u) i a l e = back_bound s rest (mgu s.subst t u) i a l e
back_solved s rest (evaluate x t) i a l e = back_evaluated s rest x (value (apply s.subst t)) i a l e
back_solved s rest (compare c t u) i a l e = back_compared s rest c (value (apply s.subst t)) (value (apply s.subst u)) i a l e
back_solved s rest fail i a l e = e

back_found : (s : State) (rest : List Element) (i j : ℕ) (a : Atom) (w : Found) → IsSound s → Back s (search_step s rest i j a w)
back_found s rest i j a no_occurrence h k b l e = e
back_found s rest i j a no_firing h k b l e = e
back_found s rest i j a (firing n r place t) h k b l e = atom_of_part (λ row. not (has_number (drop r.kept (ids_of t)) row.0)) 0 s.next_id s.store k b h.ascends e

back_top : (p : Program) (s : State) (es : List Element) → IsSound s → Back s (step_top p s es)
back_top p s [] h i a l e = e
back_top p s (goal g ∷ es) h i a l e = back_solved s es g i a l e
back_top p s (known k b ∷ es) h i a l e = e
back_top p s (active k j b ∷ es) h i a l e = back_found s es k j b (search_at p s k j b) h i a l e

back_at : (p : Program) (s : State) (w : Status) → IsSound s → Back s (step_at p s w)
back_at p s running h i a l e = back_top p s s.stack h i a l e
back_at p s done h i a l e = e
back_at p s failed h i a l e = e
back_at p s (faulted f) h i a l e = e

pub next_grows : (p : Program) (s : State) → s.next_id ≤ (step p s).next_id
next_grows p s = elim (enters_or_stays p s) [
  | inl v ↦ (let e = v.next in omega (arith, e))
  | inr v ↦ (let e = v.next in omega (arith, e))
]

-- over some steps
pub back_after : (p : Program) (n : ℕ) (s : State) → IsSound s → Back s (after p s n)
back_after p zero s h i a l e = e
back_after p (suc n) s h i a l e =
    let g = next_grows p s in
    back_at p s s.status h i a l (back_after p n (step p s) (sound_step p s h) i a (omega (arith, l, g)) e)
