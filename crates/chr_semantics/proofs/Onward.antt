-- What later states of a run have in common with an earlier one.
use Rattle.std.proofs.Common.{◌≡◌, ◌∙◌, ◌<◌, ◌≤◌, ◌∷◌, [], Bool, Err, List, None, Ok, Option, Result, Some, ap, arith, cond, drop, false, not, refl, sym, true, zero, suc, ℕ, ℤ}
use Rattle.chr_semantics.specs.Footprint.{IsSound}
use Rattle.chr_semantics.specs.Guard.{comparison_holds}
use Rattle.chr_semantics.specs.Match.{Row}
use Rattle.chr_semantics.specs.Mgu.{mgu}
use Rattle.chr_semantics.specs.Program.{Atom, Comparison, Goal, Program, compare, constraint, evaluate, fail, tell}
use Rattle.chr_semantics.specs.Search.{Found, atom_of, firing, has_number, ids_of, no_firing, no_occurrence}
use Rattle.chr_semantics.specs.State.{Element, State, Status, active, done, failed, faulted, goal, known, running}
use Rattle.chr_semantics.specs.Step.{after, bind_step, compare_step, evaluate_step, search_at, search_step, solve, step, step_at, step_top}
use Rattle.chr_semantics.specs.Subst.{Solves, Subst, apply, instance, value_at}
use Rattle.chr_semantics.specs.Tree.{Tree, int}
use Rattle.chr_semantics.specs.Value.{Fault, value}
use Rattle.chr_semantics.proofs.Instances.{instance-solves}
use Rattle.chr_semantics.proofs.Lookups.{atom_before, atom_of_part}
use Rattle.chr_semantics.proofs.SolvedLaw.{solved_twice}
use Rattle.chr_semantics.proofs.Soundness.{sound_step}
use Rattle.chr_semantics.proofs.UnifierEqual.{mgu_makes_equal}

-- what was bound is bound, and what lives of what had come lived
pub record GoesOn (s t : State) : Type 0 where
  pub bound : Solves (value_at t.subst) s.subst
  pub lived : (i : ℕ) (b : Atom) → i < s.next_id → atom_of t.store i ≡ Some b → atom_of s.store i ≡ Some b
  pub counted : s.next_id ≤ t.next_id

goes_told : (s : State) (rest : List Element) (t u : Tree) (m : Option Subst) → IsSound s → mgu s.subst t u ≡ m → GoesOn s (bind_step s rest m)
goes_told s rest t u None h is = record { bound = solved_twice s.subst h.solved; lived = λ i b l e. e; counted = omega arith }
goes_told s rest t u (Some r) h is = record { bound = (mgu_makes_equal s.subst t u h.solved r is).1; lived = λ i b l e. e; counted = omega arith }

stays : (s : State) → IsSound s → GoesOn s s
stays s h = record { bound = solved_twice s.subst h.solved; lived = λ i b l e. e; counted = omega arith }

goes_evaluated : (s : State) (rest : List Element) (x : Tree) (v : Result ℤ Fault) → IsSound s → GoesOn s (evaluate_step s rest x v)
goes_evaluated s rest x (Err e) h = record { bound = solved_twice s.subst h.solved; lived = λ i b l e. e; counted = omega arith }
goes_evaluated s rest x (Ok z) h = goes_told s rest x (int z) (mgu s.subst x (int z)) h refl

goes_either : (c : Bool) (s t u : State) → GoesOn s t → GoesOn s u → GoesOn s (cond c t u)
goes_either true s t u h k = h
goes_either false s t u h k = k

goes_compared : (s : State) (rest : List Element) (c : Comparison) (v w : Result ℤ Fault) → IsSound s → GoesOn s (compare_step s rest c v w)
goes_compared s rest c (Err e) w h = record { bound = solved_twice s.subst h.solved; lived = λ i b l e. e; counted = omega arith }
goes_compared s rest c (Ok x) (Err e) h = record { bound = solved_twice s.subst h.solved; lived = λ i b l e. e; counted = omega arith }
goes_compared s rest c (Ok x) (Ok y) h =
    goes_either (comparison_holds c x y) s _ _ (record { bound = solved_twice s.subst h.solved; lived = λ i b l e. e; counted = omega arith })
    (record { bound = solved_twice s.subst h.solved; lived = λ i b l e. e; counted = omega arith })

goes_solved : (s : State) (rest : List Element) (g : Goal) → IsSound s → GoesOn s (solve s rest g)
goes_solved s rest (constraint a) h = record { bound = solved_twice s.subst h.solved; lived = λ i b l e. atom_before s.next_id i a b s.store l e; counted = omega arith }
goes_solved s rest (tell t u) h = goes_told s rest t u (mgu s.subst t u) h refl
goes_solved s rest (evaluate x t) h = goes_evaluated s rest x (value (apply s.subst t)) h
goes_solved s rest (compare c t u) h = goes_compared s rest c _ _ h
goes_solved s rest fail h = record { bound = solved_twice s.subst h.solved; lived = λ i b l e. e; counted = omega arith }

goes_found : (s : State) (rest : List Element) (i j : ℕ) (a : Atom) (w : Found) → IsSound s → GoesOn s (search_step s rest i j a w)
goes_found s rest i j a no_occurrence h = record { bound = solved_twice s.subst h.solved; lived = λ x b l e. e; counted = omega arith }
goes_found s rest i j a no_firing h = record { bound = solved_twice s.subst h.solved; lived = λ x b l e. e; counted = omega arith }
goes_found s rest i j a (firing n r place t) h =
    record { bound = solved_twice s.subst h.solved; lived = λ x b l e. atom_of_part (λ (y : Row). not (has_number (drop r.kept (ids_of t)) y.0)) 0 s.next_id s.store x b h.ascends e; counted = omega arith }

goes_top : (p : Program) (s : State) (es : List Element) → IsSound s → GoesOn s (step_top p s es)
goes_top p s [] h = stays s h
goes_top p s (goal g ∷ es) h = goes_solved s es g h
goes_top p s (known i a ∷ es) h = record { bound = solved_twice s.subst h.solved; lived = λ x b l e. e; counted = omega arith }
goes_top p s (active i j a ∷ es) h = goes_found s es i j a (search_at p s i j a) h

goes_at : (p : Program) (s : State) (w : Status) → IsSound s → GoesOn s (step_at p s w)
goes_at p s running h = goes_top p s s.stack h
goes_at p s done h = stays s h
goes_at p s failed h = stays s h
goes_at p s (faulted f) h = stays s h

-- what solves the bindings of later solves those of before
pub solves_on : (f : ℕ → Tree) (s r : Subst) → Solves (value_at r) s → Solves f r → Solves f s
solves_on f s r h k x = sym (instance-solves f r k (value_at s x)) ∙ ap (instance f) (h x) ∙ k x

goes_twice : (s t u : State) → GoesOn s t → GoesOn t u → GoesOn s u
goes_twice s t u h k = record {
  bound = solves_on (value_at u.subst) s.subst t.subst h.bound k.bound;
  lived = λ i b l e. let n : s.next_id ≤ t.next_id = h.counted in h.lived i b l (k.lived i b (omega (arith, l, n)) e);
  counted = let n : s.next_id ≤ t.next_id = h.counted in let m : t.next_id ≤ u.next_id = k.counted in omega (arith, n, m);
}

-- so it is after n steps
pub goes_on : (p : Program) (n : ℕ) (s : State) → IsSound s → GoesOn s (after p s n)
goes_on p zero s h = stays s h
goes_on p (suc n) s h = goes_twice s (step p s) _ (goes_at p s s.status h) (goes_on p n (step p s) (sound_step p s h))
