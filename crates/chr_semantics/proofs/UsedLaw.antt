-- In a run, an answer that serves the next step's search is what that search finds.
use Rattle.std.proofs.Common.{List, None, Option, Some, [], ap, cond, refl, subst, ℕ, ◌&&◌, ◌+◌, ◌∙◌, ◌∷◌, ◌≡◌}
use Rattle.std.specs.Prelude.{is_some}
use Rattle.chr_semantics.specs.Footprint.{Agrees, UsedLaw, step_answer_top}
use Rattle.chr_semantics.specs.Program.{Atom, Occurrence, Program, occurrence}
use Rattle.chr_semantics.specs.Search.{atom_of, first, first_of, ids_found, search_for}
use Rattle.chr_semantics.specs.State.{Element, State, active, goal, known, rows, start}
use Rattle.chr_semantics.specs.Step.{after}
use Rattle.chr_semantics.specs.Tasks.{Task, needed_task_top}
use Rattle.chr_semantics.proofs.Lookups.{atom_resolved}
use Rattle.chr_semantics.proofs.ServesLaw.{serves_law}
use Rattle.chr_semantics.proofs.Soundness.{sound_after, sound_start}

-- what a step that needs a search of t knows
record Needs (p : Program) (s : State) (es : List Element) (t : Task) : Type 0 where
  pub atom : Atom
  pub occ : Occurrence
  pub living : atom_of s.store t.0 ≡ Some atom
  pub is : occurrence p atom.sym t.1 ≡ Some occ
  pub finds : first p (rows s) s.history t.0 t.1 ≡ step_answer_top p s es

needs_at : (p : Program) (s : State) (i j : ℕ) (a : Atom) (es : List Element) (t : Task) (x : Option Atom) (o : Option Occurrence) → ((b : Atom) → atom_of s.store i ≡ Some b → b ≡ a) → atom_of s.store i ≡ x → occurrence p a.sym j ≡ o
    → cond {A = Option Task} (is_some x && is_some o) (Some (i, j)) None ≡ Some t → Needs p s (active i j a ∷ es) t
needs_at p s i j a es t None o agree ex eo e = cc
needs_at p s i j a es t (Some b) None agree ex eo e = cc
needs_at p s i j a es t (Some b) (Some o) agree ex eo e =
    let goal_is : b ≡ a = agree b ex in
    let there = atom_resolved s.subst s.store i b ex in
    let same : (i, j) ≡ t = cc in
    subst (λ (u : Task). Needs p s (active i j a ∷ es) u) same (record {
      atom = b;
      occ = o;
      living = ex;
      is = ap (λ (x : Atom). occurrence p x.sym j) goal_is ∙ eo;
      finds = ap (first_of p (rows s) s.history i j) there ∙ ap (λ (x : Atom). ids_found (search_for p (rows s) s.history x.sym i j)) goal_is;
    })

needs_top : (p : Program) (s : State) (es : List Element) (t : Task) → Agrees s.store s.next_id es → needed_task_top p s es ≡ Some t → Needs p s es t
needs_top p s [] t h e = cc
needs_top p s (goal g ∷ es) t h e = cc
needs_top p s (known i a ∷ es) t h e = cc
needs_top p s (active i j a ∷ es) t h e = needs_at p s i j a es t (atom_of s.store i) (occurrence p a.sym j) h.0.1 refl refl e

pub used_law : UsedLaw
used_law p r k m t need e =
    let q = start r in
    let h = sound_start r in
    let w = needs_top p (after p q (k + m)) (after p q (k + m)).stack t (sound_after p (k + m) q h).agrees need in
    serves_law p r k m t w.atom w.occ w.living w.is e ∙ w.finds
