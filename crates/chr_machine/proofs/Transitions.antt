-- The transitions of constraints.
use Rattle.std.proofs.Common.{◌≡◌, ◌∙◌, ◌+◌, ◌++◌, ◌∷◌, [], ℕ, List, ap, arith, refl, sym}
use Rattle.chr_semantics.specs.Calls.{found_calls, found_entry}
use Rattle.chr_semantics.specs.Changes.{added}
use Rattle.chr_semantics.specs.Program.{Atom, constraint}
use Rattle.chr_semantics.specs.Search.{Found, no_firing, no_occurrence}
use Rattle.chr_semantics.specs.State.{Element, active, goal, known, resolved_atom, running, status_at}
use Rattle.chr_semantics.specs.Step.{search_step}
use Rattle.chr_semantics.specs.Trace.{activates, defaults, drops, reactivates, search_line}
use Rattle.chr_machine.specs.Firing.{search_in}
use Rattle.chr_machine.specs.Model.{CourseModel, line_in, logged, model_with, state_in}
use Rattle.chr_machine.specs.Step.{Makes}

pub reactivated : (c : CourseModel) (i : ℕ) (a : Atom) (rest : List Element) → Makes (model_with (known i a ∷ rest) running c) (model_with (active i 1 a ∷ rest) running (logged c.base (reactivates (resolved_atom c.base.subst a) i) c))
reactivated c i a rest = record { state = refl; store = refl; entries = refl; lines = refl; counts = record { steps = refl; given = omega arith; changed = omega arith }; same = record { names = refl; rules = refl; var_names = refl } }

pub activated : (c : CourseModel) (a : Atom) (rest : List Element)
    → Makes (model_with (goal (constraint a) ∷ rest) running c) (model_with (active c.base.store.next_id 1 a ∷ rest) running (logged (record c.base { store = added c.base.store a }) (activates (resolved_atom c.base.subst a) c.base.store.next_id) c))
activated c a rest = record { state = refl; store = refl; entries = refl; lines = refl; counts = record { steps = refl; given = omega arith; changed = omega arith }; same = record { names = refl; rules = refl; var_names = refl } }

module _ (c : CourseModel) (i j : ℕ) (a : Atom) (rest : List Element) where
  pub dropped : search_in c i j a ≡ no_occurrence → Makes (model_with (active i j a ∷ rest) running c) (model_with rest (status_at rest) (logged c.base (drops (resolved_atom c.base.subst a) i j) c))
  dropped none = record {
    state = sym (ap (search_step (state_in (model_with (active i j a ∷ rest) running c)) rest i j a) none);
    store = sym (ap (λ (f : Found). found_calls f c.base.store) none);
    entries = sym (ap (λ (f : Found). found_entry f c.base.entries) none);
    lines = ap (λ (f : Found). c.lines ++ line_in c (search_line (resolved_atom c.base.subst a) i j f) ∷ []) (sym none);
    counts = record { steps = refl; given = omega arith; changed = omega arith };
    same = record { names = refl; rules = refl; var_names = refl };
  }

  pub defaulted : search_in c i j a ≡ no_firing → Makes (model_with (active i j a ∷ rest) running c) (model_with (active i (j + 1) a ∷ rest) running (logged c.base (defaults (resolved_atom c.base.subst a) i j) c))
  defaulted none = record {
    state = sym (ap (search_step (state_in (model_with (active i j a ∷ rest) running c)) rest i j a) none);
    store = sym (ap (λ (f : Found). found_calls f c.base.store) none);
    entries = sym (ap (λ (f : Found). found_entry f c.base.entries) none);
    lines = ap (λ (f : Found). c.lines ++ line_in c (search_line (resolved_atom c.base.subst a) i j f) ∷ []) (sym none);
    counts = record { steps = refl; given = omega arith; changed = omega arith };
    same = record { names = refl; rules = refl; var_names = refl };
  }
