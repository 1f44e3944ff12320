-- A firing as a transition.
use Rattle.std.proofs.Common.{◌≡◌, ◌==◌, ◌∙◌, ◌+◌, ◌≤◌, ◌++◌, ◌∷◌, [], ℕ, Bool, false, cond, nat_lt, List, Option, Some, None, ap, arith, drop, length, length-drop, map, refl, subst, sym}
use Rattle.std.specs.List.{fold}
use Rattle.chr_semantics.specs.Calls.{found_calls, found_entry, status_calls, store_calls}
use Rattle.chr_semantics.specs.Changes.{Entries, Store, entered, removed, removed_as}
use Rattle.chr_semantics.specs.Footprint.{IsSound}
use Rattle.chr_semantics.specs.Match.{Row}
use Rattle.chr_semantics.specs.Program.{Atom, Rule}
use Rattle.chr_semantics.specs.Search.{Found, atom_of, fired_before, firing, ids_of}
use Rattle.chr_semantics.specs.State.{Element, State, Status, active, resolved_atom, running, status_at}
use Rattle.chr_semantics.specs.Step.{body_of, fire_step, search_step, step, step_at}
use Rattle.chr_semantics.specs.Trace.{search_line}
use Rattle.chr_semantics.proofs.CallsLaw.{calls_law}
use Rattle.chr_machine.specs.Firing.{fired_base, firing_line, search_in}
use Rattle.chr_machine.specs.Model.{CourseModel, line_in, logged, model_with, state_in}
use Rattle.chr_machine.specs.Step.{Makes}

-- removals give no identity, and each counts once at most
removed_counts : (m : Store) (i : ℕ) (o : Option Atom) → ((removed_as m i o).next_id ≡ m.next_id) × ((removed_as m i o).changes ≤ m.changes + 1)
removed_counts m i None = (refl, omega arith)
removed_counts m i (Some a) = (refl, omega arith)

all_counts : (ids : List ℕ) (m : Store) → ((fold removed m ids).next_id ≡ m.next_id) × ((fold removed m ids).changes ≤ m.changes + length ids)
all_counts [] m = (refl, omega arith)
all_counts (i ∷ ids) m =
    let one = removed_counts m i (atom_of m.rows i) in
    let rest = all_counts ids (removed m i) in
    (rest.0 ∙ one.0, omega (arith, one.1, rest.1))

module _ (c : CourseModel) (i j : ℕ) (a : Atom) (r : ℕ) (rule : Rule) (place : ℕ) (t : List Row) (rest : List Element) where
  abbrev before : State
  before = state_in (model_with (active i j a ∷ rest) running c)

  -- the stack after it
  abbrev pub fired_stack : List Element
  fired_stack = body_of rule t c.base.next_var ++ cond (nat_lt place rule.kept) (active i j a ∷ rest) rest

  -- the course after it
  abbrev pub fired_course : CourseModel
  fired_course = logged (fired_base c.base r rule (ids_of t)) (firing_line i j (resolved_atom c.base.subst a) rule place (ids_of t)) c

  module _ (sound : IsSound before) (found : search_in c i j a ≡ firing r rule place t) where
    store_fired : store_calls c.rules before c.base.store ≡ fold removed c.base.store (drop rule.kept (ids_of t))
    store_fired = ap (λ (f : Found). found_calls f c.base.store) found

    step_fired : step c.rules before ≡ fire_step before rest (active i j a) r rule place t
    step_fired = ap (search_step before rest i j a) found

    rows_fired : ((fold removed c.base.store (drop rule.kept (ids_of t))).rows ≡ (fire_step before rest (active i j a) r rule place t).store) × ((fold removed c.base.store (drop rule.kept (ids_of t))).next_id ≡ c.base.store.next_id)
    rows_fired =
        let law = calls_law.rows c.rules before c.base.store sound refl refl in
        (ap (λ (st : Store). st.rows) (sym store_fired) ∙ (law.0 ∙ ap (λ (s : State). s.store) step_fired), (all_counts (drop rule.kept (ids_of t)) c.base.store).0)

    history_fired : fired_before c.base.entries.list r (ids_of t) ≡ false → (entered c.base.entries r (ids_of t)).list ≡ c.base.entries.list ++ (r, ids_of t) ∷ []
    history_fired new = ap (λ (b : Bool). (let e : Entries = cond b c.base.entries (record { list = c.base.entries.list ++ (r, ids_of t) ∷ []; stamps = λ k. c.base.entries.stamps k + cond (r == k) 1 0 }) in e.list)) new

    -- the rule fires
    pub fired_makes : fired_before c.base.entries.list r (ids_of t) ≡ false → length (ids_of t) ≤ 8 → Makes (model_with (active i j a ∷ rest) running c) (model_with fired_stack (status_at fired_stack) fired_course)
    fired_makes new few =
        let rows = rows_fired in
        let counts = all_counts (drop rule.kept (ids_of t)) c.base.store in
        record {
          state = (λ k. record (fire_step before rest (active i j a) r rule place t) { store = rows.0 k; next_id = rows.1 k; history = history_fired new k }) ∙ sym (ap (search_step before rest i j a) found);
          store = sym (ap (λ (f : Found). found_calls f c.base.store) found);
          entries = sym (ap (λ (f : Found). found_entry f c.base.entries) found);
          lines = ap (λ (f : Found). c.lines ++ line_in c (search_line (resolved_atom c.base.subst a) i j f) ∷ []) (sym found);
          counts = record { steps = refl; given = omega (arith, counts.0); changed = omega (arith, counts.1, length-drop rule.kept (ids_of t), few) };
          same = record { names = refl; rules = refl; var_names = refl };
        }
