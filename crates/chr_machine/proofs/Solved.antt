-- What comes of a Solve.
use Rattle.std.proofs.Common.{◌≡◌, ◌⊎◌, inl, inr, ◌∙◌, ◌+◌, ◌<◌, ◌≤◌, ◌++◌, ◌∷◌, [], ℕ, ℤ, Bool, true, false, cond, nat_lt, List, Option, Some, None, Result, Ok, Err, ap, arith, length, refl, subst, sym}
use Rattle.std.specs.Prelude.{IfOk, OnOk}
use Rattle.chr_semantics.specs.Calls.{bind_calls}
use Rattle.chr_semantics.specs.Changes.{Store, rebound, woken}
use Rattle.chr_semantics.specs.Mgu.{mgu}
use Rattle.chr_semantics.specs.Guard.{comparison_holds}
use Rattle.chr_semantics.specs.Program.{Comparison, Goal, constraint, tell, evaluate, compare, fail}
use Rattle.chr_semantics.specs.State.{Element, State, failed, goal, running, status_at, with_stack}
use Rattle.chr_semantics.specs.Step.{bind_step, compare_step, evaluate_step, solve, with_status, woken_elements}
use Rattle.chr_semantics.specs.Subst.{Subst, apply}
use Rattle.chr_semantics.specs.Trace.{Line, solve_line, solves}
use Rattle.chr_semantics.specs.Tree.{Tree, int}
use Rattle.chr_semantics.specs.Value.{Fault, value}
use Rattle.chr_bind.specs.declared.bindings.Unified.{Unified}
use Rattle.chr_bind.specs.declared.bindings.Unified.TheVariants.{Same, Bound, Clash}
use Rattle.chr_trace.specs.State.{status_view}
use Rattle.chr_trace.specs.declared.state.Status as declared
use Rattle.chr_base.specs.Model.{BaseModel}
use Rattle.chr_base.specs.Told.{IsTold}
use Rattle.chr_machine.specs.Model.{CourseModel, Model, line_in, logged, model_with}
use Rattle.chr_machine.specs.Solving.{Compares, Evaluates, Reaches, Solves, Tells, shown, with_goal, woken_in}
use Rattle.chr_machine.specs.Stack.{IsBuiltIn}
use Rattle.chr_machine.specs.Step.{Makes}
use Rattle.chr_machine.specs.declared.solving.Solved.{Solved}
use Rattle.chr_machine.specs.declared.solving.Solved.TheVariants.{Ends, Holds}
use Rattle.std.proofs.lemmas.Bool.{lt-ltb}

-- a run that goes on, or is done, was no failure
goes_on : (g : Goal) (es : List Element) → solve_line g (status_at es) ≡ solves g
goes_on g [] = refl
goes_on g (e ∷ es) = refl

rebound_rows : (m : Store) (ids : List ℕ) → ((rebound m ids).rows ≡ m.rows) × ((rebound m ids).next_id ≡ m.next_id) × ((rebound m ids).changes ≤ m.changes + 8)
rebound_rows m [] = (refl, refl, omega arith)
rebound_rows m (i ∷ is) = (refl, refl, omega arith)

not_less : (n : ℕ) → nat_lt n n ≡ false
not_less n = by (nat_lt n n) refl
  where
    by : (b : Bool) → nat_lt n n ≡ b → b ≡ false
    by true e = absurd (grind (arith, e))
    by false e = refl

module _ (g : Goal) (c : CourseModel) where
  -- a Solve that holds with these bindings, and with a store of the same constraints
  reached : (rest : List Element) (r : Subst) (st : Store) → st ≡ bind_calls (with_goal g rest c) (bind_step (with_goal g rest c) rest (Some r)) c.base.store → st.rows ≡ c.base.store.rows → st.next_id ≡ c.base.store.next_id → st.changes ≤ c.base.store.changes + 8
      → Reaches g (bind_step (with_goal g rest c) rest (Some r)) rest c (model_with (woken_in c ++ rest) (status_at (woken_in c ++ rest)) (logged (record c.base { store = st; subst = r }) (solves (shown c g)) c))
  reached rest r st calls rows next few = record {
    state = λ k. record (bind_step (with_goal g rest c) rest (Some r)) { store = rows k; next_id = next k };
    store = calls;
    entries = refl;
    lines = ap (λ (l : Line). c.lines ++ line_in c l ∷ []) (sym (goes_on (shown c g) (woken_in c ++ rest)));
    counts = record { steps = refl; given = omega (arith, next); changed = few };
    same = record { names = refl; rules = refl; var_names = refl };
  }

  -- the run ends with the goal
  pub ended : (rest : List Element) (w : declared.Status) (t : State) → t ≡ with_status (with_goal g rest c) (status_view w) → Reaches g t rest c (model_with (goal g ∷ rest) (status_view w) (logged c.base (solve_line (shown c g) (status_view w)) c))
  ended rest w t is =
      subst (λ (u : State). Reaches g u rest c (model_with (goal g ∷ rest) (status_view w) (logged c.base (solve_line (shown c g) (status_view w)) c))) (sym is)
      (record {
        state = refl;
        store = sym (ap (λ (b : Bool). cond b (rebound c.base.store (woken c.base.store c.base.subst)) c.base.store) (not_less (length c.base.subst)));
        entries = refl;
        lines = refl;
        counts = record { steps = refl; given = omega arith; changed = omega arith };
        same = record { names = refl; rules = refl; var_names = refl };
      })

  -- nothing is told
  pub passed : (rest : List Element) → Reaches g (with_stack (with_goal g rest c) (woken_in c ++ rest)) rest c (model_with (woken_in c ++ rest) (status_at (woken_in c ++ rest)) (logged c.base (solves (shown c g)) c))
  passed rest = record {
    state = refl;
    store = sym (ap (λ (b : Bool). cond b (rebound c.base.store (woken c.base.store c.base.subst)) c.base.store) (not_less (length c.base.subst)));
    entries = refl;
    lines = ap (λ (l : Line). c.lines ++ line_in c l ∷ []) (sym (goes_on (shown c g) (woken_in c ++ rest)));
    counts = record { steps = refl; given = omega arith; changed = omega arith };
    same = record { names = refl; rules = refl; var_names = refl };
  }

  module _ (t u : Tree) where
    -- that two terms are equal is told, and holds
    pub told : (ids : List ℕ) (v : Unified) (b : BaseModel) → ids ≡ woken c.base.store c.base.subst → (v ≡ Same ⊎ v ≡ Bound) → IsTold t u ids v c.base b → Tells g c Holds (logged b (solves (shown c g)) c) t u
    told ids Same b woke is at rest =
        subst (λ (o : Option Subst). Reaches g (bind_step (with_goal g rest c) rest o) rest c (model_with (woken_in c ++ rest) (status_at (woken_in c ++ rest)) (logged b (solves (shown c g)) c))) (sym at.0)
        (subst (λ (d : BaseModel). Reaches g (bind_step (with_goal g rest c) rest (Some c.base.subst)) rest c (model_with (woken_in c ++ rest) (status_at (woken_in c ++ rest)) (logged d (solves (shown c g)) c))) (sym at.1)
        (reached rest c.base.subst c.base.store (sym (ap (λ (b : Bool). cond b (rebound c.base.store (woken c.base.store c.base.subst)) c.base.store) (not_less (length c.base.subst)))) refl refl (omega arith)))
    told ids Bound b woke is at rest =
        let st = rebound c.base.store (woken c.base.store c.base.subst) in
        let parts = rebound_rows c.base.store (woken c.base.store c.base.subst) in
        let base : b ≡ record c.base { store = st; subst = b.subst } = at.2 ∙ ap (λ (is : List ℕ). record c.base { store = rebound c.base.store is; subst = b.subst }) woke in
        subst (λ (o : Option Subst). Reaches g (bind_step (with_goal g rest c) rest o) rest c (model_with (woken_in c ++ rest) (status_at (woken_in c ++ rest)) (logged b (solves (shown c g)) c))) (sym at.0)
        (subst (λ (d : BaseModel). Reaches g (bind_step (with_goal g rest c) rest (Some b.subst)) rest c (model_with (woken_in c ++ rest) (status_at (woken_in c ++ rest)) (logged d (solves (shown c g)) c))) (sym base)
        (reached rest b.subst st (sym (ap (λ (b : Bool). cond b st c.base.store) (lt-ltb (length c.base.subst) (length b.subst) at.1))) parts.0 parts.1 parts.2))
    told ids Clash b woke is at rest = absurd (elim is [ inl e ↦ cc | inr e ↦ cc ])

-- the run ends so, which is what a Solve is to lead to
pub ends_so : {E : Type 0} (r : Result Solved E) (g : Goal) (c d : CourseModel) (w : declared.Status) (t : List Element → State) → ((rest : List Element) → t rest ≡ with_status (with_goal g rest c) (status_view w)) → IfOk r (λ s. s ≡ Ends w)
    → OnOk r (d ≡ logged c.base (solve_line (shown c g) (status_view w)) c) → IfOk r (λ s. Solves g t c s d)
ends_so (Err e) g c d w t is ends logged_is = tt
ends_so (Ok s) g c d w t is ends logged_is =
    subst (λ (x : Solved). Solves g t c x d) (sym ends)
    (λ rest. subst (λ (e : CourseModel). Reaches g (t rest) rest c (model_with (goal g ∷ rest) (status_view w) e)) (sym logged_is) (ended g c rest w (t rest) (is rest)))

-- a value is told
pub evaluated : {E : Type 0} (r : Result Solved E) (g : Goal) (c d : CourseModel) (t u : Tree) (z : ℤ) → value (apply c.base.subst u) ≡ Ok z → IfOk r (λ s. Tells g c s d t (int z)) → IfOk r (λ s. Evaluates g c s d t u)
evaluated r g c d t u z is tells = subst (λ (v : Result ℤ Fault). IfOk r (λ s. Solves g (λ rest. evaluate_step (with_goal g rest c) rest t v) c s d)) (sym is) tells

-- a comparison that holds
pub compared_holds : (g : Goal) (c d : CourseModel) (f : Comparison) (t u : Tree) (x y : ℤ) → value (apply c.base.subst t) ≡ Ok x → value (apply c.base.subst u) ≡ Ok y → comparison_holds f x y ≡ true → d ≡ logged c.base (solves (shown c g)) c → Compares g c Holds d f t u
compared_holds g c d f t u x y left right holds logged_is rest =
    let s = with_goal g rest c in
    let is : compare_step s rest f (value (apply c.base.subst t)) (value (apply c.base.subst u)) ≡ with_stack s (woken_in c ++ rest) =
    (λ k. compare_step s rest f (left k) (right k)) ∙ ap (λ (b : Bool). cond b (with_stack s (woken_elements s ++ rest)) (with_status s failed)) holds
    in
    subst (λ (z : State). Reaches g z rest c (model_with (woken_in c ++ rest) (status_at (woken_in c ++ rest)) d)) (sym is)
    (subst (λ (e : CourseModel). Reaches g (with_stack s (woken_in c ++ rest)) rest c (model_with (woken_in c ++ rest) (status_at (woken_in c ++ rest)) e)) (sym logged_is) (passed g c rest))

-- what binds nothing touches nothing
compared_calls : (s : State) (rest : List Element) (c : Comparison) (x y : Result ℤ Fault) (st : Store) → bind_calls s (compare_step s rest c x y) st ≡ st
compared_calls s rest c (Err f) y st = ap (λ (b : Bool). cond b (rebound st (woken st s.subst)) st) (not_less (length s.subst))
compared_calls s rest c (Ok x) (Err f) st = ap (λ (b : Bool). cond b (rebound st (woken st s.subst)) st) (not_less (length s.subst))
compared_calls s rest c (Ok x) (Ok y) st = by (comparison_holds c x y)
  where
    by : (b : Bool) → bind_calls s (cond b (with_stack s (woken_elements s ++ rest)) (with_status s failed)) st ≡ st
    by true = ap (λ (b : Bool). cond b (rebound st (woken st s.subst)) st) (not_less (length s.subst))
    by false = ap (λ (b : Bool). cond b (rebound st (woken st s.subst)) st) (not_less (length s.subst))

-- a goal that is solved makes the transition
pub solve_makes : (g : Goal) (rest : List Element) (c : CourseModel) (n : Model) → IsBuiltIn g → Reaches g (solve (with_goal g rest c) rest g) rest c n → Makes (model_with (goal g ∷ rest) running c) n
solve_makes (constraint a) rest c n h r = absurd h
solve_makes (tell t u) rest c n h r = record { state = r.state; store = r.store; entries = r.entries; lines = r.lines; counts = record { steps = r.counts.steps; given = r.counts.given; changed = r.counts.changed }; same = record { names = r.same.names; rules = r.same.rules; var_names = r.same.var_names } }
solve_makes (evaluate t u) rest c n h r = record { state = r.state; store = r.store; entries = r.entries; lines = r.lines; counts = record { steps = r.counts.steps; given = r.counts.given; changed = r.counts.changed }; same = record { names = r.same.names; rules = r.same.rules; var_names = r.same.var_names } }
solve_makes (compare f t u) rest c n h r = record {
  state = r.state;
  store = r.store ∙ compared_calls (with_goal (compare f t u) rest c) rest f (value (apply c.base.subst t)) (value (apply c.base.subst u)) c.base.store;
  entries = r.entries;
  lines = r.lines;
  counts = record { steps = r.counts.steps; given = r.counts.given; changed = r.counts.changed };
  same = record { names = r.same.names; rules = r.same.rules; var_names = r.same.var_names };
}
solve_makes fail rest c n h r = record {
  state = r.state;
  store = r.store ∙ ap (λ (b : Bool). cond b (rebound c.base.store (woken c.base.store c.base.subst)) c.base.store) (not_less (length c.base.subst));
  entries = r.entries;
  lines = r.lines;
  counts = record { steps = r.counts.steps; given = r.counts.given; changed = r.counts.changed };
  same = record { names = r.same.names; rules = r.same.rules; var_names = r.same.var_names };
}
