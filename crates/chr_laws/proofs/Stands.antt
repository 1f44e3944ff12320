-- A core goes on to stand at the schedule with one event more.
use Rattle.std.proofs.Common.{Bool, List, None, Option, Some, [], ap, arith, cond, false, refl, subst, sym, true, ℕ, ◌+◌, ◌++◌, ◌∙◌, ◌∷◌, ◌≡◌, ◌≤◌, length}
use Rattle.std.proofs.lemmas.List.{length-append, length-map}
use Rattle.std.specs.List.{list_any}
use Rattle.std.specs.Prelude.{nat_lt, slice_get}
use Rattle.chr_semantics.specs.Program.{Program}
use Rattle.chr_semantics.specs.Schedule.{Event, Progress, Took, arrive, double, is_served, kept, late, move, next, progress, publish, serves, took, with_step, with_took}
use Rattle.chr_semantics.specs.Stamps.{Rise}
use Rattle.chr_semantics.specs.State.{State}
use Rattle.chr_semantics.specs.Step.{after}
use Rattle.chr_semantics.specs.Tasks.{Task, needed_task, same_task}
use Rattle.chr_semantics.specs.declared.limits.TheConstants.{KEPT_ROUNDS}
use Rattle.chr_semantics.proofs.AppendedLaw.{appended_law}
use Rattle.chr_laws.specs.Kept.{Answered, ArePast, ArePlaced, AreSpots, at_of, passes, serves_at}
use Rattle.chr_laws.specs.Rounds.{Round, ats, flag_at}
use Rattle.chr_laws.specs.Stands.{Core, Stands, StandsAt, StandsLaw}
use Rattle.chr_laws.proofs.Holds.{holds_law}
use Rattle.chr_laws.proofs.Served.{served_law}

-- at the schedule with one event more
more : (p : Program) (rise : Rise) (q : State) (es : List Event) (e : Event) (c : Core) → StandsAt p rise q (next p q (progress p q es) e) (length es + 1) c → Stands p rise q (es ++ e ∷ []) c
more p rise q es e c h =
    subst (λ (n : ℕ). StandsAt p rise q (progress p q (es ++ e ∷ [])) n c) (sym (length-append es (e ∷ [])))
    (subst (λ (g : Progress). StandsAt p rise q g (length es + 1) c) (sym (appended_law p q es e)) h)

module _ (p : Program) (rise : Rise) (q : State) (g : Progress) (n : ℕ) (c : Core) (h : StandsAt p rise q g n c) where
  few_more : (w x y z : ℕ) → w + x + y + z ≡ c.late + c.double + c.used + c.own + 1 → w + x + y + z ≤ n + 1
  few_more w x y z e = let old = h.few in omega (arith, e, old)

  pub late_stands : (x i : ℕ) → StandsAt p rise q (with_took g x (late i)) (n + 1) (record c { late = c.late + 1 })
  late_stands x i = record {
    holds = holds_law.as_ever p rise q g (with_took g x (late i)) c.rounds c.answers c.row c.guests h.holds refl refl (omega arith);
    steps_are = h.steps_are;
    late_are = ap (λ (k : ℕ). k + 1) h.late_are;
    double_are = h.double_are;
    used_are = h.used_are;
    own_are = h.own_are;
    few = few_more (c.late + 1) c.double c.used c.own (omega arith);
  }

  pub double_stands : (x i : ℕ) → StandsAt p rise q (with_took g x (double i)) (n + 1) (record c { double = c.double + 1 })
  double_stands x i = record {
    holds = holds_law.as_ever p rise q g (with_took g x (double i)) c.rounds c.answers c.row c.guests h.holds refl refl (omega arith);
    steps_are = h.steps_are;
    late_are = h.late_are;
    double_are = ap (λ (k : ℕ). k + 1) h.double_are;
    used_are = h.used_are;
    own_are = h.own_are;
    few = few_more c.late (c.double + 1) c.used c.own (omega arith);
  }

  pub moved : StandsAt p rise q (record g { steps = g.steps + 1 }) (n + 1) (record c { steps = c.steps + 1 })
  moved = record {
    holds = holds_law.as_ever p rise q g (record g { steps = g.steps + 1 }) c.rounds c.answers c.row c.guests h.holds refl refl (omega arith);
    steps_are = ap (λ (k : ℕ). k + 1) h.steps_are;
    late_are = h.late_are;
    double_are = h.double_are;
    used_are = h.used_are;
    own_are = h.own_are;
    few = (let old = h.few in omega (arith, old));
  }

  pub used_stands : StandsAt p rise q (record g { steps = g.steps + 1; used = g.used + 1 }) (n + 1) (record c { steps = c.steps + 1; used = c.used + 1 })
  used_stands = record {
    holds = holds_law.as_ever p rise q g (record g { steps = g.steps + 1; used = g.used + 1 }) c.rounds c.answers c.row c.guests h.holds refl refl (omega arith);
    steps_are = ap (λ (k : ℕ). k + 1) h.steps_are;
    late_are = h.late_are;
    double_are = h.double_are;
    used_are = ap (λ (k : ℕ). k + 1) h.used_are;
    own_are = h.own_are;
    few = few_more c.late c.double (c.used + 1) c.own (omega arith);
  }

  pub own_stands : StandsAt p rise q (record g { steps = g.steps + 1; own = g.own + 1 }) (n + 1) (record c { steps = c.steps + 1; own = c.own + 1 })
  own_stands = record {
    holds = holds_law.as_ever p rise q g (record g { steps = g.steps + 1; own = g.own + 1 }) c.rounds c.answers c.row c.guests h.holds refl refl (omega arith);
    steps_are = ap (λ (k : ℕ). k + 1) h.steps_are;
    late_are = h.late_are;
    double_are = h.double_are;
    used_are = h.used_are;
    own_are = ap (λ (k : ℕ). k + 1) h.own_are;
    few = few_more c.late c.double c.used (c.own + 1) (omega arith);
  }

  -- a kept answer that serves makes the step used
  pub is_used : (t : Task) (i : ℕ) (k : Answered) → slice_get c.answers i ≡ Some k → same_task t k.task ≡ true → serves_at p q (ats c.rounds) c.steps c.answers t i ≡ true → is_served p q g t ≡ true
  is_used t i k e its served =
      let rounds_are = h.holds.ats_are in
      let then : serves_at p q g.rounds g.steps c.answers t i ≡ true = subst (λ (rs : List ℕ). serves_at p q rs g.steps c.answers t i ≡ true) rounds_are (subst (λ (m : ℕ). serves_at p q (ats c.rounds) m c.answers t i ≡ true) (sym h.steps_are) served) in
      served_law.served p q g c.answers t i k h.holds.kept_are (subst (λ (rs : List ℕ). ArePlaced p q rs c.answers) rounds_are h.holds.placed) e its
      (sym (ap (passes (λ (z : Answered). serves p q (at_of g.rounds z) g.steps t)) e) ∙ then)

  -- and it is own where none does
  pub is_own : (t : Task)
      → ((i : ℕ) → c.row t ≡ Some i → serves_at p q (ats c.rounds) c.steps c.answers t i ≡ false)
      → list_any (serves_at p q (ats c.rounds) c.steps c.answers t) (c.guests t) ≡ false
      → is_served p q g t ≡ false
  is_own t rows guests =
      let rounds_are = h.holds.ats_are in
      served_law.not_served p q g c.answers c.row c.guests t h.holds.kept_are
      (subst (λ (rs : List ℕ). ArePlaced p q rs c.answers) rounds_are h.holds.placed)
      (subst (ArePast g.steps) rounds_are h.holds.past)
      (subst (λ (rs : List ℕ). AreSpots p q rs c.answers c.row c.guests) rounds_are h.holds.spots)
      (λ i e. subst (λ (rs : List ℕ). serves_at p q rs g.steps c.answers t i ≡ false) rounds_are (subst (λ (m : ℕ). serves_at p q (ats c.rounds) m c.answers t i ≡ false) (sym h.steps_are) (rows i e)))
      (subst (λ (rs : List ℕ). list_any (serves_at p q rs g.steps c.answers t) (c.guests t) ≡ false) rounds_are (subst (λ (m : ℕ). list_any (serves_at p q (ats c.rounds) m c.answers t) (c.guests t) ≡ false) (sym h.steps_are) guests))

  -- what the next step needs, by the state after the core's transitions
  needs_here : (x : Option Task) → needed_task p (after p q c.steps) ≡ x → needed_task p (after p q g.steps) ≡ x
  needs_here x e = ap (λ (m : ℕ). needed_task p (after p q m)) h.steps_are ∙ e

  pub moves_by : needed_task p (after p q c.steps) ≡ None → StandsAt p rise q (next p q g move) (n + 1) (record c { steps = c.steps + 1 })
  moves_by e = subst (λ (x : Option Task). StandsAt p rise q (with_step p q g x) (n + 1) (record c { steps = c.steps + 1 })) (sym (needs_here None e)) moved

  used_by : (t : Task) → is_served p q g t ≡ true → StandsAt p rise q (with_step p q g (Some t)) (n + 1) (record c { steps = c.steps + 1; used = c.used + 1 })
  used_by t e = rw (e, with_step) used_stands

  own_by : (t : Task) → is_served p q g t ≡ false → StandsAt p rise q (with_step p q g (Some t)) (n + 1) (record c { steps = c.steps + 1; own = c.own + 1 })
  own_by t e = rw (e, with_step) own_stands

  pub uses_by : (t : Task) → needed_task p (after p q c.steps) ≡ Some t → is_served p q g t ≡ true → StandsAt p rise q (next p q g move) (n + 1) (record c { steps = c.steps + 1; used = c.used + 1 })
  uses_by t e served = subst (λ (x : Option Task). StandsAt p rise q (with_step p q g x) (n + 1) (record c { steps = c.steps + 1; used = c.used + 1 })) (sym (needs_here (Some t) e)) (used_by t served)

  pub searches_by : (t : Task) → needed_task p (after p q c.steps) ≡ Some t → is_served p q g t ≡ false → StandsAt p rise q (next p q g move) (n + 1) (record c { steps = c.steps + 1; own = c.own + 1 })
  searches_by t e served = subst (λ (x : Option Task). StandsAt p rise q (with_step p q g x) (n + 1) (record c { steps = c.steps + 1; own = c.own + 1 })) (sym (needs_here (Some t) e)) (own_by t served)

  -- what becomes of an answer, by what the core keeps
  pub took_is : (i x : ℕ) → took g i x ≡ cond (nat_lt (i + KEPT_ROUNDS) (length c.rounds)) (late i) (cond (flag_at c.rounds i x) (double i) (kept i))
  took_is i x =
      ap (λ (b : Bool). cond b (late i) (cond (list_any (same_task (i, x)) g.kept) (double i) (kept i)))
      (ap (nat_lt (i + KEPT_ROUNDS)) (ap (λ (rs : List ℕ). length rs) (sym h.holds.ats_are) ∙ length-map c.rounds (λ (d : Round). d.at)))
      ∙ ap (λ (b : Bool). cond (nat_lt (i + KEPT_ROUNDS) (length c.rounds)) (late i) (cond b (double i) (kept i))) (sym (h.holds.flagged i x))

  pub took_by : (i x : ℕ) (w : Took) (d : Core) → took g i x ≡ w → StandsAt p rise q (with_took g x w) (n + 1) d → StandsAt p rise q (next p q g (arrive i x)) (n + 1) d
  took_by i x w d e s = subst (λ (v : Took). StandsAt p rise q (with_took g x v) (n + 1) d) (sym e) s

pub stands_law : StandsLaw
stands_law = record {
  none = λ p rise q. record {
    holds = holds_law.at_start p rise q;
    steps_are = refl;
    late_are = refl;
    double_are = refl;
    used_are = refl;
    own_are = refl;
    few = omega arith;
  };
  publishes = λ p rise q es c d h is now none. more p rise q es publish (record c { rounds = c.rounds ++ d ∷ [] }) (record {
    holds = holds_law.publishes p rise q (progress p q es) c.rounds c.answers c.row c.guests d h.holds is (now ∙ sym h.steps_are) none;
    steps_are = h.steps_are;
    late_are = h.late_are;
    double_are = h.double_are;
    used_are = h.used_are;
    own_are = h.own_are;
    few = (let old = h.few in omega (arith, old));
  });
  takes = λ p rise q es c i x h. took_is p rise q (progress p q es) (length es) c h i x;
  comes_late = λ p rise q es c i x h e. more p rise q es (arrive i x) (record c { late = c.late + 1 })
      (took_by p rise q (progress p q es) (length es) c h i x (late i) (record c { late = c.late + 1 }) e (late_stands p rise q (progress p q es) (length es) c h x i));
  comes_again = λ p rise q es c i x h e. more p rise q es (arrive i x) (record c { double = c.double + 1 })
      (took_by p rise q (progress p q es) (length es) c h i x (double i) (record c { double = c.double + 1 }) e (double_stands p rise q (progress p q es) (length es) c h x i));
  keeps = λ p rise q es c new_rounds new_row new_guests k h e placed right same are flags rows_now guests_now.
      more p rise q es (arrive k.round k.index) (record c { rounds = new_rounds; answers = c.answers ++ k ∷ []; row = new_row; guests = new_guests })
      (took_by p rise q (progress p q es) (length es) c h k.round k.index (kept k.round) (record c { rounds = new_rounds; answers = c.answers ++ k ∷ []; row = new_row; guests = new_guests }) e (record {
        holds = holds_law.keeps p rise q (progress p q es) c.rounds new_rounds c.answers c.row new_row c.guests new_guests k h.holds placed right same are flags rows_now guests_now;
        steps_are = h.steps_are;
        late_are = h.late_are;
        double_are = h.double_are;
        used_are = h.used_are;
        own_are = h.own_are;
        few = (let old = h.few in omega (arith, old));
      }));
  moves = λ p rise q es c h e. more p rise q es move (record c { steps = c.steps + 1 }) (moves_by p rise q (progress p q es) (length es) c h e);
  uses = λ p rise q es c t i k h e there its served. more p rise q es move (record c { steps = c.steps + 1; used = c.used + 1 })
      (uses_by p rise q (progress p q es) (length es) c h t e (is_used p rise q (progress p q es) (length es) c h t i k there its served));
  searches = λ p rise q es c t h e rows guests. more p rise q es move (record c { steps = c.steps + 1; own = c.own + 1 })
      (searches_by p rise q (progress p q es) (length es) c h t e (is_own p rise q (progress p q es) (length es) c h t rows guests));
}
