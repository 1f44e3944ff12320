-- A run goes on to keep the policy, event by event.
use Rattle.std.proofs.Common.{◌≡◌, ◌∙◌, ◌+◌, ◌<◌, ◌≤◌, ℕ, Bool, true, false, cond, not, ◌&&◌, List, [], ◌∷◌, ◌++◌, Option, Some, None, Result, Ok, Err, ap, arith, refl, subst, sym}
use Rattle.std.specs.Prelude.{◌||◌, OnOk, is_some, length}
use Rattle.std.proofs.lemmas.Bool.{lt-ltb}
use Rattle.chr_semantics.specs.Policy.{IsPolicy, Stage, first_stage, has_steps_alone, is_missed, is_place, is_place_for, may_follow, missed_places, with_event}
use Rattle.chr_semantics.specs.Program.{Program, Query}
use Rattle.chr_semantics.specs.Schedule.{Event, Progress, arrive, move, progress, publish, too_many_rounds, too_many_steps}
use Rattle.chr_semantics.specs.State.{State, start}
use Rattle.chr_semantics.specs.Step.{after}
use Rattle.chr_semantics.specs.Tasks.{Task, needed_task}
use Rattle.chr_semantics.specs.declared.limits.TheConstants.{MAX_ROUNDS, MAX_TRANSITIONS}
use Rattle.chr_core.specs.CoreView.{AllowsArrival, IsThere, arrived}
use Rattle.chr_core.specs.declared.arriving.Took.{Took}
use Rattle.chr_core.specs.declared.arriving.Took.TheVariants.{Double, Kept, Late, Stranger}
use Rattle.chr_policy.specs.Standing.{IsReady, Keeps, Rests, stage_of}
use Rattle.chr_policy.proofs.Stages.{allowed_more, alone_more, follow_more, keeps_all, missed_more, now_is, rounds_more, stage_more, stepped_rounds}

-- before the first event
pub rests_at_start : (p : Program) (q : State) (workers : ℕ) → Rests p q workers 0 []
rests_at_start p q workers = record {
  missed = 0;
  keeps = record { allowed = refl; follow = refl; stepped_is = refl; published_is = refl; missed_are = refl };
  none_arrived = refl;
  alone = λ _. (refl, refl);
  few = λ _. omega arith;
  all = λ _ few. refl;
}

module _ (p : Program) (q : State) (es : List Event) where
  -- a Publish at a place, right after a Step
  pub keeps_published : (missed : ℕ) → Keeps p q es (progress p q es) false missed → (stage_of p q es).arrived ≡ false → is_place p q (progress p q es) ≡ true → length (progress p q es).rounds < MAX_ROUNDS
      → Keeps p q (es ++ publish ∷ []) (progress p q es) true missed
  keeps_published missed k none place few = record {
    allowed = allowed_more p q es publish k.allowed (ap (λ (b : Bool). cond b None (Some (too_many_rounds (length es)))) (lt-ltb (length (progress p q es).rounds) MAX_ROUNDS few));
    follow = follow_more p q es publish k.follow
        (ap (λ b. not b && (not (stage_of p q es).arrived && is_place p q (stage_of p q es).stepped)) k.published_is
        ∙ (ap (λ b. not b && is_place p q (stage_of p q es).stepped) none ∙ (ap (is_place p q) k.stepped_is ∙ place)));
    stepped_is = ap (λ (g : Stage). g.stepped) (stage_more p q es publish) ∙ k.stepped_is;
    published_is = ap (λ (g : Stage). g.published) (stage_more p q es publish);
    missed_are = (let h = missed_more p q es publish in let m = k.missed_are in omega (arith, h, m));
  }

  -- an arrival that is not refused
  keeps_arrived : (at : Progress) (b : Bool) (missed r x : ℕ) → Keeps p q es at b missed → IsThere p q (progress p q es) r x → Keeps p q (es ++ arrive r x ∷ []) at b missed
  keeps_arrived at b missed r x k there = record {
    allowed = allowed_more p q es (arrive r x) k.allowed (there (length es));
    follow = follow_more p q es (arrive r x) k.follow refl;
    stepped_is = ap (λ (g : Stage). g.stepped) (stage_more p q es (arrive r x)) ∙ k.stepped_is;
    published_is = ap (λ (g : Stage). g.published) (stage_more p q es (arrive r x)) ∙ k.published_is;
    missed_are = (let h = missed_more p q es (arrive r x) in let m = k.missed_are in omega (arith, h, m));
  }

  -- an answer, whatever becomes of it
  pub keeps_taken : (at : Progress) (b : Bool) (missed x : ℕ) (t : Took) → Keeps p q es at b missed → AllowsArrival p q (progress p q es) x t → Keeps p q (arrived t x es) at b missed
  keeps_taken at b missed x (Kept r) k h = keeps_arrived at b missed r x k h
  keeps_taken at b missed x (Late r) k h = keeps_arrived at b missed r x k h
  keeps_taken at b missed x (Double r) k h = keeps_arrived at b missed r x k h
  keeps_taken at b missed x Stranger k h = k

  -- what a Step misses
  moves_missed : (at : Progress) (b : Bool) (missed : ℕ) → Keeps p q es at b missed → missed_places p q first_stage (es ++ move ∷ []) ≡ missed + cond (not b && is_place p q at) 1 0
  moves_missed at b missed k =
      let h = missed_more p q es move in
      let m = k.missed_are in
      let same : ◌≡◌ {A = ℕ} (cond (is_missed p q (stage_of p q es) move) 1 0) (cond (not b && is_place p q at) 1 0) = (λ i. cond (not (k.published_is i) && is_place p q (k.stepped_is i)) 1 0) in
      omega (arith, h, m, same)

  -- a Step after what comes before it
  keeps_moved : (at : Progress) (b : Bool) (missed : ℕ) → Keeps p q es at b missed → (progress p q es).steps < MAX_TRANSITIONS → may_follow p q (stage_of p q es) move ≡ true
      → Keeps p q (es ++ move ∷ []) (progress p q (es ++ move ∷ [])) false (missed + cond (not b && is_place p q at) 1 0)
  keeps_moved at b missed k few may = record {
    allowed = allowed_more p q es move k.allowed (ap (λ (c : Bool). cond c None (Some (too_many_steps (length es)))) (lt-ltb (progress p q es).steps MAX_TRANSITIONS few));
    follow = follow_more p q es move k.follow may;
    stepped_is = sym (ap (λ (g : Stage). g.now) (stage_more p q es move) ∙ ap (λ (g : Stage). g.stepped) (sym (stage_more p q es move))) ∙ now_is p q (es ++ move ∷ []);
    published_is = ap (λ (g : Stage). g.published) (stage_more p q es move);
    missed_are = moves_missed at b missed k;
  }

  moved_none : (stage_of p q (es ++ move ∷ [])).arrived ≡ false
  moved_none = ap (λ (g : Stage). g.arrived) (stage_more p q es move)

  -- the rounds at the last Step are there after the next one
  pub at_rounds : (at : Progress) (b : Bool) (missed : ℕ) → Keeps p q es at b missed → length at.rounds ≤ length (progress p q (es ++ move ∷ [])).rounds
  at_rounds at b missed k =
      let same = ap (λ (g : Progress). length g.rounds) k.stepped_is in
      let now = stepped_rounds p q es in
      let later = rounds_more p q es move in
      omega (arith, same, now, later)

  -- a Step that needs a search
  pub rests_searched : (workers skipped : ℕ) (at : Progress) (t : Task) → IsReady p q workers skipped at es → needed_task p (after p q (progress p q es).steps) ≡ Some t → (progress p q es).steps < MAX_TRANSITIONS
      → Rests p q workers skipped (es ++ move ∷ [])
  rests_searched workers skipped at t r needed few = record {
    missed = r.missed + cond (not r.published && is_place p q at) 1 0;
    keeps = keeps_moved at r.published r.missed r.keeps few
        (ap (λ (g : Progress). not (stage_of p q es).arrived || is_some (needed_task p (after p q g.steps))) (now_is p q es)
        ∙ (ap (λ (o : Option Task). not (stage_of p q es).arrived || is_some o) needed ∙ last (not (stage_of p q es).arrived)));
    none_arrived = moved_none;
    alone = λ none. (alone_more es (r.alone none).0, (r.alone none).1);
    few = r.few;
    all = λ some fewer. r.all some (let h = at_rounds at r.published r.missed r.keeps in omega (arith, h, fewer));
  }
    where
      last : (b : Bool) → (b || true) ≡ true
      last true = refl
      last false = refl

  -- a Step that needs none
  pub rests_moved : (workers skipped : ℕ) → Rests p q workers skipped es → needed_task p (after p q (progress p q es).steps) ≡ None → (progress p q es).steps < MAX_TRANSITIONS
      → Rests p q workers skipped (es ++ move ∷ [])
  rests_moved workers skipped r needed few = record {
    missed = r.missed + cond (not false && is_place p q (progress p q es)) 1 0;
    keeps = keeps_moved (progress p q es) false r.missed r.keeps few (ap (λ (b : Bool). not b || is_some (needed_task p (after p q (stage_of p q es).now.steps))) r.none_arrived);
    none_arrived = moved_none;
    alone = λ none. (alone_more es (r.alone none).0, (r.alone none).1);
    few = λ some. (let h = r.few some in omega (arith, h, no_place));
    all = λ some fewer. (let more = rounds_more p q es move in let h = r.all some (omega (arith, more, fewer)) in omega (arith, h, no_place));
  }
    where
      no_place : ◌≡◌ {A = ℕ} (cond (is_place_for p q (progress p q es) (needed_task p (after p q (progress p q es).steps))) 1 0) 0
      no_place = ap (λ (o : Option Task). cond (is_place_for p q (progress p q es) o) 1 0) needed

  -- the policy of a run that rests
  pub policy_of : (workers skipped : ℕ) → Rests p q workers skipped es → skipped ≤ (progress p q es).steps → IsPolicy p q workers skipped es
  policy_of workers skipped r few = record {
    alone = r.alone;
    keeps = keeps_all p q es r.keeps.follow r.keeps.published_is r.none_arrived;
    missed = λ some. (let h = r.few some in let m = r.keeps.missed_are in omega (arith, h, m));
    all_missed = λ some fewer. r.all some fewer ∙ sym r.keeps.missed_are;
    few = few;
  }

  -- with workers: where a call was refused, it is counted
  module _ (workers skipped : ℕ) (some : 0 < workers) (r : Rests p q workers skipped es) where
    one_at_most : (b : Bool) → cond b 1 0 ≤ 1
    one_at_most true = omega arith
    one_at_most false = omega arith

    counted : (length (progress p q es).rounds < MAX_ROUNDS → is_place p q (progress p q es) ≡ true) → IsReady p q workers (skipped + 1) (progress p q es) es
    counted place = record {
      missed = r.missed;
      published = false;
      keeps = r.keeps;
      alone = λ k. absurd (omega (arith, some, k));
      few = λ k. (let h = r.few k in let one = one_at_most (is_place p q (progress p q es)) in omega (arith, h, one));
      all = λ k fewer. (let h = r.all k fewer in let one : ◌≡◌ {A = ℕ} (cond (is_place p q (progress p q es)) 1 0) 1 = ap (λ (b : Bool). cond b 1 0) (place fewer) in omega (arith, h, one));
    }

    -- at a place
    pub ready_counted : is_place p q (progress p q es) ≡ true → IsReady p q workers (skipped + 1) (progress p q es) es
    ready_counted place = counted (λ fewer. place)

    -- after the last round
    pub ready_full : MAX_ROUNDS ≤ length (progress p q es).rounds → IsReady p q workers (skipped + 1) (progress p q es) es
    ready_full full = counted (λ fewer. absurd (omega (arith, full, fewer)))

    -- where there is no place, nothing is missed
    pub ready_passed : is_place p q (progress p q es) ≡ false → IsReady p q workers skipped (progress p q es) es
    ready_passed none = record {
      missed = r.missed;
      published = false;
      keeps = r.keeps;
      alone = r.alone;
      few = λ k. (let h = r.few k in omega (arith, h, zero));
      all = λ k fewer. (let h = r.all k fewer in omega (arith, h, zero));
    }
      where
        zero : ◌≡◌ {A = ℕ} (cond (is_place p q (progress p q es)) 1 0) 0
        zero = ap (λ (b : Bool). cond b 1 0) none

    -- and where there is one, a Publish fills it
    pub ready_published : is_place p q (progress p q es) ≡ true → length (progress p q es).rounds < MAX_ROUNDS → IsReady p q workers skipped (progress p q es) (es ++ publish ∷ [])
    ready_published place few = record {
      missed = r.missed;
      published = true;
      keeps = keeps_published r.missed r.keeps r.none_arrived place few;
      alone = λ k. absurd (omega (arith, some, k));
      few = λ k. (let h = r.few k in omega (arith, h));
      all = λ k fewer. (let h = r.all k fewer in omega (arith, h));
    }

  -- what keeps the policy goes on to be ready
  pub ready_kept : (workers skipped : ℕ) (at : Progress) (fs : List Event) → 0 < workers → IsReady p q workers skipped at es
      → ((at : Progress) (b : Bool) (missed : ℕ) → Keeps p q es at b missed → Keeps p q fs at b missed) → IsReady p q workers skipped at fs
  ready_kept workers skipped at fs some r kept = record { missed = r.missed; published = r.published; keeps = kept at r.published r.missed r.keeps; alone = λ k. absurd (omega (arith, some, k)); few = r.few; all = r.all }

  -- with no worker nothing comes before a Step
  pub ready_alone : (skipped : ℕ) → Rests p q 0 skipped es → IsReady p q 0 skipped (progress p q es) es
  ready_alone skipped r = record { missed = r.missed; published = false; keeps = r.keeps; alone = r.alone; few = λ some. absurd (some refl); all = λ some fewer. absurd (some refl) }

-- after answers were taken, whose query is the same
pub ready_later : (p : Program) (r s : Query) (workers skipped : ℕ) (at : Progress) (es fs : List Event) → 0 < workers → s ≡ r → IsReady p (start r) workers skipped at es
    → ((at : Progress) (b : Bool) (missed : ℕ) → Keeps p (start s) es at b missed → Keeps p (start s) fs at b missed) → IsReady p (start r) workers skipped at fs
ready_later p r s workers skipped at es fs some same ready kept = ready_kept p (start r) es workers skipped at fs some ready
    (subst (λ (t : Query). (at : Progress) (b : Bool) (missed : ℕ) → Keeps p (start t) es at b missed → Keeps p (start t) fs at b missed) same kept)

pub ready_last : {X E : Type 0} (p : Program) (r : Query) (o : Result X E) (workers skipped : ℕ) (at : Progress) (es fs : List Event) → 0 < workers → (s : Query) → s ≡ r → IsReady p (start r) workers skipped at es
    → OnOk o ((at : Progress) (b : Bool) (missed : ℕ) → Keeps p (start s) es at b missed → Keeps p (start s) fs at b missed) → OnOk o (IsReady p (start r) workers skipped at fs)
ready_last p r (Err e) workers skipped at es fs some s same ready kept = tt
ready_last p r (Ok x) workers skipped at es fs some s same ready kept = ready_later p r s workers skipped at es fs some same ready kept
