-- How far the policy has come, as a schedule grows by one event.
use Rattle.std.proofs.Common.{◌≡◌, ◌∙◌, ◌+◌, ◌≤◌, ℕ, Bool, true, false, cond, not, ◌&&◌, List, [], ◌∷◌, ◌++◌, Option, Some, None, ap, arith, refl, sym}
use Rattle.std.specs.List.{fold}
use Rattle.std.proofs.lemmas.Bool.{and_from}
use Rattle.std.proofs.lemmas.List.{length-append}
use Rattle.std.proofs.lemmas.List.Sums.{fold-append}
use Rattle.chr_semantics.specs.Policy.{Stage, first_stage, has_steps_alone, is_missed, keeps_policy, may_follow, missed_places, with_event}
use Rattle.chr_semantics.specs.Program.{Program}
use Rattle.chr_semantics.specs.Schedule.{Event, Progress, Refusal, Took, arrive, double, first_refusal, is_served, kept, late, move, next, no_progress, progress, publish, refusal, stranger, took, with_step, with_took}
use Rattle.chr_semantics.specs.State.{State}
use Rattle.chr_semantics.specs.Step.{after}
use Rattle.chr_semantics.specs.Tasks.{Task, needed_task}
use Rattle.chr_laws.specs.Replay.{or_later}
use Rattle.chr_laws.proofs.Replay.{replay_law}
use Rattle.chr_policy.specs.Standing.{all_follow, stage_from, stage_of}
use Rattle.std.specs.Prelude.{◌||◌, length}

and_assoc : (a b c : Bool) → (a && (b && c)) ≡ (a && b && c)
and_assoc true b c = refl
and_assoc false b c = refl

module _ (p : Program) (q : State) where
  pub stage_more : (es : List Event) (e : Event) → stage_of p q (es ++ e ∷ []) ≡ with_event p q (stage_of p q es) e
  stage_more es e = fold-append (with_event p q) first_stage es (e ∷ [])

  follow_from : (g : Stage) (es : List Event) (e : Event) → all_follow p q g (es ++ e ∷ []) ≡ (all_follow p q g es && may_follow p q (stage_from p q g es) e)
  follow_from g [] e = last (may_follow p q g e)
    where
      last : (b : Bool) → (b && true) ≡ b
      last true = refl
      last false = refl
  follow_from g (d ∷ es) e = ap (λ b. may_follow p q g d && b) (follow_from (with_event p q g d) es e) ∙ (and_assoc (may_follow p q g d) (all_follow p q (with_event p q g d) es) (may_follow p q (stage_from p q (with_event p q g d) es) e))

  -- one event more may follow
  pub follow_more : (es : List Event) (e : Event) → all_follow p q first_stage es ≡ true → may_follow p q (stage_of p q es) e ≡ true → all_follow p q first_stage (es ++ e ∷ []) ≡ true
  follow_more es e all one = follow_from first_stage es e ∙ and_from _ _ all one

  missed_from : (g : Stage) (es : List Event) (e : Event) → missed_places p q g (es ++ e ∷ []) ≡ missed_places p q g es + cond (is_missed p q (stage_from p q g es) e) 1 0
  missed_from g [] e = omega arith
  missed_from g (d ∷ es) e = let h = missed_from (with_event p q g d) es e in omega (arith, h)

  pub missed_more : (es : List Event) (e : Event) → missed_places p q first_stage (es ++ e ∷ []) ≡ missed_places p q first_stage es + cond (is_missed p q (stage_of p q es) e) 1 0
  missed_more es e = missed_from first_stage es e

  -- its progress is that of the schedule
  now_from : (g : Stage) (es : List Event) → (stage_from p q g es).now ≡ fold (next p q) g.now es
  now_from g [] = refl
  now_from g (publish ∷ es) = now_from (with_event p q g publish) es
  now_from g (arrive r x ∷ es) = now_from (with_event p q g (arrive r x)) es
  now_from g (move ∷ es) = now_from (with_event p q g move) es

  pub now_is : (es : List Event) → (stage_of p q es).now ≡ progress p q es
  now_is es = now_from first_stage es

  keeps_from : (g : Stage) (es : List Event) → keeps_policy p q g es ≡ (all_follow p q g es && not ((stage_from p q g es).published || (stage_from p q g es).arrived))
  keeps_from g [] = refl
  keeps_from g (d ∷ es) = ap (λ b. may_follow p q g d && b) (keeps_from (with_event p q g d) es) ∙ (and_assoc (may_follow p q g d) (all_follow p q (with_event p q g d) es) (not ((stage_from p q (with_event p q g d) es).published || (stage_from p q (with_event p q g d) es).arrived)))

  -- where neither a Publish nor an Arrive is the last event, the policy was kept
  pub keeps_all : (es : List Event) → all_follow p q first_stage es ≡ true → (stage_of p q es).published ≡ false → (stage_of p q es).arrived ≡ false → keeps_policy p q first_stage es ≡ true
  keeps_all es all unpublished none = keeps_from first_stage es ∙ and_from _ _ all (λ i. not (unpublished i || none i))

  took_rounds : (g : Progress) (x : ℕ) (t : Took) → (with_took g x t).rounds ≡ g.rounds
  took_rounds g x (kept r) = refl
  took_rounds g x (late r) = refl
  took_rounds g x (double r) = refl
  took_rounds g x stranger = refl

  step_rounds : (g : Progress) (o : Option Task) → (with_step p q g o).rounds ≡ g.rounds
  step_rounds g None = refl
  step_rounds g (Some t) = by (is_served p q g t) (with_step p q g (Some t)) refl
    where
      by : (b : Bool) (h : Progress) → ◌≡◌ {A = Progress} h (elim b [ true ↦ record g { steps = g.steps + 1; used = g.used + 1 } | false ↦ record g { steps = g.steps + 1; own = g.own + 1 } ]) → h.rounds ≡ g.rounds
      by true h e = ap (λ (x : Progress). x.rounds) e
      by false h e = ap (λ (x : Progress). x.rounds) e

  -- no event takes a round away
  pub more_rounds : (g : Progress) (e : Event) → length g.rounds ≤ length (next p q g e).rounds
  more_rounds g publish = let h = length-append g.rounds (g.steps ∷ []) in omega (arith, h)
  more_rounds g (arrive r x) = let h = ap (λ (l : List ℕ). length l) (took_rounds g x (took g r x)) in omega (arith, h)
  more_rounds g move = let h = ap (λ (l : List ℕ). length l) (step_rounds g (needed_task p (after p q g.steps))) in omega (arith, h)

  rounds_from : (g : Stage) (es : List Event) → length g.stepped.rounds ≤ length g.now.rounds → length (stage_from p q g es).stepped.rounds ≤ length (stage_from p q g es).now.rounds
  rounds_from g [] h = h
  rounds_from g (publish ∷ es) h = rounds_from (with_event p q g publish) es (let more = more_rounds g.now publish in omega (arith, h, more))
  rounds_from g (arrive r x ∷ es) h = rounds_from (with_event p q g (arrive r x)) es (let more = more_rounds g.now (arrive r x) in omega (arith, h, more))
  rounds_from g (move ∷ es) h = rounds_from (with_event p q g move) es (omega arith)

  -- the rounds at the last Step are there now
  pub stepped_rounds : (es : List Event) → length (stage_of p q es).stepped.rounds ≤ length (progress p q es).rounds
  stepped_rounds es =
      let h = rounds_from first_stage es (omega arith) in
      let same = ap (λ (g : Progress). length g.rounds) (now_is es) in
      omega (arith, h, same)

  -- and after one event more
  pub rounds_more : (es : List Event) (e : Event) → length (progress p q es).rounds ≤ length (progress p q (es ++ e ∷ [])).rounds
  rounds_more es e =
      let h = more_rounds (progress p q es) e in
      let same = ap (λ (g : Progress). length g.rounds) (fold-append (next p q) no_progress es (e ∷ [])) in
      omega (arith, h, same)

  -- one event more that is not refused
  pub allowed_more : (es : List Event) (e : Event) → first_refusal p q no_progress 0 es ≡ None → refusal p q (progress p q es) (length es) e ≡ None → first_refusal p q no_progress 0 (es ++ e ∷ []) ≡ None
  allowed_more es e before one =
      replay_law.first p q es (e ∷ [])
      ∙ (ap (λ (o : Option Refusal). or_later o (first_refusal p q (progress p q es) (length es) (e ∷ []))) before
      ∙ by (refusal p q (progress p q es) (length es) e) one)
    where
      by : (o : Option Refusal) → o ≡ None → ◌≡◌ {A = Option Refusal} (elim o [ Some r ↦ Some r | None ↦ None ]) None
      by None is = refl
      by (Some r) is = is

-- one Step more
pub alone_more : (es : List Event) → has_steps_alone es ≡ true → has_steps_alone (es ++ move ∷ []) ≡ true
alone_more [] h = refl
alone_more (publish ∷ es) h = h
alone_more (arrive r x ∷ es) h = h
alone_more (move ∷ es) h = alone_more es h
