use Rattle.std.proofs.Common.{◌≡◌, ◌<◌, ◌≤◌, ◌+◌, ◌-◌, ◌++◌, ◌∷◌, ◌∙◌, [], List, ap, append-nil, arith, cond, false, length, length-append, not, refl, subst, sym, take, true, ℕ}
use Rattle.std.specs.Prelude.{filter, flat_map}
use Rattle.chr_semantics.specs.Search.{has_number}
use Rattle.chr_store.specs.Numbers.{numbers}
use Rattle.std.proofs.lemmas.List.{length-map}
use Rattle.chr_semantics.specs.Changes.{Store}
use Rattle.chr_semantics.specs.Keys.{rows_of}
use Rattle.chr_semantics.specs.Lists.{fronts_from}
use Rattle.chr_store.specs.declared.id.Id.{Id}
use Rattle.chr_machine.specs.Model.{state_in}
use Rattle.chr_look.specs.FrontView.{AreFronts}
use Rattle.chr_look.specs.LookedView.{among, model_of, next}
use Rattle.chr_look.proofs.Fronted.{some_fronts}
use Rattle.chr_look.proofs.FrontSteps.{cut_here, some_there}
use Rattle.chr_look.proofs.FrontWalks.{added, joined, walk_all, walk_more}
use Rattle.chr_look.proofs.fronts.Looked.+look.Goals as goal

pub look_at-returns-then-seen-ge-MOST_FRONTS : goal.look_at-returns-then-seen-ge-MOST_FRONTS
look_at-returns-then-seen-ge-MOST_FRONTS g t c rule is all are =
    let l = c.args.self.now in
    cut_here (state_in (model_of l)) l.rule rule all _ c.args.seen.now _ are (omega (arith, c.if-seen-ge-MOST_FRONTS.true)) (some_fronts (state_in (model_of l)) l.rule rule _ c.args.front) refl refl refl refl refl

pub look_at-returns-in-None : goal.look_at-returns-in-None
look_at-returns-in-None g t c rule is all are =
    let l = c.args.self.now in
    let goes = rw c.in-None.is at c.in_ok-judge.ensures.next rule is in
    subst (λ (xs : List (List ℕ)). AreFronts (state_in (model_of l)) l.rule rule (all ++ xs) c.judge.new.seen) (sym goes) (c.in_ok-judge.ensures.noted rule is all are)

pub look_at-returns-in_ok-look_behind-in-Some : goal.look_at-returns-in_ok-look_behind-in-Some
look_at-returns-in_ok-look_behind-in-Some g t c rule is all are =
    let l = c.args.self.now in
    let goes = rw c.in-Some.is at c.in_ok-judge.ensures.next rule is in
    let more = c.in_ok-look_behind-in-Some.ensures rule is (all ++ c.args.front ∷ []) (c.in_ok-judge.ensures.noted rule is all are) in
    let rows = c.rows_of.ensures ∙ ap (λ (b : Store). rows_of b.rows c.in-Some.sym.0) c.store.ensures in
    subst (λ (xs : List (List ℕ)). AreFronts (state_in (model_of l)) l.rule rule xs c.look_behind.new.seen)
    (added all c.args.front _ ∙ ap (λ (xs : List ℕ). all ++ c.args.front ∷ among (state_in (model_of l)) l.rule rule c.args.front xs) rows ∙ ap (λ (xs : List (List ℕ)). all ++ xs) (sym goes.2)) more

pub look_at-look_behind-requires : goal.look_at-look_behind-requires
look_at-look_behind-requires g t c κs within =
    let l = c.args.self.now in
    let rule = some_there (model_of l).rules l.rule c.requires.0 in
    let goes = rw c.in-Some.is at c.in_ok-judge.ensures.next rule.0 rule.1 in
    (omega arith, (within, (c.requires.0, goes.0, λ r is. (rw c.in-Some.is at c.in_ok-judge.ensures.next r is).1)))

pub look_behind-loop-place-preserved : goal.look_behind-loop-place-preserved
look_behind-loop-place-preserved g t c rule is all are =
    let l = c.args.self.now in
    let s = state_in (model_of l) in
    let front = c.args.front in
    let f = λ (i : ℕ). fronts_from s l.rule rule (length rule.heads - (length front + 1)) (front ++ i ∷ []) in
    let kept = λ (i : ℕ). not (has_number front i) in
    let items = c.args.ids.now in
    let n = c.loop-place.place in
    let so_far = flat_map f (filter kept (take n (numbers items))) in
    let x = c.id_at.result in
    let there = c.id_at.ensures in
    let more = c.in_ok-look_next.ensures rule is (all ++ so_far) (c.loop-place.invariant rule is all are) in
    subst (λ (xs : List (List ℕ)). AreFronts s l.rule rule xs c.look_next.new.seen) (joined all so_far (next s l.rule rule front x.0) ∙ ap (λ (xs : List (List ℕ)). all ++ xs) (sym (walk_more f kept (numbers items) n x.0 there))) more

pub look_behind-returns : goal.look_behind-returns
look_behind-returns g t c rule is all are =
    let l = c.args.self.now in
    let s = state_in (model_of l) in
    let front = c.args.front in
    let f = λ (i : ℕ). fronts_from s l.rule rule (length rule.heads - (length front + 1)) (front ++ i ∷ []) in
    let kept = λ (i : ℕ). not (has_number front i) in
    let items = c.args.ids.now in
    let long : length (numbers items) ≤ c.loop-place.place = omega (arith, c.loop-place-test.false, length-map items (λ (i : Id). i.0)) in
    subst (λ (xs : List (List ℕ)). AreFronts s l.rule rule (all ++ xs) c.loop-place.seen) (walk_all f kept (numbers items) c.loop-place.place long) (c.loop-place.invariant rule is all are)

pub look_next-returns-then-is_among : goal.look_next-returns-then-is_among
look_next-returns-then-is_among g t c rule is all are =
    let l = c.args.self.now in
    let s = state_in (model_of l) in
    let front = c.args.front in
    let i = c.args.id.0 in
    let among : has_number front i ≡ true = ap (λ (xs : List ℕ). has_number xs i) (sym c.as_slice.ensures.ids) ∙ sym c.is_among.ensures ∙ c.if-is_among.true in
    subst (λ (xs : List (List ℕ)). AreFronts s l.rule rule xs c.args.seen.now) (sym (append-nil all) ∙ ap (λ b. all ++ cond (not b) (fronts_from s l.rule rule (length rule.heads - (length front + 1)) (front ++ i ∷ [])) []) (sym among)) are

pub look_next-returns : goal.look_next-returns
look_next-returns g t c rule is all are =
    let l = c.args.self.now in
    let s = state_in (model_of l) in
    let front = c.args.front in
    let i = c.args.id.0 in
    let apart : has_number front i ≡ false = ap (λ (xs : List ℕ). has_number xs i) (sym c.as_slice.ensures.ids) ∙ sym c.is_among.ensures ∙ c.if-is_among.false in
    let long : length (front ++ i ∷ []) ≡ length front + 1 = length-append front (i ∷ []) in
    let here = ap (λ (xs : List ℕ). fronts_from s l.rule rule (length rule.heads - length xs) xs) c.push.ensures ∙ ap (λ n. fronts_from s l.rule rule (length rule.heads - n) (front ++ i ∷ [])) long in
    subst (λ (xs : List (List ℕ)). AreFronts s l.rule rule (all ++ xs) c.look_at.new.seen)
    (here ∙ ap (λ b. cond (not b) (fronts_from s l.rule rule (length rule.heads - (length front + 1)) (front ++ i ∷ [])) []) (sym apart)) (c.in_ok-look_at.ensures rule is all are)
