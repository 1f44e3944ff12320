-- What is looked at behind a front, by the verdict on it.
use Rattle.std.proofs.Common.{◌≡◌, ◌∙◌, ◌<◌, ◌≤◌, ◌+◌, ◌-◌, ◌++◌, ◌∷◌, ◌==◌, ◌||◌, [], Bool, List, None, Option, Some, ap, arith, cond, false, get_or, length, map, not, option_map, refl, suc, sym, take, true, zero, ℕ}
use Rattle.std.proofs.lemmas.Bool.{eq-eqb, ne_eqb}
use Rattle.std.proofs.lemmas.Option.{slice_get_read}
use Rattle.std.specs.Prelude.{is_none, is_some, slice_get}
use Rattle.chr_semantics.specs.Lists.{furthest, is_last, is_parted, like, of_stage}
use Rattle.chr_semantics.specs.Program.{Head, Rule}
use Rattle.chr_semantics.specs.State.{State}
use Rattle.chr_semantics.specs.Verdict.{Verdict, stage, verdict}
use Rattle.chr_semantics.specs.declared.limits.TheConstants.{MAX_HEADS}
use Rattle.chr_store.specs.Numbers.{numbers}
use Rattle.chr_store.specs.declared.id.Id.{Id}
use Rattle.chr_machine.specs.Model.{state_in}
use Rattle.chr_look.specs.LookedView.{GoesOn, model_of, symbol_behind}
use Rattle.chr_look.specs.declared.fronts.Looked.{Looked}
use Rattle.chr_look.proofs.Fronted.{from_last}
use Rattle.chr_look.proofs.Removed.{mapped_at}
use Rattle.chr_look.specs.FrontView.{AreFronts, front_view}
use Rattle.chr_look.specs.declared.fronts.Fronts.{Fronts}
use Rattle.chr_look.proofs.FrontWalks.{from_more, from_whole, is_cut, none_more}

out : {X : Type 0} (xs : List X) (n : ℕ) → slice_get xs n ≡ None → length xs ≤ n
out [] n e = omega arith
out (x ∷ xs) zero e = cc
out (x ∷ xs) (suc n) e = let rest = out xs n e in omega (arith, rest)

within : {X : Type 0} (xs : List X) (n : ℕ) (x : X) → slice_get xs n ≡ Some x → n < length xs
within [] n x e = cc
within (y ∷ ys) zero x e = omega arith
within (y ∷ ys) (suc n) x e = let rest = within ys n x e in omega (arith, rest)

module _ {A : Type 0} (l : Looked A) (rule : Rule) (ids : List ℕ) (fits : length ids ≤ length rule.heads) where
  pub goes_on : (v : Verdict) (next : Option ℕ) → length rule.heads ≤ MAX_HEADS → v ≡ verdict (state_in (model_of l)) l.rule rule ids → next ≡ symbol_behind rule ids v → GoesOn l rule ids next
  goes_on v next few is next_is = by_parted (is_parted (state_in (model_of l)) l.rule rule ids) refl (slice_get rule.heads (length ids)) refl (next_is ∙ ap (symbol_behind rule ids) is)
    where
      by_parted : (b : Bool) → is_parted (state_in (model_of l)) l.rule rule ids ≡ b → (o : Option Head) → slice_get rule.heads (length ids) ≡ o → next ≡ cond (is_parted (state_in (model_of l)) l.rule rule ids) None (option_map (λ (h : Head). h.atom.sym) (slice_get rule.heads (length ids))) → GoesOn l rule ids next
      by_parted true e o at n =
          let none : next ≡ None = n ∙ (λ h. cond (e h) None (option_map (λ (x : Head). x.atom.sym) (slice_get rule.heads (length ids)))) in
          rw none (from_last (state_in (model_of l)) l.rule rule (length rule.heads - length ids) ids e)
      by_parted false e None at n =
          let none : next ≡ None = n ∙ (λ h. cond (e h) None (option_map (λ (x : Head). x.atom.sym) (at h))) in
          let past = out rule.heads (length ids) at in
          rw none (from_whole (state_in (model_of l)) l.rule rule ids (omega (arith, past, fits)))
      by_parted false e (Some head) at n =
          let some : next ≡ Some head.atom.sym = n ∙ (λ h. cond (e h) None (option_map (λ (x : Head). x.atom.sym) (at h))) in
          let less = within rule.heads (length ids) head at in
          rw some (omega (arith, less, few), less, from_more (state_in (model_of l)) l.rule rule ids head e less at)

  pub is_last_there : (v : Verdict) (next : Option ℕ) → v ≡ verdict (state_in (model_of l)) l.rule rule ids → next ≡ symbol_behind rule ids v → is_none next ≡ is_last (state_in (model_of l)) l.rule rule ids
  is_last_there v next is next_is = ap is_none (next_is ∙ ap (symbol_behind rule ids) is) ∙ by (is_parted (state_in (model_of l)) l.rule rule ids) (slice_get rule.heads (length ids)) refl
    where
      by : (b : Bool) (o : Option Head) → slice_get rule.heads (length ids) ≡ o → is_none (cond b None (option_map (λ (h : Head). h.atom.sym) o)) ≡ (b || length ids == length rule.heads)
      by true o at = refl
      by false None at = let past = out rule.heads (length ids) at in sym (eq-eqb (length ids) (length rule.heads) (omega (arith, past, fits)))
      by false (Some h) at = let less = within rule.heads (length ids) h at in sym (ne_eqb (length ids) (length rule.heads) (λ e. omega (arith, less, e)))

pub none_of : {X Y : Type 0} (f : X → Y) (o : Option X) → is_none o ≡ is_none (option_map f o)
none_of f None = refl
none_of f (Some x) = refl

pub some_there : {X : Type 0} (xs : List X) (n : ℕ) → n < length xs → (x : X) × (slice_get xs n ≡ Some x)
some_there [] n h = absurd (omega (arith, h))
some_there (x ∷ xs) zero h = (x, refl)
some_there (x ∷ xs) (suc n) h = some_there xs n (omega (arith, h))

-- where as many fronts were looked at as may be
pub cut_here : {A : Type 0} (s : State) (r : ℕ) (rule : Rule) (all more : List (List ℕ)) (f g : Fronts A) → AreFronts s r rule all f → 1000000 ≤ f.looked → 0 < length more
    → g.like ≡ f.like → g.stages ≡ f.stages → g.furthest ≡ f.furthest → g.looked ≡ f.looked → g.is_cut ≡ true → AreFronts s r rule (all ++ more) g
cut_here s r rule all more f g are full some like_is stages_are furthest_is looked_is cut_is =
    let enough : 1000000 ≤ length (take 1000000 all) = omega (arith, full, are.looked_is) in
    let same = none_more all more enough in
    record {
      like_are = λ k. ap (λ (xs : List ℕ). get_or xs k 0) like_is ∙ are.like_are k ∙ sym (ap (like s r rule k) same);
      stages_are = λ k. ap (λ (xs : List ℕ). get_or xs k 0) stages_are ∙ are.stages_are k ∙ sym (ap (of_stage s r rule k) same);
      furthest_are = ap (λ v. map front_view v.items) furthest_is ∙ are.furthest_are ∙ sym (ap (furthest s r rule 5 []) same);
      looked_is = looked_is ∙ are.looked_is ∙ sym (ap (λ (xs : List (List ℕ)). length xs) same);
      cut_is = cut_is ∙ is_cut all more enough some;
    }

pub none_from : {X : Type 0} (o : Option X) (b : Bool) → is_some o ≡ not b → b ≡ is_none o
none_from None true e = refl
none_from None false e = cc
none_from (Some x) true e = cc
none_from (Some x) false e = refl

pub number_there : (ids : List Id) (n : ℕ) (x : Id) → n < length ids → x ≡ get_or ids n x → slice_get (numbers ids) n ≡ Some x.0
number_there ids n x here is = mapped_at (λ (i : Id). i.0) ids n x (slice_get_read ids (length ids) n x refl here is)
