-- The serials of all posts come to the phase `drained`.
use Rattle.std.proofs.Common.{◌≡◌, ◌∙◌, ◌||◌, ◌==◌, ℕ, Bool, true, false, cond, refl, sym, ap, arith, List, [], ◌∷◌, ◌++◌, Option, Some, None, map, slice_get}
use Rattle.std.specs.Prelude.{option_map}
use Rattle.std.proofs.lemmas.Option.{slice_get-map}
use Rattle.chr_semantics.specs.Desk.{Serial, drained, handed_over, is_posted, with_phase}
use Rattle.chr_board.specs.IsDesk.{is_among, marked}
use Rattle.chr_board.proofs.Phases.{get-with_phase, in_phase, same_at_each}
use Rattle.chr_semantics.proofs.Tests.{eqb_sym}

drained_twice : (o : Option Serial) → option_map (in_phase drained) (option_map (in_phase drained) o) ≡ option_map (in_phase drained) o
drained_twice None = refl
drained_twice (Some s) = refl

at_marked : (posts : List ℕ) (ss : List Serial) (k : ℕ) → slice_get (marked ss posts) k ≡ cond (is_among posts k) (option_map (in_phase drained) (slice_get ss k)) (slice_get ss k)
at_marked [] ss k = refl
at_marked (p ∷ ps) ss k =
    at_marked ps (with_phase drained ss p) k
    ∙ ap (λ o. cond (is_among ps k) (option_map (in_phase drained) o) o) (get-with_phase drained ss p k ∙ turned)
    ∙ go (p == k) (is_among ps k)
  where
    turned : cond (k == p) (option_map (in_phase drained) (slice_get ss k)) (slice_get ss k) ≡ cond (p == k) (option_map (in_phase drained) (slice_get ss k)) (slice_get ss k)
    turned = ap (λ b. cond b (option_map (in_phase drained) (slice_get ss k)) (slice_get ss k)) (eqb_sym k p)

    go : (a b : Bool) → cond b (option_map (in_phase drained) (cond a (option_map (in_phase drained) (slice_get ss k)) (slice_get ss k))) (cond a (option_map (in_phase drained) (slice_get ss k)) (slice_get ss k))
        ≡ cond (a || b) (option_map (in_phase drained) (slice_get ss k)) (slice_get ss k)
    go true true = drained_twice (slice_get ss k)
    go true false = refl
    go false true = refl
    go false false = refl

handed : (s : Serial) (b : Bool) → is_posted s ≡ b → handed_over s ≡ cond b (in_phase drained s) s
handed s b e = ap (λ x. cond x (in_phase drained s) s) e

-- where those are the posts, this is how tasks are handed over
pub marked_is : (posts : List ℕ) (ss : List Serial) → ((k : ℕ) (s : Serial) → slice_get ss k ≡ Some s → is_posted s ≡ is_among posts k) → marked ss posts ≡ map handed_over ss
marked_is posts ss are = same_at_each (marked ss posts) (map handed_over ss) (λ k. at_marked posts ss k ∙ go k (slice_get ss k) refl ∙ sym (slice_get-map handed_over ss k))
  where
    go : (k : ℕ) (o : Option Serial) → slice_get ss k ≡ o → cond (is_among posts k) (option_map (in_phase drained) (slice_get ss k)) (slice_get ss k) ≡ option_map handed_over (slice_get ss k)
    go k None e = ap (λ o. cond (is_among posts k) (option_map (in_phase drained) o) o) e ∙ either (is_among posts k) ∙ sym (ap (option_map handed_over) e)
      where
        either : (b : Bool) → cond b (option_map (in_phase drained) None) None ≡ option_map handed_over None
        either true = refl
        either false = refl
    go k (Some s) e =
        ap (λ o. cond (is_among posts k) (option_map (in_phase drained) o) o) e ∙ either (is_among posts k) (are k s e) ∙ sym (ap (option_map handed_over) e)
      where
        either : (b : Bool) → is_posted s ≡ b → cond b (option_map (in_phase drained) (Some s)) (Some s) ≡ option_map handed_over (Some s)
        either true p = ap Some (sym (handed s true p))
        either false p = ap Some (sym (handed s false p))
