-- An answer to a task of a stored constraint serves where an older one does.
use Rattle.std.proofs.Common.{Bool, List, [], arith, cond, false, refl, sym, true, ℕ, ◌+◌, ◌==◌, ◌∙◌, ◌∷◌, ◌≡◌}
use Rattle.std.proofs.lemmas.Bool.{and_from, and_parts, eq-eqb, eqb-true}
use Rattle.std.specs.List.{list_all}
use Rattle.chr_semantics.specs.Program.{Program}
use Rattle.chr_semantics.specs.Schedule.{serves_guest, serves_row}
use Rattle.chr_semantics.specs.State.{State}
use Rattle.chr_semantics.specs.Step.{after}
use Rattle.chr_semantics.specs.Touch.{Mark, footprint, touched, touches}
use Rattle.chr_semantics.proofs.Counts.{count-add}
use Rattle.chr_laws.specs.Sums.{NewestLaw}

-- by a test that is false
pub second : (b c d : Bool) → b ≡ false → cond b c d ≡ d
second true c d h = cc
second false c d h = refl

-- and by one that is true
pub first : (b c d : Bool) → b ≡ true → cond b c d ≡ c
first true c d h = refl
first false c d h = cc

later : (p : Program) (q : State) (k l m : ℕ) (marks : List Mark) → list_all (λ x. touched p q k x == touched p q (k + l + m) x) marks ≡ true → list_all (λ x. touched p q (k + l) x == touched p q (k + l + m) x) marks ≡ true
later p q k l m [] h = refl
later p q k l m (x ∷ xs) h =
    let r = and_parts (touched p q k x == touched p q (k + l + m) x) _ h in
    let e = eqb-true (touched p q k x) (touched p q (k + l + m) x) r.0 in
    let f : touched p q (k + l + m) x ≡ touched p q (k + l) x + touched p (after p q (k + l)) m x = count-add p (λ t. touches p t x) q (k + l) m in
    let g : touched p q (k + l) x ≡ touched p q k x + touched p (after p q k) l x = count-add p (λ t. touches p t x) q k l in
    and_from (touched p q (k + l) x == touched p q (k + l + m) x) _ (eq-eqb (touched p q (k + l) x) (touched p q (k + l + m) x) (omega (arith, e, f, g))) (later p q k l m xs r.1)

pub newest_law : NewestLaw
newest_law p q k l m t old new e =
    let n = k + l + m in
    let row = sym (second _ (serves_guest p q k n t) (serves_row p q k n t) old) ∙ e in
    second _ (serves_guest p q (k + l) n t) (serves_row p q (k + l) n t) new ∙ later p q k l m (footprint p (after p q n) t.0 t.1) row
