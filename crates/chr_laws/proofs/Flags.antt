-- A round of which one more answer was kept.
use Rattle.std.proofs.Common.{Bool, List, None, Option, Some, [], ap, arith, cond, false, pred, refl, set, subst, sym, true, zero, suc, ℕ, ◌&&◌, ◌<◌, ◌==◌, ◌∙◌, ◌∷◌, ◌≡◌, length}
use Rattle.std.proofs.lemmas.Bool.{eq-eqb, eqb-false, eqb-true, ne_eqb}
use Rattle.std.proofs.lemmas.List.{length-set}
use Rattle.std.specs.Prelude.{slice_get, unwrap_or}
use Rattle.chr_semantics.specs.Program.{Program}
use Rattle.chr_semantics.specs.Stamps.{Rise}
use Rattle.chr_semantics.specs.State.{State}
use Rattle.chr_semantics.specs.Tasks.{same_task}
use Rattle.chr_laws.specs.Rounds.{AreRounds, IsRound, Round, ats, flag_at}

abbrev pub flagged : Round → ℕ → Round
flagged d x = record d { flags = set d.flags x true }

same_suc : (y x : ℕ) → (suc y == suc x) ≡ (y == x)
same_suc y x = at (y == x) refl
  where
    at : (b : Bool) → (y == x) ≡ b → (suc y == suc x) ≡ b
    at true e = eq-eqb (suc y) (suc x) (ap suc (eqb-true y x e))
    at false e = ne_eqb (suc y) (suc x) (λ k. eqb-false y x e (ap pred k))

-- a list of flags with one more
flag_set : (fs : List Bool) (x y : ℕ) → x < length fs → unwrap_or (slice_get (set fs x true) y) false ≡ cond (y == x) true (unwrap_or (slice_get fs y) false)
flag_set [] x y h = absurd (omega (arith, h))
flag_set (f ∷ fs) zero zero h = refl
flag_set (f ∷ fs) zero (suc y) h = rw (ne_eqb (suc y) 0 (λ e. cc)) refl
flag_set (f ∷ fs) (suc x) zero h = rw (ne_eqb 0 (suc x) (λ e. cc)) refl
flag_set (f ∷ fs) (suc x) (suc y) h = flag_set fs x y (omega (arith, h)) ∙ ap (λ (b : Bool). cond b true (unwrap_or (slice_get fs y) false)) (sym (same_suc y x))

pub flags_set : (rounds : List Round) (i x : ℕ) (d : Round) → slice_get rounds i ≡ Some d → x < length d.flags
    → (j y : ℕ) → flag_at (set rounds i (flagged d x)) j y ≡ cond (same_task (j, y) (i, x)) true (flag_at rounds j y)
flags_set [] i x d e h j y = cc
flags_set (c ∷ cs) zero x d e h zero y = let same : c ≡ d = cc in flag_set d.flags x y h ∙ ap (λ (z : Round). cond (y == x) true (unwrap_or (slice_get z.flags y) false)) (sym same)
flags_set (c ∷ cs) zero x d e h (suc j) y = rw (ne_eqb (suc j) 0 (λ k. cc)) refl
flags_set (c ∷ cs) (suc i) x d e h zero y = rw (ne_eqb 0 (suc i) (λ k. cc)) refl
flags_set (c ∷ cs) (suc i) x d e h (suc j) y = flags_set cs i x d e h j y ∙ ap (λ (b : Bool). cond (b && y == x) true (flag_at cs j y)) (sym (same_suc j i))

pub ats_set : (rounds : List Round) (i x : ℕ) (d : Round) → slice_get rounds i ≡ Some d → ats (set rounds i (flagged d x)) ≡ ats rounds
ats_set [] i x d e = refl
ats_set (c ∷ cs) zero x d e = let same : d ≡ c = cc in ap (λ (z : Round). z.at ∷ ats cs) same
ats_set (c ∷ cs) (suc i) x d e = ap (λ (ks : List ℕ). c.at ∷ ks) (ats_set cs i x d e)

pub rounds_set : (p : Program) (rise : Rise) (q : State) (rounds : List Round) (i x : ℕ) (d : Round) → slice_get rounds i ≡ Some d → AreRounds p rise q rounds → AreRounds p rise q (set rounds i (flagged d x))
rounds_set p rise q [] i x d e h = tt
rounds_set p rise q (c ∷ cs) zero x d e h =
    let same : c ≡ d = cc in
    let is : IsRound p rise q d = subst (IsRound p rise q) same h.0 in
    (record { next_is = is.next_is; guest_is = is.guest_is; sums_are = is.sums_are; flags_are = length-set d.flags x true ∙ is.flags_are }, h.1)
rounds_set p rise q (c ∷ cs) (suc i) x d e h = (h.0, rounds_set p rise q cs i x d e h.1)
