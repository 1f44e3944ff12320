-- Stamps over the transitions of a run.
use Rattle.std.proofs.Common.{Bool, List, Some, [], ap, arith, cond, false, inl, inr, refl, subst, sym, true, zero, suc, ℕ, ◌<◌, ◌≤◌, ◌++◌, ◌+◌, ◌==◌, ◌∙◌, ◌∷◌, ◌≡◌}
use Rattle.std.proofs.lemmas.Bool.{eq-eqb, eqb-true}
use Rattle.chr_semantics.specs.Footprint.{Ascends, IsSound, marks_added}
use Rattle.chr_semantics.specs.Match.{Row}
use Rattle.chr_semantics.specs.Program.{Atom, Program}
use Rattle.chr_semantics.specs.Search.{atom_of}
use Rattle.chr_semantics.specs.Stamps.{IsRise, Rise, stamp}
use Rattle.chr_semantics.specs.State.{State}
use Rattle.chr_semantics.specs.Step.{after, step}
use Rattle.chr_semantics.specs.Touch.{Mark, rule, symbol, touches}
use Rattle.chr_semantics.proofs.Guest.{Enters, enters_or_stays}
use Rattle.chr_semantics.proofs.Lookups.{Ascends-ends, atom_last}
use Rattle.chr_semantics.proofs.Soundness.{sound_step}
use Rattle.chr_laws.proofs.Identities.{back_after}

-- an identity that is there was given
pub below_next : (lo hi i : ℕ) (xs : List Row) (a : Atom) → Ascends lo xs hi → atom_of xs i ≡ Some a → i < hi
below_next lo hi i [] a h e = cc
below_next lo hi i (x ∷ xs) a h e = at (x.0 == i) refl e (below_next (x.0 + 1) hi i xs a h.1)
  where
    at : (b : Bool) → (x.0 == i) ≡ b → cond b (Some x.1) (atom_of xs i) ≡ Some a → (atom_of xs i ≡ Some a → i < hi) → i < hi
    at true is k go = let same = eqb-true x.0 i is in let ends = Ascends-ends (x.0 + 1) hi xs h.1 in omega (arith, same, ends)
    at false is k go = go k

pub stamp_add : (p : Program) (rise : Rise) (s : State) (k m : ℕ) (x : Mark) → stamp p rise s (k + m) x ≡ stamp p rise s k x + stamp p rise (after p s k) m x
stamp_add p rise s zero m x = let e : 0 + m ≡ m = omega arith in ap (λ (n : ℕ). stamp p rise s n x) e ∙ omega arith
stamp_add p rise s (suc k) m x =
    let e : suc k + m ≡ suc (k + m) = omega arith in
    let h = stamp_add p rise (step p s) k m x in
    ap (λ (n : ℕ). stamp p rise s n x) e ∙ omega (arith, h)

-- where a constraint came in, the stamp of its symbol has risen
risen_at : (p : Program) (rise : Rise) → IsRise p rise → (a : Atom) (s : State) (rest : ℕ) → IsSound s → touches p s (symbol a.sym) ≡ true → 0 < rise s (symbol a.sym) + rest
risen_at p rise w a s rest h is = let up = w.rises s h (symbol a.sym) is in omega (arith, up)

pub risen : (p : Program) (rise : Rise) → IsRise p rise → (i : ℕ) (a : Atom) (n : ℕ) (s : State) → IsSound s → s.next_id ≡ i → atom_of (after p s n).store i ≡ Some a → 0 < stamp p rise s n (symbol a.sym)
risen p rise w i a zero s h next lives = let l = below_next 0 s.next_id i s.store a h.ascends lives in absurd (omega (arith, next, l))
risen p rise w i a (suc n) s h next lives = elim (enters_or_stays p s) [
  | inl v ↦ risen_at p rise w a s (stamp p rise (step p s) n (symbol a.sym)) h (entered_is v)
  | inr v ↦ (let l = risen p rise w i a n (step p s) (sound_step p s h) (v.next ∙ next) lives in omega (arith, l))
]
  where
    entered_is : Enters (touches p s) s (step p s) → touches p s (symbol a.sym) ≡ true
    entered_is v =
        let up = v.next in
        let here = back_after p n (step p s) (sound_step p s h) i a (omega (arith, next, up)) lives in
        let last = subst (λ (j : ℕ). atom_of (s.store ++ (j, v.atom) ∷ []) i ≡ Some a) next (ap (λ (xs : List Row). atom_of xs i) (sym v.store) ∙ here) in
        let same = atom_last 0 i v.atom a s.store (subst (λ (j : ℕ). Ascends 0 s.store j) next h.ascends) last in
        v.touch_symbol a.sym ∙ eq-eqb v.atom.sym a.sym (ap (λ (b : Atom). b.sym) (sym same))

pub none_behind : (p : Program) (rise : Rise) (s : State) (k m : ℕ) (x : Mark) → stamp p rise s k x ≤ stamp p rise s (k + m) x
none_behind p rise s k m x = let e = stamp_add p rise s k m x in omega (arith, e)

-- no stamp is behind what an Activate adds
pub none_behind_added : (p : Program) (rise : Rise) → IsRise p rise → (q : State) (k m : ℕ) (a : Atom) → IsSound (after p q k) → atom_of (after p (after p q k) m).store (after p q k).next_id ≡ Some a
    → (x : Mark) → stamp p rise q k x + marks_added a.sym x ≤ stamp p rise q (k + m) x
none_behind_added p rise w q k m a h lives (rule r) = let e = stamp_add p rise q k m (rule r) in omega (arith, e)
none_behind_added p rise w q k m a h lives (symbol g) = at (a.sym == g) refl
  where
    at : (b : Bool) → (a.sym == g) ≡ b → stamp p rise q k (symbol g) + cond b 1 0 ≤ stamp p rise q (k + m) (symbol g)
    at true is =
        let e = stamp_add p rise q k m (symbol g) in
        let up = risen p rise w (after p q k).next_id a m (after p q k) h refl lives in
        let here = subst (λ (f : ℕ). 0 < stamp p rise (after p q k) m (symbol f)) (eqb-true a.sym g is) up in
        omega (arith, e, here)
    at false is = let e = stamp_add p rise q k m (symbol g) in omega (arith, e)
