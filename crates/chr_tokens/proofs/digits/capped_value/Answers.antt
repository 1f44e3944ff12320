-- A further digit is the step of the capped value.
use Rattle.std.proofs.Common.{◌≡◌, ℕ, suc, ◌+◌, ◌-◌, ◌*◌, ◌<◌, List, ◌∷◌, length, drop, get_or, min, arith, sym, ap, ◌∙◌, drop-cons, add-one}
use Rattle.chr_semantics.specs.Tokens.{digits_value}
use Rattle.chr_semantics.specs.Value.{max_magnitude}
use Rattle.chr_tokens.proofs.Capped.{capped_step}
use Rattle.chr_tokens.proofs.digits.capped_value.Goals as goal

drop_item : (s : List ℕ) (i x : ℕ) → i < length s → x ≡ get_or s i x → drop i s ≡ x ∷ drop (i + 1) s
drop_item s i x h e = rw add-one (drop-cons s i x h ∙ ap (λ y. y ∷ drop (suc i) s) (sym e))

step : (k : ℕ) (s : List ℕ) (i x v w d : ℕ) → i < length s → x ≡ get_or s i x → d ≡ x - 48 → w ≡ min (v * 10 + d) k → min (digits_value v (drop i s)) k ≡ min (digits_value w (drop (i + 1) s)) k
step k s i x v w d h e g f = rw (f, g) (ap (λ y. min (digits_value v y) k) (drop_item s i x h e) ∙ sym (capped_step k x v (drop (i + 1) s)))

pub loop-c-preserved : goal.loop-c-preserved
loop-c-preserved c = record {
  bound = omega arith;
  whole = c.loop-c.invariant.whole ∙ step (max_magnitude + 1) c.args.digits.now c.loop-c.c-index _ c.loop-c.value _ _ c.loop-c-test.true c.c-item.is c.saturating_sub.ensures c.with_digit-value.ensures;
}
