-- What is built from each element in turn, one element further.
use Rattle.std.proofs.Common.{◌≡◌, ◌∙◌, ◌<◌, ◌+◌, ℕ, List, ◌∷◌, Result, Ok, Err, length, get_or, drop, drop-cons, add-one, map, refl, ap, subst, sym}
use Rattle.std.specs.Prelude.{IfErr}
use Rattle.std.specs.Result.{IsErrAnd}
use Rattle.chr_semantics.specs.Checked as semantics
use Rattle.chr_semantics.specs.Checked.{each}
use Rattle.chr_rules.specs.Checks.{IsError}
use Rattle.chr_rules.specs.declared.error.RuleErrorKind.TheVariants.{Memory}
use Rattle.chr_rules.specs.declared.error.RuleError.{RuleError}

dropped : {X Y : Type 0} (v : Y → X) (ys : List Y) (k : ℕ) (y : Y) → k < length ys → y ≡ get_or ys k y → map v (drop k ys) ≡ v y ∷ map v (drop (k + 1) ys)
dropped v ys k y h e = let first : drop k ys ≡ y ∷ drop (k + 1) ys = rw (add-one, drop-cons ys k y, ← e) in ap (map v) first

each_ok : {S X E : Type 0} (f : S → X → Result S E) (s t : S) (x : X) (xs : List X) → f s x ≡ Ok t → each f s (x ∷ xs) ≡ each f t xs
each_ok f s t x xs h = ap (λ r. elim r [ Ok u ↦ each f u xs | Err e ↦ Err e ]) h

-- an element that is accepted
pub each_more : {S X Y E : Type 0} (f : S → X → Result S E) (v : Y → X) (s t : S) (ys : List Y) (k : ℕ) (y : Y) → k < length ys → y ≡ get_or ys k y → f s (v y) ≡ Ok t → each f s (map v (drop k ys)) ≡ each f t (map v (drop (k + 1) ys))
each_more f v s t ys k y h e ok = ap (each f s) (dropped v ys k y h e) ∙ each_ok f s t (v y) (map v (drop (k + 1) ys)) ok

-- `Memory` is an answer to all
pub memory_answers : {S : Type 0} (r : Result S semantics.RuleError) → IsError (record { kind = Memory; line = 0; rule = 0 }) r
memory_answers (Ok s) = refl
memory_answers (Err r) = λ h. absurd (h refl)

error_first : {S X : Type 0} (f : S → X → Result S semantics.RuleError) (s : S) (x : X) (xs : List X) (e : RuleError) (r : Result S semantics.RuleError) → f s x ≡ r → IsError e r → IsError e (each f s (x ∷ xs))
error_first f s x xs e (Ok t) h i = subst (λ q. IsError e (elim q [ Ok u ↦ each f u xs | Err b ↦ Err b ])) (sym h) (subst (λ d. IsError d (each f t xs)) (sym i) (memory_answers (each f t xs)))
error_first f s x xs e (Err r) h i = subst (λ q. IsError e (elim q [ Ok u ↦ each f u xs | Err b ↦ Err b ])) (sym h) i

-- an element that is refused
pub each_refused : {S X Y : Type 0} (f : S → X → Result S semantics.RuleError) (v : Y → X) (s : S) (ys : List Y) (k : ℕ) (y : Y) (e : RuleError) → k < length ys → y ≡ get_or ys k y → IsError e (f s (v y)) → IsError e (each f s (map v (drop k ys)))
each_refused f v s ys k y e h at i = rw (dropped v ys k y h at) (error_first f s (v y) (map v (drop (k + 1) ys)) e (f s (v y)) refl i)

-- what holds of the error that comes holds of the answer
pub err_answers : {T E : Type 0} (r : Result T E) (e : E) (P : E → Type 0) → IsErrAnd r (λ x. x ≡ e) → P e → IfErr r P
err_answers (Ok t) e P h p = tt
err_answers (Err x) e P h p = subst P (sym h) p
