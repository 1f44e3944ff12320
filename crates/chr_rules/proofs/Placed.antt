-- Faults with their places.
use Rattle.std.proofs.Common.{◌≡◌, ◌≢◌, ◌∙◌, ℕ, Option, Some, None, Result, Ok, Err, ap, sym, subst}
use Rattle.std.specs.Prelude.{IfErr}
use Rattle.chr_semantics.specs.Checked as semantics
use Rattle.chr_semantics.specs.Checked.{unless}
use Rattle.chr_rules.specs.Building.{IsPlaced}
use Rattle.chr_rules.specs.Checks.{IsError, IsFault, fault_of}
use Rattle.chr_rules.specs.declared.error.RuleErrorKind.{RuleErrorKind}
use Rattle.chr_rules.specs.declared.error.RuleErrorKind.TheVariants as fault
use Rattle.chr_rules.specs.declared.error.RuleError.{RuleError}
use Rattle.chr_rules.proofs.Each.{memory_answers}

some_equal : (x y : RuleErrorKind) → Some x ≡ Some y → x ≡ y
some_equal x y h = cc

placed_fault : {S : Type 0} (f : RuleErrorKind) (m : Option semantics.RuleErrorKind) (line k : ℕ) (e : RuleError) (s : S) → f ≢ fault.Memory → e ≡ record { kind = f; line = line; rule = k } → IsFault f m → IsError e (unless m line k s)
placed_fault f None line k e s n h i = let bad = i n in cc
placed_fault f (Some m) line k e s n h i = λ _. h ∙ ap (λ x. record { kind = x; line = line; rule = k }) (sym (some_equal (fault_of m) f (i n)))

-- a fault of what is checked is the error there
pub placed : {S : Type 0} (f : RuleErrorKind) (m : Option semantics.RuleErrorKind) (line k : ℕ) (e : RuleError) (s : S) → IsPlaced f line k e → IsFault f m → IsError e (unless m line k s)
placed fault.Memory m line k e s h i = subst (λ x. IsError x (unless m line k s)) (sym h) (memory_answers (unless m line k s))
placed fault.Undeclared m line k e s h i = placed_fault fault.Undeclared m line k e s (λ x. cc) h i
placed fault.BuiltinInHead m line k e s h i = placed_fault fault.BuiltinInHead m line k e s (λ x. cc) h i
placed fault.NotAGoal m line k e s h i = placed_fault fault.NotAGoal m line k e s (λ x. cc) h i
placed fault.NotATest m line k e s h i = placed_fault fault.NotATest m line k e s (λ x. cc) h i
placed fault.GuardVariable m line k e s h i = placed_fault fault.GuardVariable m line k e s (λ x. cc) h i
placed fault.GuardOnly m line k e s h i = placed_fault fault.GuardOnly m line k e s (λ x. cc) h i
placed fault.DuplicateName m line k e s h i = placed_fault fault.DuplicateName m line k e s (λ x. cc) h i
placed fault.TooManyHeads m line k e s h i = placed_fault fault.TooManyHeads m line k e s (λ x. cc) h i
placed fault.ArityTooLarge m line k e s h i = placed_fault fault.ArityTooLarge m line k e s (λ x. cc) h i
placed fault.TooManyRules m line k e s h i = placed_fault fault.TooManyRules m line k e s (λ x. cc) h i
placed fault.BackslashInPropagation m line k e s h i = placed_fault fault.BackslashInPropagation m line k e s (λ x. cc) h i
placed fault.TooManyVariables m line k e s h i = placed_fault fault.TooManyVariables m line k e s (λ x. cc) h i

pub err_maps : {T E : Type 0} (P Q : E → Type 0) (r : Result T E) → ((e : E) → P e → Q e) → IfErr r P → IfErr r Q
err_maps P Q (Ok x) f h = tt
err_maps P Q (Err e) f h = f e h

-- an error of the first of two is one of both
pub first_refused : {S T : Type 0} (e : RuleError) (r : Result S semantics.RuleError) (f : S → Result T semantics.RuleError) → IsError e r → IsError e (elim r [ Ok s ↦ f s | Err x ↦ Err x ])
first_refused e (Ok s) f h = subst (λ x. IsError x (f s)) (sym h) (memory_answers (f s))
first_refused e (Err x) f h = h

pub second_refused : {S T : Type 0} (e : RuleError) (r : Result S semantics.RuleError) (f : S → Result T semantics.RuleError) (s : S) → r ≡ Ok s → IsError e (f s) → IsError e (elim r [ Ok s ↦ f s | Err x ↦ Err x ])
second_refused e r f s h i = subst (λ q. IsError e (elim q [ Ok s ↦ f s | Err x ↦ Err x ])) (sym h) i
