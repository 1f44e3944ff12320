-- The first of several mistakes.
use Rattle.std.proofs.Common.{zero, suc, ℕ, ◌≡◌, ◌∙◌, List, [], ◌∷◌, ◌++◌, Bool, true, false, if◌then◌else◌, Option, Some, None, refl, ap, sym, option_map}
use Rattle.std.specs.Prelude.{slice_get}
use Rattle.chr_semantics.specs.Checked as semantics
use Rattle.chr_semantics.specs.Checked.{first_of}
use Rattle.chr_rules.specs.Checks.{fault_of}
use Rattle.chr_rules.specs.declared.error.RuleErrorKind.{RuleErrorKind}

-- where the first of these is none, those after it decide
pub first_after : (xs ys : List (Bool × semantics.RuleErrorKind)) → first_of xs ≡ None → first_of (xs ++ ys) ≡ first_of ys
first_after [] ys h = refl
first_after (x ∷ xs) ys h = by x.0 (first_after xs ys) h
  where
    by : (b : Bool) → (first_of xs ≡ None → first_of (xs ++ ys) ≡ first_of ys) → (if b then Some x.1 else first_of xs) ≡ None → (if b then Some x.1 else first_of (xs ++ ys)) ≡ first_of ys
    by true f e = cc
    by false f e = f e

pub first_within : (xs ys : List (Bool × semantics.RuleErrorKind)) (m : semantics.RuleErrorKind) → first_of xs ≡ Some m → first_of (xs ++ ys) ≡ Some m
first_within [] ys m h = cc
first_within (x ∷ xs) ys m h = by x.0 (first_within xs ys m) h
  where
    by : (b : Bool) → (first_of xs ≡ Some m → first_of (xs ++ ys) ≡ Some m) → (if b then Some x.1 else first_of xs) ≡ Some m → (if b then Some x.1 else first_of (xs ++ ys)) ≡ Some m
    by true f e = e
    by false f e = f e

pub no_fault : (o : Option semantics.RuleErrorKind) → None ≡ option_map fault_of o → o ≡ None
no_fault None h = refl
no_fault (Some m) h = cc

-- a fault that is found in a part is that of the whole
pub fault_of_part : (o p : Option semantics.RuleErrorKind) (f : RuleErrorKind) → Some f ≡ option_map fault_of o → ((m : semantics.RuleErrorKind) → o ≡ Some m → p ≡ Some m) → option_map fault_of p ≡ Some f
fault_of_part None p f e h = cc
fault_of_part (Some m) p f e h = ap (option_map fault_of) (h m refl) ∙ sym e

none_then : (x : Bool × semantics.RuleErrorKind) (xs : List (Bool × semantics.RuleErrorKind)) → first_of (x ∷ xs) ≡ None → (x.0 ≡ false) × (first_of xs ≡ None)
none_then x xs h = by x.0 h
  where
    by : (b : Bool) → (if b then Some x.1 else first_of xs) ≡ None → (b ≡ false) × (first_of xs ≡ None)
    by true e = cc
    by false e = (refl, e)

-- where there is no mistake, none of them is there
pub none_each : (xs : List (Bool × semantics.RuleErrorKind)) (k : ℕ) (x : Bool × semantics.RuleErrorKind) → first_of xs ≡ None → slice_get xs k ≡ Some x → x.0 ≡ false
none_each [] k x h e = cc
none_each (y ∷ xs) zero x h e = let same : y ≡ x = cc in ap (λ z. z.0) (sym same) ∙ (none_then y xs h).0
none_each (y ∷ xs) (suc k) x h e = none_each xs k x (none_then y xs h).1 e
