-- What is not read, or breaks a rule of the language, is accepted as nothing.
use Rattle.std.proofs.Common.{◌≡◌, ℕ, List, Result, Ok, Err, ap, subst, sym, ◌∙◌}
use Rattle.chr_semantics.specs.Syntax.{Program, Query}
use Rattle.chr_semantics.specs.Grammar.{IsProgram, IsQuery}
use Rattle.chr_semantics.specs.Reading.{IsRead}
use Rattle.chr_semantics.specs.Accepted.{IsAcceptedProgram}
use Rattle.chr_semantics.specs.Checked as semantics_checked
use Rattle.chr_semantics.specs.Checked.{Checked, checked, checked_query}
use Rattle.chr_rules.specs.Checks.{IsError}
use Rattle.chr_rules.specs.declared.error.RuleError.{RuleError}
use Rattle.chr_rules.specs.declared.error.RuleErrorKind.TheVariants as fault
use Rattle.chr_check.specs.Accepted.{IsSomeProgram, IsSomeQuery}

-- an error that is not for want of memory is none of what has a meaning
no_meaning : {S : Type 0} (e : RuleError) (r : Result S semantics_checked.RuleError) (s : S) → r ≡ Ok s → IsError e r → (e.kind ≡ fault.Memory → ⊥) → ⊥
no_meaning {S = S} e r s is h other = other (ap (λ (x : RuleError). x.kind) (subst (λ (q : Result S semantics_checked.RuleError). IsError e q) is h))

-- what two equal answers hold is equal
abbrev the_ok : (S F : Type 0) → S → Result S F
the_ok S F a = Ok a

from_ok : {S F : Type 0} {a b : S} → the_ok S F a ≡ the_ok S F b → a ≡ b
from_ok {S = S} {F = F} {a = a} {b = b} h = ap (λ (r : Result S F). elim r [ Ok s ↦ s | Err e ↦ a ]) h

-- the one reading of a text is that of what it is accepted as
pub one_program : (text : List ℕ) (s : Program) (c d : Checked) → ((p : Program) → IsRead IsProgram text p → s ≡ p) → checked s ≡ Ok c → IsAcceptedProgram text d → c ≡ d
one_program text s c d only is a = from_ok (sym is ∙ ap checked (only a.spelled a.read) ∙ a.is_checked)

-- a text that is read and then refused is accepted as no program
pub no_program : (text : List ℕ) (s : Program) (e : RuleError) → ((p : Program) → IsRead IsProgram text p → s ≡ p) → IsError e (checked s) → (e.kind ≡ fault.Memory → ⊥) → IsSomeProgram text → ⊥
no_program text s e only h other (c, a) = no_meaning e (checked s) c (ap checked (only a.spelled a.read) ∙ a.is_checked) h other

-- or as no query
pub no_query : (c : Checked) (text : List ℕ) (s : Query) (e : RuleError) → ((p : Query) → IsRead IsQuery text p → s ≡ p) → IsError e (checked_query c s) → (e.kind ≡ fault.Memory → ⊥) → IsSomeQuery c text → ⊥
no_query c text s e only h other (names, q, a) = no_meaning e (checked_query c s) (names, q) (ap (checked_query c) (only a.spelled a.read) ∙ a.is_checked) h other
