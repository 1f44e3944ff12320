-- What holds of the rules of a program that is checked, if each rule that is accepted keeps it.
use Rattle.std.proofs.Common.{◌≡◌, ◌+◌, List, [], ◌∷◌, Option, Some, None, Result, Ok, Err, length, refl, subst}
use Rattle.chr_semantics.specs.Names.{Names, first_names}
use Rattle.chr_semantics.specs.Program.{Program}
use Rattle.chr_semantics.specs.Syntax as syntax
use Rattle.chr_semantics.specs.Syntax.{Part, declares, ignored, rule}
use Rattle.chr_semantics.specs.Checked.{Checked, RuleErrorKind, RuleError, checked, declare_in, declared_only, each, error_in_rule, rule_in, unless, with_rule}

abbrev pub IsKept : (Program → Type 0) → Type 0
IsKept P = (c : Checked) (r : syntax.Rule) → error_in_rule c.names c.declared c.rules r ≡ None → P c.rules → P (with_rule c r).rules

kept_in_part : (P : Program → Type 0) → IsKept P → (c d : Checked) (p : Part) → rule_in c p ≡ Ok d → P c.rules → P d.rules
kept_in_part P keeps c d (declares line ds) h held = let same : c ≡ d = cc in subst (λ x. P x.rules) same held
kept_in_part P keeps c d (ignored line) h held = let same : c ≡ d = cc in subst (λ x. P x.rules) same held
kept_in_part P keeps c d (rule line r) h held = by (error_in_rule c.names c.declared c.rules r) refl h
  where
    by : (m : Option RuleErrorKind) → error_in_rule c.names c.declared c.rules r ≡ m → unless m line (length c.rules + 1) (with_rule c r) ≡ Ok d → P d.rules
    by None e i = let same : with_rule c r ≡ d = cc in subst (λ x. P x.rules) same (keeps c r e held)
    by (Some m) e i = cc

abbrev after : Result Checked RuleError → List Part → Result Checked RuleError
after r ps = elim r [ Ok x ↦ each rule_in x ps | Err e ↦ Err e ]

pub kept_in_all : (P : Program → Type 0) → IsKept P → (c d : Checked) (ps : List Part) → each rule_in c ps ≡ Ok d → P c.rules → P d.rules
kept_in_all P keeps c d [] h held = let same : c ≡ d = cc in subst (λ x. P x.rules) same held
kept_in_all P keeps c d (p ∷ ps) h held = by (rule_in c p) refl h (λ x. kept_in_all P keeps x d ps)
  where
    by : (r : Result Checked RuleError) → rule_in c p ≡ r → after r ps ≡ Ok d → ((x : Checked) → each rule_in x ps ≡ Ok d → P x.rules → P d.rules) → P d.rules
    by (Ok x) e i rest = rest x i (kept_in_part P keeps c x p e held)
    by (Err e) f i rest = cc

abbrev from_names : Result Names RuleError → List Part → Result Checked RuleError
from_names r ps = elim r [ Ok names ↦ each rule_in (declared_only names) ps | Err e ↦ Err e ]

pub kept_in_checked : (P : Program → Type 0) → IsKept P → P [] → (d : Checked) (ps : List Part) → checked ps ≡ Ok d → P d.rules
kept_in_checked P keeps none d ps h = by (each declare_in first_names ps) h
  where
    by : (r : Result Names RuleError) → from_names r ps ≡ Ok d → P d.rules
    by (Ok names) i = kept_in_all P keeps (declared_only names) d ps i none
    by (Err e) i = cc
