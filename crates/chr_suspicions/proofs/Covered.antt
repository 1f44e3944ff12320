-- Heads that match others, which are taken as constraints.
use Rattle.std.proofs.Common.{◌≡◌, ◌∙◌, ◌+◌, ◌≤◌, ◌∷◌, ◌==◌, ◌||◌, [], All, Bool, List, MatchBool, None, Option, Some, ap, arith, false, length, refl, subst, suc, sym, true, zero, ℕ}
use Rattle.std.specs.Prelude.{Vec}
use Rattle.chr_semantics.specs.Bounds.{IsBounded, IsHeadBelow}
use Rattle.chr_semantics.specs.Match.{fit_all, fit_atom}
use Rattle.chr_semantics.specs.Program.{Atom, Head}
use Rattle.chr_semantics.specs.Subst.{Subst}
use Rattle.chr_semantics.specs.Suspicion.{covers}
use Rattle.chr_semantics.specs.Tree.{Trees}
use Rattle.chr_semantics.specs.declared.limits.TheConstants.{MAX_RULE_VARIABLES}
use Rattle.chr_semantics.proofs.Below.{below_more_all}
use Rattle.chr_term.specs.TermView.{atom_view, trees_view}
use Rattle.chr_term.specs.declared.term.Sym.{Sym}
use Rattle.chr_term.specs.declared.term.Term.{Term}
use Rattle.chr_bind.specs.Matching.{AgreesWith, AreMarksOf, FitsOrSpoils, GoesBack, IsSame, Keeps}
use Rattle.chr_bind.specs.declared.matching.Marks.{Marks}
use Rattle.chr_bind.specs.declared.matching.Match.{Match}
use Rattle.chr_rules.specs.RuleView.{flag_at, heads_from, rule_view}
use Rattle.chr_rules.specs.declared.rule.Rule.{Rule}
use Rattle.chr_suspicions.specs.Covering.{AreHeadsBelow, FitsHead, covers_under}

-- what holds of all, holds of the first one, and of the others
pub first_of : {X : Type 0} (P : X → Type 0) (xs : List X) (x : X) (rest : List X) → xs ≡ x ∷ rest → All P xs → P x
first_of P xs x rest e all = subst (All P) e all 0 x (omega arith)

pub rest_of : {X : Type 0} (P : X → Type 0) (xs : List X) (x : X) (rest : List X) → xs ≡ x ∷ rest → All P xs → All P rest
rest_of P xs x rest e all k d lt = subst (All P) e all (suc k) d (omega (arith, lt))

all_small : {A : Type 0} (n : ℕ) (flags : List Bool) (k : ℕ) (hs : List (Sym × Vec (Term A) A)) → n ≤ MAX_RULE_VARIABLES → All (IsHeadBelow n) (heads_from flags k hs) → AreHeadsBelow MAX_RULE_VARIABLES hs
all_small n flags k [] few all i d lt = absurd (omega (arith, lt))
all_small n flags k (h ∷ hs) few all zero d lt = below_more_all n MAX_RULE_VARIABLES (trees_view h.1.items) few (all 0 (record { atom = atom_view h.0 h.1.items; passive = false }) (omega arith))
all_small n flags k (h ∷ hs) few all (suc i) d lt =
    all_small n flags (k + 1) hs few (rest_of (IsHeadBelow n) (heads_from flags k (h ∷ hs)) _ (heads_from flags (k + 1) hs) refl all) i d (omega (arith, lt))

-- the variables of the heads are those that a rule may have
pub heads_small : {A : Type 0} (rule : Rule A) → IsBounded (rule_view rule) → AreHeadsBelow MAX_RULE_VARIABLES rule.heads.items
heads_small rule b = all_small rule.head_vars rule.passive.items 0 rule.heads.items (omega (arith, b.ordered, b.few)) b.heads

-- a head of the same symbol fits where its arguments do
pub fits_by_arguments : {A : Type 0} (r : Bool) (g h : Atom) (ps ts : Trees) (old new : Match A) → (g.sym == h.sym) ≡ true → ps ≡ g.args → ts ≡ h.args → FitsOrSpoils r ps ts old new → FitsHead r g h old new
fits_by_arguments r g h ps ts old new same eg eh fits m agrees =
    let is : fit_all ps ts m ≡ fit_atom g h m = rw (same, eg, eh) refl in
    subst (λ (o : Option Subst). MatchBool r ((n : Subst) × (o ≡ Some n) × AgreesWith new n) (o ≡ None)) is (fits m agrees)

-- the first head matches the first one and the others some of the others, or all heads match some of the others
covers_next : (g : Head) (gs : List Head) (h : Head) (hs : List Head) (m : Subst) → covers (g ∷ gs) (h ∷ hs) m ≡ (covers_under (fit_atom g.atom h.atom m) gs hs || covers (g ∷ gs) hs m)
covers_next g gs h hs m = by (fit_atom g.atom h.atom m)
  where
    by : (o : Option Subst) → elim o [ Some n ↦ covers gs hs n || covers (g ∷ gs) hs m | None ↦ covers (g ∷ gs) hs m ] ≡ (covers_under o gs hs || covers (g ∷ gs) hs m)
    by None = refl
    by (Some n) = refl

module _ {A : Type 0} (fs gs : List Bool) (i j : ℕ) (patterns : List (Sym × Vec (Term A) A)) (g : Sym × Vec (Term A) A) (others : List (Sym × Vec (Term A) A)) (heads : List (Sym × Vec (Term A) A)) (h : Sym × Vec (Term A) A)
    (rest : List (Sym × Vec (Term A) A)) (eg : patterns ≡ g ∷ others) (eh : heads ≡ h ∷ rest) (m : Subst) where
  both_or_later : covers (heads_from fs i patterns) (heads_from gs j heads) m
      ≡ (covers_under (fit_atom (atom_view g.0 g.1.items) (atom_view h.0 h.1.items) m) (heads_from fs (i + 1) others) (heads_from gs (j + 1) rest) || covers (heads_from fs i patterns) (heads_from gs (j + 1) rest) m)
  both_or_later = rw (eg, eh) (covers_next (record { atom = atom_view g.0 g.1.items; passive = flag_at fs i }) (heads_from fs (i + 1) others) (record { atom = atom_view h.0 h.1.items; passive = flag_at gs j }) (heads_from gs (j + 1) rest) m)

  pub covers_first : true ≡ covers_under (fit_atom (atom_view g.0 g.1.items) (atom_view h.0 h.1.items) m) (heads_from fs (i + 1) others) (heads_from gs (j + 1) rest) → true ≡ covers (heads_from fs i patterns) (heads_from gs j heads) m
  covers_first is = ap (λ b. b || covers (heads_from fs i patterns) (heads_from gs (j + 1) rest) m) is ∙ sym both_or_later

  pub covers_later : (later : Bool) → false ≡ covers_under (fit_atom (atom_view g.0 g.1.items) (atom_view h.0 h.1.items) m) (heads_from fs (i + 1) others) (heads_from gs (j + 1) rest)
      → later ≡ covers (heads_from fs i patterns) (heads_from gs (j + 1) rest) m → later ≡ covers (heads_from fs i patterns) (heads_from gs j heads) m
  covers_later later is on = on ∙ ap (λ b. b || covers (heads_from fs i patterns) (heads_from gs (j + 1) rest) m) is ∙ sym both_or_later

-- no heads match, and some match none
pub none_cover : {A : Type 0} (fs : List Bool) (i : ℕ) (patterns : List (Sym × Vec (Term A) A)) (hs : List Head) (m : Subst) → length patterns ≡ 0 → true ≡ covers (heads_from fs i patterns) hs m
none_cover fs i [] hs m e = refl
none_cover fs i (g ∷ gs) hs m e = absurd (omega (arith, e))

pub cover_none : {A : Type 0} (fs gs : List Bool) (i j : ℕ) (patterns : List (Sym × Vec (Term A) A)) (g : Sym × Vec (Term A) A) (others : List (Sym × Vec (Term A) A)) (heads : List (Sym × Vec (Term A) A)) (m : Subst) → patterns ≡ g ∷ others
    → length heads ≡ 0 → false ≡ covers (heads_from fs i patterns) (heads_from gs j heads) m
cover_none fs gs i j patterns g others [] m eg e = rw eg refl
cover_none fs gs i j patterns g others (h ∷ hs) m eg e = absurd (omega (arith, e))

-- a match that went back is the match that it was
pub same_again : {A : Type 0} (marks : Marks) (h old new : Match A) → GoesBack marks old new → AreMarksOf marks h → Keeps h old → IsSame h new
same_again marks h old new back are kept = back h are kept

pub agrees_again : {A : Type 0} (h new : Match A) (m : Subst) → IsSame h new → AgreesWith h m → AgreesWith new m
agrees_again h new m same agrees x = same x ∙ agrees x

pub keeps_again : {A : Type 0} (h mid new : Match A) → IsSame h mid → Keeps mid new → Keeps h new
keeps_again h mid new same keeps x t e = keeps x t (same x ∙ e)
