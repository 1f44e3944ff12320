-- Rules of two equal heads, and goals that are the very constraint.
use Rattle.std.proofs.Common.{◌≡◌, ◌≢◌, ◌∙◌, ◌↔◌, ◌∷◌, ◌==◌, ◌&&◌, ◌||◌, [], Bool, IsTrue, List, ap, arith, false, get_or, length, refl, sym, true}
use Rattle.std.specs.Prelude.{Vec}
use Rattle.std.proofs.lemmas.Bool.Decides.{Decides-eqb}
use Rattle.chr_semantics.specs.Program.{Atom, Goal, Rule, constraint}
use Rattle.chr_semantics.specs.Suspicion.{drops_duplicates, is_made_again, no_test}
use Rattle.chr_semantics.specs.Tree.{Trees, same_all}
use Rattle.chr_semantics.proofs.SameLaw.{same_law}
use Rattle.chr_term.specs.TermView.{atom_over, trees_view}
use Rattle.chr_term.specs.declared.term.Sym.{Sym}
use Rattle.chr_term.specs.declared.term.Term.{Term}
use Rattle.chr_rules.specs.RuleView.{heads_from, rule_view}
use Rattle.chr_rules.specs.declared.rule.Rule.{Rule as Code}

-- two tests of one fact
same_test : (b c : Bool) (P : Type 0) → (IsTrue b ↔ P) → (IsTrue c ↔ P) → b ≡ c
same_test true true P f g = refl
same_test true false P f g = let also : IsTrue false = g.1 (f.0 refl) in cc
same_test false true P f g = let also : IsTrue false = f.1 (g.0 refl) in cc
same_test false false P f g = refl

pub same_lists : (r : Bool) (ts us : Trees) → (IsTrue r ↔ (ts ≡ us)) → r ≡ same_all ts us
same_lists r ts us is = same_test r (same_all ts us) (ts ≡ us) is (same_law.lists ts us)

or_not : (a : Bool) → a ≡ (a || false)
or_not true = refl
or_not false = refl

and_not : (a b : Bool) → false ≡ (a && (b && false))
and_not true true = refl
and_not true false = refl
and_not false b = refl

-- a constraint of the symbol is the very one where its arguments are
pub made_by_arguments : (a : Atom) (g : Goal) (f : Sym) (ts us vs : Trees) (r : Bool) → g ≡ constraint (atom_over f us) → a.sym ≡ f.0 → a.args ≡ ts → vs ≡ us → (IsTrue r ↔ (ts ≡ vs)) → r ≡ is_made_again (g ∷ []) a
made_by_arguments a g f ts us vs r eg same args others is =
    let so = (Decides-eqb a.sym f.0).1 same in
    let lists = same_lists r ts vs is ∙ ap (same_all ts) others ∙ ap (λ ws. same_all ws us) (sym args) in
    rw (eg, so) (lists ∙ or_not (same_all a.args us))

two_of : {X : Type 0} (xs : List X) (x y : X) → length xs ≡ 2 → x ≡ get_or xs 0 x → y ≡ get_or xs 1 y → xs ≡ x ∷ y ∷ []
two_of [] x y e atx aty = absurd (omega (arith, e))
two_of (v ∷ []) x y e atx aty = absurd (omega (arith, e))
two_of (v ∷ w ∷ []) x y e atx aty = cc
two_of (v ∷ w ∷ u ∷ xs) x y e atx aty = absurd (omega (arith, e))

none_of : {X : Type 0} (xs : List X) → length xs ≡ 0 → xs ≡ []
none_of [] e = refl
none_of (x ∷ xs) e = absurd (omega (arith, e))

-- two heads of one symbol are equal where their arguments are
pub doubled : {A : Type 0} (rule : Code A) (x y : Sym × Vec (Term A) A) (r : Bool) → length rule.guard.items ≡ 0 → rule.kept ≡ 1 → length rule.heads.items ≡ 2 → x ≡ get_or rule.heads.items 0 x → y ≡ get_or rule.heads.items 1 y
    → (x.0.0 == y.0.0) ≡ true → (IsTrue r ↔ (trees_view x.1.items ≡ trees_view y.1.items)) → r ≡ drops_duplicates (rule_view rule)
doubled rule x y r guard kept two atx aty same is =
    rw (none_of rule.guard.items guard, kept, two_of rule.heads.items x y two atx aty, same) (same_lists r (trees_view x.1.items) (trees_view y.1.items) is)

-- other heads are not two equal ones
pub not_doubled : {A : Type 0} (rule : Rule) (flags : List Bool) (hs : List (Sym × Vec (Term A) A)) → rule.heads ≡ heads_from flags 0 hs → length hs ≢ 2 → false ≡ drops_duplicates rule
not_doubled rule flags [] e few = rw e (and_not (no_test rule.guard) (rule.kept == 1))
not_doubled rule flags (x ∷ []) e few = rw e (and_not (no_test rule.guard) (rule.kept == 1))
not_doubled rule flags (x ∷ y ∷ []) e few = absurd (few refl)
not_doubled rule flags (x ∷ y ∷ z ∷ hs) e few = rw e (and_not (no_test rule.guard) (rule.kept == 1))
