-- Matching, as the code has it.
use Rattle.std.proofs.Common.{◌≡◌, ◌≢◌, ◌↔◌, ℕ, suc, ◌+◌, ◌<◌, ◌≤◌, Bool, true, false, cond, IsTrue, MatchBool, Option, Some, None, List, [], ◌∷◌, length, drop, get_or, option_and_then, ap, refl, ◌∙◌, sym, arith}
use Rattle.std.proofs.lemmas.Bool.Decides.{Decides-eqb}
use Rattle.std.proofs.lemmas.List.{drop_all}
use Rattle.chr_semantics.specs.Tree.{Tree, Trees, node, same}
use Rattle.chr_semantics.specs.Subst.{Subst}
use Rattle.chr_semantics.specs.Match.{fit, fit_all, fit_var, match_at}
use Rattle.chr_semantics.proofs.SameLaw.{same_law}
use Rattle.chr_term.specs.TermView.{view, trees_view}
use Rattle.chr_term.specs.declared.term.Term.{Term}
use Rattle.chr_term.proofs.Dropped.{trees_view-drop}
use Rattle.chr_bind.specs.Matching.{AgreesWith, matched_tree}
use Rattle.chr_bind.specs.declared.matching.Match.{Match}

fit_known : {A : Type 0} (h : Match A) (m : Subst) (t u : Tree) (b c : Bool) → AgreesWith h m → same u t ≡ c → (IsTrue b ↔ (u ≡ t)) → MatchBool b ((n : Subst) × (cond c (Some m) None ≡ Some n) × AgreesWith h n) (cond c (Some m) None ≡ None)
fit_known h m t u true true a e d = (m, refl, a)
fit_known h m t u true false a e d = let is : same u t ≡ true = (same_law.terms u t).1 (d.0 refl) in cc
fit_known h m t u false true a e d = let no : IsTrue false = d.1 ((same_law.terms u t).0 e) in cc
fit_known h m t u false false a e d = refl

-- a variable that is matched is compared
pub fit_matched : {A : Type 0} (h : Match A) (m : Subst) (x : ℕ) (t u : Tree) (b : Bool) → AgreesWith h m → matched_tree h x ≡ Some u → (IsTrue b ↔ (u ≡ t))
    → MatchBool b ((n : Subst) × (fit_var m x t (match_at m x) ≡ Some n) × AgreesWith h n) (fit_var m x t (match_at m x) ≡ None)
fit_matched h m x t u b a e d =
    let is : match_at m x ≡ Some u = sym (a x) ∙ e in
    rw is (fit_known h m t u b (same u t) a refl d)

-- one that is not is matched
pub fit_new : {A : Type 0} (old new : Match A) (m : Subst) (x : ℕ) (t : Tree) → AgreesWith old m → matched_tree old x ≡ None → AgreesWith new ((x, t) ∷ m) → (n : Subst) × (fit_var m x t (match_at m x) ≡ Some n) × AgreesWith new n
fit_new old new m x t a e next =
    let is : match_at m x ≡ None = sym (a x) ∙ e in
    ((x, t) ∷ m, rw is refl, next)

-- lists of different lengths do not fit
pub fit_all-lengths : {A B : Type 0} (ps : List (Term A)) (ts : List (Term B)) (m : Subst) → length ps ≢ length ts → fit_all (trees_view ps) (trees_view ts) m ≡ None
fit_all-lengths [] [] m h = absurd (h refl)
fit_all-lengths [] (t ∷ ts) m h = refl
fit_all-lengths (p ∷ ps) [] m h = refl
fit_all-lengths (p ∷ ps) (t ∷ ts) m h = fit_next (fit (view p) (view t) m) (λ n. fit_all-lengths ps ts n (λ e. h (ap suc e)))
  where
    fit_next : (o : Option Subst) → ((n : Subst) → fit_all (trees_view ps) (trees_view ts) n ≡ None) → option_and_then (fit_all (trees_view ps) (trees_view ts)) o ≡ None
    fit_next None f = refl
    fit_next (Some n) f = f n

-- one term after another
pub fit_all-at : {A B : Type 0} (ps : List (Term A)) (ts : List (Term B)) (i : ℕ) (p : Term A) (t : Term B) (n : Subst) → i < length ps → i < length ts → p ≡ get_or ps i p → t ≡ get_or ts i t
    → fit_all (trees_view (drop i ps)) (trees_view (drop i ts)) n ≡ option_and_then (fit_all (trees_view (drop (i + 1) ps)) (trees_view (drop (i + 1) ts))) (fit (view p) (view t) n)
fit_all-at ps ts i p t n hp ht ep et = rw (trees_view-drop ps i p hp ep, trees_view-drop ts i t ht et) refl

pub fit_nodes : (p t : Tree) (f g : ℕ) (ps ts : Trees) (m : Subst) → p ≡ node f ps → t ≡ node g ts → f ≡ g → fit p t m ≡ fit_all ps ts m
fit_nodes p t f g ps ts m ep et e = rw (ep, et, (Decides-eqb f g).1 e) refl

pub fit_end : {A B : Type 0} (ps : List (Term A)) (ts : List (Term B)) (i : ℕ) (n : Subst) → length ps ≤ i → length ps ≡ length ts → fit_all (trees_view (drop i ps)) (trees_view (drop i ts)) n ≡ Some n
fit_end ps ts i n h e = rw (drop_all i ps h, drop_all i ts (omega (arith, h, e))) refl
