-- Adding one binding after another comes to what the eliminations of the definition come to.
use Rattle.std.proofs.Common.{◌≡◌, ℕ, zero, suc, ◌+◌, Bool, true, false, Option, Some, None, Result, Ok, Err, IfOk, List, [], ◌∷◌, ◌++◌, length, ap, refl, ◌∙◌, sym, subst, arith, append-nil}
use Rattle.std.proofs.lemmas.List.{length-append}
use mathlib.Core.Path.{fun_ext}
use Rattle.chr_semantics.specs.Tree.{Tree, var, Trees}
use Rattle.chr_semantics.specs.Subst.{Solves, Subst, value_at, apply, instances, occurs, with_binding, IsSolved}
use Rattle.chr_semantics.specs.Mgu.{Equations, both, apart, apart_under, mgu, elimination, elimination_from, vars}
use Rattle.chr_semantics.proofs.Instances.{instance-solves, instances-instances}
use Rattle.chr_semantics.proofs.Lists.{no_items}
use Rattle.chr_semantics.proofs.SolvedLaw.{solved_twice}
use Rattle.chr_semantics.proofs.UnifierEqual.{bound_is, from_apart, mgu_makes_equal, one}
use Rattle.chr_semantics.proofs.UnifierNone.{mgu_none}
use Rattle.chr_term.specs.TermView.{view, trees_view}
use Rattle.chr_term.specs.declared.term.Term.{Term}
use Rattle.chr_bind.specs.Agenda.{Eliminates, IsRootComparison, Lists, lists_apart, rest_apart}
use Rattle.chr_bind.specs.declared.unification.Binding.{Binding}
use Rattle.chr_bind.specs.declared.unification.RootComparison.TheVariants as root
use Rattle.std.specs.Borrow.{Bor}
use Rattle.chr_bind.specs.Chains.{IsSound, Pairs, lent_pairs, owned_pair, owned_pairs, pairs_in, solution, extension_by}
use Rattle.chr_bind.specs.Unified.{IsAnswer, IsUnified}
use Rattle.chr_bind.specs.declared.bindings.Unified.{Unified}
use Rattle.chr_bind.specs.declared.bindings.Unified.TheVariants.{Bound, Clash, Same}
use Rattle.chr_bind.specs.declared.chains.Link.{Link}
use Rattle.chr_bind.proofs.Binds.{pairs_in-last, solution-last}
use Rattle.chr_bind.proofs.Equations.{apart_all-instance, apart_self, under, under-both}

-- an elimination, with the equations that are left under it
eliminated : (n : ℕ) (s : Subst) (x : ℕ) (u : Tree) (b : Bool) (o : Option Equations) → b ≡ false
    → (let w : Option Subst = elim b [ true ↦ None | false ↦ elim o [ None ↦ None | Some fs ↦ elimination n (with_binding x u s) fs ] ] in w ≡ elimination_from n (with_binding x u s) o)
eliminated n s x u true o e = cc
eliminated n s x u false None e = refl
eliminated n s x u false (Some fs) e = refl

pub elimination-next : (n : ℕ) (s : Subst) (x : ℕ) (u : Tree) (es : Option Equations) → occurs x u ≡ false → elimination_from (suc n) s (both (Some ((x, u) ∷ [])) es) ≡ elimination_from n (with_binding x u s) (under (one x u) es)
elimination-next n s x u None e = refl
elimination-next n s x u (Some es) e = eliminated n s x u (occurs x u) (apart_under (one x u) es) e

inside : (n : ℕ) (s : Subst) (x : ℕ) (u : Tree) (b : Bool) (o : Option Equations) → b ≡ true
    → (let w : Option Subst = elim b [ true ↦ None | false ↦ elim o [ None ↦ None | Some fs ↦ elimination n (with_binding x u s) fs ] ] in w ≡ None)
inside n s x u true o e = refl
inside n s x u false o e = cc

-- a variable inside its other side leaves nothing
pub occurs_inside : (n : ℕ) (s : Subst) (x : ℕ) (u : Tree) (es : Option Equations) → occurs x u ≡ true → elimination_from n s (both (Some ((x, u) ∷ [])) es) ≡ None
occurs_inside n s x u None e = refl
occurs_inside zero s x u (Some es) e = refl
occurs_inside (suc n) s x u (Some es) e = inside n s x u (occurs x u) (apart_under (one x u) es) e

instances-bound : (s : Subst) (x : ℕ) (u : Tree) → value_at s x ≡ var x → (ts : Trees) → instances (value_at (with_binding x u s)) ts ≡ instances (value_at (one x u)) (instances (value_at s) ts)
instances-bound s x u h ts = ap (λ (g : ℕ → Tree). instances g ts) (fun_ext (bound_is s x u h)) ∙ sym (instances-instances (value_at (one x u)) (value_at s) ts)

-- what is left after a binding is what was left, under it
pub rest_after : {A : Type 0} (s : Subst) (x : ℕ) (u : Tree) (ps : List (Lists A)) → value_at s x ≡ var x → rest_apart (with_binding x u s) ps ≡ under (one x u) (rest_apart s ps)
rest_after s x u [] h = refl
rest_after s x u (p ∷ ps) h =
    let ts = trees_view p.0.now in
    let us = trees_view p.1.now in
    let lists : lists_apart (with_binding x u s) p.0.now p.1.now ≡ under (one x u) (lists_apart s p.0.now p.1.now) =
    rw (instances-bound s x u h ts, instances-bound s x u h us) (apart_all-instance (one x u) (instances (value_at s) ts) (instances (value_at s) us))
    in
    ap (λ es. both es (lists_apart (with_binding x u s) p.0.now p.1.now)) (rest_after s x u ps h) ∙ ap (both (under (one x u) (rest_apart s ps))) lists ∙ sym (under-both (one x u) (rest_apart s ps) (lists_apart s p.0.now p.1.now))

-- more eliminations than are needed change nothing
more_step : (n k : ℕ) (s : Subst) (x : ℕ) (u : Tree) (r : Subst) (b : Bool) (o : Option Equations) → ((fs : Equations) → elimination n (with_binding x u s) fs ≡ Some r → elimination (n + k) (with_binding x u s) fs ≡ Some r)
    → (let w : Option Subst = elim b [ true ↦ None | false ↦ elim o [ None ↦ None | Some fs ↦ elimination n (with_binding x u s) fs ] ] in w ≡ Some r)
    → (let w : Option Subst = elim b [ true ↦ None | false ↦ elim o [ None ↦ None | Some fs ↦ elimination (n + k) (with_binding x u s) fs ] ] in w ≡ Some r)
more_step n k s x u r true o f e = cc
more_step n k s x u r false None f e = cc
more_step n k s x u r false (Some fs) f e = f fs e

more_fuel : (n k : ℕ) (s : Subst) (es : Equations) (r : Subst) → elimination n s es ≡ Some r → elimination (n + k) s es ≡ Some r
more_fuel n k s [] r e = e
more_fuel zero k s (e ∷ es) r is = cc
more_fuel (suc n) k s (e ∷ es) r is =
    let sum : suc n + k ≡ suc (n + k) = omega arith in
    rw sum (more_step n k s e.0 e.1 r (occurs e.0 e.1) (apart_under (one e.0 e.1) es) (λ fs w. more_fuel n k (with_binding e.0 e.1 s) fs r w) is)

more_fuel_from : (n k : ℕ) (s : Subst) (o : Option Equations) (r : Subst) → elimination_from n s o ≡ Some r → elimination_from (n + k) s o ≡ Some r
more_fuel_from n k s None r e = cc
more_fuel_from n k s (Some es) r e = more_fuel n k s es r e

unifies : (n : ℕ) (s : Subst) (a b : Tree) (r : Subst) → IsSolved s → elimination_from n s (apart (apply s a) (apply s b)) ≡ Some r → Solves (value_at r) s × (apply r a ≡ apply r b)
unifies n s a b r h e =
    let again = instance-solves (value_at s) s (solved_twice s h) in
    let m = from_apart n s (apply s a) (apply s b) (apart (apply s a) (apply s b)) r e refl h (again a) (again b) in
    (m.1, sym (instance-solves (value_at r) s m.1 a) ∙ m.2 ∙ instance-solves (value_at r) s m.1 b)

at_fuel : (n k : ℕ) (s : Subst) (a b : Tree) (r : Subst) (o : Option Subst) → IsSolved s → mgu s a b ≡ o → ((m : ℕ) → elimination_from (m + k) s (apart (apply s a) (apply s b)) ≡ Some r) → o ≡ Some r
unfolding mgu
at_fuel n k s a b r (Some q) h is e = sym (more_fuel_from _ k s (apart (apply s a) (apply s b)) q is) ∙ e _
at_fuel n k s a b r None h is e = let u = unifies (0 + k) s a b r h (e 0) in absurd (mgu_none s a b is (value_at r) u.0 u.1)

-- with any greater bound on the eliminations that are made, the unifier is what they come to
pub reaches_unifier : (k : ℕ) (s : Subst) (a b : Tree) (r : Subst) → IsSolved s → ((m : ℕ) → elimination_from (m + k) s (apart (apply s a) (apply s b)) ≡ Some r) → mgu s a b ≡ Some r
reaches_unifier k s a b r h e = at_fuel 0 k s a b r (mgu s a b) h refl e

none_at_fuel : (k : ℕ) (s : Subst) (a b : Tree) (o : Option Subst) → mgu s a b ≡ o → ((m : ℕ) → elimination_from (m + k) s (apart (apply s a) (apply s b)) ≡ None) → o ≡ None
unfolding mgu
none_at_fuel k s a b (Some q) is e = let w = sym (more_fuel_from _ k s (apart (apply s a) (apply s b)) q is) ∙ e _ in cc
none_at_fuel k s a b None is e = refl

-- and where they come to nothing, there is none
pub reaches_none : (k : ℕ) (s : Subst) (a b : Tree) → ((m : ℕ) → elimination_from (m + k) s (apart (apply s a) (apply s b)) ≡ None) → mgu s a b ≡ None
reaches_none k s a b e = none_at_fuel k s a b (mgu s a b) refl e

-- one more binding: what is left of the agenda comes to the same under it
pub elimination_once_more : {A : Type 0} (k : ℕ) (first : Subst) (all : Option Equations) (s : Subst) (left : Option Equations) (rest : List (Lists A)) (x : ℕ) (u : Tree) → ((m : ℕ) → elimination_from (m + k) first all ≡ elimination_from m s left)
    → left ≡ both (Some ((x, u) ∷ [])) (rest_apart s rest) → occurs x u ≡ false → value_at s x ≡ var x → (m : ℕ) → elimination_from (m + (k + 1)) first all ≡ elimination_from m (with_binding x u s) (rest_apart (with_binding x u s) rest)
elimination_once_more k first all s left rest x u h is absent free m =
    let sum : m + (k + 1) ≡ suc m + k = omega arith in
    ap (λ f. elimination_from f first all) sum ∙ h (suc m) ∙ ap (elimination_from (suc m) s) is ∙ elimination-next m s x u (rest_apart s rest) absent ∙ ap (elimination_from m (with_binding x u s)) (sym (rest_after s x u rest free))

-- a binding that can't be made leaves nothing
pub elimination_inside : (k : ℕ) (first : Subst) (all : Option Equations) (s : Subst) (left rest : Option Equations) (x : ℕ) (u : Tree) → ((m : ℕ) → elimination_from (m + k) first all ≡ elimination_from m s left) → left ≡ both (Some ((x, u) ∷ [])) rest → occurs x u ≡ true
    → (m : ℕ) → elimination_from (m + k) first all ≡ None
elimination_inside k first all s left rest x u h is absent m = h m ∙ ap (elimination_from m s) is ∙ occurs_inside m s x u rest absent

-- the solution with one more binding
pub solution_once_more : {A : Type 0} (made : List (ℕ × Term A)) (added new : List (ℕ × Bor (Term A))) (x : ℕ) (t : Bor (Term A)) → new ≡ added ++ (x, t) ∷ []
    → solution (pairs_in made new) ≡ with_binding x (apply (solution (pairs_in made added)) (view t.now)) (solution (pairs_in made added))
solution_once_more made added new x t e = ap (λ w. solution (pairs_in made w)) e ∙ ap solution (pairs_in-last made added (x, t)) ∙ solution-last (pairs_in made added) (x, view t.now)

-- two terms for which no binding is needed, one, or none that helps
module _ (pairs : Pairs) (a b : Tree) (solved : IsSolved (solution pairs)) where
  pub none_needed : apart (apply (solution pairs) a) (apply (solution pairs) b) ≡ Some [] → mgu (solution pairs) a b ≡ Some (solution pairs)
  none_needed is = reaches_unifier 0 (solution pairs) a b (solution pairs) solved (λ m. ap (elimination_from (m + 0) (solution pairs)) is)

  pub none_helps : apart (apply (solution pairs) a) (apply (solution pairs) b) ≡ None → mgu (solution pairs) a b ≡ None
  none_helps is = reaches_none 0 (solution pairs) a b (λ m. ap (elimination_from (m + 0) (solution pairs)) is)

  module _ (x : ℕ) (t : Tree) (is : apart (apply (solution pairs) a) (apply (solution pairs) b) ≡ Some ((x, apply (solution pairs) t) ∷ [])) where
    pub one_needed : occurs x (apply (solution pairs) t) ≡ false → mgu (solution pairs) a b ≡ Some (solution (pairs ++ (x, t) ∷ []))
    one_needed absent =
        let s = solution pairs in
        reaches_unifier 1 s a b (solution (pairs ++ (x, t) ∷ [])) solved
        (λ m.
        let sum : m + 1 ≡ suc m = omega arith in
        ap (λ f. elimination_from f s (apart (apply s a) (apply s b))) sum ∙ ap (elimination_from (suc m) s) is ∙ elimination-next m s x (apply s t) (Some []) absent ∙ ap Some (sym (solution-last pairs (x, t))))

    pub inside_itself : occurs x (apply (solution pairs) t) ≡ true → mgu (solution pairs) a b ≡ None
    inside_itself within =
        let s = solution pairs in
        reaches_none 0 s a b (λ m. ap (elimination_from (m + 0) s) is ∙ occurs_inside (m + 0) s x (apply s t) (Some []) within)

-- with one binding before the others
pub elimination_before : {E : Type 0} (s next : Subst) (es rest : Option Equations) (old first new : ℕ) (r : Subst) (result : Result Bool E) → first ≡ old + 1 → ((m : ℕ) → elimination_from (m + 1) s es ≡ elimination_from m next rest)
    → IfOk result (Eliminates next rest first new r) → IfOk result (Eliminates s es old new r)
elimination_before s next es rest old first new r (Ok true) e h (n, l, f) =
    (n + 1, (omega (arith, e, l)), (λ m. let sum : m + (n + 1) ≡ (m + n) + 1 = omega arith in ap (λ w. elimination_from w s es) sum ∙ h (m + n) ∙ f m))
elimination_before s next es rest old first new r (Ok false) e h (k, f) = (k + 1, (λ m. let sum : m + (k + 1) ≡ (m + k) + 1 = omega arith in ap (λ w. elimination_from w s es) sum ∙ h (m + k) ∙ f m))
elimination_before s next es rest old first new r (Err x) e h t = t

-- the added bindings came to the unifier, with owned terms
pub elimination_unifier : {A : Type 0} (links : List Link) (made : List (ℕ × Term A)) (nothing added : List (ℕ × Bor (Term A))) (a b : Tree) (owned : Pairs) → nothing ≡ [] → IsSound links (owned_pairs made)
    → Eliminates (solution (pairs_in made nothing)) (apart (apply (solution (pairs_in made nothing)) a) (apply (solution (pairs_in made nothing)) b)) (length nothing) (length added) (solution (pairs_in made added)) true → owned ≡ lent_pairs added
    → mgu (solution (owned_pairs made)) a b ≡ Some (solution (owned_pairs made ++ owned))
elimination_unifier links made nothing added a b owned e h t is =
    let before : pairs_in made nothing ≡ owned_pairs made = ap (pairs_in made) e ∙ append-nil (owned_pairs made) in
    let f = subst (λ ps. Eliminates (solution ps) (apart (apply (solution ps) a) (apply (solution ps) b)) (length nothing) (length added) (solution (pairs_in made added)) true) before t in
    reaches_unifier f.0 (solution (owned_pairs made)) a b (solution (pairs_in made added)) h.solved f.2 ∙ ap (λ es. Some (solution (owned_pairs made ++ es))) (sym is)

-- or to nothing
pub elimination_none : {A : Type 0} (made : List (ℕ × Term A)) (nothing added : List (ℕ × Bor (Term A))) (a b : Tree) → nothing ≡ []
    → Eliminates (solution (pairs_in made nothing)) (apart (apply (solution (pairs_in made nothing)) a) (apply (solution (pairs_in made nothing)) b)) (length nothing) (length added) (solution (pairs_in made added)) false → mgu (solution (owned_pairs made)) a b ≡ None
elimination_none made nothing added a b e t =
    let before : pairs_in made nothing ≡ owned_pairs made = ap (pairs_in made) e ∙ append-nil (owned_pairs made) in
    let f = subst (λ ps. Eliminates (solution ps) (apart (apply (solution ps) a) (apply (solution ps) b)) (length nothing) (length added) (solution (pairs_in made added)) false) before t in
    reaches_none f.0 (solution (owned_pairs made)) a b f.1

length-eliminated : (x : ℕ) (u : Tree) (s : Subst) → length (with_binding x u s) ≡ length s + 1
length-eliminated x u [] = refl
length-eliminated x u (p ∷ s) = let r = length-eliminated x u s in omega (arith, r)

length-extension_by : (s : Subst) (es : Pairs) → length (extension_by s es) ≡ length s + length es
length-extension_by s [] = omega arith
length-extension_by s (e ∷ es) = omega (arith, length-extension_by (with_binding e.0 (apply s e.1) s) es, length-eliminated e.0 (apply s e.1) s)

length-solution : (es : Pairs) → length (solution es) ≡ length es
length-solution es = omega (arith, length-extension_by [] es)

same_unifier : (s : Subst) (a b : Tree) → apply s a ≡ apply s b → mgu s a b ≡ Some s
unfolding mgu
same_unifier s a b e = ap (λ t. elimination_from (length (vars (apply s a) ++ vars (apply s b))) s (apart t (apply s b))) e ∙ ap (elimination_from (length (vars (apply s a) ++ vars (apply s b))) s) (apart_self (apply s b))

-- Where nothing was added, both stood for one term; where something was, they did not.
pub unified_as : (pairs more : Pairs) (a b : Tree) (n : ℕ) (answer : Unified) → IsSolved (solution pairs) → mgu (solution pairs) a b ≡ Some (solution (pairs ++ more)) → length more ≡ n → IsAnswer n answer → IsUnified a b (solution pairs) (solution (pairs ++ more)) answer
unified_as pairs more a b n Same h is l e =
    let none : more ≡ [] = no_items more (omega (arith, l, e)) in
    let same : solution (pairs ++ more) ≡ solution pairs = ap (λ es. solution (pairs ++ es)) none ∙ ap solution (append-nil pairs) in
    let both_equal = (mgu_makes_equal (solution pairs) a b h (solution (pairs ++ more)) is).2 in
    let equal : apply (solution pairs) a ≡ apply (solution pairs) b = subst (λ r. apply r a ≡ apply r b) same both_equal in
    (equal, same, same_unifier (solution pairs) a b equal)
unified_as pairs more a b n Bound h is l e = (
  is,
  (λ k.
      let same : Some (solution (pairs ++ more)) ≡ Some (solution pairs) = sym is ∙ same_unifier (solution pairs) a b k in
      let lengths : length (solution (pairs ++ more)) ≡ length (solution pairs) = cc in
      absurd (omega (arith, lengths, length-solution (pairs ++ more), length-solution pairs, length-append pairs more, l, e))),
  omega (arith, length-solution (pairs ++ more), length-solution pairs, length-append pairs more, l, e),
)
unified_as pairs more a b n Clash h is l e = absurd e

-- Two terms whose roots were compared: none of the bindings that are still to be added is there.
module _ {A : Type 0} (links : List Link) (made : List (ℕ × Term A)) (a b : Tree) (solved : IsSolved (solution (owned_pairs made))) where
  bare : pairs_in made [] ≡ owned_pairs made
  bare = append-nil (owned_pairs made)

  pub same_roots : IsRootComparison {A = A} links (solution (pairs_in made [])) a b root.Same → IsUnified a b (solution (owned_pairs made)) (solution (owned_pairs made)) Same
  same_roots h =
      let pairs = owned_pairs made in
      let is : apart (apply (solution pairs) a) (apply (solution pairs) b) ≡ Some [] = subst (λ (ps : Pairs). apart (apply (solution ps) a) (apply (solution ps) b) ≡ Some []) bare h in
      subst (λ (ps : Pairs). IsUnified a b (solution pairs) (solution ps) Same) (append-nil pairs) (unified_as pairs [] a b 0 Same solved (none_needed pairs a b solved is ∙ ap (λ (ps : Pairs). Some (solution ps)) (sym (append-nil pairs))) refl refl)

  pub apart_roots : IsRootComparison {A = A} links (solution (pairs_in made [])) a b root.Clash → IsUnified a b (solution (owned_pairs made)) (solution (owned_pairs made)) Clash
  apart_roots h = (none_helps (owned_pairs made) a b solved (subst (λ (ps : Pairs). apart (apply (solution ps) a) (apply (solution ps) b) ≡ None) bare h), refl)

  module _ (d : Binding A) (h : IsRootComparison links (solution (pairs_in made [])) a b (root.Bind d)) where
    equals : apart (apply (solution (owned_pairs made)) a) (apply (solution (owned_pairs made)) b) ≡ Some ((d.name, apply (solution (owned_pairs made)) (view d.term.now)) ∷ [])
    equals = subst (λ (ps : Pairs). apart (apply (solution ps) a) (apply (solution ps) b) ≡ Some ((d.name, apply (solution ps) (view d.term.now)) ∷ [])) bare h.0

    pub within_root : occurs d.name (apply (solution (pairs_in made [])) (view d.term.now)) ≡ true → IsUnified a b (solution (owned_pairs made)) (solution (owned_pairs made)) Clash
    within_root within =
        (inside_itself (owned_pairs made) a b solved d.name (view d.term.now) equals (subst (λ (ps : Pairs). occurs d.name (apply (solution ps) (view d.term.now)) ≡ true) bare within), refl)

    pub absent_in_root : occurs d.name (apply (solution (pairs_in made [])) (view d.term.now)) ≡ false → occurs d.name (apply (solution (owned_pairs made)) (view d.term.now)) ≡ false
    absent_in_root absent = subst (λ (ps : Pairs). occurs d.name (apply (solution ps) (view d.term.now)) ≡ false) bare absent

    pub bound_root : (new : List (ℕ × Term A)) (t : Tree) → t ≡ view d.term.now → owned_pairs new ≡ owned_pairs made ++ (d.name, t) ∷ [] → occurs d.name (apply (solution (pairs_in made [])) (view d.term.now)) ≡ false
        → IsUnified a b (solution (owned_pairs made)) (solution (owned_pairs new)) Bound
    bound_root new t copied is absent =
        let pairs = owned_pairs made in
        let one_more = (d.name, view d.term.now) ∷ [] in
        let all : owned_pairs new ≡ pairs ++ one_more = is ∙ ap (λ (u : Tree). pairs ++ (d.name, u) ∷ []) copied in
        subst (λ (ps : Pairs). IsUnified a b (solution pairs) (solution ps) Bound) (sym all)
        (unified_as pairs one_more a b 1 Bound solved (one_needed pairs a b solved d.name (view d.term.now) equals (absent_in_root absent)) refl (omega arith))

pub owned_pairs-append : {A : Type 0} (es fs : List (ℕ × Term A)) → owned_pairs (es ++ fs) ≡ owned_pairs es ++ owned_pairs fs
owned_pairs-append [] fs = refl
owned_pairs-append (e ∷ es) fs = ap (λ r. owned_pair e ∷ r) (owned_pairs-append es fs)

pub length-owned : {A : Type 0} (es : List (ℕ × Term A)) → length (owned_pairs es) ≡ length es
length-owned [] = refl
length-owned (e ∷ es) = ap suc (length-owned es)
