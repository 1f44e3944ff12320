-- What an agenda has still to compare.
use Rattle.std.proofs.Common.{◌≡◌, ℕ, ◌+◌, ◌<◌, Option, List, [], ◌∷◌, ◌++◌, ap, refl, ◌∙◌, sym, arith}
use Rattle.chr_semantics.specs.Tree.{Tree, var, int, node}
use Rattle.chr_semantics.specs.Subst.{Subst, apply}
use Rattle.chr_semantics.specs.Mgu.{Equations, apart, both}
use Rattle.chr_bind.specs.Agenda.{IsBelowAgenda, Lists, agenda_size, lists_apart, lists_size, rest_apart}
use Rattle.chr_semantics.specs.Bounds.{AreBelow}
use Rattle.chr_term.specs.Size.{size}
use Rattle.chr_term.specs.TermView.{trees_view, view}
use Rattle.chr_term.specs.declared.term.Term.{Term}
use Rattle.chr_bind.proofs.Equations.{both-assoc, both-nil, nil-both}

pub size_positive : (t : Tree) → 0 < size t
size_positive (var x) = omega arith
size_positive (int z) = omega arith
size_positive (node f ts) = omega arith

-- what is put on last is compared first
pub rest_apart-last : {A : Type 0} (s : Subst) (ps : List (Lists A)) (p : Lists A) → rest_apart s (ps ++ p ∷ []) ≡ both (lists_apart s p.0.now p.1.now) (rest_apart s ps)
rest_apart-last s [] p = nil-both _ ∙ sym (both-nil _)
rest_apart-last s (q ∷ ps) p = ap (λ es. both es (lists_apart s q.0.now q.1.now)) (rest_apart-last s ps p) ∙ both-assoc _ _ _

pub agenda_size-last : {A : Type 0} (s : Subst) (ps : List (Lists A)) (p : Lists A) → agenda_size s (ps ++ p ∷ []) ≡ agenda_size s ps + lists_size s p.0.now
agenda_size-last s [] p = omega arith
agenda_size-last s (q ∷ ps) p = let r = agenda_size-last s ps p in omega (arith, r)

pub below_agenda-last : {A : Type 0} (n : ℕ) (ps : List (Lists A)) (p : Lists A) → AreBelow n (trees_view p.0.now) → AreBelow n (trees_view p.1.now) → IsBelowAgenda n ps → IsBelowAgenda n (ps ++ p ∷ [])
below_agenda-last n [] p h k l = (h, k, tt)
below_agenda-last n (q ∷ ps) p h k l = (l.0, l.1, below_agenda-last n ps p h k l.2)

pub below_agenda-parts : {A : Type 0} (n : ℕ) (ps : List (Lists A)) (p : Lists A) → IsBelowAgenda n (ps ++ p ∷ []) → IsBelowAgenda n ps × AreBelow n (trees_view p.0.now) × AreBelow n (trees_view p.1.now)
below_agenda-parts n [] p l = (tt, l.0, l.1)
below_agenda-parts n (q ∷ ps) p l = let r = below_agenda-parts n ps p l.2 in ((l.0, l.1, r.0), r.1, r.2)

pub lists_apart-more : {A : Type 0} (s : Subst) (ts us : List (Term A)) (t u : Term A) (rest others : List (Term A)) → ts ≡ t ∷ rest → us ≡ u ∷ others
    → lists_apart s ts us ≡ both (apart (apply s (view t)) (apply s (view u))) (lists_apart s rest others)
lists_apart-more s ts us t u rest others e f = rw (e, f) refl

-- the first terms of two lists are compared first, then what is put on the agenda of their rests
pub first_before : {A : Type 0} (s : Subst) (ts us : List (Term A)) (t u : Term A) (rest others : List (Term A)) (put left : Option Equations) → ts ≡ t ∷ rest → us ≡ u ∷ others → put ≡ both (lists_apart s rest others) left
    → both (apart (apply s (view t)) (apply s (view u))) put ≡ both (lists_apart s ts us) left
first_before s ts us t u rest others put left e f h =
    let first = apart (apply s (view t)) (apply s (view u)) in
    ap (both first) h ∙ sym (both-assoc first (lists_apart s rest others) left) ∙ ap (λ p. both p left) (sym (lists_apart-more s ts us t u rest others e f))
