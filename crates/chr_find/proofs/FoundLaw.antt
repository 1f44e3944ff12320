-- What a search of a table answers, in the definitions.
use Rattle.std.proofs.Common.{◌≡◌, ◌∙◌, ◌≤◌, ◌+◌, ℕ, List, ap, arith, refl, sym, subst}
use Rattle.std.specs.Prelude.{Option, Some, None, option_map, slice_get}
use Rattle.chr_rules.specs.Index.{pair_of, pair_view}
use Rattle.chr_rules.specs.declared.index.Occurrence.{Occurrence}
use Rattle.chr_semantics.proofs.LookLaw.{look_law}
use Rattle.chr_semantics.proofs.Occurrences.{occurrence_below}
use Rattle.chr_semantics.proofs.TriesLaw.{tries_law}
use Rattle.chr_semantics.specs.Match as semantics
use Rattle.chr_semantics.specs.Program as program
use Rattle.chr_semantics.specs.Program.{Atom, Head, Program, Rule, occurrence}
use Rattle.chr_semantics.specs.Search.{History, atom_of, first}
use Rattle.chr_semantics.specs.Tries.{bounds_for, bounds_of, capped, product_from, tried_tuples, tries_bounds}
use Rattle.chr_find.specs.First.{IsFirst}
use Rattle.chr_find.proofs.SearchParts.{head_there}

-- the occurrence of the definitions that the program's index answered
pub record IsOccurrence (p : Program) (f j : ℕ) (c : Occurrence) : Type 0 where
  pub o : program.Occurrence
  pub is : occurrence p f j ≡ Some o
  pub number : o.number ≡ c.rule
  pub place : o.place ≡ c.place

some_pair : (x y : ℕ × ℕ) → ◌≡◌ {A = Option (ℕ × ℕ)} (Some x) (Some y) → x ≡ y
some_pair x y e = cc

pub occurrence_is : (p : Program) (f j : ℕ) (c : Occurrence) → Some (pair_view c) ≡ option_map pair_of (occurrence p f j) → IsOccurrence p f j c
occurrence_is p f j c e = by_case (occurrence p f j) refl e
  where
    by_case : (w : Option program.Occurrence) → occurrence p f j ≡ w → Some (pair_view c) ≡ option_map pair_of w → IsOccurrence p f j c
    by_case None at e = cc
    by_case (Some o) at e = let same = some_pair (pair_view c) (pair_of o) e in record { o = o; is = at; number = ap (λ (x : ℕ × ℕ). x.0) (sym same); place = ap (λ (x : ℕ × ℕ). x.1) (sym same) }

capped_less : (m n : ℕ) → m ≤ n → capped m ≤ capped n
capped_less m n le = omega (arith, le)

module _ (p : Program) (rows : List semantics.Row) (h : History) (i j : ℕ) (a : Atom) (at : atom_of rows i ≡ Some a) (o : program.Occurrence) (is : occurrence p a.sym j ≡ Some o) where
  pub first_found : (result : Option (List ℕ)) → IsFirst rows h o.number o.rule o.place (i, a) result → result ≡ first p rows h i j
  first_found result e = e ∙ sym (look_law.first p rows h i j a o at is)

  bounds_are : tries_bounds p rows h i j ≡ bounds_for rows h i a (Some o)
  bounds_are = ap (bounds_of p rows h i j) at ∙ ap (bounds_for rows h i a) is

  pub tries_within : (own : Head) → slice_get o.rule.heads o.place ≡ Some own → (tries : ℕ) → tries ≡ capped (0 + tried_tuples rows h o.number o.rule o.place (i, a)) → ((tries_bounds p rows h i j).0 ≤ tries) × (tries ≤ (tries_bounds p rows h i j).1)
  tries_within own there tries e =
      let n = tried_tuples rows h o.number o.rule o.place (i, a) in
      let le = capped_less n (product_from rows o.place 0 o.rule.heads) (tries_law.most rows h o.number o.rule o.place own (i, a) there) in
      subst (λ (b : ℕ × ℕ). (b.0 ≤ tries) × (tries ≤ b.1)) (sym bounds_are) (omega (arith, e), omega (arith, e, le))

  -- the search with an active constraint at the occurrence
  pub answered : (number : ℕ) (rule : Rule) (place id tries : ℕ) (result : Option (List ℕ)) → number ≡ o.number → rule ≡ o.rule → place ≡ o.place → id ≡ i
      → IsFirst rows h number rule place (id, a) result → tries ≡ capped (0 + tried_tuples rows h number rule place (id, a))
      → (result ≡ first p rows h i j) × (((tries_bounds p rows h i j).0 ≤ tries) × (tries ≤ (tries_bounds p rows h i j).1))
  answered number rule place id tries result en er ep ei f e =
      let own = head_there o.rule.heads o.place (occurrence_below p a.sym j o is) in
      let f1 = subst (λ (n : ℕ). IsFirst rows h n rule place (id, a) result) en f in
      let f2 = subst (λ (r : Rule). IsFirst rows h o.number r place (id, a) result) er f1 in
      let f3 = subst (λ (k : ℕ). IsFirst rows h o.number o.rule k (id, a) result) ep f2 in
      let f4 = subst (λ (m : ℕ). IsFirst rows h o.number o.rule o.place (m, a) result) ei f3 in
      let e1 = subst (λ (n : ℕ). tries ≡ capped (0 + tried_tuples rows h n rule place (id, a))) en e in
      let e2 = subst (λ (r : Rule). tries ≡ capped (0 + tried_tuples rows h o.number r place (id, a))) er e1 in
      let e3 = subst (λ (k : ℕ). tries ≡ capped (0 + tried_tuples rows h o.number o.rule k (id, a))) ep e2 in
      let e4 = subst (λ (m : ℕ). tries ≡ capped (0 + tried_tuples rows h o.number o.rule o.place (m, a))) ei e3 in
      (first_found result f4, tries_within own.0 own.1 tries e4)
