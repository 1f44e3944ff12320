-- The elements of constraints that wake.
use Rattle.std.proofs.Common.{◌≡◌, ◌∙◌, ◌+◌, ◌<◌, ◌++◌, ℕ, Bool, true, false, cond, List, [], ◌∷◌, Some, ap, arith, get_or, length, map, refl, suc, sym, take}
use Rattle.std.specs.Prelude.{All, filter, flat_map}
use Rattle.std.proofs.lemmas.Grind.{flat_map-append}
use Rattle.std.proofs.lemmas.List.{append-nil}
use Rattle.std.proofs.Math.Seq.{take-suc}
use Rattle.std.proofs.lemmas.List.Elements.{All-head, All-tail}
use Rattle.chr_semantics.specs.Footprint.{Ascends}
use Rattle.chr_semantics.specs.Match.{Row}
use Rattle.chr_semantics.specs.Search.{atom_of, ids_of}
use Rattle.chr_semantics.specs.State.{Element, known}
use Rattle.chr_store.specs.Numbers.{numbers}
use Rattle.chr_store.specs.declared.id.Id.{Id}
use Rattle.chr_trace.specs.State.{elem_view}
use Rattle.chr_trace.specs.declared.state.Elem.{Elem}
use Rattle.chr_base.proofs.FirstFound.{all_looked}
use Rattle.chr_machine.specs.Waking.{element_as, element_at, elements_at}

-- the last element of those that are left goes on the stack
pub elems_put : {A : Type 0} (es : List (Elem A)) (e : Elem A) (below : List Element) → map elem_view (es ++ e ∷ []) ++ below ≡ map elem_view es ++ elem_view e ∷ below
elems_put [] e below = refl
elems_put (x ∷ es) e below = ap (λ ys. elem_view x ∷ ys) (elems_put es e below)

-- the elements of numbers
abbrev elements_of : List Row → List ℕ → List Element
elements_of rows ids = flat_map (element_at rows) ids

found_from : (p : Row → Bool) (all rows : List Row) → All (λ (r : Row). atom_of all r.0 ≡ Some r.1) rows → elements_of all (ids_of (filter p rows)) ≡ map (λ (r : Row). known r.0 r.1) (filter p rows)
found_from p all [] h = refl
found_from p all (r ∷ rows) h = by (p r) (found_from p all rows (All-tail (λ (r : Row). atom_of all r.0 ≡ Some r.1) r rows h))
  where
    by : (b : Bool) → elements_of all (ids_of (filter p rows)) ≡ map (λ (r : Row). known r.0 r.1) (filter p rows)
        → elements_of all (ids_of (cond b (r ∷ filter p rows) (filter p rows))) ≡ map (λ (r : Row). known r.0 r.1) (cond b (r ∷ filter p rows) (filter p rows))
    by true e = λ k. element_as r.0 (All-head (λ (r : Row). atom_of all r.0 ≡ Some r.1) r rows h k) ++ e k
    by false e = e

of_numbers : (rows : List Row) (ids : List Id) → elements_at rows ids ≡ elements_of rows (numbers ids)
of_numbers rows [] = refl
of_numbers rows (i ∷ ids) = ap (λ es. element_at rows i.0 ++ es) (of_numbers rows ids)

-- those of the rows that pass a test
pub found_all : (p : Row → Bool) (rows : List Row) (hi : ℕ) (ids : List Id) → Ascends 0 rows hi → numbers ids ≡ ids_of (filter p rows) → elements_at rows ids ≡ map (λ (r : Row). known r.0 r.1) (filter p rows)
found_all p rows hi ids h same = of_numbers rows ids ∙ (ap (elements_of rows) same ∙ found_from p rows rows (all_looked rows 0 hi h))

-- the elements of one identity more
one_more : (rows : List Row) (ids : List Id) (k : ℕ) (d : Id) → k < length ids → elements_at rows (take (k + 1) ids) ≡ elements_at rows (take k ids) ++ element_at rows (get_or ids k d).0
one_more rows ids k d lt =
    let f = λ (i : Id). element_at rows i.0 in
    let next : k + 1 ≡ suc k = omega arith in
    ap (λ (n : ℕ). elements_at rows (take n ids)) next
    ∙ (ap (elements_at rows) (take-suc ids k d lt) ∙ (flat_map-append f (take k ids) (get_or ids k d ∷ []) ∙ ap (λ es. elements_at rows (take k ids) ++ es) (append-nil (element_at rows (get_or ids k d).0))))

pub elements_more : (rows : List Row) (ids : List Id) (k : ℕ) (d : Id) (old new : List Element) → k < length ids → old ≡ elements_at rows (take k ids) → new ≡ old ++ element_at rows (get_or ids k d).0 → new ≡ elements_at rows (take (k + 1) ids)
elements_more rows ids k d old new lt are more = more ∙ (ap (λ es. es ++ element_at rows (get_or ids k d).0) are ∙ sym (one_more rows ids k d lt))
