-- What a substitution makes of one row more.
use Rattle.std.proofs.Common.{◌≡◌, ◌∙◌, ◌==◌, ◌<◌, ◌⊎◌, inl, inr, ℕ, Bool, true, false, not, cond, List, [], ◌∷◌, ◌++◌, ap, append-nil, refl, sym, subst}
use Rattle.std.specs.Prelude.{Option, Some, None, filter, option_map}
use Rattle.std.proofs.lemmas.Bool.{eq-eqb}
use Rattle.std.proofs.lemmas.Bool.Decides.{Decides-eqb}
use Rattle.std.proofs.lemmas.List.Elements.{filter-append}
use Rattle.chr_semantics.specs.Match as semantics
use Rattle.chr_semantics.specs.Program.{Atom}
use Rattle.chr_semantics.specs.Search.{atom_of, ids_of}
use Rattle.chr_semantics.specs.State.{resolved_atom}
use Rattle.chr_semantics.specs.Subst.{Subst}
use Rattle.chr_semantics.specs.Tree.{is_ground_trees}
use Rattle.chr_store.specs.Numbers.{numbers}
use Rattle.chr_store.specs.Rows.{row_atom}
use Rattle.chr_store.specs.declared.id.Id.{Id}
use Rattle.chr_find.specs.Rebinding.{AreThere, IsMade, is_open, new_rows, open_ids}
use Rattle.chr_find.specs.Shown.{AllOver, AllUnder, Rises}
use Rattle.chr_find.specs.declared.rebinding.Replaced.{Replaced}
use Rattle.chr_semantics.proofs.Plain.{some_same}

-- lists with one more at the end
under_parts : (n : ℕ) (xs : List semantics.Row) (c : semantics.Row) → AllUnder n (xs ++ c ∷ []) → AllUnder n xs × (c.0 < n)
under_parts n [] c h = (tt, h.0)
under_parts n (x ∷ xs) c h = let p = under_parts n xs c h.1 in ((h.0, p.0), p.1)

under_last : (n : ℕ) (xs : List semantics.Row) (c : semantics.Row) → AllUnder n xs → c.0 < n → AllUnder n (xs ++ c ∷ [])
under_last n [] c h lt = (lt, tt)
under_last n (x ∷ xs) c h lt = (h.0, under_last n xs c h.1 lt)

over_last : (n : ℕ) (xs : List semantics.Row) (c : semantics.Row) → AllOver n xs → n < c.0 → AllOver n (xs ++ c ∷ [])
over_last n [] c h lt = (lt, tt)
over_last n (x ∷ xs) c h lt = (h.0, over_last n xs c h.1 lt)

pub rises_last : (xs : List semantics.Row) (c : semantics.Row) → Rises xs → AllUnder c.0 xs → Rises (xs ++ c ∷ [])
rises_last [] c up under = (tt, tt)
rises_last (x ∷ xs) c up under = (over_last x.0 xs c up.0 under.0, rises_last xs c up.1 under.1)

atom_kept : (xs : List semantics.Row) (c : semantics.Row) (i : ℕ) (y : Atom) → atom_of xs i ≡ Some y → atom_of (xs ++ c ∷ []) i ≡ Some y
atom_kept [] c i y e = cc
atom_kept (x ∷ xs) c i y e = by_test (x.0 == i) refl (atom_kept xs c i y) e
  where
    by_test : (b : Bool) → (x.0 == i) ≡ b → (atom_of xs i ≡ Some y → atom_of (xs ++ c ∷ []) i ≡ Some y) → cond b (Some x.1) (atom_of xs i) ≡ Some y → cond b (Some x.1) (atom_of (xs ++ c ∷ []) i) ≡ Some y
    by_test true is go e = e
    by_test false is go e = go e

atom_new : (xs : List semantics.Row) (c : semantics.Row) (i : ℕ) → atom_of xs i ≡ None → c.0 ≡ i → atom_of (xs ++ c ∷ []) i ≡ Some c.1
atom_new [] c i e at = rw (eq-eqb c.0 i at) refl
atom_new (x ∷ xs) c i e at = by_test (x.0 == i) (λ f. atom_new xs c i f at) e
  where
    by_test : (b : Bool) → (atom_of xs i ≡ None → atom_of (xs ++ c ∷ []) i ≡ Some c.1) → cond b (Some x.1) (atom_of xs i) ≡ None → cond b (Some x.1) (atom_of (xs ++ c ∷ []) i) ≡ Some c.1
    by_test true go e = cc
    by_test false go e = go e

atom_last : (xs : List semantics.Row) (c : semantics.Row) (i : ℕ) (b : Atom) → atom_of (xs ++ c ∷ []) i ≡ Some b → (atom_of xs i ≡ Some b) ⊎ ((c.0 ≡ i) × (c.1 ≡ b))
atom_last [] c i b e = by_test (c.0 == i) refl e
  where
    by_test : (t : Bool) → (c.0 == i) ≡ t → cond t (Some c.1) None ≡ Some b → (◌≡◌ {A = Option Atom} None (Some b)) ⊎ ((c.0 ≡ i) × (c.1 ≡ b))
    by_test true is e = inr ((Decides-eqb c.0 i).0 is, some_same c.1 b e)
    by_test false is e = inl e
atom_last (x ∷ xs) c i b e = by_test (x.0 == i) (atom_last xs c i b) e
  where
    by_test : (t : Bool) → (atom_of (xs ++ c ∷ []) i ≡ Some b → (atom_of xs i ≡ Some b) ⊎ ((c.0 ≡ i) × (c.1 ≡ b))) → cond t (Some x.1) (atom_of (xs ++ c ∷ []) i) ≡ Some b → (cond t (Some x.1) (atom_of xs i) ≡ Some b) ⊎ ((c.0 ≡ i) × (c.1 ≡ b))
    by_test true go e = inl e
    by_test false go e = go e

numbers_last : (ids : List Id) (id : Id) → numbers (ids ++ id ∷ []) ≡ numbers ids ++ id.0 ∷ []
numbers_last [] id = refl
numbers_last (x ∷ ids) id = ap (λ (l : List ℕ). x.0 ∷ l) (numbers_last ids id)

ids_append : (xs ys : List semantics.Row) → ids_of (xs ++ ys) ≡ ids_of xs ++ ids_of ys
ids_append [] ys = refl
ids_append (x ∷ xs) ys = ap (λ (l : List ℕ). x.0 ∷ l) (ids_append xs ys)

open_if : (b : Bool) (ids : List ℕ) (c : semantics.Row) → ids ++ ids_of (cond b (c ∷ []) []) ≡ cond b (ids ++ c.0 ∷ []) (ids ++ [])
open_if true ids c = refl
open_if false ids c = refl

open_last : (s : Subst) (rows : List semantics.Row) (c : semantics.Row) → open_ids s (rows ++ c ∷ []) ≡ cond (is_open s c) (open_ids s rows ++ c.0 ∷ []) (open_ids s rows ++ [])
open_last s rows c = ap ids_of (filter-append (is_open s) rows (c ∷ [])) ∙ (ids_append (filter (is_open s) rows) (filter (is_open s) (c ∷ [])) ∙ open_if (is_open s c) (open_ids s rows) c)

module _ {A : Type 0} where
  new_last : (rs : List (Replaced A)) (r : Replaced A) → new_rows (rs ++ r ∷ []) ≡ new_rows rs ++ (r.id.0, row_atom r.new) ∷ []
  new_last [] r = refl
  new_last (x ∷ rs) r = ap (λ (rows : List semantics.Row). (x.id.0, row_atom x.new) ∷ rows) (new_last rs r)

  there_more : (f : ℕ → Option Atom) (rs : List (Replaced A)) (r : Replaced A) → AreThere f rs → f r.id.0 ≡ Some (row_atom r.old) → AreThere f (rs ++ r ∷ [])
  there_more f [] r h e = (e, tt)
  there_more f (x ∷ rs) r h e = (h.0, there_more f rs r h.1 e)

module _ {A : Type 0} (s : Subst) (f : ℕ → Option Atom) (rows : List semantics.Row) (rs : List (Replaced A)) (ids : List Id) (made : IsMade s f rows rs ids) (id : Id) (a : Atom) (all : AllUnder id.0 rows) (there : f id.0 ≡ Some a)
    (variables : is_ground_trees a.args ≡ false) where
  -- it stays
  pub made_kept : resolved_atom s a ≡ a → (new : List Id) → new ≡ ids ++ id ∷ [] → IsMade s f (rows ++ (id.0, a) ∷ []) rs new
  made_kept same new e = record {
    replaces = made.replaces;
    under = λ n h. made.under n (under_parts n rows (id.0, a) h).0;
    right = made.right;
    covered = λ i x h. by_place i x (atom_last rows (id.0, a) i x h);
    woken = ap numbers e ∙ (numbers_last ids id ∙ (ap (λ (l : List ℕ). l ++ id.0 ∷ []) made.woken ∙ sym (open_last s rows (id.0, a) ∙ ap (λ (b : Bool). cond b (open_ids s rows ++ id.0 ∷ []) (open_ids s rows ++ [])) still)));
  }
    where
      by_place : (i : ℕ) (x : Atom) → (atom_of rows i ≡ Some x) ⊎ ((id.0 ≡ i) × (a ≡ x)) → (resolved_atom s x ≡ x) ⊎ (atom_of (new_rows rs) i ≡ Some (resolved_atom s x))
      by_place i x (inl h) = made.covered i x h
      by_place i x (inr h) = inl (subst (λ (y : Atom). resolved_atom s y ≡ y) h.1 same)

      still : is_open s (id.0, a) ≡ true
      still = ap not (ap is_ground_trees (ap (λ (x : Atom). x.args) same) ∙ variables)

  -- another one stands in its place
  module _ (r : Replaced A) (at : r.id ≡ id) (old : row_atom r.old ≡ a) (is : row_atom r.new ≡ resolved_atom s a) where
    at_number : r.id.0 ≡ id.0
    at_number = ap (λ (i : Id). i.0) at

    found : f r.id.0 ≡ Some a
    found = ap f at_number ∙ there

    new_right : (i : ℕ) (b : Atom) → (atom_of (new_rows rs) i ≡ Some b) ⊎ ((r.id.0 ≡ i) × (row_atom r.new ≡ b)) → Some b ≡ option_map (resolved_atom s) (f i)
    new_right i b (inl h) = made.right i b h
    new_right i b (inr h) = ap (λ (x : Atom). Some x) (sym h.1 ∙ is) ∙ sym (ap (option_map (resolved_atom s)) (ap f (sym h.0) ∙ found))

    some_there : (o : Option Atom) → atom_of (new_rows rs) r.id.0 ≡ o → atom_of (new_rows rs ++ (r.id.0, row_atom r.new) ∷ []) r.id.0 ≡ Some (resolved_atom s a)
    some_there None e = atom_new (new_rows rs) (r.id.0, row_atom r.new) r.id.0 e refl ∙ ap (λ (x : Atom). Some x) is
    some_there (Some b) e = atom_kept (new_rows rs) (r.id.0, row_atom r.new) r.id.0 (resolved_atom s a) (e ∙ (made.right r.id.0 b e ∙ ap (option_map (resolved_atom s)) found))

    new_covered : (i : ℕ) (x : Atom) → (atom_of rows i ≡ Some x) ⊎ ((id.0 ≡ i) × (a ≡ x)) → (resolved_atom s x ≡ x) ⊎ (atom_of (new_rows rs ++ (r.id.0, row_atom r.new) ∷ []) i ≡ Some (resolved_atom s x))
    new_covered i x (inl h) = by_cover (made.covered i x h)
      where
        by_cover : (resolved_atom s x ≡ x) ⊎ (atom_of (new_rows rs) i ≡ Some (resolved_atom s x)) → (resolved_atom s x ≡ x) ⊎ (atom_of (new_rows rs ++ (r.id.0, row_atom r.new) ∷ []) i ≡ Some (resolved_atom s x))
        by_cover (inl e) = inl e
        by_cover (inr e) = inr (atom_kept (new_rows rs) (r.id.0, row_atom r.new) i (resolved_atom s x) e)
    new_covered i x (inr h) =
        inr (ap (atom_of (new_rows rs ++ (r.id.0, row_atom r.new) ∷ [])) (sym h.0 ∙ sym at_number) ∙ (some_there (atom_of (new_rows rs) r.id.0) refl ∙ ap (λ (y : Atom). Some (resolved_atom s y)) h.1))

    ids_if : (b : Bool) (new : List Id) → new ≡ cond b ids (ids ++ id ∷ []) → numbers new ≡ cond (not b) (numbers ids ++ id.0 ∷ []) (numbers ids ++ [])
    ids_if true new e = ap numbers e ∙ sym (append-nil (numbers ids))
    ids_if false new e = ap numbers e ∙ numbers_last ids id

    is_variables : is_open s (id.0, a) ≡ not (is_ground_trees (row_atom r.new).args)
    is_variables = ap (λ (x : Atom). not (is_ground_trees x.args)) (sym is)

    pub made_new : (more : List (Replaced A)) → more ≡ rs ++ r ∷ [] → (new : List Id) → new ≡ cond (is_ground_trees (row_atom r.new).args) ids (ids ++ id ∷ []) → IsMade s f (rows ++ (id.0, a) ∷ []) more new
    made_new more e new ids_are =
        subst (λ (l : List (Replaced A)). IsMade s f (rows ++ (id.0, a) ∷ []) l new) (sym e)
        (record {
          replaces = record {
            rises = subst Rises (sym (new_last rs r)) (rises_last (new_rows rs) (r.id.0, row_atom r.new) made.replaces.rises (subst (λ (n : ℕ). AllUnder n (new_rows rs)) (sym at_number) (made.under id.0 all)));
            there = there_more f rs r made.replaces.there (found ∙ ap (λ (x : Atom). Some x) (sym old));
          };
          under = λ n h. let p = under_parts n rows (id.0, a) h in
              subst (AllUnder n) (sym (new_last rs r)) (under_last n (new_rows rs) (r.id.0, row_atom r.new) (made.under n p.0) (subst (λ (k : ℕ). k < n) (sym at_number) p.1));
          right = λ i b h. new_right i b (atom_last (new_rows rs) (r.id.0, row_atom r.new) i b (ap (λ (l : List semantics.Row). atom_of l i) (sym (new_last rs r)) ∙ h));
          covered = λ i x h. subst (λ (l : List semantics.Row). (resolved_atom s x ≡ x) ⊎ (atom_of l i ≡ Some (resolved_atom s x))) (sym (new_last rs r)) (new_covered i x (atom_last rows (id.0, a) i x h));
          woken =
              ids_if (is_ground_trees (row_atom r.new).args) new ids_are
              ∙ (ap (λ (l : List ℕ). cond (not (is_ground_trees (row_atom r.new).args)) (l ++ id.0 ∷ []) (l ++ [])) made.woken
              ∙ sym (open_last s rows (id.0, a) ∙ ap (λ (b : Bool). cond b (open_ids s rows ++ id.0 ∷ []) (open_ids s rows ++ [])) is_variables));
        })
