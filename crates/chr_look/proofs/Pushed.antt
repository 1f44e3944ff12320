-- The constraints of identities, one after another.
use Rattle.std.proofs.Common.{◌≡◌, ◌∙◌, ◌++◌, ◌==◌, ◌∷◌, [], Bool, false, true, List, None, Some, ap, append_assoc, cond, map, option_map, refl, sym, ℕ}
use Rattle.std.proofs.lemmas.List.{map-append}
use Rattle.chr_semantics.specs.Match.{Row}
use Rattle.chr_semantics.specs.Program.{Atom}
use Rattle.chr_semantics.specs.Search.{atom_of}
use Rattle.chr_semantics.specs.State.{State, resolved_atom, rows}
use Rattle.chr_semantics.specs.Subst.{Subst, instances, value_at}
use Rattle.chr_semantics.specs.Verdict.{rows_of}
use Rattle.chr_look.specs.VerdictView.{row_view, rows_view}
use Rattle.chr_look.specs.declared.constraint.Constraint.{Constraint}

-- a constraint of the store with the bindings applied
atom_resolved_at : (s : Subst) (xs : List Row) (i : ℕ) → atom_of (map (λ (r : Row). (r.0, resolved_atom s r.1)) xs) i ≡ option_map (resolved_atom s) (atom_of xs i)
atom_resolved_at s [] i = refl
atom_resolved_at s (r ∷ xs) i = by (r.0 == i) (atom_resolved_at s xs i)
  where
    by : (b : Bool) → atom_of (map (λ (r : Row). (r.0, resolved_atom s r.1)) xs) i ≡ option_map (resolved_atom s) (atom_of xs i)
        → cond b (Some (resolved_atom s r.1)) (atom_of (map (λ (r : Row). (r.0, resolved_atom s r.1)) xs) i) ≡ option_map (resolved_atom s) (cond b (Some r.1) (atom_of xs i))
    by true h = refl
    by false h = h

-- one that lives comes next
pub one_more : (s : State) (i : ℕ) (ids numbers : List ℕ) (a : Atom) (old mid new : List Row) → numbers ≡ i ∷ ids → atom_of s.store i ≡ Some a → mid ≡ old ++ (i, resolved_atom s.subst a) ∷ [] → new ≡ mid ++ rows_of (rows s) ids
    → new ≡ old ++ rows_of (rows s) numbers
one_more s i ids numbers a old mid new e at em en =
    let here : atom_of (rows s) i ≡ Some (resolved_atom s.subst a) = atom_resolved_at s.subst s.store i ∙ ap (option_map (resolved_atom s.subst)) at in
    rw (en, em, e, here) (append_assoc old ((i, resolved_atom s.subst a) ∷ []) (rows_of (rows s) ids))

-- one that does not is left out
pub none_more : (s : State) (i : ℕ) (ids numbers : List ℕ) (old new : List Row) → numbers ≡ i ∷ ids → atom_of s.store i ≡ None → new ≡ old ++ rows_of (rows s) ids → new ≡ old ++ rows_of (rows s) numbers
none_more s i ids numbers old new e at en =
    let here : atom_of (rows s) i ≡ None = atom_resolved_at s.subst s.store i ∙ ap (option_map (resolved_atom s.subst)) at in
    rw (en, e, here) refl

-- as it is pushed
pub pushed_row : {A : Type 0} (old new : List (Constraint A)) (c : Constraint A) (s t : Subst) (a : Atom) → new ≡ old ++ c ∷ [] → a.sym ≡ c.sym.0 → c.args ≡ instances (value_at t) a.args → s ≡ t
    → rows_view new ≡ rows_view old ++ (c.id.0, resolved_atom s a) ∷ []
pushed_row old new c s t a e es ea et =
    let args : c.args ≡ instances (value_at s) a.args = ea ∙ ap (λ (k : Subst). instances (value_at k) a.args) (sym et) in
    ap rows_view e ∙ map-append row_view old (c ∷ []) ∙ ap (λ (b : Atom). rows_view old ++ (c.id.0, b) ∷ []) (cc (es, args))
