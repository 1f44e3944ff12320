-- What the next transition does, by the element on top.
use Rattle.std.proofs.Common.{◌≡◌, ◌≢◌, ◌∙◌, ◌<◌, ◌+◌, ◌++◌, ◌∷◌, [], Bool, List, None, Option, Some, ap, arith, cond, false, length, length-append, nat_lt, option_map, refl, suc, sym, true, ℕ}
use Rattle.std.proofs.lemmas.Bool.{lt-leb, lt-ltb}
use Rattle.chr_semantics.specs.Match.{Row}
use Rattle.chr_semantics.specs.Profile.{Kind, default, drop, kind_next, kind_of_search, kind_on_top, propagate, searched_on_top, simplify}
use Rattle.chr_semantics.specs.Program.{Atom, Occurrence, Program, occurrence}
use Rattle.chr_semantics.specs.Search.{Found, atom_of, found_at, found_for, found_with, first_tuple}
use Rattle.chr_semantics.specs.State.{Element, State, active, rows, running}
use Rattle.chr_semantics.specs.Step.{is_running, search_step, step, step_top}

not_less : (n : ℕ) → nat_lt n n ≡ false
not_less n = lt-leb (suc n) n (omega arith)

-- a history that has one entry more is longer
longer : {X : Type 0} (xs : List X) (x : X) → nat_lt (length xs) (length (xs ++ x ∷ [])) ≡ true
longer xs x = lt-ltb (length xs) (length (xs ++ x ∷ [])) (omega (arith, length-append xs (x ∷ [])))

module _ (p : Program) (s : State) (runs : s.status ≡ running) where
  pub kind_runs : (es : List Element) → s.stack ≡ es → kind_next p s ≡ kind_on_top p s es
  kind_runs es stack = rw (runs, stack) refl

  pub place_runs : (es : List Element) → s.stack ≡ es → cond (is_running s.status) (searched_on_top p s.stack) None ≡ searched_on_top p es
  place_runs es stack = rw (runs, stack) refl

  step_runs : (es : List Element) → s.stack ≡ es → step p s ≡ step_top p s es
  step_runs es stack = rw (runs, stack) refl

  -- a search
  module _ (i j : ℕ) (a : Atom) (below : List Element) (stack : s.stack ≡ active i j a ∷ below) where
    pub drops : occurrence p a.sym j ≡ None → kind_next p s ≡ Some drop
    drops at = kind_runs (active i j a ∷ below) stack ∙ (λ h. Some (kind_of_search (found_at (rows s) s.history i (at h))))

    pub searches_kind : (o : Occurrence) → occurrence p a.sym j ≡ Some o → kind_next p s ≡ Some (cond (nat_lt (length s.history) (length (step p s).history)) (cond (nat_lt o.place o.rule.kept) propagate simplify) default)
    searches_kind o at =
        kind_runs (active i j a ∷ below) stack ∙ (λ h. Some (kind_of_search (found_at (rows s) s.history i (at h)))) ∙ ap Some (alike (atom_of (rows s) i)) ∙ sym (ap by_next next)
      where
        found : Option Atom → Found
        found x = found_for (rows s) s.history o.number o.rule o.place i x

        by_next : State → Option Kind
        by_next t = Some (cond (nat_lt (length s.history) (length t.history)) (cond (nat_lt o.place o.rule.kept) propagate simplify) default)

        next : step p s ≡ search_step s below i j a (found (atom_of (rows s) i))
        next = step_runs (active i j a ∷ below) stack ∙ (λ h. search_step s below i j a (found_at (rows s) s.history i (at h)))

        kind_after : Found → Kind
        kind_after f = cond (nat_lt (length s.history) (length (search_step s below i j a f).history)) (cond (nat_lt o.place o.rule.kept) propagate simplify) default

        by_rows : (t : Option (List Row)) → kind_of_search (found_with o.number o.rule o.place t) ≡ kind_after (found_with o.number o.rule o.place t)
        by_rows None = rw (not_less (length s.history)) refl
        by_rows (Some t) = rw (longer s.history _) refl

        alike : (x : Option Atom) → kind_of_search (found x) ≡ kind_after (found x)
        alike None = rw (not_less (length s.history)) refl
        alike (Some b) = by_rows (first_tuple (rows s) s.history o.number o.rule o.place (i, b))
