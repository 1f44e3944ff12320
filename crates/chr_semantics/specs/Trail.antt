-- What a search comes to, step by step: the lists that fit so far, and the whole ones (this project's own).
use Rattle.std.specs.Prelude.{◌≡◌, ℕ, ◌+◌, Bool, true, false, cond, ◌==◌, List, [], ◌∷◌, map, Option, Some, None, option_map, flat_map, slice_get}
use Rattle.chr_semantics.specs.Subst.{Subst}
use Rattle.chr_semantics.specs.Program.{Head, Rule}
use Rattle.chr_semantics.specs.Match.{Row, fit_atom}
use Rattle.chr_semantics.specs.Search.{History, has_number}
use Rattle.chr_semantics.specs.Join.{Joined, after_row, enters}
use Rattle.chr_semantics.specs.Join as join

-- The steps of a search, in order: nothing where a list fits so far and its next partner is looked for, and each whole list that fits.
abbrev pub Trail : Type 0
Trail = List (Option Joined)

-- each whole list with the row c in front
abbrev pub after_each : Row → Trail → Trail
after_each c t = map (option_map (after_row c)) t

-- what lies after the row c: nothing where it was used or does not fit
abbrev pub branch : (Subst → Trail) → Row → Bool → Option Subst → Trail
branch further c true e = []
branch further c false None = []
branch further c false (Some m) = after_each c (further m)

-- for the heads from the k-th on, with the row a at the place, where it was matched first
abbrev pub trail : List Row → Row → ℕ → List Head → List ℕ → ℕ → Subst → Trail
trail rows a place [] used k m = Some ([], m) ∷ []
trail rows a place (h ∷ hs) used k m =
    cond (k == place) (after_each a (trail rows a place hs (a.0 ∷ used) (k + 1) m))
    (None ∷ flat_map (λ (c : Row). branch (λ n. trail rows a place hs (c.0 ∷ used) (k + 1) n) c (has_number (a.0 ∷ used) c.0) (fit_atom h.atom c.1 m)) rows)

-- nothing where the own head does not fit
abbrev pub after_own : (Subst → Trail) → Option Subst → Trail
after_own further None = []
after_own further (Some m) = further m

abbrev pub own_trail : List Row → Rule → ℕ → Head → Row → Trail
own_trail rows rule place own a = after_own (trail rows a place rule.heads [] 0) (fit_atom own.atom a.1 [])

-- the whole lists of a trail
abbrev pub wholes : Trail → List Joined
wholes [] = []
wholes (None ∷ t) = wholes t
wholes (Some p ∷ t) = p ∷ wholes t

-- the lists whose next partner is looked for, up to the first whole one that passes
abbrev pub partial : (Joined → Bool) → Trail → ℕ
partial p [] = 0
partial p (None ∷ t) = partial p t + 1
partial p (Some x ∷ t) = cond (p x) 0 (partial p t)

-- how many partial lists that fit a search of the rule r comes to, up to the first whole list that can fire
abbrev pub partial_with : List Row → History → ℕ → Rule → ℕ → Row → Option Head → ℕ
partial_with rows h r rule place a None = 0
partial_with rows h r rule place a (Some own) = partial (enters h r rule) (own_trail rows rule place own a)

abbrev pub partial_lists : List Row → History → ℕ → Rule → ℕ → Row → ℕ
partial_lists rows h r rule place a = partial_with rows h r rule place a (slice_get rule.heads place)

-- the whole lists are those of the join
abbrev pub TrailLaw : Type 0
TrailLaw = (rows : List Row) (rule : Rule) (place : ℕ) (own : Head) (a : Row) → wholes (own_trail rows rule place own a) ≡ join.own_joined rows rule place own a
