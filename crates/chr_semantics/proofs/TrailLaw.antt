-- The whole lists of a trail are those of the join.
use Rattle.std.proofs.Common.{◌≡◌, ℕ, ◌+◌, Bool, true, false, cond, ◌==◌, List, [], ◌∷◌, ◌++◌, map, Option, Some, None, option_map, flat_map, refl, ap, ◌∙◌}
use Rattle.chr_semantics.specs.Subst.{Subst}
use Rattle.chr_semantics.specs.Program.{Head}
use Rattle.chr_semantics.specs.Match.{Row, fit_atom}
use Rattle.chr_semantics.specs.Search.{has_number}
use Rattle.chr_semantics.specs.Join as join
use Rattle.chr_semantics.specs.Join.{Joined, after_row, joined}
use Rattle.chr_semantics.specs.Trail.{Trail, TrailLaw, after_each, after_own, branch, trail, wholes}

-- the whole lists of parts, one behind the other
pub wholes-append : (s t : Trail) → wholes (s ++ t) ≡ wholes s ++ wholes t
wholes-append [] t = refl
wholes-append (None ∷ s) t = wholes-append s t
wholes-append (Some p ∷ s) t = ap (λ ps. p ∷ ps) (wholes-append s t)

pub wholes-after : (c : Row) (t : Trail) → wholes (after_each c t) ≡ map (after_row c) (wholes t)
wholes-after c [] = refl
wholes-after c (None ∷ t) = wholes-after c t
wholes-after c (Some p ∷ t) = ap (λ ps. after_row c p ∷ ps) (wholes-after c t)

wholes-flat_map : (g : Row → Trail) (h : Row → List Joined) → ((c : Row) → wholes (g c) ≡ h c) → (rows : List Row) → wholes (flat_map g rows) ≡ flat_map h rows
wholes-flat_map g h same [] = refl
wholes-flat_map g h same (c ∷ rows) = wholes-append (g c) (flat_map g rows) ∙ ap (λ ps. ps ++ wholes (flat_map g rows)) (same c) ∙ ap (λ ps. h c ++ ps) (wholes-flat_map g h same rows)

wholes-branch : (f : Subst → Trail) (g : Subst → List Joined) → ((m : Subst) → wholes (f m) ≡ g m) → (c : Row) (used : Bool) (e : Option Subst) → wholes (branch f c used e) ≡ join.branch g c used e
wholes-branch f g same c true e = refl
wholes-branch f g same c false None = refl
wholes-branch f g same c false (Some m) = wholes-after c (f m) ∙ ap (map (after_row c)) (same m)

wholes-cond : (b : Bool) (s t : Trail) (ps qs : List Joined) → wholes s ≡ ps → wholes t ≡ qs → wholes (cond b s t) ≡ cond b ps qs
wholes-cond true s t ps qs e f = e
wholes-cond false s t ps qs e f = f

-- for the heads from the k-th on
pub wholes-trail : (rows : List Row) (a : Row) (place : ℕ) (hs : List Head) (used : List ℕ) (k : ℕ) (m : Subst) → wholes (trail rows a place hs used k m) ≡ joined rows a place hs used k m
wholes-trail rows a place [] used k m = refl
wholes-trail rows a place (h ∷ hs) used k m =
    let own = trail rows a place hs (a.0 ∷ used) (k + 1) m in
    let step = λ (c : Row). branch (λ n. trail rows a place hs (c.0 ∷ used) (k + 1) n) c (has_number (a.0 ∷ used) c.0) (fit_atom h.atom c.1 m) in
    let step_joined = λ (c : Row). join.branch (λ n. joined rows a place hs (c.0 ∷ used) (k + 1) n) c (has_number (a.0 ∷ used) c.0) (fit_atom h.atom c.1 m) in
    wholes-cond (k == place) (after_each a own) (None ∷ flat_map step rows) (map (after_row a) (joined rows a place hs (a.0 ∷ used) (k + 1) m)) (flat_map step_joined rows)
    (wholes-after a own ∙ ap (map (after_row a)) (wholes-trail rows a place hs (a.0 ∷ used) (k + 1) m))
    (wholes-flat_map step step_joined
    (λ c. wholes-branch (λ n. trail rows a place hs (c.0 ∷ used) (k + 1) n) (λ n. joined rows a place hs (c.0 ∷ used) (k + 1) n) (λ n. wholes-trail rows a place hs (c.0 ∷ used) (k + 1) n) c (has_number (a.0 ∷ used) c.0) (fit_atom h.atom c.1 m)) rows)

wholes-own : (f : Subst → Trail) (g : Subst → List Joined) → ((m : Subst) → wholes (f m) ≡ g m) → (e : Option Subst) → wholes (after_own f e) ≡ join.after_own g e
wholes-own f g same None = refl
wholes-own f g same (Some m) = same m

pub trail_law : TrailLaw
trail_law rows rule place own a = wholes-own (trail rows a place rule.heads [] 0) (joined rows a place rule.heads [] 0) (λ m. wholes-trail rows a place rule.heads [] 0 m) (fit_atom own.atom a.1 [])
