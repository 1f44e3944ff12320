-- A first firing depends on the rows of its rule's symbols, and on the rule's entries.
use Rattle.std.proofs.Common.{Bool, List, None, Option, Some, [], ap, cond, false, length, not, refl, sym, true, true≢false, ℕ, ◌&&◌, ◌==◌, ◌||◌, ◌∙◌, ◌∷◌, ◌≡◌}
use Rattle.std.proofs.lemmas.Bool.Decides.{Decides-eqb}
use Rattle.std.specs.List.{list_any}
use Rattle.std.proofs.lemmas.List.Elements.{All-nil, All-cons, All-head, All-tail}
use Rattle.std.specs.Prelude.{All, filter, find, option_and_then}
use mathlib.Core.Path.{fun_ext}
use Rattle.chr_semantics.specs.Match.{Row, fit_all, fit_atom, fit_rows, fits}
use Rattle.chr_semantics.specs.Program.{Atom, Head, Rule, Program, Occurrence, occurrence}
use Rattle.chr_semantics.specs.Search.{atom_of, first, first_of, found_at, found_for, found_with, ids_found, History, can_fire, fired_before, first_tuple, ids_of, passes_guard, rule_entries, same_ids, tuples_from}
use Rattle.chr_semantics.specs.Subst.{Subst}
use Rattle.chr_semantics.proofs.Lookups.{of_kept}
use Rattle.chr_semantics.proofs.Tuples.{Wants, find_kept}

-- each head's symbol passes
abbrev pub HeadsKept : (ℕ → Bool) → List Head → Type 0
HeadsKept keep [] = Unit {0}
HeadsKept keep (h ∷ hs) = (keep h.atom.sym ≡ true) × HeadsKept keep hs

differs_at : (b : Bool) (keep : ℕ → Bool) (f g : ℕ) (m : Option Subst) → (b ≡ true → f ≡ g) → keep f ≡ true → keep g ≡ false → cond b m None ≡ None
differs_at true keep f g m same h k = absurd (true≢false (sym h ∙ ap keep (same refl) ∙ k))
differs_at false keep f g m same h k = refl

fit_atom_none : (keep : ℕ → Bool) (h a : Atom) (m : Subst) → keep h.sym ≡ true → keep a.sym ≡ false → fit_atom h a m ≡ None
fit_atom_none keep h a m k l = differs_at (h.sym == a.sym) keep h.sym a.sym (fit_all h.args a.args m) (Decides-eqb h.sym a.sym).0 k l

then_none : (f : Subst → Option Subst) (m : Option Subst) → ((x : Subst) → f x ≡ None) → option_and_then f m ≡ None
then_none f None h = refl
then_none f (Some x) h = h x

-- a row that is not kept fits no head
abbrev pub Misfits : (Row → Bool) → List Head → Type 0
Misfits keep hs = (c : Row) → keep c ≡ false → All (λ h. (m : Subst) → fit_atom h.atom c.1 m ≡ None) hs

fit_rows_at : (b : Bool) (x : Head) (hs : List Head) (a : Row) (t : List Row) (m : Subst) (others : Bool) → (b ≡ false → fit_atom x.atom a.1 m ≡ None) → (others ≡ true → (y : Subst) → fit_rows hs t y ≡ None) → (not b || others) ≡ true → fit_rows (x ∷ hs) (a ∷ t) m ≡ None
fit_rows_at true x hs a t m others misfit go e = then_none (fit_rows hs t) (fit_atom x.atom a.1 m) (go e)
fit_rows_at false x hs a t m others misfit go e = rw (misfit refl) refl

fit_rows_none : (keep : Row → Bool) (hs : List Head) (t : List Row) (m : Subst) → Misfits keep hs → list_any (λ r. not (keep r)) t ≡ true → fit_rows hs t m ≡ None
fit_rows_none keep [] [] m h k = absurd (true≢false (sym k))
fit_rows_none keep [] (a ∷ t) m h k = refl
fit_rows_none keep (x ∷ hs) [] m h k = refl
fit_rows_none keep (x ∷ hs) (a ∷ t) m h k =
    fit_rows_at (keep a) x hs a t m (list_any (λ r. not (keep r)) t) (λ is. All-head (λ (y : Head). (n : Subst) → fit_atom y.atom a.1 n ≡ None) x hs (h a is) m)
    (λ l y. fit_rows_none keep hs t y (λ c is. All-tail (λ (z : Head). (n : Subst) → fit_atom z.atom c.1 n ≡ None) x hs (h c is)) l) k

-- a list with a row that fits no head does not fire
pub can_fire_wants : (keep : Row → Bool) (h : History) (r : ℕ) (rule : Rule) → Misfits keep rule.heads → Wants keep (can_fire h r rule)
can_fire_wants keep h r rule k t other = rw (fit_rows_none keep rule.heads t [] k other) refl

-- rows that fit no head change nothing
pub first_tuple_fits : (keep : Row → Bool) (rows : List Row) (h : History) (r : ℕ) (rule : Rule) (place : ℕ) (a : Row) → Misfits keep rule.heads → first_tuple rows h r rule place a ≡ first_tuple (filter keep rows) h r rule place a
first_tuple_fits keep rows h r rule place a k = find_kept keep (can_fire h r rule) (can_fire_wants keep h r rule k) rows a place (length rule.heads) [] 0

-- a row of another symbol than the heads' fits none of them
misfits : (keep : ℕ → Bool) (hs : List Head) → HeadsKept keep hs → Misfits (of_kept keep) hs
misfits keep [] h c out = All-nil (λ (x : Head). (m : Subst) → fit_atom x.atom c.1 m ≡ None)
misfits keep (x ∷ hs) h c out = All-cons (λ (y : Head). (m : Subst) → fit_atom y.atom c.1 m ≡ None) x hs (λ m. fit_atom_none keep x.atom c.1 m h.0 out) (misfits keep hs h.1 c out)

-- rows of other symbols than the heads' change nothing
pub first_tuple_kept : (keep : ℕ → Bool) (rows : List Row) (h : History) (r : ℕ) (rule : Rule) (place : ℕ) (a : Row) → HeadsKept keep rule.heads → first_tuple rows h r rule place a ≡ first_tuple (filter (of_kept keep) rows) h r rule place a
first_tuple_kept keep rows h r rule place a k = first_tuple_fits (of_kept keep) rows h r rule place a (misfits keep rule.heads k)

fired_at : (b : Bool) (r : ℕ) (f : ℕ × List ℕ) (h : History) (ids : List ℕ) → (f.0 == r) ≡ b → (b && same_ids f.1 ids || fired_before h r ids) ≡ fired_before (cond b (f ∷ h) h) r ids
fired_at true r f h ids is = rw is refl
fired_at false r f h ids is = refl

pub fired_before_entries : (h : History) (r : ℕ) (ids : List ℕ) → fired_before h r ids ≡ fired_before (rule_entries r h) r ids
fired_before_entries [] r ids = refl
fired_before_entries (f ∷ h) r ids =
    ap (λ (b : Bool). (f.0 == r) && same_ids f.1 ids || b) (fired_before_entries h r ids)
    ∙ fired_at (f.0 == r) r f (rule_entries r h) ids refl

fired_before_same : (h k : History) (r : ℕ) (ids : List ℕ) → rule_entries r h ≡ rule_entries r k → fired_before h r ids ≡ fired_before k r ids
fired_before_same h k r ids e = fired_before_entries h r ids ∙ ap (λ (x : History). fired_before x r ids) e ∙ sym (fired_before_entries k r ids)

can_fire_same : (h k : History) (r : ℕ) (rule : Rule) → rule_entries r h ≡ rule_entries r k → can_fire h r rule ≡ can_fire k r rule
can_fire_same h k r rule e = fun_ext (λ t. ap (λ (b : Bool). passes_guard rule (fits rule.heads t) && not b) (fired_before_same h k r (ids_of t) e))

-- equal rows of the rule's symbols and equal entries of the rule give equal first firings
pub first_tuple_same : (keep : ℕ → Bool) (rows others : List Row) (h k : History) (r : ℕ) (rule : Rule) (place : ℕ) (a : Row) → HeadsKept keep rule.heads → filter (of_kept keep) rows ≡ filter (of_kept keep) others → rule_entries r h ≡ rule_entries r k
    → first_tuple rows h r rule place a ≡ first_tuple others k r rule place a
first_tuple_same keep rows others h k r rule place a kept same e =
    first_tuple_kept keep rows h r rule place a kept
    ∙ ap (λ (x : List Row). first_tuple x h r rule place a) same
    ∙ sym (first_tuple_kept keep others h r rule place a kept)
    ∙ ap (λ (test : List Row → Bool). find test (tuples_from others a place (length rule.heads) [] 0)) (can_fire_same h k r rule e)

-- the first firing of a living constraint
pub first_is : (p : Program) (rs : List Row) (h : History) (i j : ℕ) (b : Atom) (o : Occurrence) → atom_of rs i ≡ Some b → occurrence p b.sym j ≡ Some o
    → first p rs h i j ≡ ids_found (found_with o.number o.rule o.place (first_tuple rs h o.number o.rule o.place (i, b)))
first_is p rs h i j b o lives is =
    ap (first_of p rs h i j) lives
    ∙ ap (λ (w : Option Occurrence). ids_found (found_at rs h i w)) is
    ∙ ap (λ (w : Option Atom). ids_found (found_for rs h o.number o.rule o.place i w)) lives
