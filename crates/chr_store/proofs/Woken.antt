-- The symbols of some constraints, and which constraints wake.
use Rattle.std.proofs.Common.{◌≡◌, ◌∙◌, ℕ, ◌+◌, ◌<◌, ◌≤◌, Bool, true, false, cond, not, ◌==◌, ◌&&◌, ◌||◌, List, [], ◌∷◌, refl, ap, sym, arith, Option, Some, None}
use Rattle.std.specs.Prelude.{filter}
use Rattle.std.specs.List.{list_any}
use Rattle.std.proofs.lemmas.Bool.Decides.{Decides-eqb}
use Rattle.chr_semantics.specs.Footprint.{Ascends}
use Rattle.chr_semantics.specs.Match.{Row}
use Rattle.chr_semantics.specs.Program.{Atom}
use Rattle.chr_semantics.specs.Search.{atom_of, has_number, ids_of}
use Rattle.chr_semantics.specs.Subst.{Subst, instances, value_at}
use Rattle.chr_semantics.specs.Tree.{is_ground_trees}
use Rattle.chr_semantics.proofs.Ground.{ground_stays_all}
use Rattle.chr_semantics.proofs.Lookups.{atom_above}
use Rattle.chr_store.specs.Looks.{is_listed, listed_ids}
use Rattle.chr_store.specs.Numbers.{numbers}
use Rattle.chr_store.specs.Waking.{has_symbol, has_symbol_among, wakes_atom}
use Rattle.chr_store.specs.declared.id.Id.{Id}
use Rattle.chr_store.specs.declared.lists.Look.TheVariants.{Open}

-- the row is of the symbol and has one of the identities
abbrev pub is_row_among : ℕ → List Id → Row → Bool
is_row_among f ids r = r.1.sym == f && has_number (numbers ids) r.0

none_among : (f : ℕ) (ids : List Id) → has_symbol_among [] ids f ≡ false
none_among f [] = refl
none_among f (i ∷ is) = none_among f is

empty_at : (b : Bool) → (b && false) || false ≡ false
empty_at true = refl
empty_at false = refl

more_at : (f i hi : ℕ) (x : Row) (xs : List Row) (is : List Id) (b c m h r : Bool) → (x.0 == i) ≡ b → Ascends (x.0 + 1) xs hi → (x.1.sym == f) ≡ c → has_symbol f (atom_of xs i) ≡ h
    → has_symbol f (cond b (Some x.1) (atom_of xs i)) || ((c && m) || r) ≡ (c && (b || m)) || (h || r)
more_at f i hi x xs is true c m h r is_it up sy e =
    let id : x.0 ≡ i = (Decides-eqb x.0 i).0 is_it in
    let none : atom_of xs i ≡ None = atom_above (x.0 + 1) hi i xs (omega (arith, id)) up in
    let no : h ≡ false = sym e ∙ ap (has_symbol f) none in
    rw (sy, no) (at_once c m r)
  where
    at_once : (c m r : Bool) → c || ((c && m) || r) ≡ (c && true) || (false || r)
    at_once true m r = refl
    at_once false m r = refl
more_at f i hi x xs is false c m h r is_it up sy e = rw e (apart c m h r)
  where
    apart : (c m h r : Bool) → h || ((c && m) || r) ≡ (c && (false || m)) || (h || r)
    apart true true true r = refl
    apart true true false r = refl
    apart true false h r = refl
    apart false m h r = refl

row_among : (f hi : ℕ) (x : Row) (xs : List Row) (ids : List Id) → Ascends (x.0 + 1) xs hi → has_symbol_among (x ∷ xs) ids f ≡ (x.1.sym == f && has_number (numbers ids) x.0) || has_symbol_among xs ids f
row_among f hi x xs [] up = sym (empty_at (x.1.sym == f))
row_among f hi x xs (i ∷ is) up =
    rw (row_among f hi x xs is up) (more_at f i.0 hi x xs is (x.0 == i.0) (x.1.sym == f) (has_number (numbers is) x.0) (has_symbol f (atom_of xs i.0)) (has_symbol_among xs is f) refl up refl refl)

-- the symbols of the identities' constraints are those of the rows with these identities
pub symbols_among : (f lo hi : ℕ) (rows : List Row) (ids : List Id) → Ascends lo rows hi → has_symbol_among rows ids f ≡ list_any (is_row_among f ids) rows
symbols_among f lo hi [] ids up = none_among f ids
symbols_among f lo hi (x ∷ xs) ids up = row_among f hi x xs ids up.1 ∙ ap (λ (b : Bool). is_row_among f ids x || b) (symbols_among f (x.0 + 1) hi xs ids up.1)

-- the row is not ground under the substitution
abbrev pub is_woken : Subst → Row → Bool
is_woken m r = not (is_ground_trees (instances (value_at m) r.1.args))

-- each row is looked up by its identity
abbrev Finds : (ℕ → Option Atom) → List Row → Type 0
Finds look [] = Unit {0}
Finds look (r ∷ rows) = (look r.0 ≡ Some r.1) × Finds look rows

finds_more : (x : Row) (look : ℕ → Option Atom) (lo hi : ℕ) (rows : List Row) → x.0 < lo → Ascends lo rows hi → Finds look rows → Finds (λ i. cond (x.0 == i) (Some x.1) (look i)) rows
finds_more x look lo hi [] below up h = tt
finds_more x look lo hi (r ∷ rows) below up h =
    let least : lo ≤ r.0 = up.0 in
    let apart : (x.0 == r.0) ≡ false = grind arith in
    (rw apart h.0, finds_more x look (r.0 + 1) hi rows (omega (arith, least)) up.1 h.1)

finds_all : (lo hi : ℕ) (rows : List Row) → Ascends lo rows hi → Finds (atom_of rows) rows
finds_all lo hi [] up = tt
finds_all lo hi (x ∷ xs) up = let same : (x.0 == x.0) ≡ true = (Decides-eqb x.0 x.0).1 refl in (rw same refl, finds_more x (atom_of xs) (x.0 + 1) hi xs (omega arith) up.1 (finds_all (x.0 + 1) hi xs up.1))

woken_at : (m : Subst) (look : ℕ → Option Atom) (x : Row) (g : Bool) (is : List ℕ) (xs : List Row) → is_ground_trees x.1.args ≡ g → look x.0 ≡ Some x.1 → filter (λ i. wakes_atom m (look i)) is ≡ ids_of (filter (is_woken m) xs)
    → filter (λ i. wakes_atom m (look i)) (cond (not g) (x.0 ∷ is) is) ≡ ids_of (filter (is_woken m) (x ∷ xs))
woken_at m look x true is xs ground at go =
    let same : instances (value_at m) x.1.args ≡ x.1.args = ground_stays_all (value_at m) x.1.args ground in
    let still : is_ground_trees (instances (value_at m) x.1.args) ≡ true = ap is_ground_trees same ∙ ground in
    rw still go
woken_at m look x false is xs ground at go = rw at (by_test (is_woken m x) go)
  where
    by_test : (b : Bool) → filter (λ i. wakes_atom m (look i)) is ≡ ids_of (filter (is_woken m) xs)
        → cond b (x.0 ∷ filter (λ i. wakes_atom m (look i)) is) (filter (λ i. wakes_atom m (look i)) is) ≡ ids_of (cond b (x ∷ filter (is_woken m) xs) (filter (is_woken m) xs))
    by_test true e = ap (λ (l : List ℕ). x.0 ∷ l) e
    by_test false e = e

cons_listed : (x : Row) (xs : List Row) (g : Bool) → ids_of (cond (not g) (x ∷ xs) xs) ≡ cond (not g) (x.0 ∷ ids_of xs) (ids_of xs)
cons_listed x xs true = refl
cons_listed x xs false = refl

woken_by : (m : Subst) (look : ℕ → Option Atom) (rows : List Row) → Finds look rows → filter (λ i. wakes_atom m (look i)) (listed_ids rows Open) ≡ ids_of (filter (is_woken m) rows)
woken_by m look [] h = refl
woken_by m look (x ∷ xs) h =
    rw (cons_listed x (filter (is_listed Open) xs) (is_ground_trees x.1.args)) (woken_at m look x (is_ground_trees x.1.args) (listed_ids xs Open) xs refl h.0 (woken_by m look xs h.1))

-- of the constraints that were stored with variables, those that wake are all that wake
pub woken_open : (m : Subst) (lo hi : ℕ) (rows : List Row) → Ascends lo rows hi → filter (λ i. wakes_atom m (atom_of rows i)) (listed_ids rows Open) ≡ ids_of (filter (is_woken m) rows)
woken_open m lo hi rows up = woken_by m (atom_of rows) rows (finds_all lo hi rows up)
