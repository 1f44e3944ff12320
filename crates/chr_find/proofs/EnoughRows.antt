-- Lists that have rows enough for a head.
use Rattle.std.proofs.Common.{◌≡◌, ◌∙◌, ℕ, ◌<◌, Bool, true, false, List, ap, sym, refl, subst, inr, ◌∷◌}
use Rattle.std.specs.Prelude.{◌==◌, ◌&&◌, Option, Some, None, option_and_then, option_map, get_or, length}
use Rattle.std.specs.List.{list_any}
use Rattle.std.proofs.lemmas.Bool.{eq-eqb, ne_eqb}
use Rattle.std.proofs.lemmas.Bool.Decides.{Decides-eqb}
use Rattle.std.proofs.lemmas.List.Folds.{list_any_at}
use Rattle.std.proofs.lemmas.Option.{slice_get_read}
use Rattle.chr_semantics.proofs.KeyLaw.{root_law}
use Rattle.chr_semantics.proofs.Tests.{eqb_sym}
use Rattle.chr_semantics.specs.Keys.{arg_at, is_root, pattern_root, root_of}
use Rattle.chr_semantics.specs.Match.{Row as Constraint, fit_all, fit_atom}
use Rattle.chr_semantics.specs.Search.{has_number}
use Rattle.chr_bind.specs.Matching.{AgreesWith, FitsOrSpoils}
use Rattle.chr_bind.specs.declared.matching.Match.{Match}
use Rattle.chr_store.specs.Rows.{row_atom}
use Rattle.chr_store.specs.declared.row.Row.{Row}
use Rattle.chr_semantics.specs.Program.{Atom}
use Rattle.chr_semantics.specs.Subst.{Subst}
use Rattle.chr_semantics.specs.Tree.{Trees}
use Rattle.chr_term.specs.TermView.{atom_view, trees_view, view}
use Rattle.chr_term.specs.declared.term.Sym.{Sym}
use Rattle.chr_term.specs.declared.term.Term.{Term}
use Rattle.chr_find.specs.Enough.{FitsHead, IsEnough, IsEnoughBy, TakesAs}
use Rattle.chr_find.specs.PlanView.{is_lookup}
use Rattle.chr_find.specs.RootView.{root_view, roots_view}
use Rattle.chr_find.specs.declared.bucket.Bucket.TheVariants.{All, Symbol, At}
use Rattle.chr_find.specs.declared.plan.Lookup.TheVariants.{Position, Symbol as Alone}
use Rattle.chr_find.specs.declared.root.Root.{Root}
use Rattle.chr_find.proofs.Arguments.{arg_view}
use Rattle.chr_find.specs.declared.plan.Lookup.{Lookup}

-- a constraint of another symbol
symbol_apart : (f : Sym) (h : Atom) (m : Subst) → h.sym ≡ f.0 → (c : Constraint) → (f.0 == c.1.sym) ≡ false → fit_atom h c.1 m ≡ None
symbol_apart f h m e c other = root_law.symbols (record { atom = h; passive = false }) m c (eqb_sym c.1.sym h.sym ∙ (ap (λ (n : ℕ). n == c.1.sym) e ∙ other))

-- the indexes of a symbol are those of the same one
same_symbol : (ps : ℕ → List Lookup) (x : Lookup) (f n : ℕ) → list_any (is_lookup x) (ps f) ≡ true → (f == n) ≡ true → list_any (is_lookup x) (ps n) ≡ true
same_symbol ps x f n planned same = ap (λ (k : ℕ). list_any (is_lookup x) (ps k)) (sym ((Decides-eqb f n).0 same)) ∙ planned

-- a test that fails where the symbols are the same fails by the symbols
by_symbol : (s p : Bool) (P : Type 0) → (s && p) ≡ false → (s ≡ false → P) → (s ≡ true → p ≡ true) → P
by_symbol false p P e f g = f refl
by_symbol true p P e f g = absurd (let no : false ≡ true = sym e ∙ g refl in cc)

pub symbol_enough : (ps : ℕ → List Lookup) (f : Sym) (h : Atom) (m : Subst) → h.sym ≡ f.0 → list_any (is_lookup Alone) (ps f.0) ≡ true → IsEnough ps h m (Symbol f)
symbol_enough ps f h m e planned c out =
    by_symbol (f.0 == c.1.sym) (list_any (is_lookup Alone) (ps c.1.sym)) (fit_atom h c.1 m ≡ None) out (symbol_apart f h m e c) (same_symbol ps Alone f.0 c.1.sym planned)

-- as the code learns it
pub alone_enough : {A : Type 0} (f : Sym) (args : List (Term A)) (matching : Match A) → IsEnoughBy matching (atom_view f args) Alone (Symbol f)
alone_enough f args matching ps m planned agrees = symbol_enough ps f (atom_view f args) m refl planned

pub all_enough : (ps : ℕ → List Lookup) (h : Atom) (m : Subst) → IsEnough ps h m All
all_enough ps h m c out = absurd (let no : true ≡ false = out in cc)

-- a test that fails where the symbols are the same fails by the root
by_root : (s p k : Bool) (P : Type 0) → (s && (p && k)) ≡ false → (s ≡ false → P) → (s ≡ true → p ≡ true) → (k ≡ false → P) → P
by_root false p k P e f g h = f refl
by_root true true k P e f g h = h e
by_root true false k P e f g h = absurd (let no : false ≡ true = g refl in cc)

pub root_enough : (ps : ℕ → List Lookup) (f : Sym) (p : ℕ) (k : Root) (h : Atom) (m : Subst) → h.sym ≡ f.0 → list_any (is_lookup (Position p)) (ps f.0) ≡ true → option_and_then (pattern_root m) (arg_at h.args p) ≡ Some (root_view k) → IsEnough ps h m (At f p k)
root_enough ps f p k h m e planned asks c out =
    by_root (f.0 == c.1.sym) (list_any (is_lookup (Position p)) (ps c.1.sym)) (is_root (root_view k) (option_map root_of (arg_at c.1.args p))) (fit_atom h c.1 m ≡ None) out
    (symbol_apart f h m e c)
    (same_symbol ps (Position p) f.0 c.1.sym planned)
    (λ apart. root_law.roots (record { atom = h; passive = false }) m p (root_view k) c asks apart)

-- as the code learns it
pub bucket_enough : {A : Type 0} (ps : ℕ → List Lookup) (f : Sym) (args : List (Term A)) (p : ℕ) (t : Term A) (o : Option Root) (k : Root) (m : Subst) → list_any (is_lookup (Position p)) (ps f.0) ≡ true → p < length args → t ≡ get_or args p t → o ≡ Some k → roots_view o ≡ pattern_root m (view t)
    → IsEnough ps (atom_view f args) m (At f p k)
bucket_enough ps f args p t o k m planned within term is asks =
    root_enough ps f p k (atom_view f args) m refl planned (ap (option_and_then (pattern_root m)) (arg_view args p ∙ ap (option_map view) (slice_get_read args _ p t refl within term)) ∙ (sym asks ∙ ap roots_view is))

lookup_itself : (x : Lookup) → is_lookup x x ≡ true
lookup_itself Alone = refl
lookup_itself (Position p) = eq-eqb p p refl

-- an index of the symbol
pub planned_at : (ps : ℕ → List Lookup) (f : ℕ) (qs : List Lookup) (i : ℕ) (d : Lookup) → qs ≡ ps f → i < length qs → list_any (is_lookup (get_or qs i d)) (ps f) ≡ true
planned_at ps f qs i d planned inside = let x = get_or qs i d in ap (list_any (is_lookup x)) (sym planned) ∙ list_any_at (is_lookup x) qs i d inside (lookup_itself x)

-- neither the own identity nor one of the others
pub unused : (i own : ℕ) (used : List ℕ) → has_number used i ≡ false → (i ≡ own → ⊥) → has_number (own ∷ used) i ≡ false
unused i own used others other = let e : (i == own) ≡ false = ne_eqb i own other in rw (e, others) refl

-- the row fits where it is of the head's symbol and its arguments fit
pub head_fits : {A : Type 0} (fits : Bool) (f : Sym) (args : List (Term A)) (row : Row A) (ts : List (Term A)) (old new : Match A) → trees_view ts ≡ row.args → (f.0 == row.sym.0) ≡ true → FitsOrSpoils fits (trees_view args) (trees_view ts) old new
    → FitsHead fits (atom_view f args) (row_atom row) old new
head_fits {A = A} fits f args row ts old new e same fit = by_fit fits (subst (λ (us : Trees). FitsOrSpoils fits (trees_view args) us old new) e fit)
  where
    by_fit : (b : Bool) → FitsOrSpoils b (trees_view args) row.args old new → FitsHead b (atom_view f args) (row_atom row) old new
    by_fit true g m a = let p : (n : Subst) × (fit_all (trees_view args) row.args m ≡ Some n) × AgreesWith new n = g m a in (p.0, rw same p.1, p.2)
    by_fit false g m a = rw same (g m a)

-- and does not fit where it is of another
pub head_apart : {A : Type 0} (f : Sym) (args : List (Term A)) (row : Row A) (old new : Match A) → (f.0 == row.sym.0) ≡ false → FitsHead false (atom_view f args) (row_atom row) old new
head_apart f args row old new other m a = rw other refl

-- the row is taken where it was not used and fits
pub takes_fit : {A : Type 0} (fits : Bool) (used : List ℕ) (head : Atom) (c : Constraint) (old new : Match A) → has_number used c.0 ≡ false → FitsHead fits head c.1 old new → TakesAs fits used head c old new
takes_fit true used head c old new unused g m a = let p : (n : Subst) × (fit_atom head c.1 m ≡ Some n) × AgreesWith new n = g m a in (p.0, unused, p.1, p.2)
takes_fit false used head c old new unused g m a = inr (g m a)
