-- The constraints of a store that are taken, one after the other.
use Rattle.std.proofs.Common.{◌≡◌, ◌∙◌, ◌==◌, ◌&&◌, ◌≤◌, ◌<◌, ◌+◌, ℕ, Bool, true, false, cond, List, [], ◌∷◌, ap, arith, refl, sym}
use Rattle.std.proofs.lemmas.Bool.{ne_eqb}
use Rattle.std.proofs.lemmas.Bool.Decides.{Decides-eqb}
use Rattle.std.specs.Prelude.{Option, Some, None}
use Rattle.chr_semantics.proofs.Lookups.{Ascends-filter, Ascends-resolved}
use Rattle.chr_semantics.proofs.Tests.{eqb_sym}
use Rattle.chr_semantics.specs.Footprint.{Ascends}
use Rattle.chr_semantics.specs.Match as semantics
use Rattle.chr_semantics.specs.Program.{Atom}
use Rattle.chr_semantics.specs.Search.{atom_of}
use Rattle.chr_semantics.specs.State.{resolved_atom}
use Rattle.chr_semantics.specs.Subst.{Subst}
use Rattle.chr_find.specs.ScopeView.{keeps_row, rows_kept}
use Rattle.chr_find.specs.Shown.{AllOver, Rises}
use Rattle.chr_find.specs.declared.scope.Scope.{Scope}
use Rattle.chr_find.proofs.MadeWhole.{or_else}

-- rows that ascend
over_all : (n lo hi : ℕ) (xs : List semantics.Row) → n < lo → Ascends lo xs hi → AllOver n xs
over_all n lo hi [] lt up = tt
over_all n lo hi (x ∷ xs) lt up = let le : lo ≤ x.0 = up.0 in (omega (arith, lt, le), over_all n (x.0 + 1) hi xs (omega (arith, lt, le)) up.1)

pub rises : (lo hi : ℕ) (xs : List semantics.Row) → Ascends lo xs hi → Rises xs
rises lo hi [] up = tt
rises lo hi (x ∷ xs) up = (over_all x.0 (x.0 + 1) hi xs (omega arith) up.1, rises (x.0 + 1) hi xs up.1)

up_to : (lo hi : ℕ) (xs : List semantics.Row) → Ascends lo xs hi → lo ≤ hi
up_to lo hi [] up = up
up_to lo hi (x ∷ xs) up = let le : lo ≤ x.0 = up.0 in let more : x.0 + 1 ≤ hi = up_to (x.0 + 1) hi xs up.1 in omega (arith, le, more)

pub none_past : (lo hi i : ℕ) (xs : List semantics.Row) → Ascends lo xs hi → hi ≤ i → atom_of xs i ≡ None
none_past lo hi i [] up past = refl
none_past lo hi i (x ∷ xs) up past =
    let more : x.0 + 1 ≤ hi = up_to (x.0 + 1) hi xs up.1 in
    ap (λ (b : Bool). cond b (Some x.1) (atom_of xs i)) (ne_eqb x.0 i (λ e. omega (arith, more, past, e))) ∙ none_past (x.0 + 1) hi i xs up.1 past

or_none : (o : Option Atom) → or_else o None ≡ o
or_none None = refl
or_none (Some a) = refl

module _ {A : Type 0} (scope : Scope A) (s : Subst) where
  pub kept_ascends : (lo hi : ℕ) (rows : List semantics.Row) → Ascends lo rows hi → Ascends lo (rows_kept scope s rows) hi
  kept_ascends lo hi rows up = Ascends-filter (keeps_row scope) lo hi _ (Ascends-resolved s lo hi rows up)

  -- of all these rows those are left, and the others are there
  pub record IsTaking (all left : List semantics.Row) (f : ℕ → Option Atom) : Type 0 where
    pub lo : ℕ
    pub hi : ℕ
    pub ascends : Ascends lo left hi
    pub absent : (i : ℕ) → lo ≤ i → f i ≡ None
    pub right : (i : ℕ) → or_else (f i) (atom_of (rows_kept scope s left) i) ≡ atom_of (rows_kept scope s all) i

  pub taking_none : (lo hi : ℕ) (all : List semantics.Row) (f : ℕ → Option Atom) → Ascends lo all hi → ((i : ℕ) → f i ≡ None) → IsTaking all all f
  taking_none lo hi all f up none = record { lo = lo; hi = hi; ascends = up; absent = λ i le. none i; right = λ i. ap (λ (o : Option Atom). or_else o (atom_of (rows_kept scope s all) i)) (none i) }

  pub taking_all : (all : List semantics.Row) (f : ℕ → Option Atom) → IsTaking all [] f → (i : ℕ) → f i ≡ atom_of (rows_kept scope s all) i
  taking_all all f h i = sym (or_none (f i)) ∙ h.right i

  one_more : (k b : Bool) (a : Atom) (old rest : Option Atom) → (b ≡ true → old ≡ None) → or_else (cond (b && k) (Some a) old) rest ≡ or_else old (cond k (cond b (Some a) rest) rest)
  one_more true true a old rest h = rw (h refl) refl
  one_more true false a old rest h = refl
  one_more false true a old rest h = refl
  one_more false false a old rest h = refl

  kept_if : (k : Bool) (c : semantics.Row) (rows : List semantics.Row) (i : ℕ) → atom_of (cond k (c ∷ rows) rows) i ≡ cond k (cond (i == c.0) (Some c.1) (atom_of rows i)) (atom_of rows i)
  kept_if true c rows i = ap (λ (b : Bool). cond b (Some c.1) (atom_of rows i)) (eqb_sym c.0 i)
  kept_if false c rows i = refl

  -- the next one is there, if it is in the scope
  pub taking_next : (all rest : List semantics.Row) (c : semantics.Row) (f g : ℕ → Option Atom) → IsTaking all (c ∷ rest) f → ((i : ℕ) → g i ≡ cond (i == c.0 && keeps_row scope (c.0, resolved_atom s c.1)) (Some (resolved_atom s c.1)) (f i))
      → IsTaking all rest g
  taking_next all rest c f g h is = record {
    lo = c.0 + 1;
    hi = h.hi;
    ascends = h.ascends.1;
    absent = λ i le. let low : h.lo ≤ c.0 = h.ascends.0 in is i ∙ (ap (λ (b : Bool). cond (b && keeps_row scope (c.0, resolved_atom s c.1)) (Some (resolved_atom s c.1)) (f i)) (ne_eqb i c.0 (λ e. omega (arith, le, e))) ∙ h.absent i (omega (arith, le, low)));
    right = λ i. let low : h.lo ≤ c.0 = h.ascends.0 in
        ap (λ (o : Option Atom). or_else o (atom_of (rows_kept scope s rest) i)) (is i)
        ∙ (one_more (keeps_row scope (c.0, resolved_atom s c.1)) (i == c.0) (resolved_atom s c.1) (f i) (atom_of (rows_kept scope s rest) i) (λ e. h.absent i (let at : i ≡ c.0 = (Decides-eqb i c.0).0 e in omega (arith, low, at)))
        ∙ (ap (or_else (f i)) (sym (kept_if (keeps_row scope (c.0, resolved_atom s c.1)) (c.0, resolved_atom s c.1) (rows_kept scope s rest) i)) ∙ h.right i));
  }
