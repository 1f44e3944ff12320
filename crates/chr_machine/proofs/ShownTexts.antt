-- The text that is kept of a constraint.
use Rattle.std.proofs.Common.{◌≡◌, ◌∙◌, ◌++◌, ◌∷◌, ℕ, List, [], ◌+◌, ◌≤◌, Bool, true, false, ap, arith, cond, refl, subst, sym, not, ◌==◌}
use Rattle.std.specs.Prelude.{OnErr, OnOk, Option, Some, None, Result, Ok, Err, is_some}
use Rattle.std.specs.List.{fold}
use Rattle.std.proofs.lemmas.Bool.Decides.{Decides-eqb}
use Rattle.std.proofs.lemmas.Option.{none-some}
use Rattle.chr_semantics.proofs.Lookups.{Ascends-ends, Ascends-filter, atom_last, atom_of_part}
use Rattle.chr_semantics.specs.Changes.{Entries, Store, added, removed, removed_as}
use Rattle.chr_semantics.specs.Footprint.{Ascends}
use Rattle.chr_semantics.specs.Match.{Row}
use Rattle.chr_semantics.specs.Names.{Names, VarNames}
use Rattle.chr_semantics.specs.Program.{Atom}
use Rattle.chr_semantics.specs.Search.{atom_of}
use Rattle.chr_semantics.specs.State.{resolved_atom}
use Rattle.chr_semantics.specs.Text.{known_text}
use Rattle.chr_base.specs.Model.{BaseModel}
use Rattle.chr_machine.specs.Shown.{IsOf, IsResolvedOf, IsShownIn}

some_of : (o : Option Atom) → is_some o ≡ true → (x : Atom) × (o ≡ Some x)
some_of None e = absurd (let no : false ≡ true = e in cc)
some_of (Some x) e = (x, λ _. Some x)

-- it is that of a constraint which lives
pub shown_of : (names : Names) (vars : VarNames) (b : BaseModel) (k i : ℕ) (a : Atom) (text : List ℕ) → IsShownIn names vars b k text → k ≡ i → is_some (atom_of b.store.rows i) ≡ true → IsOf b.store.rows i a → text ≡ known_text names vars (resolved_atom b.subst a) i
shown_of names vars b k i a text shows same lives of =
    let at = some_of (atom_of b.store.rows i) lives in
    shows at.0 (ap (atom_of b.store.rows) same ∙ at.1)
    ∙ (ap (λ (x : Atom). known_text names vars (resolved_atom b.subst x) k) (of at.0 at.1) ∙ ap (known_text names vars (resolved_atom b.subst a)) same)

-- its row with the bindings applied
pub resolved_of : (b : BaseModel) (i : ℕ) (a r : Atom) → IsOf b.store.rows i a → r ≡ resolved_atom b.subst a → IsResolvedOf b i r
resolved_of b i a r of is c at = ap (resolved_atom b.subst) (of c at) ∙ sym is

-- made anew
pub shown_new : (names : Names) (vars : VarNames) (b : BaseModel) (i : ℕ) (a : Atom) (text : List ℕ) → IsOf b.store.rows i a → text ≡ known_text names vars (resolved_atom b.subst a) i → IsShownIn names vars b i text
shown_new names vars b i a text of e x at = e ∙ ap (λ (y : Atom). known_text names vars (resolved_atom b.subst y) i) (sym (of x at))

-- over the same base
pub shown_same : (names same_names : Names) (vars : VarNames) (b same : BaseModel) (i : ℕ) (text : List ℕ) → same_names ≡ names → same ≡ b → IsShownIn names vars b i text → IsShownIn same_names vars same i text
shown_same names same_names vars b same i text en eb shows =
    subst (λ (n : Names). IsShownIn n vars same i text) (sym en) (subst (λ (c : BaseModel). IsShownIn names vars c i text) (sym eb) shows)

-- a constraint that was added last
pub last_of : (rows : List Row) (n : ℕ) (a : Atom) → Ascends 0 rows n → IsOf (rows ++ (n, a) ∷ []) n a
last_of rows n a up b at = atom_last 0 n a b rows up at

-- what is left of a constraint's rows
less_once : (s : Store) (i k : ℕ) (hi : ℕ) (o : Option Atom) → Ascends 0 s.rows hi → Ascends 0 (removed_as s k o).rows hi × ((a : Atom) → atom_of (removed_as s k o).rows i ≡ Some a → atom_of s.rows i ≡ Some a)
less_once s i k hi None up = (up, λ a at. at)
less_once s i k hi (Some c) up = (Ascends-filter (λ (r : Row). not (r.0 == k)) 0 hi s.rows up, λ a at. atom_of_part (λ (r : Row). not (r.0 == k)) 0 hi s.rows i a up at)

pub less_all : (s : Store) (i hi : ℕ) (ids : List ℕ) → Ascends 0 s.rows hi → (a : Atom) → atom_of (fold removed s ids).rows i ≡ Some a → atom_of s.rows i ≡ Some a
less_all s i hi [] up a at = at
less_all s i hi (k ∷ ids) up a at =
    let once = less_once s i k hi (atom_of s.rows k) up in once.1 a (less_all (removed s k) i hi ids once.0 a at)

-- after a firing, which removes constraints and binds nothing
pub shown_fired : (names same_names : Names) (vars : VarNames) (b new : BaseModel) (i : ℕ) (text : List ℕ) (e : Entries) (n : ℕ) (ids : List ℕ) → Ascends 0 b.store.rows b.store.next_id → same_names ≡ names
    → new ≡ record b { store = fold removed b.store ids; entries = e; next_var = n } → IsShownIn names vars b i text → IsShownIn same_names vars new i text
shown_fired names same_names vars b new i text e n ids up en is shows =
    shown_same names same_names vars (record b { store = fold removed b.store ids; entries = e; next_var = n }) new i text en is
    (λ a at. shows a (less_all b.store i b.store.next_id ids up a at))

-- the same where the firing may be refused
pub shown_tried : {T E : Type 0} (r : Result T E) (names same_names : Names) (vars : VarNames) (b new : BaseModel) (i : ℕ) (text : List ℕ) (e : Entries) (n : ℕ) (ids : List ℕ) → Ascends 0 b.store.rows b.store.next_id → same_names ≡ names
    → OnOk r (new ≡ record b { store = fold removed b.store ids; entries = e; next_var = n }) → OnErr r (new ≡ b) → IsShownIn names vars b i text → IsShownIn same_names vars new i text
shown_tried (Ok x) names same_names vars b new i text e n ids up en ok err = shown_fired names same_names vars b new i text e n ids up en ok
shown_tried (Err x) names same_names vars b new i text e n ids up en ok err = shown_same names same_names vars b new i text en err

-- an identity behind all others is not found
atom_next : (lo n : ℕ) (rows : List Row) → Ascends lo rows n → atom_of rows n ≡ None
atom_next lo n [] up = refl
atom_next lo n (r ∷ rows) up = by (r.0 == n) refl (atom_next (r.0 + 1) n rows up.1)
  where
    by : (b : Bool) → (r.0 == n) ≡ b → atom_of rows n ≡ None → cond b (Some r.1) (atom_of rows n) ≡ None
    by true is none = let same : r.0 ≡ n = (Decides-eqb r.0 n).0 is in let end : r.0 + 1 ≤ n = Ascends-ends (r.0 + 1) n rows up.1 in absurd (omega (arith, same, end))
    by false is none = none

-- no constraint has the next identity yet
pub of_next : (rows : List Row) (n i : ℕ) (a : Atom) → Ascends 0 rows n → i ≡ n → IsOf rows i a
of_next rows n i a up same b at = absurd (none-some b (sym (atom_next 0 n rows up) ∙ (ap (atom_of rows) (sym same) ∙ at)))

-- after the constraint whose text it is was added, or was refused
pub shown_added : {T E : Type 0} (r : Result T E) (names same_names : Names) (vars : VarNames) (b new : BaseModel) (i : ℕ) (a : Atom) (text : List ℕ) → Ascends 0 b.store.rows b.store.next_id → same_names ≡ names → i ≡ b.store.next_id
    → text ≡ known_text names vars (resolved_atom b.subst a) i → OnOk r (new ≡ record b { store = added b.store a }) → OnErr r (new ≡ b) → IsShownIn names vars b i text → IsShownIn same_names vars new i text
shown_added (Ok x) names same_names vars b new i a text up en same is ok err shows =
    let after = record b { store = added b.store a } in
    let of : IsOf after.store.rows i a = subst (λ (n : ℕ). IsOf after.store.rows n a) (sym same) (last_of b.store.rows b.store.next_id a up) in
    shown_same names same_names vars after new i text en ok (shown_new names vars after i a text of is)
shown_added (Err x) names same_names vars b new i a text up en same is ok err shows = shown_same names same_names vars b new i text en err shows
