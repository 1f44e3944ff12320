-- What is known of the constraints with which a rule fires first.
use Rattle.std.proofs.Common.{◌≡◌, ◌∙◌, ◌&&◌, ◌==◌, ◌+◌, ◌<◌, ◌≤◌, ◌≢◌, ℕ, Bool, true, false, not, cond, List, [], ◌∷◌, Option, Some, None, ap, arith, length, refl, subst, sym}
use Rattle.std.specs.Prelude.{All, AllPairs, is_some, option_map}
use Rattle.std.specs.List.{list_all}
use Rattle.std.proofs.lemmas.Bool.{and_parts, eq-eqb, ne_eqb, not-true}
use Rattle.std.proofs.lemmas.Bool.Decides.{Decides-eqb}
use Rattle.std.proofs.lemmas.List.{length-map}
use Rattle.std.proofs.lemmas.List.Elements.{All-cons, All-head, All-nil, All-tail}
use Rattle.chr_semantics.specs.Footprint.{Ascends}
use Rattle.chr_semantics.specs.Match.{Row, fits}
use Rattle.chr_semantics.specs.Program.{Atom, Rule}
use Rattle.chr_semantics.specs.Search.{History, IsTuple, atom_of, can_fire, fired_before, first_tuple, ids_of, passes_guard, tuples}
use Rattle.chr_semantics.specs.Subst.{Subst}
use Rattle.chr_semantics.proofs.Lookups.{Ascends-ends, Ascends-resolved}
use Rattle.chr_semantics.proofs.TuplesLaw.{tuples_law}
use Rattle.chr_laws.proofs.Steps.{find_so, passes_some, tuples_so}
use Rattle.chr_rules.specs.RuleView.{rule_view}
use Rattle.chr_find.specs.declared.active.Active.{Active}
use Rattle.chr_base.specs.Agreement.{is_alive}
use Rattle.chr_base.specs.Entering.{CanEnter}
use Rattle.chr_base.specs.Model.{BaseModel, rows_of}
use Rattle.chr_base.specs.Searching.{FindsFirst}
use Rattle.chr_base.proofs.Searched.{looked_resolved, some_under}
use Rattle.chr_semantics.proofs.Plain.{some_same}
use Rattle.chr_laws.proofs.Risen.{below_next}

-- each row is found by its identity
later_looked : (x : Row) (all rows : List Row) (lo hi : ℕ) → x.0 < lo → Ascends lo rows hi → All (λ (r : Row). atom_of all r.0 ≡ Some r.1) rows → All (λ (r : Row). atom_of (x ∷ all) r.0 ≡ Some r.1) rows
later_looked x all [] lo hi lt h k = All-nil (λ (r : Row). atom_of (x ∷ all) r.0 ≡ Some r.1)
later_looked x all (r ∷ rows) lo hi lt h k =
    let le : lo ≤ r.0 = h.0 in
    All-cons (λ (r : Row). atom_of (x ∷ all) r.0 ≡ Some r.1) r rows
    (ap (λ (b : Bool). cond b (Some x.1) (atom_of all r.0)) (ne_eqb x.0 r.0 (λ e. apart e le)) ∙ All-head (λ (r : Row). atom_of all r.0 ≡ Some r.1) r rows k)
    (later_looked x all rows (r.0 + 1) hi (omega (arith, lt, le)) h.1 (All-tail (λ (r : Row). atom_of all r.0 ≡ Some r.1) r rows k))
  where
    apart : x.0 ≡ r.0 → lo ≤ r.0 → ⊥
    apart e le = omega (arith, e, le, lt)

pub all_looked : (rows : List Row) (lo hi : ℕ) → Ascends lo rows hi → All (λ (r : Row). atom_of rows r.0 ≡ Some r.1) rows
all_looked [] lo hi h = All-nil (λ (r : Row). atom_of [] r.0 ≡ Some r.1)
all_looked (r ∷ rows) lo hi h =
    All-cons (λ (x : Row). atom_of (r ∷ rows) x.0 ≡ Some x.1) r rows (ap (λ (b : Bool). cond b (Some r.1) (atom_of rows r.0)) (eq-eqb r.0 r.0 refl))
    (later_looked r rows rows (r.0 + 1) hi (omega arith) h.1 (all_looked rows (r.0 + 1) hi h.1))

-- a constraint lives where it does with the bindings applied
pub lives_resolved : (b : BaseModel) (i : ℕ) → is_some (atom_of (rows_of b) i) ≡ is_alive b.store i
lives_resolved b i = ap is_some (looked_resolved b.subst b.store.rows i) ∙ some_under b.subst (atom_of b.store.rows i)

all_alive : (b : BaseModel) (t : List Row) → All (λ (r : Row). atom_of (rows_of b) r.0 ≡ Some r.1) t → list_all (is_alive b.store) (ids_of t) ≡ true
all_alive b [] h = refl
all_alive b (r ∷ t) h =
    let here : is_alive b.store r.0 ≡ true = sym (lives_resolved b r.0) ∙ ap is_some (All-head (λ (r : Row). atom_of (rows_of b) r.0 ≡ Some r.1) r t h) in
    ap (λ (x : Bool). x && list_all (is_alive b.store) (ids_of t)) here ∙ all_alive b t (All-tail (λ (r : Row). atom_of (rows_of b) r.0 ≡ Some r.1) r t h)

-- the rule fires with these constraints, one for each head, which fit and live, differ, and have not fired so
pub record FirstRows {A : Type 0} (b : BaseModel) (s : Active A) (ids : List ℕ) : Type 0 where
  pub own : Atom
  pub living : atom_of (rows_of b) s.id.0 ≡ Some own
  pub rows : List Row
  pub first : first_tuple (rows_of b) b.entries.list s.number (rule_view s.rule.now) s.place (s.id.0, own) ≡ Some rows
  pub ids_are : ids_of rows ≡ ids
  pub matched : Subst
  pub fit : fits (rule_view s.rule.now).heads rows ≡ Some matched
  pub standing : All (λ (r : Row). atom_of (rows_of b) r.0 ≡ Some r.1) rows
  pub one_each : length ids ≡ length (rule_view s.rule.now).heads
  pub alive : list_all (is_alive b.store) ids ≡ true
  pub different : AllPairs (λ i j. i ≢ j) ids
  pub is_new : fired_before b.entries.list s.number ids ≡ false
  pub given : s.id.0 < b.store.next_id

module _ {A : Type 0} (b : BaseModel) (s : Active A) (ids : List ℕ) (ascends : Ascends 0 b.store.rows b.store.next_id) where
  abbrev rule : Rule
  rule = rule_view s.rule.now

  abbrev all : List Row
  all = rows_of b

  abbrev h : History
  h = b.entries.list

  with_tuple : (own : Atom) (t : List Row) → atom_of all s.id.0 ≡ Some own → first_tuple all h s.number rule s.place (s.id.0, own) ≡ Some t → ids ≡ ids_of t → FirstRows b s ids
  with_tuple own t living first is =
      let ts : List (List Row) = tuples all rule s.place (s.id.0, own) in
      let Standing : Row → Type 0 = λ (r : Row). atom_of all r.0 ≡ Some r.1 in
      let up : Ascends 0 all b.store.next_id = Ascends-resolved b.subst 0 b.store.next_id b.store.rows ascends in
      let stood = find_so (All Standing) (can_fire h s.number rule) ts t (tuples_so Standing all (s.id.0, own) s.place (length rule.heads) [] 0 living (all_looked all 0 b.store.next_id up)) first in
      let tuple = (find_so (IsTuple all rule s.place (s.id.0, own)) (can_fire h s.number rule) ts t (tuples_law.are_tuples all rule s.place (s.id.0, own)) first).1 in
      let parts = and_parts (passes_guard rule (fits rule.heads t)) (not (fired_before h s.number (ids_of t))) stood.0 in
      let fitted = passes_some rule (fits rule.heads t) parts.0 in
      let counted : length (ids_of t) ≡ length t = length-map t (λ (r : Row). r.0) in
      record {
        own = own;
        living = living;
        rows = t;
        first = first;
        ids_are = sym is;
        matched = fitted.0;
        fit = fitted.1;
        standing = stood.1;
        one_each = omega (arith, ap length is, counted, tuple.one_each);
        alive = ap (list_all (is_alive b.store)) is ∙ all_alive b t stood.1;
        different = subst (λ (is : List ℕ). AllPairs (λ i j. i ≢ j) is) (sym is) tuple.different;
        is_new = ap (fired_before h s.number) is ∙ not-true (fired_before h s.number (ids_of t)) parts.1;
        given = below_next 0 b.store.next_id s.id.0 all own up living;
      }

  -- so it is of what the search finds for a constraint that lives
  pub first_rows : is_alive b.store s.id.0 ≡ true → FindsFirst b s (Some ids) → FirstRows b s ids
  first_rows lives found = by_atom (atom_of all s.id.0) refl
    where
      by_tuple : (own : Atom) (o : Option (List Row)) → atom_of all s.id.0 ≡ Some own → first_tuple all h s.number rule s.place (s.id.0, own) ≡ o → Some ids ≡ option_map ids_of o → FirstRows b s ids
      by_tuple own None living first e = cc
      by_tuple own (Some t) living first e = with_tuple own t living first (some_same ids (ids_of t) e)

      by_atom : (o : Option Atom) → atom_of all s.id.0 ≡ o → FirstRows b s ids
      by_atom None e = let there = lives_resolved b s.id.0 in let none = ap is_some e in cc
      by_atom (Some own) e = by_tuple own (first_tuple all h s.number rule s.place (s.id.0, own)) e refl (found own e)

  pub can_enter : is_alive b.store s.id.0 ≡ true → FindsFirst b s (Some ids) → CanEnter b (record { rule = s.number; ids = ids })
  can_enter lives found =
      let known = first_rows lives found in
      record { alive = known.alive; different = known.different; is_new = known.is_new }
