-- Tables that are taken of a state, as snapshots of it.
use Rattle.std.proofs.Common.{◌≡◌, ◌∙◌, ◌==◌, ◌≤◌, ◌+◌, ℕ, true, false, not, List, [], ◌∷◌, ap, arith, length, refl, subst, sym}
use Rattle.std.specs.List.{list_all}
use Rattle.std.specs.Prelude.{Option, Some, None, filter}
use Rattle.chr_semantics.specs.Footprint.{Ascends}
use Rattle.chr_semantics.specs.Match as semantics
use Rattle.chr_semantics.specs.Program as program
use Rattle.chr_semantics.specs.Program.{Atom, Occurrence}
use Rattle.chr_semantics.specs.Keys.{clashes}
use Rattle.chr_semantics.specs.Search.{History as Entries, atom_of, fired_before, has_number, ids_of, live_entries, rule_entries}
use Rattle.chr_semantics.specs.Snapshot as snapshots
use Rattle.chr_semantics.specs.Snapshot.{entries_at, rows_at}
use Rattle.chr_semantics.specs.State.{State, rows}
use Rattle.chr_semantics.specs.Subst.{Subst}
use Rattle.chr_semantics.specs.Tasks.{Task}
use Rattle.chr_store.specs.HistoryView.{entries_view}
use Rattle.chr_store.specs.StoreView.{store_view}
use Rattle.chr_store.specs.declared.history.History.{History}
use Rattle.chr_store.specs.declared.store.Store.{Store}
use Rattle.chr_store.proofs.SlotRows.{Ascends-rows}
use Rattle.chr_find.specs.Firings.{fired_in}
use Rattle.chr_find.specs.ScopeView.{IsScope, entries_kept, keeps_row, keeps_rule, rows_kept, rows_under}
use Rattle.chr_find.specs.Shown.{Rises}
use Rattle.chr_find.specs.SnapshotView.{IsTaken}
use Rattle.chr_find.specs.TableView.{atom_at}
use Rattle.chr_find.specs.Taking.{AreTakenOf, IsStateOf, IsTakenOf}
use Rattle.chr_find.specs.declared.firings.Firings.{Firings}
use Rattle.chr_find.specs.declared.scope.Scope.{Scope}
use Rattle.chr_find.specs.declared.scope.Scope.TheVariants.{Nothing, Rule, Whole}
use Rattle.chr_find.specs.declared.table.Table.{Table}
use Rattle.chr_find.proofs.TakenFirings.{all_kept, ids_under}
use Rattle.chr_find.proofs.TakenRows.{kept_ascends, none_past, rises}

none_kept : {X : Type 0} (xs : List X) → filter (λ (x : X). false) xs ≡ []
none_kept [] = refl
none_kept (x ∷ xs) = none_kept xs

module _ {A : Type 0} (st : Store A) (m : Subst) (h : History A) where
  abbrev pub stored : List semantics.Row
  stored = (store_view st).rows

  ascending : Ascends 1 stored ((store_view st).next_id)
  ascending =
      let n : 1 + length st.slots.items.items ≡ length st.slots.items.items + 1 = omega arith in
      subst (Ascends 1 stored) n (Ascends-rows 1 st.slots.items.items)

  module _ (scope : Scope A) (t : Table A) (is : IsTakenOf scope m (store_view st).rows t) where
    -- the next identity is free, and all after it
    pub taken_free : (i : ℕ) → (store_view st).next_id ≤ i → atom_at t i ≡ None
    taken_free i le = is.atoms i ∙ none_past 1 ((store_view st).next_id) i (rows_kept scope m stored) (kept_ascends scope m 1 ((store_view st).next_id) stored ascending) le

    -- the firings that are kept, and no others
    pub taken_firings : (f : Firings A) → AreTakenOf scope stored (entries_view h).list f → (l : Entries) → l ≡ entries_kept scope stored (entries_view h).list → (r : ℕ) (ids : List ℕ) → fired_before l r ids ≡ fired_in f r ids
    taken_firings f are l entries r ids = ap (λ (l : Entries). fired_before l r ids) entries ∙ sym (are r ids)

    -- it shows each snapshot of what is kept
    pub taken_is : (f : Firings A) → AreTakenOf scope stored (entries_view h).list f → (n : ℕ) (ts : List Task) (g : Option Atom) (q : snapshots.Snapshot) → q.rows ≡ rows_kept scope m stored → q.history ≡ entries_kept scope stored (entries_view h).list → q.next_id ≡ n → q.tasks ≡ ts → q.guest ≡ g → IsTaken t (fired_in f) n ts g q
    taken_is f are n ts g q same entries next tasks guest = record {
      rows = record {
        rises = subst Rises (sym same) (rises 1 ((store_view st).next_id) (rows_kept scope m stored) (kept_ascends scope m 1 ((store_view st).next_id) stored ascending));
        same = λ i. ap (λ (l : List semantics.Row). atom_of l i) same ∙ sym (is.atoms i);
      };
      history = λ r ids alive. taken_firings f are q.history entries r ids;
      next = next;
      tasks = tasks;
      guest = guest;
    }

  module _ (s : State) (of : IsStateOf st m h s) where
    pub rows_are : rows s ≡ rows_under m stored
    rows_are = ap (λ (u : Subst). rows_under u s.store) of.subst ∙ ap (rows_under m) of.store

    -- an identity lives under whatever bindings
    pub live_are : live_entries (rows s) s.history ≡ live_entries stored (entries_view h).list
    live_are =
        ap (λ (ids : List ℕ). filter (λ (f : ℕ × List ℕ). list_all (has_number ids) f.1) s.history) (ap ids_of rows_are ∙ ids_under m stored)
        ∙ ap (live_entries stored) of.history

    module _ (scope : Scope A) where
      -- all of it is kept
      pub whole_rows : ((c : semantics.Row) → keeps_row scope c ≡ true) → rows s ≡ rows_kept scope m stored
      whole_rows all = rows_are ∙ sym (all_kept (keeps_row scope) (rows_under m stored) all)

      pub whole_entries : ((n : ℕ) → keeps_rule scope n ≡ true) → live_entries (rows s) s.history ≡ entries_kept scope stored (entries_view h).list
      whole_entries all = live_are ∙ sym (all_kept (λ (f : ℕ × List ℕ). keeps_rule scope f.0) (live_entries stored (entries_view h).list) (λ f. all f.0))

    -- what an occurrence looks at is kept
    pub rows_of_scope : (o : Option Occurrence) (scope : Scope A) → IsScope o scope → rows_at s o ≡ rows_kept scope m stored
    rows_of_scope None Nothing is = sym (none_kept (rows_under m stored))
    rows_of_scope None (Rule n r) is = absurd is
    rows_of_scope None Whole is = absurd is
    rows_of_scope (Some o) Nothing is = absurd is
    rows_of_scope (Some o) Whole is = absurd is
    rows_of_scope (Some o) (Rule n r) is =
        ap (filter (λ (c : semantics.Row). not (clashes o.rule c))) rows_are
        ∙ ap (λ (l : program.Rule). filter (λ (c : semantics.Row). not (clashes l c)) (rows_under m stored)) (sym is.1)

    pub entries_of_scope : (o : Option Occurrence) (scope : Scope A) → IsScope o scope → entries_at s o ≡ entries_kept scope stored (entries_view h).list
    entries_of_scope None Nothing is = sym (none_kept (live_entries stored (entries_view h).list))
    entries_of_scope None (Rule n r) is = absurd is
    entries_of_scope None Whole is = absurd is
    entries_of_scope (Some o) Nothing is = absurd is
    entries_of_scope (Some o) Whole is = absurd is
    entries_of_scope (Some o) (Rule n r) is =
        ap (rule_entries o.number) live_are
        ∙ ap (λ (k : ℕ). filter (λ (f : ℕ × List ℕ). f.0 == k) (live_entries stored (entries_view h).list)) (sym is.0)
