-- Bookmarks after changes of the base.
use Rattle.std.proofs.Common.{◌≡◌, ◌∙◌, ◌<◌, ◌≤◌, ℕ, Bool, true, false, not, nat_lt, List, [], Some, Result, Ok, Err, ap, refl, subst, sym, arith, length}
use Rattle.std.specs.Prelude.{Contains, OnErr, OnOk, option_map, slice_get}
use Rattle.std.specs.List.{fold}
use Rattle.std.proofs.lemmas.Bool.Decides.{Decides-ltb}
use Rattle.std.proofs.lemmas.List.Elements.{All-weaker}
use Rattle.chr_semantics.proofs.CursorLaw.{cursor_law}
use Rattle.chr_semantics.specs.Changes.{added, entered, removed, woken}
use Rattle.chr_semantics.specs.Cursor.{IsGrown, IsSpent, is_new}
use Rattle.chr_semantics.specs.Footprint.{Ascends}
use Rattle.chr_semantics.specs.Match.{Row}
use Rattle.chr_semantics.specs.Program.{Atom, Program, Rule}
use Rattle.chr_semantics.specs.Search.{atom_of, first_tuple, ids_of}
use Rattle.chr_semantics.specs.Subst.{Solves, Subst, value_at}
use Rattle.chr_find.specs.First.{IsFirst}
use Rattle.chr_base.specs.Model.{BaseModel, rows_of}
use Rattle.chr_base.proofs.Grown.{fired_entered, grown_entered}
use Rattle.chr_base.proofs.Parts.{ArePart, contains_before, ground_rows, increasing, looked_before, removals_left}
use Rattle.chr_base.specs.Bookmarks.{AreAhead, IsAhead}
use Rattle.chr_base.specs.declared.bookmark.Bookmark.{Bookmark}

-- no identity is taken back, what had fired has fired, and of the constraints whose identities were given there is no other than before
record IsLater (b c : BaseModel) : Type 0 where
  pub next : b.store.next_id ≤ c.store.next_id
  pub grown : (r : ℕ) → IsGrown b.entries.list c.entries.list r
  pub each : (x : Row) → Contains (rows_of c) x → x.0 < b.store.next_id → Contains (rows_of b) x
  pub same : (i : ℕ) (a : Atom) → i < b.store.next_id → atom_of (rows_of c) i ≡ Some a → atom_of (rows_of b) i ≡ Some a

old_below : (from next x : ℕ) → from ≤ next → is_new from x ≡ false → x < next
old_below from next x le e = by (nat_lt x from) refl e
  where
    by : (b : Bool) → nat_lt x from ≡ b → not b ≡ false → x < next
    by true lt f = let below : x < from = (Decides-ltb x from).0 lt in omega (arith, below, le)
    by false lt f = cc

module _ (rules : Program) where
  -- none
  pub ahead_none : (b : BaseModel) (bookmarks : List Bookmark) → bookmarks ≡ [] → AreAhead rules b bookmarks
  ahead_none b bookmarks none = λ k m lt. absurd (omega (arith, lt, ap length none))

  kept_bookmark : (b c : BaseModel) → IsLater b c → (m : Bookmark) → IsAhead rules b m → IsAhead rules c m
  kept_bookmark b c l m h = record {
    given = omega (arith, h.given, l.next);
    from = omega (arith, h.from, l.next);
    ahead = λ rule is a e.
        cursor_law.kept (rows_of b) (rows_of c) b.entries.list c.entries.list m.number rule m.place (m.id.0, a) m.cursor.after m.cursor.from
        (h.ahead rule is a (l.same m.id.0 a h.given e)) (l.grown m.number)
        (λ x d old. l.each x d (old_below m.cursor.from b.store.next_id x.0 h.from old));
  }

  kept_bookmarks : (b c : BaseModel) (bookmarks : List Bookmark) → IsLater b c → AreAhead rules b bookmarks → AreAhead rules c bookmarks
  kept_bookmarks b c bookmarks l h = All-weaker (IsAhead rules b) (IsAhead rules c) (kept_bookmark b c l) bookmarks h

  -- where the base is the same
  pub ahead_same : (b c : BaseModel) (bookmarks : List Bookmark) → c ≡ b → AreAhead rules b bookmarks → AreAhead rules c bookmarks
  ahead_same b c bookmarks same h = subst (λ (d : BaseModel). AreAhead rules d bookmarks) (sym same) h

  -- where a constraint was added
  pub ahead_added : (b c : BaseModel) (a : Atom) (bookmarks : List Bookmark) → c ≡ record b { store = added b.store a } → AreAhead rules b bookmarks → AreAhead rules c bookmarks
  ahead_added b c a bookmarks is h =
      ahead_same (record b { store = added b.store a }) c bookmarks is
      (kept_bookmarks b (record b { store = added b.store a }) bookmarks
      (record {
        next = omega arith;
        grown = λ r ids e. e;
        each = λ x d lt. contains_before b.subst b.store.next_id a b.store.rows x d lt;
        same = λ i x lt e. looked_before b.subst b.store.next_id i a x b.store.rows lt e;
      })
      h)

  -- and where it was, or memory was refused
  pub ahead_tried : {T E : Type 0} (r : Result T E) (b c : BaseModel) (a : Atom) (bookmarks : List Bookmark) → OnOk r (c ≡ record b { store = added b.store a }) → OnErr r (c ≡ b) → AreAhead rules b bookmarks → AreAhead rules c bookmarks
  ahead_tried (Ok x) b c a bookmarks is same h = ahead_added b c a bookmarks is h
  ahead_tried (Err e) b c a bookmarks is same h = ahead_same b c bookmarks same h

  -- where more is bound, and all constraints were ground
  pub ahead_bound : (b c : BaseModel) (s : Subst) (bookmarks : List Bookmark) → c ≡ record b { subst = s } → Solves (value_at s) b.subst → woken b.store b.subst ≡ [] → AreAhead rules b bookmarks → AreAhead rules c bookmarks
  ahead_bound b c s bookmarks is solves none h =
      let rows : rows_of (record b { subst = s }) ≡ rows_of b = ground_rows b.subst s b.store.rows solves none in
      ahead_same (record b { subst = s }) c bookmarks is
      (kept_bookmarks b (record b { subst = s }) bookmarks
      (record {
        next = omega arith;
        grown = λ r ids e. e;
        each = λ x d lt. subst (λ (l : List Row). Contains l x) rows d;
        same = λ i a lt e. ap (λ (l : List Row). atom_of l i) (sym rows) ∙ e;
      })
      h)

-- what a firing leaves
abbrev pub fired_base : BaseModel → ℕ → List ℕ → List ℕ → ℕ → BaseModel
fired_base b r ids left next = record b { store = fold removed b.store left; entries = entered b.entries r ids; next_var = next }

module _ (rules : Program) (b : BaseModel) (left : List ℕ) (next : ℕ) (up : Ascends 0 b.store.rows b.store.next_id) where
  next_same : (fold removed b.store left).next_id ≡ b.store.next_id
  next_same = (removals_left b.subst b.store.next_id b.store left up).0

  part : (r : ℕ) (ids : List ℕ) → ArePart (rows_of (fired_base b r ids left next)) (rows_of b)
  part r ids = (removals_left b.subst b.store.next_id b.store left up).1

  -- where constraints were removed
  pub ahead_left : (c : BaseModel) (bookmarks : List Bookmark) → c ≡ record b { store = fold removed b.store left } → AreAhead rules b bookmarks → AreAhead rules c bookmarks
  ahead_left c bookmarks is h =
      ahead_same rules (record b { store = fold removed b.store left }) c bookmarks is
      (kept_bookmarks rules b (record b { store = fold removed b.store left }) bookmarks
      (record {
        next = omega (arith, next_same);
        grown = λ r ids e. e;
        each = λ x d lt. (part 0 []).each x d;
        same = λ i a lt e. (part 0 []).same i a e;
      })
      h)

  -- where a rule fired
  pub ahead_fired : (c : BaseModel) (r : ℕ) (ids : List ℕ) (bookmarks : List Bookmark) → c ≡ fired_base b r ids left next → AreAhead rules b bookmarks → AreAhead rules c bookmarks
  ahead_fired c r ids bookmarks is h =
      ahead_same rules (fired_base b r ids left next) c bookmarks is
      (kept_bookmarks rules b (fired_base b r ids left next) bookmarks
      (record {
        next = omega (arith, next_same);
        grown = grown_entered b.entries r ids;
        each = λ x d lt. (part r ids).each x d;
        same = λ i a lt e. (part r ids).same i a e;
      })
      h)

  -- and where it did, or memory was refused
  pub ahead_fired_or : {T E : Type 0} (o : Result T E) (c : BaseModel) (r : ℕ) (ids : List ℕ) (bookmarks : List Bookmark) → OnOk o (c ≡ fired_base b r ids left next) → OnErr o (c ≡ b) → AreAhead rules b bookmarks → AreAhead rules c bookmarks
  ahead_fired_or (Ok x) c r ids bookmarks is same h = ahead_fired c r ids bookmarks is h
  ahead_fired_or (Err e) c r ids bookmarks is same h = ahead_same rules b c bookmarks same h

  -- and the bookmark behind the list that it fired with
  pub ahead_behind : (c : BaseModel) (m : Bookmark) (rule : Rule) → c ≡ fired_base b m.number m.cursor.after left next → slice_get rules m.number ≡ Some rule → m.id.0 < b.store.next_id → m.cursor.from ≡ b.store.next_id
      → ((a : Atom) → atom_of (rows_of b) m.id.0 ≡ Some a → IsFirst (rows_of b) b.entries.list m.number rule m.place (m.id.0, a) (Some m.cursor.after)) → IsAhead rules c m
  ahead_behind c m rule is of_program given from found =
      subst (λ (d : BaseModel). IsAhead rules d m) (sym is)
      (record {
        given = omega (arith, next_same, given);
        from = omega (arith, next_same, from);
        ahead = λ q at a e.
            let same : rule ≡ q = cc (of_program, at) in
            subst (λ (w : Rule). IsSpent (rows_of d) d.entries.list m.number w m.place (m.id.0, a) ids m.cursor.from) same (spent a e);
      })
    where
      ids : List ℕ
      ids = m.cursor.after

      d : BaseModel
      d = fired_base b m.number ids left next

      first : (a : Atom) → atom_of (rows_of b) m.id.0 ≡ Some a → option_map ids_of (first_tuple (rows_of b) b.entries.list m.number rule m.place (m.id.0, a)) ≡ Some ids
      first a e = sym (found a e)

      spent : (a : Atom) → atom_of (rows_of d) m.id.0 ≡ Some a → IsSpent (rows_of d) d.entries.list m.number rule m.place (m.id.0, a) ids m.cursor.from
      spent a e =
          cursor_law.kept (rows_of b) (rows_of d) d.entries.list d.entries.list m.number rule m.place (m.id.0, a) ids m.cursor.from
          (cursor_law.set (rows_of b) b.entries.list d.entries.list m.number rule m.place (m.id.0, a) ids m.cursor.from (increasing b.subst 0 b.store.next_id b.store.rows up) (first a ((part m.number ids).same m.id.0 a e)) (fired_entered b.entries m.number ids) (grown_entered b.entries m.number ids m.number))
          (λ l f. f) (λ x c old. (part m.number ids).each x c)
