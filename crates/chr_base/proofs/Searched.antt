-- What a table that is fresh has of the constraints and the history of its base.
use Rattle.std.proofs.Common.{◌≡◌, ◌∙◌, ◌+◌, ◌==◌, ℕ, Bool, true, false, cond, List, [], ◌∷◌, Option, Some, None, Result, Ok, Err, Vec, ap, arith, map, refl, subst, sym}
use Rattle.std.specs.Prelude.{All, IfOk, is_some}
use Rattle.std.proofs.lemmas.List.Elements.{All-weaker}
use Rattle.std.specs.declared.alloc.AllocError.{AllocError}
use Rattle.chr_semantics.specs.Match.{Row, fits}
use Rattle.chr_semantics.specs.Program.{Atom, Rule}
use Rattle.chr_semantics.specs.Search.{atom_of, ids_of}
use Rattle.chr_semantics.specs.State.{goal, resolved_atom}
use Rattle.chr_semantics.specs.Step.{body_of}
use Rattle.std.proofs.lemmas.Option.{none-some}
use Rattle.chr_semantics.proofs.Ground.{ground_stays_all}
use Rattle.chr_semantics.specs.Subst.{Subst, value_at}
use Rattle.chr_semantics.specs.Tree.{Trees, is_ground_trees}
use Rattle.chr_semantics.specs.Tries.{capped, tried_tuples}
use Rattle.chr_rules.specs.RuleView.{goal_view, rule_view}
use Rattle.chr_rules.specs.declared.goal.Goal.{Goal}
use Rattle.chr_base.specs.Standing.{AreStanding}
use Rattle.chr_find.specs.Finding as table
use Rattle.chr_find.specs.Finding.{HasTried}
use Rattle.chr_find.specs.Shown.{AllOver, Rises}
use Rattle.chr_find.specs.TableView.{HasRows, atom_at, lives}
use Rattle.chr_find.specs.declared.active.Active.{Active}
use Rattle.chr_find.specs.declared.active.Cursor.{Cursor}
use Rattle.chr_find.specs.declared.tried.Tried.{Tried}
use Rattle.chr_base.specs.Agreement.{is_alive, under}
use Rattle.chr_base.specs.BaseView.{IsFresh, base_view}
use Rattle.chr_base.specs.Model.{rows_of}
use Rattle.chr_base.specs.Searching.{FindsFirst, FindsNext, IsBodyFor, IsTried, occurrence_of}
use Rattle.chr_base.specs.declared.base.Base.{Base}
use Rattle.chr_semantics.specs.Profile.{Count, counted_of}
use Rattle.chr_semantics.specs.Trail.{partial_lists}

over_resolved : (s : Subst) (n : ℕ) (rows : List Row) → AllOver n rows → AllOver n (map (λ (r : Row). (r.0, resolved_atom s r.1)) rows)
over_resolved s n [] h = tt
over_resolved s n (r ∷ rows) h = (h.0, over_resolved s n rows h.1)

rises_resolved : (s : Subst) (rows : List Row) → Rises rows → Rises (map (λ (r : Row). (r.0, resolved_atom s r.1)) rows)
rises_resolved s [] h = tt
rises_resolved s (r ∷ rows) h = (over_resolved s r.0 rows h.0, rises_resolved s rows h.1)

-- a constraint with the bindings applied is looked up
pub looked_resolved : (s : Subst) (rows : List Row) (i : ℕ) → atom_of (map (λ (r : Row). (r.0, resolved_atom s r.1)) rows) i ≡ under s (atom_of rows i)
looked_resolved s [] i = refl
looked_resolved s (r ∷ rows) i = by (r.0 == i) (looked_resolved s rows i)
  where
    by : (b : Bool) → atom_of (map (λ (r : Row). (r.0, resolved_atom s r.1)) rows) i ≡ under s (atom_of rows i)
        → cond b (Some (resolved_atom s r.1)) (atom_of (map (λ (r : Row). (r.0, resolved_atom s r.1)) rows) i) ≡ under s (cond b (Some r.1) (atom_of rows i))
    by true e = refl
    by false e = e

pub some_under : (s : Subst) (o : Option Atom) → is_some (under s o) ≡ is_some o
some_under s None = refl
some_under s (Some a) = refl

module _ {A : Type 0} (b : Base A) (fresh : IsFresh b) where
  table_atom : (i : ℕ) → atom_at b.table i ≡ under b.bindings.subst (atom_of (base_view b).store.rows i)
  table_atom i = b.agrees.resolved fresh.resolved i

  pub table_rows : HasRows b.table (rows_of (base_view b))
  table_rows = record {
    rises = rises_resolved b.bindings.subst (base_view b).store.rows b.agrees.rises;
    same = λ i. looked_resolved b.bindings.subst (base_view b).store.rows i ∙ sym (table_atom i);
  }

  pub table_lives : (i : ℕ) → lives b.table i ≡ is_alive (base_view b).store i
  table_lives i = ap is_some (table_atom i) ∙ some_under b.bindings.subst (atom_of (base_view b).store.rows i)

  table_own : (i : ℕ) (a : Atom) → atom_of (rows_of (base_view b)) i ≡ Some a → atom_at b.table i ≡ Some a
  table_own i a e = sym (table_rows.same i) ∙ e

  -- what a search of the table finds
  pub found_first : (s : Active A) (told now : ℕ) (found : Option (List ℕ)) → table.FindsFirst (base_view b).entries.list b.table s found told now → FindsFirst (base_view b) s found
  found_first s told now found f a e = (f (rows_of (base_view b)) table_rows a (table_own s.id.0 a e)).0

  pub found_next : (s : Active A) (at : Cursor) (found : Option (List ℕ)) → table.FindsNext (base_view b).entries.list b.table s at found → FindsNext (base_view b) s at found
  found_next s at found f a e = f (rows_of (base_view b)) table_rows a (table_own s.id.0 a e)

  -- one that was stored without variables stands in the table as it is in the store
  pub ground_stands : (i : ℕ) (a : Atom) → Some a ≡ atom_of (base_view b).store.rows i → is_ground_trees a.args ≡ true → Some a ≡ atom_at b.table i
  ground_stands i a there ground =
      let same : resolved_atom b.bindings.subst a ≡ a = ap (λ (ts : Trees). record a { args = ts }) (ground_stays_all (value_at b.bindings.subst) a.args ground) in
      sym (table_atom i ∙ (ap (under b.bindings.subst) (sym there) ∙ ap Some same))

  -- what does not stand there is nothing to search for
  pub found_none : (s : Active A) → None ≡ atom_at b.table s.id.0 → FindsFirst (base_view b) s None
  found_none s none a e = absurd (none-some a (none ∙ table_own s.id.0 a e))

  -- how many lists it looks at
  counted_some : (f : Count) (s : Active A) (a : Atom) → Some a ≡ atom_at b.table s.id.0
      → capped (f (rows_of (base_view b)) (base_view b).entries.list s.number (rule_view s.rule.now) s.place (s.id.0, a)) ≡ counted_of f (rows_of (base_view b)) (base_view b).entries.list s.id.0 (occurrence_of s) (atom_of (rows_of (base_view b)) s.id.0)
  counted_some f s a there = sym (ap (counted_of f (rows_of (base_view b)) (base_view b).entries.list s.id.0 (occurrence_of s)) (table_rows.same s.id.0 ∙ sym there))

  pub tried_some : (s : Active A) (tried : Tried) (a : Atom) → HasTried (base_view b).entries.list b.table s tried → Some a ≡ atom_at b.table s.id.0 → IsTried (base_view b) s tried
  tried_some s tried a f there =
      let both = f (rows_of (base_view b)) table_rows a (sym there) in
      (both.0 ∙ counted_some tried_tuples s a there, both.1 ∙ counted_some partial_lists s a there)

  counted_none : (f : Count) (s : Active A) → None ≡ atom_at b.table s.id.0 → 0 ≡ counted_of f (rows_of (base_view b)) (base_view b).entries.list s.id.0 (occurrence_of s) (atom_of (rows_of (base_view b)) s.id.0)
  counted_none f s none = sym (ap (counted_of f (rows_of (base_view b)) (base_view b).entries.list s.id.0 (occurrence_of s)) (table_rows.same s.id.0 ∙ sym none))

  pub tried_none : (s : Active A) (tried : Tried) → tried.lists ≡ 0 → tried.partial ≡ 0 → None ≡ atom_at b.table s.id.0 → IsTried (base_view b) s tried
  tried_none s tried lists partial none = (lists ∙ counted_none tried_tuples s none, partial ∙ counted_none partial_lists s none)

  -- what does not live does not stand in the table
  pub found_dead : (i : ℕ) → atom_of (base_view b).store.rows i ≡ None → atom_at b.table i ≡ None
  found_dead i dead = table_atom i ∙ ap (under b.bindings.subst) dead

module _ {A : Type 0} (b : Base A) (fresh : IsFresh b) where
  -- rows of the base stand in its table
  standing_in : (t : List Row) → All (λ (r : Row). atom_of (rows_of (base_view b)) r.0 ≡ Some r.1) t → AreStanding b.table t
  standing_in t h = All-weaker (λ (r : Row). atom_of (rows_of (base_view b)) r.0 ≡ Some r.1) (λ (r : Row). atom_at b.table r.0 ≡ Some r.1) (λ r e. sym ((table_rows b fresh).same r.0) ∙ e) t h

  -- the body of a rule that fires with rows of the base
  pub built_body : (rule : Rule) (ids : List ℕ) (next : ℕ) (r : Result (Vec (Goal A) A) AllocError) → next ≡ (base_view b).next_var
      → IfOk r (λ built. (t : List Row) → ids_of t ≡ ids → AreStanding b.table t → (m : Subst) → fits rule.heads t ≡ Some m → map (λ g. goal (goal_view g)) built.items ≡ body_of rule t next)
      → IfOk r (λ built. IsBodyFor (base_view b) rule ids (map (λ g. goal (goal_view g)) built.items))
  built_body rule ids next (Ok built) is h = λ t same standing m fit. h t same (standing_in t standing) m fit ∙ ap (body_of rule t) is
  built_body rule ids next (Err e) is h = tt
