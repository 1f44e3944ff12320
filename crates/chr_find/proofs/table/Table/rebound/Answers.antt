use Rattle.std.proofs.Common.{[], ◌≡◌, ◌∙◌, ◌++◌, ◌<◌, ◌≤◌, List, Option, ap, arith, length, subst, sym, take, ℕ}
use Rattle.std.proofs.lemmas.List.{take_all}
use Rattle.chr_map.specs.Order.{Ascends}
use Rattle.chr_semantics.specs.Match as semantics
use Rattle.chr_semantics.specs.Program.{Atom}
use Rattle.chr_find.specs.IdRows.{id_cmp}
use Rattle.chr_find.specs.IndexKeys.{rows_in}
use Rattle.chr_find.specs.RowSpans.{span_rows}
use Rattle.chr_find.specs.PlanView.{lookups_of}
use Rattle.chr_find.specs.Rebinding.{IsMade, open_ids, standing_rows}
use Rattle.chr_find.specs.Shown.{atom_in, walk}
use Rattle.chr_find.specs.TableView.{atom_at}
use Rattle.chr_find.specs.declared.bucket.Bucket.TheVariants.{Open}
use Rattle.chr_find.specs.declared.constraint.Constraint.{Constraint}
use Rattle.std.specs.Prelude.{vec_len}
use Rattle.std.proofs.lemmas.Bool.Decides.{Decides-eqb}
use Rattle.chr_find.proofs.GroundRows.{none_open}
use Rattle.chr_find.proofs.KeyedTables.{room_within}
use Rattle.chr_find.proofs.MadeWhole.{before_all, made_atoms, open_all, open_looked, open_rows, standing_next, stands_open}
use Rattle.chr_find.proofs.table.Table.rebound.Goals as goal
use Rattle.std.proofs.lemmas.Bool.{not-false}
use Rattle.chr_semantics.proofs.Lists.{no_items}

pub loop-standing-preserved : goal.loop-standing-preserved
loop-standing-preserved g c =
    let t = c.args.self.now in
    let s = c.args.bindings.now.subst in
    let l : List (Constraint g.row.A.Denot) = c.deref-standing-items.result.now in
    let k = c.loop-standing.standing-index in
    let x : Constraint g.row.A.Denot = c.standing-item.result in
    let all : standing_rows l ≡ walk Open t.index.rows =
    ap standing_rows c.deref-standing-items.ensures.value
    ∙ (c.in_ok-collect.ensures ∙ (ap (λ (old : List (Constraint g.row.A.Denot)). standing_rows old ++ span_rows c.rows.result) c.new-rows.ensures.items ∙ c.rows.ensures.rows))
    in
    let up : Ascends id_cmp (rows_in t.index.rows Open) = c.rows.ensures.ascending in
    let lt : k < length l = omega (arith, c.loop-standing-test.true) in
    let stands = stands_open t c.requires up l k x all lt c.standing-item.is in
    subst (λ (rows : List semantics.Row). IsMade s (atom_at t) rows c.add.new.self.replaced.items c.add.new.self.woken.items) (sym (standing_next l k x lt c.standing-item.is))
    (c.in_ok-add.ensures (atom_at t) (standing_rows (take k l)) c.loop-standing.invariant (before_all t c.requires up l k x all lt c.standing-item.is) stands.0 stands.1)

pub returns-clause-ok : goal.returns-clause-ok
returns-clause-ok g c =
    let t = c.args.self.now in
    let n = c.room.new.self in
    let s = c.args.bindings.now.subst in
    let l : List (Constraint g.row.A.Denot) = c.deref-standing-items.result.now in
    let k = c.loop-standing.standing-index in
    let all : standing_rows l ≡ walk Open t.index.rows =
    ap standing_rows c.deref-standing-items.ensures.value
    ∙ (c.in_ok-collect.ensures ∙ (ap (λ (old : List (Constraint g.row.A.Denot)). standing_rows old ++ span_rows c.rows.result) c.new-rows.ensures.items ∙ c.rows.ensures.rows))
    in
    let up : Ascends id_cmp (rows_in t.index.rows Open) = c.rows.ensures.ascending in
    let over : length l ≤ k = omega (arith, c.loop-standing-test.false) in
    let same : atom_at t ≡ atom_at n = λ i x. sym (c.room.ensures.same x) i in
    let rs = c.loop-standing.rebound.replaced.items in
    let ids = c.loop-standing.rebound.woken.items in
    let made : IsMade s (atom_at n) (walk Open t.index.rows) rs ids =
    subst (λ (f : ℕ → Option Atom). IsMade s f (walk Open t.index.rows) rs ids) same
    (subst (λ (rows : List semantics.Row). IsMade s (atom_at t) rows rs ids) (ap standing_rows (take_all k l over) ∙ all) c.loop-standing.invariant)
    in
    record {
      room = room_within (vec_len c.loop-standing.rebound.replaced) c.len.result n (omega (arith, c.len.ensures)) c.in_ok-room.ensures.ok;
      there = made.replaces;
      atoms = made_atoms s (atom_at n) (walk Open t.index.rows) rs ids made (lookups_of t.index.plan) (λ i. open_looked t c.requires up i ∙ ap (atom_in Open (lookups_of t.index.plan)) (sym (c.room.ensures.same i)));
      woken = λ rows has. made.woken ∙ (ap (open_ids s) (open_rows t c.requires up rows (record { rises = has.rises; same = λ i. has.same i ∙ c.room.ensures.same i })) ∙ open_all s (lookups_of t.index.plan) rows);
    }

pub invariant_of-self : goal.invariant_of-self
invariant_of-self g c =
    let t = c.args.self.now in
    let all : standing_rows c.collect.new.rows.items ≡ walk Open t.index.rows =
    c.in_ok-collect.ensures ∙ (ap (λ (old : List (Constraint g.row.A.Denot)). standing_rows old ++ span_rows c.rows.result) c.new-rows.ensures.items ∙ c.rows.ensures.rows)
    in
    let up : Ascends id_cmp (rows_in t.index.rows Open) = c.rows.ensures.ascending in
    record {
      shown = t.shown;
      apart = t.apart;
      listed = t.listed;
      ground = λ none.
          let no_length : vec_len c.collect.new.rows ≡ 0 = (Decides-eqb (vec_len c.collect.new.rows) 0).0 (sym c.is_empty.ensures ∙ not-false c.is_empty.result none) in
          let left : c.collect.new.rows.items ≡ [] = no_items c.collect.new.rows.items (omega (arith, c.collect.new.rows.ok.0, no_length)) in
          none_open t c.requires up (sym all ∙ ap standing_rows left);
    }

pub returns-in_err-room-clause-all : goal.returns-in_err-room-clause-all
returns-in_err-room-clause-all g c i = c.room.ensures.own i (c.requires.all i)

pub returns-clause-all : goal.returns-clause-all
returns-clause-all g c i = c.room.ensures.own i (c.requires.all i)
