use Rattle.std.proofs.Common.{◌∙◌, ◌++◌, ◌∷◌, ◌<◌, ◌==◌, ◌&&◌, [], List, ap, arith, cond, nat_lt, not}
use Rattle.std.specs.List.{list_any}
use Rattle.chr_store.specs.Counts.{count_at, last_at}
use Rattle.chr_store.specs.FiredLaws.{same_fired}
use Rattle.chr_store.specs.declared.fired.Fired.{Fired}
use Rattle.chr_store.proofs.FiredRows.{entered_as, fired_among}
use Rattle.chr_store.proofs.Stamped.{count_raised, last_raised}
use Rattle.chr_store.proofs.history.History.put.Goals as goal

pub returns-then-is_new-clause-is_new : goal.returns-then-is_new-clause-is_new
returns-then-is_new-clause-is_new g c =
    let old : List Fired = c.args.self.now.entries.keys in
    c.in_ok-is_new.ensures.added ∙ (ap (λ (f : Fired). not (list_any (same_fired f) old)) c.in_ok-entry.ensures ∙ ap not (fired_among c.args.fired old))

pub returns-else-is_new-clause-is_new : goal.returns-else-is_new-clause-is_new
returns-else-is_new-clause-is_new g c =
    let old : List Fired = c.args.self.now.entries.keys in
    c.in_ok-is_new.ensures.added ∙ (ap (λ (f : Fired). not (list_any (same_fired f) old)) c.in_ok-entry.ensures ∙ ap not (fired_among c.args.fired old))

pub returns-then-is_new-clause-ok : goal.returns-then-is_new-clause-ok
returns-then-is_new-clause-ok g c =
    let old : List Fired = c.args.self.now.entries.keys in
    entered_as c.args.fired old c.insert_full.new.self.keys (count_at c.args.self.now.stamps.stamps.items) (count_at c.raise.new.self.stamps.items) c.in_ok-is_new.is_new
    (c.in_ok-is_new.ensures.added ∙ ap (λ (f : Fired). not (list_any (same_fired f) old)) c.in_ok-entry.ensures)
    (c.in_ok-is_new.ensures.keys ∙ ap (λ (f : Fired). cond (list_any (same_fired f) old) old (old ++ f ∷ [])) c.in_ok-entry.ensures)
    (λ n. rw c.if-is_new.true (count_raised c.args.fired.rule n (count_at c.args.self.now.stamps.stamps.items n) (count_at c.room.new.self.stamps.items n) (last_at c.room.new.self.stamps.items n) c.len.result (count_at c.raise.new.self.stamps.items n) (c.room.ensures.counts n) (omega (arith, c.room.ensures.lasts n, c.args.self.now.up_to n, c.len.ensures, rw c.if-is_new.true at c.in_ok-is_new.ensures.len)) (c.raise.ensures.counts n)))

pub returns-else-is_new-clause-ok : goal.returns-else-is_new-clause-ok
returns-else-is_new-clause-ok g c =
    let old : List Fired = c.args.self.now.entries.keys in
    entered_as c.args.fired old c.insert_full.new.self.keys (count_at c.args.self.now.stamps.stamps.items) (count_at c.room.new.self.stamps.items) c.in_ok-is_new.is_new
    (c.in_ok-is_new.ensures.added ∙ ap (λ (f : Fired). not (list_any (same_fired f) old)) c.in_ok-entry.ensures)
    (c.in_ok-is_new.ensures.keys ∙ ap (λ (f : Fired). cond (list_any (same_fired f) old) old (old ++ f ∷ [])) c.in_ok-entry.ensures)
    (λ n. rw c.if-is_new.false (c.room.ensures.counts n ∙ omega arith))

pub invariant_of-self : goal.invariant_of-self
invariant_of-self g c = record { up_to = λ n. rw (c.room.ensures.lasts n) (c.args.self.now.up_to n) }

pub invariant_of-self-then-is_new : goal.invariant_of-self-then-is_new
invariant_of-self-then-is_new g c = record {
  up_to = λ n.
      let less : last_at c.room.new.self.stamps.items n < c.len.result = omega (arith, c.room.ensures.lasts n, c.args.self.now.up_to n, c.len.ensures, rw c.if-is_new.true at c.in_ok-is_new.ensures.len) in
      omega (arith, last_raised (c.args.fired.rule == n && nat_lt (last_at c.room.new.self.stamps.items n) c.len.result) _ _ _ less (c.raise.ensures.lasts n), c.len.ensures);
}

pub invariant_of-self-else-is_new : goal.invariant_of-self-else-is_new
invariant_of-self-else-is_new g c = record { up_to = λ n. omega (arith, c.room.ensures.lasts n, c.args.self.now.up_to n, rw c.if-is_new.false at c.in_ok-is_new.ensures.len) }
