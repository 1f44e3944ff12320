use Rattle.std.proofs.Common.{arith, refl, add-zero}
use Rattle.std.proofs.lemmas.Bool.{le-ltb, lt-ltb}
use Rattle.chr_store.proofs.Stamped.{count_written, counted_read, counted_written, last_written, stamp_within, stamp_written}
use Rattle.chr_store.proofs.stamps.Stamps.raise.Goals as goal

pub index_mut-stamp-requires : goal.index_mut-stamp-requires
index_mut-stamp-requires g c = omega (arith, stamp_within c.args.self.now.stamps.items c.args.number c.requires.room, c.args.self.now.stamps.ok.0)

pub invariant_of-self : goal.invariant_of-self
invariant_of-self g c =
    let inside = stamp_within c.args.self.now.stamps.items c.args.number c.requires.room in
    let less = counted_read _ _ c.index_mut-stamp.result.now inside c.index_mut-stamp.ensures.value c.args.self.now.counted in
    record { counted = counted_written _ _ c.index_mut-stamp.result.now _ inside c.index_mut-stamp.ensures.value (omega (arith, less)) c.args.self.now.counted }

pub invariant_of-self-else-stamp-call : goal.invariant_of-self-else-stamp-call
invariant_of-self-else-stamp-call g c =
    let inside = stamp_within c.args.self.now.stamps.items c.args.number c.requires.room in
    let less = counted_read _ _ c.index_mut-stamp.result.now inside c.index_mut-stamp.ensures.value c.args.self.now.counted in
    record { counted = counted_written _ _ c.index_mut-stamp.result.now _ inside c.index_mut-stamp.ensures.value less c.args.self.now.counted }

pub returns-then-stamp-call-clause-counts : goal.returns-then-stamp-call-clause-counts
returns-then-stamp-call-clause-counts g c = count_written _ _ c.index_mut-stamp.result.now _ (stamp_within _ _ c.requires.room) c.index_mut-stamp.ensures.value c.args.call (rw (lt-ltb _ _ c.if-stamp-call.true) refl)

pub returns-then-stamp-call-clause-lasts : goal.returns-then-stamp-call-clause-lasts
returns-then-stamp-call-clause-lasts g c = last_written _ _ c.index_mut-stamp.result.now _ (stamp_within _ _ c.requires.room) c.index_mut-stamp.ensures.value c.args.call (rw (lt-ltb _ _ c.if-stamp-call.true) refl)

pub returns-then-stamp-call-clause-kept : goal.returns-then-stamp-call-clause-kept
returns-then-stamp-call-clause-kept g c = stamp_written _ _ c.index_mut-stamp.result.now _ (stamp_within _ _ c.requires.room) c.index_mut-stamp.ensures.value

pub returns-else-stamp-call-clause-counts : goal.returns-else-stamp-call-clause-counts
returns-else-stamp-call-clause-counts g c = count_written _ _ c.index_mut-stamp.result.now _ (stamp_within _ _ c.requires.room) c.index_mut-stamp.ensures.value c.args.call (rw (le-ltb _ _ c.if-stamp-call.false, add-zero) refl)

pub returns-else-stamp-call-clause-lasts : goal.returns-else-stamp-call-clause-lasts
returns-else-stamp-call-clause-lasts g c = last_written _ _ c.index_mut-stamp.result.now _ (stamp_within _ _ c.requires.room) c.index_mut-stamp.ensures.value c.args.call (rw (le-ltb _ _ c.if-stamp-call.false) refl)

pub returns-else-stamp-call-clause-kept : goal.returns-else-stamp-call-clause-kept
returns-else-stamp-call-clause-kept g c = stamp_written _ _ c.index_mut-stamp.result.now _ (stamp_within _ _ c.requires.room) c.index_mut-stamp.ensures.value
