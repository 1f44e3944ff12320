use Rattle.std.proofs.Common.{◌≡◌, ◌∙◌, ℕ}
use Rattle.chr_semantics.specs.Search.{atom_of}
use Rattle.chr_store.specs.StoreView.{store_view}
use Rattle.chr_find.specs.TableView.{atom_at}
use Rattle.chr_base.specs.Agreement.{under}
use Rattle.chr_base.proofs.Agreements.{agrees_fresh, agrees_same}
use Rattle.chr_base.proofs.Seen.{rises_seen, seen, seen_atoms, woken_seen}
use Rattle.chr_base.proofs.base.Base.refresh.Goals as goal

pub invariant_of-self : goal.invariant_of-self
invariant_of-self g c =
    let b = c.args.self.now in
    record { agrees = agrees_same _ _ _ _ _ b.agrees (atom_at c.rebind.new.self) c.in_err-woken.ensures.err; lends = b.lends; ahead = b.ahead }

pub invariant_of-self-2 : goal.invariant_of-self-2
invariant_of-self-2 g c =
    let b = c.args.self.now in
    record { agrees = agrees_fresh _ _ _ _ _ b.agrees (atom_at c.settle.new.self) (λ i. c.settle.ensures.same i ∙ c.in_ok-woken.ensures.atoms i); lends = b.lends; ahead = b.ahead }

pub returns-clause-woken : goal.returns-clause-woken
returns-clause-woken g c =
    let b = c.args.self.now in
    let s = b.bindings.subst in
    let m = store_view b.store in
    let at = atom_at b.table in
    let shown : (i : ℕ) → under s (at i) ≡ under s (atom_of m.rows i) = b.agrees.shown in
    c.in_ok-woken.ensures.woken (seen at m.rows) (record { rises = rises_seen at m.rows b.agrees.rises; same = seen_atoms s at m.rows shown }) ∙ woken_seen s at m b.agrees.rises shown
