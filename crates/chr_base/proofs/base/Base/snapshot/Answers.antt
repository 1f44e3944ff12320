use Rattle.std.proofs.Common.{ap, option_map, refl, subst, sym, ◌∙◌, ◌≤◌, ℕ}
use Rattle.std.proofs.lemmas.Result.{IfOk-weaker}
use Rattle.chr_semantics.specs.Snapshot.{snapshot_for}
use Rattle.chr_store.specs.Rows.{row_atom}
use Rattle.chr_find.specs.PendingFiringsView.{noted_in}
use Rattle.chr_find.specs.SnapshotView.{IsTaken, told_view, tasks_view}
use Rattle.chr_base.specs.Agreement.{under}
use Rattle.chr_base.specs.Sharing.{AreKept}
use Rattle.chr_base.proofs.Taken.{taken_is}
use Rattle.chr_base.proofs.base.Base.snapshot.Goals as goal

pub of-requires-clause-free : goal.of-requires-clause-free
of-requires-clause-free g c = λ i h.
    let b = c.args.self.now in
    b.agrees.resolved c.requires.fresh.resolved i
    ∙ ap (under b.bindings.subst) (b.agrees.given i (subst (λ (n : ℕ). n ≤ i) c.next.ensures h))

pub of-requires-clause-whole : goal.of-requires-clause-whole
of-requires-clause-whole g c = record { settled = c.requires.fresh.settled; all = c.requires.all }

pub of-requires-clause-settled : goal.of-requires-clause-settled
of-requires-clause-settled g c = subst AreKept c.in-Some.is c.requires.firings

pub returns : goal.returns
returns g c =
    let b = c.args.self.now in
    let f = c.in-Some.firings in
    let ts = tasks_view c.args.tasks.items in
    let guest = told_view c.args.guest in
    let resolved = option_map row_atom c.in_ok-resolved-in-Some.resolved in
    IfOk-weaker c.of.result _ _
    (λ shared says s of. says (snapshot_for s ts guest)
    (subst (λ (n : ℕ). IsTaken b.table (noted_in f) n ts resolved (snapshot_for s ts guest)) (sym c.next.ensures)
    (taken_is b c.requires.fresh f c.in-Some.is s of ts ts guest resolved refl c.in_ok-resolved-in-Some.ensures)))
    c.of.ensures
