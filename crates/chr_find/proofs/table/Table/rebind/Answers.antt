use Rattle.std.proofs.Common.{◌∙◌, ap, sym}
use Rattle.std.specs.Prelude.{option_map}
use Rattle.chr_semantics.specs.Search.{atom_of}
use Rattle.chr_semantics.specs.State.{resolved_atom}
use Rattle.chr_store.specs.Numbers.{numbers}
use Rattle.chr_find.specs.TableView.{atom_at}
use Rattle.chr_find.proofs.GroundRows.{ground_alike, ground_none_open, ground_stays}
use Rattle.chr_find.proofs.table.Table.rebind.Goals as goal

pub returns-then-not-self-clause-atoms : goal.returns-then-not-self-clause-atoms
returns-then-not-self-clause-atoms g c = let t = c.args.self.now in ground_stays c.args.bindings.now.subst (atom_at t) (t.ground c.if-not-self.true)

pub returns-then-not-self-clause-woken : goal.returns-then-not-self-clause-woken
returns-then-not-self-clause-woken g c rows has =
    let t = c.args.self.now in
    ap numbers c.new.ensures.items ∙ sym (ground_none_open c.args.bindings.now.subst rows has.rises (ground_alike (atom_at t) (atom_of rows) has.same (t.ground c.if-not-self.true)))

pub returns-clause-atoms : goal.returns-clause-atoms
returns-clause-atoms g c i =
    c.replace_all.ensures i
    ∙ (c.in_ok-replaced.ensures.ok.atoms i ∙ ap (option_map (resolved_atom c.args.bindings.now.subst)) (c.rebound.ensures.same i ∙ c.settle_all.ensures.same i))

pub returns-clause-woken : goal.returns-clause-woken
returns-clause-woken g c rows has = c.in_ok-replaced.ensures.ok.woken rows (record { rises = has.rises; same = λ i. has.same i ∙ sym (c.rebound.ensures.same i ∙ c.settle_all.ensures.same i) })
