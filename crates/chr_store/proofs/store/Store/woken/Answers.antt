use Rattle.std.proofs.Common.{◌≡◌, ◌∙◌, List, ap, take}
use Rattle.std.specs.Prelude.{filter}
use Rattle.std.proofs.lemmas.List.{take_all}
use Rattle.chr_semantics.specs.Search.{atom_of}
use Rattle.chr_store.specs.Numbers.{numbers}
use Rattle.chr_store.specs.Looks.{listed_ids}
use Rattle.chr_store.specs.SlotsView.{rows_in}
use Rattle.chr_store.specs.Waking.{wakes_atom}
use Rattle.chr_store.specs.declared.id.Id.{Id}
use Rattle.chr_store.specs.declared.lists.Look.TheVariants.{Open}
use Rattle.chr_store.proofs.SlotRows.{Ascends-rows}
use Rattle.chr_store.proofs.Woken.{woken_open}
use Rattle.chr_store.proofs.store.Store.woken.Goals as goal

pub returns : goal.returns
returns g c =
    let whole : take c.loop-id.id-index c.of-id-items.result.now ≡ c.of-id-items.result.now = take_all _ _ c.loop-id-test.false in
    let listed : numbers c.of-id-items.result.now ≡ listed_ids (rows_in c.args.self.now.slots) Open = c.of-id-items.ensures.ids ∙ c.args.self.now.listed Open in
    c.loop-id.invariant ∙ (ap (λ (l : List Id). filter (λ i. wakes_atom c.args.bindings.now.subst (atom_of (rows_in c.args.self.now.slots) i)) (numbers l)) whole
    ∙ (ap (filter (λ i. wakes_atom c.args.bindings.now.subst (atom_of (rows_in c.args.self.now.slots) i))) listed ∙ woken_open c.args.bindings.now.subst 1 _ (rows_in c.args.self.now.slots) (Ascends-rows 1 c.args.self.now.slots.items.items)))
