use Rattle.std.proofs.Common.{◌≡◌, ◌∙◌, true, List, [], ℕ, ap, refl, sym}
use Rattle.std.specs.Prelude.{Option}
use Rattle.std.proofs.lemmas.Result.{on_ok_weaker}
use Rattle.chr_keys.specs.IdSets.{ids_set}
use Rattle.chr_keys.specs.Lists.{ids_in}
use Rattle.chr_keys.proofs.IdLists.{set_only}
use Rattle.chr_keys.proofs.KeyedLists.{set_edited, set_put, set_removed}
use Rattle.chr_keys.proofs.key_lists.KeyLists.set.Goals as goal

pub returns-in_ok-one-in-None-clause-ok : goal.returns-in_ok-one-in-None-clause-ok
returns-in_ok-one-in-None-clause-ok g c =
    let there : c.args.is_there ≡ true = c.if-is_there.true in
    let one : c.in_ok-one-in-None.field-0 ≡ ids_set c.args.id.0 c.args.is_there [] = rw there c.in_ok-one-in-None.ensures in
    on_ok_weaker c.put.result
    (set_put c.args.self.now.lists c.put.new.self c.args.key c.args.id.0 c.args.is_there c.in_ok-one-in-None.field-0 (one ∙ ap (λ (v : Option (List ℕ)). ids_set c.args.id.0 c.args.is_there (ids_in v)) c.in-None.ensures.value))
    c.put.ensures.ok

pub returns-then-empties-clause-ok : goal.returns-then-empties-clause-ok
returns-then-empties-clause-ok g c =
    let none : [] ≡ ids_set c.args.id.0 c.args.is_there c.in-Some.list.now = let only = c.if-empties.ensures.0 refl in sym (set_only c.args.id.0 c.args.is_there c.in-Some.list.now (sym c.as_slice.ensures.ids ∙ only.0) only.1) in
    on_ok_weaker c.take_out.result
    (set_removed c.args.self.now.lists c.take_out.new.self c.args.key c.args.id.0 c.args.is_there (none ∙ ap (λ (v : Option (List ℕ)). ids_set c.args.id.0 c.args.is_there (ids_in v)) c.in-Some.ensures.value) c.take_out.ensures.ascending)
    c.take_out.ensures.ok

pub returns-else-empties-clause-ok : goal.returns-else-empties-clause-ok
returns-else-empties-clause-ok g c =
    on_ok_weaker c.edit.result
    (set_edited c.args.self.now.lists c.edit.new.self c.args.key c.args.id.0 c.args.is_there c.in-Some.list.now c.in-Some.ensures.value)
    c.edit.ensures.ok
