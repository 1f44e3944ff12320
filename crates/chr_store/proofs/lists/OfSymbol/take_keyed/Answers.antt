use Rattle.std.proofs.Common.{◌≡◌, ◌∙◌, ◌==◌, ◌∷◌, [], List, Some, length, true, cond, ap, sym, refl, arith}
use Rattle.std.proofs.lemmas.Grind.{common_steps}
use Rattle.std.specs.Option.{option_copied_mut}
use Rattle.indexmap.specs.IndexMap.{get}
use Rattle.chr_store.specs.Looks.{ids_in, same_key}
use Rattle.chr_store.specs.Numbers.{numbers}
use Rattle.chr_store.specs.declared.id.Id.{Id}
use Rattle.chr_store.specs.declared.lists.OfSymbol.{OfSymbol}
use Rattle.chr_store.proofs.Ascending.{without}
use Rattle.chr_store.proofs.SameKey.{keyed_each, keyed_let_go}
use Rattle.chr_store.proofs.lists.OfSymbol.take_keyed.Goals as goal

nothing : (ids : List Id) → (length ids == 0) ≡ true → numbers ids ≡ []
nothing [] e = refl
nothing (i ∷ is) e = absurd (grind arith)

pub returns-then-is_empty-clause-keyed : goal.returns-then-is_empty-clause-keyed
returns-then-is_empty-clause-keyed g c =
    let at = sym c.get_mut.ensures.value ∙ ap option_copied_mut c.in-Some.is in
    let mid : OfSymbol g.row.A.Denot = record { all = c.args.self.now.all; keyless = c.args.self.now.keyless; keyed = c.get_mut.follows.lender c.take_out.new.self } in
    let left : get same_key (c.get_mut.follows.lender c.take_out.new.self) c.args.key ≡ Some c.take_out.new.self = grind (arith, common_steps) in
    let empty : c.take_out.new.self.ids ≡ [] = sym c.as_slice.ensures.ids ∙ nothing c.as_slice.result.now (sym c.is_empty.ensures ∙ c.if-is_empty.true) in
    λ other.
    keyed_let_go mid (record { all = c.args.self.now.all; keyless = c.args.self.now.keyless; keyed = c.swap_remove.new.self }) c.args.key refl (ap ids_in left ∙ empty) c.swap_remove.ensures.updates.0 other
    ∙ keyed_each (λ b old new. new ≡ cond b (without c.args.id.0 old) old) c.args.self.now mid c.args.key c.take_out.new.self refl (c.take_out.ensures ∙ ap (without c.args.id.0) (sym (ap ids_in at))) (λ ids. refl) (λ k. grind (arith, common_steps)) other

pub returns-else-is_empty-clause-keyed : goal.returns-else-is_empty-clause-keyed
returns-else-is_empty-clause-keyed g c =
    let at = sym c.get_mut.ensures.value ∙ ap option_copied_mut c.in-Some.is in
    keyed_each (λ b old new. new ≡ cond b (without c.args.id.0 old) old) c.args.self.now (record { all = c.args.self.now.all; keyless = c.args.self.now.keyless; keyed = c.get_mut.follows.lender c.take_out.new.self }) c.args.key c.take_out.new.self refl (c.take_out.ensures ∙ ap (without c.args.id.0) (sym (ap ids_in at))) (λ ids. refl) (λ k. grind (arith, common_steps))
