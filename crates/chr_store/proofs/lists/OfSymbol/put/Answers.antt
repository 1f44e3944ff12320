use Rattle.std.proofs.Common.{◌≡◌, ◌∙◌, ◌++◌, ◌∷◌, [], List, ℕ, cond, ap, sym, refl, arith}
use Rattle.std.proofs.lemmas.Grind.{common_steps}
use Rattle.std.proofs.lemmas.List.{append-nil}
use Rattle.std.specs.Option.{option_copied_mut}
use Rattle.chr_store.specs.Looks.{ids_in}
use Rattle.chr_store.proofs.SameKey.{keyed_each}
use Rattle.chr_store.proofs.lists.OfSymbol.put.Goals as goal

pub returns-in-Some-get_mut-clause-keyed : goal.returns-in-Some-get_mut-clause-keyed
returns-in-Some-get_mut-clause-keyed g c = rw c.in-Some.is (keyed_each (λ b old new. new ≡ old ++ cond b (c.args.id.0 ∷ []) []) c.args.self.now (record { all = c.push_reserved.new.self; keyless = c.args.self.now.keyless; keyed = c.get_mut.follows.lender c.push_reserved-in-Some-get_mut.new.self }) c.in-Some.key c.push_reserved-in-Some-get_mut.new.self refl (c.push_reserved-in-Some-get_mut.ensures ∙ ap (λ (l : List ℕ). l ++ c.args.id.0 ∷ []) (sym (ap ids_in (sym c.get_mut.ensures.value ∙ ap option_copied_mut c.in-Some-get_mut.is)))) (λ ids. sym (append-nil ids)) (λ k. grind (arith, common_steps)))
