-- Which firings are the same, and what of them is hashed.
use Rattle.std.specs.Prelude.{◌≡◌, ◌==◌, ◌++◌, ℕ, Bool, IsTrue, List, nat_eq}
use Rattle.std.proofs.lemmas.Bool.{eqb-true}
use Rattle.std.specs.Cmp.{IsEquivalence, IsPartialEquivalence, and_equiv, first_so, nat_eq_equiv, on_equiv, partial_equiv_from_equiv, second_so}
use Rattle.std.specs.Cmp.Lexicographic.{bytes_decides, nat_list_eq_equiv, pointwise}
use Rattle.std.specs.Hash as fed
use Rattle.chr_store.specs.contracts.fired.FiredHash.TheImpl.{ghosts as hashing}
use Rattle.chr_store.specs.contracts.fired.FiredPartialEq.TheImpl.{ghosts as equality}
use Rattle.chr_store.specs.declared.fired.Fired.{Fired}

abbrev pub same_fired : Fired → Fired → Bool
same_fired = equality.eq

pub same_fired_equiv : IsEquivalence same_fired
same_fired_equiv = and_equiv (on_equiv (λ (f : Fired). f.rule) nat_eq_equiv) (on_equiv (λ (f : Fired). f.ids) nat_list_eq_equiv)

pub same_fired_per : IsPartialEquivalence same_fired
same_fired_per = partial_equiv_from_equiv same_fired_equiv

abbrev pub fed_fired : Fired → List (List ℕ)
fed_fired = hashing.hash_input

pub alike_fired : (f g : Fired) → IsTrue (same_fired f g) → fed_fired f ≡ fed_fired g
alike_fired f g h = λ i. fed.usize (eqb-true f.rule g.rule (first_so (f.rule == g.rule) (pointwise nat_eq f.ids g.ids) h) i) ++ fed.slice fed.u64 ((bytes_decides f.ids g.ids).0 (second_so (f.rule == g.rule) (pointwise nat_eq f.ids g.ids) h) i)
