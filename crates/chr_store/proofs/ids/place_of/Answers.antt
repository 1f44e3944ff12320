use Rattle.std.proofs.Common.{◌≡◌, ℕ, ◌<◌, List, length, get_or}
use Rattle.std.specs.Prelude.{Option, Result, Ok, Err, IfNone, IfSome}
use Rattle.std.specs.Result.{MatchResult, result_ok}
use Rattle.chr_store.specs.Numbers.{numbers}
use Rattle.chr_store.specs.declared.id.Id.{Id}
use Rattle.chr_store.proofs.Ascending.{placed, without}
use Rattle.chr_store.proofs.ids.place_of.Goals as goal

there : (ids : List Id) (x : Id) (r : Result ℕ ℕ) (o : Option ℕ) → MatchResult r (λ i. (i < length ids) × (get_or (numbers ids) i 0 ≡ x.0)) (λ i. without x.0 (numbers ids) ≡ numbers ids) → o ≡ result_ok r
    → IfSome o (λ i. (i < length ids) × (get_or (numbers ids) i 0 ≡ x.0)) × IfNone o (without x.0 (numbers ids) ≡ numbers ids)
there ids x (Ok i) o h e = rw e (h, tt)
there ids x (Err i) o h e = rw e (tt, h)

pub returns-clause-there : goal.returns-clause-there
returns-clause-there c = (there c.args.ids.now c.args.id c.binary_search.result c.ok.result (placed c.args.id c.args.ids.now c.binary_search.result c.binary_search.ensures.bound c.binary_search.ensures.position c.requires) c.ok.ensures.value).0

pub returns-clause-absent : goal.returns-clause-absent
returns-clause-absent c = (there c.args.ids.now c.args.id c.binary_search.result c.ok.result (placed c.args.id c.args.ids.now c.binary_search.result c.binary_search.ensures.bound c.binary_search.ensures.position c.requires) c.ok.ensures.value).1
