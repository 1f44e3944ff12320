use Rattle.std.proofs.Common.{◌≡◌, ◌∙◌, List, OnOk, Some, ap, arith, cond, drop, subst, sym, ℕ}
use Rattle.chr_semantics.specs.Search.{has_number}
use Rattle.chr_store.specs.Numbers.{numbers}
use Rattle.chr_store.specs.declared.id.Id.{Id}
use Rattle.chr_look.specs.Leavings.{place_at}
use Rattle.chr_look.proofs.Removed.{dropped}
use Rattle.chr_look.proofs.leaving.+note_removed.Goals as goal

pub returns-in-Some-checked_sub : goal.returns-in-Some-checked_sub
returns-in-Some-checked_sub g t c =
    let rest = numbers c.in-Some.rest.now in
    let same = ap (λ (ids : List Id). drop c.args.kept (numbers ids)) c.in-Some.ensures.cases.0 ∙ dropped c.args.kept c.in-Some-checked_sub.kept c.in-Some.first.now.0 rest (omega (arith, c.in-Some-checked_sub.ensures)) in
    subst (λ (ids : List ℕ). OnOk c.note_removed.result ((i : ℕ) → place_at c.note_removed.new.places.items i ≡ cond (has_number ids i) (Some c.args.place) (place_at c.args.places.now.items i))) (sym same) c.note_removed.ensures
