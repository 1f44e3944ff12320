use Rattle.std.proofs.Common.{◌≡◌, ◌∙◌, ◌+◌, ◌<◌, ℕ, List, drop, length, get_or, ap, sym, subst, arith}
use Rattle.std.specs.List.{remove}
use Rattle.std.specs.List.Sorted.{IsStrictlyIncreasing}
use Rattle.std.proofs.lemmas.List.{length-drop, length-map}
use Rattle.std.proofs.lemmas.List.Kept.{IsStrictlyIncreasing-filter}
use Rattle.chr_store.specs.IdsValue.{IdsValue}
use Rattle.chr_store.specs.Numbers.{numbers}
use Rattle.chr_store.specs.declared.id.Id.{Id}
use Rattle.chr_store.proofs.Ascending.{taken_at, taken_first, without}
use Rattle.chr_store.proofs.ids.Ids.take_out.Goals as goal

-- the identities from a start on are those of the list that was searched
same_length : (items : List Id) (s : ℕ) (found : List Id) → numbers found ≡ numbers (drop s items) → length found ≡ length (drop s items)
same_length items s found e = sym (length-map found (λ (j : Id). j.0)) ∙ (ap length e ∙ length-map (drop s items) (λ (j : Id). j.0))

first : (items : List Id) (s i x : ℕ) (found : List Id) → IsStrictlyIncreasing (numbers (drop s items)) → numbers found ≡ numbers (drop s items) → i < length found → i ≡ 0 → get_or (numbers found) i 0 ≡ x → numbers (drop (s + 1) items) ≡ without x (numbers (drop s items))
first items s i x found up e inside zero is =
    let n : length found ≡ length (drop s items) = same_length items s found e in
    taken_first items s x up (omega (arith, n, inside)) (sym (ap (λ k. get_or (numbers (drop s items)) k 0) zero) ∙ (sym (ap (λ l. get_or l i 0) e) ∙ is))

within : (items : List Id) (s i x : ℕ) (found : List Id) → IsStrictlyIncreasing (numbers (drop s items)) → numbers found ≡ numbers (drop s items) → i < length found → get_or (numbers found) i 0 ≡ x → numbers (drop s (remove items (s + i))) ≡ without x (numbers (drop s items))
within items s i x found up e inside is =
    let n : length found ≡ length (drop s items) = same_length items s found e in
    taken_at items s i (s + i) x up (omega arith) (omega (arith, n, inside)) (sym (ap (λ l. get_or l i 0) e) ∙ is)

pub returns-in-Some-eq0 : goal.returns-in-Some-eq0
returns-in-Some-eq0 g c =
    let view : numbers (drop c.self.inside.start c.self.inside.items.items) ≡ c.args.self.now.ids = ap (λ (v : IdsValue). v.ids) c.self.view_is in
    first c.self.inside.items.items c.self.inside.start c.in-Some-eq0.field-0 c.args.id.0 c.as_slice.result.now c.self.invariant.0 (c.as_slice.ensures.ids ∙ sym view) c.in-Some-eq0.ensures.there.0 c.in-Some-eq0.field-0-test c.in-Some-eq0.ensures.there.1
    ∙ ap (without c.args.id.0) view

pub invariant_of-self : goal.invariant_of-self
invariant_of-self g c =
    let view : numbers (drop c.self.inside.start c.self.inside.items.items) ≡ c.args.self.now.ids = ap (λ (v : IdsValue). v.ids) c.self.view_is in
    let e = first c.self.inside.items.items c.self.inside.start c.in-Some-eq0.field-0 c.args.id.0 c.as_slice.result.now c.self.invariant.0 (c.as_slice.ensures.ids ∙ sym view) c.in-Some-eq0.ensures.there.0 c.in-Some-eq0.field-0-test c.in-Some-eq0.ensures.there.1 in
    let n : length c.as_slice.result.now ≡ length (drop c.self.inside.start c.self.inside.items.items) = same_length c.self.inside.items.items c.self.inside.start c.as_slice.result.now (c.as_slice.ensures.ids ∙ sym view) in
    (subst IsStrictlyIncreasing (sym e) (IsStrictlyIncreasing-filter _ _ c.self.invariant.0), omega (arith, n, c.in-Some-eq0.ensures.there.0, length-drop c.self.inside.start c.self.inside.items.items, c.self.inside.items.ok.0))

pub returns-in-Some : goal.returns-in-Some
returns-in-Some g c =
    let view : numbers (drop c.self.inside.start c.self.inside.items.items) ≡ c.args.self.now.ids = ap (λ (v : IdsValue). v.ids) c.self.view_is in
    ap (λ (l : List Id). numbers (drop c.self.inside.start l)) c.remove.ensures.items
    ∙ (within c.self.inside.items.items c.self.inside.start c.in-Some.place c.args.id.0 c.as_slice.result.now c.self.invariant.0 (c.as_slice.ensures.ids ∙ sym view) c.in-Some.ensures.there.0 c.in-Some.ensures.there.1
    ∙ ap (without c.args.id.0) view)

pub invariant_of-self-in-Some : goal.invariant_of-self-in-Some
invariant_of-self-in-Some g c =
    let view : numbers (drop c.self.inside.start c.self.inside.items.items) ≡ c.args.self.now.ids = ap (λ (v : IdsValue). v.ids) c.self.view_is in
    let e = ap (λ (l : List Id). numbers (drop c.self.inside.start l)) c.remove.ensures.items
    ∙ within c.self.inside.items.items c.self.inside.start c.in-Some.place c.args.id.0 c.as_slice.result.now c.self.invariant.0 (c.as_slice.ensures.ids ∙ sym view) c.in-Some.ensures.there.0 c.in-Some.ensures.there.1 in
    let n : length c.as_slice.result.now ≡ length (drop c.self.inside.start c.self.inside.items.items) = same_length c.self.inside.items.items c.self.inside.start c.as_slice.result.now (c.as_slice.ensures.ids ∙ sym view) in
    (subst IsStrictlyIncreasing (sym e) (IsStrictlyIncreasing-filter _ _ c.self.invariant.0), omega (arith, n, c.in-Some.ensures.there.0, length-drop c.self.inside.start c.self.inside.items.items, c.self.inside.items.ok.0, c.remove.ensures.len))
