use Rattle.std.proofs.Common.{◌≡◌, ◌∙◌, ◌++◌, ◌∷◌, [], ◌+◌, ◌<◌, ◌≤◌, ℕ, List, ap, arith, get_or, length, map, sym, take}
use Rattle.std.proofs.lemmas.List.{map-append, map_more, take_all}
use Rattle.chr_map.specs.Entries.{branch_seen}
use Rattle.chr_map.proofs.node.share_branches.Goals as goal

-- one more element, which is seen as the one that it stands for
one_more : {X Y : Type 0} (f : X → Y) (xs made new : List X) (i : ℕ) (x y : X) → i < length xs → x ≡ get_or xs i x → map f made ≡ map f (take i xs) → new ≡ made ++ y ∷ [] → f y ≡ f x → map f new ≡ map f (take (i + 1) xs)
one_more f xs made new i x y inside is same pushed seen = ap (map f) pushed ∙ map-append f made (y ∷ []) ∙ (λ k. same k ++ (seen ∙ ap f is) k ∷ []) ∙ sym (map_more f xs i x inside)

pub loop-branch-init : goal.loop-branch-init
loop-branch-init g c = record {
  same = ap (map branch_seen) c.in_ok-shared.ensures.items;
  count = c.in_ok-shared.ensures.len;
  room = omega (arith, c.args.branches.now.ok.0, c.in_ok-shared.ensures.capacity);
}

pub loop-branch-preserved : goal.loop-branch-preserved
loop-branch-preserved g c =
    let of = c.deref-branch-items.ensures.value in
    let inside : c.loop-branch.branch-index < length c.args.branches.now.items = omega (arith, ap length of) in
    let is = c.branch-item.is ∙ ap (λ xs. get_or xs c.loop-branch.branch-index c.branch-item.result) of in
    record {
      same = one_more branch_seen c.args.branches.now.items c.loop-branch.shared.items c.push_reserved.new.self.items c.loop-branch.branch-index c.branch-item.result c.in_ok-copy.copy inside is c.loop-branch.invariant.same c.push_reserved.ensures.items c.in_ok-copy.ensures;
      count = omega (arith, c.push_reserved.ensures.len);
      room = omega (arith, c.push_reserved.ensures.capacity);
    }

pub returns : goal.returns
returns g c =
    let past : length c.args.branches.now.items ≤ c.loop-branch.branch-index = omega (arith, ap length c.deref-branch-items.ensures.value) in
    c.loop-branch.invariant.same ∙ ap (map branch_seen) (take_all c.loop-branch.branch-index c.args.branches.now.items past)
