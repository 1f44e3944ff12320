use Rattle.std.proofs.Common.{◌≡◌, ◌∙◌, ◌+◌, [], ap, arith, drop, subst, sym}
use Rattle.std.proofs.lemmas.List.{drop_all}
use Rattle.chr_keys.specs.PendingValue.{PendingValue}
use Rattle.chr_keys.proofs.Changes.{drop_next}
use Rattle.chr_keys.proofs.pending.Pending.advance.Goals as goal

pub returns-then-self-len : goal.returns-then-self-len
returns-then-self-len g c =
    let p = c.self.inside in
    subst (λ (v : PendingValue g.row.C.Denot). drop (p.made + 1) p.changes.items ≡ drop 1 v.left) c.self.view_is (sym (drop_next p.made p.changes.items))

pub returns-else-self-len : goal.returns-else-self-len
returns-else-self-len g c =
    let p = c.self.inside in
    let none = drop_next p.made p.changes.items ∙ drop_all (p.made + 1) p.changes.items (omega (arith, c.if-self-len.false)) in
    ap (drop 0) c.clear.ensures.items ∙ subst (λ (v : PendingValue g.row.C.Denot). [] ≡ drop 1 v.left) c.self.view_is (sym none)
