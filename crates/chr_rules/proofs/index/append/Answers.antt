use Rattle.std.proofs.Common.{◌∙◌, ap, ◌++◌, cond, ◌==◌, ◌∷◌, [], arith}
use Rattle.chr_rules.specs.Index.{pair_view}
use Rattle.chr_rules.proofs.Listed.{pairs_in-put}
use Rattle.chr_rules.proofs.index.append.Goals as goal

pub returns : goal.returns
returns g c = λ f.
    pairs_in-put c.place_for.new.index.items c.args.sym.0 f c.push.new.self c.index_mut-places.result.now c.args.occurrence (omega (arith, c.place_for.new.index.ok.0, c.in_ok-place_for.ensures.room))
    (rw (← c.index_mut-places.ensures.value) c.in_ok-push.ensures.items)
    ∙ ap (λ xs. xs ++ cond (c.args.sym.0 == f) (pair_view c.args.occurrence ∷ []) []) (c.place_for.ensures.kept f)
