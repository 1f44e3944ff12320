use Rattle.std.proofs.Common.{◌+◌, ◌++◌, ◌∷◌, ◌∙◌, List, ap, drop, map, sym, take, ℕ}
use Rattle.chr_semantics.specs.Lists.{put_in}
use Rattle.chr_semantics.specs.Verdict.{Verdict}
use Rattle.chr_look.specs.FrontView.{front_view}
use Rattle.chr_look.proofs.Fronted.{put_later}
use Rattle.chr_look.proofs.fronts.+place_of.Goals as goal

pub returns-else-is_nearer-clause-put : goal.returns-else-is_nearer-clause-put
returns-else-is_nearer-clause-put g t c =
    let x = front_view c.args.new.now in
    let n = c.place_of.result in
    let all = ap (map front_view) c.in-Some.ensures.cases.0 in
    ap (λ (zs : List (List ℕ × Verdict)). put_in zs x) all
    ∙ put_later x (front_view c.in-Some.first.now) (map front_view c.in-Some.lists.now) n (sym c.is_nearer.ensures ∙ c.if-is_nearer.false) c.place_of.ensures.put
    ∙ sym (ap (λ (zs : List (List ℕ × Verdict)). take (n + 1) zs ++ x ∷ drop (n + 1) zs) all)
