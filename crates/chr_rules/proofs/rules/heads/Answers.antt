use Rattle.std.proofs.Common.{◌∙◌, [], ap, sym}
use Rattle.chr_semantics.specs.Meaning.{head_from, in_turn, scope}
use Rattle.chr_read.specs.SyntaxView.{head_views}
use Rattle.chr_rules.proofs.Turned.{in_turn_more}
use Rattle.chr_rules.proofs.rules.heads.Goals as goal

pub returns-clause-heads : goal.returns-clause-heads
returns-clause-heads g c =
    let here = scope c.args.names.now c.args.variables.now in
    let first = head_views c.args.written.now.heads.items in
    c.in_ok-add_heads-2.ensures.heads
    ∙ ap (λ q. in_turn head_from q (head_views c.as_slice-2.result.now)) (c.in_ok-add_heads.ensures.heads ∙ ap (λ hs. in_turn head_from (here, hs) (head_views c.as_slice.result.now)) c.no_heads-heads.ensures.heads)
    ∙ ap (λ hs. in_turn head_from (in_turn head_from (here, []) (head_views hs)) (head_views c.as_slice-2.result.now)) c.as_slice.ensures.value
    ∙ ap (λ hs. in_turn head_from (in_turn head_from (here, []) first) (head_views hs)) c.as_slice-2.ensures.value
    ∙ sym (in_turn_more head_from (here, []) first (head_views c.args.written.now.behind.items))
