use Rattle.std.proofs.Common.{◌∙◌, [], ◌∷◌, ◌++◌, ap, sym}
use Rattle.chr_semantics.specs.Meaning.{head_of, scope}
use Rattle.chr_semantics.specs.Syntax.{exprs_of}
use Rattle.chr_read.specs.SyntaxView.{item_view, view, views}
use Rattle.chr_rules.specs.Heads.{heads_of}
use Rattle.chr_rules.proofs.Called.{head_called, on_ok_answers}
use Rattle.chr_rules.proofs.goals.add_head.Goals as goal

pub returns-in_ok-sym-in-Some-clause-head : goal.returns-in_ok-sym-in-Some-clause-head
returns-in_ok-sym-in-Some-clause-head g c =
    let here = scope c.args.names.now c.args.variables.now in
    let before = heads_of c.args.heads.now in
    let passive = c.args.written.now.passive in
    on_ok_answers _ _ c.push_head.result (λ h.
    ap (λ hs. (scope c.atom.new.names c.atom.new.variables, hs)) h
    ∙ ap (λ a. (a.0, before ++ record { atom = a.1; passive = passive } ∷ [])) c.in_ok-sym-in-Some.ensures.atom
    ∙ ap (λ r. (r.0, before ++ r.1)) (sym (head_called here passive (view c.in-Plain.expr) c.in-Some.name.now (exprs_of (views c.in-Some.args.now)) (sym c.in-Some.ensures)))
    ∙ ap (λ i. (let r = head_of here passive (item_view i) in (r.0, before ++ r.1))) (sym c.in-Plain.is))
    c.push_head.ensures.head
