use Rattle.std.proofs.Common.{rules, ◌∙◌, option_map, string_bytes}
use Rattle.chr_semantics.specs.Grammar.{line_of}
use Rattle.chr_tokens.specs.TokenView.{placed_views}
use Rattle.chr_read.specs.Automaton.{rule_start}
use Rattle.chr_read.specs.SyntaxView.{arrow_view, head_views}
use Rattle.chr_read.proofs.rules.rule.Goals as goal

pub returns-clause-reads : goal.returns-clause-reads
returns-clause-reads g c ps =
    let line = line_of (placed_views c.args.text.now) in
    let label = option_map string_bytes c.in_ok-label.label in
    let front = c.in_ok-front.front in
    let start = rule_start line label (head_views front.heads.items) (head_views front.behind.items) (arrow_view front.arrow) in
    c.in_ok-label.ensures.reads ps ∙ c.in_ok-front.ensures.reads line label ps ∙ c.in_ok-body.ensures.reads start ps

pub returns-in_err-body-clause-reads : goal.returns-in_err-body-clause-reads
returns-in_err-body-clause-reads g c ps =
    let line = line_of (placed_views c.args.text.now) in
    let label = option_map string_bytes c.in_ok-label.label in
    let front = c.in_ok-front.front in
    let start = rule_start line label (head_views front.heads.items) (head_views front.behind.items) (arrow_view front.arrow) in
    let from_start = c.in_ok-label.ensures.reads ps ∙ c.in_ok-front.ensures.reads line label ps in
    let halts = c.in_err-body.ensures.reads start ps in
    rw from_start (search rules)
