use Rattle.std.proofs.Common.{◌≡◌, ◌∙◌, ◌-◌, ◌≤◌, ap, arith, drop, length, subst, sym, take}
use Rattle.chr_semantics.specs.Text.{lines_text}
use Rattle.chr_trace.specs.Lined.{LinesValue, cut_at, end_from}
use Rattle.chr_trace.proofs.Lined.{count_is, lines_from}
use Rattle.chr_trace.proofs.lines.Lines.text_from.Goals as goal

pub start_of-requires : goal.start_of-requires
start_of-requires g c =
    let lines = c.self.inside in
    let count = count_is lines.text.items lines.ends.items c.self.invariant.0 ∙ ap (λ (v : LinesValue). length v.made) c.self.view_is in
    omega (arith, count, c.requires, ap length c.as_slice-ends.ensures.value)

pub part-requires-clause-order : goal.part-requires-clause-order
part-requires-clause-order g c =
    let lines = c.self.inside in
    let n = c.args.number in
    let at = lines_from lines.text.items lines.ends.items c.self.invariant.0 n (subst (λ (v : LinesValue). n ≤ length v.made) (sym c.self.view_is) c.requires) in
    let begin = c.start_of.ensures ∙ ap (λ es. end_from 0 (take n es)) c.as_slice-ends.ensures.value in
    let end = c.start_of-end.ensures ∙ ap (λ es. end_from 0 (take (length es) es)) c.as_slice-ends.ensures.value in
    omega (arith, at.order, begin, end)

pub part-requires-clause-within : goal.part-requires-clause-within
part-requires-clause-within g c =
    let lines = c.self.inside in
    let n = c.args.number in
    let at = lines_from lines.text.items lines.ends.items c.self.invariant.0 n (subst (λ (v : LinesValue). n ≤ length v.made) (sym c.self.view_is) c.requires) in
    let end = c.start_of-end.ensures ∙ ap (λ es. end_from 0 (take (length es) es)) c.as_slice-ends.ensures.value in
    omega (arith, at.within, end, ap length c.as_slice.ensures.value)

pub returns : goal.returns
returns g c =
    let lines = c.self.inside in
    let n = c.args.number in
    let at = lines_from lines.text.items lines.ends.items c.self.invariant.0 n (subst (λ (v : LinesValue). n ≤ length v.made) (sym c.self.view_is) c.requires) in
    let begin : c.start_of.result ≡ end_from 0 (take n lines.ends.items) = c.start_of.ensures ∙ ap (λ es. end_from 0 (take n es)) c.as_slice-ends.ensures.value in
    let end : c.start_of-end.result ≡ end_from 0 (take (length lines.ends.items) lines.ends.items) = c.start_of-end.ensures ∙ ap (λ es. end_from 0 (take (length es) es)) c.as_slice-ends.ensures.value in
    c.part.ensures ∙ ((λ i. take (end i - begin i) (drop (begin i) (c.as_slice.ensures.value i))) ∙ (at.cut ∙ ap (λ (v : LinesValue). lines_text (drop n v.made)) c.self.view_is))
