use Rattle.std.proofs.Common.{◌≡◌, ◌∙◌, ◌+◌, ◌-◌, ◌<◌, ℕ, List, Some, [], ap, arith, drop, get_or, length, slice_get, subst, sym, take}
use Rattle.std.proofs.lemmas.Option.{slice_get-get_or, slice_get_past}
use Rattle.chr_trace.specs.Lined.{LinesValue, cut_at, end_from}
use Rattle.chr_trace.proofs.Lined.{count_is, line_in}
use Rattle.chr_trace.proofs.lines.Lines.get.Goals as goal

pub returns-then-number-len : goal.returns-then-number-len
returns-then-number-len g c =
    let lines = c.self.inside in
    let count : length lines.ends.items ≡ length c.args.self.now.made = count_is lines.text.items lines.ends.items c.self.invariant.0 ∙ ap (λ (v : LinesValue). length v.made) c.self.view_is in
    sym (slice_get_past c.args.self.now.made c.args.number (omega (arith, count, lines.ends.ok.0)))

pub overflow_sub-end : goal.overflow_sub-end
overflow_sub-end g c =
    let lines = c.self.inside in
    let h = c.self.invariant.0 in
    let n = c.args.number in
    let at = line_in lines.text.items lines.ends.items h n (omega (arith, count_is lines.text.items lines.ends.items h, lines.ends.ok.0)) in
    let end = c.start_of-end.ensures ∙ ap (λ es. end_from 0 (take (n + 1) es)) c.as_slice-ends.ensures.value in
    omega (arith, at.end, end)

pub part-requires-clause-order : goal.part-requires-clause-order
part-requires-clause-order g c =
    let lines = c.self.inside in
    let h = c.self.invariant.0 in
    let n = c.args.number in
    let at = line_in lines.text.items lines.ends.items h n (omega (arith, count_is lines.text.items lines.ends.items h, lines.ends.ok.0)) in
    let begin = c.start_of.ensures ∙ ap (λ es. end_from 0 (take n es)) c.as_slice-ends.ensures.value in
    let end = c.start_of-end.ensures ∙ ap (λ es. end_from 0 (take (n + 1) es)) c.as_slice-ends.ensures.value in
    omega (arith, at.end, begin, end)

pub part-requires-clause-within : goal.part-requires-clause-within
part-requires-clause-within g c =
    let lines = c.self.inside in
    let h = c.self.invariant.0 in
    let n = c.args.number in
    let at = line_in lines.text.items lines.ends.items h n (omega (arith, count_is lines.text.items lines.ends.items h, lines.ends.ok.0)) in
    let end = c.start_of-end.ensures ∙ ap (λ es. end_from 0 (take (n + 1) es)) c.as_slice-ends.ensures.value in
    omega (arith, at.within, end, ap length c.as_slice.ensures.value)

pub returns : goal.returns
returns g c =
    let lines = c.self.inside in
    let h = c.self.invariant.0 in
    let n = c.args.number in
    let inside : n < length (cut_at lines.text.items 0 lines.ends.items) = omega (arith, count_is lines.text.items lines.ends.items h, lines.ends.ok.0) in
    let at = line_in lines.text.items lines.ends.items h n inside in
    let begin = c.start_of.ensures ∙ ap (λ es. end_from 0 (take n es)) c.as_slice-ends.ensures.value in
    let end = c.start_of-end.ensures ∙ ap (λ es. end_from 0 (take (n + 1) es)) c.as_slice-ends.ensures.value in
    let count : (c.start_of-end.result - 1) - c.start_of.result ≡ length (get_or (cut_at lines.text.items 0 lines.ends.items) n []) = omega (arith, at.end, begin, end) in
    ap Some (c.part.ensures ∙ ((λ i. take (count i) (drop (begin i) (c.as_slice.ensures.value i))) ∙ at.cut))
    ∙ (sym (slice_get-get_or (cut_at lines.text.items 0 lines.ends.items) n [] inside) ∙ ap (λ (v : LinesValue). slice_get v.made n) c.self.view_is)
