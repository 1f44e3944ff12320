use Rattle.std.proofs.Common.{◌≡◌, ◌∙◌, ◌+◌, ◌-◌, ◌<◌, ℕ, List, Some, [], ap, arith, drop, get_or, length, slice_get, subst, sym, take}
use Rattle.std.proofs.lemmas.Option.{slice_get-get_or, slice_get_past}
use Rattle.chr_trace.specs.Lined.{end_from, ends_of}
use Rattle.chr_trace.proofs.Lined.{IsLineAt, line_in}
use Rattle.cordspar.specs.Lines.{lines_in}
use Rattle.cordspar.proofs.Lines.{count_are, cut_are, is_lined}
use Rattle.cordspar.proofs.lined.Lined.line.Goals as goal

-- a line stands where its ends say
at : (text ends : List ℕ) (is : ends ≡ ends_of 0 (lines_in text)) (n : ℕ) → n < length (lines_in text) → IsLineAt text ends n (get_or (lines_in text) n [])
at text ends is n lt =
    subst (λ (ls : List (List ℕ)). IsLineAt text ends n (get_or ls n [])) (cut_are text ends is)
    (line_in text ends (is_lined text ends is) n (subst (λ (ls : List (List ℕ)). n < length ls) (sym (cut_are text ends is)) lt))

pub returns-then-number-len : goal.returns-then-number-len
returns-then-number-len c =
    let lined = c.self.inside in
    let count = count_are lined.text.items lined.ends.items c.self.invariant ∙ ap (λ (t : List ℕ). length (lines_in t)) c.self.view_is in
    sym (slice_get_past (lines_in c.args.self.now) c.args.number (omega (arith, count, lined.ends.ok.0)))

pub overflow_sub-end : goal.overflow_sub-end
overflow_sub-end c =
    let lined = c.self.inside in
    let n = c.args.number in
    let line = at lined.text.items lined.ends.items c.self.invariant n (omega (arith, count_are lined.text.items lined.ends.items c.self.invariant, lined.ends.ok.0)) in
    let end = c.start_of-end.ensures ∙ ap (λ es. end_from 0 (take (n + 1) es)) c.as_slice-ends.ensures.value in
    omega (arith, line.end, end)

pub part-requires-clause-order : goal.part-requires-clause-order
part-requires-clause-order c =
    let lined = c.self.inside in
    let n = c.args.number in
    let line = at lined.text.items lined.ends.items c.self.invariant n (omega (arith, count_are lined.text.items lined.ends.items c.self.invariant, lined.ends.ok.0)) in
    let begin = c.start_of.ensures ∙ ap (λ es. end_from 0 (take n es)) c.as_slice-ends.ensures.value in
    let end = c.start_of-end.ensures ∙ ap (λ es. end_from 0 (take (n + 1) es)) c.as_slice-ends.ensures.value in
    omega (arith, line.end, begin, end)

pub part-requires-clause-within : goal.part-requires-clause-within
part-requires-clause-within c =
    let lined = c.self.inside in
    let n = c.args.number in
    let line = at lined.text.items lined.ends.items c.self.invariant n (omega (arith, count_are lined.text.items lined.ends.items c.self.invariant, lined.ends.ok.0)) in
    let end = c.start_of-end.ensures ∙ ap (λ es. end_from 0 (take (n + 1) es)) c.as_slice-ends.ensures.value in
    omega (arith, line.within, end, ap length c.as_slice.ensures.value)

pub returns : goal.returns
returns c =
    let lined = c.self.inside in
    let n = c.args.number in
    let inside : n < length (lines_in lined.text.items) = omega (arith, count_are lined.text.items lined.ends.items c.self.invariant, lined.ends.ok.0) in
    let line = at lined.text.items lined.ends.items c.self.invariant n inside in
    let begin = c.start_of.ensures ∙ ap (λ es. end_from 0 (take n es)) c.as_slice-ends.ensures.value in
    let end = c.start_of-end.ensures ∙ ap (λ es. end_from 0 (take (n + 1) es)) c.as_slice-ends.ensures.value in
    let count : (c.start_of-end.result - 1) - c.start_of.result ≡ length (get_or (lines_in lined.text.items) n []) = omega (arith, line.end, begin, end) in
    ap Some (c.part.ensures ∙ ((λ i. take (count i) (drop (begin i) (c.as_slice.ensures.value i))) ∙ line.cut))
    ∙ (sym (slice_get-get_or (lines_in lined.text.items) n [] inside) ∙ ap (λ (t : List ℕ). slice_get (lines_in t) n) c.self.view_is)
