use Rattle.std.proofs.Common.{◌≡◌, ◌∙◌, ap, arith, length, sym}
use Rattle.std.specs.Prelude.{bytes_eq}
use Rattle.chr_suspicions.specs.Counts.{one_more, times}
use Rattle.chr_suspicions.proofs.Appended.{one_appended, written_back}
use Rattle.chr_suspicions.proofs.Counted.{counted, once_at_the_end}
use Rattle.chr_suspicions.proofs.variables.note.Goals as goal

pub returns-then-note_again : goal.returns-then-note_again
returns-then-note_again g c words are =
    let items = c.args.met.now.items in
    let value = c.as_mut_slice.ensures.value in
    let same : length c.note_again.new.met ≡ length items = c.note_again.auto.met ∙ ap length value in
    let whole = written_back items c.note_again.new.met c.args.met.now.len (omega (arith, c.args.met.now.ok.0)) same in
    counted items _ words c.args.word.now are
    (λ w. ap (λ ms. times ms w) whole ∙ c.if-note_again.ensures w ∙ ap (λ ms. one_more (bytes_eq w c.args.word.now) (times ms w)) value)

pub returns : goal.returns
returns g c words are =
    let items = c.args.met.now.items in
    let value = c.as_mut_slice.ensures.value in
    let same : length c.note_again.new.met ≡ length items = c.note_again.auto.met ∙ ap length value in
    let whole = written_back items c.note_again.new.met c.args.met.now.len (omega (arith, c.args.met.now.ok.0)) same ∙ c.if-note_again.ensures.1 ∙ value in
    let pushed = one_appended items _ c.push.new.self.items _ whole c.in_ok-push.ensures.items in
    let none = ap (λ ms. times ms c.args.word.now) (sym value) ∙ c.if-note_again.ensures.0 in
    counted items c.push.new.self.items words c.args.word.now are (λ w. ap (λ ms. times ms w) pushed ∙ once_at_the_end items c.args.word none w)
