-- Each arm is a case of the definition.
use Rattle.std.proofs.Common.{◌∙◌, ◌+◌, ◌-◌, ap, drop, length, refl, rules, sym, take}
use Rattle.std.proofs.lemmas.List.{length-take-le}
use Rattle.chr_semantics.specs.Tokens.{blank, number_piece, piece}
use Rattle.chr_tokens.proofs.Firsts.{Begins, line_first, number_first, within, word_first}
use Rattle.chr_tokens.proofs.pieces.first_piece.Goals as goal

pub returns-in_default-clause-is : goal.returns-in_default-clause-is
unfolding piece
returns-in_default-clause-is c = search rules

pub returns-then-is_whitespace-clause-is : goal.returns-then-is_whitespace-clause-is
unfolding piece
returns-then-is_whitespace-clause-is c = search rules

pub returns-then-c-eq37-clause-is : goal.returns-then-c-eq37-clause-is
returns-then-c-eq37-clause-is c =
    let text = c.args.text.now in
    let others = take (length text - 1) (drop 1 text) in
    let first : Begins text c.c-item.result others = record { some = c.in-len1-up.len_at_least; is = c.c-item.is; others_are = refl } in
    ap (λ n. blank (n + 1)) c.line_len.ensures.len ∙ sym (line_first c.args.signed text c.c-item.result others first (sym c.if-is_whitespace.ensures) c.if-c-eq37.true)

pub returns-in-Some-comment_len-clause-is : goal.returns-in-Some-comment_len-clause-is
unfolding piece
returns-in-Some-comment_len-clause-is c = search rules

pub returns-in-None-clause-is : goal.returns-in-None-clause-is
unfolding piece
returns-in-None-clause-is c = search rules

pub returns-then-starts_word-clause-is : goal.returns-then-starts_word-clause-is
returns-then-starts_word-clause-is c =
    let text = c.args.text.now in
    let others = take (length text - 1) (drop 1 text) in
    let first : Begins text c.c-item.result others = record { some = c.in-len1-up.len_at_least; is = c.c-item.is; others_are = refl } in
    rw (c.word_token.ensures, length-take-le (c.word_len.result + 1) text (within text c.c-item.result others c.word_len.result first c.word_len.ensures.bound), c.word_len.ensures.len)
    (sym (word_first c.args.signed text c.c-item.result others first (sym c.if-is_whitespace.ensures) c.if-c-eq37.false c.in_default-inside_comment.ensures (sym c.if-starts_word.ensures)))

pub returns-then-is_ascii_digit-clause-is : goal.returns-then-is_ascii_digit-clause-is
returns-then-is_ascii_digit-clause-is c =
    let text = c.args.text.now in
    let others = take (length text - 1) (drop 1 text) in
    let first : Begins text c.c-item.result others = record { some = c.in-len1-up.len_at_least; is = c.c-item.is; others_are = refl } in
    c.number_piece.ensures
    ∙ ap (λ n. number_piece c.args.signed (take (n + 1) text)) c.digits_len.ensures.len
    ∙ sym (number_first c.args.signed text c.c-item.result others first (sym c.if-is_whitespace.ensures) c.if-c-eq37.false c.in_default-inside_comment.ensures (sym c.if-starts_word.ensures) (sym c.if-is_ascii_digit.ensures.value))

pub returns-clause-is : goal.returns-clause-is
unfolding piece
returns-clause-is c = search rules
