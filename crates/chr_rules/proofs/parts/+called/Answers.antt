use Rattle.std.proofs.Common.{◌≡◌, ◌<◌, ◌∙◌, ap, sym, arith}
use Rattle.std.specs.Prelude.{length}
use Rattle.chr_semantics.specs.Meaning.{call_of}
use Rattle.chr_read.specs.SyntaxView.{view}
use Rattle.chr_rules.proofs.Within.{called_in_chain, called_in_end, called_in_list, called_in_list_with_end, called_in_operand}
use Rattle.chr_rules.proofs.parts.+called.Goals as goal

pub returns-in-List : goal.returns-in-List
returns-in-List g t c = sym (called_in_list c.args.expr.now c.in-List.field-0 c.in-List.is)

pub returns-then-is_empty : goal.returns-then-is_empty
returns-then-is_empty g t c =
    let none : length c.in-ListWithEnd.items.items ≡ 0 = grind (arith, c.is_empty.ensures, c.if-is_empty.true, c.in-ListWithEnd.items.ok.0) in
    c.as_call.ensures ∙ ap (λ e. call_of (view e)) c.deref.ensures ∙ sym (called_in_end c.args.expr.now c.in-ListWithEnd.items c.in-ListWithEnd.end c.in-ListWithEnd.is none)

pub returns-else-is_empty : goal.returns-else-is_empty
returns-else-is_empty g t c =
    let some : 0 < length c.in-ListWithEnd.items.items = grind (arith, c.is_empty.ensures, c.if-is_empty.false, c.in-ListWithEnd.items.ok.0) in
    sym (called_in_list_with_end c.args.expr.now c.in-ListWithEnd.items c.in-ListWithEnd.end c.in-ListWithEnd.is some)

pub returns-then-is_empty-2 : goal.returns-then-is_empty-2
returns-then-is_empty-2 g t c =
    let none : length c.in-Chain.others.items ≡ 0 = grind (arith, c.is_empty-in-Chain.ensures, c.if-is_empty-2.true, c.in-Chain.others.ok.0) in
    c.as_call-then-is_empty-2.ensures ∙ ap (λ e. call_of (view e)) c.deref-then-is_empty-2.ensures ∙ sym (called_in_operand c.args.expr.now c.in-Chain.first c.in-Chain.others c.in-Chain.is none)

pub returns-else-is_empty-2 : goal.returns-else-is_empty-2
returns-else-is_empty-2 g t c =
    let some : 0 < length c.in-Chain.others.items = grind (arith, c.is_empty-in-Chain.ensures, c.if-is_empty-2.false, c.in-Chain.others.ok.0) in
    sym (called_in_chain c.args.expr.now c.in-Chain.first c.in-Chain.others c.in-Chain.is some)
