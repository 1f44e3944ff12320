use Rattle.std.proofs.Common.{arith, ap, ◌∙◌, ◌∷◌, ◌++◌, [], refl}
use Rattle.chr_semantics.specs.Print.{printing_of, left_text, right_text, sign_of, in_parentheses}
use Rattle.chr_term.specs.TermView.{view}
use Rattle.chr_term.proofs.Sizes.{size-item}
use Rattle.chr_term.proofs.Extensions.{extended_on}
use Rattle.chr_term.proofs.Joined.{call_of_two_on_ok, call_on_ok, joined_on_ok, two_on_ok}
use Rattle.chr_term.proofs.printer.Printer.+write.Goals as goal

pub write_others-write_next-requires : goal.write_others-write_next-requires
write_others-write_next-requires g t c = λ κs bounds.
    (omega (arith, size-item view c.args.others.now c.loop-term.term-index c.term-item.result (omega arith) c.term-item.is, c.decreases), bounds)

pub write_operator-returns-clause-ok : goal.write_operator-returns-clause-ok
write_operator-returns-clause-ok g t c =
    let names = c.args.self.now.names.now in
    let vars = c.args.self.now.vars.now in
    let left = printing_of names vars (view c.args.left.now) in
    let right = printing_of names vars (view c.args.right.now) in
    joined_on_ok c.write_wrapped-2.result c.args.out.now.items c.write_wrapped.new.out.items c.write_sign.new.out.items (in_parentheses c.wraps_right.result right.text)
    (left_text c.args.product left) (sign_of c.args.sym.0) (right_text c.args.product right) c.write_wrapped-2.new.out.items
    (c.in_ok-write_wrapped.ensures.ok ∙ ap (λ b. c.args.out.now.items ++ in_parentheses b left.text) (c.wraps_left.ensures names vars))
    c.in_ok-write_sign.ensures.ok
    (ap (λ b. in_parentheses b right.text) (c.wraps_right.ensures names vars))
    c.write_wrapped-2.ensures.ok

pub write_from-returns-clause-kept : goal.write_from-returns-clause-kept
write_from-returns-clause-kept g t c = extended_on _ _ _ c.in_ok-write_next.ensures.kept (extended_on _ _ _ c.in_ok-write_others.ensures.kept c.write_byte.ensures.kept)

pub write_many-returns-clause-ok : goal.write_many-returns-clause-ok
write_many-returns-clause-ok g t c =
    call_on_ok c.write_from.result _ _ _ _ _ _ _ _ _ _ c.in_ok-write_opening.ensures.ok c.in_ok-write.ensures.ok c.in_ok-write_next.ensures.ok c.write_from.ensures.ok

pub write_two-returns-clause-ok : goal.write_two-returns-clause-ok
write_two-returns-clause-ok g t c =
    call_of_two_on_ok c.write_byte.result _ _ _ _ _ _ _ _ c.in_ok-write_opening.ensures.ok c.in_ok-write.ensures.ok c.in_ok-write_next.ensures.ok c.write_byte.ensures.ok

pub write_end-returns-in_err-write-clause-kept : goal.write_end-returns-in_err-write-clause-kept
write_end-returns-in_err-write-clause-kept g t c = extended_on _ _ _ c.in_ok-write_byte.ensures.kept c.in_err-write.ensures.kept

pub write_end-returns-clause-kept : goal.write_end-returns-clause-kept
write_end-returns-clause-kept g t c = extended_on _ _ _ c.in_ok-write_byte.ensures.kept (extended_on _ _ _ c.in_ok-write.ensures.kept c.write_byte-2.ensures.kept)

pub write_end-returns-clause-ok : goal.write_end-returns-clause-ok
write_end-returns-clause-ok g t c =
    joined_on_ok c.write_byte-2.result _ _ _ _ (124 ∷ []) _ _ _ c.in_ok-write_byte.ensures.ok c.in_ok-write.ensures.ok refl c.write_byte-2.ensures.ok

pub write_from-returns-in_err-write_others-clause-kept : goal.write_from-returns-in_err-write_others-clause-kept
write_from-returns-in_err-write_others-clause-kept g t c = extended_on _ _ _ c.in_ok-write_next.ensures.kept c.in_err-write_others.ensures.kept

pub write_from-returns-clause-ok : goal.write_from-returns-clause-ok
write_from-returns-clause-ok g t c =
    joined_on_ok c.write_byte.result _ _ _ _ (44 ∷ _) _ _ _ c.in_ok-write_next.ensures.ok c.in_ok-write_others.ensures.ok refl c.write_byte.ensures.ok

pub write_list-returns-in_err-write-clause-kept : goal.write_list-returns-in_err-write-clause-kept
write_list-returns-in_err-write-clause-kept g t c = extended_on _ _ _ c.in_ok-write_byte.ensures.kept c.in_err-write.ensures.kept

pub write_list-returns-clause-kept : goal.write_list-returns-clause-kept
write_list-returns-clause-kept g t c = extended_on _ _ _ c.in_ok-write_byte.ensures.kept (extended_on _ _ _ c.in_ok-write.ensures.kept c.write_tail.ensures.kept)

pub write_list-returns-clause-ok : goal.write_list-returns-clause-ok
write_list-returns-clause-ok g t c =
    joined_on_ok c.write_tail.result _ _ _ _ (91 ∷ []) _ _ _ c.in_ok-write_byte.ensures.ok c.in_ok-write.ensures.ok refl c.write_tail.ensures.ok

pub write_many-returns-in_err-write-clause-kept : goal.write_many-returns-in_err-write-clause-kept
write_many-returns-in_err-write-clause-kept g t c = extended_on _ _ _ c.in_ok-write_opening.ensures.kept c.in_err-write.ensures.kept

pub write_many-returns-in_err-write_next-clause-kept : goal.write_many-returns-in_err-write_next-clause-kept
write_many-returns-in_err-write_next-clause-kept g t c = extended_on _ _ _ c.in_ok-write_opening.ensures.kept (extended_on _ _ _ c.in_ok-write.ensures.kept c.in_err-write_next.ensures.kept)

pub write_many-returns-clause-kept : goal.write_many-returns-clause-kept
write_many-returns-clause-kept g t c = extended_on _ _ _ c.in_ok-write_opening.ensures.kept (extended_on _ _ _ c.in_ok-write.ensures.kept (extended_on _ _ _ c.in_ok-write_next.ensures.kept c.write_from.ensures.kept))

pub write_next-returns-clause-kept : goal.write_next-returns-clause-kept
write_next-returns-clause-kept g t c = extended_on _ _ _ c.in_ok-write_byte.ensures.kept c.write.ensures.kept

pub write_next-returns-clause-ok : goal.write_next-returns-clause-ok
write_next-returns-clause-ok g t c = two_on_ok c.write.result _ _ _ (44 ∷ []) _ c.in_ok-write_byte.ensures.ok c.write.ensures.ok

pub write_operator-returns-in_err-write_sign-clause-kept : goal.write_operator-returns-in_err-write_sign-clause-kept
write_operator-returns-in_err-write_sign-clause-kept g t c = extended_on _ _ _ c.in_ok-write_wrapped.ensures.kept c.in_err-write_sign.ensures.kept

pub write_operator-returns-clause-kept : goal.write_operator-returns-clause-kept
write_operator-returns-clause-kept g t c = extended_on _ _ _ c.in_ok-write_wrapped.ensures.kept (extended_on _ _ _ c.in_ok-write_sign.ensures.kept c.write_wrapped-2.ensures.kept)

pub write_two-returns-in_err-write-clause-kept : goal.write_two-returns-in_err-write-clause-kept
write_two-returns-in_err-write-clause-kept g t c = extended_on _ _ _ c.in_ok-write_opening.ensures.kept c.in_err-write.ensures.kept

pub write_two-returns-in_err-write_next-clause-kept : goal.write_two-returns-in_err-write_next-clause-kept
write_two-returns-in_err-write_next-clause-kept g t c = extended_on _ _ _ c.in_ok-write_opening.ensures.kept (extended_on _ _ _ c.in_ok-write.ensures.kept c.in_err-write_next.ensures.kept)

pub write_two-returns-clause-kept : goal.write_two-returns-clause-kept
write_two-returns-clause-kept g t c = extended_on _ _ _ c.in_ok-write_opening.ensures.kept (extended_on _ _ _ c.in_ok-write.ensures.kept (extended_on _ _ _ c.in_ok-write_next.ensures.kept c.write_byte.ensures.kept))

pub write_wrapped-returns-in_err-write-clause-kept : goal.write_wrapped-returns-in_err-write-clause-kept
write_wrapped-returns-in_err-write-clause-kept g t c = extended_on _ _ _ c.in_ok-write_byte.ensures.kept c.in_err-write.ensures.kept

pub write_wrapped-returns-in_ok-write-clause-kept : goal.write_wrapped-returns-in_ok-write-clause-kept
write_wrapped-returns-in_ok-write-clause-kept g t c = extended_on _ _ _ c.in_ok-write_byte.ensures.kept (extended_on _ _ _ c.in_ok-write.ensures.kept c.write_byte-then-wrap.ensures.kept)

pub write_tail-returns-in_err-write-in-Two-clause-kept : goal.write_tail-returns-in_err-write-in-Two-clause-kept
write_tail-returns-in_err-write-in-Two-clause-kept g t c = extended_on _ _ _ c.in_ok-write_byte-in-Two.ensures.kept c.in_err-write-in-Two.ensures.kept

pub write_tail-returns-in_ok-write-in-Two-clause-kept : goal.write_tail-returns-in_ok-write-in-Two-clause-kept
write_tail-returns-in_ok-write-in-Two-clause-kept g t c = extended_on _ _ _ c.in_ok-write_byte-in-Two.ensures.kept (extended_on _ _ _ c.in_ok-write-in-Two.ensures.kept c.write_tail.ensures.kept)

pub write_node-returns-in_err-write-in-One-clause-kept : goal.write_node-returns-in_err-write-in-One-clause-kept
write_node-returns-in_err-write-in-One-clause-kept g t c = extended_on _ _ _ c.in_ok-write_opening-in-One.ensures.kept c.in_err-write-in-One.ensures.kept

pub write_node-returns-in_ok-write-in-One-clause-kept : goal.write_node-returns-in_ok-write-in-One-clause-kept
write_node-returns-in_ok-write-in-One-clause-kept g t c = extended_on _ _ _ c.in_ok-write_opening-in-One.ensures.kept (extended_on _ _ _ c.in_ok-write-in-One.ensures.kept c.write_byte.ensures.kept)
