use Rattle.std.proofs.Common.{◌≡◌, ◌∙◌, ◌++◌, List, ap, arith, append-nil, append_assoc, map, sym}
use Rattle.std.proofs.Math.Seq.{drop-length}
use Rattle.chr_semantics.specs.Text.{lines_text}
use Rattle.chr_term.proofs.Extensions.{extended_on}
use Rattle.chr_trace.specs.ScribeView.{element_by}
use Rattle.chr_trace.specs.State.{stack_view}
use Rattle.chr_trace.specs.declared.state.Elem.{Elem}
use Rattle.chr_trace.proofs.LineLists.{stack_lines-more}
use Rattle.chr_trace.proofs.Written.{not_written}
use Rattle.chr_trace.proofs.scribe.Scribe.write_elems.Goals as goal

pub loop-k-init : goal.loop-k-init
loop-k-init g c = record {
  text = sym (append-nil c.args.out.now.items) ∙ ap (λ (es : List (Elem g.row.A.Denot)). c.args.out.now.items ++ lines_text (map (element_by c.args.self.now) (stack_view es))) (sym (drop-length c.args.stack.now));
  kept = not_written _;
}

pub loop-k-preserved : goal.loop-k-preserved
loop-k-preserved g c = record {
  text = rw (stack_lines-more (element_by c.args.self.now) c.args.stack.now c.loop-k.k c.index-stack-k.result (omega arith) (omega arith) c.index-stack-k.is, ← append_assoc, ← append_assoc, ← c.loop-k.invariant.text, ← c.in_ok-write_elem.ensures.ok) c.in_ok-write_byte.ensures.ok;
  kept = extended_on _ _ _ c.loop-k.invariant.kept (extended_on _ _ _ c.in_ok-write_elem.ensures.kept c.in_ok-write_byte.ensures.kept);
}

pub returns-in_err-write_elem-clause-kept : goal.returns-in_err-write_elem-clause-kept
returns-in_err-write_elem-clause-kept g c = extended_on _ _ _ c.loop-k.invariant.kept c.in_err-write_elem.ensures.kept

pub returns-in_err-write_byte-clause-kept : goal.returns-in_err-write_byte-clause-kept
returns-in_err-write_byte-clause-kept g c =
    extended_on _ _ _ c.loop-k.invariant.kept (extended_on _ _ _ c.in_ok-write_elem.ensures.kept c.in_err-write_byte.ensures.kept)

pub returns-clause-ok : goal.returns-clause-ok
returns-clause-ok g c =
    let none : c.loop-k.k ≡ 0 = omega arith in
    rw none at c.loop-k.invariant.text
