use Rattle.std.proofs.Common.{◌≡◌, ◌∙◌, ◌++◌, List, ap, append_assoc, subst, sym}
use Rattle.std.specs.Prelude.{OnOk}
use Rattle.chr_semantics.specs.Subst.{apply, value_at}
use Rattle.chr_rules.specs.declared.goal.Goal.{Goal}
use Rattle.chr_term.specs.TermView.{view}
use Rattle.chr_term.specs.declared.term.Term.{Term}
use Rattle.chr_trace.specs.ScribeView.{atom_by, goal_by, shown_atom, shown_goal, term_by}
use Rattle.chr_trace.proofs.Sides.{sides_text}
use Rattle.chr_trace.proofs.Written.{both_written, written_after}
use Rattle.chr_trace.proofs.scribe.Scribe.write_goal.Goals as goal

pub returns-in-Chr-clause-ok : goal.returns-in-Chr-clause-ok
returns-in-Chr-clause-ok g c =
    let w = c.args.self.now in
    subst (λ (x : Goal g.row.A.Denot). OnOk c.write_atom.result (c.write_atom.new.out.items ≡ c.args.out.now.items ++ goal_by w (shown_goal w x))) (sym c.in-Chr.is) c.write_atom.ensures.ok

pub returns-in_ok-write_text-in-Told-clause-ok : goal.returns-in_ok-write_text-in-Told-clause-ok
returns-in_ok-write_text-in-Told-clause-ok g c =
    let w = c.args.self.now in
    let s = w.bindings.now.subst in
    let left = term_by w (apply s (view c.in-Told.left)) in
    let right = term_by w (apply s (view c.in-Told.right)) in
    let whole = append_assoc left c.sign.result.now right ∙ (ap (λ sign. left ++ (sign ++ right)) c.sign.ensures ∙ (sym (sides_text w.names.now w.var_names.now (value_at s) c.in-Told.op (view c.in-Told.left) (view c.in-Told.right)) ∙ ap (λ (x : Goal g.row.A.Denot). goal_by w (shown_goal w x)) (sym c.in-Told.is))) in
    written_after c.write_term-in-Told.result c.args.out.now.items c.write_text.new.out.items _ (left ++ c.sign.result.now) right _
    (both_written _ c.write_term.new.out.items _ left c.sign.result.now c.in_ok-write_term-in-Told.ensures.ok c.in_ok-write_text-in-Told.ensures.ok)
    c.write_term-in-Told.ensures.ok whole
