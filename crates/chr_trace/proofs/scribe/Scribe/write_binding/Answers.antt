use Rattle.std.proofs.Common.{◌≡◌, ◌∙◌, ◌++◌, ◌∷◌, List, [], ℕ, ap, append-nil, append_assoc, sym}
use Rattle.std.specs.Prelude.{codes}
use Rattle.chr_semantics.specs.Names.{var_name}
use Rattle.chr_semantics.specs.Subst.{apply, value_at}
use Rattle.chr_semantics.specs.Text.{lines_text}
use Rattle.chr_semantics.specs.Tree.{Tree}
use Rattle.chr_trace.specs.ScribeView.{term_by}
use Rattle.chr_trace.proofs.Bound.{one_line}
use Rattle.chr_trace.proofs.Written.{both_written, written_after}
use Rattle.chr_trace.proofs.scribe.Scribe.write_binding.Goals as goal

-- the line of a binding, from its parts
line_is : (name value : List ℕ) → ((name ++ codes " = ") ++ value) ++ 10 ∷ [] ≡ lines_text ((name ++ (codes " = " ++ value)) ∷ [])
line_is name value = ap (λ ys. ys ++ 10 ∷ []) (append_assoc name (codes " = ") value) ∙ sym (append-nil ((name ++ (codes " = " ++ value)) ++ 10 ∷ []))

pub returns-in_ok-write_term-in-Some-clause-ok : goal.returns-in_ok-write_term-in-Some-clause-ok
returns-in_ok-write_term-in-Some-clause-ok g c =
    let w = c.args.self.now in
    let s = w.bindings.now.subst in
    let name = c.in-Some.name.now in
    let value = term_by w (value_at s c.args.var) in
    let shown = c.in_ok-write_term-in-Some.ensures.ok in
    let line = one_line w.names.now w.var_names.now s c.args.var (var_name w.var_names.now c.args.var) name c.in-Some.ensures in
    written_after c.write_byte.result c.args.out.now.items c.write_term.new.out.items _ ((name ++ codes " = ") ++ value) (10 ∷ []) _
    (both_written _ c.write_text-in-Some.new.out.items _ (name ++ codes " = ") value
    (both_written _ c.write_text.new.out.items _ name (codes " = ") c.in_ok-write_text-in-Some.ensures.ok c.in_ok-write_text-in-Some-2.ensures.ok) shown)
    c.write_byte.ensures.ok (line_is name value ∙ ap lines_text (sym line))
