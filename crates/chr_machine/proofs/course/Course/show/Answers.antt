use Rattle.std.proofs.Common.{◌≡◌, subst}
use Rattle.std.specs.Prelude.{OnOk}
use Rattle.chr_semantics.specs.Program.{Atom}
use Rattle.chr_semantics.specs.Text.{known_text}
use Rattle.chr_rules.specs.ProgramView.{names_of}
use Rattle.chr_store.specs.Rows.{row_atom}
use Rattle.chr_term.specs.TermView.{atom_over}
use Rattle.chr_base.specs.BaseView.{base_view, program_of}
use Rattle.chr_machine.proofs.ShownTexts.{resolved_of, shown_of}
use Rattle.chr_machine.proofs.course.Course.show.Goals as goal

pub returns-then-is_shown-clause-text : goal.returns-then-is_shown-clause-text
returns-then-is_shown-clause-text g c =
    let t = c.args.self.now in
    shown_of (names_of (program_of t.base)) t.var_names (base_view t.base) t.shown.id.0 c.args.id.0 (atom_over c.args.sym c.args.args.now) t.shown.text.items
    (t.shows (c.is_shown.ensures.right c.if-is_shown.true)) (c.is_shown.ensures.id c.if-is_shown.true) (c.is_shown.ensures.lives c.if-is_shown.true) c.requires

pub write_shown-requires : goal.write_shown-requires
write_shown-requires g c = resolved_of (base_view c.args.self.now.base) c.args.id.0 (atom_over c.args.sym c.args.args.now) (row_atom c.in_ok-row.row) c.requires c.in_ok-row.ensures

pub returns-clause-text : goal.returns-clause-text
returns-clause-text g c =
    let t = c.args.self.now in
    subst
    (λ (a : Atom). OnOk c.write_shown.result (c.write_shown.new.self.shown.text.items ≡ known_text (names_of (program_of t.base)) t.var_names a c.args.id.0))
    c.in_ok-row.ensures c.write_shown.ensures.text
