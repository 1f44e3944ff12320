use Rattle.std.proofs.Common.{◌∙◌, sym}
use Rattle.std.proofs.lemmas.Option.{none-some}
use Rattle.std.proofs.lemmas.Result.{IfOk-weaker}
use Rattle.chr_rules.specs.ProgramView.{rules_of}
use Rattle.chr_store.specs.Rows.{row_atom}
use Rattle.chr_base.specs.BaseView.{base_view}
use Rattle.chr_base.proofs.Resumed.{found_on}
use Rattle.chr_base.proofs.Searched.{found_dead, found_first, found_next, found_none}
use Rattle.chr_base.proofs.base.Base.found.Goals as goal

pub returns-in-None-clause-found : goal.returns-in-None-clause-found
returns-in-None-clause-found g c = found_none c.args.self.now c.requires.fresh c.args.active.now c.in-None.ensures

pub returns-in-None-cursor-clause-found : goal.returns-in-None-cursor-clause-found
returns-in-None-cursor-clause-found g c =
    let b = c.args.self.now in
    let s = c.args.active.now in
    IfOk-weaker c.first.result _ _ (λ found f. found_first b c.requires.fresh s _ _ found f) c.first.ensures

pub returns-in-None-cursor-clause-dead : goal.returns-in-None-cursor-clause-dead
returns-in-None-cursor-clause-dead g c dead =
    absurd (none-some (row_atom c.in-Some.row.now) (sym (found_dead c.args.self.now c.requires.fresh c.args.active.now.id.0 dead) ∙ sym c.in-Some.ensures))

pub returns-in-Some-cursor-clause-found : goal.returns-in-Some-cursor-clause-found
returns-in-Some-cursor-clause-found g c =
    let b = c.args.self.now in
    let s = c.args.active.now in
    IfOk-weaker c.next.result _ _
    (λ found f. found_on (rules_of b.program.now) (base_view b) s c.in-Some-cursor.cursor found c.requires.of_program c.in-Some-cursor.ensures (found_next b c.requires.fresh s c.in-Some-cursor.cursor found f))
    c.next.ensures

pub returns-in-Some-cursor-clause-dead : goal.returns-in-Some-cursor-clause-dead
returns-in-Some-cursor-clause-dead g c dead =
    absurd (none-some (row_atom c.in-Some.row.now) (sym (found_dead c.args.self.now c.requires.fresh c.args.active.now.id.0 dead) ∙ sym c.in-Some.ensures))
