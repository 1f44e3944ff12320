use Rattle.std.proofs.Common.{◌∙◌, ap, refl, sym}
use Rattle.std.proofs.lemmas.Result.{on_ok_weaker}
use Rattle.chr_semantics.specs.Search.{atom_of}
use Rattle.chr_store.specs.Numbers.{numbers}
use Rattle.chr_store.specs.Rows.{row_atom}
use Rattle.chr_look.specs.VerdictView.{rows_view}
use Rattle.chr_look.proofs.Pushed.{none_more, one_more, pushed_row}
use Rattle.chr_look.proofs.judging.+push_constraints.Goals as goal

pub returns-in-None : goal.returns-in-None
returns-in-None g t c =
    on_ok_weaker c.push_constraints.result
    (λ h s store subst. none_more s c.in-Some.id.now.0 (numbers c.in-Some.ids.now) (numbers c.args.ids.now) (rows_view c.args.constraints.now.items) (rows_view c.push_constraints.new.constraints.items) (ap numbers c.in-Some.ensures.cases.0)
    (ap (λ rs. atom_of rs c.in-Some.id.now.0) store ∙ sym c.in-None.ensures) (h s store subst))
    c.push_constraints.ensures

pub returns-in_ok-push-in-Some-row : goal.returns-in_ok-push-in-Some-row
returns-in_ok-push-in-Some-row g t c =
    on_ok_weaker c.push_constraints-in-Some-row.result
    (λ h s store subst. one_more s c.in-Some.id.now.0 (numbers c.in-Some.ids.now) (numbers c.args.ids.now) (row_atom c.in-Some-row.row.now) (rows_view c.args.constraints.now.items) (rows_view c.push.new.self.items) (rows_view c.push_constraints-in-Some-row.new.constraints.items) (ap numbers c.in-Some.ensures.cases.0)
    (ap (λ rs. atom_of rs c.in-Some.id.now.0) store ∙ sym c.in-Some-row.ensures)
    (pushed_row c.args.constraints.now.items c.push.new.self.items _ s.subst c.args.bindings.now.subst (row_atom c.in-Some-row.row.now) c.in_ok-push-in-Some-row.ensures.items refl c.in_ok-resolve_args-in-Some-row.ensures subst) (h s store subst))
    c.push_constraints-in-Some-row.ensures
