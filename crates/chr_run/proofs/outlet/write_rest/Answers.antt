use Rattle.std.proofs.Common.{◌∙◌, ◌++◌, ap, drop, sym}
use Rattle.chr_semantics.specs.Changes.{Entries, Store}
use Rattle.chr_semantics.specs.Text.{lines_text, outcome}
use Rattle.chr_machine.specs.MachineView.{machine_view}
use Rattle.chr_run.specs.Sending.{end_lines}
use Rattle.chr_trace.proofs.Bodies.{lines_text-append}
use Rattle.chr_run.proofs.Parts.{on_ok}
use Rattle.chr_run.proofs.outlet.write_rest.Goals as goal

pub returns : goal.returns
returns g c =
    let m = machine_view c.args.machine.now in
    let ns = c.program.ensures.names in
    let rs = c.program.ensures.rules in
    let vs = c.var_names.ensures in
    let es = c.stack.ensures in
    let st = c.store.ensures in
    let su = c.bindings.ensures.subst in
    let len = c.bindings.ensures.len in
    let hs = c.list.ensures ∙ ap (λ (e : Entries). e.list) c.history.ensures in
    let ws = c.status.ensures in
    let lines = c.in_ok-extend_from_slice.ensures.items ∙ (ap (λ xs. xs ++ c.text_from.result.now) c.clear.ensures.items ∙ (c.text_from.ensures ∙ ap (λ ls. lines_text (drop c.args.sent ls)) c.lines.ensures)) in
    on_ok c.write.result
    (λ written. written
    ∙ (λ k. lines k ++ lines_text (outcome (ns k) (vs k) (rs k) (record { stack = es k; store = (let s : Store = st k in s.rows); subst = su k; history = hs k; next_id = (let s : Store = st k in s.next_id); next_var = len k; status = ws k })))
    ∙ sym (lines_text-append (drop c.args.sent m.lines) (end_lines m)))
    c.write.ensures.ok
