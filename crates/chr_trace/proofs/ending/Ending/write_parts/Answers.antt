use Rattle.std.proofs.Common.{◌≡◌, ◌++◌, OnOk, subst}
use Rattle.chr_semantics.specs.Names.{Names}
use Rattle.chr_semantics.specs.Text.{lines_text, outcome}
use Rattle.chr_rules.specs.ProgramView.{rules_of}
use Rattle.chr_trace.specs.EndingView.{ended_state}
use Rattle.chr_trace.proofs.Bodies.{text_written}
use Rattle.chr_trace.proofs.ending.Ending.write_parts.Goals as goal

pub returns-clause-ok : goal.returns-clause-ok
returns-clause-ok g c =
    let e = c.args.self.now in
    subst (λ (names : Names). OnOk c.write_history.result (c.write_history.new.out.items ≡ c.args.out.now.items ++ lines_text (outcome names e.var_names.now (rules_of e.program.now) (ended_state e)))) c.names.ensures
    (text_written c.write_history.result c.args.out.now.items _ _ _ _ _ c.write_end.new.out.items c.write_stack.new.out.items c.write_store.new.out.items c.write_bindings.new.out.items c.write_history.new.out.items c.in_ok-write_end.ensures.ok c.in_ok-write_stack.ensures.ok c.in_ok-write_store.ensures.ok c.in_ok-write_bindings.ensures.ok c.write_history.ensures.ok)
