use Rattle.std.proofs.Common.{◌≡◌, ◌∙◌, ℕ, List, [], ap, length, sym}
use Rattle.std.proofs.lemmas.List.{length-map}
use Rattle.chr_semantics.specs.State.{Element}
use Rattle.chr_store.specs.HistoryView.{fired_view}
use Rattle.chr_trace.proofs.Stacks.{length-stack}
use Rattle.chr_trace.specs.State.{stack_view}
use Rattle.cordspar.proofs.run.counts_of.Goals as goal

pub returns : goal.returns
returns c =
    let o = c.args.outcome.now in
    let none : Element → List ℕ = λ _. [] in
    let stack : length o.stack.items ≡ length (stack_view o.stack.items) = length-stack none o.stack.items ∙ length-map (stack_view o.stack.items) none in
    record {
      trace = c.len.ensures;
      stack = c.len-2.ensures ∙ (o.stack.ok.0 ∙ stack);
      store = c.count_rows.ensures;
      history = sym (length-map c.list.result.now fired_view) ∙ ap length c.list.ensures;
    }
