use Rattle.std.proofs.Common.{rules, ◌≡◌, ◌∙◌, [], ◌∷◌, ◌++◌, ap, sym, subst, arith, map, length, IfOk}
use Rattle.std.proofs.lemmas.List.{map-append}
use Rattle.chr_semantics.specs.Syntax.{call, exprs_of, list, nil}
use Rattle.chr_semantics.specs.Meaning.{scope, tree_from}
use Rattle.chr_semantics.specs.Tree.{node, none}
use Rattle.std.specs.Prelude.{string_bytes}
use Rattle.chr_term.specs.TermView.{trees_view, view}
use Rattle.chr_read.specs.SyntaxView.{chain, operand_views, view as syntax_view, views}
use Rattle.chr_rules.specs.Turns.{list_of, operands_from, tree_turn}
use Rattle.chr_rules.specs.Weight.{operand_weights, weight}
use Rattle.chr_rules.proofs.Grown.{grows_both}
use Rattle.chr_rules.proofs.Turned.{all_dropped, atom_made, chain_made, list_made, ok_answers, operand_done, turn_done}
use Rattle.chr_rules.proofs.Weighs.{chain_weighs, element_weighs}
use Rattle.chr_rules.proofs.Within.{call_is, chain_is, count_views, list_is, list_with_end_is}
use Rattle.chr_rules.proofs.trees.+tree.Goals as goal

pub atom-returns-clause-atom : goal.atom-returns-clause-atom
atom-returns-clause-atom g t c =
    atom_made c.args.names.now c.args.variables.now c.args.name.now (views c.args.args.now) (length c.args.args.now) c.in_ok-sym.sym.0 c.symbol.new.names (scope c.trees.new.names c.trees.new.variables, map view c.in_ok-args.args.items)
    (sym (count_views c.args.args.now)) c.in_ok-sym.ensures.names c.in_ok-sym.ensures.symbol c.in_ok-args.ensures.trees

pub list-returns-clause-list : goal.list-returns-clause-list
list-returns-clause-list g t c =
    let here = scope c.args.names.now c.args.variables.now in
    let after = scope c.trees.new.names c.trees.new.variables in
    let built = map view c.in_ok-trees.trees.items in
    let empty : view c.in_ok-empty.empty ≡ node 0 none = c.in_ok-empty.ensures ∙ ap (λ ts. node 0 (trees_view ts)) c.new.ensures.items in
    let whole : (after, list_of built (node 0 none)) ≡ tree_from here (list (views c.args.items.now) nil) =
    sym (list_made here (views c.args.items.now) nil ∙ ap (λ q. (q.0, list_of q.1 (node 0 none))) (sym c.in_ok-trees.ensures.trees)) in
    ok_answers _ _ c.list_of.result (λ tree h. ap (λ t. (after, t)) (h ∙ ap (list_of built) empty) ∙ whole) c.list_of.ensures

pub list_with_end-returns-clause-list : goal.list_with_end-returns-clause-list
list_with_end-returns-clause-list g t c =
    let here = scope c.args.names.now c.args.variables.now in
    let after = scope c.tree.new.names c.tree.new.variables in
    let built = map view c.in_ok-trees.trees.items in
    let end = syntax_view c.args.end.now in
    let whole : (after, list_of built (view c.in_ok-last.last)) ≡ tree_from here (list (views c.args.items.now) end) =
    sym (list_made here (views c.args.items.now) end
    ∙ ap (λ q. ((tree_from q.0 end).0, list_of q.1 (tree_from q.0 end).1)) (sym c.in_ok-trees.ensures.trees)
    ∙ ap (λ r. (r.0, list_of built r.1)) (sym c.in_ok-last.ensures.tree)) in
    ok_answers _ _ c.list_of.result (λ tree h. ap (λ t. (after, t)) h ∙ whole) c.list_of.ensures

pub chain-tree-requires-in-loop-other : goal.chain-tree-requires-in-loop-other
chain-tree-requires-in-loop-other g t c κs within =
    let less = element_weighs (λ x. weight x.1) c.args.others.now c.loop-other.other-index c.other-item.result c.loop-other-test.true c.other-item.is in
    (omega (arith, c.decreases, less), search rules)

pub chain-loop-other-preserved : goal.chain-loop-other-preserved
chain-loop-other-preserved g t c = record {
  same = c.loop-other.invariant.same
      ∙ operand_done (scope c.loop-other.names c.loop-other.variables, view c.loop-other.whole) c.args.others.now c.loop-other.other-index c.other-item.result (scope c.tree-in-loop-other.new.names c.tree-in-loop-other.new.variables)
      (view c.in_ok-right.right) (view c.in_ok-whole-2.whole) c.operator_symbol.result.0 c.loop-other-test.true c.other-item.is c.in_ok-right.ensures.tree c.operator_symbol.ensures c.in_ok-whole-2.ensures;
  grows = grows_both _ _ _ c.loop-other.invariant.grows c.tree-in-loop-other.ensures.grows;
}

pub chain-returns-clause-chain : goal.chain-returns-clause-chain
chain-returns-clause-chain g t c =
    sym (chain_made (scope c.args.names.now c.args.variables.now) (syntax_view c.args.first.now) c.args.others.now
    ∙ ap (λ q. operands_from q c.args.others.now) (sym c.in_ok-whole.ensures.tree)
    ∙ c.loop-other.invariant.same
    ∙ ap (operands_from (scope c.loop-other.names c.loop-other.variables, view c.loop-other.whole)) (all_dropped c.args.others.now c.loop-other.other-index c.loop-other-test.false))

pub tree-chain-requires : goal.tree-chain-requires
tree-chain-requires g t c κs within =
    let whole = chain_weighs c.args.expr.now c.in-Chain.first c.in-Chain.others c.in-Chain.is in
    let first = ap weight c.deref-in-Chain.ensures in
    let others = ap operand_weights c.as_slice-in-Chain.ensures.value in
    (omega (arith, c.decreases, whole, first, others), search rules)

pub tree-returns-in_ok-sym-in-Call-clause-tree : goal.tree-returns-in_ok-sym-in-Call-clause-tree
tree-returns-in_ok-sym-in-Call-clause-tree g t c =
    let here = scope c.args.names.now c.args.variables.now in
    let after = scope c.atom.new.names c.atom.new.variables in
    let whole =
    ap (λ a. (a.0, node a.1.sym a.1.args)) c.in_ok-sym-in-Call.ensures.atom
    ∙ ap (λ w. tree_from here (call w (exprs_of (views c.as_slice.result.now)))) c.as_str-in-Call.ensures.value
    ∙ ap (λ es. tree_from here (call (string_bytes c.in-Call.name) (exprs_of (views es)))) c.as_slice.ensures.value
    ∙ ap (tree_from here) (sym (call_is c.args.expr.now c.in-Call.name c.in-Call.args c.in-Call.is)) in
    ok_answers _ _ c.node.result (λ tree h. ap (λ u. (after, u)) h ∙ whole) c.node.ensures

pub tree-returns-in-List-clause-tree : goal.tree-returns-in-List-clause-tree
tree-returns-in-List-clause-tree g t c =
    subst (λ e. IfOk c.list.result (λ tree. (scope c.list.new.names c.list.new.variables, view tree) ≡ tree_from (scope c.args.names.now c.args.variables.now) e))
    (ap (λ es. list (views es) nil) c.as_slice-in-List.ensures.value ∙ sym (list_is c.args.expr.now c.in-List.items c.in-List.is))
    c.list.ensures.list

pub tree-returns-in-ListWithEnd-clause-tree : goal.tree-returns-in-ListWithEnd-clause-tree
tree-returns-in-ListWithEnd-clause-tree g t c =
    subst (λ e. IfOk c.list_with_end.result (λ tree. (scope c.list_with_end.new.names c.list_with_end.new.variables, view tree) ≡ tree_from (scope c.args.names.now c.args.variables.now) e))
    (ap (λ es. list (views es) (syntax_view c.deref.result.now)) c.as_slice-in-ListWithEnd.ensures.value ∙ ap (λ e. list (views c.in-ListWithEnd.items.items) (syntax_view e)) c.deref.ensures ∙ sym (list_with_end_is c.args.expr.now c.in-ListWithEnd.items c.in-ListWithEnd.end c.in-ListWithEnd.is))
    c.list_with_end.ensures.list

pub tree-returns-in-Chain-clause-tree : goal.tree-returns-in-Chain-clause-tree
tree-returns-in-Chain-clause-tree g t c =
    subst (λ e. IfOk c.chain.result (λ tree. (scope c.chain.new.names c.chain.new.variables, view tree) ≡ tree_from (scope c.args.names.now c.args.variables.now) e))
    (ap (λ xs. chain (syntax_view c.deref-in-Chain.result.now) (operand_views xs)) c.as_slice-in-Chain.ensures.value ∙ ap (λ e. chain (syntax_view e) (operand_views c.in-Chain.others.items)) c.deref-in-Chain.ensures ∙ sym (chain_is c.args.expr.now c.in-Chain.first c.in-Chain.others c.in-Chain.is))
    c.chain.ensures.chain

pub trees-tree-requires : goal.trees-tree-requires
trees-tree-requires g t c κs within =
    let less = element_weighs weight c.args.exprs.now c.loop-expr.expr-index c.expr-item.result c.loop-expr-test.true c.expr-item.is in
    (omega (arith, c.decreases, less), search rules)

pub trees-loop-expr-preserved : goal.trees-loop-expr-preserved
trees-loop-expr-preserved g t c =
    let after = scope c.tree.new.names c.tree.new.variables in
    let done = map view c.loop-expr.trees.items in
    record {
      same = c.loop-expr.invariant.same
          ∙ turn_done tree_turn syntax_view (scope c.loop-expr.names c.loop-expr.variables, done) (after, map view c.push.new.self.items) c.args.exprs.now c.loop-expr.expr-index c.expr-item.result c.loop-expr-test.true c.expr-item.is
          (ap (λ xs. (after, map view xs)) c.in_ok-push.ensures.items
          ∙ ap (λ ts. (after, ts)) (map-append view c.loop-expr.trees.items (c.in_ok-tree.field-0 ∷ []))
          ∙ ap (λ r. (r.0, done ++ r.1 ∷ [])) c.in_ok-tree.ensures.tree);
      grows = grows_both _ _ _ c.loop-expr.invariant.grows c.tree.ensures.grows;
    }

pub atom-returns-in_err-args-clause-grows : goal.atom-returns-in_err-args-clause-grows
atom-returns-in_err-args-clause-grows g t c = grows_both _ _ _ c.symbol.ensures.grows c.trees.ensures.grows

pub atom-returns-clause-grows : goal.atom-returns-clause-grows
atom-returns-clause-grows g t c = grows_both _ _ _ c.symbol.ensures.grows c.trees.ensures.grows

pub list_with_end-returns-in_err-last-clause-grows : goal.list_with_end-returns-in_err-last-clause-grows
list_with_end-returns-in_err-last-clause-grows g t c = grows_both _ _ _ c.trees.ensures.grows c.tree.ensures.grows

pub list_with_end-returns-clause-grows : goal.list_with_end-returns-clause-grows
list_with_end-returns-clause-grows g t c = grows_both _ _ _ c.trees.ensures.grows c.tree.ensures.grows

pub trees-returns-in_err-tree-clause-grows : goal.trees-returns-in_err-tree-clause-grows
trees-returns-in_err-tree-clause-grows g t c = grows_both _ _ _ c.loop-expr.invariant.grows c.tree.ensures.grows

pub trees-returns-in_err-push-clause-grows : goal.trees-returns-in_err-push-clause-grows
trees-returns-in_err-push-clause-grows g t c = grows_both _ _ _ c.loop-expr.invariant.grows c.tree.ensures.grows

pub chain-returns-in_err-right-clause-grows : goal.chain-returns-in_err-right-clause-grows
chain-returns-in_err-right-clause-grows g t c = grows_both _ _ _ c.loop-other.invariant.grows c.tree-in-loop-other.ensures.grows

pub chain-returns-in_err-whole-2-clause-grows : goal.chain-returns-in_err-whole-2-clause-grows
chain-returns-in_err-whole-2-clause-grows g t c = grows_both _ _ _ c.loop-other.invariant.grows c.tree-in-loop-other.ensures.grows
