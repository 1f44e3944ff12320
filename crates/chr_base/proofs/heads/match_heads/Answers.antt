use Rattle.std.proofs.Common.{ap, arith, length, subst, sym}
use Rattle.std.proofs.lemmas.List.{length-map, length_push}
use Rattle.std.proofs.lemmas.Slice.Zip.{zip_end}
use Rattle.chr_store.specs.Rows.{row_atom}
use Rattle.chr_store.specs.Numbers.{numbers}
use Rattle.chr_store.specs.declared.id.Id.{Id}
use Rattle.chr_term.specs.TermView.{atom_view, trees_view}
use Rattle.chr_rules.specs.RuleView.{rule_view}
use Rattle.chr_find.proofs.RuleHeads.{heads_length}
use Rattle.chr_base.proofs.Matched.{IsMatchedTo, at_turn, matched_all, matched_more, matched_none, patterns_small}
use Rattle.chr_base.proofs.heads.match_heads.Goals as goal

pub fit_or_spoil-fits-requires : goal.fit_or_spoil-fits-requires
fit_or_spoil-fits-requires g c =
    let rule = c.args.rule.now in
    let head = c.in-Some.head.now in
    let turn = at_turn rule.heads.items rule.passive.items c.args.ids.now c.loop-head.yielded c.into_iter-head-iterator.result c.loop-head.head-iterator c.next.new.self c.next.result c.in-Some.head c.in-Some.id (cc) (cc) c.loop-head.yielded_by c.in-Some.is c.next.ensures.steps in (
      (omega arith),
      patterns_small (rule_view rule) (length c.loop-head.yielded) turn.0 (atom_view head.0 head.1.items) (trees_view c.as_slice.result.now) turn.1 turn.2 (ap trees_view (sym c.as_slice.ensures.value)) c.requires.bounded,
    )

pub loop-head-preserved-in-Some-row : goal.loop-head-preserved-in-Some-row
loop-head-preserved-in-Some-row g c =
    let rule = c.args.rule.now in
    let heads = (rule_view rule).heads in
    let head = c.in-Some.head.now in
    let turn = at_turn rule.heads.items rule.passive.items c.args.ids.now c.loop-head.yielded c.into_iter-head-iterator.result c.loop-head.head-iterator c.next.new.self c.next.result c.in-Some.head c.in-Some.id (cc) (cc) c.loop-head.yielded_by c.in-Some.is c.next.ensures.steps in
    subst (λ k. IsMatchedTo c.args.base.now.table heads (numbers c.args.ids.now) k c.fit_or_spoil-fits.new.matching) (sym (length_push c.loop-head.yielded (c.in-Some.head, c.in-Some.id)))
    (matched_more c.args.base.now.table heads (numbers c.args.ids.now) (length c.loop-head.yielded) turn.0 (atom_view head.0 head.1.items) c.in-Some.id.now.0 (row_atom c.in-Some-row.row.now) (trees_view c.as_slice.result.now) (trees_view c.as_slice-args.result.now) c.fit_or_spoil-fits.result c.loop-head.matching c.fit_or_spoil-fits.new.matching
    turn.1 turn.2 (ap trees_view (sym c.as_slice.ensures.value)) turn.3 turn.4 c.in-Some-row.ensures (sym c.as_slice-args.ensures.value) c.fit_or_spoil-fits.ensures.fits c.loop-head.invariant)

pub loop-head-preserved : goal.loop-head-preserved
loop-head-preserved g c =
    let rule = c.args.rule.now in
    let turn = at_turn rule.heads.items rule.passive.items c.args.ids.now c.loop-head.yielded c.into_iter-head-iterator.result c.loop-head.head-iterator c.next.new.self c.next.result c.in-Some.head c.in-Some.id (cc) (cc) c.loop-head.yielded_by c.in-Some.is c.next.ensures.steps in
    subst (λ k. IsMatchedTo c.args.base.now.table (rule_view rule).heads (numbers c.args.ids.now) k c.loop-head.matching) (sym (length_push c.loop-head.yielded (c.in-Some.head, c.in-Some.id)))
    (matched_none c.args.base.now.table (rule_view rule).heads (numbers c.args.ids.now) (length c.loop-head.yielded) turn.0 c.in-Some.id.now.0 c.loop-head.matching turn.3 turn.4 c.in_default.ensures c.loop-head.invariant)

pub returns : goal.returns
returns g c =
    let rule = c.args.rule.now in
    let end = zip_end rule.heads.items c.args.ids.now c.loop-head.yielded c.into_iter-head-iterator.result c.loop-head.head-iterator c.next.new.self c.next.result (cc) (cc) c.loop-head.yielded_by c.in-None.is c.next.ensures.steps in
    matched_all c.args.base.now.table (rule_view rule).heads (numbers c.args.ids.now) (length c.loop-head.yielded) c.loop-head.matching (omega (arith, end, length-map c.args.ids.now (λ (i : Id). i.0), heads_length rule.heads.items rule.passive.items)) c.loop-head.invariant
