use Rattle.std.proofs.Common.{◌∙◌, ◌+◌, ap, arith, subst, sym}
use Rattle.std.proofs.lemmas.Result.{IfOk-weaker}
use Rattle.chr_semantics.specs.Bounds.{AreBelow}
use Rattle.chr_semantics.specs.Match.{Row}
use Rattle.chr_semantics.specs.declared.limits.TheConstants.{MAX_RULE_VARIABLES}
use Rattle.chr_semantics.specs.Verdict.{join_arguments, renamed}
use Rattle.chr_semantics.proofs.Below.{below_more_all}
use Rattle.chr_term.specs.TermView.{trees_view}
use Rattle.chr_look.specs.VerdictView.{row_view, rows_view}
use Rattle.chr_look.proofs.Joined.{all_renamed_below, first_of, heads_joined, popped, rest_of}
use Rattle.chr_look.proofs.joining.+join_heads.Goals as goal

pub rename_all-requires-clause-below : goal.rename_all-requires-clause-below
rename_all-requires-clause-below g t c =
    subst (λ ts. AreBelow MAX_RULE_VARIABLES (trees_view ts)) (sym c.as_slice.ensures.value) (first_of (λ h. AreBelow MAX_RULE_VARIABLES (trees_view h.1.items)) c.args.heads.now c.in-Some-Some.head.now c.in-Some-Some.heads.now c.in-Some-Some.ensures.cases.0 c.requires.heads)

pub join_arguments-requires-clause-lefts : goal.join_arguments-requires-clause-lefts
join_arguments-requires-clause-lefts g t c =
    let below = first_of (λ h. AreBelow MAX_RULE_VARIABLES (trees_view h.1.items)) c.args.heads.now c.in-Some-Some.head.now c.in-Some-Some.heads.now c.in-Some-Some.ensures.cases.0 c.requires.heads in
    let head = subst (λ ts. AreBelow MAX_RULE_VARIABLES (trees_view ts)) (sym c.as_slice.ensures.value) below in
    subst (AreBelow c.args.bindings.now.len) (sym (ap trees_view c.as_slice-in-Some-Some.ensures.value ∙ c.in_ok-args-in-Some-Some.ensures))
    (all_renamed_below c.args.n c.args.bindings.now.len (trees_view c.as_slice.result.now) c.requires.room head)

pub join_arguments-requires-clause-rights : goal.join_arguments-requires-clause-rights
join_arguments-requires-clause-rights g t c =
    let room = c.requires.room in
    let rows = ap rows_view c.in-Some-Some.ensures'.cases.0 in
    let below = first_of (λ (r : Row). AreBelow c.args.n r.1.args) (rows_view c.args.constraints.now) (row_view c.in-Some-Some.constraint.now) (rows_view c.in-Some-Some.constraints.now) rows c.requires.constraints in
    subst (AreBelow c.args.bindings.now.len) (sym c.as_slice-others.ensures.value) (below_more_all c.args.n c.args.bindings.now.len c.in-Some-Some.constraint.now.args (omega (arith, room)) below)

pub join_heads-requires : goal.join_heads-requires
join_heads-requires g t c κs within =
    let rows = ap rows_view c.in-Some-Some.ensures'.cases.0 in
    let shorter = c.in-Some-Some.ensures.cases.1 in
    let len = c.join_arguments.ensures.len in
    let room = c.requires.room in
    let small = c.requires.small in
    let few = c.requires.few in (
      omega (arith, shorter),
      (
        within,
        (
          rest_of (λ h. AreBelow MAX_RULE_VARIABLES (trees_view h.1.items)) c.args.heads.now c.in-Some-Some.head.now c.in-Some-Some.heads.now c.in-Some-Some.ensures.cases.0 c.requires.heads,
          (
            rest_of (λ (r : Row). AreBelow c.args.n r.1.args) (rows_view c.args.constraints.now) (row_view c.in-Some-Some.constraint.now) (rows_view c.in-Some-Some.constraints.now) rows c.requires.constraints,
            (omega (arith, len, room), (small, omega (arith, few, shorter))),
          ),
        ),
      ),
    )

pub returns-in_default-clause-joins : goal.returns-in_default-clause-joins
returns-in_default-clause-joins g t c =
    let u = c.args.bindings.now.subst in
    let v = c.join_arguments.new.bindings.subst in
    let head = c.in-Some-Some.head.now in
    let first = rw c.in_default.is at c.in_ok-parting-in-Some-Some.ensures.joins in
    let left = ap trees_view c.as_slice-in-Some-Some.ensures.value ∙ c.in_ok-args-in-Some-Some.ensures ∙ ap (λ ts. renamed c.args.n (trees_view ts)) c.as_slice.ensures.value in
    let same = ap (λ ts. join_arguments u 1 ts (trees_view c.as_slice-others.result.now)) left ∙ ap (join_arguments u 1 (renamed c.args.n (trees_view head.1.items))) c.as_slice-others.ensures.value in
    let longer = first.1 ∙ c.in_ok-push-in-Some-Some.ensures.items in
    let back = popped c.join_arguments.new.way.items c.args.way.now.items c.pop-number.new.self.items c.args.k _ longer c.join_arguments.new.way.ok.0 c.pop-number.ensures.rest in
    IfOk-weaker c.join_heads.result _ _
    (λ p joins flags j. heads_joined u v c.join_heads.new.bindings.subst c.args.n c.args.k j flags c.args.heads.now head c.in-Some-Some.heads.now (rows_view c.args.constraints.now) (row_view c.in-Some-Some.constraint.now) (rows_view c.in-Some-Some.constraints.now)
    c.args.way.now.items c.join_heads.new.way.items p c.in-Some-Some.ensures.cases.0 (ap rows_view c.in-Some-Some.ensures'.cases.0) (sym same ∙ first.0) (rw (sym back) (joins flags (j + 1))))
    c.join_heads.ensures.joins
