use Rattle.std.proofs.Common.{◌+◌, ◌==◌, ◌∙◌, true, ap, arith, subst, sym}
use Rattle.std.proofs.lemmas.List.{length-map}
use Rattle.chr_semantics.specs.Bounds.{AreBelow}
use Rattle.chr_semantics.specs.declared.limits.TheConstants.{MAX_RULE_VARIABLES}
use Rattle.chr_term.specs.TermView.{trees_view}
use Rattle.chr_bind.specs.Matching.{FitsOrSpoils}
use Rattle.chr_look.specs.VerdictView.{row_view, rows_view}
use Rattle.chr_look.proofs.Joined.{first_of, rest_of}
use Rattle.chr_look.proofs.Matched.{fits_empty, fits_next, is_equal}
use Rattle.chr_look.proofs.judging.+match_heads.Goals as goal

pub fit_or_spoil-requires : goal.fit_or_spoil-requires
fit_or_spoil-requires g t c = (
  (omega arith),
  subst (λ ts. AreBelow MAX_RULE_VARIABLES (trees_view ts)) (sym c.as_slice.ensures.value) (first_of (λ h. AreBelow MAX_RULE_VARIABLES (trees_view h.1.items)) c.args.heads.now c.in-Some-Some.head.now c.in-Some-Some.heads.now c.in-Some-Some.ensures.cases.0 c.requires),
)

pub match_heads-requires : goal.match_heads-requires
match_heads-requires g t c κs within =
    let shorter = c.in-Some-Some.ensures.cases.1 in
    (omega (arith, shorter), (within, ((omega arith), rest_of (λ h. AreBelow MAX_RULE_VARIABLES (trees_view h.1.items)) c.args.heads.now c.in-Some-Some.head.now c.in-Some-Some.heads.now c.in-Some-Some.ensures.cases.0 c.requires)))

pub returns-in-None-None : goal.returns-in-None-None
returns-in-None-None g t c flags j =
    fits_empty flags j c.args.heads.now (rows_view c.args.constraints.now) c.args.matching.now c.in-None-None.ensures.cases (length-map c.args.constraints.now row_view ∙ c.in-None-None.ensures'.cases)

pub returns-else-not-fit_or_spoil : goal.returns-else-not-fit_or_spoil
returns-else-not-fit_or_spoil g t c flags j =
    let head = c.in-Some-Some.head.now in
    let row = row_view c.in-Some-Some.constraint.now in
    let here = subst (λ ps. FitsOrSpoils true (trees_view ps) (trees_view c.as_slice-in-Some-Some.result.now) c.args.matching.now c.fit_or_spoil.new.matching) c.as_slice.ensures.value c.if-not-fit_or_spoil.ensures.fits in
    let fits = subst (λ ts. FitsOrSpoils true (trees_view head.1.items) ts c.args.matching.now c.fit_or_spoil.new.matching) c.as_slice-in-Some-Some.ensures.value here in
    fits_next flags j c.args.heads.now (rows_view c.args.constraints.now) head c.in-Some-Some.heads.now row (rows_view c.in-Some-Some.constraints.now) c.in-Some-Some.ensures.cases.0 (ap rows_view c.in-Some-Some.ensures'.cases.0)
    c.match_heads.result c.args.matching.now c.fit_or_spoil.new.matching c.match_heads.new.matching (is_equal c.ne.result (head.0.0 == row.1.sym) c.ne.ensures c.if-ne.false) fits (c.match_heads.ensures flags (j + 1))
