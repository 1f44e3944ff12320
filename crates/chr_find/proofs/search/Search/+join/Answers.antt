use Rattle.std.proofs.Common.{◌≡◌, ◌∙◌, ◌<◌, ◌==◌, ◌∷◌, ◌++◌, [], Bool, List, None, Some, ap, arith, false, get_or, length, refl, subst, sym, true, vec_len, ℕ}
use Rattle.std.specs.Prelude.{filter, slice_get}
use Rattle.std.proofs.lemmas.Bool.{eq-eqb, ne_eqb}
use Rattle.chr_semantics.specs.Bounds.{AreBelow}
use Rattle.chr_rules.specs.RuleView.{rule_view}
use Rattle.chr_semantics.proofs.Lists.{All-got}
use Rattle.chr_semantics.specs.Match as semantics
use Rattle.chr_semantics.specs.Program.{Head, Atom}
use Rattle.chr_semantics.specs.declared.limits.TheConstants.{MAX_RULE_VARIABLES}
use Rattle.chr_semantics.specs.Match.{fit_atom}
use Rattle.chr_store.specs.Rows.{row_atom}
use Rattle.chr_store.specs.declared.id.Id.{Id}
use Rattle.chr_store.specs.declared.row.Row.{Row}
use Rattle.chr_term.specs.TermView.{atom_view}
use Rattle.chr_find.specs.Enough.{TakesAs}
use Rattle.chr_find.specs.Joins.{WalkIs}
use Rattle.chr_find.specs.Partial.{WalkCounts}
use Rattle.chr_find.specs.PlanView.{lookups_of}
use Rattle.chr_find.specs.IdRows.{id_rows}
use Rattle.chr_find.specs.IndexKeys.{in_bucket}
use Rattle.chr_find.specs.IndexSize.{index_size}
use Rattle.chr_find.specs.RowSpans.{span_rows}
use Rattle.chr_find.specs.SearchIs.{WalkFinds, WalkFits, threshold_at, if_found}
use Rattle.chr_bind.specs.Matching.{AgreesWith}
use Rattle.chr_semantics.specs.Subst.{Subst}
use Rattle.chr_bind.proofs.Marked.{marks_covered}
use Rattle.chr_find.specs.Shown.{IsShown}
use Rattle.chr_find.proofs.HeadFits.{head_takes}
use Rattle.chr_find.specs.declared.bucket_rows.RowSpan.{RowSpan}
use Rattle.chr_find.proofs.IndexRows.{rows_length}
use Rattle.chr_find.proofs.JoinEnds.{at_own, from_walk}
use Rattle.chr_find.proofs.JoinSteps.{row_out, row_taken}
use Rattle.chr_find.proofs.RuleHeads.{head_at, heads_length}
use Rattle.std.proofs.lemmas.List.{append_assoc}
use Rattle.chr_find.proofs.SearchParts.{after_shorter, before_shorter, head_there, join_longer, level_less, longer_length, ok_more}
use Rattle.chr_find.proofs.TrailSteps as steps
use Rattle.chr_find.proofs.TrailSteps.{counts_longer, free_longer}
use Rattle.chr_find.proofs.Leads.{leads_as, leads_equal, leads_first, leads_nothing, leads_on}
use Rattle.chr_find.proofs.TrailVisits.{fits_past}
use Rattle.chr_find.proofs.Visits.{finds_nothing, found_past}
use Rattle.chr_find.proofs.Walk.{walk_shown}
use Rattle.chr_find.proofs.WalkSpans.{span_parts, span_passed}
use Rattle.chr_find.proofs.search.Search.+join.Goals as goal

pub join-returns-then-level-self : goal.join-returns-then-level-self
join-returns-then-level-self g t c =
    let s = c.args.self.now in
    let p = c.args.prefix.now in
    let rule = rule_view s.rule.now in
    let x : (x : Head) × _ = head_there rule.heads (length p.partners) (omega (arith, heads_length s.rule.now.heads.items s.rule.now.passive.items, c.if-level-len.false, c.len.ensures, c.len-level.ensures.len)) in
    let long = longer_length p.partners c.longer.result.partners _ c.longer.ensures.partners in
    let here : ((length p.partners) == s.place) ≡ true = eq-eqb (length p.partners) s.place (sym c.len-level.ensures.len ∙ c.if-level-self.true) in
    ok_more _ _ c.join.result
    (λ found j. record {
      finds = λ rows shown.
          at_own rows (g.P.FiringHistory.history s.past.now) s.number (rule_view s.rule.now) s.place s.own.0 (length p.partners) p.partners c.args.matching.now s.from s.quiet (threshold_at (g.P.FiringHistory.history s.past.now) s p) x.0 x.1 c.longer.result.partners (if_found found c.join.new.reached.partners) c.args.reached.now.tried.lists c.join.new.reached.tried.lists
          c.longer.ensures.partners here
          (join_longer rows (g.P.FiringHistory.history s.past.now) s.number rule s.place s.own.0 (length p.partners) (length c.longer.result.partners) c.longer.result.partners c.args.matching.now s.from s.quiet c.longer.result.mode s.after.now _ (if_found found c.join.new.reached.partners) c.args.reached.now.tried.lists c.join.new.reached.tried.lists long c.longer.ensures.threshold (j.finds rows shown));
      same = j.same;
      fits = λ all rows shown.
          steps.at_own rows (g.P.FiringHistory.history s.past.now) s.number rule s.place s.own.0 (length p.partners) p.partners c.args.matching.now x.0 x.1 c.longer.result.partners found c.args.reached.now.tried.partial c.join.new.reached.tried.partial
          c.longer.ensures.partners here
          (counts_longer rows (g.P.FiringHistory.history s.past.now) s.number rule s.place s.own.0 (length p.partners) (length c.longer.result.partners) c.longer.result.partners c.args.matching.now found c.args.reached.now.tried.partial c.join.new.reached.tried.partial long
          (j.fits (free_longer c.longer.result.mode s.after.now (length p.partners) (length c.longer.result.partners) s.from s.own.0 _ long c.longer.ensures.threshold all) rows shown));
    })
    c.join.ensures

pub join-visit_bucket-requires : goal.join-visit_bucket-requires
join-visit_bucket-requires g t c κs within =
    let s = c.args.self.now in
    let l : (length c.args.prefix.now.partners) < vec_len s.rule.now.heads = omega (arith, c.if-level-len.false, c.len.ensures, c.len-level.ensures.len) in
    let smaller = level_less (vec_len s.rule.now.heads) (length c.args.prefix.now.partners) (index_size s.rows.now) (length (span_rows c.rows.result)) l c.rows.ensures.some in
    (omega (arith, smaller, c.decreases), (within.0, (within.1, ((omega arith), (l, (c.least-least.ensures.bound, c.least-least.ensures.quiet))))))

pub join-returns : goal.join-returns
join-returns g t c =
    let s = c.args.self.now in
    let p = c.args.prefix.now in
    let lt : (length p.partners) < length s.rule.now.heads.items = omega (arith, c.if-level-len.false, c.len.ensures, c.len-level.ensures.len) in
    let x = head_at s.rule.now.heads.items s.rule.now.passive.items (length p.partners) c.index.result.now lt (c.index.ensures ∙ ap (λ (k : ℕ). get_or s.rule.now.heads.items k c.index.result.now) c.len-level.ensures.len) in
    let apart : ((length p.partners) == s.place) ≡ false = ne_eqb (length p.partners) s.place (λ e. c.if-level-self.false (c.len-level.ensures.len ∙ e)) in
    let shows : (rows : List semantics.Row) → IsShown (lookups_of s.plan.now) s.rows.now rows → span_rows c.rows.result ≡ filter (λ row. in_bucket (lookups_of s.plan.now row.1.sym) row.1 c.bucket_for-bucket.result) rows =
    λ rows shown. c.rows.ensures.rows ∙ walk_shown (lookups_of s.plan.now) c.bucket_for-bucket.result s.rows.now rows c.rows.ensures.ascending shown.rises shown.shows in
    let enough : (m : Subst) → AgreesWith c.args.matching.now m → (row : semantics.Row) → in_bucket (lookups_of s.plan.now row.1.sym) row.1 c.bucket_for-bucket.result ≡ false → fit_atom x.0.atom row.1 m ≡ None =
    λ m agrees row out. ap (λ (h : Atom). fit_atom h row.1 m) (x.2 ∙ ap (atom_view c.index.result.now.0) (sym c.as_slice.ensures.value)) ∙ c.bucket_for-bucket.ensures m agrees row out in
    ok_more _ _ c.visit_bucket.result
    (λ found w. record {
      finds = λ rows shown.
          from_walk rows (g.P.FiringHistory.history s.past.now) s.number (rule_view s.rule.now) s.place s.own.0 (length p.partners) p.partners c.args.matching.now s.from s.quiet (threshold_at (g.P.FiringHistory.history s.past.now) s p) x.0 x.1 (λ row. in_bucket (lookups_of s.plan.now row.1.sym) row.1 c.bucket_for-bucket.result) (if_found found c.visit_bucket.new.reached.partners) c.args.reached.now.tried.lists c.visit_bucket.new.reached.tried.lists
          apart enough
          (subst (λ (walked : List semantics.Row). WalkIs rows (g.P.FiringHistory.history s.past.now) s.number (rule_view s.rule.now) s.place s.own.0 (length p.partners) p.partners c.args.matching.now s.from s.quiet (threshold_at (g.P.FiringHistory.history s.past.now) s p) x.0.atom walked (if_found found c.visit_bucket.new.reached.partners) c.args.reached.now.tried.lists c.visit_bucket.new.reached.tried.lists)
          (shows rows shown) (w.finds x.0 x.1 rows shown));
      same = w.same;
      fits = λ all rows shown.
          steps.from_walk rows (g.P.FiringHistory.history s.past.now) s.number (rule_view s.rule.now) s.place s.own.0 (length p.partners) p.partners c.args.matching.now x.0 x.1 (λ row. in_bucket (lookups_of s.plan.now row.1.sym) row.1 c.bucket_for-bucket.result) found c.args.reached.now.tried.partial c.saturating_add-reached.result c.visit_bucket.new.reached.tried.partial
          apart (omega (arith, c.saturating_add-reached.ensures)) enough
          (subst (λ (walked : List semantics.Row). WalkCounts rows (g.P.FiringHistory.history s.past.now) s.number (rule_view s.rule.now) s.place s.own.0 (length p.partners) p.partners c.args.matching.now x.0.atom walked found c.saturating_add-reached.result c.visit_bucket.new.reached.tried.partial)
          (shows rows shown) (w.fits all x.0 x.1 rows shown));
    })
    c.visit_bucket.ensures

pub join_row-takes-requires : goal.join_row-takes-requires
join_row-takes-requires g t c =
    let s = c.args.self.now in
    let x = head_at s.rule.now.heads.items s.rule.now.passive.items (length c.args.prefix.now.partners) c.index-head.result.now (omega (arith, c.requires)) (c.index-head.ensures ∙ ap (λ (k : ℕ). get_or s.rule.now.heads.items k c.index-head.result.now) c.len.ensures.len) in
    (omega arith, subst (λ (h : Atom). AreBelow MAX_RULE_VARIABLES h.args) x.2 (All-got (λ (h : Head). AreBelow MAX_RULE_VARIABLES h.atom.args) (rule_view s.rule.now).heads (length c.args.prefix.now.partners) x.0 x.1 s.searchable.small.below))

pub join_row-returns-then-takes : goal.join_row-returns-then-takes
join_row-returns-then-takes g t c =
    let s = c.args.self.now in
    let p = c.args.prefix.now in
    let row : semantics.Row = (c.args.id.0, row_atom c.args.row.now) in
    let long = longer_length p.partners c.longer.result.partners _ c.longer.ensures.partners in
    let taken : (x : Head) → slice_get (rule_view s.rule.now).heads (length p.partners) ≡ Some x → TakesAs true (s.own.0 ∷ p.partners) x.atom row c.args.matching.now c.takes.new.matching =
    λ x at. head_takes s.rule.now.heads.items s.rule.now.passive.items (length p.partners) c.index-head.result.now x (omega (arith, c.requires)) (c.index-head.ensures ∙ ap (λ (k : ℕ). get_or s.rule.now.heads.items k c.index-head.result.now) c.len.ensures.len) at c.takes.result true c.if-takes.true c.args.matching.now c.takes.new.matching (s.own.0 ∷ p.partners) row c.takes.ensures.takes in
    ok_more _ _ c.join.result
    (λ found j. record {
      finds = λ x at rows shown.
          row_taken rows (g.P.FiringHistory.history s.past.now) s.number (rule_view s.rule.now) s.place s.own.0 (length p.partners) p.partners c.args.matching.now s.from s.quiet (threshold_at (g.P.FiringHistory.history s.past.now) s p) x.atom row c.longer.result.partners c.takes.new.matching (if_found found c.join.new.reached.partners) c.args.reached.now.tried.lists c.join.new.reached.tried.lists
          c.longer.ensures.partners (taken x at)
          (join_longer rows (g.P.FiringHistory.history s.past.now) s.number (rule_view s.rule.now) s.place s.own.0 (length p.partners) (length c.longer.result.partners) c.longer.result.partners c.takes.new.matching s.from s.quiet c.longer.result.mode s.after.now _ (if_found found c.join.new.reached.partners) c.args.reached.now.tried.lists c.join.new.reached.tried.lists long c.longer.ensures.threshold (j.finds rows shown));
      keeps = λ none x u is. j.same none x ∙ c.takes.ensures.kept x u is;
      fits = λ all x at rows shown.
          steps.row_taken rows (g.P.FiringHistory.history s.past.now) s.number (rule_view s.rule.now) s.place s.own.0 (length p.partners) p.partners c.args.matching.now x.atom row c.longer.result.partners c.takes.new.matching found c.args.reached.now.tried.partial c.join.new.reached.tried.partial
          c.longer.ensures.partners (taken x at)
          (counts_longer rows (g.P.FiringHistory.history s.past.now) s.number (rule_view s.rule.now) s.place s.own.0 (length p.partners) (length c.longer.result.partners) c.longer.result.partners c.takes.new.matching found c.args.reached.now.tried.partial c.join.new.reached.tried.partial long
          (j.fits (free_longer c.longer.result.mode s.after.now (length p.partners) (length c.longer.result.partners) s.from c.args.id.0 _ long c.longer.ensures.threshold all) rows shown));
    })
    c.join.ensures

pub join_row-returns-else-takes : goal.join_row-returns-else-takes
join_row-returns-else-takes g t c =
    let s = c.args.self.now in
    let p = c.args.prefix.now in
    let row : semantics.Row = (c.args.id.0, row_atom c.args.row.now) in
    let out : (x : Head) → slice_get (rule_view s.rule.now).heads (length p.partners) ≡ Some x → TakesAs false (s.own.0 ∷ p.partners) x.atom row c.args.matching.now c.takes.new.matching =
    λ x at. head_takes s.rule.now.heads.items s.rule.now.passive.items (length p.partners) c.index-head.result.now x (omega (arith, c.requires)) (c.index-head.ensures ∙ ap (λ (k : ℕ). get_or s.rule.now.heads.items k c.index-head.result.now) c.len.ensures.len) at c.takes.result false c.if-takes.false c.args.matching.now c.takes.new.matching (s.own.0 ∷ p.partners) row c.takes.ensures.takes in
    record {
      finds = λ x at rows shown.
          row_out rows (g.P.FiringHistory.history s.past.now) s.number (rule_view s.rule.now) s.place s.own.0 (length p.partners) p.partners c.args.matching.now s.from s.quiet (threshold_at (g.P.FiringHistory.history s.past.now) s p) x.atom row c.takes.new.matching c.args.reached.now.tried.lists (omega arith) (out x at);
      keeps = λ none. c.takes.ensures.kept;
      fits = λ all x at rows shown.
          steps.row_out rows (g.P.FiringHistory.history s.past.now) s.number (rule_view s.rule.now) s.place s.own.0 (length p.partners) p.partners c.args.matching.now x.atom row c.takes.new.matching c.args.reached.now.tried.partial (omega arith) (out x at);
    }

pub try_row-back_to-requires : goal.try_row-back_to-requires
try_row-back_to-requires g t c = ((omega arith), marks_covered c.args.matching.now c.join_row.new.matching c.marks-marks.result c.marks-marks.ensures (c.in_ok-join_row.ensures.keeps c.if-branch.false))

pub try_row-returns-then-branch : goal.try_row-returns-then-branch
try_row-returns-then-branch g t c =
    let h = g.P.FiringHistory.history c.args.self.now.past.now in
    let row : List semantics.Row = (c.args.id.0, row_atom c.args.row.now) ∷ [] in
    record {
      finds = subst (λ (b : Bool). WalkFinds h c.args.self.now c.args.prefix.now c.args.matching.now row (if_found b c.join_row.new.reached.partners) c.args.reached.now.tried.lists c.join_row.new.reached.tried.lists) c.if-branch.true c.in_ok-join_row.ensures.finds;
      same = λ none. absurd (let no : true ≡ false = none in cc);
      fits = subst (λ (b : Bool). WalkFits h c.args.self.now c.args.prefix.now c.args.matching.now row b c.args.reached.now.tried.partial c.join_row.new.reached.tried.partial) c.if-branch.true c.in_ok-join_row.ensures.fits;
    }

pub try_row-returns : goal.try_row-returns
try_row-returns g t c =
    let h = g.P.FiringHistory.history c.args.self.now.past.now in
    let row : List semantics.Row = (c.args.id.0, row_atom c.args.row.now) ∷ [] in
    record {
      finds = subst (λ (b : Bool). WalkFinds h c.args.self.now c.args.prefix.now c.args.matching.now row (if_found b c.join_row.new.reached.partners) c.args.reached.now.tried.lists c.join_row.new.reached.tried.lists) c.if-branch.false c.in_ok-join_row.ensures.finds;
      same = λ none. c.back_to.ensures c.args.matching.now c.marks-marks.ensures (c.in_ok-join_row.ensures.keeps c.if-branch.false);
      fits = subst (λ (b : Bool). WalkFits h c.args.self.now c.args.prefix.now c.args.matching.now row b c.args.reached.now.tried.partial c.join_row.new.reached.tried.partial) c.if-branch.false c.in_ok-join_row.ensures.fits;
    }

-- the one row of a bucket is passed over
pub visit_bucket-returns-then-id-least : goal.visit_bucket-returns-then-id-least
visit_bucket-returns-then-id-least g t c =
    let h = g.P.FiringHistory.history c.args.self.now.past.now in
    let s = c.args.self.now in
    let p = c.args.prefix.now in
    let m : Id × Row g.row.A.Denot = (c.in-One.id, c.in-One.row.now) in
    leads_equal h s p (span_rows c.args.rows) (id_rows (m ∷ [])) c.args.matching.now c.args.matching.now c.args.reached.now c.args.reached.now false (ap span_rows c.in-One.is) (record {
      finds = found_past h s p (m ∷ []) [] m [] refl c.args.matching.now c.args.least None c.args.reached.now.tried.lists c.args.reached.now.tried.lists (tt, tt) c.if-id-least.true (omega arith) c.requires.bound c.requires.quiet
          (finds_nothing h s p c.args.matching.now [] c.args.reached.now.tried.lists refl (omega arith));
      same = λ none x. refl;
      fits = fits_past h s p c.args.matching.now ((m.0.0, row_atom m.1) ∷ []) c.args.least m.0.0 false c.args.reached.now.tried.partial c.args.reached.now.tried.partial c.if-id-least.true c.requires.bound;
    })

pub visit_bucket-visit-requires : goal.visit_bucket-visit-requires
visit_bucket-visit-requires g t c κs within =
    let same : length (span_rows c.args.rows) ≡ length c.in-Many.span = ap (λ (rows : RowSpan g.row.A.Denot). length (span_rows rows)) c.in-Many.is ∙ rows_length c.in-Many.span in
    (omega (arith, same, c.decreases), (within.0, (within.1, ((omega arith), (c.requires.inside, (c.requires.bound, c.requires.quiet))))))

pub visit-returns-in-None : goal.visit-returns-in-None
visit-returns-in-None g t c =
    leads_nothing (g.P.FiringHistory.history c.args.self.now.past.now) c.args.self.now c.args.prefix.now c.args.matching.now (id_rows c.args.span) c.args.reached.now (ap id_rows c.in-None.ensures.none) (omega arith) (omega arith)

pub visit-returns-then-middle-least : goal.visit-returns-then-middle-least
visit-returns-then-middle-least g t c =
    let h = g.P.FiringHistory.history c.args.self.now.past.now in
    let s = c.args.self.now in
    let p = c.args.prefix.now in
    let m : Id × Row g.row.A.Denot = (c.in-Some.middle.key.now, c.in-Some.middle.value.now) in
    ok_more _ _ c.visit.result
    (λ found w. record {
      finds = found_past h s p c.args.span c.in-Some.middle.before m c.in-Some.middle.after c.in-Some.ensures.some c.args.matching.now c.args.least (if_found found c.visit.new.reached.partners) c.args.reached.now.tried.lists c.visit.new.reached.tried.lists
          c.in-Some.ensures.ascending c.if-middle-least.true (omega arith) c.requires.bound c.requires.quiet w.finds;
      same = w.same;
      fits = fits_past h s p c.args.matching.now (id_rows c.args.span) c.args.least m.0.0 found c.args.reached.now.tried.partial c.visit.new.reached.tried.partial c.if-middle-least.true c.requires.bound;
    })
    c.visit.ensures

-- found before the middle
pub visit-returns-then-branch : goal.visit-returns-then-branch
visit-returns-then-branch g t c =
    let h = g.P.FiringHistory.history c.args.self.now.past.now in
    let s = c.args.self.now in
    let p = c.args.prefix.now in
    let m : Id × Row g.row.A.Denot = (c.in-Some.middle.key.now, c.in-Some.middle.value.now) in
    leads_first h s p (id_rows c.args.span) (id_rows c.in-Some.middle.before) ((m.0.0, row_atom m.1) ∷ [] ++ id_rows c.in-Some.middle.after) c.args.matching.now c.visit_some.new.matching c.args.reached.now c.visit_some.new.reached
    (span_parts c.args.span c.in-Some.middle.before m c.in-Some.middle.after c.in-Some.ensures.some)
    (leads_as h s p (id_rows c.in-Some.middle.before) c.args.matching.now c.visit_some.new.matching c.args.reached.now c.visit_some.new.reached _ true c.if-branch.true c.in_ok-visit_some.ensures)

-- at the middle
pub visit-returns-then-branch-2 : goal.visit-returns-then-branch-2
visit-returns-then-branch-2 g t c =
    let h = g.P.FiringHistory.history c.args.self.now.past.now in
    let s = c.args.self.now in
    let p = c.args.prefix.now in
    let m : Id × Row g.row.A.Denot = (c.in-Some.middle.key.now, c.in-Some.middle.value.now) in
    let one : List semantics.Row = (m.0.0, row_atom m.1) ∷ [] in
    let after : List semantics.Row = id_rows c.in-Some.middle.after in
    leads_on h s p (id_rows c.args.span) (id_rows c.in-Some.middle.before) (one ++ after) c.args.matching.now c.visit_some.new.matching c.try_row.new.matching c.args.reached.now c.visit_some.new.reached c.try_row.new.reached true
    (span_parts c.args.span c.in-Some.middle.before m c.in-Some.middle.after c.in-Some.ensures.some)
    (leads_as h s p (id_rows c.in-Some.middle.before) c.args.matching.now c.visit_some.new.matching c.args.reached.now c.visit_some.new.reached _ false c.if-branch.false c.in_ok-visit_some.ensures)
    (leads_first h s p (one ++ after) one after c.visit_some.new.matching c.try_row.new.matching c.visit_some.new.reached c.try_row.new.reached refl
    (leads_as h s p one c.visit_some.new.matching c.try_row.new.matching c.visit_some.new.reached c.try_row.new.reached _ true c.if-branch-2.true c.in_ok-try_row.ensures))

-- after it, or not at all
pub visit-returns : goal.visit-returns
visit-returns g t c =
    let h = g.P.FiringHistory.history c.args.self.now.past.now in
    let s = c.args.self.now in
    let p = c.args.prefix.now in
    let m : Id × Row g.row.A.Denot = (c.in-Some.middle.key.now, c.in-Some.middle.value.now) in
    let one : List semantics.Row = (m.0.0, row_atom m.1) ∷ [] in
    let after : List semantics.Row = id_rows c.in-Some.middle.after in
    ok_more _ _ c.walk-2.result
    (λ found w. leads_on h s p (id_rows c.args.span) (id_rows c.in-Some.middle.before) (one ++ after) c.args.matching.now c.visit_some.new.matching c.walk-2.new.matching c.args.reached.now c.visit_some.new.reached c.walk-2.new.reached found
    (span_parts c.args.span c.in-Some.middle.before m c.in-Some.middle.after c.in-Some.ensures.some)
    (leads_as h s p (id_rows c.in-Some.middle.before) c.args.matching.now c.visit_some.new.matching c.args.reached.now c.visit_some.new.reached _ false c.if-branch.false c.in_ok-visit_some.ensures)
    (leads_on h s p (one ++ after) one after c.visit_some.new.matching c.try_row.new.matching c.walk-2.new.matching c.visit_some.new.reached c.try_row.new.reached c.walk-2.new.reached found refl
    (leads_as h s p one c.visit_some.new.matching c.try_row.new.matching c.visit_some.new.reached c.try_row.new.reached _ false c.if-branch-2.false c.in_ok-try_row.ensures) w))
    c.walk-2.ensures

pub visit_some-returns-then-is_empty : goal.visit_some-returns-then-is_empty
visit_some-returns-then-is_empty g t c =
    leads_nothing (g.P.FiringHistory.history c.args.self.now.past.now) c.args.self.now c.args.prefix.now c.args.matching.now (id_rows c.args.span) c.args.reached.now (ap id_rows (c.is_empty.ensures c.if-is_empty.true)) (omega arith) (omega arith)

pub walk_some-returns-then-is_empty : goal.walk_some-returns-then-is_empty
walk_some-returns-then-is_empty g t c =
    leads_nothing (g.P.FiringHistory.history c.args.self.now.past.now) c.args.self.now c.args.prefix.now c.args.matching.now (id_rows c.args.span) c.args.reached.now (ap id_rows (c.is_empty.ensures c.if-is_empty.true)) (omega arith) (omega arith)

pub walk-loop-middle-init : goal.walk-loop-middle-init
walk-loop-middle-init g t c =
    ([], refl, omega arith, leads_nothing (g.P.FiringHistory.history c.args.self.now.past.now) c.args.self.now c.args.prefix.now c.args.matching.now [] c.args.reached.now refl (omega arith) (omega arith))

pub walk-walk_some-requires : goal.walk-walk_some-requires
walk-walk_some-requires g t c κs within =
    let m : Id × Row g.row.A.Denot = (c.in-Some.middle.key.now, c.in-Some.middle.value.now) in
    let shorter : length c.in-Some.middle.before < length c.loop-middle.left = before_shorter c.loop-middle.left c.in-Some.middle.before m c.in-Some.middle.after c.in-Some.ensures.some in
    (omega (arith, shorter, c.loop-middle.invariant.2, c.decreases), (within.0, (within.1, (omega arith, c.requires))))

-- found before a row
pub walk-returns-then-branch : goal.walk-returns-then-branch
walk-returns-then-branch g t c =
    let h = g.P.FiringHistory.history c.args.self.now.past.now in
    let s = c.args.self.now in
    let p = c.args.prefix.now in
    let m : Id × Row g.row.A.Denot = (c.in-Some.middle.key.now, c.in-Some.middle.value.now) in
    let old = c.args.matching.now in
    let first = c.args.reached.now in
    let left : List semantics.Row = id_rows c.loop-middle.left in
    let before : List semantics.Row = id_rows c.in-Some.middle.before in
    let rest : List semantics.Row = (m.0.0, row_atom m.1) ∷ id_rows c.in-Some.middle.after in
    leads_on h s p (id_rows c.args.span) c.loop-middle.invariant.0 left old c.loop-middle.matching c.walk_some.new.matching first c.loop-middle.reached c.walk_some.new.reached true c.loop-middle.invariant.1 c.loop-middle.invariant.3
    (leads_first h s p left before rest c.loop-middle.matching c.walk_some.new.matching c.loop-middle.reached c.walk_some.new.reached
    (span_parts c.loop-middle.left c.in-Some.middle.before m c.in-Some.middle.after c.in-Some.ensures.some)
    (leads_as h s p before c.loop-middle.matching c.walk_some.new.matching c.loop-middle.reached c.walk_some.new.reached _ true c.if-branch.true c.in_ok-walk_some.ensures))

-- found at a row
pub walk-returns-then-branch-2 : goal.walk-returns-then-branch-2
walk-returns-then-branch-2 g t c =
    let h = g.P.FiringHistory.history c.args.self.now.past.now in
    let s = c.args.self.now in
    let p = c.args.prefix.now in
    let m : Id × Row g.row.A.Denot = (c.in-Some.middle.key.now, c.in-Some.middle.value.now) in
    let old = c.args.matching.now in
    let first = c.args.reached.now in
    let left : List semantics.Row = id_rows c.loop-middle.left in
    let before : List semantics.Row = id_rows c.in-Some.middle.before in
    let after : List semantics.Row = id_rows c.in-Some.middle.after in
    let one : List semantics.Row = (m.0.0, row_atom m.1) ∷ [] in
    leads_on h s p (id_rows c.args.span) c.loop-middle.invariant.0 left old c.loop-middle.matching c.try_row.new.matching first c.loop-middle.reached c.try_row.new.reached true c.loop-middle.invariant.1 c.loop-middle.invariant.3
    (leads_on h s p left before (one ++ after) c.loop-middle.matching c.walk_some.new.matching c.try_row.new.matching c.loop-middle.reached c.walk_some.new.reached c.try_row.new.reached true
    (span_parts c.loop-middle.left c.in-Some.middle.before m c.in-Some.middle.after c.in-Some.ensures.some)
    (leads_as h s p before c.loop-middle.matching c.walk_some.new.matching c.loop-middle.reached c.walk_some.new.reached _ false c.if-branch.false c.in_ok-walk_some.ensures)
    (leads_first h s p (one ++ after) one after c.walk_some.new.matching c.try_row.new.matching c.walk_some.new.reached c.try_row.new.reached refl
    (leads_as h s p one c.walk_some.new.matching c.try_row.new.matching c.walk_some.new.reached c.try_row.new.reached _ true c.if-branch-2.true c.in_ok-try_row.ensures)))

-- not found up to a row
pub walk-loop-middle-preserved : goal.walk-loop-middle-preserved
walk-loop-middle-preserved g t c =
    let h = g.P.FiringHistory.history c.args.self.now.past.now in
    let s = c.args.self.now in
    let p = c.args.prefix.now in
    let m : Id × Row g.row.A.Denot = (c.in-Some.middle.key.now, c.in-Some.middle.value.now) in
    let old = c.args.matching.now in
    let first = c.args.reached.now in
    let done : List semantics.Row = c.loop-middle.invariant.0 in
    let before : List semantics.Row = id_rows c.in-Some.middle.before in
    let after : List semantics.Row = id_rows c.in-Some.middle.after in
    let one : List semantics.Row = (m.0.0, row_atom m.1) ∷ [] in
    let spans = c.in-Some.ensures.some in
    let shorter : length c.in-Some.middle.after < length c.loop-middle.left = after_shorter c.loop-middle.left c.in-Some.middle.before m c.in-Some.middle.after spans in (
      done ++ (before ++ one),
      c.loop-middle.invariant.1 ∙ (ap (λ (rows : List semantics.Row). done ++ rows) (span_passed c.loop-middle.left c.in-Some.middle.before m c.in-Some.middle.after spans) ∙ sym (append_assoc done (before ++ one) after)),
      omega (arith, shorter, c.loop-middle.invariant.2),
      leads_on h s p (done ++ (before ++ one)) done (before ++ one) old c.loop-middle.matching c.try_row.new.matching first c.loop-middle.reached c.try_row.new.reached false refl c.loop-middle.invariant.3
          (leads_on h s p (before ++ one) before one c.loop-middle.matching c.walk_some.new.matching c.try_row.new.matching c.loop-middle.reached c.walk_some.new.reached c.try_row.new.reached false refl
          (leads_as h s p before c.loop-middle.matching c.walk_some.new.matching c.loop-middle.reached c.walk_some.new.reached _ false c.if-branch.false c.in_ok-walk_some.ensures)
          (leads_as h s p one c.walk_some.new.matching c.try_row.new.matching c.walk_some.new.reached c.try_row.new.reached _ false c.if-branch-2.false c.in_ok-try_row.ensures)),
    )
