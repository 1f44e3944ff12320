use Rattle.std.proofs.Common.{◌≡◌, ◌∙◌, [], Bool, List, Some, arith, drop, false, length, refl, subst, sym, true, ℕ}
use Rattle.chr_bind.specs.Matching.{AgreesWith}
use Rattle.chr_semantics.specs.Bounds.{AreBelow}
use Rattle.chr_rules.specs.RuleView.{rule_view}
use Rattle.chr_semantics.proofs.Lists.{All-got}
use Rattle.chr_semantics.specs.Match.{fit_atom}
use Rattle.chr_semantics.specs.Program.{Atom, Head}
use Rattle.chr_semantics.specs.Subst.{Subst}
use Rattle.chr_semantics.specs.Trail.{trail}
use Rattle.chr_semantics.specs.declared.limits.TheConstants.{MAX_RULE_VARIABLES}
use Rattle.chr_store.specs.Rows.{row_atom}
use Rattle.chr_find.specs.Enough.{FitsHead}
use Rattle.chr_find.specs.Joins.{JoinIs}
use Rattle.chr_find.specs.CursorStateView.{threshold_of}
use Rattle.chr_find.specs.Partial.{Counts, JoinCounts}
use Rattle.chr_find.specs.SearchIs.{if_found}
use Rattle.chr_find.specs.Threshold.{free}
use Rattle.chr_find.proofs.HeadFits.{head_fits}
use Rattle.chr_find.proofs.OwnFirst.{own_apart, own_lacking}
use Rattle.chr_find.proofs.OwnJoins.{own_joins}
use Rattle.chr_find.proofs.RuleHeads.{head_at}
use Rattle.chr_find.proofs.TrailSteps.{own_counts, own_counts_none}
use Rattle.chr_find.proofs.search.Search.first.Goals as goal

pub fits-requires : goal.fits-requires
fits-requires g c =
    let s = c.args.self.now in
    let x = head_at s.rule.now.heads.items s.rule.now.passive.items s.place c.index.result.now (omega (arith, s.searchable.inside)) c.index.ensures in
    (omega arith, subst (λ (h : Atom). AreBelow MAX_RULE_VARIABLES h.args) x.2 (All-got (λ (h : Head). AreBelow MAX_RULE_VARIABLES h.atom.args) (rule_view s.rule.now).heads s.place x.0 x.1 s.searchable.small.below))

pub returns-then-not-fits : goal.returns-then-not-fits
returns-then-not-fits g c = record {
  finds = λ x at rows shown quiet.
      let s = c.args.self.now in
      let a = row_atom c.args.row.now in
      let out : FitsHead false x.atom a c.new-matching.result c.fits.new.matching =
      head_fits s.rule.now.heads.items s.rule.now.passive.items s.place c.index.result.now x (omega (arith, s.searchable.inside)) c.index.ensures at c.fits.result false c.if-not-fits.true c.new-matching.result c.fits.new.matching a c.fits.ensures.fits in
      own_apart rows (g.P.FiringHistory.history s.past.now) s.number (rule_view s.rule.now) s.place x (s.own.0, a) s.from (threshold_of c.args.mode s.after.now) c.args.tried.now.lists (omega arith)
      (out [] c.new-matching.ensures);
  counts = λ counting all x at rows shown.
      let s = c.args.self.now in
      let a = row_atom c.args.row.now in
      let out : FitsHead false x.atom a c.new-matching.result c.fits.new.matching =
      head_fits s.rule.now.heads.items s.rule.now.passive.items s.place c.index.result.now x (omega (arith, s.searchable.inside)) c.index.ensures at c.fits.result false c.if-not-fits.true c.new-matching.result c.fits.new.matching a c.fits.ensures.fits in
      own_counts_none rows (g.P.FiringHistory.history s.past.now) s.number (rule_view s.rule.now) s.place x (s.own.0, a) c.args.tried.now.partial (omega arith) (out [] c.new-matching.ensures);
}

pub returns-then-lacks_partner : goal.returns-then-lacks_partner
returns-then-lacks_partner g c = record {
  finds = λ x at rows shown quiet.
      let s = c.args.self.now in
      let a = row_atom c.args.row.now in
      let fits : FitsHead true x.atom a c.new-matching.result c.fits.new.matching =
      head_fits s.rule.now.heads.items s.rule.now.passive.items s.place c.index.result.now x (omega (arith, s.searchable.inside)) c.index.ensures at c.fits.result true c.if-not-fits.false c.new-matching.result c.fits.new.matching a c.fits.ensures.fits in
      let matched : (m : Subst) × (fit_atom x.atom a [] ≡ Some m) × AgreesWith c.fits.new.matching m = fits [] c.new-matching.ensures in
      let lacks = c.lacks_partner.ensures c.if-lacks_partner.true rows shown in
      own_lacking rows (g.P.FiringHistory.history s.past.now) s.number (rule_view s.rule.now) s.place x (s.own.0, a) s.from (threshold_of c.args.mode s.after.now) matched.0 lacks.0 lacks.1 c.args.tried.now.lists (omega arith) matched.1 lacks.2 lacks.3
      (lacks.4 matched.0 matched.2);
  counts = λ counting. absurd (let no : false ≡ true = sym c.if-not-self.true ∙ counting in cc);
}

pub returns-then-is_found : goal.returns-then-is_found
returns-then-is_found g c = record {
  finds = λ x at rows shown quiet.
      let s = c.args.self.now in
      let a = row_atom c.args.row.now in
      let fits : FitsHead true x.atom a c.new-matching.result c.fits.new.matching =
      head_fits s.rule.now.heads.items s.rule.now.passive.items s.place c.index.result.now x (omega (arith, s.searchable.inside)) c.index.ensures at c.fits.result true c.if-not-fits.false c.new-matching.result c.fits.new.matching a c.fits.ensures.fits in
      own_joins rows (g.P.FiringHistory.history s.past.now) s x a c.args.mode c.fits.new.matching c.in_ok-is_found.is_found true c.join.new.reached.partners c.args.tried.now.lists c.join.new.reached.tried.lists (fits [] c.new-matching.ensures) c.if-is_found.true quiet
      (subst (λ (l : List ℕ). JoinIs rows (g.P.FiringHistory.history s.past.now) s.number (rule_view s.rule.now) s.place s.own.0 (length l) l c.fits.new.matching s.from s.quiet (threshold_of c.args.mode (drop (length l) s.after.now)) (if_found c.in_ok-is_found.is_found c.join.new.reached.partners) c.args.tried.now.lists c.join.new.reached.tried.lists) c.new.ensures (c.in_ok-is_found.ensures.finds rows shown));
  counts = λ counting all x at rows shown.
      let s = c.args.self.now in
      let a = row_atom c.args.row.now in
      let fits : FitsHead true x.atom a c.new-matching.result c.fits.new.matching =
      head_fits s.rule.now.heads.items s.rule.now.passive.items s.place c.index.result.now x (omega (arith, s.searchable.inside)) c.index.ensures at c.fits.result true c.if-not-fits.false c.new-matching.result c.fits.new.matching a c.fits.ensures.fits in
      let m = fits [] c.new-matching.ensures in
      let joined = subst (λ (l : List ℕ). threshold_of c.args.mode (drop (length l) s.after.now) ≡ free
      → JoinCounts rows (g.P.FiringHistory.history s.past.now) s.number (rule_view s.rule.now) s.place s.own.0 (length l) l c.fits.new.matching c.in_ok-is_found.is_found c.args.tried.now.partial c.join.new.reached.tried.partial) c.new.ensures (λ none. c.in_ok-is_found.ensures.fits none rows shown) in
      own_counts rows (g.P.FiringHistory.history s.past.now) s.number (rule_view s.rule.now) s.place x (s.own.0, a) m.0 true c.args.tried.now.partial c.join.new.reached.tried.partial m.1
      (subst (λ (b : Bool). Counts (g.P.FiringHistory.history s.past.now) s.number (rule_view s.rule.now).guard [] (trail rows (s.own.0, a) s.place (rule_view s.rule.now).heads [] 0 m.0) b c.args.tried.now.partial c.join.new.reached.tried.partial) c.if-is_found.true
      (joined all (s.own.0, a) [] m.0 refl (λ i. refl) m.2));
}

pub returns-else-is_found : goal.returns-else-is_found
returns-else-is_found g c = record {
  finds = λ x at rows shown quiet.
      let s = c.args.self.now in
      let a = row_atom c.args.row.now in
      let fits : FitsHead true x.atom a c.new-matching.result c.fits.new.matching =
      head_fits s.rule.now.heads.items s.rule.now.passive.items s.place c.index.result.now x (omega (arith, s.searchable.inside)) c.index.ensures at c.fits.result true c.if-not-fits.false c.new-matching.result c.fits.new.matching a c.fits.ensures.fits in
      own_joins rows (g.P.FiringHistory.history s.past.now) s x a c.args.mode c.fits.new.matching c.in_ok-is_found.is_found false c.join.new.reached.partners c.args.tried.now.lists c.join.new.reached.tried.lists (fits [] c.new-matching.ensures) c.if-is_found.false quiet
      (subst (λ (l : List ℕ). JoinIs rows (g.P.FiringHistory.history s.past.now) s.number (rule_view s.rule.now) s.place s.own.0 (length l) l c.fits.new.matching s.from s.quiet (threshold_of c.args.mode (drop (length l) s.after.now)) (if_found c.in_ok-is_found.is_found c.join.new.reached.partners) c.args.tried.now.lists c.join.new.reached.tried.lists) c.new.ensures (c.in_ok-is_found.ensures.finds rows shown));
  counts = λ counting all x at rows shown.
      let s = c.args.self.now in
      let a = row_atom c.args.row.now in
      let fits : FitsHead true x.atom a c.new-matching.result c.fits.new.matching =
      head_fits s.rule.now.heads.items s.rule.now.passive.items s.place c.index.result.now x (omega (arith, s.searchable.inside)) c.index.ensures at c.fits.result true c.if-not-fits.false c.new-matching.result c.fits.new.matching a c.fits.ensures.fits in
      let m = fits [] c.new-matching.ensures in
      let joined = subst (λ (l : List ℕ). threshold_of c.args.mode (drop (length l) s.after.now) ≡ free
      → JoinCounts rows (g.P.FiringHistory.history s.past.now) s.number (rule_view s.rule.now) s.place s.own.0 (length l) l c.fits.new.matching c.in_ok-is_found.is_found c.args.tried.now.partial c.join.new.reached.tried.partial) c.new.ensures (λ none. c.in_ok-is_found.ensures.fits none rows shown) in
      own_counts rows (g.P.FiringHistory.history s.past.now) s.number (rule_view s.rule.now) s.place x (s.own.0, a) m.0 false c.args.tried.now.partial c.join.new.reached.tried.partial m.1
      (subst (λ (b : Bool). Counts (g.P.FiringHistory.history s.past.now) s.number (rule_view s.rule.now).guard [] (trail rows (s.own.0, a) s.place (rule_view s.rule.now).heads [] 0 m.0) b c.args.tried.now.partial c.join.new.reached.tried.partial) c.if-is_found.false
      (joined all (s.own.0, a) [] m.0 refl (λ i. refl) m.2));
}
