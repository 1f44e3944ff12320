-- The partial lists among the rows of a span that are in a list: before its middle, there, and after it.
use Rattle.std.proofs.Common.{◌≡◌, ◌^◌, ◌<◌, ◌≤◌, ℕ, Bool, true, false, List, [], ◌++◌, arith, length, subst, sym}
use Rattle.chr_bind.specs.Matching.{IsSame}
use Rattle.chr_bind.specs.declared.matching.Match.{Match}
use Rattle.chr_rules.specs.RuleView.{rule_view}
use Rattle.chr_semantics.specs.Match as semantics
use Rattle.chr_semantics.specs.Search.{History}
use Rattle.chr_find.specs.Threshold.{threshold_bound}
use Rattle.chr_find.specs.SearchIs.{WalkFits, threshold_at}
use Rattle.chr_find.specs.declared.search.Prefix.{Prefix}
use Rattle.chr_find.specs.declared.search.Search.{Search}
use Rattle.chr_find.proofs.TrailSteps.{walk_found, walk_none, walk_on}

module _ {P A : Type 0} (h : History) (s : Search P A) (p : Prefix) where
  -- without rows there are none
  pub fits_nothing : (old : Match A) (walked : List semantics.Row) (told : ℕ) → walked ≡ [] → told < 2 ^ 64 → WalkFits h s p old walked false told told
  fits_nothing old walked told is small =
      subst (λ (cs : List semantics.Row). WalkFits h s p old cs false told told) (sym is)
      (λ all x at rows shown. walk_none rows h s.number (rule_view s.rule.now) s.place s.own.0 (length p.partners) p.partners old x.atom told small)

  -- those among the first rows, where one is found there
  pub fits_first : (old : Match A) (walked xs ys : List semantics.Row) (b : Bool) (told now : ℕ) → walked ≡ xs ++ ys → b ≡ true → WalkFits h s p old xs b told now → WalkFits h s p old walked true told now
  fits_first old walked xs ys b told now is found w all x at rows shown =
      walk_found rows h s.number (rule_view s.rule.now) s.place s.own.0 (length p.partners) p.partners old x.atom walked xs ys b told now is found (w all x at rows shown)

  -- and else also those among the rows after them
  pub fits_second : (old next : Match A) (walked xs ys : List semantics.Row) (b d : Bool) (told mid now : ℕ) → walked ≡ xs ++ ys → b ≡ false → WalkFits h s p old xs b told mid → IsSame old next → WalkFits h s p next ys d mid now → WalkFits h s p old walked d told now
  fits_second old next walked xs ys b d told mid now is none v same w all x at rows shown =
      walk_on rows h s.number (rule_view s.rule.now) s.place s.own.0 (length p.partners) p.partners old x.atom next walked xs ys b d told mid now is none (v all x at rows shown) same (w all x at rows shown)

  -- where nothing may be passed over, no row is
  pub fits_past : (old : Match A) (walked : List semantics.Row) (least i : ℕ) (b : Bool) (told now : ℕ) → i < least → least ≤ threshold_bound s.from (threshold_at h s p) → WalkFits h s p old walked b told now
  fits_past old walked least i b told now lt bound all =
      let none : least ≤ 0 = subst (λ t. least ≤ threshold_bound s.from t) all bound in
      absurd (omega (arith, lt, none))
