-- What a search finds among the rows of a span that are in a list: before its middle, there, and after it.
use Rattle.std.proofs.Common.{◌≡◌, ◌^◌, ◌<◌, ◌≤◌, ◌+◌, ℕ, Bool, true, false, List, [], ◌∷◌, ◌++◌, Option, Some, None, length, refl, subst, sym}
use Rattle.chr_map.specs.Order.{Ascends}
use Rattle.chr_bind.specs.Matching.{IsSame}
use Rattle.chr_bind.specs.declared.matching.Match.{Match}
use Rattle.chr_rules.specs.RuleView.{rule_view}
use Rattle.chr_semantics.specs.Match as semantics
use Rattle.chr_semantics.specs.Search.{History}
use Rattle.chr_store.specs.Rows.{row_atom}
use Rattle.chr_store.specs.declared.id.Id.{Id}
use Rattle.chr_store.specs.declared.row.Row.{Row}
use Rattle.chr_find.specs.Threshold.{threshold_bound}
use Rattle.chr_find.specs.IdRows.{id_cmp, id_rows}
use Rattle.chr_find.specs.SearchIs.{WalkFinds, threshold_at, if_found}
use Rattle.chr_find.specs.declared.search.Prefix.{Prefix}
use Rattle.chr_find.specs.declared.search.Search.{Search}
use Rattle.chr_find.proofs.JoinSteps.{walk_found, walk_none, walk_on, walk_same}
use Rattle.chr_find.proofs.PassedRows.{rows_passed}
use Rattle.chr_find.proofs.WalkSpans.{span_passed, span_under}

module _ {P A : Type 0} (h : History) (s : Search P A) (p : Prefix) where
  -- without rows nothing is found
  pub finds_nothing : (old : Match A) (walked : List semantics.Row) (told : ℕ) → walked ≡ [] → told < 2 ^ 64 → WalkFinds h s p old walked None told told
  finds_nothing old walked told is small =
      subst (λ (cs : List semantics.Row). WalkFinds h s p old cs None told told) (sym is)
      (λ x at rows shown. walk_none rows h s.number (rule_view s.rule.now) s.place s.own.0 (length p.partners) p.partners old s.from s.quiet (threshold_at h s p) x.atom told small)

  -- what is found among the first rows is found
  pub finds_first : (old : Match A) (walked xs ys : List semantics.Row) (b : Bool) (l : List ℕ) (told now : ℕ) → walked ≡ xs ++ ys → b ≡ true → WalkFinds h s p old xs (if_found b l) told now → WalkFinds h s p old walked (Some l) told now
  finds_first old walked xs ys b l told now is found w x at rows shown =
      walk_found rows h s.number (rule_view s.rule.now) s.place s.own.0 (length p.partners) p.partners old s.from s.quiet (threshold_at h s p) x.atom walked xs ys b l told now is found (w x at rows shown)

  -- where nothing is found among them, it is what is found among those after them
  pub finds_second : (old next : Match A) (walked xs ys : List semantics.Row) (b : Bool) (l : List ℕ) (result : Option (List ℕ)) (told mid now : ℕ) → walked ≡ xs ++ ys → b ≡ false → WalkFinds h s p old xs (if_found b l) told mid → IsSame old next → WalkFinds h s p next ys result mid now
      → WalkFinds h s p old walked result told now
  finds_second old next walked xs ys b l result told mid now is none v same w x at rows shown =
      walk_on rows h s.number (rule_view s.rule.now) s.place s.own.0 (length p.partners) p.partners old s.from s.quiet (threshold_at h s p) x.atom walked xs ys b l result told mid now is none (v x at rows shown)
      (walk_same rows h s.number (rule_view s.rule.now) s.place s.own.0 (length p.partners) p.partners next s.from s.quiet (threshold_at h s p) x.atom old ys result mid now same (w x at rows shown))

  module _ (span before : List (Id × Row A)) (m : Id × Row A) (after : List (Id × Row A)) (spans : span ≡ before ++ m ∷ after) where
    -- after it, where all rows up to it may be passed over
    pub found_past : (old : Match A) (least : ℕ) (result : Option (List ℕ)) (told now : ℕ) → Ascends id_cmp span → m.0.0 < least → told < 2 ^ 64 → least ≤ threshold_bound s.from (threshold_at h s p) → (0 < least → s.quiet < (length p.partners) + 2) → WalkFinds h s p old (id_rows after) result told now
        → WalkFinds h s p old (id_rows span) result told now
    found_past old least result told now up lt small bound late w =
        let passed : List semantics.Row = id_rows before ++ (m.0.0, row_atom m.1) ∷ [] in
        finds_second old old (id_rows span) passed (id_rows after) false [] result told told now (span_passed span before m after spans) refl
        (λ x at rows shown. rows_passed rows h s.number (rule_view s.rule.now) s.place s.own.0 (length p.partners) p.partners old s.from s.quiet (threshold_at h s p) x.atom passed least told small (span_under span before m after least spans up lt) bound late)
        (λ y. refl) w
