-- What a search finds from its partners so far.
use Rattle.std.specs.Prelude.{◌≡◌, ◌∷◌, ℕ, Bool, false, cond, List, [], Option, Some, None, drop, length, is_some, slice_get}
use Rattle.chr_bind.specs.Matching.{IsSame, Keeps}
use Rattle.chr_bind.specs.declared.matching.Match.{Match}
use Rattle.chr_rules.specs.RuleView.{rule_view}
use Rattle.chr_semantics.specs.Match as semantics
use Rattle.chr_semantics.specs.Join.{own_joined}
use Rattle.chr_semantics.specs.Program.{Atom, Head}
use Rattle.chr_semantics.specs.Search.{History}
use Rattle.chr_semantics.specs.Trail.{own_trail}
use Rattle.chr_find.specs.Finds.{Finds}
use Rattle.chr_find.specs.Partial.{Counts, JoinCounts, WalkCounts}
use Rattle.chr_find.specs.Threshold.{Threshold, free, passed}
use Rattle.chr_find.specs.Joins.{IsQuiet, JoinIs, WalkIs}
use Rattle.chr_find.specs.CursorStateView.{threshold_of}
use Rattle.chr_find.specs.PlanView.{lookups_of}
use Rattle.chr_find.specs.Shown.{ForRows}
use Rattle.chr_find.specs.declared.search.Prefix.{Prefix}
use Rattle.chr_find.specs.declared.search.Reached.{Reached}
use Rattle.chr_find.specs.declared.search.Search.{Search}
use Rattle.chr_find.specs.declared.cursor_state.CursorState.{CursorState}

-- the partners, where they are found
abbrev pub if_found : Bool → List ℕ → Option (List ℕ)
if_found found partners = cond found (Some partners) None

module _ {P A : Type 0} (h : History) (s : Search P A) where
  -- for all heads, the own constraint at its own
  abbrev pub OwnFinds : Atom → CursorState → Option (List ℕ) → ℕ → ℕ → Type 0
  OwnFinds own mode found told now =
      (x : Head) → slice_get (rule_view s.rule.now).heads s.place ≡ Some x
      → ForRows (lookups_of s.plan.now) s.rows.now (λ rows. IsQuiet rows (rule_view s.rule.now).heads s.place s.own.0 s.from s.quiet
      → Finds h s.number (rule_view s.rule.now).guard [] (passed s.from (threshold_of mode s.after.now) (own_joined rows (rule_view s.rule.now) s.place x (s.own.0, own))) found told now)

  -- and how many partial lists fit, where no list is passed over
  abbrev pub OwnCounts : Atom → CursorState → Option (List ℕ) → ℕ → ℕ → Type 0
  OwnCounts own mode found told now =
      threshold_of mode s.after.now ≡ free → (x : Head) → slice_get (rule_view s.rule.now).heads s.place ≡ Some x
      → ForRows (lookups_of s.plan.now) s.rows.now (λ rows. Counts h s.number (rule_view s.rule.now).guard [] (own_trail rows (rule_view s.rule.now) s.place x (s.own.0, own)) (is_some found) told now)

module _ {P A : Type 0} (h : History) (s : Search P A) (p : Prefix) where
  -- where the partners stand to the list after which the search goes on
  abbrev pub threshold_at : Threshold
  threshold_at = threshold_of p.mode (drop (length p.partners) s.after.now)

  -- for the heads from the level on
  abbrev pub JoinFinds : Match A → Option (List ℕ) → ℕ → ℕ → Type 0
  JoinFinds matching found told now =
      ForRows (lookups_of s.plan.now) s.rows.now (λ rows. JoinIs rows h s.number (rule_view s.rule.now) s.place s.own.0 (length p.partners) p.partners matching s.from s.quiet threshold_at found told now)

  -- with these rows alone for the head at the level
  abbrev pub WalkFinds : Match A → List semantics.Row → Option (List ℕ) → ℕ → ℕ → Type 0
  WalkFinds matching walked found told now =
      (x : Head) → slice_get (rule_view s.rule.now).heads (length p.partners) ≡ Some x
      → ForRows (lookups_of s.plan.now) s.rows.now (λ rows. WalkIs rows h s.number (rule_view s.rule.now) s.place s.own.0 (length p.partners) p.partners matching s.from s.quiet threshold_at x.atom walked found told now)

  -- where no list is passed over, the partial lists count
  abbrev pub JoinFits : Match A → Bool → ℕ → ℕ → Type 0
  JoinFits matching found told now =
      threshold_at ≡ free
      → ForRows (lookups_of s.plan.now) s.rows.now (λ rows. JoinCounts rows h s.number (rule_view s.rule.now) s.place s.own.0 (length p.partners) p.partners matching found told now)

  abbrev pub WalkFits : Match A → List semantics.Row → Bool → ℕ → ℕ → Type 0
  WalkFits matching walked found told now =
      threshold_at ≡ free → (x : Head) → slice_get (rule_view s.rule.now).heads (length p.partners) ≡ Some x
      → ForRows (lookups_of s.plan.now) s.rows.now (λ rows. WalkCounts rows h s.number (rule_view s.rule.now) s.place s.own.0 (length p.partners) p.partners matching x.atom walked found told now)

  -- all that, with what the search has come to, and with the match as before where nothing is found
  pub record JoinLeads (old new : Match A) (before after : Reached) (found : Bool) : Type 0 where
    pub finds : JoinFinds old (if_found found after.partners) before.tried.lists after.tried.lists
    pub same : found ≡ false → IsSame old new
    pub fits : JoinFits old found before.tried.partial after.tried.partial

  pub record WalkLeads (walked : List semantics.Row) (old new : Match A) (before after : Reached) (found : Bool) : Type 0 where
    pub finds : WalkFinds old walked (if_found found after.partners) before.tried.lists after.tried.lists
    pub same : found ≡ false → IsSame old new
    pub fits : WalkFits old walked found before.tried.partial after.tried.partial

  -- with one row, where what was matched stays
  pub record RowLeads (row : semantics.Row) (old new : Match A) (before after : Reached) (found : Bool) : Type 0 where
    pub finds : WalkFinds old (row ∷ []) (if_found found after.partners) before.tried.lists after.tried.lists
    pub keeps : found ≡ false → Keeps old new
    pub fits : WalkFits old (row ∷ []) found before.tried.partial after.tried.partial
