-- What the join finds from the match of the own head.
use Rattle.std.proofs.Common.{◌≡◌, ℕ, Bool, List, [], Option, Some, refl}
use Rattle.chr_bind.specs.Matching.{AgreesWith}
use Rattle.chr_bind.specs.declared.matching.Match.{Match}
use Rattle.chr_rules.specs.RuleView.{rule_view}
use Rattle.chr_semantics.specs.Join.{joined, own_joined}
use Rattle.chr_semantics.specs.Match.{Row, fit_atom}
use Rattle.chr_semantics.specs.Program.{Atom, Head}
use Rattle.chr_semantics.specs.Search.{History}
use Rattle.chr_semantics.specs.Subst.{Subst}
use Rattle.chr_find.specs.Finds.{Finds}
use Rattle.chr_find.specs.Threshold.{passed}
use Rattle.chr_find.specs.Joins.{IsQuiet, JoinIs}
use Rattle.chr_find.specs.CursorStateView.{threshold_of}
use Rattle.chr_find.specs.SearchIs.{if_found}
use Rattle.chr_find.specs.declared.search.Search.{Search}
use Rattle.chr_find.specs.declared.cursor_state.CursorState.{CursorState}
use Rattle.chr_find.proofs.OwnFirst.{own_found}
use Rattle.chr_find.proofs.SearchParts.{found_so}

module _ {P A : Type 0} (rows : List Row) (h : History) (s : Search P A) (x : Head) (own : Atom) (mode : CursorState) where
  -- it is what the whole search finds
  pub own_joins : (matching : Match A) (b d : Bool) (l : List ℕ) (told now : ℕ) → (m : Subst) × (fit_atom x.atom own [] ≡ Some m) × AgreesWith matching m → b ≡ d → IsQuiet rows (rule_view s.rule.now).heads s.place s.own.0 s.from s.quiet
      → JoinIs rows h s.number (rule_view s.rule.now) s.place s.own.0 0 [] matching s.from s.quiet (threshold_of mode s.after.now) (if_found b l) told now
      → Finds h s.number (rule_view s.rule.now).guard [] (passed s.from (threshold_of mode s.after.now) (own_joined rows (rule_view s.rule.now) s.place x (s.own.0, own))) (if_found d l) told now
  own_joins matching b d l told now m known quiet join =
      own_found rows h s.number (rule_view s.rule.now) s.place x (s.own.0, own) s.from (threshold_of mode s.after.now) m.0 (if_found d l) told now m.1
      (found_so b d known l (λ (found : Option (List ℕ)). Finds h s.number (rule_view s.rule.now).guard [] (passed s.from (threshold_of mode s.after.now) (joined rows (s.own.0, own) s.place (rule_view s.rule.now).heads [] 0 m.0)) found told now)
      (join (s.own.0, own) [] m.0 refl (λ i. refl) m.2 quiet))
