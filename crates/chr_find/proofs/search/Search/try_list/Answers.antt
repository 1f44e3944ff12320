use Rattle.std.proofs.Common.{◌≡◌, ◌∙◌, ◌+◌, ◌≤◌, [], ap, false, refl, true, arith, drop, length, map, sym}
use Rattle.chr_bind.specs.Guards.{test_view}
use Rattle.chr_rules.specs.RuleView.{rule_view}
use Rattle.chr_semantics.specs.Guard.{all_entailed}
use Rattle.chr_semantics.specs.Tries.{capped}
use Rattle.chr_bind.specs.Matching.{AgreesWith}
use Rattle.chr_semantics.specs.Subst.{Subst}
use Rattle.chr_find.specs.CursorStateView.{threshold_of}
use Rattle.chr_find.specs.Threshold.{admits}
use Rattle.chr_find.proofs.TrailSteps.{can_enter, end_counts, not_twice}
use Rattle.chr_find.proofs.JoinEnds.{end_closed, end_fired, end_found, end_unguarded}
use Rattle.chr_find.proofs.RuleHeads.{heads_length}
use Rattle.chr_find.proofs.search.Search.try_list.Goals as goal

pub returns-then-not-is_free : goal.returns-then-not-is_free
returns-then-not-is_free g c =
    let past : length (rule_view c.args.self.now.rule.now).heads ≤ (length c.args.prefix.now.partners) = omega (arith, heads_length c.args.self.now.rule.now.heads.items c.args.self.now.rule.now.passive.items, c.requires) in
    record {
      finds = λ rows shown.
          end_closed rows _ _ (rule_view c.args.self.now.rule.now) _ _ (length c.args.prefix.now.partners) c.args.prefix.now.partners c.args.matching.now c.args.self.now.from c.args.self.now.quiet _ c.args.reached.now.tried.lists past (omega arith)
          (sym (c.is_free.ensures c.args.self.now.from (drop (length c.args.prefix.now.partners) c.args.self.now.after.now)) ∙ c.if-not-is_free.true);
      same = λ none x. refl;
      fits = λ all.
          let closed : admits c.args.self.now.from (threshold_of c.args.prefix.now.mode (drop (length c.args.prefix.now.partners) c.args.self.now.after.now)) [] ≡ false = (sym (c.is_free.ensures c.args.self.now.from (drop (length c.args.prefix.now.partners) c.args.self.now.after.now)) ∙ c.if-not-is_free.true) in
          absurd (let no : true ≡ false = sym (ap (λ t. admits c.args.self.now.from t []) all) ∙ closed in cc);
    }

pub returns-then-was_fired : goal.returns-then-was_fired
returns-then-was_fired g c =
    let past : length (rule_view c.args.self.now.rule.now).heads ≤ (length c.args.prefix.now.partners) = omega (arith, heads_length c.args.self.now.rule.now.heads.items c.args.self.now.rule.now.passive.items, c.requires) in
    record {
      finds = λ rows shown.
          let one : c.saturating_add-reached.result ≡ capped (c.args.reached.now.tried.lists + 1) = omega (arith, c.saturating_add-reached.ensures) in
          end_fired rows _ _ (rule_view c.args.self.now.rule.now) _ _ (length c.args.prefix.now.partners) c.args.prefix.now.partners c.args.matching.now c.args.self.now.from c.args.self.now.quiet _ c.args.reached.now.tried.lists past c.saturating_add-reached.result
          (sym (c.is_free.ensures c.args.self.now.from (drop (length c.args.prefix.now.partners) c.args.self.now.after.now)) ∙ c.if-not-is_free.false) one (sym c.was_fired.ensures ∙ c.if-was_fired.true);
      same = λ none x. refl;
      fits = λ all rows shown.
          end_counts rows _ _ (rule_view c.args.self.now.rule.now) _ _ (length c.args.prefix.now.partners) c.args.prefix.now.partners c.args.matching.now false c.args.reached.now.tried.partial (omega arith) past
          (λ m agrees. not_twice (all_entailed m (rule_view c.args.self.now.rule.now).guard) ∙ can_enter (g.P.FiringHistory.history c.args.self.now.past.now) c.args.self.now.number (rule_view c.args.self.now.rule.now).guard c.args.prefix.now.partners m _ true refl (sym c.was_fired.ensures ∙ c.if-was_fired.true));
    }

pub returns-then-branch : goal.returns-then-branch
returns-then-branch g c =
    let past : length (rule_view c.args.self.now.rule.now).heads ≤ (length c.args.prefix.now.partners) = omega (arith, heads_length c.args.self.now.rule.now.heads.items c.args.self.now.rule.now.passive.items, c.requires) in
    let holds : (m : Subst) → AgreesWith c.args.matching.now m → true ≡ all_entailed m (rule_view c.args.self.now.rule.now).guard =
    λ m h. sym c.if-branch.true ∙ c.in_ok-guard_holds.ensures m h ∙ ap (λ l. all_entailed m (map test_view l)) c.as_slice.ensures.value in
    record {
      finds = λ rows shown.
          let one : c.saturating_add-reached.result ≡ capped (c.args.reached.now.tried.lists + 1) = omega (arith, c.saturating_add-reached.ensures) in
          end_found rows _ _ (rule_view c.args.self.now.rule.now) _ _ (length c.args.prefix.now.partners) c.args.prefix.now.partners c.args.matching.now c.args.self.now.from c.args.self.now.quiet _ c.args.reached.now.tried.lists past c.saturating_add-reached.result
          (sym (c.is_free.ensures c.args.self.now.from (drop (length c.args.prefix.now.partners) c.args.self.now.after.now)) ∙ c.if-not-is_free.false) one (sym c.was_fired.ensures ∙ c.if-was_fired.false)
          holds;
      same = λ none. absurd (let no : true ≡ false = none in cc);
      fits = λ all rows shown.
          end_counts rows _ _ (rule_view c.args.self.now.rule.now) _ _ (length c.args.prefix.now.partners) c.args.prefix.now.partners c.args.matching.now true c.args.reached.now.tried.partial (omega arith) past
          (λ m agrees. can_enter (g.P.FiringHistory.history c.args.self.now.past.now) c.args.self.now.number (rule_view c.args.self.now.rule.now).guard c.args.prefix.now.partners m true false (sym (holds m agrees)) (sym c.was_fired.ensures ∙ c.if-was_fired.false));
    }

pub returns : goal.returns
returns g c =
    let past : length (rule_view c.args.self.now.rule.now).heads ≤ (length c.args.prefix.now.partners) = omega (arith, heads_length c.args.self.now.rule.now.heads.items c.args.self.now.rule.now.passive.items, c.requires) in
    let holds : (m : Subst) → AgreesWith c.args.matching.now m → false ≡ all_entailed m (rule_view c.args.self.now.rule.now).guard =
    λ m h. sym c.if-branch.false ∙ c.in_ok-guard_holds.ensures m h ∙ ap (λ l. all_entailed m (map test_view l)) c.as_slice.ensures.value in
    record {
      finds = λ rows shown.
          let one : c.saturating_add-reached.result ≡ capped (c.args.reached.now.tried.lists + 1) = omega (arith, c.saturating_add-reached.ensures) in
          end_unguarded rows _ _ (rule_view c.args.self.now.rule.now) _ _ (length c.args.prefix.now.partners) c.args.prefix.now.partners c.args.matching.now c.args.self.now.from c.args.self.now.quiet _ c.args.reached.now.tried.lists past c.saturating_add-reached.result
          (sym (c.is_free.ensures c.args.self.now.from (drop (length c.args.prefix.now.partners) c.args.self.now.after.now)) ∙ c.if-not-is_free.false) one
          holds;
      same = λ none x. refl;
      fits = λ all rows shown.
          end_counts rows _ _ (rule_view c.args.self.now.rule.now) _ _ (length c.args.prefix.now.partners) c.args.prefix.now.partners c.args.matching.now false c.args.reached.now.tried.partial (omega arith) past
          (λ m agrees. can_enter (g.P.FiringHistory.history c.args.self.now.past.now) c.args.self.now.number (rule_view c.args.self.now.rule.now).guard c.args.prefix.now.partners m false _ (sym (holds m agrees)) refl);
    }
