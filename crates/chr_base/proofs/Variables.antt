-- What a variable of a rule stands for in its body.
use Rattle.std.proofs.Common.{◌≡◌, ℕ, ◌+◌, ◌-◌, ◌<◌, Bool, true, false, cond, ◌==◌, Option, Some, None, Result, Ok, Err, IfOk, [], ◌∷◌, option_map, ap, refl, sym, ◌∙◌}
use Rattle.std.proofs.lemmas.Bool.{lt-ltb}
use Rattle.std.specs.Borrow.{Bor}
use Rattle.std.specs.declared.alloc.AllocError.{AllocError}
use Rattle.chr_semantics.specs.Match.{match_at}
use Rattle.chr_semantics.specs.Program.{Rule}
use Rattle.chr_semantics.specs.Step.{in_body}
use Rattle.chr_semantics.specs.Subst.{Subst, value_at}
use Rattle.chr_semantics.specs.Tree.{Tree, var}
use Rattle.chr_term.specs.TermView.{view}
use Rattle.chr_term.specs.declared.term.Term.{Term}
use Rattle.chr_term.specs.declared.term.Term.TheVariants.{Var}
use Rattle.chr_bind.specs.Matching.{AgreesWith, matched_tree}
use Rattle.chr_bind.specs.declared.matching.Match.{Match}
use Rattle.chr_bind.proofs.Instances.{free_value, matched_value}

in_heads : (rule : Rule) (m : Subst) (next x : ℕ) → x < rule.head_vars → in_body rule m next x ≡ value_at m x
in_heads rule m next x lt = ap (λ b. cond b (value_at m x) (var (next + (x - rule.head_vars)))) (lt-ltb x rule.head_vars lt)

module _ {A : Type 0} (h : Match A) (rule : Rule) (next x : ℕ) (o : Option (Bor (Term A))) where
  -- a variable of the heads that is matched becomes what it is matched to
  matched_is : (m : Subst) (t : Bor (Term A)) → x < rule.head_vars → AgreesWith h m → option_map (λ (b : Bor (Term A)). view b.now) o ≡ matched_tree h x → o ≡ Some t → view t.now ≡ in_body rule m next x
  matched_is m t lt a eo et =
      let slot : matched_tree h x ≡ Some (view t.now) = sym eo ∙ ap (option_map (λ (b : Bor (Term A)). view b.now)) et in
      sym (in_heads rule m next x lt ∙ matched_value m x (view t.now) (sym (a x) ∙ slot))

  pub matched_copied : (r : Result (Term A) AllocError) (t : Bor (Term A)) → x < rule.head_vars → option_map (λ (b : Bor (Term A)). view b.now) o ≡ matched_tree h x → o ≡ Some t → IfOk r (λ copied. view copied ≡ view t.now)
      → IfOk r (λ built. (m : Subst) → AgreesWith h m → view built ≡ in_body rule m next x)
  matched_copied (Ok built) t lt eo et same = λ m a. same ∙ matched_is m t lt a eo et
  matched_copied (Err e) t lt eo et same = tt

  -- one that is not stays
  pub free_stays : (m : Subst) → x < rule.head_vars → AgreesWith h m → option_map (λ (b : Bor (Term A)). view b.now) o ≡ matched_tree h x → o ≡ None → view {A = A} (Var x) ≡ in_body rule m next x
  free_stays m lt a eo et =
      let slot : matched_tree h x ≡ None = sym eo ∙ ap (option_map (λ (b : Bor (Term A)). view b.now)) et in
      sym (in_heads rule m next x lt ∙ free_value m x (sym (a x) ∙ slot))
