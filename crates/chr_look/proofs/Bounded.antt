-- The heads of a rule that is bounded, and the constraints below the number past their variables.
use Rattle.std.proofs.Common.{◌≡◌, ◌<◌, ◌≤◌, ◌∷◌, [], List, arith, get_or, length, refl, suc, zero, ℕ}
use Rattle.chr_semantics.specs.Bounds.{AreBelow, IsBelow, IsBounded}
use Rattle.chr_semantics.specs.Match.{Row}
use Rattle.chr_semantics.specs.Mgu.{vars, vars_of_all}
use Rattle.chr_semantics.specs.Tree.{Tree, Trees, int, more, node, none, var}
use Rattle.chr_semantics.specs.Verdict.{past, row_vars}
use Rattle.chr_semantics.specs.declared.limits.TheConstants.{MAX_RULE_VARIABLES}
use Rattle.chr_term.specs.TermView.{atom_view, trees_view}
use Rattle.chr_rules.specs.RuleView.{rule_view}
use Rattle.chr_rules.specs.declared.rule.Rule.{Rule}
use Rattle.chr_find.proofs.RuleHeads.{head_at}
use Rattle.chr_base.proofs.Matched.{patterns_small}
use Rattle.chr_look.specs.Matches.{AreHeadsBelow, AreRowsBelow}
use Rattle.chr_look.proofs.Variables.{past_append, past_is}

own_default : {X : Type 0} (xs : List X) (k : ℕ) (d : X) → k < length xs → get_or xs k d ≡ get_or xs k (get_or xs k d)
own_default [] k d lt = absurd (omega (arith, lt))
own_default (x ∷ xs) zero d lt = refl
own_default (x ∷ xs) (suc k) d lt = own_default xs k d (omega (arith, lt))

-- the variables of the heads are those that a rule may have
pub heads_small : {A : Type 0} (rule : Rule A) → IsBounded (rule_view rule) → AreHeadsBelow MAX_RULE_VARIABLES rule.heads.items
heads_small rule b k d lt =
    let h = get_or rule.heads.items k d in
    let x = head_at rule.heads.items rule.passive.items k h lt (own_default rule.heads.items k d lt) in
    patterns_small (rule_view rule) k x.0 (atom_view h.0 h.1.items) (trees_view h.1.items) x.1 x.2 refl b

-- a variable is below the number past it
mutual
  pub below_past : (n : ℕ) (t : Tree) → past (vars t) ≤ n → IsBelow n t
  below_past n (var x) le = omega (arith, past_is x 0, le)
  below_past n (int z) le = tt
  below_past n (node f ts) le = all_below_past n ts le

  pub all_below_past : (n : ℕ) (ts : Trees) → past (vars_of_all ts) ≤ n → AreBelow n ts
  all_below_past n none le = tt
  all_below_past n (more t ts) le =
      let both = past_append (vars t) (vars_of_all ts) in
      (below_past n t (omega (arith, both, le)), all_below_past n ts (omega (arith, both, le)))

-- so are those of rows
pub rows_below_past : (n : ℕ) (rs : List Row) → past (row_vars rs) ≤ n → AreRowsBelow n rs
rows_below_past n [] le k d lt = absurd (omega (arith, lt))
rows_below_past n (r ∷ rs) le zero d lt = all_below_past n r.1.args (omega (arith, past_append (vars_of_all r.1.args) (row_vars rs), le))
rows_below_past n (r ∷ rs) le (suc k) d lt = rows_below_past n rs (omega (arith, past_append (vars_of_all r.1.args) (row_vars rs), le)) k d (omega (arith, lt))
