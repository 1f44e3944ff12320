use Rattle.std.proofs.Common.{◌*◌, ◌+◌, ◌-◌, ◌++◌, ◌∷◌, [], List, length, take, ℕ}
use Rattle.std.specs.Prelude.{filter, flat_map, not}
use Rattle.chr_semantics.specs.Lists.{fronts_from}
use Rattle.chr_semantics.specs.Search.{has_number}
use Rattle.chr_semantics.specs.declared.limits.TheConstants.{MAX_HEADS}
use Rattle.chr_store.specs.Numbers.{numbers}
use Rattle.chr_machine.specs.Model.{state_in}
use Rattle.chr_look.specs.FrontView.{AreFronts}
use Rattle.chr_look.specs.LookedView.{ForRule, model_of}
use Rattle.chr_look.proofs.fronts.Looked.+look.Given as goal

abbrev pub decreases-look_at : goal.decreases-look_at
decreases-look_at g l = 3 * (MAX_HEADS - length l.front) + 2

abbrev pub decreases-look_behind : goal.decreases-look_behind
decreases-look_behind g l = 3 * (MAX_HEADS - length l.front) + 1

abbrev pub decreases-look_next : goal.decreases-look_next
decreases-look_next g l = 3 * (MAX_HEADS - length l.front)

-- those behind the constraints so far were looked at
abbrev pub invariant-look_behind-loop-place : goal.invariant-look_behind-loop-place
invariant-look_behind-loop-place g l =
    let s = state_in (model_of l.self) in
    ForRule l.self (λ rule. (all : List (List ℕ)) → AreFronts s l.self.rule rule all l.fn.seen
    → AreFronts s l.self.rule rule (all ++ flat_map (λ i. fronts_from s l.self.rule rule (length rule.heads - (length l.front + 1)) (l.front ++ i ∷ [])) (filter (λ i. not (has_number l.front i)) (take l.place (numbers l.ids)))) l.seen)
