-- Which lists of a store's constraints are looked at for a rule, and how far each of them came (this project's own).
use Rattle.std.specs.Prelude.{ℕ, zero, suc, ◌+◌, Bool, true, false, cond, not, ◌&&◌, ◌||◌, ◌==◌, nat_lt, List, [], ◌∷◌, ◌++◌, Option, Some, None, filter, flat_map, length, map, slice_get, take}
use Rattle.chr_semantics.specs.Keys.{rows_of}
use Rattle.chr_semantics.specs.Program.{Head, Rule}
use Rattle.chr_semantics.specs.Search.{has_number}
use Rattle.chr_semantics.specs.State.{State}
use Rattle.chr_semantics.specs.Verdict.{Verdict, fired, guard, could_fire, not_yet_there, other_symbol, removed, stage, twice, unlike, verdict, waits}

-- A front is a list of constraints for the first heads of a rule.

-- the constraints of the store for the head behind a front: of its symbol, and not in the front
abbrev pub for_head : State → List ℕ → Option Head → List ℕ
for_head s ids None = []
for_head s ids (Some h) = filter (λ i. not (has_number ids i)) (rows_of s.store h.atom.sym)

-- the front is unlike its heads: no list that begins with it is looked at
abbrev pub is_parted : State → ℕ → Rule → List ℕ → Bool
is_parted s r rule ids = stage (verdict s r rule ids) == 5

-- A front with n heads behind it, and then, unless it is parted, those that begin with it: in the order of the identities.
abbrev pub fronts_from : State → ℕ → Rule → ℕ → List ℕ → List (List ℕ)
fronts_from s r rule zero ids = ids ∷ []
fronts_from s r rule (suc n) ids = ids ∷ cond (is_parted s r rule ids) [] (flat_map (λ i. fronts_from s r rule n (ids ++ i ∷ [])) (for_head s ids (slice_get rule.heads (length ids))))

-- all that are looked at for the rule r
abbrev pub fronts : State → ℕ → Rule → List (List ℕ)
fronts s r rule = fronts_from s r rule (length rule.heads) []

-- it is a whole list, or parted: nothing begins with it that is looked at
abbrev pub is_last : State → ℕ → Rule → List ℕ → Bool
is_last s r rule ids = is_parted s r rule ids || length ids == length rule.heads

-- the fronts of k constraints among these that are not parted
abbrev pub like : State → ℕ → Rule → ℕ → List (List ℕ) → ℕ
like s r rule k looked = length (filter (λ ids. length ids == k && not (is_parted s r rule ids)) looked)

-- the last ones with a kind of verdict, by its place among the kinds
abbrev pub of_stage : State → ℕ → Rule → ℕ → List (List ℕ) → ℕ
of_stage s r rule k looked = length (filter (λ ids. is_last s r rule ids && stage (verdict s r rule ids) == k) looked)

-- how far a list came that did not fire: by the kind of the verdict, and of what is unlike or waits or lacks by the head or the test
abbrev pub detail : Verdict → ℕ
detail fired = 0
detail (not_yet_there i) = 0
detail (removed i) = 0
detail (twice i) = 0
detail (other_symbol k) = 0
detail (unlike [] t u) = 0
detail (unlike (k ∷ way) t u) = k
detail (waits k x) = k
detail (guard k l) = k
detail could_fire = 0

abbrev pub is_nearer : Verdict → Verdict → Bool
is_nearer v w = nat_lt (stage w) (stage v) || (stage w == stage v && nat_lt (detail w) (detail v))

-- lists with their verdicts, those that came furthest first; a new one stands behind those that came as far
abbrev pub put_in : List (List ℕ × Verdict) → List ℕ × Verdict → List (List ℕ × Verdict)
put_in [] x = x ∷ []
put_in (y ∷ ys) x = cond (is_nearer x.1 y.1) (x ∷ y ∷ ys) (y ∷ put_in ys x)

-- the n of these that came furthest, which did not fire
abbrev pub furthest : State → ℕ → Rule → ℕ → List (List ℕ × Verdict) → List (List ℕ) → List (List ℕ × Verdict)
furthest s r rule n best [] = best
furthest s r rule n best (ids ∷ looked) =
    furthest s r rule n (cond (is_last s r rule ids && nat_lt 1 (stage (verdict s r rule ids))) (take n (put_in best (ids, verdict s r rule ids))) best) looked
