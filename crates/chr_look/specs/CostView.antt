-- What was done at the heads of rules, and what the goals of rules woke.
use Rattle.std.specs.Prelude.{ℕ, ◌+◌, Bool, cond, List, [], None, Option, Some, Vec, get_or, slice_get}
use Rattle.chr_semantics.specs.Tries.{capped}
use Rattle.chr_find.specs.declared.tried.Tried.{Tried}
use Rattle.chr_look.specs.declared.costs.HeadCost.{HeadCost}
use Rattle.chr_look.specs.declared.costs.SolveCost.{SolveCost}
use Rattle.chr_look.specs.declared.costs.SolveCosts.{SolveCosts}

-- the searches, how many of them fired the rule, the lists that were tried, and the partial ones that fitted
abbrev pub cost_view : HeadCost → ℕ × ℕ × ℕ × ℕ
cost_view c = (c.searches, c.finds, c.tries, c.partial)

-- nothing was done
abbrev pub no_cost : HeadCost
no_cost = record { searches = 0; finds = 0; tries = 0; partial = 0 }

-- at the k-th head
abbrev pub cost_at : List HeadCost → ℕ → ℕ × ℕ × ℕ × ℕ
cost_at row k = cost_view (get_or row k no_cost)

abbrev pub row_of : {A : Type 0} → Option (Vec HeadCost A) → List HeadCost
row_of None = []
row_of (Some v) = v.items

-- at the k-th head of the rule r
abbrev pub cost_in : {A : Type 0} → List (Vec HeadCost A) → ℕ → ℕ → ℕ × ℕ × ℕ × ℕ
cost_in heads r k = cost_at (row_of (slice_get heads r)) k

-- with one search more
abbrev pub noted_cost : Bool → Tried → ℕ × ℕ × ℕ × ℕ → ℕ × ℕ × ℕ × ℕ
noted_cost fires tried c = (capped (c.0 + 1), cond fires (capped (c.1 + 1)) c.1, capped (c.2 + tried.lists), capped (c.3 + tried.partial))

-- the Solves, and how many constraints they woke
abbrev pub solve_view : SolveCost → ℕ × ℕ
solve_view c = (c.solves, c.wakes)

abbrev pub no_solves : SolveCost
no_solves = record { solves = 0; wakes = 0 }

-- of a rule, or of the query
abbrev pub solves_of : {A : Type 0} → SolveCosts A → Option ℕ → ℕ × ℕ
solves_of c None = solve_view c.of_query
solves_of c (Some r) = solve_view (get_or c.of_rules.items r no_solves)

-- with one more, which woke so many
abbrev pub noted_solve : ℕ → ℕ × ℕ → ℕ × ℕ
noted_solve wakes c = (capped (c.0 + 1), capped (c.1 + wakes))
