-- The examples of what a run costs.
use Rattle.std.specs.Prelude.{ℕ, Option}
use Rattle.chr_semantics.specs.Profile.{Kind, finds_in, of_kind, partial_in, searches_in, solves_in, tries_in, wakes_in, woken_fire_in}
use Rattle.chr_semantics.specs.State.{start}
use Rattle.chr_semantics.specs.Examples.Example.{Example}

-- of the first n transitions, at the head k of the rule r: the searches, the firings, the lists that were tried, and the partial ones that
-- fitted
abbrev pub costs : Example → ℕ → ℕ → ℕ → ℕ × ℕ × ℕ × ℕ
costs e n r k = let s = start e.query in (searches_in e.program s n r k, finds_in e.program s n r k, tries_in e.program s n r k, partial_in e.program s n r k)

-- how many of them are of a kind
abbrev pub of_kind_in : Example → ℕ → Kind → ℕ
of_kind_in e n k = of_kind e.program (start e.query) n k

-- the Solves of the goals of a rule, or of the query, and how many constraints they woke
abbrev pub solves_and_wakes : Example → ℕ → Option ℕ → ℕ × ℕ
solves_and_wakes e n o = let s = start e.query in (solves_in e.program s n o, wakes_in e.program s n o)

-- how many of the constraints that were made active again fired
abbrev pub woken_fire : Example → ℕ → ℕ
woken_fire e n = woken_fire_in e.program (start e.query) n
