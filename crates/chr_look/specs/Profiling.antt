-- What a run cost.
use Rattle.std.specs.Prelude.{◌≡◌, ℕ, Option, false, get_or}
use Rattle.chr_semantics.specs.Profile.{Kind, finds_in, is_woken_at, of_kind, partial_in, searches_in, solves_in, tries_in, wakes_in, woken_fire_in}
use Rattle.chr_semantics.specs.Program.{Program}
use Rattle.chr_semantics.specs.State.{State}
use Rattle.chr_semantics.specs.Tries.{capped}
use Rattle.chr_look.specs.CostView.{cost_in, solves_of}
use Rattle.chr_look.specs.KindView.{count_in}
use Rattle.chr_look.specs.declared.profile.Profile.{Profile}

-- of the first n transitions, as far as numbers of 64 bits go: the searches at a head of a rule, how many of them fired it, the lists that
-- they tried, and the partial ones that fitted
abbrev pub costs_of : Program → State → ℕ → ℕ → ℕ → ℕ × ℕ × ℕ × ℕ
costs_of p s n r k = (capped (searches_in p s n r k), capped (finds_in p s n r k), capped (tries_in p s n r k), capped (partial_in p s n r k))

-- those of a kind
abbrev pub counts_of : Program → State → ℕ → Kind → ℕ
counts_of p s n k = capped (of_kind p s n k)

-- the Solves of the goals of a rule, or of the query, and how many constraints they woke
abbrev pub solve_costs_of : Program → State → ℕ → Option ℕ → ℕ × ℕ
solve_costs_of p s n o = (capped (solves_in p s n o), capped (wakes_in p s n o))

-- a profile is that of the first n transitions
pub record AreCosts {A : Type 0} (p : Program) (s : State) (n : ℕ) (f : Profile A) : Type 0 where
  pub heads_are : (r k : ℕ) → cost_in f.heads.items r k ≡ costs_of p s n r k
  pub kinds_are : (k : Kind) → count_in f.kinds k ≡ counts_of p s n k
  pub solves_are : (o : Option ℕ) → solves_of f.solves o ≡ solve_costs_of p s n o
  pub woken_are : (h : ℕ) → get_or f.woken.items h false ≡ is_woken_at p s n h
  pub woken_fire_is : f.woken_fire ≡ capped (woken_fire_in p s n)
