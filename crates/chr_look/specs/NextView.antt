-- What the next transition of a run does.
use Rattle.std.specs.Prelude.{◌≡◌, ℕ, Bool, cond, None, Option, Some, length, nat_lt, option_and_then, option_map}
use Rattle.chr_semantics.specs.Profile.{Kind, default, kind_next, propagate, searched_on_top, simplify}
use Rattle.chr_semantics.specs.Program.{Program}
use Rattle.chr_semantics.specs.State.{State}
use Rattle.chr_semantics.specs.Step.{is_running, step}
use Rattle.chr_rules.specs.Index.{pair_view}
use Rattle.chr_look.specs.KindView.{kind_view}
use Rattle.chr_look.specs.declared.next.Next.{Next}
use Rattle.chr_look.specs.declared.next.Next.TheVariants.{Plain, Search}

-- of which kind it is, by whether a rule fires
abbrev pub kind_by : Next → Bool → Kind
kind_by (Plain k) fires = kind_view k
kind_by (Search at kept) fires = cond fires (cond kept propagate simplify) default

-- at which head of which rule it searches
abbrev pub place_in : Next → Option (ℕ × ℕ)
place_in (Plain k) = None
place_in (Search at kept) = Some (pair_view at)

-- a rule fires in the next transition
abbrev pub fires_next : Program → State → Bool
fires_next p s = nat_lt (length s.history) (length (step p s).history)

-- where the next transition searches
abbrev pub place_of : Program → State → Option (ℕ × ℕ)
place_of p s = cond (is_running s.status) (searched_on_top p s.stack) None

pub record IsNext (p : Program) (s : State) (next : Option Next) : Type 0 where
  pub kind_is : kind_next p s ≡ option_map (λ n. kind_by n (fires_next p s)) next
  pub place_is : place_of p s ≡ option_and_then place_in next
