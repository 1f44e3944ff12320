-- What is seen of a run before a transition, and what the transition was.
use Rattle.std.specs.Prelude.{◌≡◌, ℕ, length, option_map}
use Rattle.chr_semantics.specs.Profile.{counted_next, goal_of, kind_next, put_by}
use Rattle.chr_semantics.specs.Program.{Program}
use Rattle.chr_semantics.specs.State.{State}
use Rattle.chr_semantics.specs.Step.{after}
use Rattle.chr_rules.specs.Index.{pair_view}
use Rattle.chr_find.specs.TriedView.{AreTried}
use Rattle.chr_look.specs.KindView.{kind_view}
use Rattle.chr_look.specs.LogView.{sight_view}
use Rattle.chr_look.specs.Logs.{sight}
use Rattle.chr_look.specs.NextView.{IsNext, fires_next, place_of}
use Rattle.chr_look.specs.declared.made.Made.{Made}
use Rattle.chr_look.specs.declared.made.Seen.{Seen}

-- before the transition after the first n
pub record IsSeen (p : Program) (s : State) (n : ℕ) (seen : Seen) : Type 0 where
  pub next_is : IsNext p (after p s n) seen.next
  pub tried_is : AreTried (λ f. counted_next f p (after p s n)) seen.tried
  pub sight_is : sight_view seen.sight ≡ sight (after p s n)
  pub rule_is : seen.rule ≡ goal_of p s n

-- that transition
pub record IsMade (p : Program) (s : State) (n : ℕ) (made : Made) : Type 0 where
  pub kind_is : option_map kind_view made.kind ≡ kind_next p (after p s n)
  pub place_is : option_map pair_view made.place ≡ place_of p (after p s n)
  pub fires_is : made.fires ≡ fires_next p (after p s n)
  pub tried_is : AreTried (λ f. counted_next f p (after p s n)) made.tried
  pub height_is : made.height ≡ length (after p s n).stack
  pub rule_is : made.rule ≡ goal_of p s n
  pub put_is : made.put ≡ put_by p (after p s n)
