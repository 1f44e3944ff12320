-- The ticket of a round, which a look-up by the place of its snapshot leads to.
use Rattle.std.proofs.Common.{List, None, Option, Some, ap, get_or, length, map, refl, subst, sym, ℕ, ◌<◌, ◌∙◌, ◌≡◌}
use Rattle.std.proofs.lemmas.List.{length-map}
use Rattle.std.proofs.lemmas.Option.{same_Some, slice_get-map, slice_get_read, slice_get_within}
use Rattle.std.specs.Prelude.{option_map, slice_get}
use Rattle.chr_shelf.specs.Seat.{place_of, places_in, shot_of, shots_in}
use Rattle.chr_shelf.specs.declared.run.RunName.{Ghosts}
use Rattle.chr_shelf.specs.declared.shelf.Ticket.{Ticket}
use Rattle.chr_core.specs.Shown.{AreNumbered}
use Rattle.chr_core.proofs.Numbered.{place_at}

module _ {J A : Type 0} {G : Ghosts J} (tickets : List (Ticket J A G)) (round : ℕ) where
  -- what an index gives
  pub shot_at : (t : Ticket J A G) → round < length tickets → t ≡ get_or tickets round t → slice_get (shots_in tickets) round ≡ Some (shot_of t)
  shot_at t lt e = slice_get-map shot_of tickets round ∙ ap (option_map shot_of) (slice_get_read tickets (length tickets) round t refl lt e)

  module _ (number : ℕ → Option ℕ) (place : ℕ) (are : AreNumbered number (places_in tickets)) (its : number place ≡ Some round) where
    there : slice_get (places_in tickets) round ≡ Some place
    there = place_at number (places_in tickets) place round are its

    pub within : round < length tickets
    within = subst (λ (n : ℕ). round < n) (length-map tickets place_of) (slice_get_within (places_in tickets) round place there)

    pub place_is : (t : Ticket J A G) → t ≡ get_or tickets round t → place_of t ≡ place
    place_is t e = same_Some (place_of t) place (sym (slice_get-map place_of tickets round ∙ ap (option_map place_of) (slice_get_read tickets (length tickets) round t refl within e)) ∙ there)
