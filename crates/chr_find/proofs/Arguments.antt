-- Arguments by their position.
use Rattle.std.proofs.Common.{◌≡◌, ℕ, zero, suc, List, [], ◌∷◌, refl}
use Rattle.std.specs.Prelude.{option_map, slice_get}
use Rattle.chr_semantics.specs.Keys.{arg_at}
use Rattle.chr_term.specs.TermView.{trees_view, view}
use Rattle.chr_term.specs.declared.term.Term.{Term}

pub arg_view : {A : Type 0} (ts : List (Term A)) (p : ℕ) → arg_at (trees_view ts) p ≡ option_map view (slice_get ts p)
arg_view [] zero = refl
arg_view [] (suc p) = refl
arg_view (t ∷ ts) zero = refl
arg_view (t ∷ ts) (suc p) = arg_view ts p
