-- What the arguments of a term, taken by their number, say of the list.
use Rattle.std.specs.Prelude.{◌≡◌, List, [], ◌∷◌}
use Rattle.chr_term.specs.declared.term.Term.{Term}
use Rattle.chr_term.specs.declared.printer.Arguments.{Arguments}
use Rattle.chr_term.specs.declared.printer.Arguments.TheVariants.{Zero, One, Two, Many}

abbrev pub AreArguments : {T : Type 0} → Arguments T → List (Term T) → Type 0
AreArguments Zero ts = ts ≡ []
AreArguments (One a) ts = ts ≡ a.now ∷ []
AreArguments (Two a b) ts = ts ≡ a.now ∷ b.now ∷ []
AreArguments (Many a b c others) ts = ts ≡ a.now ∷ b.now ∷ c.now ∷ others.now
