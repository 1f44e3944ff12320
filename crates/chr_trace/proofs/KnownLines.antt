-- The lines about a constraint, where the bytes are its text.
use Rattle.std.proofs.Common.{◌≡◌, ℕ, Bool, true, false, cond, List, ap}
use Rattle.std.specs.Prelude.{codes}
use Rattle.chr_semantics.specs.Names.{Names, VarNames}
use Rattle.chr_semantics.specs.Program.{Atom}
use Rattle.chr_semantics.specs.Text.{known_text, line_text}
use Rattle.chr_semantics.specs.Trace.{activates, defaults, drops, propagates, reactivates, simplifies}
use Rattle.chr_trace.specs.ScribeView.{about_line, at_line, fired_line}

module _ (names : Names) (vars : VarNames) (k : ℕ) (text : List ℕ) (a : Atom) (i : ℕ) (is : text ≡ known_text names vars a i) where
  pub activates_line : about_line k (codes " activate ") text ≡ line_text names vars k (activates a i)
  activates_line = ap (about_line k (codes " activate ")) is

  pub reactivates_line : about_line k (codes " reactivate ") text ≡ line_text names vars k (reactivates a i)
  reactivates_line = ap (about_line k (codes " reactivate ")) is

  pub drops_line : (j : ℕ) → at_line k (codes " drop ") text j ≡ line_text names vars k (drops a i j)
  drops_line j = ap (λ known. at_line k (codes " drop ") known j) is

  pub defaults_line : (j : ℕ) → at_line k (codes " default ") text j ≡ line_text names vars k (defaults a i j)
  defaults_line j = ap (λ known. at_line k (codes " default ") known j) is

  pub fires_line : (keeps : Bool) (j : ℕ) (label ids : List ℕ) →
      fired_line k (cond keeps (codes " propagate ") (codes " simplify ")) text j label ids ≡ line_text names vars k (cond keeps (propagates a i j label ids) (simplifies a i j label ids))
  fires_line true j label ids = ap (λ known. fired_line k (codes " propagate ") known j label ids) is
  fires_line false j label ids = ap (λ known. fired_line k (codes " simplify ") known j label ids) is
