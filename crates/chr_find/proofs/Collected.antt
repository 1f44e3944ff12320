-- The rows of a list, collected.
use Rattle.std.proofs.Common.{◌≡◌, ◌∙◌, List, [], ◌∷◌, ◌++◌, ap, refl, sym}
use Rattle.std.proofs.lemmas.List.{append_assoc}
use Rattle.chr_semantics.specs.Match as semantics
use Rattle.chr_store.specs.Rows.{row_atom}
use Rattle.chr_find.specs.Rebinding.{standing_rows}
use Rattle.chr_find.specs.declared.constraint.Constraint.{Constraint}

module _ {A : Type 0} where
  -- one more
  pub standing_last : (ss : List (Constraint A)) (s : Constraint A) → standing_rows (ss ++ s ∷ []) ≡ standing_rows ss ++ (s.id.0, row_atom s.row) ∷ []
  standing_last [] s = refl
  standing_last (x ∷ ss) s = ap (λ (rows : List semantics.Row). (x.id.0, row_atom x.row) ∷ rows) (standing_last ss s)

-- those before the middle, the middle, and those after it
pub in_order : (old first mid new before one after whole : List semantics.Row) → first ≡ old ++ before → mid ≡ first ++ one → new ≡ mid ++ after → whole ≡ before ++ (one ++ after) → new ≡ old ++ whole
in_order old first mid new before one after whole e f g is =
    g
    ∙ (ap (λ (rows : List semantics.Row). rows ++ after) (f ∙ ap (λ (rows : List semantics.Row). rows ++ one) e)
    ∙ (append_assoc (old ++ before) one after ∙ (append_assoc old before (one ++ after) ∙ ap (λ (rows : List semantics.Row). old ++ rows) (sym is))))
