-- What is entered in a history has fired then, and what had fired has.
use Rattle.std.proofs.Common.{◌≡◌, ◌+◌, ◌==◌, ◌&&◌, ◌||◌, ℕ, Bool, true, false, true≢false, cond, List, [], ◌∷◌, ◌++◌, refl, sym}
use Rattle.std.proofs.lemmas.Bool.{and_from, eq-eqb, or_left, or_right}
use Rattle.std.proofs.lemmas.Bool.Decides.{Decides-eqb}
use Rattle.std.proofs.lemmas.Slice.Eq.{slice_eq-Decides}
use Rattle.chr_semantics.specs.Changes.{Entries, entered}
use Rattle.chr_semantics.specs.Cursor.{IsGrown}
use Rattle.chr_semantics.specs.Search.{History, fired_before, same_ids}

or_more : (b c d : Bool) → (b || c) ≡ true → (c ≡ true → d ≡ true) → (b || d) ≡ true
or_more true c d e h = refl
or_more false c d e h = h e

grown_last : (h : History) (r : ℕ) (ids : List ℕ) (q : ℕ) → IsGrown h (h ++ (r, ids) ∷ []) q
grown_last [] r ids q l e = absurd (true≢false (sym e))
grown_last (f ∷ h) r ids q l e = or_more (f.0 == q && same_ids f.1 l) (fired_before h q l) (fired_before (h ++ (r, ids) ∷ []) q l) e (grown_last h r ids q l)

fired_last : (h : History) (r : ℕ) (ids : List ℕ) → fired_before (h ++ (r, ids) ∷ []) r ids ≡ true
fired_last [] r ids = or_left (r == r && same_ids ids ids) false (and_from (r == r) (same_ids ids ids) (eq-eqb r r refl) ((slice_eq-Decides Decides-eqb ids ids (same_ids ids ids) refl).1 refl))
fired_last (f ∷ h) r ids = or_right (f.0 == r && same_ids f.1 ids) (fired_before (h ++ (r, ids) ∷ []) r ids) (fired_last h r ids)

grown_at : (b : Bool) (h k : Entries) (q : ℕ) → IsGrown h.list k.list q → IsGrown h.list (cond b h k).list q
grown_at true h k q g = λ l e. e
grown_at false h k q g = g

-- what had fired has fired
pub grown_entered : (h : Entries) (r : ℕ) (ids : List ℕ) (q : ℕ) → IsGrown h.list (entered h r ids).list q
grown_entered h r ids q = grown_at (fired_before h.list r ids) h (record { list = h.list ++ (r, ids) ∷ []; stamps = λ m. h.stamps m + cond (r == m) 1 0 }) q (grown_last h.list r ids q)

fired_at : (b : Bool) (h k : Entries) (r : ℕ) (ids : List ℕ) → fired_before h.list r ids ≡ b → fired_before k.list r ids ≡ true → fired_before (cond b h k).list r ids ≡ true
fired_at true h k r ids was is = was
fired_at false h k r ids was is = is

-- and so has what is entered
pub fired_entered : (h : Entries) (r : ℕ) (ids : List ℕ) → fired_before (entered h r ids).list r ids ≡ true
fired_entered h r ids = fired_at (fired_before h.list r ids) h (record { list = h.list ++ (r, ids) ∷ []; stamps = λ m. h.stamps m + cond (r == m) 1 0 }) r ids refl (fired_last h.list r ids)
