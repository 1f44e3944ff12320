-- The snapshots of a core's rounds, as these grow.
use Rattle.std.proofs.Common.{◌≡◌, ◌∙◌, ◌++◌, ◌∷◌, ◌<◌, [], List, Option, Some, ap, arith, inl, inr, length, refl, subst, sym, ℕ, ◌⊎◌, ◌+◌}
use Rattle.std.proofs.lemmas.List.{length-append, length-map, map-append}
use Rattle.std.proofs.lemmas.Option.{slice_get_within}
use Rattle.std.specs.Prelude.{slice_get, unwrap_or}
use Rattle.chr_semantics.specs.Program.{Program, Query}
use Rattle.chr_semantics.specs.Snapshot.{snapshot_of}
use Rattle.chr_semantics.specs.State.{State, start}
use Rattle.chr_semantics.specs.Step.{after}
use Rattle.chr_find.specs.SnapshotView.{IsSnapshot}
use Rattle.chr_find.specs.declared.snapshot.Snapshot.{Snapshot}
use Rattle.chr_laws.specs.Rounds.{Round, ats}
use Rattle.chr_laws.proofs.Places.{get_before, get_cases, get_last, get_some}
use Rattle.chr_core.specs.Shown.{AreShown, at_in}

-- no snapshot, and no round
pub none_shown : {A : Type 0} (p : Program) (q : State) → AreShown {A = A} p q [] []
none_shown p q = record { same = refl; shown = λ i s e. cc }

longer : (rounds : List Round) (d : Round) → ats (rounds ++ d ∷ []) ≡ ats rounds ++ d.at ∷ []
longer rounds d = map-append (λ (c : Round). c.at) rounds (d ∷ [])

at_before : (rounds : List Round) (d : Round) (i : ℕ) → i < length rounds → at_in (rounds ++ d ∷ []) i ≡ at_in rounds i
at_before rounds d i h =
    let n = length-map rounds (λ (c : Round). c.at) in
    ap (λ (xs : List ℕ). unwrap_or (slice_get xs i) 0) (longer rounds d)
    ∙ ap (λ (x : Option ℕ). unwrap_or x 0) (get_before (ats rounds) (d.at ∷ []) i (at_in rounds i) (get_some (ats rounds) i 0 (omega (arith, n, h))))

at_last : (rounds : List Round) (d : Round) → at_in (rounds ++ d ∷ []) (length rounds) ≡ d.at
at_last rounds d =
    ap (λ (xs : List ℕ). unwrap_or (slice_get xs (length rounds)) 0) (longer rounds d)
    ∙ ap (λ (n : ℕ). unwrap_or (slice_get (ats rounds ++ d.at ∷ []) n) 0) (sym (length-map rounds (λ (c : Round). c.at)))
    ∙ ap (λ (x : Option ℕ). unwrap_or x 0) (get_last (ats rounds) d.at)

module _ {A : Type 0} (p : Program) (q : State) (rounds : List Round) (shots : List (Snapshot A)) (old : AreShown p q rounds shots) where
  shown_by : (d : Round) (shot : Snapshot A) → IsSnapshot shot (snapshot_of p (after p q d.at)) → (i : ℕ) (s : Snapshot A)
      → (slice_get shots i ≡ Some s) ⊎ ((i ≡ length shots) × (s ≡ shot)) → IsSnapshot s (snapshot_of p (after p q (at_in (rounds ++ d ∷ []) i)))
  shown_by d shot new i s (inl e) =
      let n = old.same in
      let h = slice_get_within shots i s e in
      subst (λ (k : ℕ). IsSnapshot s (snapshot_of p (after p q k))) (sym (at_before rounds d i (omega (arith, n, h)))) (old.shown i s e)
  shown_by d shot new i s (inr w) =
      subst (λ (z : Snapshot A). IsSnapshot z (snapshot_of p (after p q (at_in (rounds ++ d ∷ []) i)))) (sym w.1)
      (subst (λ (k : ℕ). IsSnapshot shot (snapshot_of p (after p q k))) (sym (ap (at_in (rounds ++ d ∷ [])) (w.0 ∙ old.same) ∙ at_last rounds d)) new)

  pub shown_more : (d : Round) (shot : Snapshot A) → IsSnapshot shot (snapshot_of p (after p q d.at)) → AreShown p q (rounds ++ d ∷ []) (shots ++ shot ∷ [])
  shown_more d shot new = record {
    same = (let n = old.same in let a = length-append shots (shot ∷ []) in let b = length-append rounds (d ∷ []) in omega (arith, n, a, b));
    shown = λ i s e. shown_by d shot new i s (get_cases shots shot i s e);
  }

  -- with other flags
  pub shown_again : (new : List Round) → ats new ≡ ats rounds → AreShown p q new shots
  shown_again new e = record {
    same = old.same ∙ sym (length-map rounds (λ (c : Round). c.at)) ∙ ap (λ (xs : List ℕ). length xs) (sym e) ∙ length-map new (λ (c : Round). c.at);
    shown = λ i s h. subst (λ (xs : List ℕ). IsSnapshot s (snapshot_of p (after p q (unwrap_or (slice_get xs i) 0)))) (sym e) (old.shown i s h);
  }
