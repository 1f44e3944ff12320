-- `is_allowed` at a call: what it is handed, and what a caller has of it. Assumes `Logic`.
use Rattle.std.proofs.Common.{Bool, ◌≡◌, ℕ, List, [], ◌∷◌, refl, ap}
use seplogic.Ra.Ura.{Ura}
use mir.Val.{Val, vptr, vbool}
use base.Logic.{SProp, ent, sep, guard, ex, id⊢}
use base.Fml.{Lft, Share, ftrue, fsep, flft}
use prog.Memory.{Memory}
use prog.Routine.{Routine}
use types.Logic.{Logic, sem}
use contract.Monad.{Fun}
use types.Kit.{‵, ◌⊛◌, some, later, ◌$◌, ◌∵◌, !, qed, move, keep, use1, split, join, pick, fjoin, feq_i, feq_l, check, show, await, updating, now as at_once, done}
use denote.RattleType.{RattleType}
use denote.Memory.{hidden_shr}
use denote.Builtin.{bool}
use denote.Steps.{nothing, only}
use denote.Triple.Statement.{Contract}
use denote.Triple.Spec.{triple_of}
use Rattle.refusing_alloc.specs.contracts.Growths as counters
use Rattle.refusing_alloc.specs.contracts.is_allowed as counting

abbrev Counters : RattleType
Counters = counters.the_row

module _ {M : Type 1} {𝓤 : Ura M} (𝓛 : Logic 𝓤) (at_mem : Memory → SProp 𝓤) (run : Routine → Fun 𝓤) where
  abbrev pub Counts : Contract 𝓤
  Counts = triple_of 𝓛 counting.signature (counting.spec 𝓛 at_mem run)

  abbrev pub at_allowed : Lft → Share → ℕ × ℕ → Counters.Denot → Counts.Ghost
  at_allowed κ q c g = (((κ, tt), (q, tt), tt, (record { ref_ptr = c; now = g }, tt), (vptr c.0 c.1 ∷ [], tt)), tt)

module _ {M : Type 1} {𝓤 : Ura M} (𝓛 : Logic 𝓤) (at_mem : Memory → SProp 𝓤) (run : Routine → Fun 𝓤) (κ : Lft) (q : Share) (c : ℕ × ℕ) (g : Counters.Denot) where
  open 𝓛 use {H, A}

  pub Counts-goes : ent 𝓤 (sep 𝓤 (sem 𝓛 (hidden_shr Counters κ g c.0 c.1)) (A.lft κ q)) ((Counts 𝓛 at_mem run).pre (at_allowed 𝓛 at_mem run κ q c g))
  Counts-goes =
      qed 𝓛 (‵ (hidden_shr Counters κ g c.0 c.1) ∷ ‵ (flft κ q) ∷ []) ∵ feq_i ! (List Val) (vptr c.0 c.1 ∷ []) (vptr c.0 c.1 ∷ []) refl $ fjoin ! $
      nothing ! $ move ! (1 ∷ []) $ fjoin ! $ nothing ! $ move ! (2 ∷ []) $ join ! $ join ! $ nothing ! $ move ! (1 ∷ []) $ done !

  abbrev pub Answers : Val → Bool → SProp 𝓤
  Answers v b = guard 𝓤 (v ≡ vbool b) (A.lft κ q)

  pub Counts-gives : (v : Val) → ent 𝓤 ((Counts 𝓛 at_mem run).post (at_allowed 𝓛 at_mem run κ q c g) v) (H.⇛ (ex 𝓤 (Answers v)))
  Counts-gives v =
      qed 𝓛 (types.Kit.raw ((Counts 𝓛 at_mem run).post (at_allowed 𝓛 at_mem run κ q c g) v) ∷ []) ∵ updating ! $
      use1 𝓛 (later (some (λ (r : Bool). ((‵ (flft κ q) ⊛ ‵ ftrue) ⊛ ‵ (bool.own_val r (v ∷ []))) ⊛ some (λ (ws : Unit {0} × Unit {0}). ‵ (fsep ftrue ftrue) ⊛ ‵ ftrue)))) (id⊢ 𝓤 _) $ await ! tt $ pick ! (λ r.
      split ! $ split ! $ move ! (1 ∷ []) $ feq_l ! (λ e. split ! $ at_once ! $ show ! (Answers v) r $ check ! (ap only e) $ keep ! (0 ∷ []) $ done !))
