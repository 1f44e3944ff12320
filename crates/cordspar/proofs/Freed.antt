-- A call that takes over the handle behind a pointer, and lets go of it. Assumes `Logic`.
use Rattle.std.proofs.Common.{◌≡◌, List, [], ◌∷◌, ◌++◌, refl, sym, ap, ◌∙◌, subst}
use mir.Raw.{raw as bare}
use mir.Syntax.{Fn, aggregate, assign, call, copy, local, opd_unit, place, return, rv_opd, seq, ty_ptr, ty_unit, value_local}
use mir.Val.{Val, vptr, vunit}
use base.Logic.{SProp, emp, ent, never, fst∗, id⊢}
use base.Fml.{ftrue}
use prog.Wp.{Closed, WpFn}
use types.Logic.{Logic, sem}
use types.Kit.{‵, raw, ◌⊛◌, some, later, ◌$◌, ◌∵◌, !, qed, by, move, keep, drop, split, join, fsplit, fjoin, feq_l, feq_i, suffices, use0, use1, use2, pick, await}
use types.Run.{of_opd, unit_lit, no_more, and_then, returns, enter}
use types.ByLocal.{alloc_all, pass_all, free_all, look_at, get, sets, lands_as}
use types.Part.{agg}
use contract.Running.{Running, tables}
use prog.Model.{Model}
use seplogic.Ra.Ura.{Ura}
use denote.Builtin.{RawPtr, unit}
use denote.Exit.{yes}
use denote.Memory.{lone}
use denote.Param.{layout}
use denote.RattleType.{owns}
use denote.RawPtr.{Ptr, block_ptr, null_ptr, ptr_val, in_a_block}
use denote.Signature.{plain}
use denote.Steps.{nothing, only}
use denote.Triple.Call.{calls_at}
use denote.Triple.Spec.{Meets, triple_of}
use denote.Triple.Table.{framed}
use denote.Triple.Walked.{Goes-dropped, Stays, stay_dropped, walk_of}
use Rattle.std.proofs.alloc.Calls.{handle_tells}
use Rattle.std.proofs.raw_atomic.Walks.{proved_at, leaves}
use Rattle.std.proofs.alloc.Global.TheLaws as heap_laws
use Rattle.std.specs.Box.Ownership.{box_owns}
use Rattle.std.specs.contracts.impls.GlobalAllocator.TheImpl.{ghosts}
use Rattle.cordspar.proofs.Handles.{Z}
use Rattle.cordspar.proofs.Values.{al, both, loose_good, loose_in}
use Rattle.cordspar.specs.contracts.handle.Handle.{the_row as H}
use Rattle.cordspar.specs.contracts.loose.Loose as loose
use Rattle.cordspar.specs.contracts.programs.cordspar_program_free as f
use Rattle.cordspar.specs.contracts.handle.release as g
use Rattle.cordspar.proofs.handle.release.Symbol.{name as release}

-- the code of such a call, whatever its name is
abbrev pub function : Fn
function = record {
  lifetimes = 0;
  outlives = [];
  ty_params = [];
  givens = 0;
  params = 2;
  locals = local ty_unit value_local ∷ local (layout Z) value_local ∷ local ty_ptr value_local ∷ local ty_unit value_local ∷ local (layout (loose.the_row H Z ghosts)) value_local ∷ [];
  body = seq (assign (place 4 []) (aggregate (copy (place 2 []) ∷ copy (place 1 []) ∷ []))) (seq (call release (copy (place 4 []) ∷ []) (place 3 [])) (seq (assign (place 0 []) (rv_opd opd_unit)) return));
}

-- it lets go of what it takes over
pub freed : {M : Type 1} (𝓤 : Ura M) (𝓛 : Logic 𝓤) (𝓜 : Model 𝓤 𝓛.H) (𝓡 : Running 𝓤 𝓛.H 𝓜) (name : _) → Closed 𝓤 𝓛.H (tables 𝓤 𝓛.H 𝓜 𝓡 𝓡.env).C (tables 𝓤 𝓛.H 𝓜 𝓡 𝓡.env).Λ name function
    → Meets 𝓛 g.signature (𝓡.run (𝓡.env release)) (g.spec 𝓛 𝓜.mem 𝓡.returns) → Meets 𝓛 f.signature (𝓡.run (𝓡.env name)) (f.spec 𝓛 𝓜.mem 𝓡.returns)
freed 𝓤 𝓛 𝓜 𝓡 name unfolded known =
    let 𝓣 = tables 𝓤 𝓛.H 𝓜 𝓡 𝓡.env in let c = f.clauses 𝓛 𝓜.mem 𝓡.returns in
    let hs : Stays f.ended.signature.params f.ended.kept = (stay_dropped (plain (λ _. Z)) yes, (stay_dropped (plain (λ _. RawPtr)) yes, tt)) in
    proved_at 𝓛 f.ended hs c 𝓜 𝓡 (Goes-dropped 𝓛 0 (plain (λ _. Z)) yes (λ κs x f. refl), (Goes-dropped 𝓛 0 (plain (λ _. RawPtr)) yes (λ κs x f. refl), tt))
    name function unfolded (λ z are.
    let a = z.0.3.0 in let p = z.0.3.1.0 in let us = z.0.4.0 in let vs = z.0.4.1.0 in let x = z.1 in
    let Post : Val → SProp 𝓤 = (walk_of 𝓛 f.ended hs c).post z in let Run : List Val → SProp 𝓤 = λ ws. WpFn 𝓤 𝓛.H 𝓣.C 𝓣.Λ function ws Post in
    qed 𝓛 ((‵ ftrue ⊛ ‵ (owns (Z ∷ RawPtr ∷ []) (a, (p, tt)) (us, (vs, tt)))) ∷ ‵ (box_owns (ghosts.dealloc_token a) H p x) ∷ []) ∵ split ! $ drop ! $ fsplit ! $
    handle_tells (al H Z heap_laws.the_row_laws ghosts) ! a us (λ h ea fits. move ! (1 ∷ []) $ fsplit ! $ feq_l ! (λ ev. drop ! $ move ! (1 ∷ []) $
    in_a_block ! p (λ q. box_owns (ghosts.dealloc_token a) H q x) (fst∗ 𝓤 (never 𝓤) (sem 𝓛 (ghosts.dealloc_token a (bare (lone H.mir)) null_ptr))) (λ b o e.
    let w : Val = both (vptr b o) h in let typed = loose_good H Z heap_laws.the_row_laws ghosts b o h fits in
    let is : vs ≡ vptr b o ∷ [] = ev ∙ ap (λ (q : Ptr). ptr_val q ∷ []) e in
    suffices ! (Run (h ∷ vptr b o ∷ [])) (subst (λ (ws : List Val). ent 𝓤 (Run (h ∷ vptr b o ∷ [])) (Run (ws ++ (vs ++ [])))) (sym ea) (subst (λ (ws : List Val). ent 𝓤 (Run (h ∷ vptr b o ∷ [])) (Run (h ∷ (ws ++ [])))) (sym is) (id⊢ 𝓤 (Run (h ∷ vptr b o ∷ []))))) $
    loose_in H Z heap_laws.the_row_laws ghosts ! b o h a x $
    enter ! 𝓣.C 𝓣.Λ function (h ∷ vptr b o ∷ []) Post $ alloc_all ! (λ l. pass_all ! refl (fits, ((tt, tt), tt)) $
    sets ! (agg ! (and_then ! (get ! refl) (and_then ! (get ! refl) (no_more !)))) refl typed $
    let G = triple_of 𝓛 g.signature (g.spec 𝓛 𝓜.mem 𝓡.returns) in
    let y : G.Ghost = ((tt, tt, tt, (record { at = block_ptr b o; alloc = a; value = x }, tt), (w ∷ [], tt)), tt) in
    nothing ! $ move ! (1 ∷ 0 ∷ []) $ fjoin ! $ nothing ! $ join ! $ nothing ! $ move ! (1 ∷ 0 ∷ []) $ use2 𝓛 (raw (G.pre y)) (id⊢ 𝓤 _) $
    calls_at ! (framed 𝓤 𝓛.H 𝓜 𝓣) G known y
    (and_then ! (get ! refl) (no_more !)) (λ u.
    use1 𝓛 (later (some (λ (r : Unit {0}). (‵ ftrue ⊛ ‵ (unit.own_val r (u ∷ []))) ⊛ raw ((g.spec 𝓛 𝓜.mem 𝓡.returns tt y.0.3).ensures tt r)))) (id⊢ 𝓤 _) $
    await ! tt $ pick ! (λ r. split ! $ split ! $ drop ! $ feq_l ! (λ is_unit. drop ! $
    lands_as ! (ap only is_unit) refl (tt, tt) $ sets ! (of_opd ! (unit_lit !)) refl (tt, tt) $
    returns ! (look_at ! 0 refl) $ free_all ! refl $
    use0 𝓛 (raw (emp 𝓤)) (id⊢ 𝓤 (emp 𝓤)) $ feq_i ! (List Val) (vunit ∷ []) (vunit ∷ []) refl $ nothing ! $ nothing ! $ fjoin ! $ nothing ! $ fjoin ! $ nothing ! $
    keep ! (0 ∷ 1 ∷ 2 ∷ 3 ∷ []) $ by ! (leaves 𝓛 f.ended hs c z vunit tt (tt, (tt, tt)) (tt, (tt, tt)))))))))))
