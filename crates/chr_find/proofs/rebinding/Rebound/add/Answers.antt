use Rattle.std.proofs.Common.{◌≡◌, ◌∙◌, ◌∷◌, ◌++◌, [], Bool, List, Option, ap, cond, refl, subst, sym}
use Rattle.chr_semantics.specs.Tree.{is_ground_trees}
use Rattle.chr_store.specs.Rows.{row_atom}
use Rattle.chr_store.specs.declared.id.Id.{Id}
use Rattle.chr_store.specs.declared.row.Row.{Row}
use Rattle.chr_find.specs.Rebinding.{IsResolved}
use Rattle.chr_find.specs.declared.rebinding.Rebound.{Rebound}
use Rattle.chr_find.specs.declared.rebinding.Replaced.{Replaced}
use Rattle.chr_find.proofs.Made.{made_kept, made_new}
use Rattle.chr_find.proofs.rebinding.Rebound.add.Goals.{else-not-is_ground, then-not-is_ground+in_ok-push}
use Rattle.chr_find.proofs.rebinding.Rebound.add.Goals as goal

pub returns-in-None : goal.returns-in-None
returns-in-None g c = λ f rows made all there variables.
    let s = c.args.bindings.now.subst in
    let same = subst (λ (o : Option (Row g.row.A.Denot)). IsResolved {A = g.row.A.Denot} s (row_atom c.args.standing.now.row) o) c.in-None.is c.in_ok-resolved.ensures in
    made_kept s f rows c.args.self.now.replaced.items c.args.self.now.woken.items made c.args.standing.now.id _ all there variables same c.push.new.self.items c.in_ok-push-in-None.ensures.items

pub returns : goal.returns
returns g c = λ f rows made all there variables.
    let s = c.args.bindings.now.subst in
    let rs = c.args.self.now.replaced.items in
    let ids : List Id = c.args.self.now.woken.items in
    let id : Id = c.args.standing.now.id in
    let new : Row g.row.A.Denot = c.in-Some.new in
    let is = subst (λ (o : Option (Row g.row.A.Denot)). IsResolved s (row_atom c.args.standing.now.row) o) c.in-Some.is c.in_ok-resolved.ensures in
    let ground : is_ground_trees (row_atom new).args ≡ c.is_ground.result = sym c.is_ground.ensures in
    let pushed : (c.if-not-is_ground.self.replaced.items ≡ rs) × (c.if-not-is_ground.self.woken.items ≡ cond (is_ground_trees (row_atom new).args) ids (ids ++ id ∷ [])) =
    elim c.if-not-is_ground.branch [
      | then-not-is_ground+in_ok-push w ↦ subst (λ (t : Rebound g.row.A.Denot). (t.replaced.items ≡ rs) × (t.woken.items ≡ cond (is_ground_trees (row_atom new).args) ids (ids ++ id ∷ []))) (sym w.self-is)
          (refl, w.in_ok-push.ensures.items ∙ sym (ap (λ (b : Bool). cond b ids (ids ++ id ∷ [])) (ground ∙ w.if-not-is_ground.true)))
      | else-not-is_ground w ↦ subst (λ (t : Rebound g.row.A.Denot). (t.replaced.items ≡ rs) × (t.woken.items ≡ cond (is_ground_trees (row_atom new).args) ids (ids ++ id ∷ []))) (sym w.self-is)
          (refl, sym (ap (λ (b : Bool). cond b ids (ids ++ id ∷ [])) (ground ∙ w.if-not-is_ground.false)))
    ]
    in
    let r : Replaced g.row.A.Denot = record { id = id; old = c.in_ok-share.field-0; new = new } in
    made_new s f rows rs ids made id _ all there variables r refl (ap row_atom c.in_ok-share.ensures) is c.push-2.new.self.items
    (c.in_ok-push-2.ensures.items ∙ ap (λ (l : List (Replaced g.row.A.Denot)). l ++ r ∷ []) pushed.0) c.if-not-is_ground.self.woken.items pushed.1
