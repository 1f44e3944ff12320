use Rattle.std.proofs.Common.{◌≡◌, ◌∙◌, ◌-◌, ◌+◌, ◌∷◌, List, Some, ap, arith, drop, subst, sym, ℕ}
use Rattle.std.specs.Prelude.{option_map, reverse, slice_get}
use Rattle.chr_find.proofs.SearchParts.{drop_at}
use Rattle.chr_find.specs.TableView.{atom_at}
use Rattle.chr_store.specs.Rows.{row_atom}
use Rattle.chr_store.specs.declared.id.Id.{Id}
use Rattle.chr_store.specs.declared.row.Row.{Row}
use Rattle.chr_base.specs.Leaving.{AreStanding, leaving_ids}
use Rattle.chr_base.specs.declared.firing.Leaving.{Leaving}
use Rattle.chr_base.proofs.Leavings.{drop_least, few_leave, pushed_ids, pushed_standing}
use Rattle.chr_base.proofs.base.Base.leaving.Goals as goal

pub loop-left-preserved-in-Continue-branch-3 : goal.loop-left-preserved-in-Continue-branch-3
loop-left-preserved-in-Continue-branch-3 g c =
    let ids = c.args.ids.now in
    let left = c.loop-left.left - 1 in
    let here : slice_get ids left ≡ Some c.in-Some.id.0 = sym c.get.ensures ∙ ap (option_map (λ (i : Id). i.0)) c.in-Some.is in
    let one : left + 1 ≡ c.loop-left.left = grind (arith, c.loop-left-test.true) in
    record {
      within = omega (arith, c.loop-left.invariant.within);
      least = grind (arith, c.loop-left-test.true, c.loop-left.invariant.least);
      ids =
          ap leaving_ids c.in_ok-push.ensures.items
          ∙ pushed_ids c.loop-left.leaving.items (record { id = c.in-Some.id; row = c.in_ok-row.row })
          ∙ ap (λ (is : List ℕ). c.in-Some.id.0 ∷ is) (c.loop-left.invariant.ids ∙ ap (λ (n : ℕ). drop n ids) (sym one))
          ∙ sym (drop_at ids left c.in-Some.id.0 here);
      there =
          subst (λ (ls : List (Leaving g.row.A.Denot)). AreStanding (atom_at c.args.self.now.table) (reverse ls)) (sym c.in_ok-push.ensures.items)
          (pushed_standing (atom_at c.args.self.now.table) c.loop-left.leaving.items (record { id = c.in-Some.id; row = c.in_ok-row.row }) (sym c.in-Some-row.ensures ∙ ap (λ (r : Row _). Some (row_atom r)) (sym c.in_ok-row.ensures)) c.loop-left.invariant.there);
    }

pub returns-clause-ids : goal.returns-clause-ids
returns-clause-ids g c =
    c.loop-left.invariant.ids ∙ drop_least c.args.kept c.loop-left.left c.args.ids.now (grind (arith, c.loop-left.invariant.within, c.loop-left.invariant.least, c.loop-left-test.false))

pub returns-clause-few : goal.returns-clause-few
returns-clause-few g c = few_leave c.loop-left.leaving.items _ c.loop-left.left c.loop-left.invariant.ids (omega (arith, c.len-left.ensures.few, c.len-left.ensures.len))
