use Rattle.std.proofs.Common.{◌≡◌, ◌∙◌, ◌+◌, ◌∷◌, ℕ, List, ap, arith, length, subst, sym}
use Rattle.std.specs.Prelude.{reverse}
use Rattle.std.specs.List.{fold}
use Rattle.chr_semantics.specs.Changes.{removed}
use Rattle.chr_find.specs.TableView.{HasRoom, atom_at}
use Rattle.chr_base.specs.BaseView.{base_view}
use Rattle.chr_base.specs.Model.{BaseModel}
use Rattle.chr_base.specs.Leaving.{leaving_ids}
use Rattle.chr_base.proofs.Leavings.{changes_removed, first_different, first_standing, one_more, popped_ids, standing_without}
use Rattle.chr_base.proofs.base.Base.take_out_all.Goals as goal

pub loop-next-preserved : goal.loop-next-preserved
loop-next-preserved g c =
    let is = c.in-Some.ensures.items in
    let next = c.in-Some.next in
    let left = c.pop.new.self.items in
    let old = base_view c.loop-next.self in
    let ids : leaving_ids c.loop-next.leaving.items ≡ next.id.0 ∷ leaving_ids left = popped_ids c.loop-next.leaving.items left next is in
    let count : length c.loop-next.leaving.items ≡ length left + 1 = one_more c.loop-next.leaving.items left next is in
    let there = first_standing c.loop-next.leaving.items left next is (atom_at c.loop-next.self.table) c.loop-next.invariant.there in
    let different = first_different c.loop-next.leaving.items left next is c.loop-next.invariant.different in
    record {
      same =
          ap (λ (b : BaseModel). record b { store = fold removed b.store (leaving_ids left) }) c.take_out.ensures.base
          ∙ (ap (λ (is : List ℕ). record old { store = fold removed old.store is }) (sym ids) ∙ c.loop-next.invariant.same);
      program = c.take_out.ensures.program ∙ c.loop-next.invariant.program;
      bookmarks = c.take_out.ensures.bookmarks ∙ c.loop-next.invariant.bookmarks;
      few =
          let less = changes_removed old.store next.id.0 in
          let now = ap (λ (b : BaseModel). b.store.changes) c.take_out.ensures.base in
          omega (arith, less, now, count, c.loop-next.invariant.few);
      room = c.take_out.ensures.room (length left) (subst (λ (n : ℕ). HasRoom n c.loop-next.self.table) count c.loop-next.invariant.room);
      there = standing_without (atom_at c.loop-next.self.table) (atom_at c.take_out.new.self.table) next.id.0 (reverse left) c.take_out.ensures.atoms different.0 there.1;
      different = different.1;
    }
