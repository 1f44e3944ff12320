use Rattle.std.proofs.Common.{◌≡◌, ◌∙◌, [], ap, length, subst, sym}
use Rattle.std.proofs.lemmas.Bool.Decides.{Decides-eqb}
use Rattle.chr_bind.specs.Unified.{IsUnified}
use Rattle.chr_bind.specs.declared.bindings.Unified.{Unified}
use Rattle.chr_bind.specs.declared.bindings.Unified.TheVariants.{Bound}
use Rattle.chr_semantics.proofs.Lists.{no_items}
use Rattle.chr_semantics.specs.Changes.{rebound}
use Rattle.chr_semantics.specs.Subst.{Subst}
use Rattle.chr_rules.specs.ProgramView.{rules_of}
use Rattle.chr_store.specs.HistoryView.{entries_view}
use Rattle.chr_store.specs.Numbers.{numbers}
use Rattle.chr_store.specs.StoreView.{store_view}
use Rattle.chr_find.specs.TableView.{atom_at}
use Rattle.chr_term.specs.TermView.{view}
use Rattle.chr_base.specs.Agreement.{Agrees}
use Rattle.chr_base.specs.BaseView.{base_view}
use Rattle.chr_base.proofs.Bookmarked.{ahead_bound, ahead_none, ahead_same}
use Rattle.chr_base.proofs.Equated.{agrees_equated, lends_equated, solves}
use Rattle.chr_base.proofs.base.Base.tell.Goals as goal

pub invariant_of-self : goal.invariant_of-self
invariant_of-self g c =
    let b = c.args.self.now in
    let same = c.in_err-unified.ensures.refused in
    record {
      agrees = subst (λ (s : Subst). Agrees (store_view b.store) (entries_view b.history) s (atom_at b.table) b.is_stale) (sym same) b.agrees;
      lends = b.lends;
      ahead = ahead_same (rules_of b.program.now) (base_view b) _ b.bookmarks.items (λ k. record (base_view b) { subst = same k; next_var = c.unify.ensures.len k }) b.ahead;
    }

pub invariant_of-self-then-not-is_empty : goal.invariant_of-self-then-not-is_empty
invariant_of-self-then-not-is_empty g c =
    let b = c.args.self.now in
    let m = store_view b.store in
    let h = entries_view b.history in
    let s = b.bindings.subst in
    let r = c.unify.new.self.subst in
    let t = view c.args.left.now in
    let u = view c.args.right.now in
    let is : IsUnified t u s r Bound = subst (λ (w : Unified). IsUnified t u s r w) c.in-Bound.is c.in_ok-unified.ensures.unified in
    record {
      agrees = agrees_equated m h s r (atom_at b.table) _ b.agrees t u is _ (numbers c.args.woken.now) c.rebound.ensures;
      lends = lends_equated m h s r (atom_at b.table) _ b.agrees t u is _ (numbers c.args.woken.now) c.rebound.ensures b.firings b.lends;
      ahead = ahead_none (rules_of b.program.now) _ c.clear.new.self.items c.clear.ensures.items;
    }

pub invariant_of-self-else-not-is_empty : goal.invariant_of-self-else-not-is_empty
invariant_of-self-else-not-is_empty g c =
    let b = c.args.self.now in
    let m = store_view b.store in
    let h = entries_view b.history in
    let s = b.bindings.subst in
    let r = c.unify.new.self.subst in
    let t = view c.args.left.now in
    let u = view c.args.right.now in
    let ids = numbers c.args.woken.now in
    let is : IsUnified t u s r Bound = subst (λ (w : Unified). IsUnified t u s r w) c.in-Bound.is c.in_ok-unified.ensures.unified in
    let none : ids ≡ [] = ap numbers (no_items c.args.woken.now ((Decides-eqb (length c.args.woken.now) 0).0 (sym c.is_empty.ensures ∙ c.if-not-is_empty.false))) in
    record {
      agrees = agrees_equated m h s r (atom_at b.table) _ b.agrees t u is _ ids c.rebound.ensures;
      lends = lends_equated m h s r (atom_at b.table) _ b.agrees t u is _ ids c.rebound.ensures b.firings b.lends;
      ahead = ahead_bound (rules_of b.program.now) (base_view b) _ r b.bookmarks.items
          (λ k. record (base_view b) { store = (c.rebound.ensures ∙ ap (rebound m) none) k; subst = r; next_var = c.unify.ensures.len k })
          (solves m h s r (atom_at b.table) _ b.agrees t u is) (sym c.requires.woken ∙ none) b.ahead;
    }
