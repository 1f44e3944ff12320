use Rattle.std.proofs.Common.{◌∙◌}
use Rattle.chr_rules.specs.ProgramView.{rules_of}
use Rattle.chr_store.specs.HistoryView.{entries_view}
use Rattle.chr_store.specs.StoreView.{store_view}
use Rattle.chr_find.specs.TableView.{atom_at}
use Rattle.chr_base.proofs.Agreements.{agrees_empty}
use Rattle.chr_base.proofs.Bookmarked.{ahead_none}
use Rattle.chr_base.proofs.Lent.{lends_none}
use Rattle.chr_base.proofs.base.Base.new.Goals as goal

pub invariant_of-result : goal.invariant_of-result
invariant_of-result g c =
    let m = store_view c.new-2.result in
    let h = entries_view c.new-3.result in
    let s = c.fresh.new.self in
    record {
      agrees = agrees_empty m h s.subst (atom_at c.new-4.result) c.new-2.ensures c.new-3.ensures (c.fresh.ensures.subst ∙ c.new-bindings.ensures.subst) c.new-4.ensures.atoms;
      lends = lends_none m h;
      ahead = ahead_none (rules_of c.args.program.now) (record { store = m; entries = h; subst = s.subst; next_var = s.len }) c.new-5.result.items c.new-5.ensures.items;
    }
