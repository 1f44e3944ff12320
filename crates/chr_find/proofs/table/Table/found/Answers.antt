use Rattle.std.proofs.Common.{◌≡◌, [], List, Some, subst, sym}
use Rattle.std.specs.Prelude.{is_some}
use Rattle.chr_semantics.specs.Match as semantics
use Rattle.chr_semantics.specs.Trail.{own_trail}
use Rattle.chr_find.specs.Partial.{Counts}
use Rattle.chr_semantics.specs.Join.{own_joined}
use Rattle.chr_semantics.specs.Program.{Atom}
use Rattle.chr_store.specs.Rows.{row_atom}
use Rattle.chr_find.specs.Finding.{rule_of}
use Rattle.chr_find.specs.Finds.{Finds}
use Rattle.chr_find.specs.Threshold.{passed}
use Rattle.chr_find.specs.CursorStateView.{threshold_of}
use Rattle.chr_find.specs.PlanView.{lookups_of}
use Rattle.chr_find.specs.Shown.{IsShown}
use Rattle.chr_find.specs.TableView.{atom_at}
use Rattle.chr_find.specs.declared.plan.Plan.{Plan}
use Rattle.chr_find.proofs.TableShown.{row_is}
use Rattle.chr_find.proofs.SearchParts.{ok_more}
use Rattle.chr_find.proofs.table.Table.found.Goals as goal

pub returns : goal.returns
returns g c =
    let t = c.args.self.now in
    let s = c.args.active.now in
    let same : (a : Atom) → atom_at t s.id.0 ≡ Some a → row_atom c.args.own.now ≡ a = λ a lives. row_is (atom_at t s.id.0) c.args.own.now a (sym c.requires.row) lives in
    let shows : (rows : List semantics.Row) → IsShown (lookups_of t.index.plan) t.index.rows rows → IsShown (lookups_of c.value.result.now) t.index.rows rows =
    λ rows shown. subst (λ (p : Plan g.row.A.Denot). IsShown (lookups_of p) t.index.rows rows) (sym c.value.ensures) shown in
    record {
      finds = ok_more _ _ c.first.result
          (λ found f a lives x at rows shown quiet.
          subst (λ (b : Atom). Finds (g.P.FiringHistory.history c.args.past.now) s.number (rule_of s).guard [] (passed c.args.from (threshold_of c.args.mode c.args.after.now) (own_joined rows (rule_of s) s.place x (s.id.0, b))) found c.args.tried.now.lists c.first.new.tried.lists) (same a lives)
          (f x at rows (shows rows shown) quiet))
          c.first.ensures.finds;
      counts = ok_more _ _ c.first.result
          (λ found f counting all a lives x at rows shown.
          subst (λ (b : Atom). Counts (g.P.FiringHistory.history c.args.past.now) s.number (rule_of s).guard [] (own_trail rows (rule_of s) s.place x (s.id.0, b)) (is_some found) c.args.tried.now.partial c.first.new.tried.partial) (same a lives)
          (f counting all x at rows (shows rows shown)))
          c.first.ensures.counts;
    }
