use Rattle.std.proofs.Common.{List, [], subst}
use Rattle.chr_semantics.specs.Join.{Joined}
use Rattle.chr_find.specs.Finding.{rule_of}
use Rattle.chr_find.specs.Finds.{Finds}
use Rattle.chr_find.specs.Threshold.{on, passed}
use Rattle.chr_find.specs.Joins.{IsQuiet}
use Rattle.chr_find.specs.PlanView.{lookups_of}
use Rattle.chr_find.specs.Shown.{ForRows}
use Rattle.chr_find.specs.declared.plan.Plan.{Plan}
use Rattle.chr_find.proofs.OwnFirst.{next_first}
use Rattle.chr_find.proofs.OwnSearch.{own_head}
use Rattle.chr_find.proofs.SearchParts.{ok_more}
use Rattle.chr_find.proofs.TableShown.{has_shown, own_shown}
use Rattle.chr_find.proofs.table.Table.next.Goals as goal

pub returns : goal.returns
returns g c =
    let t = c.args.self.now in
    let s = c.args.active.now in
    let rule = rule_of s in
    let h = g.P.FiringHistory.history c.args.past.now in
    let from = c.args.cursor.now.from in
    let after = c.args.cursor.now.after in
    let x = own_head s.rule.now s.place s.searchable in
    let quiet = subst (λ (p : Plan g.row.A.Denot). ForRows (lookups_of p) t.index.rows (λ rows. IsQuiet rows rule.heads s.place s.id.0 from c.quiet_from-quiet.result)) c.value-plan.ensures c.quiet_from-quiet.ensures in
    ok_more _ _ c.found.result
    (λ found f rows has a lives spent.
    let w = own_shown t s.id.0 rows c.requires.own has in
    let shown = has_shown t w.some c.requires.settled.index w.rises w.looked in
    next_first rows h s.number rule s.place x.0 (s.id.0, a) from after found c.args.tried.now.lists c.found.new.tried.lists x.1 spent
    (subst (λ (ps : List Joined). Finds h s.number rule.guard [] (passed from (on after) ps) found c.args.tried.now.lists c.found.new.tried.lists) (w.same rule s.place x.0 a)
    (f a lives x.0 x.1 w.some shown (quiet w.some shown))))
    c.found.ensures.finds
