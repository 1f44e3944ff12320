use Rattle.std.proofs.Common.{◌≡◌, List, [], arith, length, subst}
use Rattle.chr_semantics.specs.Join.{Joined}
use Rattle.chr_find.specs.Finding.{rule_of}
use Rattle.chr_find.specs.Finds.{Finds}
use Rattle.chr_find.specs.Threshold.{free, passed}
use Rattle.chr_find.proofs.OwnFirst.{free_first}
use Rattle.chr_find.proofs.OwnSearch.{own_head}
use Rattle.chr_find.proofs.RuleHeads.{heads_length}
use Rattle.chr_find.proofs.SearchParts.{ok_more}
use Rattle.chr_find.proofs.TableShown.{all_quiet, has_shown, own_shown}
use Rattle.chr_find.proofs.table.Table.first.Goals as goal

pub returns : goal.returns
returns g c =
    let t = c.args.self.now in
    let s = c.args.active.now in
    let rule = rule_of s in
    let h = g.P.FiringHistory.history c.args.past.now in
    let counted : length rule.heads ≡ length s.rule.now.heads.items = heads_length s.rule.now.heads.items s.rule.now.passive.items in
    let x = own_head s.rule.now s.place s.searchable in
    ok_more _ _ c.found.result
    (λ found f rows has a lives.
    let w = own_shown t s.id.0 rows c.requires.own has in
    free_first rows h s.number rule s.place x.0 (s.id.0, a) 0 found c.args.tried.now.lists c.found.new.tried.lists x.1
    (subst (λ (ps : List Joined). Finds h s.number rule.guard [] (passed 0 free ps) found c.args.tried.now.lists c.found.new.tried.lists) (w.same rule s.place x.0 a)
    (f a lives x.0 x.1 w.some (has_shown t w.some c.requires.settled.index w.rises w.looked) (all_quiet w.some rule.heads s.place s.id.0 0 c.len-quiet.result (omega (arith, counted, c.len-quiet.ensures))))))
    c.found.ensures.finds
