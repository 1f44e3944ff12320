use Rattle.std.proofs.Common.{◌≡◌, ◌∙◌, ◌+◌, List, [], ap, arith, length, refl, subst, ℕ}
use Rattle.std.specs.Prelude.{is_some}
use Rattle.chr_semantics.specs.Join.{Joined}
use Rattle.chr_semantics.specs.Trail.{Trail, partial_lists}
use Rattle.chr_semantics.specs.Tries.{capped, tried_tuples}
use Rattle.chr_find.specs.Finding.{rule_of}
use Rattle.chr_find.specs.Finds.{Finds}
use Rattle.chr_find.specs.Partial.{Counts}
use Rattle.chr_find.specs.Threshold.{free, passed}
use Rattle.chr_find.proofs.OwnFirst.{free_first}
use Rattle.chr_find.proofs.OwnSearch.{own_head}
use Rattle.chr_find.proofs.RuleHeads.{heads_length}
use Rattle.chr_find.proofs.TableShown.{all_quiet, has_shown, own_shown}
use Rattle.chr_find.proofs.TrailSteps.{partial_counts}
use Rattle.chr_find.proofs.table.Table.tried.Goals as goal

from_none : (told now n : ℕ) → told ≡ 0 → now ≡ capped (told + n) → now ≡ capped n
from_none told now n none is = let all : 0 + n ≡ n = omega arith in is ∙ (ap (λ (k : ℕ). capped (k + n)) none ∙ ap capped all)

pub returns : goal.returns
returns g c rows has a lives =
    let t = c.args.self.now in
    let s = c.args.active.now in
    let rule = rule_of s in
    let h = g.P.FiringHistory.history c.args.past.now in
    let counted : length rule.heads ≡ length s.rule.now.heads.items = heads_length s.rule.now.heads.items s.rule.now.passive.items in
    let x = own_head s.rule.now s.place s.searchable in
    let w = own_shown t s.id.0 rows c.requires.own has in
    let shown = has_shown t w.some c.requires.settled.index w.rises w.looked in
    let finds : Finds h s.number rule.guard [] (passed 0 free _) c.in_ok-_found._found c.nothing-tried.result.lists c.found.new.tried.lists =
    subst (λ (ps : List Joined). Finds h s.number rule.guard [] (passed 0 free ps) c.in_ok-_found._found c.nothing-tried.result.lists c.found.new.tried.lists) (w.same rule s.place x.0 a)
    (c.in_ok-_found.ensures.finds a lives x.0 x.1 w.some shown (all_quiet w.some rule.heads s.place s.id.0 0 c.len-quiet.result (omega (arith, counted, c.len-quiet.ensures)))) in
    let counts = subst (λ (u : Trail). Counts h s.number rule.guard [] u (is_some c.in_ok-_found._found) c.nothing-tried.result.partial c.found.new.tried.partial) (w.trail rule s.place x.0 a)
    (c.in_ok-_found.ensures.counts refl refl a lives x.0 x.1 w.some shown) in (
      from_none _ c.found.new.tried.lists (tried_tuples rows h s.number rule s.place (s.id.0, a)) c.nothing-tried.ensures.lists
          (free_first rows h s.number rule s.place x.0 (s.id.0, a) 0 c.in_ok-_found._found _ c.found.new.tried.lists x.1 finds).1,
      from_none _ c.found.new.tried.partial (partial_lists rows h s.number rule s.place (s.id.0, a)) c.nothing-tried.ensures.partial
          (partial_counts rows h s.number rule s.place x.0 (s.id.0, a) (is_some c.in_ok-_found._found) _ c.found.new.tried.partial x.1 counts),
    )
