use Rattle.std.proofs.Common.{◌≡◌, ◌≤◌, ◌+◌, ◌*◌, ◌-◌, ◌++◌, List, ℕ, false, length, vec_len}
use Rattle.chr_semantics.specs.Match as semantics
use Rattle.chr_find.specs.IdRows.{id_rows}
use Rattle.chr_find.specs.IndexSize.{index_size}
use Rattle.chr_find.specs.RowSpans.{span_rows}
use Rattle.chr_find.specs.SearchIs.{WalkLeads}
use Rattle.chr_find.proofs.search.Search.+join.Given as goal

-- the measure of so many heads that are left, in an index of this size
abbrev heads_left : ℕ → ℕ → ℕ
heads_left heads size = heads * (3 * size + 7)

abbrev pub decreases-join : goal.decreases-join
decreases-join g l = heads_left (vec_len l.self.now.rule.now.heads - length l.prefix.now.partners) (index_size l.self.now.rows.now)

abbrev pub decreases-visit_bucket : goal.decreases-visit_bucket
decreases-visit_bucket g l = heads_left (vec_len l.self.now.rule.now.heads - length l.prefix.now.partners - 1) (index_size l.self.now.rows.now) + 3 * length (span_rows l.rows) + 6

abbrev pub decreases-visit : goal.decreases-visit
decreases-visit g l = heads_left (vec_len l.self.now.rule.now.heads - length l.prefix.now.partners - 1) (index_size l.self.now.rows.now) + 3 * length l.span + 5

abbrev pub decreases-visit_some : goal.decreases-visit_some
decreases-visit_some g l = heads_left (vec_len l.self.now.rule.now.heads - length l.prefix.now.partners - 1) (index_size l.self.now.rows.now) + 3 * length l.span + 6

abbrev pub decreases-walk : goal.decreases-walk
decreases-walk g l = heads_left (vec_len l.self.now.rule.now.heads - length l.prefix.now.partners - 1) (index_size l.self.now.rows.now) + 3 * length l.span + 3

abbrev pub decreases-walk_some : goal.decreases-walk_some
decreases-walk_some g l = heads_left (vec_len l.self.now.rule.now.heads - length l.prefix.now.partners - 1) (index_size l.self.now.rows.now) + 3 * length l.span + 4

-- some rows are walked, nothing is found among them, and these are left
abbrev pub invariant-walk-loop-middle : goal.invariant-walk-loop-middle
invariant-walk-loop-middle g l = (done : List semantics.Row)
    × (id_rows l.fn.span ≡ done ++ id_rows l.left)
    × (length l.left ≤ length l.fn.span)
    × WalkLeads (g.P.FiringHistory.history l.self.past.now) l.self l.prefix done l.fn.matching l.matching l.fn.reached l.reached false

abbrev pub decreases-walk-loop-middle : goal.decreases-walk-loop-middle
decreases-walk-loop-middle g l = length l.left

abbrev pub decreases-try_row : goal.decreases-try_row
decreases-try_row g l = heads_left (vec_len l.self.now.rule.now.heads - length l.prefix.now.partners - 1) (index_size l.self.now.rows.now) + 2

abbrev pub decreases-join_row : goal.decreases-join_row
decreases-join_row g l = heads_left (vec_len l.self.now.rule.now.heads - length l.prefix.now.partners - 1) (index_size l.self.now.rows.now) + 1
