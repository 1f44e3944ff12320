-- The kinds of transitions, and how many there are of each.
use Rattle.std.specs.Prelude.{ℕ, get_or}
use Rattle.chr_semantics.specs.Profile as semantics
use Rattle.chr_semantics.specs.Profile.{activate, default, drop, propagate, rank, reactivate, simplify, solve}
use Rattle.chr_look.specs.declared.kind.Kind.{Kind}
use Rattle.chr_look.specs.declared.kind.Kind.TheVariants.{Activate, Default, Drop, Propagate, Reactivate, Simplify, Solve}
use Rattle.chr_look.specs.declared.kind.KindCounts.{KindCounts}

abbrev pub kind_view : Kind → semantics.Kind
kind_view Solve = solve
kind_view Activate = activate
kind_view Reactivate = reactivate
kind_view Drop = drop
kind_view Simplify = simplify
kind_view Propagate = propagate
kind_view Default = default

abbrev pub count_in : KindCounts → semantics.Kind → ℕ
count_in c k = get_or c.counts (rank k) 0
