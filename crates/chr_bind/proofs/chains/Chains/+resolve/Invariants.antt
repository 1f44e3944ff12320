use Rattle.std.proofs.Common.{◌≡◌, ◌+◌, ◌*◌, take, map}
use Rattle.chr_semantics.specs.Tree.{var}
use Rattle.chr_semantics.specs.Subst.{apply, instances, value_at}
use Rattle.chr_term.specs.Size.{size, size_all}
use Rattle.chr_term.specs.TermView.{trees_view, view}
use Rattle.chr_bind.specs.Chains.{subst_of}
use Rattle.chr_term.specs.Replaced.{list_by}
use Rattle.chr_bind.proofs.chains.Chains.+resolve.Given as goal

abbrev pub decreases-replaced : goal.decreases-replaced
decreases-replaced g l = 4 * size (apply (subst_of l.self.now) (view l.term.now)) + 1

abbrev pub decreases-replaced_variable : goal.decreases-replaced_variable
decreases-replaced_variable g l = 4 * size (apply (subst_of l.self.now) (var l.var))

abbrev pub decreases-replaced_args : goal.decreases-replaced_args
decreases-replaced_args g l = 4 * size_all (instances (value_at (subst_of l.self.now)) l.args.now) + 6

abbrev pub decreases-resolve_args : goal.decreases-resolve_args
decreases-resolve_args g l = 4 * size_all (instances (value_at (subst_of l.self.now)) l.args.now) + 7

abbrev pub decreases-replaced_all : goal.decreases-replaced_all
decreases-replaced_all g l = 4 * size_all (instances (value_at (subst_of l.self.now)) (trees_view l.terms.now)) + 5

abbrev pub invariant-replaced_all-loop-i : goal.invariant-replaced_all-loop-i
invariant-replaced_all-loop-i g l = list_by (take l.i l.terms) l.made ≡ map (λ t. apply (subst_of l.self) (view t)) (take l.i l.terms)
