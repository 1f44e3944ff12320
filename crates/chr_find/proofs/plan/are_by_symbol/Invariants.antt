use Rattle.std.proofs.Common.{◌≡◌, drop}
use Rattle.std.specs.List.{list_any}
use Rattle.chr_find.specs.PlanView.{is_lookup}
use Rattle.chr_find.specs.declared.plan.Lookup.TheVariants.{Symbol}
use Rattle.chr_find.proofs.plan.are_by_symbol.Given as goal

-- the indexes that are left decide
abbrev pub invariant-loop-lookup : goal.invariant-loop-lookup
invariant-loop-lookup l = list_any (is_lookup Symbol) l.lookups ≡ list_any (is_lookup Symbol) (drop l.lookup-index l.lookups)
