use Rattle.chr_find.proofs.search.Search.lacks_partner.Given as goal

abbrev pub invariant-loop-level : goal.invariant-loop-level
invariant-loop-level g l = Unit {0}
