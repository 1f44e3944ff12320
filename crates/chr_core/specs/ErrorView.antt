-- Why nothing was published.
use Rattle.std.specs.Prelude.{Bool, true, false}
use Rattle.chr_core.specs.declared.error.CoreError.{CoreError}
use Rattle.chr_core.specs.declared.error.CoreError.TheVariants.{Memory, ShelfFull}

-- the rounds are as many as there can be
abbrev pub is_full : CoreError → Bool
is_full ShelfFull = true
is_full Memory = false
