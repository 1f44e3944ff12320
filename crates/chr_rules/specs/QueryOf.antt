-- Queries that were made for a program, whose names may have grown since.
use Rattle.std.specs.Prelude.{◌≡◌, Ok}
use Rattle.chr_semantics.specs.Names.{Names}
use Rattle.chr_semantics.specs.Program as semantics
use Rattle.chr_semantics.specs.Syntax as syntax
use Rattle.chr_semantics.specs.Checked.{Checked, checked_query}
use Rattle.chr_rules.specs.Grown.{Grows}

-- What some query spells over the program as it was with the names before. Those with the query's own are still there, others after them.
pub record IsQueryOf (c : Checked) (q : semantics.Query) : Type 0 where
  pub before : Names
  pub met : Names
  pub spelled : syntax.Query
  pub is_checked : checked_query (record c { names = before }) spelled ≡ Ok (met, q)
  pub grown : Grows met c.names
