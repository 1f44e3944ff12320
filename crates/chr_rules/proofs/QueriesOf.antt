-- A query that was made for a program stays one of it.
use Rattle.std.proofs.Common.{◌≡◌, ◌∙◌, Ok, ap}
use Rattle.chr_semantics.specs.Program as semantics
use Rattle.chr_semantics.specs.Syntax as syntax
use Rattle.chr_semantics.specs.Checked.{Checked, checked_query}
use Rattle.chr_semantics.specs.Bounds.{IsQueryBounded}
use Rattle.chr_rules.specs.Grown.{Grows}
use Rattle.chr_rules.specs.QueryOf.{IsQueryOf}
use Rattle.chr_rules.proofs.Bounded.{query_bounded}
use Rattle.chr_rules.proofs.Grown.{grows_both, grows_none}

-- what a query gives over a program is made for it, with the names that it leaves
pub query_of_itself : (c d : Checked) (s : syntax.Query) (q : semantics.Query) → d.declared ≡ c.declared → d.rules ≡ c.rules → checked_query c s ≡ Ok (d.names, q) → IsQueryOf d q
query_of_itself c d s q declared rules h = record {
  before = c.names;
  met = d.names;
  spelled = s;
  is_checked =
      ap (λ n. checked_query (record { names = c.names; declared = n; rules = d.rules }) s) declared
      ∙ ap (λ rs. checked_query (record { names = c.names; declared = c.declared; rules = rs }) s) rules
      ∙ h;
  grown = grows_none d.names;
}

-- other names may come after it
pub query_of_grown : (c d : Checked) (q : semantics.Query) → d.declared ≡ c.declared → d.rules ≡ c.rules → Grows c.names d.names → IsQueryOf c q → IsQueryOf d q
query_of_grown c d q declared rules more h = record {
  before = h.before;
  met = h.met;
  spelled = h.spelled;
  is_checked =
      ap (λ n. checked_query (record { names = h.before; declared = n; rules = d.rules }) h.spelled) declared
      ∙ ap (λ rs. checked_query (record { names = h.before; declared = c.declared; rules = rs }) h.spelled) rules
      ∙ h.is_checked;
  grown = grows_both h.met c.names d.names h.grown more;
}

-- and its variables have names
pub query_of_bounded : (c : Checked) (q : semantics.Query) → IsQueryOf c q → IsQueryBounded q
query_of_bounded c q h = query_bounded (record c { names = h.before }) h.spelled h.met q h.is_checked
