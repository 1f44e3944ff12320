-- What a `Program` shows.
use Rattle.chr_semantics.specs.Checked.{Checked}
use Rattle.chr_semantics.specs.Names.{Names}
use Rattle.chr_semantics.specs.Program as semantics
use Rattle.chr_rules.specs.RuleView.{rules_view}
use Rattle.chr_rules.specs.declared.program.Program.{Program}

abbrev pub checked_view : {A : Type 0} → Program A → Checked
checked_view p = record { names = p.names; declared = p.declared; rules = rules_view p.rules.items }

abbrev pub names_of : {A : Type 0} → Program A → Names
names_of p = (checked_view p).names

abbrev pub rules_of : {A : Type 0} → Program A → semantics.Program
rules_of p = (checked_view p).rules
