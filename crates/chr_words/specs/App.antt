-- The words that `chr` takes, as `clap` knows them.
use Rattle.std.specs.Prelude.{true, codes, List, [], ◌∷◌, Some, fold}
use Rattle.clap.specs.Words.{App, Rule, new_app, new_rule, with_rule}
use Rattle.clap.specs.Simple.{on_top}
use Rattle.clap.specs.declared.builder.action.ArgAction.TheVariants.{SetTrue}
use Rattle.clap.specs.declared.builder.value_parser.ValueParser.TheVariants as vp

abbrev pub program_rule : Rule
program_rule = new_rule (codes "PROGRAM")

abbrev pub query_rule : Rule
query_rule = new_rule (codes "QUERY")

abbrev pub budget_rule : Rule
budget_rule = record (new_rule (codes "budget")) {
  long = Some (codes "budget");
  value_names = 1;
  parser = Some (vp.Unsigned 0 18446744073709551615);
}

abbrev pub workers_rule : Rule
workers_rule = record (new_rule (codes "workers")) {
  long = Some (codes "workers");
  value_names = 1;
  parser = Some (vp.Unsigned 0 4294967295);
}

abbrev pub record_rule : Rule
record_rule = record (new_rule (codes "record")) { long = Some (codes "record"); value_names = 1 }

abbrev pub replay_rule : Rule
replay_rule = record (new_rule (codes "replay")) { long = Some (codes "replay"); value_names = 1 }

abbrev pub totals_rule : Rule
totals_rule = record (new_rule (codes "totals")) { long = Some (codes "totals"); action = Some SetTrue }

abbrev pub text_rules : List Rule
text_rules = program_rule ∷ query_rule ∷ []

abbrev pub number_rules : List Rule
number_rules = budget_rule ∷ workers_rule ∷ []

abbrev pub file_rules : List Rule
file_rules = record_rule ∷ replay_rule ∷ []

-- the program, the query, and the options in the order of the help
abbrev pub chr_rules : List Rule
chr_rules = program_rule ∷ query_rule ∷ budget_rule ∷ workers_rule ∷ record_rule ∷ replay_rule ∷ totals_rule ∷ []

abbrev pub bare_app : App
bare_app = on_top (λ s. record s { no_binary_name = true }) (new_app (codes "chr"))

abbrev pub chr_app : App
chr_app = fold with_rule bare_app chr_rules
