-- The program and the query that the words of the command line name.
use Rattle.std.specs.Prelude.{◌≡◌, ℕ, List, codes, Option, Some, None, IfSome, option_map}
use Rattle.chr_run.specs.Command.{after_line, first_line}
use Rattle.chr_run.specs.Reports.{unread_text}
use Rattle.chr_run.specs.declared.command_line.source.Missing.{Missing}
use Rattle.chr_run.specs.declared.command_line.source.Missing.TheVariants.{Input, Query, File}
use Rattle.chr_run.specs.declared.command_line.source.Source.{Source}

-- the query of a text: its first line, where the query does not stand beside it
abbrev pub query_of : Option (List ℕ) → List ℕ → List ℕ
query_of None text = first_line text
query_of (Some query) text = query

-- the program of a text: what stands after its first line, where the query does not stand beside it
abbrev pub program_of : Option (List ℕ) → List ℕ → List ℕ
program_of None text = after_line text
program_of (Some query) text = text

-- the query beside the text of a source
abbrev pub query_beside : Source → Option (List ℕ)
query_beside s = option_map (λ t. t.now) s.query

-- the query of a source
abbrev pub query_in : Source → List ℕ
query_in s = query_of (query_beside s) s.text.items

-- the program of a source
abbrev pub program_in : Source → List ℕ
program_in s = program_of (query_beside s) s.text.items

-- the source that these words name, as far as the bytes of files and input are known
abbrev pub IsSource : Option (List ℕ) → Option (List ℕ) → (List ℕ → Option (List ℕ)) → Option (List ℕ) → Source → Type 0
IsSource None query files input s = (query_beside s ≡ None) × IfSome input (λ whole. s.text.items ≡ whole)
IsSource (Some path) None files input s = ⊥
IsSource (Some path) (Some query) files input s = (query_beside s ≡ Some query) × IfSome (files path) (λ whole. s.text.items ≡ whole)

-- the line that says what is missing
abbrev pub missing_text : Missing → List ℕ
missing_text Input = codes "chr: cannot read\n"
missing_text Query = codes "chr: QUERY is missing\n"
missing_text (File path) = unread_text path.now

-- the same by the words that name the source
abbrev pub missing_line : Option (List ℕ) → Option (List ℕ) → List ℕ
missing_line None query = codes "chr: cannot read\n"
missing_line (Some path) None = codes "chr: QUERY is missing\n"
missing_line (Some path) (Some query) = unread_text path
