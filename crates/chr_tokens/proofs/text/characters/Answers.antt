-- The characters of a text are those that it encodes.
use Rattle.std.proofs.Common.{rules}
use Rattle.std.proofs.lemmas.Str.{chars_from_encodes}
use Rattle.chr_tokens.proofs.text.characters.Goals as goal

pub returns-clause-are : goal.returns-clause-are
returns-clause-are g c = search (rules, chars_from_encodes)
