-- The text of an error.
use Rattle.std.specs.Prelude.{ℕ, List, ◌++◌, codes}
use Rattle.std.specs.Fmt.{decimal}
use Rattle.chr_read.specs.declared.error.ReadError.{ReadError}
use Rattle.chr_read.specs.declared.error.ReadErrorKind.{ReadErrorKind}
use Rattle.chr_read.specs.declared.error.ReadErrorKind.TheVariants.{NotUtf8, TooLong, BadChar, UnclosedComment, NumberTooLarge, Expected, TooDeep, Memory}

-- the name of a kind
abbrev pub read_error_kind_text : ReadErrorKind → List ℕ
read_error_kind_text NotUtf8 = codes "NotUtf8"
read_error_kind_text TooLong = codes "TooLong"
read_error_kind_text BadChar = codes "BadChar"
read_error_kind_text UnclosedComment = codes "UnclosedComment"
read_error_kind_text NumberTooLarge = codes "NumberTooLarge"
read_error_kind_text Expected = codes "Expected"
read_error_kind_text TooDeep = codes "TooDeep"
read_error_kind_text Memory = codes "Memory"

-- LINE:COLUMN: KIND
abbrev pub read_error_text : ReadError → List ℕ
read_error_text e = decimal e.line ++ codes ":" ++ decimal e.column ++ codes ": " ++ read_error_kind_text e.kind
