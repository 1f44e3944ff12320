-- The errors of a board.
use Rattle.std.specs.Prelude.{◌≡◌, ℕ, List, Option, Some, None, codes}
use Rattle.chr_semantics.specs.Desk.{OfferRefusal, is_closed, too_many_tasks}
use Rattle.chr_board.specs.declared.error.BoardError.{BoardError}
use Rattle.chr_board.specs.declared.error.BoardError.TheVariants.{Closed, TooManyTasks, Memory}

abbrev pub board_error_text : BoardError → List ℕ
board_error_text Closed = codes "Closed"
board_error_text TooManyTasks = codes "TooManyTasks"
board_error_text Memory = codes "Memory"

-- the refusal that the error tells; with Memory there is none
abbrev pub refusal_of : BoardError → Option OfferRefusal
refusal_of Closed = Some is_closed
refusal_of TooManyTasks = Some too_many_tasks
refusal_of Memory = None
