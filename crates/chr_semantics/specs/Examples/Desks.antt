-- The example of a desk.
use Rattle.std.specs.Prelude.{ℕ}
use Rattle.chr_semantics.specs.Desk.{Desk, Slip, after_close, after_drain, offered, open_desk, taken, with_post, without_answer}

abbrev pub open_board : Desk ℕ
open_board = open_desk

-- two tasks of the round at place 5 are offered
abbrev pub two_offered : Desk ℕ
two_offered = offered open_board 5 2

abbrev pub slip : ℕ → Slip
slip k = record { serial = k; place = 5; index = k }

-- the first is taken and answered, and the answer is drained
abbrev pub one_posted : Desk ℕ
one_posted = with_post (taken two_offered) (slip 0) 77

-- the second is taken and given up, and the desk is closed
abbrev pub one_given_up : Desk ℕ
one_given_up = after_close (without_answer (taken (after_drain one_posted)) (slip 1))
