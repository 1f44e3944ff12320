-- A desk as the definitions see it.
use Rattle.std.specs.List.{zip}
use Rattle.chr_semantics.specs.Desk as semantics
use Rattle.chr_shelf.specs.declared.answer.Answer.{Answer}
use Rattle.chr_shelf.specs.declared.run.RunName.{Ghosts}
use Rattle.chr_board.specs.OfferedView.{offered_view}
use Rattle.chr_board.specs.declared.desk.Desk.{Desk}

module _ {J A : Type 0} {G : Ghosts J} where
  abbrev pub desk_view : Desk J A G → semantics.Desk (Answer J A G)
  desk_view d = record { serials = offered_view d.offered.items; posts = zip d.serials.items d.posted.items; closed = d.closed }
