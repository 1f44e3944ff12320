use denote.Builtin.{u32}
use denote.Exit.{no}
use denote.Param.{param, copied}
use denote.Param.Send.{IsSend, IsSync, sendable, param_send, arg_send, shr_send}
use Rattle.chr_board.specs.contracts.board.Board as Board
use Rattle.chr_rules.specs.contracts.program.Program as Program
use Rattle.chr_shelf.specs.contracts.shelf.Shelf as Shelf
use Rattle.chr_board.proofs.board.Board.TheSendSync as board_laws
use Rattle.chr_workers.proofs.Crosses.{seven_send, program_row}
use Rattle.chr_workers.proofs.Shots.{shelf}
use Rattle.chr_workers.proofs.workers.beside.Goals as goal

pub join_mut-made-requires-send-F : goal.join_mut-made-requires-send-F
join_mut-made-requires-send-F g c κs within =
    let gate : IsSync (param 2 g.row.G) = c.type_bounds.sync-G in
    let rt : IsSync (param 3 g.row.R) = c.type_bounds.sync-R in
    let send_alloc : IsSend (copied 1 g.row.A) = c.type_bounds.send-A in
    let alloc : IsSync (copied 1 g.row.A) = c.type_bounds.sync-A in
    let send_run : IsSend (param 0 g.row.J) = c.type_bounds.send-J in
    let run : IsSync (param 0 g.row.J) = c.type_bounds.sync-J in
    let frees = c.type_bounds.frees-A-Allocator in
    let program : IsSync (Program.the_row (copied 1 g.row.A) g.A.Allocator) = program_row (copied 1 g.row.A) g.A.Allocator send_alloc alloc frees in
    let shelf_row : IsSync (Shelf.the_row (copied 1 g.row.A) g.A.Allocator) = shelf (copied 1 g.row.A) g.A.Allocator send_alloc alloc frees in
    let board : IsSync (Board.the_row (param 0 g.row.J) (copied 1 g.row.A) g.J.RunName g.A.Allocator) = search (board_laws.the_sync, sendable) depth 20 in
    let many : IsSend u32 = search sendable in
    param_send 1 _ (arg_send _ no _ (seven_send _ _ _ _ _ _ _ _ (shr_send _ _ _ rt) send_alloc (shr_send _ _ _ program) (shr_send _ _ _ shelf_row) (shr_send _ _ _ board) (shr_send _ _ _ gate) many))
