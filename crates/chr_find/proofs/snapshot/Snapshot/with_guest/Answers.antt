use Rattle.std.proofs.Common.{◌∙◌, ◌==◌, Option, Some, ap, arith, cond}
use Rattle.chr_semantics.specs.Program.{Atom}
use Rattle.chr_store.specs.Rows.{row_atom}
use Rattle.chr_find.proofs.snapshot.Snapshot.with_guest.Goals as goal

pub add_for_search-requires : goal.add_for_search-requires
add_for_search-requires g c =
    let s = c.args.self.now in
    c.in_ok-table.ensures.atoms s.next.0 ∙ s.free s.next.0 (omega arith)

pub returns-clause-atoms : goal.returns-clause-atoms
returns-clause-atoms g c k =
    let s = c.args.self.now in
    c.in_ok-add_for_search.ensures.atoms k ∙ ap (λ (o : Option Atom). cond (k == s.next.0) (Some (row_atom c.args.guest.now)) o) (c.in_ok-table.ensures.atoms k)
