use Rattle.std.proofs.Common.{◌≡◌, ◌+◌, ◌*◌, ◌++◌, drop}
use Rattle.chr_semantics.specs.Print.{texts_from}
use Rattle.chr_term.specs.Extension.{IsExtension}
use Rattle.chr_term.specs.Printer.{printings_by}
use Rattle.chr_term.specs.TermView.{view, trees_view}
use Rattle.chr_term.specs.Size.{size, size_all}
use Rattle.chr_term.proofs.printer.Printer.+write.Given as goal

abbrev pub decreases-write : goal.decreases-write
decreases-write g l = 8 * size (view l.term.now)

abbrev pub decreases-write_node : goal.decreases-write_node
decreases-write_node g l = 8 * size_all (trees_view l.args.now) + 7

abbrev pub decreases-write_pair : goal.decreases-write_pair
decreases-write_pair g l = 8 * (size (view l.left.now) + size (view l.right.now)) + 5

abbrev pub decreases-write_two : goal.decreases-write_two
decreases-write_two g l = 8 * (size (view l.left.now) + size (view l.right.now)) + 4

abbrev pub decreases-write_list : goal.decreases-write_list
decreases-write_list g l = 8 * (size (view l.first.now) + size (view l.rest.now)) + 4

abbrev pub decreases-write_operator : goal.decreases-write_operator
decreases-write_operator g l = 8 * (size (view l.left.now) + size (view l.right.now)) + 4

abbrev pub decreases-write_many : goal.decreases-write_many
decreases-write_many g l = 8 * (size (view l.first.now) + size (view l.second.now) + size (view l.third.now) + size_all (trees_view l.others.now)) + 5

abbrev pub decreases-write_next : goal.decreases-write_next
decreases-write_next g l = 8 * size (view l.term.now) + 1

abbrev pub decreases-write_from : goal.decreases-write_from
decreases-write_from g l = 8 * (size (view l.term.now) + size_all (trees_view l.others.now)) + 4

abbrev pub decreases-write_others : goal.decreases-write_others
decreases-write_others g l = 8 * size_all (trees_view l.others.now) + 2

abbrev pub decreases-write_wrapped : goal.decreases-write_wrapped
decreases-write_wrapped g l = 8 * size (view l.term.now) + 1

abbrev pub decreases-write_tail : goal.decreases-write_tail
decreases-write_tail g l = 8 * size (view l.term.now) + 2

abbrev pub decreases-write_end : goal.decreases-write_end
decreases-write_end g l = 8 * size (view l.term.now) + 1

abbrev pub invariant-write_others-loop-term : goal.invariant-write_others-loop-term
invariant-write_others-loop-term g l = record {
  text : l.initial.out.items ++ texts_from (printings_by l.self l.others) ≡ l.out.items ++ texts_from (printings_by l.self (drop l.term-index l.others));
  kept : IsExtension l.initial.out.items l.out.items;
}
