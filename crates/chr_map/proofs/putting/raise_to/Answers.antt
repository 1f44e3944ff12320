use Rattle.std.proofs.Common.{◌∙◌, ◌∷◌}
use Rattle.chr_map.specs.Entries.{subtree_entries}
use Rattle.chr_map.proofs.Changed.{raised}
use Rattle.chr_map.proofs.Parts.{same_entries}
use Rattle.chr_map.proofs.putting.raise_to.Goals as goal

pub returns-clause-yes : goal.returns-clause-yes
returns-clause-yes g c =
    raised c.reserve.new.self c.swap_tree.new.self c.add.new.self 0 c.cut_tree.new.subtree c.swap_tree.new.tree ((c.in-Some.branch.key, c.in-Some.branch.value) ∷ subtree_entries c.in-Some.branch.after)
    (same_entries c.reserve.new.self c.args.top.now c.reserve.ensures.same ∙ c.requires) c.swap_tree.ensures.swaps c.add.ensures ∙ c.in-Some.ensures
