use Rattle.std.proofs.Common.{rules, ◌∙◌, [], ◌∷◌, ap, map, sym}
use Rattle.std.proofs.lemmas.List.{map-append}
use Rattle.chr_term.specs.TermView.{view}
use Rattle.chr_rules.specs.Turns.{list_of}
use Rattle.chr_rules.proofs.Pushed.{list_of_pushed}
use Rattle.chr_rules.proofs.trees.list_of.Goals as goal

pub loop-tree-preserved : goal.loop-tree-preserved
loop-tree-preserved g c =
    c.loop-tree.invariant
    ∙ ap (λ ts. list_of (map view ts) (view c.loop-tree.list)) (search rules)
    ∙ ap (λ ts. list_of ts (view c.loop-tree.list)) (map-append view c.pop.new.self.items (c.in-Some.tree ∷ []))
    ∙ list_of_pushed (map view c.pop.new.self.items) (view c.in-Some.tree) (view c.loop-tree.list)
    ∙ ap (list_of (map view c.pop.new.self.items)) (sym c.in_ok-list.ensures)
