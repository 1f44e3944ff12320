use Rattle.std.proofs.Common.{◌∙◌, ◌++◌, ◌∷◌, [], ap, map}
use Rattle.std.proofs.lemmas.List.{map-append}
use Rattle.chr_term.specs.TermView.{view}
use Rattle.chr_term.proofs.replacing.begun_with.Goals as goal

pub returns : goal.returns
returns g c = ap (map view) c.in_ok-push.ensures.items ∙ map-append view c.in_ok-items.items.items (c.args.term ∷ []) ∙ ap (λ us. us ++ view c.args.term ∷ []) c.in_ok-items.ensures
