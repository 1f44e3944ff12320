use Rattle.std.proofs.Common.{◌∙◌, ap, refl, sym}
use Rattle.std.specs.Prelude.{Some, option_map}
use Rattle.std.proofs.lemmas.Option.{slice_get_past, slice_get_read}
use Rattle.chr_semantics.specs.Keys.{root_of}
use Rattle.chr_term.specs.TermView.{view}
use Rattle.chr_find.proofs.Arguments.{arg_view}
use Rattle.chr_find.proofs.root.Root.at.Goals as goal

pub returns-in-None : goal.returns-in-None
returns-in-None g c = sym (ap (option_map root_of) (arg_view c.args.args.now c.args.position ∙ ap (option_map view) (slice_get_past c.args.args.now c.args.position c.in-None.ensures.lookup.3)))

pub returns-in-Some : goal.returns-in-Some
returns-in-Some g c =
    ap Some c.of.ensures ∙ sym (ap (option_map root_of) (arg_view c.args.args.now c.args.position ∙ ap (option_map view) (slice_get_read c.args.args.now _ c.args.position c.in-Some.term.now refl c.in-Some.ensures.lookup.3.0 c.in-Some.ensures.lookup.1)))
