use Rattle.std.proofs.Common.{false, refl}
use Rattle.chr_semantics.specs.Tokens.{stop}
use Rattle.chr_tokens.specs.TokenView.{placed_views}
use Rattle.chr_read.specs.Automaton.{declared, limited_room, run}
use Rattle.chr_read.specs.Parts.{listing}
use Rattle.chr_read.specs.SyntaxView.{declaration_views}
use Rattle.chr_read.specs.declared.syntax.Part.TheVariants.{Declares}
use Rattle.chr_read.proofs.Halted.{goes_before, goes_on, halts}
use Rattle.chr_read.proofs.Listings.{declared_refuses}
use Rattle.chr_read.proofs.directives.constraint_declaration.Goals as goal

pub returns-in_err-found-clause-reads : goal.returns-in_err-found-clause-reads
returns-in_err-found-clause-reads g c ps =
    halts _ _ _ c.from_residual.result c.in_err-found.field-0.0 c.from_residual.ensures.1 refl (c.in_err-found.ensures.reads false c.args.line ps)

pub returns-clause-reads : goal.returns-clause-reads
returns-clause-reads g c ps =
    let ds = declaration_views c.in_ok-found.found.items in
    goes_on _ _ _ _ (c.in_ok-found.ensures.reads false c.args.line ps)
    (goes_before stop c.in_ok-found.end (Declares c.args.line c.in_ok-found.found) c.before_sign.result (run limited_room (declared (listing false c.args.line ps ds))) _ c.before_sign.ensures.first (λ p rest. refl)
    (declared_refuses c.args.line ps ds (placed_views c.in_ok-found.end.now) c.in_ok-found.ensures.no_comma))
