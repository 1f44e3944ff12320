use Rattle.std.proofs.Common.{◌∙◌, ◌∷◌, ◌++◌, [], arith, sym}
use Rattle.std.proofs.lemmas.Result.{IfOk-from_err, IfOk-weaker}
use Rattle.chr_semantics.specs.Syntax.{ignored}
use Rattle.chr_tokens.specs.TokenView.{placed_views}
use Rattle.chr_read.specs.Automaton.{between}
use Rattle.chr_read.proofs.Halted.{goes_on, halts}
use Rattle.chr_read.proofs.Listings.{begins_module, declares_symbols, directive_refuses, uses_module, word_refuses}
use Rattle.chr_read.proofs.directives.directive.Goals as goal

pub returns-in_default-clause-shorter : goal.returns-in_default-clause-shorter
returns-in_default-clause-shorter g c = tt

pub returns-then-is_word-clause-shorter : goal.returns-then-is_word-clause-shorter
returns-then-is_word-clause-shorter g c = IfOk-weaker c.constraint_declaration.result _ _ (λ x s. omega (arith, s, c.in-Some.ensures.shorter)) c.constraint_declaration.ensures.shorter

pub returns-in_err-rest-clause-shorter : goal.returns-in_err-rest-clause-shorter
returns-in_err-rest-clause-shorter g c = IfOk-from_err c.from_residual.result _ c.from_residual.ensures.0

pub returns-then-is_word-2-clause-shorter : goal.returns-then-is_word-2-clause-shorter
returns-then-is_word-2-clause-shorter g c = omega (arith, c.in_ok-rest.ensures.shorter, c.in-Some.ensures.shorter)

pub returns-in_err-rest-2-clause-shorter : goal.returns-in_err-rest-2-clause-shorter
returns-in_err-rest-2-clause-shorter g c = IfOk-from_err c.from_residual-in_err-rest-2.result _ c.from_residual-in_err-rest-2.ensures.0

pub returns-then-is_word-3-clause-shorter : goal.returns-then-is_word-3-clause-shorter
returns-then-is_word-3-clause-shorter g c = omega (arith, c.in_ok-rest-2.ensures.shorter, c.in-Some.ensures.shorter)

pub returns-clause-shorter : goal.returns-clause-shorter
returns-clause-shorter g c = tt

pub returns-in_default-clause-reads : goal.returns-in_default-clause-reads
returns-in_default-clause-reads g c ps = directive_refuses c.args.line ps (placed_views c.args.text.now) c.in_default.ensures.first

pub returns-then-is_word-clause-reads : goal.returns-then-is_word-clause-reads
returns-then-is_word-clause-reads g c ps =
    goes_on _ _ _ _ (declares_symbols c.args.line ps c.in-Some.word.now (placed_views c.args.text.now) (placed_views c.in-Some.after.now) c.in-Some.ensures.first (sym c.if-is_word.ensures)) (c.constraint_declaration.ensures.reads ps)

pub returns-in_err-rest-clause-reads : goal.returns-in_err-rest-clause-reads
returns-in_err-rest-clause-reads g c ps =
    halts _ _ _ c.from_residual.result c.in_err-rest.field-0.0 c.from_residual.ensures.1
    (uses_module c.args.line ps c.in-Some.word.now (placed_views c.args.text.now) (placed_views c.in-Some.after.now) c.in-Some.ensures.first (sym c.if-is_word.ensures) (sym c.if-is_word-2.ensures))
    (c.in_err-rest.ensures.reads (between (ps ++ ignored c.args.line ∷ [])))

pub returns-then-is_word-2-clause-reads : goal.returns-then-is_word-2-clause-reads
returns-then-is_word-2-clause-reads g c ps =
    uses_module c.args.line ps c.in-Some.word.now (placed_views c.args.text.now) (placed_views c.in-Some.after.now) c.in-Some.ensures.first (sym c.if-is_word.ensures) (sym c.if-is_word-2.ensures)
    ∙ c.in_ok-rest.ensures.reads (between (ps ++ ignored c.args.line ∷ []))

pub returns-in_err-rest-2-clause-reads : goal.returns-in_err-rest-2-clause-reads
returns-in_err-rest-2-clause-reads g c ps =
    halts _ _ _ c.from_residual-in_err-rest-2.result c.in_err-rest-2.field-0.0 c.from_residual-in_err-rest-2.ensures.1
    (begins_module c.args.line ps c.in-Some.word.now (placed_views c.args.text.now) (placed_views c.in-Some.after.now) c.in-Some.ensures.first (sym c.if-is_word.ensures) (sym c.if-is_word-2.ensures) (sym c.if-is_word-3.ensures))
    (c.in_err-rest-2.ensures.reads c.args.line ps)

pub returns-then-is_word-3-clause-reads : goal.returns-then-is_word-3-clause-reads
returns-then-is_word-3-clause-reads g c ps =
    begins_module c.args.line ps c.in-Some.word.now (placed_views c.args.text.now) (placed_views c.in-Some.after.now) c.in-Some.ensures.first (sym c.if-is_word.ensures) (sym c.if-is_word-2.ensures) (sym c.if-is_word-3.ensures)
    ∙ c.in_ok-rest-2.ensures.reads c.args.line ps

pub returns-clause-reads : goal.returns-clause-reads
returns-clause-reads g c ps = word_refuses c.args.line ps c.in-Some.word.now (placed_views c.args.text.now) (placed_views c.in-Some.after.now) c.in-Some.ensures.first (sym c.if-is_word.ensures) (sym c.if-is_word-2.ensures) (sym c.if-is_word-3.ensures)
