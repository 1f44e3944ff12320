use Rattle.std.proofs.Common.{◌∙◌, true, ap}
use Rattle.chr_tokens.specs.TokenView.{placed_views}
use Rattle.chr_read.specs.Automaton.{declared, exporting, limited_room, run}
use Rattle.chr_read.specs.Parts.{listing}
use Rattle.chr_read.proofs.Halted.{halts}
use Rattle.chr_read.proofs.Listings.{exported_refuses, exporting_begins}
use Rattle.chr_read.proofs.directives.exports.Goals as goal

pub returns-in-Some-clause-reads : goal.returns-in-Some-clause-reads
returns-in-Some-clause-reads g c l ps = ap (run limited_room (exporting l ps)) c.in-Some.ensures.first.are

pub returns-in_err-end-clause-reads : goal.returns-in_err-end-clause-reads
returns-in_err-end-clause-reads g c l ps =
    halts _ _ _ c.from_residual.result c.in_err-end.field-0.0 c.from_residual.ensures.1 (exporting_begins l ps (placed_views c.args.text.now) c.in_default.ensures.first) (c.in_err-end.ensures.reads true l ps)

pub returns-in-Some-after_sign-clause-reads : goal.returns-in-Some-after_sign-clause-reads
returns-in-Some-after_sign-clause-reads g c l ps =
    exporting_begins l ps (placed_views c.args.text.now) c.in_default.ensures.first
    ∙ c.in_ok-end.ensures.reads true l ps
    ∙ ap (run limited_room (declared (listing true l ps _))) c.in-Some-after_sign.ensures.first.are

pub returns-in-None-clause-reads : goal.returns-in-None-clause-reads
returns-in-None-clause-reads g c l ps =
    exporting_begins l ps (placed_views c.args.text.now) c.in_default.ensures.first
    ∙ c.in_ok-end.ensures.reads true l ps
    ∙ exported_refuses l ps _ (placed_views c.in_ok-end.end.now) c.in_ok-end.ensures.no_comma c.in-None.ensures.first
