use Rattle.std.proofs.Common.{◌∙◌, ap, subst, sym}
use Rattle.chr_semantics.specs.Grammar.{IsQuery}
use Rattle.chr_semantics.specs.Tokens.{tokens}
use Rattle.chr_tokens.specs.TokenView.{IsEnded, placed_views}
use Rattle.chr_read.specs.Automaton as m
use Rattle.chr_read.specs.Automaton.{queries}
use Rattle.chr_read.specs.SyntaxView.{query_view}
use Rattle.chr_read.proofs.Learned.{queries_run, queries_spell, query_same, only_memory, only_so, points, read_so, refused}
use Rattle.chr_read.proofs.reading.read_query.Goals as goal

pub returns-in-Ok-clause-read : goal.returns-in-Ok-clause-read
returns-in-Ok-clause-read g c =
    let text = c.in_ok-characters.ensures.text in
    let are = ap placed_views c.deref-2.ensures.value ∙ c.in_ok-found.ensures.are ∙ ap tokens (c.deref.ensures.value ∙ c.in_ok-characters.ensures.are) in
    read_so IsQuery queries m.query queries_run queries_spell query_same c.args.text.now text.0 text.1 (placed_views c.deref-2.result.now) are (query_view c.in-Ok.found) c.in-Ok.ensures

pub returns-in-Ok-clause-only : goal.returns-in-Ok-clause-only
returns-in-Ok-clause-only g c s h =
    let text = c.in_ok-characters.ensures.text in
    let are = ap placed_views c.deref-2.ensures.value ∙ c.in_ok-found.ensures.are ∙ ap tokens (c.deref.ensures.value ∙ c.in_ok-characters.ensures.are) in
    only_so IsQuery queries m.query queries_run queries_spell query_same c.args.text.now text.0 text.1 (placed_views c.deref-2.result.now) are (query_view c.in-Ok.found) c.in-Ok.ensures s h

pub error_of-requires : goal.error_of-requires
error_of-requires g c =
    let text = c.in_ok-characters.ensures.text in
    let are = ap placed_views c.deref-2.ensures.value ∙ c.in_ok-found.ensures.are ∙ ap tokens (c.deref.ensures.value ∙ c.in_ok-characters.ensures.are) in
    let last = subst IsEnded (ap placed_views (sym c.deref-2.ensures.value)) c.in_ok-found.ensures.last in
    points IsQuery queries m.query queries_run queries_spell query_same c.args.text.now text.0 text.1 (placed_views c.deref-2.result.now) are last c.in-Err.halt c.in-Err.ensures

pub returns-clause-only : goal.returns-clause-only
returns-clause-only g c s h =
    let text = c.in_ok-characters.ensures.text in
    let are = ap placed_views c.deref-2.ensures.value ∙ c.in_ok-found.ensures.are ∙ ap tokens (c.deref.ensures.value ∙ c.in_ok-characters.ensures.are) in
    only_memory IsQuery queries m.query queries_run queries_spell query_same c.args.text.now text.0 text.1 (placed_views c.deref-2.result.now) are c.in-Err.halt c.error_of.result c.in-Err.ensures c.error_of.ensures s h

pub returns-clause-refused : goal.returns-clause-refused
returns-clause-refused g c =
    let text = c.in_ok-characters.ensures.text in
    let are = ap placed_views c.deref-2.ensures.value ∙ c.in_ok-found.ensures.are ∙ ap tokens (c.deref.ensures.value ∙ c.in_ok-characters.ensures.are) in
    refused IsQuery queries m.query queries_run queries_spell query_same c.args.text.now text.0 text.1 (placed_views c.deref-2.result.now) are c.in-Err.halt c.error_of.result c.in-Err.ensures c.error_of.ensures
