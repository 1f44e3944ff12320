use Rattle.std.proofs.Common.{◌≡◌, ◌∙◌, List, [], ap, length, sym}
use Rattle.chr_semantics.specs.Grammar.{line_of}
use Rattle.chr_semantics.specs.Syntax.{Item}
use Rattle.chr_semantics.specs.Tokens.{Placed, over, sign, stop}
use Rattle.chr_tokens.specs.TokenView.{placed_views}
use Rattle.chr_read.specs.Automaton as m
use Rattle.chr_read.specs.Automaton.{accept, answered, asked, asking, done, limited_room, run, state_before_item}
use Rattle.chr_read.specs.Reads.{BeginsWith, items_verdict}
use Rattle.chr_read.specs.SyntaxView.{item_views}
use Rattle.chr_read.proofs.Listings.{answered_refuses, asked_refuses, asking_begins, done_ends, done_refuses}
use Rattle.chr_read.proofs.Views.{empty_views, eqb_true, longer_views, not_empty}
use Rattle.chr_read.proofs.reading.query.Goals as goal

pub returns-in_default : goal.returns-in_default
returns-in_default g c =
    let text = placed_views c.args.text.now in
    asking_begins text
    ∙ c.in_ok-items.ensures.in_query (line_of text) []
    ∙ asked_refuses (line_of text) (item_views c.in_ok-items.items.items) [] (placed_views c.in_ok-items.end.now) c.in_ok-items.ensures.no_comma c.in_default.ensures.first

pub returns-in_default-after_end : goal.returns-in_default-after_end
returns-in_default-after_end g c =
    let text = placed_views c.args.text.now in
    let items = item_views c.in_ok-items.items.items in
    asking_begins text
    ∙ c.in_ok-items.ensures.in_query (line_of text) []
    ∙ ap (items_verdict (asked (line_of text) items) []) c.in-Some.ensures.first.are
    ∙ answered_refuses (record { line = line_of text; items = items }) (placed_views c.in-Some.last.now) c.in_default-after_end.ensures

-- items, END and the end of the text
run_over : (text end last after : List Placed) (items : List Item) → run limited_room (state_before_item (asked (line_of text) []) []) text ≡ items_verdict (asked (line_of text) items) [] end → BeginsWith end (sign stop) last → BeginsWith last over after → run limited_room asking text ≡ run limited_room (done (m.query (record { line = line_of text; items = items }))) after
run_over text end last after items reads stops ends = asking_begins text ∙ reads ∙ ap (items_verdict (asked (line_of text) items) []) stops.are ∙ ap (run limited_room (answered (record { line = line_of text; items = items }))) ends.are

pub returns-then-is_empty : goal.returns-then-is_empty
returns-then-is_empty g c =
    let text = placed_views c.args.text.now in
    let items = item_views c.in_ok-items.items.items in
    let after = c.in-Some-after_end.after.now in
    run_over text _ _ (placed_views after) items (c.in_ok-items.ensures.in_query (line_of text) []) c.in-Some.ensures.first c.in-Some-after_end.ensures
    ∙ done_ends _ (placed_views after) (empty_views after (eqb_true (length after) 0 (sym c.if-is_empty.ensures)))
    ∙ ap (λ l. accept (m.query (record { line = l; items = items }))) (sym c.first_line-line.ensures)

pub returns-else-is_empty : goal.returns-else-is_empty
returns-else-is_empty g c =
    let text = placed_views c.args.text.now in
    let items = item_views c.in_ok-items.items.items in
    let after = c.in-Some-after_end.after.now in
    run_over text _ _ (placed_views after) items (c.in_ok-items.ensures.in_query (line_of text) []) c.in-Some.ensures.first c.in-Some-after_end.ensures
    ∙ done_refuses _ (placed_views after) (longer_views after (not_empty (length after) (sym c.if-is_empty.ensures)))
