-- The slip of the next task was handed out.
use Rattle.std.proofs.Common.{◌∙◌, ap, sym}
use Rattle.chr_semantics.specs.Desk.{holds_slip, without_answer}
use Rattle.chr_board.specs.DeskView.{desk_view}
use Rattle.chr_board.specs.OfferedView.{slip_view}
use Rattle.chr_board.proofs.Picks.{next_is_slip}
use Rattle.chr_board.proofs.desk.Desk.take_next.Goals as goal

pub returns-then-is_fresh : goal.returns-then-is_fresh
returns-then-is_fresh g c =
    let d = desk_view c.args.self.now in
    let w = slip_view c.in-Some.slip in
    record {
      next = next_is_slip d w c.in-Some.ensures.some (sym (ap (λ e. holds_slip e w) c.in-Some.ensures.state) ∙ c.in-Some.ensures.slip);
      is_fresh = sym c.is_fresh.ensures ∙ c.if-is_fresh.true;
      out = c.in-Some.ensures.state;
    }

pub returns : goal.returns
returns g c =
    let d = desk_view c.args.self.now in
    let w = slip_view c.in-Some.slip in
    record {
      slip = w;
      next = next_is_slip d w c.in-Some.ensures.some (sym (ap (λ e. holds_slip e w) c.in-Some.ensures.state) ∙ c.in-Some.ensures.slip);
      stale = sym c.is_fresh.ensures ∙ c.if-is_fresh.false;
      given_up = c.give_up.ensures ∙ ap (λ e. without_answer e w) c.in-Some.ensures.state;
    }
