use Rattle.std.proofs.lemmas.List.Elements.{All-push, All-same}
use Rattle.chr_rules.specs.ProgramView.{rules_of}
use Rattle.chr_base.specs.BaseView.{base_view}
use Rattle.chr_base.specs.Bookmarks.{IsAhead}
use Rattle.chr_base.proofs.base.Base.put.Goals as goal

pub invariant_of-self : goal.invariant_of-self
invariant_of-self g c =
    let b = c.forget.new.self in
    let m = c.args.bookmark in
    let P = IsAhead (rules_of b.program.now) (base_view b) in
    let ahead : P m = rw (c.forget.ensures.same.program, c.forget.ensures.same.view) c.requires.ahead in
    record {
      agrees = b.agrees;
      lends = b.lends;
      ahead = All-same P c.push_reserved.new.self.items _ c.push_reserved.ensures.items (All-push P b.bookmarks.items m b.ahead ahead);
    }
