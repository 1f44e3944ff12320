use Rattle.std.proofs.Common.{false, get_or, option_map, ◌∙◌}
use Rattle.chr_rules.specs.Index.{pair_view}
use Rattle.chr_look.specs.CostView.{cost_in, solves_of}
use Rattle.chr_look.specs.KindView.{count_in, kind_view}
use Rattle.chr_look.proofs.Sums.{fire_more, heads_more, kinds_more, solves_more, woken_more}
use Rattle.chr_look.proofs.profile.Profile.note.Goals as goal

pub returns : goal.returns
returns g c p s n made costs =
    let old = c.args.self.now in
    let kind = option_map kind_view c.args.made.kind in
    record {
      heads_are = λ r k.
          heads_more p s n r k (option_map pair_view c.args.made.place) c.args.made.fires c.args.made.tried (cost_in old.heads.items r k) (cost_in c.note_search.new.heads.items r k) made.place_is made.fires_is made.tried_is (costs.heads_are r k)
          (c.in_ok-note_search.ensures r k);
      kinds_are = λ k. kinds_more p s n kind k (count_in old.kinds k) (count_in c.note.new.self k) made.kind_is (costs.kinds_are k) (c.note.ensures k);
      solves_are = λ o.
          solves_more p s n kind c.args.made.rule o c.args.made.put (solves_of old.solves o) (solves_of c.note_solve.new.solves o) made.kind_is made.rule_is made.put_is (costs.solves_are o) (c.in_ok-note_solve.ensures o);
      woken_are = λ h.
          woken_more p s n kind c.args.made.height h (get_or old.woken.items h false) (get_or c.note_turn.new.woken.items h false) made.kind_is made.height_is (costs.woken_are h) (c.in_ok-note_turn.ensures h);
      woken_fire_is =
          fire_more p s n kind c.args.made.height old.woken_fire c.counted-self.result c.is_woken.result made.kind_is made.height_is (c.is_woken.ensures ∙ costs.woken_are c.args.made.height) costs.woken_fire_is c.counted-self.ensures;
    }
