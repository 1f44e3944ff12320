use Rattle.std.proofs.Common.{◌+◌, ◌<◌, ◌==◌, ◌&&◌, ◌∙◌, ap, arith, get_or, length, map, nat_lt, not, refl, take}
use Rattle.chr_semantics.specs.Verdict.{stage}
use Rattle.chr_look.specs.FrontView.{front_view}
use Rattle.chr_look.proofs.Fronted.{cut_noted, furthest_noted, like_noted, looked_noted, stage_noted}
use Rattle.chr_look.proofs.fronts.Fronts.note.Goals as goal

pub returns : goal.returns
returns g c s r rule all are verdict_is last_is =
    let old = c.args.self.now in
    let ids = c.args.front.ids in
    let room : length (take 1000000 all) < 1000000 = omega (arith, c.requires.room, are.looked_is) in
    let stage_is = c.stage-stage.ensures.is ∙ ap stage verdict_is in
    record {
      like_are = λ k. like_noted s r rule all ids room k c.len.result (get_or old.like k 0) (get_or c.count.new.counts k 0) _ c.len.ensures.len (ap (λ n. not (n == 5)) stage_is) (are.like_are k) (c.count.ensures k);
      stages_are = λ k. stage_noted s r rule all ids room k c.stage-stage.result (get_or old.stages k 0) (get_or c.count-2.new.counts k 0) c.args.is_last stage_is last_is (are.stages_are k) (c.count-2.ensures k);
      furthest_are =
          furthest_noted s r rule all ids room 5 (map front_view old.furthest.items) (map front_view c.keep.new.lists.items) c.is_kept.result (front_view c.args.front) (c.is_kept.ensures ∙ (λ h. last_is h && nat_lt 1 (stage_is h))) (λ h. (ids, verdict_is h)) are.furthest_are
          c.in_ok-keep.ensures;
      looked_is = looked_noted s r rule all ids room old.looked (old.looked + 1) are.looked_is refl;
      cut_is = are.cut_is ∙ cut_noted s r rule all ids room;
    }
