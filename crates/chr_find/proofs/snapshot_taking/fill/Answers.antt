use Rattle.std.proofs.Common.{◌∙◌}
use Rattle.chr_map.proofs.Clauses.{ok_leads}
use Rattle.chr_find.proofs.snapshot_taking.fill.Goals as goal

pub returns : goal.returns
returns g c =
    ok_leads _ _ c.keep_keys.result c.keep_keys.ensures.ok
    (λ keyed. record {
      whole = c.keep_keys.ensures.whole;
      keyed = keyed;
      atoms = λ i. c.keep_keys.ensures.same i ∙ (c.in_ok-settle_all.ensures.same i ∙ c.in_ok-add_rows.ensures i);
    })
