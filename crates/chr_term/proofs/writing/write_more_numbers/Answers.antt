use Rattle.std.proofs.Common.{◌∙◌, ◌++◌, ◌∷◌, ap, refl}
use Rattle.std.specs.Fmt.{decimal}
use Rattle.chr_term.proofs.Extensions.{extended_none, extended_on}
use Rattle.chr_term.proofs.Joined.{all_numbered, numbered_on}
use Rattle.chr_term.proofs.writing.write_more_numbers.Goals as goal

pub loop-item-init : goal.loop-item-init
loop-item-init g c = record {
  text = refl;
  kept = extended_none c.args.out.now.items;
}

pub loop-item-preserved : goal.loop-item-preserved
loop-item-preserved g c = record {
  text = numbered_on g.I.Numbered.number c.args.out.now.items c.loop-item.out.items _ c.args.items.now c.loop-item.item-index c.item-item.result c.loop-item-test.true c.item-item.is c.loop-item.invariant.text (c.in_ok-write_next_number.ensures.ok ∙ ap (λ n. c.loop-item.out.items ++ 44 ∷ decimal n) c.number.ensures);
  kept = extended_on _ _ _ c.loop-item.invariant.kept c.in_ok-write_next_number.ensures.kept;
}

pub returns-in_err-write_next_number-clause-kept : goal.returns-in_err-write_next_number-clause-kept
returns-in_err-write_next_number-clause-kept g c = extended_on _ _ _ c.loop-item.invariant.kept c.write_next_number.ensures.kept

pub returns-clause-ok : goal.returns-clause-ok
returns-clause-ok g c = all_numbered g.I.Numbered.number c.args.out.now.items c.loop-item.out.items c.args.items.now c.loop-item.item-index c.loop-item-test.false c.loop-item.invariant.text
