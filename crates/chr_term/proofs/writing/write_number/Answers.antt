use Rattle.std.proofs.Common.{◌≡◌, ◌++◌, ◌∙◌, ◌∷◌, [], ap, arith, subst, sym}
use Rattle.std.specs.Prelude.{OnOk}
use Rattle.std.proofs.lemmas.Fmt.{decimal_digit}
use Rattle.chr_term.proofs.writing.write_number.Goals as goal

pub returns-then-number-lt10-clause-ok : goal.returns-then-number-lt10-clause-ok
returns-then-number-lt10-clause-ok g c =
    let digit = sym (decimal_digit c.args.number c.if-number-lt10.true ∙ ap (λ n. n ∷ []) (omega arith)) in
    subst (λ ds. OnOk c.write_byte.result (c.write_byte.new.out.items ≡ c.args.out.now.items ++ ds)) digit c.write_byte.ensures.ok
