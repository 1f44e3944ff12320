use Rattle.std.proofs.Common.{◌≡◌, ◌∙◌, ◌++◌, ap, subst}
use Rattle.std.specs.Prelude.{OnOk}
use Rattle.chr_semantics.specs.Tree.{Trees}
use Rattle.chr_term.specs.TermView.{atom_over}
use Rattle.chr_trace.specs.ScribeView.{atom_by}
use Rattle.chr_trace.proofs.Written.{written_on}
use Rattle.chr_trace.proofs.scribe.Scribe.write_atom.Goals as goal

pub returns-clause-ok : goal.returns-clause-ok
returns-clause-ok g c =
    subst (λ (ts : Trees). OnOk c.print_atom.result (c.print_atom.new.out.items ≡ c.args.out.now.items ++ atom_by c.args.self.now (atom_over c.args.sym ts))) (c.as_slice.ensures.value ∙ c.in_ok-resolved.ensures) c.print_atom.ensures.ok

pub returns-clause-kept : goal.returns-clause-kept
returns-clause-kept g c = written_on c.print_atom.result _ _ _ c.print_atom.ensures.ok c.print_atom.ensures.err
