use Rattle.std.proofs.Common.{IsPermutation, ◌≡◌, ◌∙◌, ◌++◌, [], List, ap, append-nil, length, subst, sym, ℕ}
use Rattle.chr_semantics.specs.Mgu.{vars}
use Rattle.chr_semantics.specs.Subst.{apply}
use Rattle.chr_term.specs.TermView.{view}
use Rattle.chr_machine.specs.MachineView.{machine_view}
use Rattle.chr_machine.specs.Model.{state_in}
use Rattle.chr_look.proofs.Opened.{sorted_has}
use Rattle.chr_look.proofs.effects.open_variables.Goals as goal

pub returns : goal.returns
returns g c = λ x.
    let m = (state_in (machine_view c.args.machine.now)).subst in
    let l = vars (apply m (view c.args.left.now)) in
    let r = vars (apply m (view c.args.right.now)) in
    let both : c.note_open-2.new.found.items ≡ l ++ (r ++ []) =
    c.in_ok-note_open-2.ensures ∙ ap (λ (xs : List ℕ). xs ++ r) (c.in_ok-note_open.ensures ∙ ap (λ (xs : List ℕ). xs ++ l) c.new-found.ensures.items) ∙ ap (λ (xs : List ℕ). l ++ xs) (sym (append-nil r)) in
    let lent = c.as_mut_slice.ensures.value in
    sorted_has c.note_open-2.new.found.len c.note_open-2.new.found.items c.sort.new.self (l ++ (r ++ [])) x (subst (λ (xs : List ℕ). IsPermutation xs c.sort.new.self) lent c.sort.ensures.permutation) (c.sort.ensures.len ∙ ap length lent) c.note_open-2.new.found.ok.0 both
