use Rattle.std.proofs.Common.{◌≡◌, ◌-◌, [], List, arith, length, subst, ℕ}
use Rattle.chr_semantics.specs.Lists.{fronts_from}
use Rattle.chr_machine.specs.MachineView.{machine_view}
use Rattle.chr_machine.specs.Model.{state_in}
use Rattle.chr_look.specs.FrontView.{AreFronts}
use Rattle.chr_look.proofs.fronts.look_at_lists.Goals as goal

pub returns : goal.returns
returns g c r is =
    let s = state_in (machine_view c.args.machine.now) in
    let all : length r.heads - length {A = ℕ} [] ≡ length r.heads = omega arith in
    subst (λ n. AreFronts s c.args.rule r (fronts_from s c.args.rule r n []) c.look_at.new.seen) all
    (subst (λ (ids : List ℕ). AreFronts s c.args.rule r (fronts_from s c.args.rule r (length r.heads - length ids) ids) c.look_at.new.seen) c.new.ensures (c.in_ok-look_at.ensures r is [] (c.new-seen.ensures s c.args.rule r)))
