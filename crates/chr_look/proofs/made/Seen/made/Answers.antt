use Rattle.std.proofs.Common.{Bool, ap, cond, length, nat_lt, option_map, ◌+◌, ◌-◌, ◌≡◌, ◌∙◌, sym}
use Rattle.chr_semantics.specs.Step.{after, is_running, step}
use Rattle.chr_semantics.specs.State.{State}
use Rattle.chr_look.specs.Logs.{Sight}
use Rattle.chr_look.specs.NextView.{fires_next, kind_by}
use Rattle.chr_look.specs.declared.next.Next.{Next}
use Rattle.chr_look.proofs.made.Seen.made.Goals as goal

pub returns : goal.returns
returns g c p s n seen next =
    let before = ap (λ (x : Sight). x.entries) seen.sight_is in
    let now = ap (λ (x : Sight). x.entries) c.sight_of.ensures ∙ ap (λ (x : State). length x.history) next in
    let height = ap (λ (x : Sight). x.height) seen.sight_is in
    let fires : nat_lt c.args.self.sight.entries c.sight_of.result.entries ≡ fires_next p (after p s n) = λ h. nat_lt (before h) (now h) in
    record {
      kind_is = c.kind_of.ensures ∙ ap (λ (b : Bool). option_map (λ (x : Next). kind_by x b) c.args.self.next) fires ∙ sym seen.next_is.kind_is;
      place_is = c.place_of.ensures ∙ sym seen.next_is.place_is;
      fires_is = fires;
      tried_is = seen.tried_is;
      height_is = height;
      rule_is = seen.rule_is;
      put_is = c.put.ensures ∙ (λ h. cond (is_running (next h).status) (length (next h).stack + 1 - height h) 0);
    }
