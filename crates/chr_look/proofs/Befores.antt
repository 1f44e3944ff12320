-- What was seen before a transition tells its kind, and that there is one.
use Rattle.std.proofs.Common.{◌≡◌, ◌∙◌, None, Option, Some, List, ap, false, length, nat_lt, option_map, subst, sym, ℕ}
use Rattle.std.proofs.lemmas.List.{length-map}
use Rattle.chr_semantics.specs.Effect.{IsEffect, IsTold, ends, is_held}
use Rattle.chr_semantics.specs.Footprint.{IsSound}
use Rattle.chr_semantics.specs.Profile.{kind_next, solve}
use Rattle.chr_semantics.specs.Program.{Program}
use Rattle.chr_semantics.specs.Search.{History}
use Rattle.chr_semantics.specs.State.{State, Status, running, start}
use Rattle.chr_semantics.specs.Step.{after, step}
use Rattle.chr_semantics.proofs.Alive.{IsAlive, alive_after, some_kind}
use Rattle.chr_semantics.proofs.EffectKinds.{ended_told, told_is}
use Rattle.chr_semantics.proofs.Soundness.{sound_after, sound_start}
use Rattle.chr_store.specs.HistoryView.{fired_view, firings_view}
use Rattle.chr_store.specs.declared.fired.Fired.{Fired}
use Rattle.chr_look.specs.EffectView.{IsBefore, IsReached}
use Rattle.chr_look.specs.KindView.{kind_view}
use Rattle.chr_look.specs.Logs.{Sight}
use Rattle.chr_look.specs.NextView.{kind_by}
use Rattle.chr_look.specs.declared.effects.Before.{Before}
use Rattle.chr_look.specs.declared.kind.Kind.{Kind}

-- a built-in that fails, or comes to a fault, ends the run
pub ended_is : (p : Program) (s t : State) (w : Status) → t ≡ step p s → w ≡ t.status → is_held w ≡ false → kind_next p s ≡ Some solve → IsEffect p s (ends w)
ended_is p s t w now is ended kind =
    told_is p s (ends w) kind (subst (λ (v : Status). IsTold s (step p s) v (ends w)) (is ∙ ap (λ (u : State). u.status) now) (ended_told s (step p s) w ended))

-- each state that a run comes to is sound
pub sound_reached : (p : Program) (s : State) → IsReached p s → IsSound s
sound_reached p s (q, k, e) = subst IsSound (sym e) (sound_after p k (start q) (sound_start q))

-- where the run goes on, a transition is of a kind
pub reached_kind : (p : Program) (s : State) → IsReached p s → s.status ≡ running → kind_next p s ≡ None → ⊥
reached_kind p s (q, k, e) runs none = some_kind p s (subst IsAlive (sym e) (alive_after p q k)) runs none

-- by what was seen, and by how many firings there are now
pub kind_seen : {A : Type 0} (p : Program) (s : State) (before : Before A) (es : List Fired) (found : Option Kind) → IsBefore p s before → firings_view es ≡ (step p s).history
    → option_map kind_view found ≡ option_map (λ n. kind_by n (nat_lt before.sight.entries (length es))) before.next → kind_next p s ≡ option_map kind_view found
kind_seen p s before es found h now kind =
    let entries : length s.history ≡ before.sight.entries = sym (ap (λ (x : Sight). x.entries) h.sight_is) in
    let all : length (step p s).history ≡ length es = sym (ap (λ (f : History). length f) now) ∙ length-map es fired_view in
    h.next_is.kind_is ∙ (λ k. option_map (λ n. kind_by n (nat_lt (entries k) (all k))) before.next) ∙ sym kind

pub kind_at : {A : Type 0} (p : Program) (s : State) (before : Before A) (es : List Fired) (found : Option Kind) (one kind : Kind) → IsBefore p s before → firings_view es ≡ (step p s).history
    → option_map kind_view found ≡ option_map (λ n. kind_by n (nat_lt before.sight.entries (length es))) before.next → found ≡ Some one → one ≡ kind → kind_next p s ≡ Some (kind_view kind)
kind_at p s before es found one kind h now seen some is = kind_seen p s before es found h now seen ∙ ap (option_map kind_view) (some ∙ ap Some is)

-- the height that was seen
pub height_seen : {A : Type 0} (p : Program) (s : State) (before : Before A) → IsBefore p s before → length s.stack ≡ before.sight.height
height_seen p s before h = sym (ap (λ (x : Sight). x.height) h.sight_is)
