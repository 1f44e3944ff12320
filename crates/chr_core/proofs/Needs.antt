-- What the next step needs, by the state.
use Rattle.std.proofs.Common.{◌≡◌, ◌≢◌, None, Option, Some, refl}
use Rattle.chr_semantics.specs.State.{Status, done, failed, faulted, running}
use Rattle.chr_semantics.specs.Tasks.{Task}
use Rattle.chr_machine.specs.NeedView.{Needed, ended, need_by, plain, search_of}

pub need_search : (x : Option Task) (w : Status) (t : Task) → need_by x w ≡ search_of t → (x ≡ Some t) × (w ≡ running)
need_search None running t e = cc
need_search (Some u) running t e = (cc, refl)
need_search x done t e = cc
need_search x failed t e = cc
need_search x (faulted f) t e = cc

pub need_plain : (x : Option Task) (w : Status) → need_by x w ≡ plain → (x ≡ None) × (w ≡ running)
need_plain None running e = (refl, refl)
need_plain (Some u) running e = cc
need_plain x done e = cc
need_plain x failed e = cc
need_plain x (faulted f) e = cc

-- a run that has not ended goes on
pub need_some : (x : Option Task) (w : Status) → need_by x w ≢ ended → w ≡ running
need_some x running h = refl
need_some x done h = absurd (h refl)
need_some x failed h = absurd (h refl)
need_some x (faulted f) h = absurd (h refl)

pub need_ended : (x : Option Task) (w : Status) → need_by x w ≡ ended → w ≢ running
need_ended None running e = cc
need_ended (Some u) running e = cc
need_ended x done e = λ r. cc
need_ended x failed e = λ r. cc
need_ended x (faulted f) e = λ r. cc
