-- What a base is shared as.
use Rattle.std.specs.Prelude.{◌≡◌, Option, None, Some}
use Rattle.chr_semantics.specs.State.{State}
use Rattle.chr_find.specs.TableView.{IsForAll, IsKeyed}
use Rattle.chr_find.specs.PendingFiringsView.{IsSettled}
use Rattle.chr_find.specs.declared.pending_firings.PendingFirings.{PendingFirings}
use Rattle.chr_base.specs.BaseView.{IsFresh}
use Rattle.chr_base.specs.Model.{BaseModel}
use Rattle.chr_base.specs.declared.base.Base.{Base}

-- the firings are kept, and all are entered
abbrev pub AreKept : {A : Type 0} → Option (PendingFirings A) → Type 0
AreKept None = ⊥
AreKept (Some f) = IsSettled f

-- its table can be shared for what it shows, and so can its firings
pub record IsShareable {A : Type 0} (b : Base A) : Type 0 where
  pub fresh : IsFresh b
  pub all : IsForAll b.table
  pub keyed : IsKeyed b.table
  pub firings : AreKept b.firings

-- a state with this store, these bindings and this history
pub record IsStateOf (b : BaseModel) (s : State) : Type 0 where
  pub store : s.store ≡ b.store.rows
  pub subst : s.subst ≡ b.subst
  pub history : s.history ≡ b.entries.list
  pub next : s.next_id ≡ b.store.next_id
