-- Which types threads may share: rows, maps, key lists, tables, snapshots, shelves.
use denote.RattleType.{RattleType}
use denote.Param.Send.{IsSend, IsSync, Frees, sendable, recorded_sync, recorded_send, enum_sync, enum_send, struct_sync, struct_send}
use denote.Enum.Declared as enum
use denote.Struct.Declared as struct
use Rattle.std.specs.declared.alloc.Allocator.{Ghosts}
use Rattle.std.proofs.CrossingOver.{crosses}
use Rattle.std.specs.contracts.vec.Vec as Vec
use Rattle.chr_store.specs.contracts.id.Id as Id
use Rattle.chr_store.specs.contracts.row.Row as Row
use Rattle.chr_map.specs.contracts.pointer.Pointer as Pointer
use Rattle.chr_map.proofs.pointer.Pointer.TheSendSync as pointer_laws
use Rattle.chr_map.proofs.node.Node.TheLaws.TheKnot as node_laws
use Rattle.chr_map.proofs.node.Branch.TheSendSync as branch_laws
use Rattle.chr_term.proofs.term.Sym.TheSendSync as sym_laws
use Rattle.chr_store.proofs.id.Id.TheSendSync as id_laws
use Rattle.std.specs.contracts.sync.Arc as Arc
use Rattle.std.specs.contracts.option.Option as Option
use Rattle.chr_map.specs.contracts.map.Map as Map
use Rattle.std.specs.declared.cmp.Ord as ord
use Rattle.std.specs.declared.cmp.PartialEq as eq
use Rattle.std.specs.declared.cmp.PartialOrd as partial
use Rattle.chr_store.specs.contracts.fired.Fired as Fired
use Rattle.chr_find.specs.contracts.firings.Firings as Firings
use Rattle.chr_find.specs.contracts.bucket.Bucket as Bucket
use Rattle.chr_find.specs.contracts.bucket_rows.BucketRows as BucketRows
use Rattle.chr_find.specs.contracts.bucket_rows.Held as Held
use Rattle.chr_find.specs.contracts.bucket_rows.Rows as Rows
use Rattle.chr_find.specs.contracts.index.Index as Index
use Rattle.chr_find.specs.contracts.index_change.IndexChange as IndexChange
use Rattle.chr_store.proofs.fired.Fired.TheSendSync as fired_laws
use Rattle.chr_find.proofs.bucket.Bucket.TheSendSync as bucket_laws
use Rattle.chr_keys.specs.contracts.key_lists.KeyLists as KeyLists
use Rattle.chr_keys.specs.contracts.pending_keys.PendingKeys as PendingKeys
use Rattle.chr_keys.specs.contracts.id_list.IdList as IdList
use Rattle.chr_keys.specs.contracts.symbol_key.SymbolKey as SymbolKey
use Rattle.chr_keys.specs.contracts.key_change.KeyChange as KeyChange
use Rattle.chr_keys.proofs.id_list.IdList.TheSendSync as id_list_laws
use Rattle.chr_keys.proofs.pending.Pending.TheSendSync as pending_laws
use Rattle.chr_keys.proofs.symbol_key.SymbolKey.TheSendSync as symbol_key_laws
use Rattle.chr_keys.proofs.key_change.KeyChange.TheSendSync as key_change_laws
use Rattle.chr_find.specs.contracts.lent_keys.LentKeys as LentKeys
use Rattle.chr_find.specs.contracts.pending_index.PendingIndex as PendingIndex
use Rattle.chr_find.specs.contracts.table.Table as Table
use Rattle.chr_find.specs.contracts.snapshot.Task as Task
use Rattle.chr_find.specs.contracts.snapshot.Snapshot as Snapshot
use Rattle.chr_find.proofs.snapshot.Task.TheSendSync as task_laws
use Rattle.boxcar.proofs.vec.Vec.TheSendSync as boxcar_laws
use Rattle.chr_shelf.specs.contracts.shelf.Shelf as Shelf
use Rattle.chr_map.specs.contracts.node.Node as Node
use Rattle.chr_find.specs.contracts.plan.Plan as Plan
use Rattle.chr_find.proofs.plan.Plan.TheSendSync as plan_laws
use Rattle.chr_find.specs.contracts.index.Change as Change
use Rattle.chr_find.specs.contracts.constraint.Constraint as Constraint
use Rattle.chr_workers.proofs.Crosses.{args, args_send, vec_of}

module _ (A : RattleType) (g : Ghosts A.Denot) (s : IsSend A) (y : IsSync A) (f : Frees g g.dealloc_token) where
  vec_send : (R : RattleType) → IsSend R → IsSend (Vec.the_field R A g).row
  vec_send R r = search (crosses, sendable) depth 20

  pub row : IsSync (Row.the_field A g).row
  row = let shared = args A g s y f in struct_sync (struct.shape (Row.the_type A g)) (search (shared, sym_laws.the_field_sync, sendable) depth 20)

  pub row_row : IsSync (Row.the_row A g)
  row_row = recorded_sync _ _ _ (Row.the_type A g).to_one row

  pub row_send : IsSend (Row.the_field A g).row
  row_send = let shared = args_send A g s y f in struct_send (struct.shape (Row.the_type A g)) (search (shared, sym_laws.the_field_send, sendable) depth 20)

  pub row_row_send : IsSend (Row.the_row A g)
  row_row_send = recorded_send _ _ _ (Row.the_type A g).to_one row_send

  pub plan : IsSync (Plan.the_row A g)
  plan = plan_laws.the_sync A g y

  pub change : IsSync (Change.the_field A g).row
  change = let r : IsSync (Row.the_field A g).row = row in struct_sync (struct.shape (Change.the_type A g)) (search (r, id_laws.the_field_sync, sendable) depth 20)

  pub constraint : IsSync (Constraint.the_row A g)
  constraint =
      let r : IsSync (Row.the_field A g).row = row in
      recorded_sync _ _ _ (Constraint.the_type A g).to_one (struct_sync (struct.shape (Constraint.the_type A g)) (search (r, id_laws.the_field_sync, sendable) depth 20))

  -- trees of keys and values
  module _ (K V : RattleType) (ks : IsSend K) (ky : IsSync K) (vs : IsSend V) (vy : IsSync V) where
    pub node : IsSync (Node.the_field K V A g).row
    node = node_laws.both_sync-Node K V A g (λ h hs hy. search (crosses, sendable) depth 20) (λ h hs hy. search (crosses, sendable) depth 20) (λ h hs hy. search (crosses, branch_laws.the_field_send, sendable) depth 20) (λ h hs hy. search (crosses, branch_laws.the_field_sync, sendable) depth 20) (search sendable) (search sendable)

    pub node_send : IsSend (Node.the_field K V A g).row
    node_send = node_laws.both_send-Node K V A g (λ h hs hy. search (crosses, sendable) depth 20) (λ h hs hy. search (crosses, sendable) depth 20) (λ h hs hy. search (crosses, branch_laws.the_field_send, sendable) depth 20) (λ h hs hy. search (crosses, branch_laws.the_field_sync, sendable) depth 20) (search sendable) (search sendable)

    pub node_row : IsSync (Node.the_row K V A g)
    node_row = recorded_sync _ _ _ (Node.the_type K V A g).to_one node

    pub node_row_send : IsSend (Node.the_row K V A g)
    node_row_send = recorded_send _ _ _ (Node.the_type K V A g).to_one node_send

    pub arc : IsSync (Arc.the_row (Node.the_row K V A g) A g)
    arc = let a = node_row in let b = node_row_send in search (crosses, sendable) depth 20

    pub subtree : IsSync (Option.the_field (Arc.the_row (Node.the_row K V A g) A g)).row
    subtree = let a : IsSync (Arc.the_field (Node.the_row K V A g) A g).row = arc in let b = arc in search (sendable) depth 20

    -- a map from the keys to the values, whatever the order of the keys
    module _ (o : ord.Ghosts K.Denot) (e : eq.Ghosts K.Denot) (l : partial.Ghosts K.Denot) where
      pub map : IsSync (Map.the_row K V A o e l g)
      map = let root = subtree in let below = arc in search (sendable) depth 20

      pub map_field : IsSync (Map.the_field K V A o e l g).row
      map_field = map

  -- the same of maps that move to a thread
  module _ (K V : RattleType) (ks : IsSend K) (ky : IsSync K) (vs : IsSend V) (vy : IsSync V) where
    pub arc_send : IsSend (Arc.the_row (Node.the_row K V A g) A g)
    arc_send = let a = node_row K V ks ky vs vy in let b = node_row_send K V ks ky vs vy in search (crosses, sendable) depth 20

    pub subtree_send : IsSend (Option.the_field (Arc.the_row (Node.the_row K V A g) A g)).row
    subtree_send = let a : IsSend (Arc.the_field (Node.the_row K V A g) A g).row = arc_send in let b = arc_send in search (sendable) depth 20

    module _ (o : ord.Ghosts K.Denot) (e : eq.Ghosts K.Denot) (l : partial.Ghosts K.Denot) where
      pub map_send : IsSend (Map.the_row K V A o e l g)
      map_send = let root = subtree_send in let below = arc_send in search (sendable) depth 20

      pub map_field_send : IsSend (Map.the_field K V A o e l g).row
      map_field_send = map_send

  pub firings : IsSync (Firings.the_field A g).row
  firings =
      let all = map_field Fired.the_row denote.Builtin.unit fired_laws.the_send fired_laws.the_sync (search sendable) (search sendable) in
      struct_sync (struct.shape (Firings.the_type A g)) (search (all, sendable) depth 20)

  pub index_change : IsSync (IndexChange.the_field A g).row
  index_change = let c = change in enum_sync (enum.shape (IndexChange.the_type A g)) (search (c, sendable) depth 20)

  -- the rows of a bucket, and of all
  rows : IsSync (Rows.the_row A g)
  rows =
      let map = map_field Id.the_row (Row.the_row A g) id_laws.the_send id_laws.the_sync row_row_send row_row in
      recorded_sync _ _ _ (Rows.the_type A g).to_one (struct_sync (struct.shape (Rows.the_type A g)) (search (map, sendable) depth 20))

  rows_send : IsSend (Rows.the_row A g)
  rows_send =
      let map = map_field_send Id.the_row (Row.the_row A g) id_laws.the_send id_laws.the_sync row_row_send row_row in
      recorded_send _ _ _ (Rows.the_type A g).to_one (struct_send (struct.shape (Rows.the_type A g)) (search (map, sendable) depth 20))

  held : IsSync (Held.the_field A g).row
  held =
      let many : IsSync (Arc.the_field (Rows.the_row A g) A g).row = (let a = rows in let b = rows_send in search (crosses, sendable) depth 20) in
      let one = row in
      enum_sync (enum.shape (Held.the_type A g)) (search (many, one, id_laws.the_field_sync, sendable) depth 20)

  held_send : IsSend (Held.the_field A g).row
  held_send =
      let many : IsSend (Arc.the_field (Rows.the_row A g) A g).row = (let a = rows in let b = rows_send in search (crosses, sendable) depth 20) in
      let one = row_send in
      enum_send (enum.shape (Held.the_type A g)) (search (many, one, id_laws.the_field_send, sendable) depth 20)

  bucket_rows : IsSync (BucketRows.the_row A g)
  bucket_rows = let h = held in search sendable depth 20

  bucket_rows_send : IsSend (BucketRows.the_row A g)
  bucket_rows_send = let h = held_send in search sendable depth 20

  pub index : IsSync (Index.the_field A g).row
  index =
      let all = map_field Id.the_row (Row.the_row A g) id_laws.the_send id_laws.the_sync row_row_send row_row in
      let buckets = map_field Bucket.the_row (BucketRows.the_row A g) bucket_laws.the_send bucket_laws.the_sync bucket_rows_send bucket_rows in
      struct_sync (struct.shape (Index.the_type A g)) (search (all, buckets, sendable) depth 20)

  pub index_send : IsSend (Index.the_field A g).row
  index_send =
      let all = map_field_send Id.the_row (Row.the_row A g) id_laws.the_send id_laws.the_sync row_row_send row_row in
      let buckets = map_field_send Bucket.the_row (BucketRows.the_row A g) bucket_laws.the_send bucket_laws.the_sync bucket_rows_send bucket_rows in
      struct_send (struct.shape (Index.the_type A g)) (search (all, buckets, sendable) depth 20)

  pub key_lists : IsSync (KeyLists.the_field A g).row
  key_lists =
      let lists = map_field SymbolKey.the_row (IdList.the_row A g) symbol_key_laws.the_send symbol_key_laws.the_sync (id_list_laws.the_send A g s y f) (id_list_laws.the_sync A g s y f) in
      struct_sync (struct.shape (KeyLists.the_type A g)) (search (lists, sendable) depth 20)

  pub pending_keys : IsSync (PendingKeys.the_field A g).row
  pending_keys =
      let keys = key_lists in
      let pending = pending_laws.the_sync KeyChange.the_row A g key_change_laws.the_sync y in
      struct_sync (struct.shape (PendingKeys.the_type A g)) (search (keys, pending, sendable) depth 20)

  pub pending_keys_row : IsSync (PendingKeys.the_row A g)
  pending_keys_row = recorded_sync _ _ _ (PendingKeys.the_type A g).to_one pending_keys

  pub lent_keys : IsSync (LentKeys.the_field A g).row
  lent_keys = let keys : IsSync (Option.the_field (PendingKeys.the_row A g)).row = (let k = pending_keys_row in search (sendable) depth 20) in struct_sync (struct.shape (LentKeys.the_type A g)) (search (keys, sendable) depth 20)

  pub pending_index : IsSync (PendingIndex.the_field A g).row
  pending_index =
      let shared_plan : IsSync (Pointer.the_field (Plan.the_row A g) A g).row = pointer_laws.the_sync (Plan.the_row A g) A g (plan_laws.the_send A g s f) s plan y f in
      let pending = pending_laws.the_sync (IndexChange.the_row A g) A g (recorded_sync _ _ _ (IndexChange.the_type A g).to_one index_change) y in
      struct_sync (struct.shape (PendingIndex.the_type A g)) (search (shared_plan, index, pending, sendable) depth 20)

  pub table : IsSync (Table.the_field A g).row
  table =
      let n = pending_index in
      let newest : IsSync (Option.the_field (Constraint.the_row A g)).row = (let r = constraint in search (sendable) depth 20) in
      let k = lent_keys in
      struct_sync (struct.shape (Table.the_type A g)) (search (n, newest, k, sendable) depth 20)

  pub snapshot : IsSync (Snapshot.the_field A g).row
  snapshot =
      let t = table in
      let fired = firings in
      let tasks = vec_of A g s y f Task.the_row task_laws.the_sync in
      let guest : IsSync (Option.the_field (Row.the_row A g)).row = (let r = row_row in search (sendable) depth 20) in
      struct_sync (struct.shape (Snapshot.the_type A g)) (search (t, fired, tasks, guest, id_laws.the_field_sync, sendable) depth 20)

  pub snapshot_row : IsSync (Snapshot.the_row A g)
  snapshot_row = recorded_sync _ _ _ (Snapshot.the_type A g).to_one snapshot

  pub change_send : IsSend (Change.the_field A g).row
  change_send = let r : IsSend (Row.the_field A g).row = row_send in struct_send (struct.shape (Change.the_type A g)) (search (r, id_laws.the_field_send, sendable) depth 20)

  pub constraint_send : IsSend (Constraint.the_row A g)
  constraint_send =
      let r : IsSend (Row.the_field A g).row = row_send in
      recorded_send _ _ _ (Constraint.the_type A g).to_one (struct_send (struct.shape (Constraint.the_type A g)) (search (r, id_laws.the_field_send, sendable) depth 20))

  pub firings_send : IsSend (Firings.the_field A g).row
  firings_send =
      let all = map_field_send Fired.the_row denote.Builtin.unit fired_laws.the_send fired_laws.the_sync (search sendable) (search sendable) in
      struct_send (struct.shape (Firings.the_type A g)) (search (all, sendable) depth 20)

  pub index_change_send : IsSend (IndexChange.the_field A g).row
  index_change_send = let c = change_send in enum_send (enum.shape (IndexChange.the_type A g)) (search (c, sendable) depth 20)

  pub key_lists_send : IsSend (KeyLists.the_field A g).row
  key_lists_send =
      let lists = map_field_send SymbolKey.the_row (IdList.the_row A g) symbol_key_laws.the_send symbol_key_laws.the_sync (id_list_laws.the_send A g s y f) (id_list_laws.the_sync A g s y f) in
      struct_send (struct.shape (KeyLists.the_type A g)) (search (lists, sendable) depth 20)

  pub pending_keys_send : IsSend (PendingKeys.the_field A g).row
  pending_keys_send =
      let keys = key_lists_send in
      let pending = pending_laws.the_send KeyChange.the_row A g key_change_laws.the_send s f in
      struct_send (struct.shape (PendingKeys.the_type A g)) (search (keys, pending, sendable) depth 20)

  pub pending_keys_row_send : IsSend (PendingKeys.the_row A g)
  pending_keys_row_send = recorded_send _ _ _ (PendingKeys.the_type A g).to_one pending_keys_send

  pub lent_keys_send : IsSend (LentKeys.the_field A g).row
  lent_keys_send = let keys : IsSend (Option.the_field (PendingKeys.the_row A g)).row = (let k = pending_keys_row_send in search (sendable) depth 20) in struct_send (struct.shape (LentKeys.the_type A g)) (search (keys, sendable) depth 20)

  pub pending_index_send : IsSend (PendingIndex.the_field A g).row
  pending_index_send =
      let shared_plan : IsSend (Pointer.the_field (Plan.the_row A g) A g).row = pointer_laws.the_send (Plan.the_row A g) A g (plan_laws.the_send A g s f) s plan y f in
      let pending = pending_laws.the_send (IndexChange.the_row A g) A g (recorded_send _ _ _ (IndexChange.the_type A g).to_one index_change_send) s f in
      struct_send (struct.shape (PendingIndex.the_type A g)) (search (shared_plan, index_send, pending, sendable) depth 20)

  pub table_send : IsSend (Table.the_field A g).row
  table_send =
      let n = pending_index_send in
      let newest : IsSend (Option.the_field (Constraint.the_row A g)).row = (let r = constraint_send in search (sendable) depth 20) in
      let k = lent_keys_send in
      struct_send (struct.shape (Table.the_type A g)) (search (n, newest, k, sendable) depth 20)

  pub snapshot_send : IsSend (Snapshot.the_field A g).row
  snapshot_send =
      let t = table_send in
      let fired = firings_send in
      let tasks = vec_send Task.the_row task_laws.the_send in
      let guest : IsSend (Option.the_field (Row.the_row A g)).row = (let r = row_row_send in search (sendable) depth 20) in
      struct_send (struct.shape (Snapshot.the_type A g)) (search (t, fired, tasks, guest, id_laws.the_field_send, sendable) depth 20)

  pub snapshot_row_send : IsSend (Snapshot.the_row A g)
  snapshot_row_send = recorded_send _ _ _ (Snapshot.the_type A g).to_one snapshot_send

  pub shelf : IsSync (Shelf.the_row A g)
  shelf = let a = snapshot_row in let b = snapshot_row_send in search (boxcar_laws.the_sync, sendable) depth 20
