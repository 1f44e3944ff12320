-- What bindings change in a table.
use Rattle.std.specs.Prelude.{◌≡◌, ℕ, List, option_map, vec_len}
use Rattle.chr_semantics.specs.Match as semantics
use Rattle.chr_semantics.specs.State.{resolved_atom}
use Rattle.chr_semantics.specs.Subst.{Subst}
use Rattle.chr_store.specs.Numbers.{numbers}
use Rattle.chr_find.specs.Rebinding.{Replaces, new_rows, open_ids, over}
use Rattle.chr_find.specs.TableView.{HasRoom, HasRows, atom_at}
use Rattle.chr_find.specs.declared.rebinding.Rebound.{Rebound}
use Rattle.chr_find.specs.declared.table.Table.{Table}

-- It can be noted, and then each constraint is under the substitution; and these are the identities of those that have variables still.
pub record IsRebound {A : Type 0} (s : Subst) (t : Table A) (r : Rebound A) : Type 0 where
  pub room : HasRoom (vec_len r.replaced) t
  pub there : Replaces (atom_at t) r.replaced.items
  pub atoms : (i : ℕ) → over (new_rows r.replaced.items) (atom_at t) i ≡ option_map (resolved_atom s) (atom_at t i)
  pub woken : (rows : List semantics.Row) → HasRows t rows → numbers r.woken.items ≡ open_ids s rows
