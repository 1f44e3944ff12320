-- A snapshot as the definitions have it.
use Rattle.std.specs.Prelude.{◌≡◌, ◌||◌, ℕ, Bool, true, List, Option, map, nat_le, option_map}
use Rattle.std.specs.Borrow.{Bor}
use Rattle.std.specs.List.{list_all}
use Rattle.chr_semantics.specs.Program.{Atom}
use Rattle.chr_semantics.specs.Search.{fired_before}
use Rattle.chr_semantics.specs.Snapshot as semantics
use Rattle.chr_semantics.specs.Tasks as tasks
use Rattle.chr_semantics.specs.Tree.{Trees}
use Rattle.chr_store.specs.Rows.{row_atom}
use Rattle.chr_term.specs.TermView.{atom_over, atom_view}
use Rattle.chr_term.specs.declared.term.Sym.{Sym}
use Rattle.chr_term.specs.declared.term.Term.{Term}
use Rattle.chr_find.specs.Firings.{fired_in}
use Rattle.chr_find.specs.TableView.{HasRows, lives}
use Rattle.chr_find.specs.declared.snapshot.Snapshot.{Snapshot}
use Rattle.chr_find.specs.declared.snapshot.Task.{Task}
use Rattle.chr_find.specs.declared.table.Table.{Table}

abbrev pub task_view : Task → tasks.Task
task_view t = (t.goal.0, t.occurrence)

abbrev pub tasks_view : List Task → List tasks.Task
tasks_view ts = map task_view ts

-- a guest as it is handed in and read: its symbol and its arguments
abbrev pub guest_view : {A : Type 0} → Option (Sym × Bor (List (Term A))) → Option Atom
guest_view g = option_map (λ p. atom_view p.0 p.1.now) g

-- a constraint that is told, as it stands on a stack
abbrev pub told_view : Option (Sym × Bor Trees) → Option Atom
told_view g = option_map (λ p. atom_over p.0 p.1.now) g

-- the constraint of the identity lives, or is yet to come, where n is the next identity
abbrev pub is_not_dead : {A : Type 0} → Table A → ℕ → ℕ → Bool
is_not_dead t n i = lives t i || nat_le n i

-- these constraints, and the firings of which no constraint has died, with the next identity, tasks and guest
pub record IsTaken {A : Type 0} (t : Table A) (fired : ℕ → List ℕ → Bool) (n : ℕ) (ts : List tasks.Task) (g : Option Atom) (q : semantics.Snapshot) : Type 0 where
  pub rows : HasRows t q.rows
  pub history : (r : ℕ) (ids : List ℕ) → list_all (is_not_dead t n) ids ≡ true → fired_before q.history r ids ≡ fired r ids
  pub next : q.next_id ≡ n
  pub tasks : q.tasks ≡ ts
  pub guest : q.guest ≡ g

-- what the snapshot shows
abbrev pub IsSnapshot : {A : Type 0} → Snapshot A → semantics.Snapshot → Type 0
IsSnapshot s q = IsTaken s.table (fired_in s.firings) s.next.0 (tasks_view s.tasks.items) (option_map row_atom s.guest) q

-- and it keeps no firings but these
pub record IsCopy {A : Type 0} (s : Snapshot A) (q : semantics.Snapshot) : Type 0 where
  pub shown : IsSnapshot s q
  pub firings : (r : ℕ) (ids : List ℕ) → fired_before q.history r ids ≡ fired_in s.firings r ids
