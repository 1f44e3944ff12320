-- Where searches go on.
use Rattle.std.specs.Prelude.{◌≡◌, ◌<◌, ◌≤◌, All, List, Option, None, Some, slice_get}
use Rattle.chr_semantics.specs.Cursor.{IsSpent}
use Rattle.chr_semantics.specs.Program.{Atom, Program, Rule}
use Rattle.chr_semantics.specs.Search.{atom_of}
use Rattle.chr_find.specs.declared.active.Active.{Active}
use Rattle.chr_find.specs.declared.active.Cursor.{Cursor}
use Rattle.chr_base.specs.Model.{BaseModel, rows_of}
use Rattle.chr_base.specs.declared.bookmark.Bookmark.{Bookmark}

-- The constraint of the bookmark has an identity that was given, and no identity from the next one on counts as old. Where the constraint
-- lives, each list that can fire with it at the head lies ahead of the cursor.
pub record IsAhead (rules : Program) (b : BaseModel) (m : Bookmark) : Type 0 where
  pub given : m.id.0 < b.store.next_id
  pub from : m.cursor.from ≤ b.store.next_id
  pub ahead : (rule : Rule) → slice_get rules m.number ≡ Some rule → (a : Atom) → atom_of (rows_of b) m.id.0 ≡ Some a → IsSpent (rows_of b) b.entries.list m.number rule m.place (m.id.0, a) m.cursor.after m.cursor.from

-- so is each bookmark
abbrev pub AreAhead : Program → BaseModel → List Bookmark → Type 0
AreAhead rules b bookmarks = All (IsAhead rules b) bookmarks

-- where the search for the active constraint goes on, if it does
abbrev pub GoesOn : {A : Type 0} → Program → BaseModel → Active A → Option Cursor → Type 0
GoesOn rules b s None = Unit {0}
GoesOn rules b s (Some c) = IsAhead rules b (record { id = s.id; number = s.number; place = s.place; cursor = c })
