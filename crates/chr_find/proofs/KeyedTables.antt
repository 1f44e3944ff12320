-- The identities that a table keeps by key.
use Rattle.std.proofs.Common.{◌≡◌, ◌∙◌, ◌==◌, ◌&&◌, ◌+◌, ◌<◌, ◌≤◌, ℕ, suc, Bool, true, false, cond, List, [], ◌∷◌, Option, Some, None, ap, arith, drop, get_or, length, refl, subst, sym, take}
use Rattle.std.proofs.lemmas.Bool.{ne_eqb}
use Rattle.std.proofs.lemmas.Bool.Decides.{Decides-eqb}
use Rattle.chr_keys.specs.PendingKeysView as noted
use Rattle.chr_keys.specs.declared.pending_keys.PendingKeys.{PendingKeys}
use Rattle.chr_semantics.specs.Keys as keys
use Rattle.chr_semantics.specs.Match as semantics
use Rattle.chr_semantics.specs.Program.{Atom}
use Rattle.chr_semantics.specs.Search.{atom_of}
use Rattle.chr_keys.specs.Keyed.{is_keyed}
use Rattle.chr_store.specs.Rows.{row_atom}
use Rattle.chr_find.specs.LentKeysView.{AreListed, HasRoom, OfKeys, is_keyed_at}
use Rattle.chr_find.specs.Rebinding.{standing_rows}
use Rattle.chr_find.specs.Shown.{AllUnder, Rises}
use Rattle.chr_find.specs.TableView as tables
use Rattle.chr_find.specs.declared.lent_keys.LentKeys.{LentKeys}
use Rattle.chr_find.specs.declared.table.Table.{Table}
use Rattle.chr_find.specs.declared.constraint.Constraint.{Constraint}
use Rattle.chr_find.proofs.MadeWhole.{standing_next, standing_split, under_middle}
use Rattle.chr_find.proofs.SnapshotGuest.{looked_guest}

module _ {A : Type 0} where
  same_keys_are : (n m : PendingKeys A) → ◌≡◌ {A = Option (PendingKeys A)} (Some n) (Some m) → n ≡ m
  same_keys_are n m e = cc

  -- what holds of the keys that are there
  pub of_some : (P : PendingKeys A → Type 0) (d : LentKeys A) (n : PendingKeys A) → d.keys ≡ Some n → P n → OfKeys P d
  of_some P d n is p = λ m e. subst P (same_keys_are n m (sym is ∙ e)) p

  -- the same constraints
  pub listed_alike : (f g : ℕ → Option Atom) (d : LentKeys A) → ((i : ℕ) → g i ≡ f i) → AreListed f d → AreListed g d
  listed_alike f g d same listed = λ held is s k i. listed held is s k i ∙ ap (λ (o : Option Atom). is_keyed_at o s k) (sym (same i))

  -- room for more is room for fewer
  pub room_within : (m n : ℕ) (t : Table A) → m ≤ n → tables.HasRoom n t → tables.HasRoom m t
  room_within m n t le room = (omega (arith, le, room.0), λ held is. let more : noted.HasRoom n held = room.1 held is in omega (arith, le, more))

  -- room for one note more is room
  pub room_less : (n : ℕ) (d : LentKeys A) → HasRoom (n + 1) d → HasRoom n d
  room_less n d room = λ held is. let more : noted.HasRoom (n + 1) held = room held is in omega (arith, more)

-- an identity whose constraint is the atom now, and none was there
pub keyed_more : (b : Bool) (a : Atom) (o : Option Atom) (f : ℕ) (k : Option keys.Key) → (b ≡ true → o ≡ None) → cond (b && is_keyed a f k) true (is_keyed_at o f k) ≡ is_keyed_at (cond b (Some a) o) f k
keyed_more false a o f k none = refl
keyed_more true a o f k none = ap (λ (p : Option Atom). cond (is_keyed a f k) true (is_keyed_at p f k)) (none refl) ∙ itself (is_keyed a f k)
  where
    itself : (b : Bool) → cond b true false ≡ b
    itself true = refl
    itself false = refl

pub none_under : (n : ℕ) (rows : List semantics.Row) → AllUnder n rows → atom_of rows n ≡ None
none_under n [] under = refl
none_under n (c ∷ rows) under = ap (λ (b : Bool). cond b (Some c.1) (atom_of rows n)) (ne_eqb c.0 n (λ e. omega (arith, e, under.0))) ∙ none_under n rows under.1

module _ {A : Type 0} (l : List (Constraint A)) (k : ℕ) (s : Constraint A) (up : Rises (standing_rows l)) (lt : k < length l) (at : s ≡ get_or l k s) where
  -- no row before it has its identity
  none_before : atom_of (standing_rows (take k l)) s.id.0 ≡ None
  none_before =
      none_under s.id.0 (standing_rows (take k l))
      (under_middle (standing_rows (take k l)) (s.id.0, row_atom s.row) (standing_rows (drop (suc k) l)) (subst Rises (standing_split l k s lt at) up))

  -- what is listed with one row more
  pub listed_more : (a : Atom) (old new : Bool) (f : ℕ) (key : Option keys.Key) (i : ℕ) → a ≡ row_atom s.row → old ≡ is_keyed_at (atom_of (standing_rows (take k l)) i) f key → new ≡ cond (i == s.id.0 && is_keyed a f key) true old
      → new ≡ is_keyed_at (atom_of (standing_rows (take (k + 1) l)) i) f key
  listed_more a old new f key i is was now =
      now
      ∙ (ap (λ (o : Bool). cond (i == s.id.0 && is_keyed a f key) true o) was
      ∙ (keyed_more (i == s.id.0) a (atom_of (standing_rows (take k l)) i) f key (λ here. ap (atom_of (standing_rows (take k l))) ((Decides-eqb i s.id.0).0 here) ∙ none_before)
      ∙ ap (λ (o : Option Atom). is_keyed_at o f key)
      (ap (λ (b : Atom). cond (i == s.id.0) (Some b) (atom_of (standing_rows (take k l)) i)) is
      ∙ sym (ap (λ (rows : List semantics.Row). atom_of rows i) (standing_next l k s lt at) ∙ looked_guest (standing_rows (take k l)) s.id.0 i (row_atom s.row) none_before))))
