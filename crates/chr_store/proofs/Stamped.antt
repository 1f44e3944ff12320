-- Stamps that are raised once for a call.
use Rattle.std.proofs.Common.{◌≡◌, ◌∙◌, ℕ, zero, suc, ◌+◌, ◌<◌, ◌≤◌, ◌==◌, Bool, true, false, true≢false, cond, not, ◌&&◌, ◌||◌, List, [], ◌∷◌, ◌++◌, Some, is_some, take, length, get_or, slice_set, refl, ap, sym, add-zero, arith, nat_lt}
use Rattle.std.proofs.lemmas.List.Elements.{All-filter, All-head, All-push, All-tail}
use Rattle.std.proofs.lemmas.List.Folds.{list_any_more}
use Rattle.chr_semantics.specs.Match.{Row}
use Rattle.chr_semantics.specs.Program.{Atom}
use Rattle.chr_semantics.specs.Search.{atom_of}
use Rattle.chr_store.specs.Counts.{AreCounted, AreStamped, count_at, count_in, has_stamp, last_at, last_in}
use Rattle.chr_store.specs.Rows.{rows_without}
use Rattle.chr_store.specs.Waking.{has_symbol, has_symbol_among}
use Rattle.chr_store.specs.declared.id.Id.{Id}
use Rattle.chr_store.specs.declared.stamps.Stamp.{Stamp}
use Rattle.chr_store.proofs.Places.{at_each, read}
use Rattle.std.proofs.lemmas.Option.{none-some}
use Rattle.std.proofs.lemmas.Bool.{lt-ltb}

not_below : (call : ℕ) → nat_lt call call ≡ false
not_below call = grind arith

-- what was raised already for this call is not raised again
count_once : (b c : Bool) (count last call : ℕ) → last < call → (count + cond b 1 0) + cond (c && nat_lt (cond b call last) call) 1 0 ≡ count + cond (b || c) 1 0
count_once true true count last call h = rw (not_below call) (omega arith)
count_once true false count last call h = omega arith
count_once false true count last call h = rw (lt-ltb last call h) (omega arith)
count_once false false count last call h = omega arith

last_once : (b c : Bool) (last call : ℕ) → last < call → cond (c && nat_lt (cond b call last) call) call (cond b call last) ≡ cond (b || c) call last
last_once true true last call h = rw (not_below call) refl
last_once true false last call h = refl
last_once false true last call h = rw (lt-ltb last call h) refl
last_once false false last call h = refl

-- the stamp of a symbol after one more identity
pub count_more : (rows : List Row) (ids : List Id) (i : ℕ) (d : Id) (n count last call old_count old_last new : ℕ) → i < length ids → last < call
    → old_count ≡ count + cond (has_symbol_among rows (take i ids) n) 1 0 → old_last ≡ cond (has_symbol_among rows (take i ids) n) call last
    → new ≡ old_count + cond (has_symbol n (atom_of rows (get_or ids i d).0) && nat_lt old_last call) 1 0 → new ≡ count + cond (has_symbol_among rows (take (i + 1) ids) n) 1 0
count_more rows ids i d n count last call old_count old_last new inside less c l e =
    e ∙ (rw (c, l, list_any_more (λ (j : Id). has_symbol n (atom_of rows j.0)) ids i d inside) (count_once (has_symbol_among rows (take i ids) n) (has_symbol n (atom_of rows (get_or ids i d).0)) count last call less))

pub last_more : (rows : List Row) (ids : List Id) (i : ℕ) (d : Id) (n last call old_last new : ℕ) → i < length ids → last < call → old_last ≡ cond (has_symbol_among rows (take i ids) n) call last
    → new ≡ cond (has_symbol n (atom_of rows (get_or ids i d).0) && nat_lt old_last call) call old_last → new ≡ cond (has_symbol_among rows (take (i + 1) ids) n) call last
last_more rows ids i d n last call old_last new inside less l e =
    e ∙ (rw (l, list_any_more (λ (j : Id). has_symbol n (atom_of rows j.0)) ids i d inside) (last_once (has_symbol_among rows (take i ids) n) (has_symbol n (atom_of rows (get_or ids i d).0)) last call less))

-- the symbol of a constraint that is there has a stamp
stamped_test : (stamps : List Stamp) (rows : List Row) (r : Row) (i : ℕ) (a : Atom) (b : Bool) → has_stamp stamps r.1.sym ≡ true → (atom_of rows i ≡ Some a → has_stamp stamps a.sym ≡ true) → cond b (Some r.1) (atom_of rows i) ≡ Some a → has_stamp stamps a.sym ≡ true
stamped_test stamps rows r i a true h rest e = let same : r.1 ≡ a = cc in rw (← same) h
stamped_test stamps rows r i a false h rest e = rest e

pub stamped_at : (stamps : List Stamp) (rows : List Row) (i : ℕ) (a : Atom) → AreStamped stamps rows → atom_of rows i ≡ Some a → has_stamp stamps a.sym ≡ true
stamped_at stamps [] i a h e = absurd (none-some a e)
stamped_at stamps (r ∷ rows) i a h e =
    stamped_test stamps rows r i a (r.0 == i) (All-head (λ (r : Row). has_stamp stamps r.1.sym ≡ true) r rows h) (stamped_at stamps rows i a (All-tail (λ (r : Row). has_stamp stamps r.1.sym ≡ true) r rows h)) e

-- each symbol that has a stamp keeps one
pub stamped_kept : (old new : List Stamp) (rows : List Row) → AreStamped old rows → ((n : ℕ) → has_stamp old n ≡ true → has_stamp new n ≡ true) → AreStamped new rows
stamped_kept old new rows h keep = λ k d inside. keep _ (h k d inside)

pub stamped_without : (old new : List Stamp) (rows : List Row) (i : ℕ) → AreStamped old rows → ((n : ℕ) → has_stamp old n ≡ true → has_stamp new n ≡ true) → AreStamped new (rows_without i rows)
stamped_without old new rows i h keep = All-filter (λ (q : Row). not (q.0 == i)) (λ (q : Row). has_stamp new q.1.sym ≡ true) rows (stamped_kept old new rows h keep)

pub stamped_put : (old new : List Stamp) (rows : List Row) (r : Row) → AreStamped old rows → ((n : ℕ) → has_stamp old n ≡ true → has_stamp new n ≡ true) → has_stamp new r.1.sym ≡ true → AreStamped new (rows ++ r ∷ [])
stamped_put old new rows r h keep has = All-push (λ (q : Row). has_stamp new q.1.sym ≡ true) rows r (stamped_kept old new rows h keep) has

-- a stamp that is raised for a later call than all before
pub count_raised : (f n count mid last call new : ℕ) → mid ≡ count → last < call → new ≡ mid + cond (f == n && nat_lt last call) 1 0 → new ≡ count + cond (f == n) 1 0
count_raised f n count mid last call new same less e = e ∙ rw (same, lt-ltb last call less) (at (f == n))
  where
    at : (b : Bool) → count + cond (b && true) 1 0 ≡ count + cond b 1 0
    at true = refl
    at false = refl

pub last_raised : (b : Bool) (last call new : ℕ) → last < call → new ≡ cond b call last → new ≤ call
last_raised true last call new less e = omega (arith, e)
last_raised false last call new less e = omega (arith, e)

-- a number has a stamp just where one stands in its place
pub stamp_within : (stamps : List Stamp) (n : ℕ) → has_stamp stamps n ≡ true → n < length stamps
stamp_within [] n has = absurd (true≢false (sym has))
stamp_within (s ∷ ss) zero has = omega arith
stamp_within (s ∷ ss) (suc n) has = omega (arith, stamp_within ss n has)

pub within_stamp : (stamps : List Stamp) (n : ℕ) → n < length stamps → has_stamp stamps n ≡ true
within_stamp [] n inside = absurd (omega arith)
within_stamp (s ∷ ss) zero inside = refl
within_stamp (s ∷ ss) (suc n) inside = within_stamp ss n (omega arith)

-- a stamp that was read was raised by no more calls than there were up to the last that raised it
pub counted_read : (stamps : List Stamp) (f : ℕ) (s : Stamp) → f < length stamps → s ≡ get_or stamps f s → AreCounted stamps → s.count ≤ s.last
counted_read stamps f s inside is counted = let at = read stamps f f s inside is refl in omega (arith, counted f, ap count_in at, ap last_in at)

-- the stamps after that of the number f was written
module _ (stamps : List Stamp) (f : ℕ) (old new : Stamp) (inside : f < length stamps) (is : old ≡ get_or stamps f old) where
  -- its count is one more where no earlier question of the call raised it
  pub count_written : (call : ℕ) → new.count ≡ old.count + cond (nat_lt old.last call) 1 0 → (n : ℕ) → count_at (slice_set stamps f new) n ≡ count_at stamps n + cond (f == n && nat_lt (last_at stamps n) call) 1 0
  count_written call e n = at_each (λ b x y. count_in y ≡ count_in x + cond (b && nat_lt (last_in x) call) 1 0) stamps f n old new inside is e (λ o. rw add-zero)

  -- and the call is the last that raised it
  pub last_written : (call : ℕ) → new.last ≡ cond (nat_lt old.last call) call old.last → (n : ℕ) → last_at (slice_set stamps f new) n ≡ cond (f == n && nat_lt (last_at stamps n) call) call (last_at stamps n)
  last_written call e n = at_each (λ b x y. last_in y ≡ cond (b && nat_lt (last_in x) call) call (last_in x)) stamps f n old new inside is e (λ o. refl)

  -- the same numbers have stamps
  pub stamp_written : (n : ℕ) → has_stamp (slice_set stamps f new) n ≡ has_stamp stamps n
  stamp_written n = at_each (λ b x y. is_some y ≡ is_some x) stamps f n old new inside is refl (λ o. refl)

  -- and they are counted as before
  pub counted_written : new.count ≤ new.last → AreCounted stamps → AreCounted (slice_set stamps f new)
  counted_written less counted n = at_each (λ b x y. count_in x ≤ last_in x → count_in y ≤ last_in y) stamps f n old new inside is (λ _. less) (λ o h. h) (counted n)
