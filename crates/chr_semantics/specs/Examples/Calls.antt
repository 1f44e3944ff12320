-- The examples of calls on the store and the history.
use Rattle.std.specs.Prelude.{ℕ, [], ◌∷◌, codes}
use Rattle.chr_semantics.specs.Tree.{var}
use Rattle.chr_semantics.specs.Changes.{Entries, Store, added, empty_store, entered, no_entries, removed}
use Rattle.chr_semantics.specs.Calls.{rise_by_calls}
use Rattle.chr_semantics.specs.State.{start}
use Rattle.chr_semantics.specs.Stamps.{stamp}
use Rattle.chr_semantics.specs.Touch.{Mark}
use Rattle.chr_semantics.specs.Examples.Terms.{atom, chr, head, number}
use Rattle.chr_semantics.specs.Examples.Example.{Example}

-- p(1) and p(X) are added
abbrev pub two_added : Store
two_added = added (added empty_store (atom 7 (number 1 ∷ []))) (atom 7 (var 0 ∷ []))

-- the first is removed, and again, and p(2) is added
abbrev pub one_removed : Store
one_removed = removed (removed two_added 1) 1

abbrev pub one_more : Store
one_more = added one_removed (atom 7 (number 2 ∷ []))

-- rule 0 fires with 2,1, twice
abbrev pub entered_twice : Entries
entered_twice = entered (entered no_entries 0 (2 ∷ 1 ∷ [])) 0 (2 ∷ 1 ∷ [])

-- d @ p(X), p(Y) <=> true.    p(1), p(2).
abbrev pub both_removed : Example
both_removed = record {
  symbols = (codes "p", 1) ∷ [];
  program = record { label = codes "d"; kept = 0; heads = head 7 (var 0 ∷ []) ∷ head 7 (var 1 ∷ []) ∷ []; guard = []; body = []; head_vars = 2; vars = 2 } ∷ [];
  query = record { goals = chr 7 (number 1 ∷ []) ∷ chr 7 (number 2 ∷ []) ∷ []; var_names = [] };
}

-- the stamp of a mark after ten steps, by the calls
abbrev pub stamp_in : Example → Mark → ℕ
stamp_in e = stamp e.program (rise_by_calls e.program) (start e.query) 10
