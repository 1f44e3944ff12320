-- The search of a table for an active constraint: from one history to each that is like it.
use Rattle.std.proofs.Common.{◌≡◌, ◌+◌, ℕ, true, List, Some, length, arith}
use Rattle.std.specs.Prelude.{Option, slice_get}
use Rattle.chr_rules.specs.RuleView.{rule_view}
use Rattle.chr_rules.specs.declared.rule.Rule.{Rule}
use Rattle.chr_semantics.specs.Match as semantics
use Rattle.chr_semantics.specs.Program.{Atom, Head}
use Rattle.chr_semantics.specs.Search.{History}
use Rattle.chr_semantics.specs.Tries.{capped, tried_tuples}
use Rattle.chr_find.specs.First.{IsFirst}
use Rattle.chr_find.specs.FiringHistory.{IsLike}
use Rattle.chr_find.specs.SearchView.{IsSearchable}
use Rattle.chr_find.specs.TableView.{HasRows, atom_at, lives}
use Rattle.chr_find.specs.declared.active.Active.{Active}
use Rattle.chr_find.specs.declared.table.Table.{Table}
use Rattle.chr_find.proofs.LiveFirings.{agree, all_live, live_in, own_live}
use Rattle.chr_find.proofs.RuleHeads.{heads_length}
use Rattle.chr_find.proofs.SameHistory.{first_too, tried_too}
use Rattle.chr_find.proofs.SearchParts.{head_there}

module _ {A : Type 0} where
  -- the head of the active constraint
  pub own_head : (r : Rule A) (place : ℕ) → IsSearchable r place → (x : Head) × (slice_get (rule_view r).heads place ≡ Some x)
  own_head r place searchable =
      let counted : length (rule_view r).heads ≡ length r.heads.items = heads_length r.heads.items r.passive.items in
      head_there (rule_view r).heads place (omega (arith, counted, searchable.inside))

  module _ (t : Table A) (s : Active A) (rows : List semantics.Row) (has : HasRows t rows) (k h : History) (alike : IsLike (lives t) k h) (a : Atom) (there : atom_at t s.id.0 ≡ Some a) where
    alive : live_in rows s.id.0 ≡ true
    alive = own_live t rows has s.id.0 a there

    -- what is found with a history that is like another is found with that
    pub first_own : (found : Option (List ℕ)) → IsFirst rows k s.number (rule_view s.rule.now) s.place (s.id.0, a) found → IsFirst rows h s.number (rule_view s.rule.now) s.place (s.id.0, a) found
    first_own = first_too rows h k s.number (rule_view s.rule.now) s.place (s.id.0, a) (live_in rows) alive (all_live rows) (agree t rows has k h alike s.number)

    pub tried_own : (told now : ℕ) → now ≡ capped (told + tried_tuples rows k s.number (rule_view s.rule.now) s.place (s.id.0, a)) → now ≡ capped (told + tried_tuples rows h s.number (rule_view s.rule.now) s.place (s.id.0, a))
    tried_own = tried_too rows h k s.number (rule_view s.rule.now) s.place (s.id.0, a) (live_in rows) alive (all_live rows) (agree t rows has k h alike s.number)
