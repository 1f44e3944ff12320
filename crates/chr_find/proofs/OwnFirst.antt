-- The whole search, and what it is in the definitions.
use Rattle.std.proofs.Common.{◌≡◌, ◌^◌, ◌<◌, ◌∙◌, ◌==◌, ℕ, ◌+◌, false, zero-add, List, [], ◌∷◌, Option, Some, None, option_map, ap, refl, sym}
use Rattle.std.specs.Prelude.{All, find, slice_get}
use Rattle.chr_semantics.proofs.Makes.{Extends-itself}
use Rattle.chr_semantics.proofs.CursorLaw.{cursor_law, gated_law}
use Rattle.chr_semantics.proofs.JoinLaw.{join_law}
use Rattle.chr_semantics.proofs.TriesLaw.{tries_law}
use Rattle.chr_semantics.specs.Cursor.{IsSpent, lies_ahead}
use Rattle.chr_semantics.specs.Join.{Joined, after_own, enters, joined, own_joined, rows_in}
use Rattle.chr_semantics.specs.Match.{Row, fit_atom}
use Rattle.chr_semantics.specs.Program.{Head, Rule}
use Rattle.chr_semantics.specs.Search.{History, ids_of}
use Rattle.chr_semantics.specs.Subst.{Subst}
use Rattle.chr_semantics.specs.Tries.{capped, tried, tried_tuples}
use Rattle.chr_find.specs.Finds.{Finds}
use Rattle.chr_find.specs.First.{IsFirst}
use Rattle.chr_find.specs.Threshold.{Threshold, free, on, passed}
use Rattle.chr_find.proofs.Barren.{joined_none}
use Rattle.chr_find.proofs.FoundLists.{finds_none, finds_same}

module _ (rows : List Row) (h : History) (r : ℕ) (rule : Rule) (place : ℕ) (own : Head) (a : Row) (from : ℕ) where
  -- after the match of the own head
  pub own_found : (threshold : Threshold) (m : Subst) (result : Option (List ℕ)) (told now : ℕ) → fit_atom own.atom a.1 [] ≡ Some m → Finds h r rule.guard [] (passed from threshold (joined rows a place rule.heads [] 0 m)) result told now
      → Finds h r rule.guard [] (passed from threshold (own_joined rows rule place own a)) result told now
  own_found threshold m result told now fit f =
      finds_same h r rule.guard [] _ _ result told now (ap (λ (e : Option Subst). passed from threshold (after_own (joined rows a place rule.heads [] 0) e)) fit) f

  -- and where it does not match
  pub own_apart : (threshold : Threshold) (told : ℕ) → told < 2 ^ 64 → fit_atom own.atom a.1 [] ≡ None → Finds h r rule.guard [] (passed from threshold (own_joined rows rule place own a)) None told told
  own_apart threshold told small fit =
      finds_same h r rule.guard [] _ [] None told told (ap (λ (e : Option Subst). passed from threshold (after_own (joined rows a place rule.heads [] 0) e)) fit) (finds_none h r rule.guard [] told small)

  -- and where another head has no partner
  pub own_lacking : (threshold : Threshold) (m : Subst) (k : ℕ) (x : Head) (told : ℕ) → told < 2 ^ 64 → fit_atom own.atom a.1 [] ≡ Some m → slice_get rule.heads k ≡ Some x → (k == place) ≡ false → All (λ (c : Row). fit_atom x.atom c.1 m ≡ None) rows
      → Finds h r rule.guard [] (passed from threshold (own_joined rows rule place own a)) None told told
  own_lacking threshold m k x told small fit at apart all =
      own_found threshold m None told told fit
      (finds_same h r rule.guard [] _ [] None told told (ap (passed from threshold) (joined_none rows a place rule.heads [] 0 m m k x at (ap (λ (i : ℕ). i == place) (zero-add k) ∙ apart) (Extends-itself m) all)) (finds_none h r rule.guard [] told small))

  all_pass : (ps : List Joined) → passed from free ps ≡ ps
  all_pass [] = refl
  all_pass (p ∷ ps) = ap (λ (l : List Joined). p ∷ l) (all_pass ps)

  in_ids : (o : Option Joined) → option_map (λ (p : Joined). ids_of p.0) o ≡ option_map ids_of (option_map rows_in o)
  in_ids None = refl
  in_ids (Some p) = refl

  -- where nothing is passed over it is the first tuple, and the tries are those of the definitions
  pub free_first : (result : Option (List ℕ)) (told now : ℕ) → slice_get rule.heads place ≡ Some own → Finds h r rule.guard [] (passed from free (own_joined rows rule place own a)) result told now
      → IsFirst rows h r rule place a result × (now ≡ capped (told + tried_tuples rows h r rule place a))
  free_first result told now at f = (
    f.found ∙ (ap (λ (ps : List Joined). option_map (λ (p : Joined). ids_of p.0) (find (enters h r rule) ps)) (all_pass (own_joined rows rule place own a))
        ∙ (in_ids (find (enters h r rule) (own_joined rows rule place own a)) ∙ ap (option_map ids_of) (sym (join_law.all_rows rows h r rule place own a at)))),
    f.tries ∙ ap (λ (k : ℕ). capped (told + k)) (ap (tried (enters h r rule)) (all_pass (own_joined rows rule place own a)) ∙ tries_law.tries rows h r rule place own a at),
  )

  -- where the tuples that can fire lie ahead, going on finds the first one too
  pub next_first : (l : List ℕ) (result : Option (List ℕ)) (told now : ℕ) → slice_get rule.heads place ≡ Some own → IsSpent rows h r rule place a l from
      → Finds h r rule.guard [] (passed from (on l) (own_joined rows rule place own a)) result told now → IsFirst rows h r rule place a result
  next_first l result told now at spent f =
      f.found ∙ (in_ids (find (enters h r rule) (passed from (on l) (own_joined rows rule place own a)))
      ∙ ap (option_map ids_of) (sym (gated_law.found (lies_ahead l from) rows h r rule place own a at) ∙ sym (cursor_law.next rows h r rule place a l from spent)))
