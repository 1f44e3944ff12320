-- The lists after a change of one list.
use Rattle.std.proofs.Common.{◌≡◌, ◌∙◌, ℕ, Bool, true, false, cond, ◌&&◌, ◌==◌, List, [], ap, refl, sym}
use Rattle.std.specs.Prelude.{Option, Some, None}
use Rattle.std.specs.Cmp.{Equal-is}
use Rattle.std.specs.Option.{option_map}
use Rattle.std.specs.Ordering.{is_eq}
use Rattle.chr_map.specs.Order.{Ascends, entry_edited, entry_put, entry_removed, value_of}
use Rattle.chr_map.proofs.Lookups.{same_value, value_of-edited, value_of-put, value_of-removed}
use Rattle.chr_semantics.specs.Keys as semantics
use Rattle.chr_semantics.specs.Keys.{first_key, same_keys, number, name}
use Rattle.chr_semantics.specs.Program.{Atom}
use Rattle.chr_semantics.specs.Search.{has_number}
use Rattle.chr_semantics.proofs.Tests.{eqb_sym}
use Rattle.chr_keys.specs.contracts.symbol_key.FirstKeyPartialEq.TheImpl.{ghosts}
use Rattle.chr_keys.specs.contracts.symbol_key.SymbolKeyOrd.TheImpl.Laws.{matches_eq-law, total-law}
use Rattle.chr_keys.specs.declared.symbol_key.SymbolKey.{SymbolKey}
use Rattle.chr_keys.specs.IdSets.{ids_set}
use Rattle.chr_keys.specs.Keyed.{is_keyed}
use Rattle.chr_keys.specs.Lists.{ids_at, ids_in, is_in_list, list_after}
use Rattle.chr_keys.specs.SymbolKeys.{atom_key, first_key_of, symbol_key_cmp, symbol_key_of}
use Rattle.chr_keys.proofs.IdLists.{number_set}
use Rattle.std.proofs.Math.Bool.{and-false, and-true}

listed_test : (k l : Option semantics.Key) → ghosts.eq (first_key_of k) (first_key_of l) ≡ same_keys k l
listed_test None None = refl
listed_test None (Some (number w)) = refl
listed_test None (Some (name g)) = refl
listed_test (Some (number z)) None = refl
listed_test (Some (number z)) (Some (number w)) = refl
listed_test (Some (number z)) (Some (name g)) = refl
listed_test (Some (name f)) None = refl
listed_test (Some (name f)) (Some (number w)) = refl
listed_test (Some (name f)) (Some (name g)) = refl

-- an atom is listed under its symbol and its key
pub key_test : (a : Atom) (f : ℕ) (k : Option semantics.Key) → is_eq (symbol_key_cmp (symbol_key_of f k) (atom_key a)) ≡ is_keyed a f k
key_test a f k = sym (matches_eq-law (symbol_key_of f k) (atom_key a)) ∙ (λ i. eqb_sym f a.sym i && listed_test k (first_key a) i)

number_if : (i : ℕ) (b : Bool) (ids : List ℕ) (j : ℕ) (t : Bool) → has_number (cond t (ids_set i b ids) ids) j ≡ cond (j == i && t) b (has_number ids j)
number_if i b ids j true = number_set i b ids j ∙ ap (λ (t : Bool). cond t b (has_number ids j)) (sym (and-true (j == i)))
number_if i b ids j false = ap (λ (t : Bool). cond t b (has_number ids j)) (sym (and-false (j == i)))

-- The identity i is put into the list of the key p, or taken out there.
module _ (es new : List (SymbolKey × List ℕ)) (p : SymbolKey) (i : ℕ) (b : Bool) where
  -- in each list stands what stood there, but for that
  abbrev pub IsSet : Type 0
  IsSet = (x : SymbolKey × ℕ) → is_in_list new x ≡ list_after p i b (is_in_list es) x

  -- by what stands at p afterwards
  set_by : (o : Option (List ℕ)) → ids_in o ≡ ids_set i b (ids_at es p) → ((q : SymbolKey) → value_of symbol_key_cmp new q ≡ cond (is_eq (symbol_key_cmp q p)) o (value_of symbol_key_cmp es q)) → IsSet
  set_by o here step x =
      ap (λ (l : List ℕ). has_number l x.1) (ap ids_in (step x.0) ∙ by_test (is_eq (symbol_key_cmp x.0 p)) refl)
      ∙ number_if i b (ids_at es x.0) x.1 (is_eq (symbol_key_cmp x.0 p))
    where
      by_test : (t : Bool) → is_eq (symbol_key_cmp x.0 p) ≡ t → ids_in (cond t o (value_of symbol_key_cmp es x.0)) ≡ cond t (ids_set i b (ids_at es x.0)) (ids_at es x.0)
      by_test true e = here ∙ ap (λ (v : Option (List ℕ)). ids_set i b (ids_in v)) (sym (same_value symbol_key_cmp total-law x.0 p es ((Equal-is (symbol_key_cmp x.0 p)).0 e)))
      by_test false e = refl

  -- a list is put there
  pub set_put : (ids : List ℕ) → ids ≡ ids_set i b (ids_at es p) → new ≡ entry_put symbol_key_cmp es p ids → IsSet
  set_put ids here e = set_by (Some ids) here (λ q. ap (λ (l : List (SymbolKey × List ℕ)). value_of symbol_key_cmp l q) e ∙ value_of-put symbol_key_cmp total-law es p ids q)

  -- the list is taken out
  pub set_removed : [] ≡ ids_set i b (ids_at es p) → Ascends symbol_key_cmp es → new ≡ entry_removed symbol_key_cmp es p → IsSet
  set_removed here up e = set_by None here (λ q. ap (λ (l : List (SymbolKey × List ℕ)). value_of symbol_key_cmp l q) e ∙ value_of-removed symbol_key_cmp total-law es p q up)

  -- the list is changed
  pub set_edited : (ids : List ℕ) → Some ids ≡ value_of symbol_key_cmp es p → new ≡ entry_edited symbol_key_cmp (ids_set i b) es p → IsSet
  set_edited ids is e = set_by (Some (ids_set i b ids)) (ap (λ (v : Option (List ℕ)). ids_set i b (ids_in v)) is) (λ q. ap (λ (l : List (SymbolKey × List ℕ)). value_of symbol_key_cmp l q) e ∙ (value_of-edited symbol_key_cmp total-law (ids_set i b) es p q ∙ by_test q (is_eq (symbol_key_cmp q p)) refl))
    where
      by_test : (q : SymbolKey) (t : Bool) → is_eq (symbol_key_cmp q p) ≡ t → cond t (option_map (ids_set i b) (value_of symbol_key_cmp es q)) (value_of symbol_key_cmp es q) ≡ cond t (Some (ids_set i b ids)) (value_of symbol_key_cmp es q)
      by_test q true e = ap (option_map (ids_set i b)) (same_value symbol_key_cmp total-law q p es ((Equal-is (symbol_key_cmp q p)).0 e) ∙ sym is)
      by_test q false e = refl
