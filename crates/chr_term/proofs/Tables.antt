-- Names that are stored as texts and entries.
use Rattle.std.proofs.Common.{◌≡◌, ℕ, zero, suc, ◌<◌, ◌≤◌, Bool, true, false, cond, ◌&&◌, ◌==◌, List, [], ◌∷◌, ◌++◌, length, get_or, take, map, refl, sym, ap, ◌∙◌, arith, Option, Some, None, is_some, bytes_eq, slice_get, position, option_map, inl, inr, subst, if◌then◌else◌}
use Rattle.std.specs.List.{AllByRecursion, IsDistinct, list_any}
use Rattle.std.specs.Prelude.{All}
use Rattle.std.specs.Cmp.{both_ways}
use Rattle.std.proofs.lemmas.Cmp.{nat_list_eq_equiv}
use Rattle.std.proofs.lemmas.Bool.{cases_order, and_parts, and_from, false_from_ne_true, true≢false, eq-eqb, eqb-true}
use Rattle.std.proofs.lemmas.List.{map-append, length-append, length-map, length-take, length-take-le, get_or_append_left, get_or-take, take-map}
use Rattle.std.proofs.lemmas.List.Elements.{All-push}
use Rattle.std.proofs.lemmas.List.Quantifiers.{position-Some}
use Rattle.std.proofs.lemmas.Map.Keys.{apart_from_distinct, IsDistinct-push}
use Rattle.std.proofs.lemmas.Option.{get_or_from_slice_get, slice_get-get_or, slice_get-map, slice_get_within}
use Rattle.std.proofs.lemmas.Slice.Eq.{bytes_eq-Decides}
use Rattle.indexmap.specs.IndexSet.{insert_key}
use Rattle.chr_semantics.specs.Names.{Names, symbol_of, with_symbol}
use Rattle.chr_term.specs.declared.names.StoredSymbol.{StoredSymbol}
use Rattle.chr_term.specs.Entries.{entry_eq, entry_name, entry_names, IsTable}
use Rattle.chr_term.specs.Texts.{with_text}
use Rattle.chr_term.proofs.Positions.{position-map, position-none, position-none_at, position-at, is_some-position}

bytes_same : (s t : List ℕ) → bytes_eq s t ≡ true → s ≡ t
bytes_same s t = (bytes_eq-Decides s t).0

bytes_refl : (s : List ℕ) → bytes_eq s s ≡ true
bytes_refl s = (bytes_eq-Decides s s).1 refl

bytes_differ : (s t : List ℕ) → bytes_eq s t ≡ false → s ≡ t → ⊥
bytes_differ s t differ e = true≢false (sym ((bytes_eq-Decides s t).1 e) ∙ differ)

-- a text stands at one place
same_place : (texts : List (List ℕ)) (i k : ℕ) → IsDistinct bytes_eq texts → i < length texts → k < length texts → get_or texts k [] ≡ get_or texts i [] → k ≡ i
same_place texts i k once li lk same = elim (cases_order k i) [
  | inl e ↦ e
  | inr (inl lt) ↦ absurd (bytes_differ _ _ (apart_from_distinct bytes_eq texts k i [] once lt li) same)
  | inr (inr gt) ↦ absurd (bytes_differ _ _ (apart_from_distinct bytes_eq texts i k [] once gt lk) (sym same))
]

entry_same : (a b : StoredSymbol) → entry_eq a b ≡ true → a ≡ b
entry_same a b h = let p = and_parts (a.text == b.text) (a.arity == b.arity) h in let t : a.text ≡ b.text = eqb-true _ _ p.0 in let n : a.arity ≡ b.arity = eqb-true _ _ p.1 in λ i. record { text = t i; arity = n i }

entry_refl : (a : StoredSymbol) → entry_eq a a ≡ true
entry_refl a = and_from (a.text == a.text) (a.arity == a.arity) (eq-eqb _ _ refl) (eq-eqb _ _ refl)

map_agrees : {X Y : Type 0} (f g : X → Y) (xs : List X) → ((k : ℕ) (d : X) → k < length xs → f (get_or xs k d) ≡ g (get_or xs k d)) → map f xs ≡ map g xs
map_agrees f g [] h = refl
map_agrees f g (x ∷ xs) h = let first : f x ≡ g x = h 0 x (omega arith) in let others : map f xs ≡ map g xs = map_agrees f g xs (λ k d lk. h (suc k) d (omega arith)) in cc

mapped_some : {X Y : Type 0} (f : X → Y) (o : Option X) (y : Y) → option_map f o ≡ Some y → (x : X) × (o ≡ Some x) × (f x ≡ y)
mapped_some f None y h = absurd (cc)
mapped_some f (Some x) y h = (x, refl, cc)

module _ (texts : List (List ℕ)) (entries : List StoredSymbol) (is : IsTable texts entries) where
  -- an entry is found among the entries where its name and arity are found among the names
  pub symbol_of_entry : (e : StoredSymbol) → e.text < length texts → position (entry_eq e) entries ≡ symbol_of (entry_names texts entries) (get_or texts e.text []) e.arity
  symbol_of_entry e lt = position-map (entry_eq e) _ (entry_name texts) entries (λ k d lk. agrees (get_or entries k d) (is.within k d lk))
    where
      agrees : (x : StoredSymbol) → x.text < length texts → entry_eq e x ≡ (bytes_eq (get_or texts x.text []) (get_or texts e.text []) && x.arity == e.arity)
      agrees x lx = both_ways _ _
          (λ same. let s = entry_same e x same in and_from _ _ ((bytes_eq-Decides _ _).1 (ap (λ (y : StoredSymbol). get_or texts y.text []) (sym s))) (eq-eqb _ _ (ap (λ (y : StoredSymbol). y.arity) (sym s))))
          (λ same. let p = and_parts (bytes_eq (get_or texts x.text []) (get_or texts e.text [])) (x.arity == e.arity) same in
          and_from _ _ (eq-eqb _ _ (sym (same_place texts e.text x.text is.texts_once lt lx (bytes_same _ _ p.0)))) (eq-eqb _ _ (sym (eqb-true _ _ p.1))))

  -- a name that is not among the texts has no symbol
  pub symbol_of_absent : (name : List ℕ) (arity : ℕ) → position (bytes_eq name) texts ≡ None → symbol_of (entry_names texts entries) name arity ≡ None
  symbol_of_absent name arity none = sym (position-map (λ e. false) _ (entry_name texts) entries (λ k d lk. sym (fails (get_or entries k d) (is.within k d lk)))) ∙ position-none (λ e. false) entries (λ k d lk. refl)
    where
      fails : (x : StoredSymbol) → x.text < length texts → (bytes_eq (get_or texts x.text []) name && x.arity == arity) ≡ false
      fails x lx = false_from_ne_true (bytes_eq (get_or texts x.text []) name && x.arity == arity) (λ h. bytes_differ name (get_or texts x.text []) (position-none_at (bytes_eq name) texts x.text [] none lx) (sym (bytes_same (get_or texts x.text []) name (and_parts (bytes_eq (get_or texts x.text []) name) (x.arity == arity) h).0)))

  entry_at : (k : ℕ) (e : StoredSymbol) → slice_get entries k ≡ Some e → position (entry_eq e) entries ≡ Some k
  entry_at k e at =
      let lt : k < length entries = slice_get_within entries k e at in
      let here : get_or entries k e ≡ e = get_or_from_slice_get entries k e e at in
      position-at (entry_eq e) entries k e lt
      (λ j below. false_from_ne_true _ (λ same. true≢false (sym (entry_refl e) ∙ ap (λ x. entry_eq x e) (entry_same e _ same) ∙ ap (entry_eq (get_or entries j e)) (sym here) ∙ apart_from_distinct entry_eq entries j k e is.entries_once below lt)))
      (ap (entry_eq e) here ∙ entry_refl e)

  -- a pair stands once: where it stands, it is found
  pub symbol_of_at : (k : ℕ) (name : List ℕ) (arity : ℕ) → slice_get (entry_names texts entries) k ≡ Some (name, arity) → symbol_of (entry_names texts entries) name arity ≡ Some k
  symbol_of_at k name arity at =
      let found = mapped_some (entry_name texts) (slice_get entries k) (name, arity) (sym (slice_get-map (entry_name texts) entries k) ∙ at) in
      let e = found.0 in
      let lt : e.text < length texts = subst (λ (x : StoredSymbol). x.text < length texts) (get_or_from_slice_get entries k e e found.1) (is.within k e (slice_get_within entries k e found.1)) in
      sym (ap (λ (n : List ℕ × ℕ). symbol_of (entry_names texts entries) n.0 n.1) found.2) ∙ sym (symbol_of_entry e lt) ∙ entry_at k e found.1

  -- one more entry is one more symbol, where it is new
  pub entry_names-insert_key : (e : StoredSymbol) → e.text < length texts → entry_names texts (insert_key entry_eq entries e) ≡ with_symbol (entry_names texts entries) (get_or texts e.text []) e.arity
  entry_names-insert_key e lt = pushed (list_any (entry_eq e) entries) ∙ ap (λ b. cond b (entry_names texts entries) (entry_names texts entries ++ entry_name texts e ∷ [])) (sym (is_some-position (entry_eq e) entries) ∙ ap is_some (symbol_of_entry e lt))
    where
      pushed : (b : Bool) → entry_names texts (if b then entries else entries ++ e ∷ []) ≡ cond b (entry_names texts entries) (entry_names texts entries ++ entry_name texts e ∷ [])
      pushed true = refl
      pushed false = map-append (entry_name texts) entries (e ∷ [])

  -- and the table stays one
  pub IsTable-insert_key : (e : StoredSymbol) → e.text < length texts → length entries < 4294967295 → IsDistinct entry_eq (insert_key entry_eq entries e) → IsTable texts (insert_key entry_eq entries e)
  IsTable-insert_key e lt few once = by (list_any (entry_eq e) entries) once
    where
      by : (b : Bool) → IsDistinct entry_eq (if b then entries else entries ++ e ∷ []) → IsTable texts (if b then entries else entries ++ e ∷ [])
      by true o = is
      by false o = record { within = All-push (λ (x : StoredSymbol). x.text < length texts) entries e is.within lt; few = omega (arith, length-append entries (e ∷ [])); texts_once = is.texts_once; entries_once = o }

  -- one more text changes no name
  pub entry_names-with_text : (text : List ℕ) → entry_names (with_text texts text) entries ≡ entry_names texts entries
  entry_names-with_text text = by (list_any (bytes_eq text) texts)
    where
      by : (b : Bool) → entry_names (cond b texts (texts ++ text ∷ [])) entries ≡ entry_names texts entries
      by true = refl
      by false = map_agrees (entry_name (texts ++ text ∷ [])) (entry_name texts) entries (λ k d lk. ap (λ t. (t, (get_or entries k d).arity)) (get_or_append_left texts (text ∷ []) [] _ (is.within k d lk)))

  -- and the table stays one
  pub IsTable-with_text : (text : List ℕ) → IsTable (with_text texts text) entries
  IsTable-with_text text = by (list_any (bytes_eq text) texts) refl
    where
      by : (b : Bool) → list_any (bytes_eq text) texts ≡ b → IsTable (cond b texts (texts ++ text ∷ [])) entries
      by true e = is
      by false e = record { within = (λ k d lk. let lt = is.within k d lk in omega (arith, length-append texts (text ∷ []))); few = is.few; texts_once = IsDistinct-push nat_list_eq_equiv texts text is.texts_once e; entries_once = is.entries_once }

pub length-entries : (texts : List (List ℕ)) (entries : List StoredSymbol) (names : Names) → entry_names texts entries ≡ names → length entries ≡ length names
length-entries texts entries names shows = omega (arith, length-map entries (entry_name texts), ap length shows)

-- the empty table
pub IsTable-empty : (texts : List (List ℕ)) (entries : List StoredSymbol) → texts ≡ [] → entries ≡ [] → IsTable texts entries
unfolding IsDistinct
IsTable-empty texts entries no_texts no_entries = rw (no_texts, no_entries) (record { within = λ k d lt. absurd (omega (arith, lt)); few = omega arith; texts_once = tt; entries_once = tt })

-- an entry that stands at a place, by whichever equal one, is a name that stands there
pub slice_get-entry_names : (texts : List (List ℕ)) (entries : List StoredSymbol) (e x : StoredSymbol) (k : ℕ) → slice_get entries k ≡ Some x → entry_eq e x ≡ true → slice_get (entry_names texts entries) k ≡ Some (entry_name texts e)
slice_get-entry_names texts entries e x k at same = slice_get-map (entry_name texts) entries k ∙ ap (option_map (entry_name texts)) (at ∙ ap Some (sym (entry_same e x same)))

-- where a text is found, it stands
pub slice_get-position : (texts : List (List ℕ)) (text : List ℕ) (i : ℕ) → position (bytes_eq text) texts ≡ Some i → slice_get texts i ≡ Some text
slice_get-position texts text i found =
    let p = position-Some (bytes_eq text) texts i [] found in
    slice_get-get_or texts i [] p.0 ∙ ap Some (sym (bytes_same _ _ p.1))

module _ (texts : List (List ℕ)) (entries : List StoredSymbol) (is : IsTable texts entries) (names : Names) (shows : entry_names texts entries ≡ names) where
  pub find_absent : (name : List ℕ) (arity : ℕ) → position (bytes_eq name) texts ≡ None → symbol_of names name arity ≡ None
  find_absent name arity none = ap (λ n. symbol_of n name arity) (sym shows) ∙ symbol_of_absent texts entries is name arity none

  pub find_entry : (name : List ℕ) (e : StoredSymbol) → slice_get texts e.text ≡ Some name → position (entry_eq e) entries ≡ symbol_of names name e.arity
  find_entry name e at =
      symbol_of_entry texts entries is e (slice_get_within texts e.text name at) ∙ ap (λ t. symbol_of (entry_names texts entries) t e.arity) (get_or_from_slice_get texts e.text name [] at) ∙ ap (λ n. symbol_of n name e.arity) shows

  pub find_at : (k : ℕ) (name : List ℕ) (arity : ℕ) → slice_get names k ≡ Some (name, arity) → symbol_of names name arity ≡ Some k
  find_at k name arity at = ap (λ n. symbol_of n name arity) (sym shows) ∙ symbol_of_at texts entries is k name arity (ap (λ n. slice_get n k) shows ∙ at)

-- a table with one more text and one more entry
module _ (texts : List (List ℕ)) (entries : List StoredSymbol) (is : IsTable texts entries) (name : List ℕ) (e : StoredSymbol) (texts' : List (List ℕ)) (entries' : List StoredSymbol)
    (more_texts : texts' ≡ with_text texts name) (more_entries : entries' ≡ insert_key entry_eq entries e) (at : slice_get texts' e.text ≡ Some name) where
  wider : IsTable texts' entries
  wider = subst (λ t. IsTable t entries) (sym more_texts) (IsTable-with_text texts entries is name)

  pub IsTable-interned : length entries < 4294967295 → IsDistinct entry_eq entries' → IsTable texts' entries'
  IsTable-interned few once = subst (IsTable texts') (sym more_entries) (IsTable-insert_key texts' entries wider e (slice_get_within texts' e.text name at) few (subst (IsDistinct entry_eq) more_entries once))

  pub entry_names-interned : (names : Names) → entry_names texts entries ≡ names → entry_names texts' entries' ≡ with_symbol names name e.arity
  entry_names-interned names shows =
      ap (entry_names texts') more_entries
      ∙ entry_names-insert_key texts' entries wider e (slice_get_within texts' e.text name at)
      ∙ ap (λ t. with_symbol (entry_names texts' entries) t e.arity) (get_or_from_slice_get texts' e.text name [] at)
      ∙ ap (λ n. with_symbol n name e.arity) (ap (λ t. entry_names t entries) more_texts ∙ entry_names-with_text texts entries is name ∙ shows)

  pub symbol_of-interned : (x : StoredSymbol) (k : ℕ) → slice_get entries' k ≡ Some x → entry_eq e x ≡ true → IsTable texts' entries' → symbol_of (entry_names texts' entries') name e.arity ≡ Some k
  symbol_of-interned x k stands same table =
      symbol_of_at texts' entries' table k name e.arity (slice_get-entry_names texts' entries' e x k stands same ∙ ap (λ t. Some (t, e.arity)) (get_or_from_slice_get texts' e.text name [] at))

-- the first of a list differ as the whole list does
distinct_first : {X : Type 0} (eq : X → X → Bool) (n : ℕ) (xs : List X) → IsDistinct eq xs → IsDistinct eq (take n xs)
unfolding IsDistinct
distinct_first eq zero xs d = tt
distinct_first eq (suc n) [] d = tt
distinct_first eq (suc n) (x ∷ xs) d = (all_first (λ y. eq x y ≡ false) n xs d.0, distinct_first eq n xs d.1)
  where
    all_first : {X : Type 0} (P : X → Type 0) (n : ℕ) (xs : List X) → AllByRecursion P xs → AllByRecursion P (take n xs)
    all_first P zero xs h = tt
    all_first P (suc n) [] h = tt
    all_first P (suc n) (x ∷ xs) h = (h.0, all_first P n xs h.1)

-- the first symbols of a table, with no more texts than these have
module _ (texts : List (List ℕ)) (entries : List StoredSymbol) (is : IsTable texts entries) (len used : ℕ) (few : used ≤ length texts) (used_all : All (λ (e : StoredSymbol). e.text < used) (take len entries)) where
  pub IsTable-first : IsTable (take used texts) (take len entries)
  IsTable-first = record {
    within = λ k d lt. omega (arith, used_all k d lt, length-take-le used texts few);
    few = omega (arith, is.few, length-take len entries);
    texts_once = distinct_first bytes_eq used texts is.texts_once;
    entries_once = distinct_first entry_eq len entries is.entries_once;
  }

  pub entry_names-first : entry_names (take used texts) (take len entries) ≡ take len (entry_names texts entries)
  entry_names-first =
      map_agrees (entry_name (take used texts)) (entry_name texts) (take len entries) (λ k d lt. ap (λ t. (t, (get_or (take len entries) k d).arity)) (get_or-take used texts _ [] (used_all k d lt)))
      ∙ sym (take-map (entry_name texts) len entries)
