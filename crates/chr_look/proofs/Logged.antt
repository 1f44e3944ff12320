-- What the log of a run says of it, a transition at a time.
use Rattle.std.proofs.Common.{◌≡◌, ◌∙◌, ◌<◌, ◌≤◌, ◌+◌, ◌-◌, ◌++◌, ◌∷◌, ◌==◌, ◌&&◌, ◌||◌, ◌⊎◌, [], inl, inr, Bool, List, None, Option, Some, add-one, ap, append-nil, arith, cond, drop, false, length, length-append, nat_lt, not, option_map, refl, subst, suc, sym, true, true≢false, zero, ℕ}
use Rattle.std.proofs.lemmas.Bool.{and_parts, le-leb, lt-leb, lt-ltb}
use Rattle.std.proofs.lemmas.Bool.Decides.{Decides-eqb}
use Rattle.std.proofs.lemmas.Option.{slice_get_past}
use Rattle.std.specs.List.{list_all}
use Rattle.std.specs.Prelude.{filter, is_some, option_and_then, option_to_list, slice_get, take, unwrap_or}
use Rattle.chr_semantics.specs.Footprint.{Ascends, IsSound}
use Rattle.chr_semantics.specs.Life.{came, firing_at, firings, first_after, gone, last_no_higher, origin}
use Rattle.chr_semantics.specs.Match.{Row}
use Rattle.chr_semantics.specs.Program.{Atom, Program, Rule}
use Rattle.chr_semantics.specs.Search.{History, atom_of, has_number}
use Rattle.chr_semantics.specs.State.{State}
use Rattle.chr_semantics.specs.Step.{after, step}
use Rattle.chr_semantics.specs.Tasks.{lives}
use Rattle.chr_semantics.proofs.Lookups.{Ascends-ends}
use Rattle.chr_look.specs.Logs.{AreEntries, brought, IsFirst, IsLog, IsNoted, LogModel, entry_at, made_between, removal, removes_of, sight, timed}
use Rattle.chr_look.proofs.Altered.{Alters, Brings, Fires, Stays, alters}

-- ---- the first state that passes a test

abbrev pub earlier : Option ℕ → Option ℕ → Option ℕ
earlier (Some k) o = Some k
earlier None o = o

after-suc : (p : Program) (s : State) (n : ℕ) → after p s (suc n) ≡ step p (after p s n)
after-suc p s zero = refl
after-suc p s (suc n) = after-suc p (step p s) n

pub first_more : (p : Program) (test : State → Bool) (s : State) (n : ℕ) → first_after p test s (suc n) ≡ earlier (first_after p test s n) (cond (test (after p s (suc n))) (Some (suc n)) None)
first_more p test s zero = by (test s) (test (step p s))
  where
    by : (a b : Bool) → cond a (Some 0) (option_map (λ k. k + 1) (cond b (Some 0) None)) ≡ earlier (cond a (Some 0) None) (cond b (Some 1) None)
    by true b = refl
    by false true = refl
    by false false = refl
first_more p test s (suc n) = by (test s) (first_after p test (step p s) n) (test (after p (step p s) (suc n))) (first_more p test (step p s) n)
  where
    by : (a : Bool) (o : Option ℕ) (b : Bool) → first_after p test (step p s) (suc n) ≡ earlier o (cond b (Some (suc n)) None)
        → cond a (Some 0) (option_map (λ k. k + 1) (first_after p test (step p s) (suc n))) ≡ earlier (cond a (Some 0) (option_map (λ k. k + 1) o)) (cond b (Some (suc (suc n))) None)
    by true o b e = refl
    by false (Some k) b e = rw e refl
    by false None true e = rw e (ap Some (add-one (suc n)))
    by false None false e = rw e refl

first_none : (p : Program) (test : State → Bool) (s : State) (n : ℕ) → first_after p test s n ≡ None → test (after p s n) ≡ false
first_none p test s zero e = by (test s) e
  where
    by : (b : Bool) → cond {A = Option ℕ} b (Some 0) None ≡ None → b ≡ false
    by true e = cc
    by false e = refl
first_none p test s (suc n) e = by (test s) (first_after p test (step p s) n) (first_none p test (step p s) n) e
  where
    by : (b : Bool) (o : Option ℕ) → (o ≡ None → test (after p (step p s) n) ≡ false) → cond b (Some 0) (option_map (λ k. k + 1) o) ≡ None → test (after p (step p s) n) ≡ false
    by true o go e = cc
    by false (Some k) go e = cc
    by false None go e = go refl

-- ---- lists

pub got_last : {X : Type 0} (xs : List X) (x : X) → slice_get (xs ++ x ∷ []) (length xs) ≡ Some x
got_last [] x = refl
got_last (y ∷ ys) x = got_last ys x

pub got_front : {X : Type 0} (xs ys : List X) (i : ℕ) → i < length xs → slice_get (xs ++ ys) i ≡ slice_get xs i
got_front [] ys i h = absurd (omega (arith, h))
got_front (x ∷ xs) ys zero h = refl
got_front (x ∷ xs) ys (suc i) h = got_front xs ys i (omega (arith, h))

got_taken : {X : Type 0} (xs : List X) (n i : ℕ) → i < n → slice_get (take n xs) i ≡ slice_get xs i
got_taken xs zero i h = absurd (omega (arith, h))
got_taken [] (suc n) i h = refl
got_taken (x ∷ xs) (suc n) zero h = refl
got_taken (x ∷ xs) (suc n) (suc i) h = got_taken xs n i (omega (arith, h))

pub taken_long : {X : Type 0} (xs : List X) (n : ℕ) → n ≤ length xs → length (take n xs) ≡ n
taken_long xs zero h = refl
taken_long [] (suc n) h = absurd (omega (arith, h))
taken_long (x ∷ xs) (suc n) h = ap suc (taken_long xs n (omega (arith, h)))

-- before, at and after an end
pub apart : (i n : ℕ) → (i < n) ⊎ ((i ≡ n) ⊎ (n < i))
apart zero zero = inr (inl refl)
apart zero (suc n) = inl (omega arith)
apart (suc i) zero = inr (inr (omega arith))
apart (suc i) (suc n) = by (apart i n)
  where
    by : (i < n) ⊎ ((i ≡ n) ⊎ (n < i)) → (suc i < suc n) ⊎ ((suc i ≡ suc n) ⊎ (suc n < suc i))
    by (inl h) = inl (omega (arith, h))
    by (inr (inl e)) = inr (inl (ap suc e))
    by (inr (inr h)) = inr (inr (omega (arith, h)))

pub not_below : (a b : ℕ) → b ≤ a → nat_lt a b ≡ false
not_below a b h = lt-leb (suc a) b (omega (arith, h))

-- ---- births

born_not : (births : List ℕ) (i k : ℕ) (o : Option ℕ) → o ≡ slice_get births i → earlier o (cond (nat_lt (i + 1) (length births + 1)) (Some k) None) ≡ slice_get births i
born_not births i k (Some x) e = e
born_not births i k None e = by (apart i (length births))
  where
    past : length births ≤ i → cond (nat_lt (i + 1) (length births + 1)) (Some k) None ≡ slice_get births i
    past h = rw (not_below (i + 1) (length births + 1) (omega (arith, h)), slice_get_past births i h) refl

    by : (i < length births) ⊎ ((i ≡ length births) ⊎ (length births < i)) → cond (nat_lt (i + 1) (length births + 1)) (Some k) None ≡ slice_get births i
    by (inl h) = absurd (none_within births i h (sym e))
      where
        none_within : (xs : List ℕ) (j : ℕ) → j < length xs → slice_get xs j ≡ None → ⊥
        none_within [] j h e = omega (arith, h)
        none_within (x ∷ xs) zero h e = cc
        none_within (x ∷ xs) (suc j) h e = none_within xs j (omega (arith, h)) e
    by (inr (inl e)) = past (omega (arith, e))
    by (inr (inr h)) = past (omega (arith, h))

born : (births : List ℕ) (i k : ℕ) (o : Option ℕ) → o ≡ slice_get births i → earlier o (cond (nat_lt (i + 1) (length births + 1 + 1)) (Some k) None) ≡ slice_get (births ++ k ∷ []) i
born births i k o e = by (apart i (length births))
  where
    by : (i < length births) ⊎ ((i ≡ length births) ⊎ (length births < i)) → earlier o (cond (nat_lt (i + 1) (length births + 1 + 1)) (Some k) None) ≡ slice_get (births ++ k ∷ []) i
    by (inl h) = within births i h o e ∙ sym (got_front births (k ∷ []) i h)
      where
        within : (xs : List ℕ) (j : ℕ) → j < length xs → (u : Option ℕ) → u ≡ slice_get xs j → earlier u (cond (nat_lt (i + 1) (length births + 1 + 1)) (Some k) None) ≡ slice_get xs j
        within [] j h u e = absurd (omega (arith, h))
        within (x ∷ xs) zero h u e = rw e refl
        within (x ∷ xs) (suc j) h u e = within xs j (omega (arith, h)) u e
    by (inr (inl h)) = rw (e, h, slice_get_past births (length births) (omega arith), lt-ltb (length births + 1) (length births + 1 + 1) (omega arith), got_last births k) refl
    by (inr (inr h)) =
        let out : length (births ++ k ∷ []) ≤ i = rw (length-append births (k ∷ [])) (omega (arith, h)) in
        rw (e, slice_get_past births i (omega (arith, h)), not_below (i + 1) (length births + 1 + 1) (omega (arith, h)), slice_get_past (births ++ k ∷ []) i out) refl

-- ---- removals

removal_more : (p : Program) (ks : List ℕ) (h : History) (k : ℕ) (f : ℕ × List ℕ) (i : ℕ) → length ks ≡ length h
    → removal p (ks ++ k ∷ []) (h ++ f ∷ []) i ≡ earlier (removal p ks h i) (removes_of (slice_get p f.0) f.1 i (Some k) None)
removal_more p [] [] k f i e = refl
removal_more p [] (g ∷ h) k f i e = cc
removal_more p (l ∷ ks) [] k f i e = cc
removal_more p (l ∷ ks) (g ∷ h) k f i e = by (slice_get p g.0) (removal_more p ks h k f i (omega (arith, e)))
  where
    here : (b : Bool) (x y z : Option ℕ) → x ≡ earlier y z → cond b (Some l) x ≡ earlier (cond b (Some l) y) z
    here true x y z e = refl
    here false x y z e = e

    by : (o : Option Rule) → removal p (ks ++ k ∷ []) (h ++ f ∷ []) i ≡ earlier (removal p ks h i) (removes_of (slice_get p f.0) f.1 i (Some k) None)
        → removes_of o g.1 i (Some l) (removal p (ks ++ k ∷ []) (h ++ f ∷ []) i) ≡ earlier (removes_of o g.1 i (Some l) (removal p ks h i)) (removes_of (slice_get p f.0) f.1 i (Some k) None)
    by None e = e
    by (Some rule) e = here (has_number (drop rule.kept g.1) i) _ _ _ e

timed_more : (ks : List ℕ) (h : History) (k : ℕ) (f : ℕ × List ℕ) → length ks ≡ length h → timed (ks ++ k ∷ []) (h ++ f ∷ []) ≡ timed ks h ++ (k, f.0, f.1) ∷ []
timed_more [] [] k f e = refl
timed_more [] (g ∷ h) k f e = cc
timed_more (l ∷ ks) [] k f e = cc
timed_more (l ∷ ks) (g ∷ h) k f e = ap (λ (r : List (ℕ × ℕ × List ℕ)). (l, g.0, g.1) ∷ r) (timed_more ks h k f (omega (arith, e)))

-- ---- what lives after a transition

there_pushed : (xs : List Row) (r : Row) (i : ℕ) → is_some (atom_of (xs ++ r ∷ []) i) ≡ (is_some (atom_of xs i) || r.0 == i)
there_pushed [] r i = by (r.0 == i)
  where
    by : (b : Bool) → is_some (cond b (Some r.1) None) ≡ b
    by true = refl
    by false = refl
there_pushed (x ∷ xs) r i = by (x.0 == i) (there_pushed xs r i)
  where
    by : (b : Bool) → is_some (atom_of (xs ++ r ∷ []) i) ≡ (is_some (atom_of xs i) || r.0 == i) → is_some (cond b (Some x.1) (atom_of (xs ++ r ∷ []) i)) ≡ (is_some (cond b (Some x.1) (atom_of xs i)) || r.0 == i)
    by true h = refl
    by false h = h

there_kept : (goes : ℕ → Bool) (xs : List Row) (i : ℕ) → is_some (atom_of (filter (λ (r : Row). not (goes r.0)) xs) i) ≡ (is_some (atom_of xs i) && not (goes i))
there_kept goes [] i = refl
there_kept goes (x ∷ xs) i = by (goes x.0) (x.0 == i) refl refl (there_kept goes xs i)
  where
    by : (g b : Bool) → goes x.0 ≡ g → (x.0 == i) ≡ b → is_some (atom_of (filter (λ (r : Row). not (goes r.0)) xs) i) ≡ (is_some (atom_of xs i) && not (goes i))
        → is_some (atom_of (cond (not g) (x ∷ filter (λ (r : Row). not (goes r.0)) xs) (filter (λ (r : Row). not (goes r.0)) xs)) i) ≡ (is_some (cond b (Some x.1) (atom_of xs i)) && not (goes i))
    by true true eg eb h =
        let away : goes i ≡ true = ap goes (sym ((Decides-eqb x.0 i).0 eb)) ∙ eg in
        h ∙ rw away (none_left (is_some (atom_of xs i)))
      where
        none_left : (a : Bool) → (a && false) ≡ false
        none_left true = refl
        none_left false = refl
    by true false eg eb h = h
    by false true eg eb h =
        let stays : goes i ≡ false = ap goes (sym ((Decides-eqb x.0 i).0 eb)) ∙ eg in
        rw (eb, stays) refl
    by false false eg eb h = rw eb h

one_of_all : (f : ℕ → Bool) (k : ℕ) (ids : List ℕ) (i : ℕ) → list_all f ids ≡ true → has_number (drop k ids) i ≡ true → f i ≡ true
one_of_all f zero [] i h e = cc
one_of_all f zero (j ∷ ids) i h e = by (i == j) refl (one_of_all f zero ids i) e
  where
    by : (b : Bool) → (i == j) ≡ b → (list_all f ids ≡ true → has_number ids i ≡ true → f i ≡ true) → (b || has_number ids i) ≡ true → f i ≡ true
    by true is go e = ap f ((Decides-eqb i j).0 is) ∙ (and_parts (f j) (list_all f ids) h).0
    by false is go e = go (and_parts (f j) (list_all f ids) h).1 e
one_of_all f (suc k) [] i h e = cc
one_of_all f (suc k) (j ∷ ids) i h e = one_of_all f k ids i (and_parts (f j) (list_all f ids) h).1 e

there_below : (lo hi i : ℕ) (xs : List Row) → Ascends lo xs hi → is_some (atom_of xs i) ≡ true → i < hi
there_below lo hi i [] a h = cc
there_below lo hi i (x ∷ xs) a h = by (x.0 == i) refl (there_below (x.0 + 1) hi i xs a.1) h
  where
    by : (b : Bool) → (x.0 == i) ≡ b → (is_some (atom_of xs i) ≡ true → i < hi) → is_some (cond b (Some x.1) (atom_of xs i)) ≡ true → i < hi
    by true is go e = let same : x.0 ≡ i = (Decides-eqb x.0 i).0 is in let l = Ascends-ends (x.0 + 1) hi xs a.1 in omega (arith, same, l)
    by false is go e = go e

abbrev has_gone : ℕ → State → Bool
has_gone i t = nat_lt i t.next_id && not (lives t i)

gone_not : (s t : State) (i : ℕ) → Stays s t → has_gone i t ≡ has_gone i s
gone_not s t i h = rw (h.counted, h.stored) refl

still_there : (s t : State) (i : ℕ) → Brings s t → has_gone i s ≡ false → has_gone i t ≡ false
still_there s t i h e = rw (h.counted, h.stored, there_pushed s.store (s.next_id, h.brought) i) (by (apart i s.next_id))
  where
    all_there : (a l b : Bool) → a ≡ true → (a && not l) ≡ false → (c : Bool) → (c && not (l || b)) ≡ false
    all_there true true b h e true = refl
    all_there true true b h e false = refl
    all_there true false b h e c = cc
    all_there false l b h e c = cc

    last_there : (c l b : Bool) → b ≡ true → (c && not (l || b)) ≡ false
    last_there true true b h = refl
    last_there true false b h = rw h refl
    last_there false l b h = refl

    by : (i < s.next_id) ⊎ ((i ≡ s.next_id) ⊎ (s.next_id < i)) → (nat_lt i (s.next_id + 1) && not (is_some (atom_of s.store i) || s.next_id == i)) ≡ false
    by (inl h) = all_there (nat_lt i s.next_id) (is_some (atom_of s.store i)) (s.next_id == i) (lt-ltb i s.next_id h) e (nat_lt i (s.next_id + 1))
    by (inr (inl h)) = last_there (nat_lt i (s.next_id + 1)) (is_some (atom_of s.store i)) (s.next_id == i) ((Decides-eqb s.next_id i).1 (sym h))
    by (inr (inr h)) = rw (not_below i (s.next_id + 1) (omega (arith, h))) refl

fired : (p : Program) (s t : State) (i : ℕ) (h : Fires p s t) → IsSound s → has_gone i s ≡ false → has_gone i t ≡ has_number (drop h.rule.kept h.ids) i
fired p s t i h sound e =
    rw (h.counted, h.stored, there_kept (has_number (drop h.rule.kept h.ids)) s.store i)
    (by (nat_lt i s.next_id) (is_some (atom_of s.store i)) (has_number (drop h.rule.kept h.ids) i) e
    (λ r. let l = one_of_all (lives s) h.rule.kept h.ids i h.lived r in (l, lt-ltb i s.next_id (there_below 0 s.next_id i s.store sound.ascends l))))
  where
    by : (a l r : Bool) → (a && not l) ≡ false → (r ≡ true → (l ≡ true) × (a ≡ true)) → (a && not (l && not r)) ≡ r
    by true true true e k = refl
    by true true false e k = refl
    by true false r e k = cc
    by false true true e k = absurd (true≢false (sym (k refl).1))
    by false true false e k = refl
    by false false true e k = absurd (true≢false (sym (k refl).0))
    by false false false e k = refl

-- ---- a transition later

-- of the first n transitions, and the next
module _ (p : Program) (s : State) (n : ℕ) (old new : LogModel) (log : IsLog p s n old) (noted : IsNoted (suc n) (brought (after p s n) (after p s (suc n))) (sight (after p s n)) (sight (after p s (suc n))) old new) where
  history_grown : (h : History) (f : ℕ × List ℕ) → (length (h ++ f ∷ []) == length h) ≡ false
  history_grown h f = by (length (h ++ f ∷ []) == length h) refl
    where
      by : (b : Bool) → (length (h ++ f ∷ []) == length h) ≡ b → b ≡ false
      by true e = let same : length (h ++ f ∷ []) ≡ length h = (Decides-eqb (length (h ++ f ∷ [])) (length h)).0 e in absurd (omega (arith, same, length-append h (f ∷ [])))
      by false e = refl

  itself : (k : ℕ) → (k == k) ≡ true
  itself k = (Decides-eqb k k).1 refl

  -- no identity is new, or one is
  record IsIdle : Type 0 where
    counted : (after p s (suc n)).next_id ≡ (after p s n).next_id
    none : brought (after p s n) (after p s (suc n)) ≡ None

  record IsBirth : Type 0 where
    counted : (after p s (suc n)).next_id ≡ (after p s n).next_id + 1
    atom : Atom
    is : brought (after p s n) (after p s (suc n)) ≡ Some atom

  births_same : IsIdle → new.births ≡ old.births
  births_same e = noted.births_are ∙ ap (λ (o : Option Atom). old.births ++ option_to_list (option_map (λ a. suc n) o)) e.none ∙ append-nil old.births

  births_more : IsBirth → new.births ≡ old.births ++ suc n ∷ []
  births_more e = noted.births_are ∙ ap (λ (o : Option Atom). old.births ++ option_to_list (option_map (λ a. suc n) o)) e.is

  atoms_same : IsIdle → new.atoms ≡ old.atoms
  atoms_same e = noted.atoms_are ∙ ap (λ (o : Option Atom). old.atoms ++ option_to_list o) e.none ∙ append-nil old.atoms

  atoms_more : (e : IsBirth) → new.atoms ≡ old.atoms ++ e.atom ∷ []
  atoms_more e = noted.atoms_are ∙ ap (λ (o : Option Atom). old.atoms ++ option_to_list o) e.is

  origins_stay : IsIdle → new.origins ≡ old.origins
  origins_stay e = noted.origins_are ∙ ap (λ (o : Option Atom). old.origins ++ option_to_list (option_map (λ a. unwrap_or (slice_get old.lows (length (after p s n).stack)) None) o)) e.none ∙ append-nil old.origins

  origins_more : IsBirth → new.origins ≡ old.origins ++ unwrap_or (slice_get old.lows (length (after p s n).stack)) None ∷ []
  origins_more e = noted.origins_are ∙ ap (λ (o : Option Atom). old.origins ++ option_to_list (option_map (λ a. unwrap_or (slice_get old.lows (length (after p s n).stack)) None) o)) e.is

  times_same : (after p s (suc n)).history ≡ (after p s n).history → new.times ≡ old.times
  times_same e = let same : (length (after p s (suc n)).history == length (after p s n).history) ≡ true = ap (λ (h : History). length h == length (after p s n).history) e ∙ itself _ in rw same at noted.times_are

  times_more : (f : ℕ × List ℕ) → (after p s (suc n)).history ≡ (after p s n).history ++ f ∷ [] → new.times ≡ old.times ++ suc n ∷ []
  times_more f e = let more : (length (after p s (suc n)).history == length (after p s n).history) ≡ false = ap (λ (h : History). length h == length (after p s n).history) e ∙ history_grown _ f in rw more at noted.times_are

  -- the entry of the transition
  entry : firing_at p s (suc n) ≡ slice_get (after p s (suc n)).history (length (after p s n).history)
  entry = let before : suc n - 1 ≡ n = omega arith in ap (λ k. slice_get (after p s (suc n)).history (length (after p s k).history)) before

  -- what the history keeps, and the entry that is made
  record Goes : Type 0 where
    kept : (e : ℕ) → e < length (after p s n).history → slice_get (after p s (suc n)).history e ≡ slice_get (after p s n).history e
    longer : length (after p s n).history ≤ length (after p s (suc n)).history
    made : entry_at (after p s (suc n)).history (Some (made_between (sight (after p s n)) (sight (after p s (suc n))))) ≡ firing_at p s (suc n)
    below : (e : ℕ) → made_between (sight (after p s n)) (sight (after p s (suc n))) ≡ Some e → e < length (after p s (suc n)).history

  goes_same : (after p s (suc n)).history ≡ (after p s n).history → Goes
  goes_same e = record {
    kept = λ k l. ap (λ (h : History). slice_get h k) e;
    longer = let same : length (after p s (suc n)).history ≡ length (after p s n).history = ap (λ (h : History). length h) e in omega (arith, same);
    made = rw at_once (sym (entry ∙ ap (λ (h : History). slice_get h (length (after p s n).history)) e ∙ slice_get_past (after p s n).history _ (omega arith)));
    below = λ k is. let none : None ≡ Some k = rw at_once at is in cc;
  }
    where
      at_once : (length (after p s (suc n)).history == length (after p s n).history) ≡ true
      at_once = ap (λ (h : History). length h == length (after p s n).history) e ∙ itself _

  goes_more : (f : ℕ × List ℕ) → (after p s (suc n)).history ≡ (after p s n).history ++ f ∷ [] → Goes
  goes_more f e = record {
    kept = λ k l. ap (λ (h : History). slice_get h k) e ∙ got_front (after p s n).history (f ∷ []) k l;
    longer = omega (arith, long);
    made = rw grown (sym entry);
    below = λ k is. let there : Some (length (after p s n).history) ≡ Some k = rw grown at is in let same : length (after p s n).history ≡ k = cc in omega (arith, long, same);
  }
    where
      grown : (length (after p s (suc n)).history == length (after p s n).history) ≡ false
      grown = ap (λ (h : History). length h == length (after p s n).history) e ∙ history_grown _ f

      long : length (after p s (suc n)).history ≡ length (after p s n).history + 1
      long = ap (λ (h : History). length h) e ∙ length-append (after p s n).history (f ∷ [])

  entry_kept : Goes → (places : List (Option ℕ)) → AreEntries (length (after p s n).history) places → (i : ℕ)
      → entry_at (after p s (suc n)).history (slice_get places i) ≡ entry_at (after p s n).history (slice_get places i)
  entry_kept goes places below i = by (slice_get places i) refl
    where
      by : (o : Option (Option ℕ)) → slice_get places i ≡ o → entry_at (after p s (suc n)).history o ≡ entry_at (after p s n).history o
      by None is = refl
      by (Some None) is = refl
      by (Some (Some e)) is = goes.kept e (below i e is)

  taken : length (take (length (after p s n).stack) old.lows) ≡ length (after p s n).stack
  taken = taken_long old.lows (length (after p s n).stack) (omega (arith, log.lows_long))

  low_kept : (h : ℕ) → h < length (after p s n).stack → slice_get new.lows h ≡ slice_get old.lows h
  low_kept h l = noted.lows_are.kept h (omega (arith, taken, l)) ∙ got_taken old.lows _ h l

  low_made : (h : ℕ) → length (after p s n).stack ≤ h → h ≤ length (after p s (suc n)).stack → slice_get new.lows h ≡ Some (made_between (sight (after p s n)) (sight (after p s (suc n))))
  low_made h l within = noted.lows_are.raised h (omega (arith, taken, l)) within

  lows : Goes → (h : ℕ) → h ≤ length (after p s (suc n)).stack → entry_at (after p s (suc n)).history (slice_get new.lows h) ≡ option_and_then (firing_at p s) (last_no_higher p s h (suc n))
  lows goes h within = by (apart h (length (after p s n).stack))
    where
      now : length (after p s n).stack ≤ h → entry_at (after p s (suc n)).history (slice_get new.lows h) ≡ option_and_then (firing_at p s) (last_no_higher p s h (suc n))
      now l = ap (entry_at (after p s (suc n)).history) (low_made h l within) ∙ goes.made ∙ rw (le-leb (length (after p s n).stack) h l) refl

      by : (h < length (after p s n).stack) ⊎ ((h ≡ length (after p s n).stack) ⊎ (length (after p s n).stack < h)) → entry_at (after p s (suc n)).history (slice_get new.lows h) ≡ option_and_then (firing_at p s) (last_no_higher p s h (suc n))
      by (inl l) =
          ap (entry_at (after p s (suc n)).history) (low_kept h l) ∙ entry_kept goes old.lows log.lows_below h ∙ log.lows_are h (omega (arith, l)) ∙ rw (lt-leb (length (after p s n).stack) h l) refl
      by (inr (inl e)) = now (omega (arith, e))
      by (inr (inr l)) = now (omega (arith, l))

  lows_below : Goes → AreEntries (length (after p s (suc n)).history) new.lows
  lows_below goes h e is = by (apart h (length (after p s n).stack)) (apart h (length (after p s (suc n)).stack))
    where
      made : length (after p s n).stack ≤ h → h ≤ length (after p s (suc n)).stack → e < length (after p s (suc n)).history
      made l within = let there : Some (made_between (sight (after p s n)) (sight (after p s (suc n)))) ≡ Some (Some e) = sym (low_made h l within) ∙ is in goes.below e (inside there)
        where
          inside : {X : Type 0} {x y : X} → Some x ≡ Some y → x ≡ y
          inside e = cc

      out : length (after p s (suc n)).stack < h → e < length (after p s (suc n)).history
      out l = let none : None ≡ Some (Some e) = sym (slice_get_past new.lows h (omega (arith, l, noted.lows_are.long))) ∙ is in cc

      by : (h < length (after p s n).stack) ⊎ ((h ≡ length (after p s n).stack) ⊎ (length (after p s n).stack < h)) → (h < length (after p s (suc n)).stack) ⊎ ((h ≡ length (after p s (suc n)).stack) ⊎ (length (after p s (suc n)).stack < h)) → e < length (after p s (suc n)).history
      by (inl l) k = let there : e < length (after p s n).history = log.lows_below h e (sym (low_kept h l) ∙ is) in let m : length (after p s n).history ≤ length (after p s (suc n)).history = goes.longer in omega (arith, there, m)
      by (inr k) (inr (inr l)) = out l
      by (inr (inl e)) (inl k) = made (omega (arith, e)) (omega (arith, k))
      by (inr (inl e)) (inr (inl k)) = made (omega (arith, e)) (omega (arith, k))
      by (inr (inr e)) (inl k) = made (omega (arith, e)) (omega (arith, k))
      by (inr (inr e)) (inr (inl k)) = made (omega (arith, e)) (omega (arith, k))

  came_more : (i : ℕ) → came p s (suc n) (i + 1) ≡ earlier (came p s n (i + 1)) (cond (nat_lt (i + 1) (after p s (suc n)).next_id) (Some (suc n)) None)
  came_more i = first_more p (λ t. nat_lt (i + 1) t.next_id) s n

  came_same : IsIdle → (i : ℕ) → came p s (suc n) (i + 1) ≡ slice_get new.births i
  came_same e i =
      came_more i ∙ ap (λ k. earlier (came p s n (i + 1)) (cond (nat_lt (i + 1) k) (Some (suc n)) None)) (e.counted ∙ log.next_id_is)
      ∙ born_not old.births i (suc n) (came p s n (i + 1)) (log.births_are i) ∙ sym (ap (λ (l : List ℕ). slice_get l i) (births_same e))

  came_next : IsBirth → (i : ℕ) → came p s (suc n) (i + 1) ≡ slice_get new.births i
  came_next e i =
      came_more i ∙ ap (λ k. earlier (came p s n (i + 1)) (cond (nat_lt (i + 1) k) (Some (suc n)) None)) (e.counted ∙ ap (λ k. k + 1) log.next_id_is)
      ∙ born old.births i (suc n) (came p s n (i + 1)) (log.births_are i) ∙ sym (ap (λ (l : List ℕ). slice_get l i) (births_more e))

  origins_same : Goes → IsIdle → (i k : ℕ) → slice_get new.births i ≡ Some k → entry_at (after p s (suc n)).history (slice_get new.origins i) ≡ option_and_then (firing_at p s) (origin p s k)
  origins_same goes e i k is =
      ap (λ (l : List (Option ℕ)). entry_at (after p s (suc n)).history (slice_get l i)) (origins_stay e) ∙ entry_kept goes old.origins log.origins_below i
      ∙ log.origins_are i k (ap (λ (l : List ℕ). slice_get l i) (sym (births_same e)) ∙ is)

  low_there : Goes → entry_at (after p s (suc n)).history (Some (unwrap_or (slice_get old.lows (length (after p s n).stack)) None)) ≡ option_and_then (firing_at p s) (last_no_higher p s (length (after p s n).stack) n)
  low_there goes = by (slice_get old.lows (length (after p s n).stack)) refl
    where
      by : (o : Option (Option ℕ)) → slice_get old.lows (length (after p s n).stack) ≡ o → entry_at (after p s (suc n)).history (Some (unwrap_or o None)) ≡ option_and_then (firing_at p s) (last_no_higher p s (length (after p s n).stack) n)
      by None is = sym (ap (entry_at (after p s n).history) is) ∙ log.lows_are _ (omega arith)
      by (Some v) is = ap (entry_at (after p s (suc n)).history) (sym is) ∙ entry_kept goes old.lows log.lows_below _ ∙ log.lows_are _ (omega arith)

  origins_next : Goes → IsBirth → (i k : ℕ) → slice_get new.births i ≡ Some k → entry_at (after p s (suc n)).history (slice_get new.origins i) ≡ option_and_then (firing_at p s) (origin p s k)
  origins_next goes e i k is = by (apart i (length old.births))
    where
      low : Option ℕ
      low = unwrap_or (slice_get old.lows (length (after p s n).stack)) None

      birth : slice_get (old.births ++ suc n ∷ []) i ≡ Some k
      birth = ap (λ (l : List ℕ). slice_get l i) (sym (births_more e)) ∙ is

      put : entry_at (after p s (suc n)).history (slice_get new.origins i) ≡ entry_at (after p s (suc n)).history (slice_get (old.origins ++ low ∷ []) i)
      put = ap (λ (l : List (Option ℕ)). entry_at (after p s (suc n)).history (slice_get l i)) (origins_more e)

      by : (i < length old.births) ⊎ ((i ≡ length old.births) ⊎ (length old.births < i)) → entry_at (after p s (suc n)).history (slice_get new.origins i) ≡ option_and_then (firing_at p s) (origin p s k)
      by (inl l) =
          put ∙ ap (entry_at (after p s (suc n)).history) (got_front old.origins (low ∷ []) i (omega (arith, l, log.as_many))) ∙ entry_kept goes old.origins log.origins_below i
          ∙ log.origins_are i k (sym (got_front old.births (suc n ∷ []) i l) ∙ birth)
      by (inr (inl l)) =
          let last : Some (suc n) ≡ Some k = sym (got_last old.births (suc n)) ∙ ap (slice_get (old.births ++ suc n ∷ [])) (sym l) ∙ birth in
          let k_is : suc n ≡ k = cc in
          put ∙ ap (λ j. entry_at (after p s (suc n)).history (slice_get (old.origins ++ low ∷ []) j)) (l ∙ sym log.as_many) ∙ ap (entry_at (after p s (suc n)).history) (got_last old.origins low) ∙ low_there goes
          ∙ ap (λ m. option_and_then (firing_at p s) (origin p s m)) k_is
      by (inr (inr l)) =
          let out : length (old.births ++ suc n ∷ []) ≤ i = rw (length-append old.births (suc n ∷ [])) (omega (arith, l)) in
          let none : None ≡ Some k = sym (slice_get_past (old.births ++ suc n ∷ []) i out) ∙ birth in
          cc

  origins_below_same : Goes → IsIdle → AreEntries (length (after p s (suc n)).history) new.origins
  origins_below_same goes e i x is =
      let there : x < length (after p s n).history = log.origins_below i x (ap (λ (l : List (Option ℕ)). slice_get l i) (sym (origins_stay e)) ∙ is) in let m : length (after p s n).history ≤ length (after p s (suc n)).history = goes.longer in omega (arith, there, m)

  origins_below_next : Goes → IsBirth → AreEntries (length (after p s (suc n)).history) new.origins
  origins_below_next goes e i x is = by (apart i (length old.origins))
    where
      low : Option ℕ
      low = unwrap_or (slice_get old.lows (length (after p s n).stack)) None

      there : slice_get (old.origins ++ low ∷ []) i ≡ Some (Some x)
      there = ap (λ (l : List (Option ℕ)). slice_get l i) (sym (origins_more e)) ∙ is

      longer : x < length (after p s n).history → x < length (after p s (suc n)).history
      longer l = let m : length (after p s n).history ≤ length (after p s (suc n)).history = goes.longer in omega (arith, l, m)

      of_low : (o : Option (Option ℕ)) → slice_get old.lows (length (after p s n).stack) ≡ o → Some (unwrap_or o None) ≡ Some (Some x) → slice_get old.lows (length (after p s n).stack) ≡ Some (Some x)
      of_low None e h = cc
      of_low (Some v) e h = e ∙ h

      by : (i < length old.origins) ⊎ ((i ≡ length old.origins) ⊎ (length old.origins < i)) → x < length (after p s (suc n)).history
      by (inl l) = longer (log.origins_below i x (sym (got_front old.origins (low ∷ []) i l) ∙ there))
      by (inr (inl l)) = longer (log.lows_below _ x (of_low _ refl (sym (got_last old.origins low) ∙ ap (slice_get (old.origins ++ low ∷ [])) (sym l) ∙ there)))
      by (inr (inr l)) =
          let out : length (old.origins ++ low ∷ []) ≤ i = rw (length-append old.origins (low ∷ [])) (omega (arith, l)) in
          let none : None ≡ Some (Some x) = sym (slice_get_past (old.origins ++ low ∷ []) i out) ∙ there in
          cc

  many_same : IsIdle → length new.origins ≡ length new.births
  many_same e = rw (births_same e, origins_stay e) log.as_many

  many_next : IsBirth → length new.origins ≡ length new.births
  many_next e = rw (births_more e, origins_more e, length-append old.births (suc n ∷ []), length-append old.origins (unwrap_or (slice_get old.lows (length (after p s n).stack)) None ∷ [])) (ap (λ k. k + 1) log.as_many)

  many_atoms_same : IsIdle → length new.atoms ≡ length new.births
  many_atoms_same e = rw (births_same e, atoms_same e) log.as_many_atoms

  many_atoms_next : IsBirth → length new.atoms ≡ length new.births
  many_atoms_next e = rw (births_more e, atoms_more e, length-append old.births (suc n ∷ []), length-append old.atoms (e.atom ∷ [])) (ap (λ k. k + 1) log.as_many_atoms)

  atoms_stay : IsIdle → (i k : ℕ) → slice_get new.births i ≡ Some k → atom_of (after p s k).store (i + 1) ≡ slice_get new.atoms i
  atoms_stay e i k is = log.atoms_are i k (ap (λ (l : List ℕ). slice_get l i) (sym (births_same e)) ∙ is) ∙ ap (λ (l : List Atom). slice_get l i) (sym (atoms_same e))

  atoms_next : (e : IsBirth) → (i k : ℕ) → slice_get new.births i ≡ Some k → atom_of (after p s k).store (i + 1) ≡ slice_get new.atoms i
  atoms_next e i k is = by (apart i (length old.births))
    where
      birth : slice_get (old.births ++ suc n ∷ []) i ≡ Some k
      birth = ap (λ (l : List ℕ). slice_get l i) (sym (births_more e)) ∙ is

      there : slice_get (old.atoms ++ e.atom ∷ []) i ≡ slice_get new.atoms i
      there = ap (λ (l : List Atom). slice_get l i) (sym (atoms_more e))

      by : (i < length old.births) ⊎ ((i ≡ length old.births) ⊎ (length old.births < i)) → atom_of (after p s k).store (i + 1) ≡ slice_get new.atoms i
      by (inl l) = log.atoms_are i k (sym (got_front old.births (suc n ∷ []) i l) ∙ birth) ∙ sym (got_front old.atoms (e.atom ∷ []) i (omega (arith, l, log.as_many_atoms))) ∙ there
      by (inr (inl l)) =
          let last : Some (suc n) ≡ Some k = sym (got_last old.births (suc n)) ∙ ap (slice_get (old.births ++ suc n ∷ [])) (sym l) ∙ birth in
          let k_is : suc n ≡ k = cc in
          let id : i + 1 ≡ (after p s n).next_id = ap (λ j. j + 1) l ∙ sym log.next_id_is in
          ap (λ m. atom_of (after p s m).store (i + 1)) (sym k_is) ∙ ap (atom_of (after p s (suc n)).store) id ∙ e.is ∙ sym (got_last old.atoms e.atom) ∙ ap (slice_get (old.atoms ++ e.atom ∷ [])) (log.as_many_atoms ∙ sym l) ∙ there
      by (inr (inr l)) =
          let out : length (old.births ++ suc n ∷ []) ≤ i = rw (length-append old.births (suc n ∷ [])) (omega (arith, l)) in
          let none : None ≡ Some k = sym (slice_get_past (old.births ++ suc n ∷ []) i out) ∙ birth in
          cc

  next_same : IsIdle → (after p s (suc n)).next_id ≡ length new.births + 1
  next_same e = rw (births_same e) (e.counted ∙ log.next_id_is)

  next_next : IsBirth → (after p s (suc n)).next_id ≡ length new.births + 1
  next_next e = rw ((births_more e), length-append old.births (suc n ∷ [])) (e.counted ∙ ap (λ k. k + 1) log.next_id_is)

  -- no firing is new
  each_same : (after p s (suc n)).history ≡ (after p s n).history → length new.times ≡ length (after p s (suc n)).history
  each_same e = rw (times_same e, e) log.one_each

  each_more : (f : ℕ × List ℕ) → (after p s (suc n)).history ≡ (after p s n).history ++ f ∷ [] → length new.times ≡ length (after p s (suc n)).history
  each_more f e = rw (times_more f e, e, length-append old.times (suc n ∷ []), length-append (after p s n).history (f ∷ [])) (ap (λ k. k + 1) log.one_each)

  firings_same : (after p s (suc n)).history ≡ (after p s n).history → firings p s (suc n) ≡ timed new.times (after p s (suc n)).history
  firings_same e =
      let none : firing_at p s (suc n) ≡ None = entry ∙ ap (λ (h : History). slice_get h (length (after p s n).history)) e ∙ slice_get_past (after p s n).history _ (omega arith) in
      ap (λ (o : Option (ℕ × List ℕ)). firings p s n ++ option_to_list (option_map (λ (f : ℕ × List ℕ). (suc n, f.0, f.1)) o)) none
      ∙ append-nil (firings p s n) ∙ log.firings_are ∙ sym (λ i. timed (times_same e i) (e i))

  firings_more : (f : ℕ × List ℕ) → (after p s (suc n)).history ≡ (after p s n).history ++ f ∷ [] → firings p s (suc n) ≡ timed new.times (after p s (suc n)).history
  firings_more f e =
      let one : firing_at p s (suc n) ≡ Some f = entry ∙ ap (λ (h : History). slice_get h (length (after p s n).history)) e ∙ got_last (after p s n).history f in
      ap (λ (o : Option (ℕ × List ℕ)). firings p s n ++ option_to_list (option_map (λ (g : ℕ × List ℕ). (suc n, g.0, g.1)) o)) one
      ∙ ap (λ (l : List (ℕ × ℕ × List ℕ)). l ++ (suc n, f.0, f.1) ∷ []) log.firings_are
      ∙ sym (timed_more old.times (after p s n).history (suc n) f log.one_each) ∙ sym (λ i. timed (times_more f e i) (e i))

  times_stay : (h : (after p s (suc n)).history ≡ (after p s n).history) → (e k : ℕ) → slice_get new.times e ≡ Some k → firing_at p s k ≡ slice_get (after p s (suc n)).history e
  times_stay h e k is = log.times_are e k (ap (λ (l : List ℕ). slice_get l e) (sym (times_same h)) ∙ is) ∙ sym (ap (λ (l : History). slice_get l e) h)

  times_next : (f : ℕ × List ℕ) (h : (after p s (suc n)).history ≡ (after p s n).history ++ f ∷ []) → (e k : ℕ) → slice_get new.times e ≡ Some k → firing_at p s k ≡ slice_get (after p s (suc n)).history e
  times_next f h e k is = by (apart e (length old.times))
    where
      there : slice_get (old.times ++ suc n ∷ []) e ≡ Some k
      there = ap (λ (l : List ℕ). slice_get l e) (sym (times_more f h)) ∙ is

      by : (e < length old.times) ⊎ ((e ≡ length old.times) ⊎ (length old.times < e)) → firing_at p s k ≡ slice_get (after p s (suc n)).history e
      by (inl l) = log.times_are e k (sym (got_front old.times (suc n ∷ []) e l) ∙ there) ∙ sym (got_front (after p s n).history (f ∷ []) e (omega (arith, l, log.one_each))) ∙ sym (ap (λ (l : History). slice_get l e) h)
      by (inr (inl l)) =
          let last : Some (suc n) ≡ Some k = sym (got_last old.times (suc n)) ∙ ap (slice_get (old.times ++ suc n ∷ [])) (sym l) ∙ there in
          let k_is : suc n ≡ k = cc in
          ap (firing_at p s) (sym k_is) ∙ entry ∙ ap (slice_get (after p s (suc n)).history) (sym log.one_each ∙ sym l)
      by (inr (inr l)) =
          let out : length (old.times ++ suc n ∷ []) ≤ e = rw (length-append old.times (suc n ∷ [])) (omega (arith, l)) in
          let none : None ≡ Some k = sym (slice_get_past (old.times ++ suc n ∷ []) e out) ∙ there in
          cc

  gone_more : (i : ℕ) → gone p s (suc n) i ≡ earlier (gone p s n i) (cond (has_gone i (after p s (suc n))) (Some (suc n)) None)
  gone_more i = first_more p (has_gone i) s n

  -- the same removals, where nothing that had not gone before goes
  gone_same : (after p s (suc n)).history ≡ (after p s n).history → (i : ℕ) → (has_gone (i + 1) (after p s n) ≡ false → has_gone (i + 1) (after p s (suc n)) ≡ false)
      → gone p s (suc n) (i + 1) ≡ removal p new.times (after p s (suc n)).history (i + 1)
  gone_same e i stays =
      gone_more (i + 1) ∙ by (gone p s n (i + 1)) refl ∙ log.gone_are i ∙ sym (λ j. removal p (times_same e j) (e j) (i + 1))
    where
      by : (o : Option ℕ) → gone p s n (i + 1) ≡ o → earlier o (cond (has_gone (i + 1) (after p s (suc n))) (Some (suc n)) None) ≡ gone p s n (i + 1)
      by (Some k) is = sym is
      by None is = rw (stays (first_none p (has_gone (i + 1)) s n is)) (sym is)

  gone_next : (h : Fires p (after p s n) (after p s (suc n))) → IsSound (after p s n) → (i : ℕ) → gone p s (suc n) (i + 1) ≡ removal p new.times (after p s (suc n)).history (i + 1)
  gone_next h sound i =
      gone_more (i + 1) ∙ by (gone p s n (i + 1)) refl
      ∙ ap (λ (o : Option ℕ). earlier o (removes_of (slice_get p h.number) h.ids (i + 1) (Some (suc n)) None)) (log.gone_are i)
      ∙ sym (removal_more p old.times (after p s n).history (suc n) (h.number, h.ids) (i + 1) log.one_each)
      ∙ sym (λ j. removal p (times_more (h.number, h.ids) h.entered j) (h.entered j) (i + 1))
    where
      by : (o : Option ℕ) → gone p s n (i + 1) ≡ o → earlier o (cond (has_gone (i + 1) (after p s (suc n))) (Some (suc n)) None) ≡ earlier (gone p s n (i + 1)) (removes_of (slice_get p h.number) h.ids (i + 1) (Some (suc n)) None)
      by (Some k) is = rw is refl
      by None is = rw (is, fired p (after p s n) (after p s (suc n)) (i + 1) h sound (first_none p (has_gone (i + 1)) s n is), h.is_its_rule) refl

  long : length new.lows ≡ length (after p s (suc n)).stack + 1
  long = noted.lows_are.long

  not_there : IsSound (after p s n) → is_some (atom_of (after p s n).store (after p s n).next_id) ≡ false
  not_there sound = by (is_some (atom_of (after p s n).store (after p s n).next_id)) refl
    where
      by : (b : Bool) → is_some (atom_of (after p s n).store (after p s n).next_id) ≡ b → b ≡ false
      by true e = let below : (after p s n).next_id < (after p s n).next_id = there_below 0 (after p s n).next_id (after p s n).next_id (after p s n).store sound.ascends e in absurd (omega (arith, below))
      by false e = refl

  no_one : (o : Option Atom) → is_some o ≡ false → o ≡ None
  no_one None e = refl
  no_one (Some a) e = absurd (true≢false e)

  some_one : (o : Option Atom) → is_some o ≡ true → (a : Atom) × (o ≡ Some a)
  some_one None e = absurd (true≢false (sym e))
  some_one (Some a) e = (a, refl)

  idle_still : IsSound (after p s n) → Stays (after p s n) (after p s (suc n)) → IsIdle
  idle_still sound h = record { counted = h.counted; none = no_one _ (ap (λ (xs : List Row). is_some (atom_of xs (after p s n).next_id)) h.stored ∙ not_there sound) }

  idle_fired : IsSound (after p s n) → Fires p (after p s n) (after p s (suc n)) → IsIdle
  idle_fired sound h = record {
    counted = h.counted;
    none = no_one _ (ap (λ (xs : List Row). is_some (atom_of xs (after p s n).next_id)) h.stored ∙ there_kept (has_number (drop h.rule.kept h.ids)) (after p s n).store (after p s n).next_id ∙ rw (not_there sound) refl);
  }

  birth : Brings (after p s n) (after p s (suc n)) → IsBirth
  birth h =
      let there : is_some (brought (after p s n) (after p s (suc n))) ≡ true =
      ap (λ (xs : List Row). is_some (atom_of xs (after p s n).next_id)) h.stored ∙ there_pushed (after p s n).store ((after p s n).next_id, h.brought) (after p s n).next_id
      ∙ ap (λ b. is_some (atom_of (after p s n).store (after p s n).next_id) || b) (itself (after p s n).next_id) ∙ or_true _
      in
      let one = some_one _ there in
      record { counted = h.counted; atom = one.0; is = one.1 }
    where
      or_true : (b : Bool) → (b || true) ≡ true
      or_true true = refl
      or_true false = refl

  noted_step : IsSound (after p s n) → Alters p (after p s n) (after p s (suc n)) → IsLog p s (suc n) new
  noted_step sound (inl h) = record {
    next_id_is = next_same (idle_still sound h);
    births_are = came_same (idle_still sound h);
    atoms_are = atoms_stay (idle_still sound h);
    as_many_atoms = many_atoms_same (idle_still sound h);
    as_many = many_same (idle_still sound h);
    origins_are = origins_same (goes_same h.entered) (idle_still sound h);
    origins_below = origins_below_same (goes_same h.entered) (idle_still sound h);
    one_each = each_same h.entered;
    times_are = times_stay h.entered;
    firings_are = firings_same h.entered;
    gone_are = λ i. gone_same h.entered i (λ e. gone_not (after p s n) (after p s (suc n)) (i + 1) h ∙ e);
    lows_long = long;
    lows_are = lows (goes_same h.entered);
    lows_below = lows_below (goes_same h.entered);
  }
  noted_step sound (inr (inl h)) = record {
    next_id_is = next_next (birth h);
    births_are = came_next (birth h);
    atoms_are = atoms_next (birth h);
    as_many_atoms = many_atoms_next (birth h);
    as_many = many_next (birth h);
    origins_are = origins_next (goes_same h.entered) (birth h);
    origins_below = origins_below_next (goes_same h.entered) (birth h);
    one_each = each_same h.entered;
    times_are = times_stay h.entered;
    firings_are = firings_same h.entered;
    gone_are = λ i. gone_same h.entered i (still_there (after p s n) (after p s (suc n)) (i + 1) h);
    lows_long = long;
    lows_are = lows (goes_same h.entered);
    lows_below = lows_below (goes_same h.entered);
  }
  noted_step sound (inr (inr h)) = record {
    next_id_is = next_same (idle_fired sound h);
    births_are = came_same (idle_fired sound h);
    atoms_are = atoms_stay (idle_fired sound h);
    as_many_atoms = many_atoms_same (idle_fired sound h);
    as_many = many_same (idle_fired sound h);
    origins_are = origins_same (goes_more (h.number, h.ids) h.entered) (idle_fired sound h);
    origins_below = origins_below_same (goes_more (h.number, h.ids) h.entered) (idle_fired sound h);
    one_each = each_more (h.number, h.ids) h.entered;
    times_are = times_next (h.number, h.ids) h.entered;
    firings_are = firings_more (h.number, h.ids) h.entered;
    gone_are = gone_next h sound;
    lows_long = long;
    lows_are = lows (goes_more (h.number, h.ids) h.entered);
    lows_below = lows_below (goes_more (h.number, h.ids) h.entered);
  }

pub goes_on : (p : Program) (s : State) (n : ℕ) (old new : LogModel) → IsSound (after p s n) → IsLog p s n old → IsNoted (n + 1) (brought (after p s n) (step p (after p s n))) (sight (after p s n)) (sight (step p (after p s n))) old new → IsLog p s (n + 1) new
goes_on p s n old new sound log noted =
    let same : (after p s (suc n)) ≡ step p (after p s n) = after-suc p s n in
    let noted_so : IsNoted (suc n) (brought (after p s n) (after p s (suc n))) (sight (after p s n)) (sight (after p s (suc n))) old new = subst (λ t. IsNoted (suc n) (brought (after p s n) t) (sight (after p s n)) (sight t) old new) (sym same) (subst (λ k. IsNoted k (brought (after p s n) (step p (after p s n))) (sight (after p s n)) (sight (step p (after p s n))) old new) (add-one n) noted) in
    subst (λ k. IsLog p s k new) (sym (add-one n)) (noted_step p s n old new log noted_so sound (subst (Alters p (after p s n)) (sym same) (alters p (after p s n))))

pub begins : (p : Program) (s : State) (log : LogModel) → s.next_id ≡ 1 → s.history ≡ [] → IsFirst (length s.stack) log → IsLog p s 0 log
begins p s log first nothing f = record {
  next_id_is = rw f.births_are first;
  births_are = λ i. rw (first, not_below (i + 1) 1 (omega arith), f.births_are) refl;
  atoms_are = λ i k e. let none : None ≡ Some k = rw f.births_are at e in cc;
  as_many_atoms = rw (f.atoms_are, f.births_are) refl;
  as_many = rw (f.origins_are, f.births_are) refl;
  origins_are = λ i k e. let none : None ≡ Some k = rw f.births_are at e in cc;
  origins_below = λ i e is. let none : None ≡ Some (Some e) = rw f.origins_are at is in cc;
  one_each = rw (nothing, f.times_are) refl;
  times_are = λ e k is. let none : None ≡ Some k = rw f.times_are at is in cc;
  firings_are = rw f.times_are refl;
  gone_are = λ i. rw (first, not_below (i + 1) 1 (omega arith), f.times_are) refl;
  lows_long = f.lows_are.long;
  lows_are = λ h within. ap (entry_at s.history) (f.lows_are.raised h (omega arith) within);
  lows_below = none_below;
}
  where
    none_below : AreEntries (length s.history) log.lows
    none_below h e is = by (apart h (length s.stack))
      where
        none : h ≤ length s.stack → e < length s.history
        none within = let there : Some None ≡ Some (Some e) = sym (f.lows_are.raised h (omega arith) within) ∙ is in cc

        by : (h < length s.stack) ⊎ ((h ≡ length s.stack) ⊎ (length s.stack < h)) → e < length s.history
        by (inl l) = none (omega (arith, l))
        by (inr (inl k)) = none (omega (arith, k))
        by (inr (inr l)) = let out : None ≡ Some (Some e) = sym (slice_get_past log.lows h (omega (arith, l, f.lows_are.long))) ∙ is in cc
