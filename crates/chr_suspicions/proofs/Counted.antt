-- How often words were met, with one word more.
use Rattle.std.proofs.Common.{◌≡◌, ◌∙◌, ◌<◌, ◌+◌, ◌++◌, ◌∷◌, ◌==◌, [], Bool, List, add-one, ap, arith, bytes_eq, cond, drop, drop-cons, false, filter, get_or, length, min, not, refl, set, suc, sym, take, true, zero, ◌&&◌, ℕ}
use Rattle.std.proofs.lemmas.Slice.Eq.{bytes_eq-Decides}
use Rattle.std.specs.Borrow.{Bor}
use Rattle.chr_semantics.specs.Suspicion.{is_anonymous}
use Rattle.chr_suspicions.specs.Counts.{AreCounted, IsAgain, is_lone, one_more, times}
use Rattle.chr_suspicions.specs.declared.variables.Met.{Met}

-- another word is known, and the others do not know this one
unknown : (m : Met) (ms : List Met) (w : List ℕ) → times (m ∷ ms) w ≡ 0 → (bytes_eq w m.word.now ≡ false) × (times ms w ≡ 0)
unknown m ms w h = by (bytes_eq w m.word.now) m.again refl h
  where
    by : (b a : Bool) → bytes_eq w m.word.now ≡ b → cond b (cond a 2 1) (times ms w) ≡ 0 → (bytes_eq w m.word.now ≡ false) × (times ms w ≡ 0)
    by true true e h = absurd (omega (arith, h))
    by true false e h = absurd (omega (arith, h))
    by false a e h = (e, h)

-- a word that is another one
other : (w v u : List ℕ) → bytes_eq v u ≡ false → bytes_eq w u ≡ true → bytes_eq w v ≡ false
other w v u e h = by (bytes_eq w v) refl
  where
    by : (b : Bool) → bytes_eq w v ≡ b → b ≡ false
    by true same =
        let is : w ≡ v = (bytes_eq-Decides w v).0 same in
        let so : bytes_eq v u ≡ true = ap (λ x. bytes_eq x u) (sym is) ∙ h in
        cc
    by false same = refl

twice : (b a : Bool) (t : ℕ) → cond b 2 t ≡ one_more b (cond b (cond a 2 1) t)
twice true true t = refl
twice true false t = refl
twice false a t = refl

further : (b is a : Bool) (t u : ℕ) → (b ≡ true → is ≡ false) → u ≡ one_more is t → cond b (cond a 2 1) u ≡ one_more is (cond b (cond a 2 1) t)
further true is a t u differ h = rw (differ refl) refl
further false is a t u differ h = h

-- the word at the place is met once more
pub again_at : (ms : List Met) (i : ℕ) (d : Met) (word : List ℕ) → i < length ms → word ≡ (get_or ms i d).word.now → times (take i ms) word ≡ 0 → IsAgain word ms (set ms i (record { word = (get_or ms i d).word; again = true }))
again_at [] i d word lt is none w = absurd (omega (arith, lt))
again_at (x ∷ ms) zero d word lt is none w = rw is (twice (bytes_eq w x.word.now) x.again (times ms w))
again_at (x ∷ ms) (suc i) d word lt is none w =
    let first = unknown x (take i ms) word none in
    further (bytes_eq w x.word.now) (bytes_eq w word) x.again (times ms w) _ (other w word x.word.now first.0) (again_at ms i d word (omega (arith, lt)) is first.1 w)

-- a word that was not met is met once
pub once_at_the_end : (ms : List Met) (word : Bor (List ℕ)) → times ms word.now ≡ 0 → IsAgain word.now ms (ms ++ record { word = word; again = false } ∷ [])
once_at_the_end [] word none w = by (bytes_eq w word.now)
  where
    by : (b : Bool) → cond b 1 0 ≡ one_more b 0
    by true = refl
    by false = refl
once_at_the_end (x ∷ ms) word none w =
    let first = unknown x ms word.now none in
    further (bytes_eq w x.word.now) (bytes_eq w word.now) x.again (times ms w) _ (other w word.now x.word.now first.0) (once_at_the_end ms word first.1 w)

one_longer : (p : List ℕ → Bool) (ws : List (List ℕ)) (w : List ℕ) → length (filter p (ws ++ w ∷ [])) ≡ length (filter p ws) + cond (p w) 1 0
one_longer p [] w = by (p w)
  where
    by : (b : Bool) → length (cond b (w ∷ []) []) ≡ 0 + cond b 1 0
    by true = refl
    by false = refl
one_longer p (v ∷ ws) w = by (p v) (one_longer p ws w)
  where
    by : (b : Bool) → length (filter p (ws ++ w ∷ [])) ≡ length (filter p ws) + cond (p w) 1 0 → length (cond b (v ∷ filter p (ws ++ w ∷ [])) (filter p (ws ++ w ∷ []))) ≡ length (cond b (v ∷ filter p ws) (filter p ws)) + cond (p w) 1 0
    by true h = omega (arith, h)
    by false h = h

one_more_of_few : (b : Bool) (n : ℕ) → one_more b (min n 2) ≡ min (n + cond b 1 0) 2
one_more_of_few true n = by (min n 2 == 0) refl
  where
    by : (z : Bool) → (min n 2 == 0) ≡ z → cond z 1 2 ≡ min (n + 1) 2
    by true e = grind arith
    by false e = grind arith
one_more_of_few false n = grind arith

-- the words, and one more
pub counted : (old new : List Met) (words : List (List ℕ)) (word : List ℕ) → AreCounted old words → IsAgain word old new → AreCounted new (words ++ word ∷ [])
counted old new words word are again w =
    again w ∙ ap (one_more (bytes_eq w word)) (are w) ∙ one_more_of_few (bytes_eq w word) (length (filter (bytes_eq w) words)) ∙ ap (λ n. min n 2) (sym (one_longer (bytes_eq w) words word))

one_of_few : (n : ℕ) → (min n 2 == 1) ≡ (n == 1)
one_of_few n = grind arith

-- the words that were met once are those that stand once
pub lone_of_counted : (met : List Met) (words ws : List (List ℕ)) → AreCounted met words → filter (is_lone met) ws ≡ filter (λ w. not (is_anonymous w) && length (filter (bytes_eq w) words) == 1) ws
lone_of_counted met words [] are = refl
lone_of_counted met words (w ∷ ws) are =
    let same : is_lone met w ≡ (not (is_anonymous w) && length (filter (bytes_eq w) words) == 1) = ap (λ n. not (is_anonymous w) && n == 1) (are w) ∙ ap (λ b. not (is_anonymous w) && b) (one_of_few (length (filter (bytes_eq w) words))) in
    let rest = lone_of_counted met words ws are in
    rw (same, rest) refl

-- the first known word is the one, or another one
pub first_is : (ms : List Met) (i : ℕ) (d : Met) (word : List ℕ) → i < length ms → true ≡ bytes_eq word (get_or ms i d).word.now → not (get_or ms i d).again ≡ (times (drop i ms) word == 1)
first_is ms i d word lt is = rw (drop-cons ms i d lt, ← is) (by (get_or ms i d).again)
  where
    by : (a : Bool) → not a ≡ (cond a 2 1 == 1)
    by true = refl
    by false = refl

pub first_differs : (ms : List Met) (i : ℕ) (d : Met) (word : List ℕ) → i < length ms → false ≡ bytes_eq word (get_or ms i d).word.now → times (drop i ms) word ≡ times (drop (i + 1) ms) word
first_differs ms i d word lt is = rw (add-one i, drop-cons ms i d lt, ← is) refl

pub not_among : (ms : List Met) (i : ℕ) (d : Met) (word : List ℕ) → i < length ms → false ≡ bytes_eq word (get_or ms i d).word.now → times (take i ms) word ≡ 0 → times (take (i + 1) ms) word ≡ 0
not_among [] i d word lt is none = absurd (omega (arith, lt))
not_among (x ∷ ms) zero d word lt is none = rw (← is) refl
not_among (x ∷ ms) (suc i) d word lt is none =
    let first = unknown x (take i ms) word none in
    let rest : times (take (i + 1) ms) word ≡ 0 = not_among ms i d word (omega (arith, lt)) is first.1 in
    ap (λ n. times (take n (x ∷ ms)) word) (add-one (suc i)) ∙ ap (λ b. cond b (cond x.again 2 1) (times (take (suc i) ms) word)) first.0 ∙ ap (λ n. times (take n ms) word) (sym (add-one i)) ∙ rest
