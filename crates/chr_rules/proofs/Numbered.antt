-- The numbers of words, with one word more.
use Rattle.std.proofs.Common.{◌≡◌, ◌∙◌, ◌<◌, ◌+◌, ℕ, suc, List, [], ◌∷◌, ◌++◌, Bool, true, false, not, cond, if◌then◌else◌, String, Option, Some, None, length, refl, ap, sym, arith, nat_lt, bytes_eq, position, option_map, get_or, take, string_bytes}
use Rattle.std.specs.List.{position_or_len}
use Rattle.std.specs.Option.{option_or}
use Rattle.std.specs.Map.{lookup}
use Rattle.std.specs.Borrow.{Bor}
use Rattle.std.proofs.lemmas.Grind.{common_steps}
use Rattle.std.proofs.lemmas.Slice.Eq.{bytes_eq-Decides}
use Rattle.chr_semantics.specs.Meaning.{is_anonymous, variable_of}
use Rattle.chr_term.specs.Texts.{texts_of}
use Rattle.chr_rules.specs.Words.{words_of}

-- a word more, in memory of its own
pub words_pushed : {A : Type 0} (xs : List (String A)) (ws : List (Bor (List ℕ))) (x : String A) (k : ℕ) (d : Bor (List ℕ)) → texts_of xs ≡ words_of (take k ws) → k < length ws → string_bytes x ≡ (get_or ws k d).now
    → texts_of (xs ++ x ∷ []) ≡ words_of (take (k + 1) ws)
words_pushed xs ws x k d h lt e = grind (arith, common_steps)

pub words_appended : (ws : List (Bor (List ℕ))) (w : Bor (List ℕ)) → words_of (ws ++ w ∷ []) ≡ words_of ws ++ w.now ∷ []
words_appended [] w = refl
words_appended (v ∷ ws) w = ap (λ xs. v.now ∷ xs) (words_appended ws w)

-- the first place at which a test passes, by recursion
abbrev first_at : {X : Type 0} → (X → Bool) → List X → Option ℕ
first_at p [] = None
first_at p (x ∷ xs) = cond (p x) (Some 0) (option_map suc (first_at p xs))

further : (b : Bool) (m n : ℕ) (o : Option ℕ) → cond (nat_lt m n) (Some m) None ≡ o → cond (nat_lt (cond (not b) (1 + m) 0) (suc n)) (Some (cond (not b) (1 + m) 0)) None ≡ cond b (Some 0) (option_map suc o)
further true m n o h = let e : nat_lt 0 (suc n) ≡ true = grind arith in ap (λ b. cond {A = Option ℕ} b (Some 0) None) e
further false m n o h = by (nat_lt m n) (nat_lt (1 + m) (suc n)) (grind arith) o h
  where
    by : (b c : Bool) → c ≡ b → (o : Option ℕ) → cond b (Some m) None ≡ o → cond c (Some (1 + m)) None ≡ option_map suc o
    by true c e o h = let one_more : 1 + m ≡ suc m = omega arith in rw (e, ← h) (ap Some one_more)
    by false c e o h = rw (e, ← h) refl

first_is : {X : Type 0} (p : X → Bool) (xs : List X) → position p xs ≡ first_at p xs
first_is p [] = nowhere
  where
    nowhere : cond {A = Option ℕ} (nat_lt 0 0) (Some 0) None ≡ None
    nowhere = let e : nat_lt 0 0 ≡ false = grind arith in ap (λ b. cond {A = Option ℕ} b (Some 0) None) e
first_is p (x ∷ xs) = further (p x) (position_or_len p xs) (length xs) (first_at p xs) (first_is p xs)

abbrev one : Bool → ℕ → Option ℕ
one b n = if b then Some n else None

mapped_or : (o : Option ℕ) (b : Bool) (n : ℕ) → option_map suc (option_or o (one b n)) ≡ option_or (option_map suc o) (one b (suc n))
mapped_or None true n = refl
mapped_or None false n = refl
mapped_or (Some x) b n = refl

step : (b c : Bool) (o q : Option ℕ) (n : ℕ) → q ≡ option_or o (one c n) → cond b (Some 0) (option_map suc q) ≡ option_or (cond b (Some 0) (option_map suc o)) (one c (suc n))
step true c o q n h = refl
step false c o q n h = ap (option_map suc) h ∙ mapped_or o c n

first_pushed : {X : Type 0} (p : X → Bool) (xs : List X) (y : X) → first_at p (xs ++ y ∷ []) ≡ option_or (first_at p xs) (one (p y) (length xs))
first_pushed p [] y = by (p y)
  where
    by : (b : Bool) → cond b (Some 0) None ≡ one b 0
    by true = refl
    by false = refl
first_pushed p (x ∷ xs) y = step (p x) (p y) (first_at p xs) (first_at p (xs ++ y ∷ [])) (length xs) (first_pushed p xs y)

position_pushed : {X : Type 0} (p : X → Bool) (xs : List X) (y : X) → position p (xs ++ y ∷ []) ≡ option_or (position p xs) (one (p y) (length xs))
position_pushed p xs y = first_is p (xs ++ y ∷ []) ∙ first_pushed p xs y ∙ ap (λ o. option_or o (one (p y) (length xs))) (sym (first_is p xs))

lookup_pushed : {K : Type 0} (test : K → Bool) (es : List (K × ℕ)) (k : K) (v : ℕ) → lookup test (es ++ (k, v) ∷ []) ≡ option_or (lookup test es) (one (test k) v)
lookup_pushed test [] k v = by (test k)
  where
    by : (b : Bool) → cond b (Some v) None ≡ one b v
    by true = refl
    by false = refl
lookup_pushed test (e ∷ es) k v = by (test e.0) (lookup test es) (lookup test (es ++ (k, v) ∷ [])) (lookup_pushed test es k v)
  where
    by : (b : Bool) (o q : Option ℕ) → q ≡ option_or o (one (test k) v) → cond b (Some e.1) q ≡ option_or (cond b (Some e.1) o) (one (test k) v)
    by true o q h = refl
    by false o q h = h

-- `_` has no number, and any other word that of its place
no_number : (ws : List (List ℕ)) (w : List ℕ) → is_anonymous w ≡ true → variable_of ws w ≡ None
no_number ws w e = ap (λ b. if b then None else position (bytes_eq w) ws) e

its_place : (ws : List (List ℕ)) (w : List ℕ) → is_anonymous w ≡ false → variable_of ws w ≡ position (bytes_eq w) ws
its_place ws w e = ap (λ b. if b then None else position (bytes_eq w) ws) e

different : (w a : List ℕ) (b : Bool) → is_anonymous w ≡ not b → is_anonymous a ≡ b → bytes_eq w a ≡ false
different w a b h i = by (bytes_eq w a) refl
  where
    by : (c : Bool) → bytes_eq w a ≡ c → c ≡ false
    by true e = let same = (bytes_eq-Decides w a).0 e in absurd (clash b (sym h ∙ ap is_anonymous same ∙ i))
      where
        clash : (b : Bool) → not b ≡ b → ⊥
        clash true e = cc
        clash false e = cc
    by false e = refl

or_none : (o : Option ℕ) → option_or o None ≡ o
or_none None = refl
or_none (Some x) = refl

-- `_` changes no number
pub anonymous_changes_nothing : (ws : List (List ℕ)) (a w : List ℕ) → is_anonymous a ≡ true → variable_of ws w ≡ variable_of (ws ++ a ∷ []) w
anonymous_changes_nothing ws a w h = by (is_anonymous w) refl
  where
    by : (b : Bool) → is_anonymous w ≡ b → variable_of ws w ≡ variable_of (ws ++ a ∷ []) w
    by true e = no_number ws w e ∙ sym (no_number (ws ++ a ∷ []) w e)
    by false e = its_place ws w e
        ∙ sym (or_none (position (bytes_eq w) ws))
        ∙ ap (λ c. option_or (position (bytes_eq w) ws) (one c (length ws))) (sym (different w a true e h))
        ∙ sym (position_pushed (bytes_eq w) ws a)
        ∙ sym (its_place (ws ++ a ∷ []) w e)

-- any other word gets the next number
pub word_numbered : (ws : List (List ℕ)) (a w : List ℕ) (es : List (Bor (List ℕ) × ℕ)) (k : Bor (List ℕ)) (v : ℕ) → k.now ≡ a → v ≡ length ws → is_anonymous a ≡ false → lookup (λ q. bytes_eq w q.now) es ≡ variable_of ws w
    → lookup (λ q. bytes_eq w q.now) (es ++ (k, v) ∷ []) ≡ variable_of (ws ++ a ∷ []) w
word_numbered ws a w es k v is at h found = lookup_pushed (λ q. bytes_eq w q.now) es k v ∙ by (is_anonymous w) refl
  where
    by : (b : Bool) → is_anonymous w ≡ b → option_or (lookup (λ q. bytes_eq w q.now) es) (one (bytes_eq w k.now) v) ≡ variable_of (ws ++ a ∷ []) w
    by true e = ap (λ o. option_or o (one (bytes_eq w k.now) v)) (found ∙ no_number ws w e)
        ∙ ap (λ c. one c v) (ap (bytes_eq w) is ∙ different w a false e h)
        ∙ sym (no_number (ws ++ a ∷ []) w e)
    by false e = ap (λ o. option_or o (one (bytes_eq w k.now) v)) (found ∙ its_place ws w e)
        ∙ ap (λ x. option_or (position (bytes_eq w) ws) (one (bytes_eq w x) v)) is
        ∙ ap (λ n. option_or (position (bytes_eq w) ws) (one (bytes_eq w a) n)) at
        ∙ sym (position_pushed (bytes_eq w) ws a)
        ∙ sym (its_place (ws ++ a ∷ []) w e)
