-- Steps of the limited automaton that the reader takes at once.
use Rattle.std.proofs.Common.{◌≡◌, ℕ, ◌<◌, List, [], ◌∷◌, ◌++◌, Option, None, true, false, refl, ap}
use Rattle.std.specs.Str.{encode_utf8_all}
use Rattle.std.specs.Prelude.{nat_lt}
use Rattle.std.proofs.lemmas.Bool.{lt-ltb}
use Rattle.chr_semantics.specs.Tokens.{Place, Additive, Relation, opens, closes, closes_list, comma, bar, hash, additive, multiplicative, relation, sign, Placed, at}
use Rattle.chr_semantics.specs.Syntax.{Expr, call, exprs_of, Item, plain, related, Head, Program}
use Rattle.chr_semantics.specs.declared.limits.TheConstants.{MAX_OPEN_BRACKETS}
use Rattle.chr_read.specs.Automaton as m
use Rattle.chr_read.specs.Automaton.{Prefix, Frame, tail, Section, State, Container, hashed, marked, section_with_head, Verdict, of_call, of_list, elements, paren, want, named, listed, have, no_prefix, state_after_primary, expected, too_deep, bracket_step, step_verdict, run, limited_room, depth, elements_step}
use Rattle.chr_read.specs.Reads.{Lacks, NoAdditive, NoMultiplicative, NoRelation, Slot, in_body, in_guarded, in_query, slot_section, Side, in_heads, in_behind, side_section, elements_verdict, item_verdict, items_verdict}

-- a bracket is opened where there is room, and is too deep where there is none
pub opened_at : (k : List Frame) (s : State) (t : Placed) (ts : List Placed) → depth k < MAX_OPEN_BRACKETS → step_verdict (bracket_step (limited_room k) s) (t ∷ ts) (λ s'. run limited_room s' ts) ≡ run limited_room s ts
opened_at k s t ts h = rw lt-ltb refl

not_less : (n : ℕ) → n ≡ MAX_OPEN_BRACKETS → nat_lt n MAX_OPEN_BRACKETS ≡ false
not_less n e = rw e refl

pub deep_at : (k : List Frame) (s : State) (t : Placed) (ts : List Placed) → depth k ≡ MAX_OPEN_BRACKETS → step_verdict (bracket_step (limited_room k) s) (t ∷ ts) (λ s'. run limited_room s' ts) ≡ too_deep (t ∷ ts)
deep_at k s t ts h = ap (λ b. step_verdict (bracket_step b s) (t ∷ ts) (λ s'. run limited_room s' ts)) (not_less (depth k) h)

pub named_alone : (w : List ℕ) (b : Prefix) (k : List Frame) (ts : List Placed) → Lacks opens ts → run limited_room (named w b k) ts ≡ run limited_room (state_after_primary b (call (encode_utf8_all w) (exprs_of [])) k) ts
named_alone w b k [] h = refl
named_alone w b k (at p (sign opens) ∷ ts) h = absurd (h refl)
named_alone w b k (at p t ∷ ts) h = refl

pub listed_begins : (b : Prefix) (k : List Frame) (ts : List Placed) → Lacks closes_list ts → run limited_room (listed b k) ts ≡ run limited_room (want no_prefix (elements of_list [] b ∷ k)) ts
listed_begins b k [] h = refl
listed_begins b k (at p (sign closes_list) ∷ ts) h = absurd (h refl)
listed_begins b k (at p t ∷ ts) h = refl

-- a product that no operator goes on with belongs to the sum before it
pub sum_settles : (s : Option (Expr × Additive)) (e : Expr) (k : List Frame) (ts : List Placed) → NoMultiplicative ts → run limited_room (have s e k) ts ≡ run limited_room (have None (m.sum_with s e) k) ts
sum_settles s e k [] h = refl
sum_settles s e k (at p (multiplicative o) ∷ ts) h = absurd h
sum_settles s e k (at p (additive o) ∷ ts) h = refl
sum_settles s e k (at p t ∷ ts) h = refl

-- an element that no operator goes on with is closed by what comes
pub elements_close : (q : Container) (front : List Expr) (e : Expr) (b : Prefix) (k : List Frame) (ts : List Placed) → NoAdditive ts → NoMultiplicative ts → run limited_room (have None e (elements q front b ∷ k)) ts ≡ elements_verdict q (front ++ e ∷ []) b k ts
elements_close q front e b k [] h i = refl
elements_close q front e b k (at p (additive o) ∷ ts) h i = absurd h
elements_close q front e b k (at p (multiplicative o) ∷ ts) h i = absurd i
elements_close q front e b k (at p t ∷ ts) h i = refl

-- an expression in parentheses, or at the end of a list, is followed by its bracket
pub paren_refuses : (e : Expr) (b : Prefix) (k : List Frame) (ts : List Placed) → NoAdditive ts → NoMultiplicative ts → Lacks closes ts → run limited_room (have None e (paren b ∷ k)) ts ≡ expected ts
paren_refuses e b k [] h i c = refl
paren_refuses e b k (at p (additive o) ∷ ts) h i c = absurd h
paren_refuses e b k (at p (multiplicative o) ∷ ts) h i c = absurd i
paren_refuses e b k (at p (sign closes) ∷ ts) h i c = absurd (c refl)
paren_refuses e b k (at p t ∷ ts) h i c = refl

pub tail_refuses : (e : Expr) (es : List Expr) (b : Prefix) (k : List Frame) (ts : List Placed) → NoAdditive ts → NoMultiplicative ts → Lacks closes_list ts → run limited_room (have None e (tail es b ∷ k)) ts ≡ expected ts
tail_refuses e es b k [] h i c = refl
tail_refuses e es b k (at p (additive o) ∷ ts) h i c = absurd h
tail_refuses e es b k (at p (multiplicative o) ∷ ts) h i c = absurd i
tail_refuses e es b k (at p (sign closes_list) ∷ ts) h i c = absurd (c refl)
tail_refuses e es b k (at p t ∷ ts) h i c = refl

-- the elements of a list, or the arguments of a call, are followed by a comma, a bar or their bracket
pub list_refuses : (es : List Expr) (b : Prefix) (k : List Frame) (ts : List Placed) → Lacks comma ts → Lacks closes_list ts → Lacks bar ts → elements_verdict of_list es b k ts ≡ expected ts
list_refuses es b k [] c l r = refl
list_refuses es b k (at p (sign comma) ∷ ts) c l r = absurd (c refl)
list_refuses es b k (at p (sign closes_list) ∷ ts) c l r = absurd (l refl)
list_refuses es b k (at p (sign bar) ∷ ts) c l r = absurd (r refl)
list_refuses es b k (at p t ∷ ts) c l r = refl

pub call_refuses : (w : List ℕ) (es : List Expr) (b : Prefix) (k : List Frame) (ts : List Placed) → Lacks comma ts → Lacks closes ts → elements_verdict (of_call w) es b k ts ≡ expected ts
call_refuses w es b k [] c l = refl
call_refuses w es b k (at p (sign comma) ∷ ts) c l = absurd (c refl)
call_refuses w es b k (at p (sign closes) ∷ ts) c l = absurd (l refl)
call_refuses w es b k (at p t ∷ ts) c l = refl

pub ruleset steps = (opened_at, deep_at, named_alone, listed_begins, sum_settles, elements_close)

-- an expression that no operator goes on with is an item, and one that no relation goes on with is all of it
pub item_closes : (q : Section) (ps : Program) (e : Expr) (ts : List Placed) → NoAdditive ts → NoMultiplicative ts → NoRelation ts → run limited_room (have None e (m.item q ps ∷ [])) ts ≡ item_verdict q ps (plain e) ts
item_closes q ps e [] h i j = refl
item_closes q ps e (at p (additive o) ∷ ts) h i j = absurd h
item_closes q ps e (at p (multiplicative o) ∷ ts) h i j = absurd i
item_closes q ps e (at p (relation r) ∷ ts) h i j = absurd j
item_closes q ps e (at p t ∷ ts) h i j = refl

pub right_closes : (q : Section) (ps : Program) (r : Relation) (d e : Expr) (ts : List Placed) → NoAdditive ts → NoMultiplicative ts → run limited_room (have None e (m.right q ps r d ∷ [])) ts ≡ item_verdict q ps (related r d e) ts
right_closes q ps r d e [] h i = refl
right_closes q ps r d e (at p (additive o) ∷ ts) h i = absurd h
right_closes q ps r d e (at p (multiplicative o) ∷ ts) h i = absurd i
right_closes q ps r d e (at p t ∷ ts) h i = refl

pub ruleset item_steps = (item_closes, right_closes)

-- an item goes to the others of its section
pub slot_closes : (f : Slot) (is : List Item) (ps : Program) (i : Item) (ts : List Placed) → item_verdict (slot_section f is) ps i ts ≡ items_verdict (slot_section f (is ++ i ∷ [])) ps ts
slot_closes f is ps i [] = refl
slot_closes (in_body s) is ps i (at p (sign hash) ∷ ts) = refl
slot_closes (in_body s) is ps i (at p t ∷ ts) = refl
slot_closes (in_guarded s gs) is ps i (at p (sign hash) ∷ ts) = refl
slot_closes (in_guarded s gs) is ps i (at p t ∷ ts) = refl
slot_closes (in_query l) is ps i (at p (sign hash) ∷ ts) = refl
slot_closes (in_query l) is ps i (at p t ∷ ts) = refl

pub side_closes : (f : Side) (hs : List Head) (ps : Program) (i : Item) (ts : List Placed) → Lacks hash ts → item_verdict (side_section f hs) ps i ts ≡ items_verdict (side_section f (hs ++ record { item = i; passive = false } ∷ [])) ps ts
side_closes f hs ps i [] h = refl
side_closes f hs ps i (at p (sign hash) ∷ ts) h = absurd (h refl)
side_closes (in_heads l n) hs ps i (at p t ∷ ts) h = refl
side_closes (in_behind l n js) hs ps i (at p t ∷ ts) h = refl

-- a head that a `#` goes on with is passive
pub side_marks : (f : Side) (hs : List Head) (ps : Program) (i : Item) (p : Place) (ts : List Placed) → item_verdict (side_section f hs) ps i (at p (sign hash) ∷ ts) ≡ run limited_room (hashed (side_section f hs) i ps) ts
side_marks (in_heads l n) hs ps i p ts = refl
side_marks (in_behind l n js) hs ps i p ts = refl

pub side_marked : (f : Side) (hs : List Head) (ps : Program) (i : Item) (ts : List Placed) → run limited_room (marked (section_with_head (side_section f hs) true i) ps) ts ≡ items_verdict (side_section f (hs ++ record { item = i; passive = true } ∷ [])) ps ts
side_marked (in_heads l n) hs ps i [] = refl
side_marked (in_behind l n js) hs ps i [] = refl
side_marked (in_heads l n) hs ps i (at p t ∷ ts) = refl
side_marked (in_behind l n js) hs ps i (at p t ∷ ts) = refl

pub ruleset list_steps = (slot_closes, side_closes, side_marks, side_marked)
