-- Reading token by token, with what is still open. No definition: it is what the code and the grammar are compared with.
use Rattle.std.specs.Prelude.{ℕ, suc, pos, neg_ℤ, nat_lt, Bool, true, false, cond, if◌then◌else◌, List, [], ◌∷◌, ◌++◌, Option, Some, None, codes, bytes_eq}
use Rattle.std.specs.Str.{encode_utf8_all}
use Rattle.chr_semantics.specs.Tokens as token
use Rattle.chr_semantics.specs.Tokens.{Place, Additive, minus, Multiplicative, Relation, Sign, opens, closes, opens_list, closes_list, comma, bar, label, backslash, hash, simplifies, propagates, slash, stop, Token, name, numeral, additive, multiplicative, relation, sign, over, Placed, at}
use Rattle.chr_semantics.specs.Syntax as syntax
use Rattle.chr_semantics.specs.Syntax.{Expr, exprs_of, variable, number, call, nil, adding, multiplying, operation, list, Item, plain, related, Head, Arrow, simplification, propagation, Rule, Declaration, Part, ignored, Program, Query}
use Rattle.chr_semantics.specs.declared.limits.TheConstants.{MAX_OPEN_BRACKETS}
use Rattle.chr_semantics.specs.Grammar.{is_number, is_magnitude, IsProgram, IsQuery}

-- a sum and a product that have begun: what stands before the operator, and the operator
pub record Prefix : Type 0 where
  pub sum : Option (Expr × Additive)
  pub product : Option (Expr × Multiplicative)

-- elements with commas between them: of a call, or of a list
pub data Container : Type 0 where
  of_call : List ℕ → Container
  of_list : Container

-- a rule before its arrow, and the arrow
pub record RuleStart : Type 0 where
  pub line : ℕ
  pub label : Option (List ℕ)
  pub heads : List Head
  pub behind : List Head
  pub arrow : Arrow

-- which items are read, with those that are done
pub data Section : Type 0 where
  heads : ℕ → Option (List ℕ) → List Head → Section
  behind : ℕ → Option (List ℕ) → List Head → List Head → Section
  body : RuleStart → List Item → Section
  guarded : RuleStart → List Item → List Item → Section
  asked : ℕ → List Item → Section

-- what is open, from the inside out: each with what it stands in
pub data Frame : Type 0 where
  paren : Prefix → Frame
  elements : Container → List Expr → Prefix → Frame
  tail : List Expr → Prefix → Frame
  item : Section → Program → Frame
  right : Section → Program → Relation → Expr → Frame

-- a token that has to come
pub data Wanted : Type 0 where
  a_word : List ℕ → Wanted
  any_name : Wanted
  a_sign : Sign → Wanted

-- the symbols of a directive so far, which a module exports or the program declares, with what stands before the directive
pub record Listing : Type 0 where
  pub is_module : Bool
  pub line : ℕ
  pub parts : Program
  pub done : List Declaration

-- what was read
pub data SyntaxTree : Type 0 where
  program : Program → SyntaxTree
  query : Query → SyntaxTree

pub data State : Type 0 where
  want : Prefix → List Frame → State
  signed : Prefix → List Frame → State
  named : List ℕ → Prefix → List Frame → State
  listed : Prefix → List Frame → State
  have : Option (Expr × Additive) → Expr → List Frame → State
  hashed : Section → Item → Program → State
  marked : Section → Program → State
  between : Program → State
  labelled : ℕ → List ℕ → Program → State
  directive : ℕ → Program → State
  fixed : List Wanted → State → State
  symbol : Listing → State
  slashed : Listing → List ℕ → State
  counted : Listing → List ℕ → State
  declared : Listing → State
  exporting : ℕ → Program → State
  asking : State
  answered : Query → State
  done : SyntaxTree → State

abbrev pub no_prefix : Prefix
no_prefix = record { sum = None; product = None }

abbrev pub product_with : Option (Expr × Multiplicative) → Expr → Expr
product_with None e = e
product_with (Some l) e = operation (multiplying l.1) l.0 e

abbrev pub sum_with : Option (Expr × Additive) → Expr → Expr
sum_with None e = e
sum_with (Some l) e = operation (adding l.1) l.0 e

-- a primary is read
abbrev pub state_after_primary : Prefix → Expr → List Frame → State
state_after_primary b e k = have b.sum (product_with b.product e) k

-- the reading ends so: with the tokens from the first that can not stand there, or from the bracket that is one too many
pub data Verdict : Type 0 where
  accept : SyntaxTree → Verdict
  expected : List Placed → Verdict
  too_deep : List Placed → Verdict

pub data Step : Type 0 where
  goes : State → Step
  refused : Step
  deep : Step

-- only where it is so
abbrev pub step_if : Bool → State → Step
step_if true s = goes s
step_if false s = refused

-- a further bracket is opened, where there is room for it
abbrev pub bracket_step : Bool → State → Step
bracket_step room s = cond room (goes s) deep

-- elements are read, and this token goes on with them or closes them
abbrev pub elements_step : Token → Container → List Expr → Prefix → List Frame → Step
elements_step (sign comma) q es b k = goes (want no_prefix (elements q es b ∷ k))
elements_step (sign closes) (of_call w) es b k = goes (state_after_primary b (call (encode_utf8_all w) (exprs_of es)) k)
elements_step (sign closes_list) of_list es b k = goes (state_after_primary b (list es nil) k)
elements_step (sign bar) of_list es b k = goes (want no_prefix (tail es b ∷ k))
elements_step _ _ _ _ _ = refused

-- the section with one more item
abbrev pub section_with_head : Section → Bool → Item → Section
section_with_head (heads l n hs) passive i = heads l n (hs ++ record { item = i; passive = passive } ∷ [])
section_with_head (behind l n hs js) passive i = behind l n hs (js ++ record { item = i; passive = passive } ∷ [])
section_with_head (body s is) passive i = body s (is ++ i ∷ [])
section_with_head (guarded s gs is) passive i = guarded s gs (is ++ i ∷ [])
section_with_head (asked l is) passive i = asked l (is ++ i ∷ [])

abbrev pub section_with_item : Section → Item → Section
section_with_item q i = section_with_head q false i

abbrev pub rule_start : ℕ → Option (List ℕ) → List Head → List Head → Arrow → RuleStart
rule_start l n hs js a = record { line = l; label = n; heads = hs; behind = js; arrow = a }

abbrev pub rule_of : RuleStart → List Item → List Item → Part
rule_of s gs is = syntax.rule s.line (record { label = s.label; heads = s.heads; behind = s.behind; arrow = s.arrow; guard = gs; body = is })

-- an item of the section is wanted
abbrev pub state_before_item : Section → Program → State
state_before_item q ps = want no_prefix (item q ps ∷ [])

-- items are read, and this token goes on with them or closes them
abbrev pub items_step : Token → Section → Program → Step
items_step (sign comma) q ps = goes (state_before_item q ps)
items_step (sign backslash) (heads l n hs) ps = goes (state_before_item (behind l n hs []) ps)
items_step (sign simplifies) (heads l n hs) ps = goes (state_before_item (body (rule_start l n hs [] simplification) []) ps)
items_step (sign propagates) (heads l n hs) ps = goes (state_before_item (body (rule_start l n hs [] propagation) []) ps)
items_step (sign simplifies) (behind l n hs js) ps = goes (state_before_item (body (rule_start l n hs js simplification) []) ps)
items_step (sign propagates) (behind l n hs js) ps = goes (state_before_item (body (rule_start l n hs js propagation) []) ps)
items_step (sign bar) (body s is) ps = goes (state_before_item (guarded s is []) ps)
items_step (sign stop) (body s is) ps = goes (between (ps ++ rule_of s [] is ∷ []))
items_step (sign stop) (guarded s gs is) ps = goes (between (ps ++ rule_of s gs is ∷ []))
items_step (sign stop) (asked l is) ps = goes (answered (record { line = l; items = is }))
items_step _ _ _ = refused

-- an item is read: this token goes on with it or closes it
abbrev pub item_step : Token → Section → Program → Item → Step
item_step (sign hash) (heads l n hs) ps i = goes (hashed (heads l n hs) i ps)
item_step (sign hash) (behind l n hs js) ps i = goes (hashed (behind l n hs js) i ps)
item_step tok q ps i = items_step tok (section_with_item q i) ps

-- an expression is read, and this token closes it
abbrev pub expr_step : Expr → List Frame → Token → Step
expr_step e (paren b ∷ k) (sign closes) = goes (state_after_primary b e k)
expr_step e (elements q es b ∷ k) tok = elements_step tok q (es ++ e ∷ []) b k
expr_step e (tail es b ∷ k) (sign closes_list) = goes (state_after_primary b (list es e) k)
expr_step e (item q ps ∷ []) (relation r) = goes (want no_prefix (right q ps r e ∷ []))
expr_step e (item q ps ∷ []) tok = item_step tok q ps (plain e)
expr_step e (right q ps r d ∷ []) tok = item_step tok q ps (related r d e)
expr_step e _ _ = refused

abbrev pub operator_step : Option (Expr × Additive) → Expr → List Frame → Token → Step
operator_step s e k (multiplicative o) = goes (want (record { sum = s; product = Some (e, o) }) k)
operator_step s e k (additive o) = goes (want (record { sum = Some (sum_with s e, o); product = None }) k)
operator_step s e k tok = expr_step (sum_with s e) k tok

abbrev pub primary_step : (List Frame → Bool) → Prefix → List Frame → Token → Step
primary_step room b k (token.variable w) = goes (state_after_primary b (variable (encode_utf8_all w)) k)
primary_step room b k (numeral g n) = step_if (is_number n) (state_after_primary b (number (pos n)) k)
primary_step room b k (additive minus) = goes (signed b k)
primary_step room b k (name w) = goes (named w b k)
primary_step room b k (sign opens) = bracket_step (room k) (want no_prefix (paren b ∷ k))
primary_step room b k (sign opens_list) = bracket_step (room k) (listed b k)
primary_step room b k _ = refused

abbrev pub is_same_sign : Sign → Sign → Bool
is_same_sign opens opens = true
is_same_sign closes closes = true
is_same_sign opens_list opens_list = true
is_same_sign closes_list closes_list = true
is_same_sign comma comma = true
is_same_sign bar bar = true
is_same_sign label label = true
is_same_sign backslash backslash = true
is_same_sign hash hash = true
is_same_sign simplifies simplifies = true
is_same_sign propagates propagates = true
is_same_sign token.declares token.declares = true
is_same_sign slash slash = true
is_same_sign stop stop = true
is_same_sign _ _ = false

abbrev pub is_wanted : Wanted → Token → Bool
is_wanted (a_word w) (name v) = bytes_eq w v
is_wanted any_name (name v) = true
is_wanted (a_sign s) (sign r) = is_same_sign s r
is_wanted _ _ = false

-- tokens that have to come, and then the state
abbrev pub state_before_wanted : List Wanted → State → State
state_before_wanted [] s = s
state_before_wanted (w ∷ ws) s = fixed (w ∷ ws) s

abbrev pub library_words : List Wanted
library_words = a_sign opens ∷ a_word (codes "library") ∷ a_sign opens ∷ a_word (codes "chr") ∷ a_sign closes ∷ a_sign closes ∷ a_sign stop ∷ []

abbrev pub module_words : List Wanted
module_words = a_sign opens ∷ any_name ∷ a_sign comma ∷ a_sign opens_list ∷ []

-- the exports of a module are read
abbrev pub state_after_exports : ℕ → Program → State
state_after_exports l ps = fixed (a_sign closes ∷ a_sign stop ∷ []) (between (ps ++ ignored l ∷ []))

abbrev pub directive_step : ℕ → Program → List ℕ → Step
directive_step l ps w =
    if bytes_eq w (codes "chr_constraint") then goes (symbol (record { is_module = false; line = l; parts = ps; done = [] })) else
    if bytes_eq w (codes "use_module") then goes (fixed library_words (between (ps ++ ignored l ∷ []))) else
    if bytes_eq w (codes "module") then goes (fixed module_words (exporting l ps)) else refused

-- the listing with one more symbol
abbrev pub listing_with : Listing → Declaration → Listing
listing_with d s = record { is_module = d.is_module; line = d.line; parts = d.parts; done = d.done ++ s ∷ [] }

abbrev pub listing_with_symbol : Listing → List ℕ → ℕ → Listing
listing_with_symbol d w n = listing_with d (record { name = encode_utf8_all w; arity = n })

-- symbols are read, and this token goes on with them or closes them
abbrev pub symbols_step : Token → Bool → Listing → Step
symbols_step (sign comma) m d = goes (symbol d)
symbols_step (sign stop) false d = goes (between (d.parts ++ syntax.declares d.line d.done ∷ []))
symbols_step (sign closes_list) true d = goes (state_after_exports d.line d.parts)
symbols_step _ _ _ = refused

abbrev pub step : (List Frame → Bool) → State → Placed → Step
step room (want b k) (at p tok) = primary_step room b k tok
step room (signed b k) (at p (numeral true n)) = step_if (is_magnitude n) (state_after_primary b (number (neg_ℤ (pos n))) k)
step room (named w b k) (at p (sign opens)) = bracket_step (room k) (want no_prefix (elements (of_call w) [] b ∷ k))
step room (named w b k) (at p tok) = operator_step b.sum (product_with b.product (call (encode_utf8_all w) (exprs_of []))) k tok
step room (listed b k) (at p (sign closes_list)) = goes (state_after_primary b nil k)
step room (listed b k) (at p tok) = primary_step room no_prefix (elements of_list [] b ∷ k) tok
step room (have s e k) (at p tok) = operator_step s e k tok
step room (hashed q i ps) (at p (name w)) = step_if (bytes_eq w (codes "passive")) (marked (section_with_head q true i) ps)
step room (marked q ps) (at p tok) = items_step tok q ps
step room (between ps) (at p over) = goes (done (program ps))
step room (between ps) (at p (sign token.declares)) = goes (directive p.line ps)
step room (between ps) (at p (name w)) = goes (labelled p.line w ps)
step room (between ps) (at p tok) = primary_step room no_prefix (item (heads p.line None []) ps ∷ []) tok
step room (labelled l w ps) (at p (sign label)) = goes (state_before_item (heads l (Some (encode_utf8_all w)) []) ps)
step room (labelled l w ps) (at p (sign opens)) = bracket_step (room (item (heads l None []) ps ∷ [])) (want no_prefix (elements (of_call w) [] no_prefix ∷ item (heads l None []) ps ∷ []))
step room (labelled l w ps) (at p tok) = operator_step None (call (encode_utf8_all w) (exprs_of [])) (item (heads l None []) ps ∷ []) tok
step room (directive l ps) (at p (name w)) = directive_step l ps w
step room (fixed (w ∷ ws) s) (at p tok) = step_if (is_wanted w tok) (state_before_wanted ws s)
step room (symbol d) (at p (name w)) = goes (slashed d w)
step room (slashed d w) (at p (sign slash)) = goes (counted d w)
step room (counted d w) (at p (numeral g n)) = step_if (is_number n) (declared (listing_with_symbol d w n))
step room (declared d) (at p tok) = symbols_step tok d.is_module d
step room (exporting l ps) (at p (name w)) = goes (slashed (record { is_module = true; line = l; parts = ps; done = [] }) w)
step room (exporting l ps) (at p (sign closes_list)) = goes (state_after_exports l ps)
step room asking (at p tok) = primary_step room no_prefix (item (asked p.line []) [] ∷ []) tok
step room (answered q) (at p over) = goes (done (query q))
step room _ _ = refused

abbrev pub end_verdict : State → Verdict
end_verdict (done x) = accept x
end_verdict _ = expected []

abbrev pub step_verdict : Step → List Placed → (State → Verdict) → Verdict
step_verdict (goes s) ts f = f s
step_verdict refused ts f = expected ts
step_verdict deep ts f = too_deep ts

abbrev pub run : (List Frame → Bool) → State → List Placed → Verdict
run room s [] = end_verdict s
run room s (t ∷ ts) = step_verdict (step room s t) (t ∷ ts) (λ s'. run room s' ts)

-- how many brackets are open
abbrev pub depth : List Frame → ℕ
depth [] = 0
depth (item q ps ∷ k) = depth k
depth (right q ps r e ∷ k) = depth k
depth (_ ∷ k) = suc (depth k)

-- with any number of brackets, and with at most `MAX_OPEN_BRACKETS` open at once
abbrev pub any_room : List Frame → Bool
any_room k = true

abbrev pub limited_room : List Frame → Bool
limited_room k = nat_lt (depth k) MAX_OPEN_BRACKETS

-- the two languages, what their texts spell, and where the reading of one begins
pub data Language : Type 0 where
  programs : Language
  queries : Language

abbrev pub Spells : Language → List Placed → SyntaxTree → Type 0
Spells programs ts (program ps) = IsProgram ts ps
Spells queries ts (query q) = IsQuery ts q
Spells _ ts x = ⊥

abbrev pub first_state : Language → State
first_state programs = between []
first_state queries = asking

abbrev pub verdict_of : Language → List Placed → Verdict
verdict_of l ts = run limited_room (first_state l) ts
