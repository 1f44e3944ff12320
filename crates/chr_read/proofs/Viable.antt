-- Each state that tokens lead to is on the way to some text.
use Rattle.std.proofs.Common.{◌≡◌, ℕ, suc, pred, ◌<◌, ◌≤◌, List, [], ◌∷◌, ◌++◌, Bool, true, false, Option, None, refl}
use Rattle.std.proofs.lemmas.Slice.Eq.{bytes_eq-Decides}
use Rattle.std.specs.Prelude.{codes, pos}
use Rattle.std.specs.Str.{encode_utf8_all}
use Rattle.chr_semantics.specs.Tokens as token
use Rattle.chr_semantics.specs.Tokens.{Additive, minus, Sign, opens, closes, opens_list, closes_list, comma, bar, label, backslash, hash, simplifies, propagates, slash, stop, Token, name, numeral, additive, sign, over, Placed, at, first_place}
use Rattle.chr_semantics.specs.Syntax as syntax
use Rattle.chr_semantics.specs.declared.limits.TheConstants.{MAX_OPEN_BRACKETS}
use Rattle.chr_semantics.specs.Syntax.{Expr, exprs_of, call, nil, list, number, Program}
use Rattle.chr_read.specs.Automaton as m
use Rattle.chr_read.specs.Automaton.{Prefix, Frame, State, Section, heads, behind, body, guarded, asked, Listing, Wanted, a_word, any_name, a_sign, is_wanted, is_same_sign, step_if, state_before_wanted, want, signed, named, listed, have, hashed, marked, between, labelled, directive, fixed, symbol, slashed, counted, declared, exporting, answered, asking, done, items_step, section_with_head, goes, SyntaxTree, Verdict, accept, step_verdict, run, any_room}

-- the innermost frames stand in an item
abbrev pub IsWhole : List Frame → Type 0
IsWhole [] = ⊥
IsWhole (m.item q ps ∷ []) = Unit {0}
IsWhole (m.right q ps r e ∷ []) = Unit {0}
IsWhole (m.item q ps ∷ f ∷ k) = ⊥
IsWhole (m.right q ps r e ∷ f ∷ k) = ⊥
IsWhole (_ ∷ k) = IsWhole k

-- how many brackets are open before tokens that have to come
abbrev pub depth_before : Wanted → ℕ → ℕ
depth_before (a_sign opens) n = pred n
depth_before (a_sign opens_list) n = pred n
depth_before (a_sign closes) n = suc n
depth_before (a_sign closes_list) n = suc n
depth_before _ n = n

abbrev pub unclosed_count : List Wanted → ℕ → ℕ
unclosed_count [] n = n
unclosed_count (w ∷ ws) n = depth_before w (unclosed_count ws n)

abbrev pub IsLevel : Wanted → ℕ → Type 0
IsLevel (a_sign opens) n = (0 < n) × (n ≤ MAX_OPEN_BRACKETS)
IsLevel (a_sign opens_list) n = (0 < n) × (n ≤ MAX_OPEN_BRACKETS)
IsLevel _ n = Unit {0}

-- at least one token has to come, and each that opens a bracket is followed by one that closes it
abbrev pub AreLevels : List Wanted → ℕ → Type 0
AreLevels [] n = ⊥
AreLevels (w ∷ []) n = IsLevel w n
AreLevels (w ∷ v ∷ ws) n = IsLevel w (unclosed_count (v ∷ ws) n) × AreLevels (v ∷ ws) n

abbrev pub symbols_depth : Bool → ℕ
symbols_depth true = 2
symbols_depth false = 0

-- how many brackets are open
abbrev pub depth_of : State → ℕ
depth_of (want b k) = m.depth k
depth_of (signed b k) = m.depth k
depth_of (named w b k) = m.depth k
depth_of (listed b k) = suc (m.depth k)
depth_of (have s e k) = m.depth k
depth_of (fixed ws s) = unclosed_count ws (depth_of s)
depth_of (symbol d) = symbols_depth d.is_module
depth_of (slashed d w) = symbols_depth d.is_module
depth_of (counted d w) = symbols_depth d.is_module
depth_of (declared d) = symbols_depth d.is_module
depth_of (exporting l ps) = 2
depth_of _ = 0

-- the heads of a rule, of which one may be passive
abbrev pub OfHeads : Section → Type 0
OfHeads (heads l w hs) = Unit {0}
OfHeads (behind l w hs js) = Unit {0}
OfHeads _ = ⊥

abbrev pub IsWholeState : State → Type 0
IsWholeState (want b k) = IsWhole k
IsWholeState (signed b k) = IsWhole k
IsWholeState (named w b k) = IsWhole k
IsWholeState (listed b k) = IsWhole k
IsWholeState (have s e k) = IsWhole k
IsWholeState (hashed q i ps) = OfHeads q
IsWholeState (fixed ws s) = AreLevels ws (depth_of s) × IsWholeState s
IsWholeState _ = Unit {0}

pub record Finishes (s : State) : Type 0 where
  pub more : List Placed
  pub tree : SyntaxTree
  pub accepts : run any_room s more ≡ accept tree

-- a token, somewhere
abbrev a : Token → Placed
a t = at first_place t

-- tokens that end a section
abbrev to_the_end : Section → List Placed
to_the_end (heads l w hs) = a (sign simplifies) ∷ a (numeral false 0) ∷ a (sign stop) ∷ a over ∷ []
to_the_end (behind l w hs js) = a (sign simplifies) ∷ a (numeral false 0) ∷ a (sign stop) ∷ a over ∷ []
to_the_end (body s is) = a (sign stop) ∷ a over ∷ []
to_the_end (guarded s gs is) = a (sign stop) ∷ a over ∷ []
to_the_end (asked l is) = a (sign stop) ∷ a over ∷ []

marked_finishes : (q : Section) (ps : Program) → Finishes (marked q ps)
marked_finishes (heads l w hs) ps = record { more = to_the_end (heads l w hs); tree = _; accepts = refl }
marked_finishes (behind l w hs js) ps = record { more = to_the_end (behind l w hs js); tree = _; accepts = refl }
marked_finishes (body s is) ps = record { more = to_the_end (body s is); tree = _; accepts = refl }
marked_finishes (guarded s gs is) ps = record { more = to_the_end (guarded s gs is); tree = _; accepts = refl }
marked_finishes (asked l is) ps = record { more = to_the_end (asked l is); tree = _; accepts = refl }

item_finishes : (q : Section) (ps : Program) (s : Option (Expr × Additive)) (e : Expr) → Finishes (have s e (m.item q ps ∷ []))
item_finishes (heads l w hs) ps s e = record { more = to_the_end (heads l w hs); tree = _; accepts = refl }
item_finishes (behind l w hs js) ps s e = record { more = to_the_end (behind l w hs js); tree = _; accepts = refl }
item_finishes (body b is) ps s e = record { more = to_the_end (body b is); tree = _; accepts = refl }
item_finishes (guarded b gs is) ps s e = record { more = to_the_end (guarded b gs is); tree = _; accepts = refl }
item_finishes (asked l is) ps s e = record { more = to_the_end (asked l is); tree = _; accepts = refl }

right_finishes : (q : Section) (ps : Program) (r : token.Relation) (d : Expr) (s : Option (Expr × Additive)) (e : Expr) → Finishes (have s e (m.right q ps r d ∷ []))
right_finishes (heads l w hs) ps r d s e = record { more = to_the_end (heads l w hs); tree = _; accepts = refl }
right_finishes (behind l w hs js) ps r d s e = record { more = to_the_end (behind l w hs js); tree = _; accepts = refl }
right_finishes (body b is) ps r d s e = record { more = to_the_end (body b is); tree = _; accepts = refl }
right_finishes (guarded b gs is) ps r d s e = record { more = to_the_end (guarded b gs is); tree = _; accepts = refl }
right_finishes (asked l is) ps r d s e = record { more = to_the_end (asked l is); tree = _; accepts = refl }

have_finishes : (k : List Frame) → IsWhole k → (s : Option (Expr × Additive)) (e : Expr) → Finishes (have s e k)
have_finishes [] w s e = absurd w
have_finishes (m.item q ps ∷ []) w s e = item_finishes q ps s e
have_finishes (m.right q ps r d ∷ []) w s e = right_finishes q ps r d s e
have_finishes (m.item q ps ∷ f ∷ k) w s e = absurd w
have_finishes (m.right q ps r d ∷ f ∷ k) w s e = absurd w
have_finishes (m.paren b ∷ k) w s e = let h = have_finishes k w b.sum (m.product_with b.product (m.sum_with s e)) in record { more = a (sign closes) ∷ h.more; tree = h.tree; accepts = h.accepts }
have_finishes (m.elements (m.of_call v) es b ∷ k) w s e = let h = have_finishes k w b.sum (m.product_with b.product (call (encode_utf8_all v) (exprs_of (es ++ m.sum_with s e ∷ [])))) in record { more = a (sign closes) ∷ h.more; tree = h.tree; accepts = h.accepts }
have_finishes (m.elements m.of_list es b ∷ k) w s e = let h = have_finishes k w b.sum (m.product_with b.product (list (es ++ m.sum_with s e ∷ []) nil)) in record { more = a (sign closes_list) ∷ h.more; tree = h.tree; accepts = h.accepts }
have_finishes (m.tail es b ∷ k) w s e = let h = have_finishes k w b.sum (m.product_with b.product (list es (m.sum_with s e))) in record { more = a (sign closes_list) ∷ h.more; tree = h.tree; accepts = h.accepts }

-- a token that is wanted
abbrev token_for : Wanted → Token
token_for (a_word w) = name w
token_for any_name = name []
token_for (a_sign s) = sign s

same_sign_itself : (s : Sign) → is_same_sign s s ≡ true
same_sign_itself opens = refl
same_sign_itself closes = refl
same_sign_itself opens_list = refl
same_sign_itself closes_list = refl
same_sign_itself comma = refl
same_sign_itself bar = refl
same_sign_itself label = refl
same_sign_itself backslash = refl
same_sign_itself hash = refl
same_sign_itself simplifies = refl
same_sign_itself propagates = refl
same_sign_itself token.declares = refl
same_sign_itself slash = refl
same_sign_itself stop = refl

token_matches : (w : Wanted) → is_wanted w (token_for w) ≡ true
token_matches (a_word w) = (bytes_eq-Decides w w).1 refl
token_matches any_name = refl
token_matches (a_sign s) = same_sign_itself s

where_finishes : (b : Bool) (s : State) (t : Placed) (rest : List Placed) (x : SyntaxTree) → b ≡ true → run any_room s rest ≡ accept x → step_verdict (step_if b s) (t ∷ rest) (λ s'. run any_room s' rest) ≡ accept x
where_finishes true s t rest x e h = h
where_finishes false s t rest x e h = cc

fixed_finishes : (ws : List Wanted) (s : State) → AreLevels ws (depth_of s) → Finishes s → Finishes (fixed ws s)
fixed_finishes [] s l f = absurd l
fixed_finishes (w ∷ []) s l f = record { more = a (token_for w) ∷ f.more; tree = f.tree; accepts = where_finishes (is_wanted w (token_for w)) s (a (token_for w)) f.more f.tree (token_matches w) f.accepts }
fixed_finishes (w ∷ v ∷ ws) s l f = let h = fixed_finishes (v ∷ ws) s l.1 f in record { more = a (token_for w) ∷ h.more; tree = h.tree; accepts = where_finishes (is_wanted w (token_for w)) (fixed (v ∷ ws) s) (a (token_for w)) h.more h.tree (token_matches w) h.accepts }

declared_by : (e : Bool) (d : Listing) → d.is_module ≡ e → Finishes (declared d)
declared_by false d k = record { more = a (sign stop) ∷ a over ∷ []; tree = m.program (d.parts ++ syntax.declares d.line d.done ∷ []); accepts = rw k refl }
declared_by true d k = record { more = a (sign closes_list) ∷ a (sign closes) ∷ a (sign stop) ∷ a over ∷ []; tree = m.program (d.parts ++ syntax.ignored d.line ∷ []); accepts = rw k refl }

pub finishes : (s : State) → IsWholeState s → Finishes s
finishes (want b k) w = let h = have_finishes k w b.sum (m.product_with b.product (number (pos 0))) in record { more = a (numeral false 0) ∷ h.more; tree = h.tree; accepts = h.accepts }
finishes (signed b k) w = let h = have_finishes k w b.sum (m.product_with b.product (number (pos 0))) in record { more = a (numeral true 0) ∷ h.more; tree = h.tree; accepts = h.accepts }
finishes (named v b k) w = let h = have_finishes (m.elements (m.of_call v) [] b ∷ k) w None (number (pos 0)) in record { more = a (sign opens) ∷ a (numeral false 0) ∷ h.more; tree = h.tree; accepts = h.accepts }
finishes (listed b k) w = let h = have_finishes k w b.sum (m.product_with b.product nil) in record { more = a (sign closes_list) ∷ h.more; tree = h.tree; accepts = h.accepts }
finishes (have s e k) w = have_finishes k w s e
finishes (hashed q i ps) w = let h = marked_finishes (section_with_head q true i) ps in record { more = a (name (codes "passive")) ∷ h.more; tree = h.tree; accepts = h.accepts }
finishes (marked q ps) w = marked_finishes q ps
finishes (between ps) w = record { more = a over ∷ []; tree = _; accepts = refl }
finishes (labelled l v ps) w = record { more = a (sign simplifies) ∷ a (numeral false 0) ∷ a (sign stop) ∷ a over ∷ []; tree = _; accepts = refl }
finishes (directive l ps) w = record { more = a (name (codes "chr_constraint")) ∷ a (name []) ∷ a (sign slash) ∷ a (numeral false 0) ∷ a (sign stop) ∷ a over ∷ []; tree = _; accepts = refl }
finishes (fixed ws s) w = fixed_finishes ws s w.0 (finishes s w.1)
finishes (symbol d) w = let h = declared_by d.is_module (m.listing_with_symbol d [] 0) refl in record { more = a (name []) ∷ a (sign slash) ∷ a (numeral false 0) ∷ h.more; tree = h.tree; accepts = h.accepts }
finishes (slashed d v) w = let h = declared_by d.is_module (m.listing_with_symbol d v 0) refl in record { more = a (sign slash) ∷ a (numeral false 0) ∷ h.more; tree = h.tree; accepts = h.accepts }
finishes (counted d v) w = let h = declared_by d.is_module (m.listing_with_symbol d v 0) refl in record { more = a (numeral false 0) ∷ h.more; tree = h.tree; accepts = h.accepts }
finishes (declared d) w = declared_by d.is_module d refl
finishes (exporting l ps) w = record { more = a (sign closes_list) ∷ a (sign closes) ∷ a (sign stop) ∷ a over ∷ []; tree = _; accepts = refl }
finishes asking w = record { more = a (numeral false 0) ∷ a (sign stop) ∷ a over ∷ []; tree = _; accepts = refl }
finishes (answered q) w = record { more = a over ∷ []; tree = _; accepts = refl }
finishes (done x) w = record { more = []; tree = x; accepts = refl }
