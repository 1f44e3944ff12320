-- What the functions of the reader say, by the automaton.
use Rattle.std.specs.Prelude.{◌≡◌, ◌≢◌, ℕ, ◌+◌, List, [], ◌∷◌, ◌++◌, Option, None, Some, Result, MatchResult, true}
use Rattle.std.specs.Borrow.{Bor}
use Rattle.chr_semantics.specs.Tokens.{Additive, Place, Sign, Token, simplifies, propagates, name, additive, multiplicative, relation, sign, Placed, at}
use Rattle.chr_semantics.specs.Syntax as syntax
use Rattle.chr_semantics.specs.declared.limits.TheConstants.{MAX_OPEN_BRACKETS}
use Rattle.chr_tokens.specs.TokenView.{placed_views}
use Rattle.chr_tokens.specs.declared.token.Placed as code
use Rattle.chr_read.specs.declared.halt.Halt.{Halt}
use Rattle.chr_read.specs.declared.halt.Halt.TheVariants.{Memory, Expected, TooDeep}
use Rattle.chr_read.specs.declared.syntax.Expr.{Expr}
use Rattle.chr_read.specs.declared.syntax.Item.{Item}
use Rattle.chr_read.specs.declared.syntax.Head.{Head}
use Rattle.chr_read.specs.declared.syntax.Operator.{Operator}
use Rattle.chr_read.specs.SyntaxView.{chain, head_view, head_views, item_view, item_views, operand_views, view, views}
use Rattle.chr_read.specs.Automaton.{Prefix, Frame, Container, Section, RuleStart, Verdict, asked, behind, body, elements_step, item_step, items_step, depth, elements, expected, no_prefix, state_after_primary, guarded, hashed, have, heads, limited_room, listed, marked, named, of_list, step_verdict, paren, run, signed, tail, too_deep, want, state_before_item, section_with_head}

-- the sign, or one of the kind, does not come first
abbrev pub Lacks : Sign → List Placed → Type 0
Lacks s [] = Unit {0}
Lacks s (at p (sign r) ∷ ts) = r ≢ s
Lacks s (t ∷ ts) = Unit {0}

abbrev pub NoAdditive : List Placed → Type 0
NoAdditive (at p (additive o) ∷ ts) = ⊥
NoAdditive _ = Unit {0}

abbrev pub NoMultiplicative : List Placed → Type 0
NoMultiplicative (at p (multiplicative o) ∷ ts) = ⊥
NoMultiplicative _ = Unit {0}

abbrev pub NoRelation : List Placed → Type 0
NoRelation (at p (relation r) ∷ ts) = ⊥
NoRelation _ = Unit {0}

abbrev pub NoName : List Placed → Type 0
NoName (at p (name w) ∷ ts) = ⊥
NoName _ = Unit {0}

abbrev pub NoArrow : List Placed → Type 0
NoArrow (at p (sign simplifies) ∷ ts) = ⊥
NoArrow (at p (sign propagates) ∷ ts) = ⊥
NoArrow _ = Unit {0}

-- this token comes first, and these come after it
pub record BeginsWith (ts : List Placed) (t : Token) (rest : List Placed) : Type 0 where
  pub place : Place
  pub are : ts ≡ at place t ∷ rest

-- a reading that halts is what the automaton comes to, unless memory was refused
abbrev pub HaltIs : Halt → Verdict → Type 0
HaltIs Memory v = Unit {0}
HaltIs (Expected rest) v = v ≡ expected (placed_views rest.now)
HaltIs (TooDeep rest) v = v ≡ too_deep (placed_views rest.now)

-- what is read takes the automaton from one place to another
abbrev pub Goes : {X : Type 0} → Verdict → Result X Halt → (X → Verdict) → Type 0
Goes v r then = MatchResult r (λ x. v ≡ then x) (λ e. HaltIs e v)

-- in any surroundings that leave room for this many brackets
abbrev pub Leaves : ℕ → List Frame → Type 0
Leaves room k = depth k + room ≡ MAX_OPEN_BRACKETS

-- what is read, and the tokens after it
abbrev pub Reading : Type 0 → Type 0
Reading X = Result (X × Bor (List code.Placed)) Halt

-- the tokens after what is read
abbrev pub Rest : Type 0
Rest = Result (Bor (List code.Placed)) Halt

abbrev pub ReadsPrimary : {A : Type 0} → ℕ → List Placed → Reading (Expr A) → Type 0
ReadsPrimary room ts r = (b : Prefix) (k : List Frame) → Leaves room k → Goes (run limited_room (want b k) ts) r (λ x. run limited_room (state_after_primary b (view x.0) k) (placed_views x.1.now))

-- after the sign of a number
abbrev pub ReadsSigned : {A : Type 0} → List Placed → Reading (Expr A) → Type 0
ReadsSigned ts r = (b : Prefix) (k : List Frame) → Goes (run limited_room (signed b k) ts) r (λ x. run limited_room (state_after_primary b (view x.0) k) (placed_views x.1.now))

-- after a name
abbrev pub ReadsNamed : {A : Type 0} → List ℕ → ℕ → List Placed → Reading (Expr A) → Type 0
ReadsNamed w room ts r = (b : Prefix) (k : List Frame) → Leaves room k → Goes (run limited_room (named w b k) ts) r (λ x. run limited_room (state_after_primary b (view x.0) k) (placed_views x.1.now))

-- after a bracket
abbrev pub ReadsInParens : {A : Type 0} → ℕ → List Placed → Reading (Expr A) → Type 0
ReadsInParens room ts r = (b : Prefix) (k : List Frame) → Leaves room (paren b ∷ k) → Goes (run limited_room (want no_prefix (paren b ∷ k)) ts) r (λ x. run limited_room (state_after_primary b (view x.0) k) (placed_views x.1.now))

abbrev pub ReadsList : {A : Type 0} → ℕ → List Placed → Reading (Expr A) → Type 0
ReadsList room ts r = (b : Prefix) (k : List Frame) → Leaves room (elements of_list [] b ∷ k) → Goes (run limited_room (listed b k) ts) r (λ x. run limited_room (state_after_primary b (view x.0) k) (placed_views x.1.now))

abbrev pub ReadsProduct : {A : Type 0} → ℕ → List Placed → Reading (Expr A) → Type 0
ReadsProduct room ts r = (s : Option (syntax.Expr × Additive)) (k : List Frame) → Leaves room k
    → Goes (run limited_room (want (record { sum = s; product = None }) k) ts) r (λ x. run limited_room (have s (view x.0) k) (placed_views x.1.now))

abbrev pub ReadsSum : {A : Type 0} → ℕ → List Placed → Reading (Expr A) → Type 0
ReadsSum room ts r = (k : List Frame) → Leaves room k → Goes (run limited_room (want no_prefix k) ts) r (λ x. run limited_room (have None (view x.0) k) (placed_views x.1.now))

-- after the first product of a sum, and after the first primary of a product
abbrev pub ReadsProducts : {A V : Type 0} → (V → List (Operator × Expr A)) → ℕ → List Placed → Reading V → Type 0
ReadsProducts operands room ts r = (e : syntax.Expr) (k : List Frame) → Leaves room k
    → Goes (run limited_room (have None e k) ts) r (λ x. run limited_room (have None (chain e (operand_views (operands x.0))) k) (placed_views x.1.now))

abbrev pub ReadsPrimaries : {A V : Type 0} → (V → List (Operator × Expr A)) → ℕ → List Placed → Reading V → Type 0
ReadsPrimaries operands room ts r = (s : Option (syntax.Expr × Additive)) (e : syntax.Expr) (k : List Frame) → Leaves room k
    → Goes (run limited_room (have s e k) ts) r (λ x. run limited_room (have s (chain e (operand_views (operands x.0))) k) (placed_views x.1.now))

-- what a list ends with: `[]`, where it has no end of its own
abbrev pub end_view : {A : Type 0} → Option (Expr A) → syntax.Expr
end_view None = syntax.nil
end_view (Some e) = view e

-- elements are read, and what comes now closes them
abbrev pub elements_verdict : Container → List syntax.Expr → Prefix → List Frame → List Placed → Verdict
elements_verdict q es b k [] = expected []
elements_verdict q es b k (at p t ∷ ts) = step_verdict (elements_step t q es b k) (at p t ∷ ts) (λ s. run limited_room s ts)

-- after the elements of a list
abbrev pub ReadsListEnd : {A : Type 0} → ℕ → List Placed → Reading (Option (Expr A)) → Type 0
ReadsListEnd room ts r = (es : List syntax.Expr) (b : Prefix) (k : List Frame) → Leaves room (tail es b ∷ k)
    → Goes (elements_verdict of_list es b k ts) r (λ x. run limited_room (state_after_primary b (syntax.list es (end_view x.0)) k) (placed_views x.1.now))

abbrev pub ReadsElements : {A V : Type 0} → (V → List (Expr A)) → ℕ → List Placed → Reading V → Type 0
ReadsElements items room ts r = (q : Container) (b : Prefix) (k : List Frame) → Leaves room (elements q [] b ∷ k)
    → Goes (run limited_room (want no_prefix (elements q [] b ∷ k)) ts) r (λ x. elements_verdict q (views (items x.0)) b k (placed_views x.1.now))

-- a section whose items are no heads, by what stands before its items
pub data Slot : Type 0 where
  in_body : RuleStart → Slot
  in_guarded : RuleStart → List syntax.Item → Slot
  in_query : ℕ → Slot

abbrev pub slot_section : Slot → List syntax.Item → Section
slot_section (in_body s) is = body s is
slot_section (in_guarded s gs) is = guarded s gs is
slot_section (in_query l) is = asked l is

-- the heads of a rule, by what stands before them
pub data Side : Type 0 where
  in_heads : ℕ → Option (List ℕ) → Side
  in_behind : ℕ → Option (List ℕ) → List syntax.Head → Side

abbrev pub side_section : Side → List syntax.Head → Section
side_section (in_heads l n) hs = heads l n hs
side_section (in_behind l n hs) js = behind l n hs js

-- an item, or all of a section, is read, and what comes now goes on with it
abbrev pub item_verdict : Section → syntax.Program → syntax.Item → List Placed → Verdict
item_verdict q ps i [] = expected []
item_verdict q ps i (at p t ∷ ts) = step_verdict (item_step t q ps i) (at p t ∷ ts) (λ s. run limited_room s ts)

abbrev pub items_verdict : Section → syntax.Program → List Placed → Verdict
items_verdict q ps [] = expected []
items_verdict q ps (at p t ∷ ts) = step_verdict (items_step t q ps) (at p t ∷ ts) (λ s. run limited_room s ts)

abbrev pub ReadsItem : {A : Type 0} → List Placed → Reading (Item A) → Type 0
ReadsItem ts r = (q : Section) (ps : syntax.Program) → Goes (run limited_room (state_before_item q ps) ts) r (λ x. item_verdict q ps (item_view x.0) (placed_views x.1.now))

abbrev pub ReadsItems : {A V : Type 0} → (V → List (Item A)) → Slot → List Placed → Reading V → Type 0
ReadsItems items f ts r = (ps : syntax.Program) → Goes (run limited_room (state_before_item (slot_section f []) ps) ts) r (λ x. items_verdict (slot_section f (item_views (items x.0))) ps (placed_views x.1.now))

-- after the `#` of a head
abbrev pub ReadsMark : {T : Type 0} → List Placed → Reading T → Type 0
ReadsMark ts r = (q : Section) (i : syntax.Item) (ps : syntax.Program) → Goes (run limited_room (hashed q i ps) ts) r (λ x. run limited_room (marked (section_with_head q true i) ps) (placed_views x.1.now))

abbrev pub ReadsHead : {A : Type 0} → List Placed → Reading (Head A) → Type 0
ReadsHead ts r = (f : Side) (hs : List syntax.Head) (ps : syntax.Program) → Goes (run limited_room (state_before_item (side_section f hs) ps) ts) r (λ x. items_verdict (side_section f (hs ++ head_view x.0 ∷ [])) ps (placed_views x.1.now))

abbrev pub ReadsHeads : {A V : Type 0} → (V → List (Head A)) → Side → List Placed → Reading V → Type 0
ReadsHeads items f ts r = (ps : syntax.Program) → Goes (run limited_room (state_before_item (side_section f []) ps) ts) r (λ x. items_verdict (side_section f (head_views (items x.0))) ps (placed_views x.1.now))
