-- Steps of the limited automaton in a directive, that the reader takes at once.
use Rattle.std.proofs.Common.{◌≡◌, ℕ, List, [], ◌∷◌, ◌++◌, true, false, bytes_eq, codes, refl, length, ◌<◌, arith}
use Rattle.chr_semantics.specs.Tokens.{Place, closes_list, comma, name, over, sign, stop, Placed, at}
use Rattle.chr_semantics.specs.Tokens as token
use Rattle.chr_semantics.specs.Syntax.{Declaration, Item, Program, Query, ignored}
use Rattle.chr_semantics.specs.Grammar.{line_of}
use Rattle.chr_read.specs.Automaton.{SyntaxTree, accept, answered, asked, asking, between, declared, directive, done, expected, exporting, fixed, library_words, limited_room, module_words, run, symbol, state_before_item}
use Rattle.chr_read.specs.Reads.{BeginsWith, Lacks, NoName, items_verdict}
use Rattle.chr_read.specs.Parts.{BeginsRule, NoOver, listing}

-- a first token that symbols do not go on with
pub declared_refuses : (l : ℕ) (ps : Program) (ds : List Declaration) (ts : List Placed) → Lacks comma ts → Lacks stop ts → run limited_room (declared (listing false l ps ds)) ts ≡ expected ts
declared_refuses l ps ds [] c a = refl
declared_refuses l ps ds (at p (sign comma) ∷ ts) c a = absurd (c refl)
declared_refuses l ps ds (at p (sign stop) ∷ ts) c a = absurd (a refl)
declared_refuses l ps ds (at p t ∷ ts) c a = refl

pub exported_refuses : (l : ℕ) (ps : Program) (ds : List Declaration) (ts : List Placed) → Lacks comma ts → Lacks closes_list ts → run limited_room (declared (listing true l ps ds)) ts ≡ expected ts
exported_refuses l ps ds [] c a = refl
exported_refuses l ps ds (at p (sign comma) ∷ ts) c a = absurd (c refl)
exported_refuses l ps ds (at p (sign closes_list) ∷ ts) c a = absurd (a refl)
exported_refuses l ps ds (at p t ∷ ts) c a = refl

-- exports that do not end at once are symbols
pub exporting_begins : (l : ℕ) (ps : Program) (ts : List Placed) → Lacks closes_list ts → run limited_room (exporting l ps) ts ≡ run limited_room (symbol (listing true l ps [])) ts
exporting_begins l ps [] h = refl
exporting_begins l ps (at p (sign closes_list) ∷ ts) h = absurd (h refl)
exporting_begins l ps (at p (name w) ∷ ts) h = refl
exporting_begins l ps (at p t ∷ ts) h = refl

-- a query begins with its items
pub asking_begins : (ts : List Placed) → run limited_room asking ts ≡ run limited_room (state_before_item (asked (line_of ts) []) []) ts
asking_begins [] = refl
asking_begins (at p t ∷ ts) = refl

-- what is no end and no directive begins a rule
pub begins_rule : (ts : List Placed) → NoOver ts → Lacks token.declares ts → BeginsRule ts
begins_rule [] h i = tt
begins_rule (at p over ∷ ts) h i = absurd h
begins_rule (at p (sign token.declares) ∷ ts) h i = absurd (i refl)
begins_rule (at p t ∷ ts) h i = tt

-- a directive goes on by its word
pub declares_symbols : (l : ℕ) (ps : Program) (w : List ℕ) (ts rest : List Placed) → BeginsWith ts (name w) rest → bytes_eq w (codes "chr_constraint") ≡ true → run limited_room (directive l ps) ts ≡ run limited_room (symbol (listing false l ps [])) rest
declares_symbols l ps w ts rest first is = rw (first.are, is) refl

pub uses_module : (l : ℕ) (ps : Program) (w : List ℕ) (ts rest : List Placed) → BeginsWith ts (name w) rest → bytes_eq w (codes "chr_constraint") ≡ false → bytes_eq w (codes "use_module") ≡ true → run limited_room (directive l ps) ts ≡ run limited_room (fixed library_words (between (ps ++ ignored l ∷ []))) rest
uses_module l ps w ts rest first is_no_first is = rw (first.are, is_no_first, is) refl

pub begins_module : (l : ℕ) (ps : Program) (w : List ℕ) (ts rest : List Placed) → BeginsWith ts (name w) rest → bytes_eq w (codes "chr_constraint") ≡ false → bytes_eq w (codes "use_module") ≡ false → bytes_eq w (codes "module") ≡ true → run limited_room (directive l ps) ts ≡ run limited_room (fixed module_words (exporting l ps)) rest
begins_module l ps w ts rest first is_no_first is_no_second is = rw (first.are, is_no_first, is_no_second, is) refl

pub directive_refuses : (l : ℕ) (ps : Program) (ts : List Placed) → NoName ts → run limited_room (directive l ps) ts ≡ expected ts
directive_refuses l ps [] h = refl
directive_refuses l ps (at p (name w) ∷ ts) h = absurd h
directive_refuses l ps (at p t ∷ ts) h = refl

pub word_refuses : (l : ℕ) (ps : Program) (w : List ℕ) (ts rest : List Placed) → BeginsWith ts (name w) rest → bytes_eq w (codes "chr_constraint") ≡ false → bytes_eq w (codes "use_module") ≡ false → bytes_eq w (codes "module") ≡ false → run limited_room (directive l ps) ts ≡ expected ts
word_refuses l ps w ts rest first is_no_first is_no_second is_no_third = rw (first.are, is_no_first, is_no_second, is_no_third) refl

-- what does not end a query
pub asked_refuses : (l : ℕ) (is : List Item) (ps : Program) (ts : List Placed) → Lacks comma ts → Lacks stop ts → items_verdict (asked l is) ps ts ≡ expected ts
asked_refuses l is ps [] c a = refl
asked_refuses l is ps (at p (sign comma) ∷ ts) c a = absurd (c refl)
asked_refuses l is ps (at p (sign stop) ∷ ts) c a = absurd (a refl)
asked_refuses l is ps (at p t ∷ ts) c a = refl

pub answered_refuses : (q : Query) (ts : List Placed) → NoOver ts → run limited_room (answered q) ts ≡ expected ts
answered_refuses q [] h = refl
answered_refuses q (at p over ∷ ts) h = absurd h
answered_refuses q (at p t ∷ ts) h = refl

-- after the end of a text there is nothing
pub done_ends : (x : SyntaxTree) (ts : List Placed) → length ts ≡ 0 → run limited_room (done x) ts ≡ accept x
done_ends x [] h = refl
done_ends x (t ∷ ts) h = absurd (omega (arith, h))

pub done_refuses : (x : SyntaxTree) (ts : List Placed) → 0 < length ts → run limited_room (done x) ts ≡ expected ts
done_refuses x [] h = absurd (omega arith)
done_refuses x (at p t ∷ ts) h = refl
