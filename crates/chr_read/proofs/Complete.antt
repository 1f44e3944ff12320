-- What the grammar spells, the automaton accepts.
use Rattle.std.proofs.Common.{◌≡◌, ℕ, List, [], ◌∷◌, ◌++◌, Bool, true, false, Option, Some, None, refl, sym, ◌∙◌, ap, append_assoc}
use Rattle.std.specs.Str.{encode_utf8_all}
use Rattle.std.specs.Prelude.{codes, pos, neg_ℤ}
use Rattle.chr_semantics.specs.Tokens as token
use Rattle.chr_semantics.specs.Tokens.{Place, Additive, minus, Multiplicative, Relation, Sign, opens, closes, opens_list, closes_list, comma, bar, label, backslash, hash, simplifies, propagates, slash, stop, Token, name, numeral, additive, multiplicative, relation, sign, over, Placed, at}
use Rattle.chr_semantics.specs.Syntax as syntax
use Rattle.chr_semantics.specs.Syntax.{Expr, exprs_of, variable, number, call, nil, list, Item, plain, related, Head, Arrow, simplification, propagation, Rule, Declaration, Part, ignored, Program, Query}
use Rattle.chr_semantics.specs.Grammar.{IsPrimary, a_variable, a_number, a_negative, a_name, a_call, in_parens, an_empty_list, a_list, a_list_with_end, IsProduct, one_factor, more_factors, IsSum, one_summand, more_summands, AreExprs, one_expr, more_exprs, IsItem, an_expr, a_relation, AreItems, one_item, more_items, IsHead, an_active_head, a_passive_head, AreHeads, one_head, more_heads, IsLabel, no_label, a_label, AreAllHeads, one_list, two_lists, arrow_sign, IsBody, no_guard, a_guard, IsRule, a_rule, IsDeclaration, a_symbol, AreDeclarations, one_symbol, more_symbols, AreExports, no_exports, some_exports, line_of, IsPart, a_chr_constraint, a_use_module, a_module, some_rule, AreParts, no_parts, more_parts, IsProgram, a_program, IsQuery, a_query}
use Rattle.chr_read.specs.Reads.{Slot, in_body, in_guarded, in_query, slot_section, Side, in_heads, in_behind, side_section}
use Rattle.chr_read.specs.Automaton as m
use Rattle.chr_read.proofs.Viable.{OfHeads}
use Rattle.chr_read.specs.Automaton.{Prefix, Frame, State, Section, heads, behind, body, guarded, asked, RuleStart, rule_start, Listing, want, signed, named, listed, have, between, directive, symbol, counted, declared, answered, asking, done, no_prefix, state_after_primary, state_before_item, section_with_head, section_with_item, items_step, rule_of, Verdict, accept, Step, goes, step_verdict, run, any_room}

-- What may follow an expression doesn't open an argument list. What begins one doesn't end a list.
abbrev pub NoOpen : List Placed → Type 0
NoOpen [] = Unit {0}
NoOpen (at a (sign opens) ∷ ts) = ⊥
NoOpen (t ∷ ts) = Unit {0}

abbrev pub NoEnd : List Placed → Type 0
NoEnd [] = ⊥
NoEnd (at a (sign closes_list) ∷ ts) = ⊥
NoEnd (t ∷ ts) = Unit {0}

-- A sum of this value is read: some summand is read, before which a sum may have begun.
pub record Reads (ts : List Placed) (e : Expr) : Type 0 where
  pub sum : Option (Expr × Additive)
  pub product : Expr
  pub is : m.sum_with sum product ≡ e
  pub runs : (k : List Frame) (rest : List Placed) → NoOpen rest → run any_room (want no_prefix k) (ts ++ rest) ≡ run any_room (have sum product k) rest

named_runs : (w : List ℕ) (b : Prefix) (k : List Frame) (rest : List Placed) → NoOpen rest → run any_room (named w b k) rest ≡ run any_room (state_after_primary b (call (encode_utf8_all w) (exprs_of [])) k) rest
named_runs w b k [] h = refl
named_runs w b k (at a (sign opens) ∷ ts) h = absurd h
named_runs w b k (at a t ∷ ts) h = refl

listed_runs : (b : Prefix) (k : List Frame) (ts : List Placed) → NoEnd ts → run any_room (listed b k) ts ≡ run any_room (want no_prefix (m.elements m.of_list [] b ∷ k)) ts
listed_runs b k [] h = absurd h
listed_runs b k (at a (sign closes_list) ∷ ts) h = absurd h
listed_runs b k (at a t ∷ ts) h = refl

primary_first : {ts : List Placed} {e : Expr} → IsPrimary ts e → (rest : List Placed) → NoEnd (ts ++ rest)
primary_first a_variable rest = tt
primary_first _ rest = tt

product_first : {ts : List Placed} {e : Expr} → IsProduct ts e → (rest : List Placed) → NoEnd (ts ++ rest)
product_first (one_factor p) rest = primary_first p rest
product_first (more_factors {ts} {us} {o} a p q) rest = rw append_assoc (product_first p (at a (multiplicative o) ∷ us ++ rest))

sum_first : {ts : List Placed} {e : Expr} → IsSum ts e → (rest : List Placed) → NoEnd (ts ++ rest)
sum_first (one_summand p) rest = product_first p rest
sum_first (more_summands {ts} {us} {o} a p q) rest = rw append_assoc (sum_first p (at a (additive o) ∷ us ++ rest))

exprs_first : {ts : List Placed} {es : List Expr} → AreExprs ts es → (rest : List Placed) → NoEnd (ts ++ rest)
exprs_first (one_expr p) rest = sum_first p rest
exprs_first (more_exprs {ts} {us} a p q) rest = rw append_assoc (exprs_first p (at a (sign comma) ∷ us ++ rest))

-- Elements are read: the last of them is not yet in the frame, in which those before it are. A comma puts it there.
pub record ReadsLast (ts : List Placed) (es : List Expr) : Type 0 where
  pub front : List Expr
  pub sum : Option (Expr × Additive)
  pub product : Expr
  pub is : front ++ m.sum_with sum product ∷ [] ≡ es
  pub runs : (q : m.Container) (b : Prefix) (k : List Frame) (rest : List Placed) → NoOpen rest → run any_room (want no_prefix (m.elements q [] b ∷ k)) (ts ++ rest) ≡ run any_room (have sum product (m.elements q front b ∷ k)) rest

regroup : (s : State) (v : Verdict) (ts us rest : List Placed) → run any_room s (ts ++ (us ++ rest)) ≡ v → run any_room s ((ts ++ us) ++ rest) ≡ v
regroup s v ts us rest e = rw append_assoc e

so : (b : Bool) (s : State) → b ≡ true → m.step_if b s ≡ goes s
so true s e = refl
so false s e = cc

-- a step that is known is made
stepped : (s s' : State) (t : Placed) (rest : List Placed) → m.step any_room s t ≡ goes s' → run any_room s (t ∷ rest) ≡ run any_room s' rest
stepped s s' t rest e = ap (λ x. step_verdict x (t ∷ rest) (λ s. run any_room s rest)) e

mutual
  pub primary_runs : {ts : List Placed} {e : Expr} → IsPrimary ts e → (b : Prefix) (k : List Frame) (rest : List Placed) → NoOpen rest → run any_room (want b k) (ts ++ rest) ≡ run any_room (state_after_primary b e k) rest
  primary_runs a_variable b k rest h = refl
  primary_runs (a_number {a = a} {signed = g} {n = n} small) b k rest h = stepped (want b k) (state_after_primary b (number (pos n)) k) (at a (numeral g n)) rest (so _ _ small)
  primary_runs (a_negative {b = c} {n = n} small) b k rest h = stepped (signed b k) (state_after_primary b (number (neg_ℤ (pos n))) k) (at c (numeral true n)) rest (so _ _ small)
  primary_runs (a_name {w = w}) b k rest h = named_runs w b k rest h
  primary_runs (a_call {w = w} {ts = ts} {es = es} c ps) b k rest h =
      let r = exprs_run ps in
      regroup (want no_prefix (m.elements (m.of_call w) [] b ∷ k)) _ ts (at c (sign closes) ∷ []) rest (r.runs (m.of_call w) b k (at c (sign closes) ∷ rest) tt ∙ ap (λ x. run any_room (state_after_primary b (call (encode_utf8_all w) (exprs_of x)) k) rest) r.is)
  primary_runs (in_parens {ts = ts} c p) b k rest h =
      let r = sum_runs p in
      regroup (want no_prefix (m.paren b ∷ k)) _ ts (at c (sign closes) ∷ []) rest (r.runs (m.paren b ∷ k) (at c (sign closes) ∷ rest) tt ∙ ap (λ x. run any_room (state_after_primary b x k) rest) r.is)
  primary_runs an_empty_list b k rest h = refl
  primary_runs (a_list {ts = ts} {es = es} c ps) b k rest h =
      let r = exprs_run ps in
      regroup (listed b k) _ ts (at c (sign closes_list) ∷ []) rest (listed_runs b k (ts ++ at c (sign closes_list) ∷ rest) (exprs_first ps _)
      ∙ r.runs m.of_list b k (at c (sign closes_list) ∷ rest) tt ∙ ap (λ x. run any_room (state_after_primary b (list x nil) k) rest) r.is)
  primary_runs (a_list_with_end {ts = ts} {us = us} {es = es} {e = e} c d ps p) b k rest h =
      let r = exprs_run ps in
      let z = sum_runs p in
      regroup (listed b k) _ (ts ++ at c (sign bar) ∷ us) (at d (sign closes_list) ∷ []) rest (regroup (listed b k) _ ts (at c (sign bar) ∷ us) (at d (sign closes_list) ∷ rest) (listed_runs b k (ts ++ (at c (sign bar) ∷ us ++ at d (sign closes_list) ∷ rest)) (exprs_first ps _)
      ∙ r.runs m.of_list b k (at c (sign bar) ∷ us ++ at d (sign closes_list) ∷ rest) tt
      ∙ ap (λ x. run any_room (want no_prefix (m.tail x b ∷ k)) (us ++ at d (sign closes_list) ∷ rest)) r.is
      ∙ z.runs (m.tail es b ∷ k) (at d (sign closes_list) ∷ rest) tt
      ∙ ap (λ x. run any_room (state_after_primary b (list es x) k) rest) z.is))

  pub product_runs : {ts : List Placed} {e : Expr} → IsProduct ts e → (s : Option (Expr × Additive)) (k : List Frame) (rest : List Placed) → NoOpen rest → run any_room (want (record { sum = s; product = None }) k) (ts ++ rest) ≡ run any_room (have s e k) rest
  product_runs (one_factor p) s k rest h = primary_runs p (record { sum = s; product = None }) k rest h
  product_runs (more_factors {ts} {us} {o} {e} a p q) s k rest h =
      rw append_assoc (product_runs p s k (at a (multiplicative o) ∷ us ++ rest) tt ∙ primary_runs q (record { sum = s; product = Some (e, o) }) k rest h)

  pub sum_runs : {ts : List Placed} {e : Expr} → IsSum ts e → Reads ts e
  sum_runs (one_summand {ts} {e} p) = record { sum = None; product = e; is = refl; runs = product_runs p None }
  sum_runs (more_summands {ts} {us} {o} {e} {f} a p q) = let r = sum_runs p in record {
    sum = Some (e, o);
    product = f;
    is = refl;
    runs = λ k rest h. rw append_assoc (r.runs k (at a (additive o) ∷ us ++ rest) tt ∙ ap (λ x. run any_room (want (record { sum = Some (x, o); product = None }) k) (us ++ rest)) r.is ∙ product_runs q (Some (e, o)) k rest h);
  }

  pub exprs_run : {ts : List Placed} {es : List Expr} → AreExprs ts es → ReadsLast ts es
  exprs_run (one_expr {ts} {e} p) = let r = sum_runs p in record { front = []; sum = r.sum; product = r.product; is = ap (λ x. x ∷ []) r.is; runs = λ q b k rest o. r.runs (m.elements q [] b ∷ k) rest o }
  exprs_run (more_exprs {ts} {us} {es} {e} a ps p) = let r = exprs_run ps in let z = sum_runs p in record {
    front = es;
    sum = z.sum;
    product = z.product;
    is = ap (λ x. es ++ x ∷ []) z.is;
    runs = λ q b k rest o. rw append_assoc (r.runs q b k (at a (sign comma) ∷ us ++ rest) tt
        ∙ ap (λ x. run any_room (want no_prefix (m.elements q x b ∷ k)) (us ++ rest)) r.is
        ∙ z.runs (m.elements q es b ∷ k) rest o);
  }

-- the signs that end an item
abbrev pub Ends : Token → Type 0
Ends (sign comma) = Unit {0}
Ends (sign backslash) = Unit {0}
Ends (sign simplifies) = Unit {0}
Ends (sign propagates) = Unit {0}
Ends (sign bar) = Unit {0}
Ends (sign stop) = Unit {0}
Ends _ = ⊥

no_open : (a : Place) (t : Token) (rest : List Placed) → Ends t → NoOpen (at a t ∷ rest)
no_open a (sign comma) rest h = tt
no_open a (sign backslash) rest h = tt
no_open a (sign simplifies) rest h = tt
no_open a (sign propagates) rest h = tt
no_open a (sign bar) rest h = tt
no_open a (sign stop) rest h = tt
no_open a _ rest h = absurd h

alone_ends : (q : Section) (ps : Program) (s : Option (Expr × Additive)) (e : Expr) (t : Token) → Ends t → m.operator_step s e (m.item q ps ∷ []) t ≡ items_step t (section_with_item q (plain (m.sum_with s e))) ps
alone_ends q ps s e (sign comma) h = refl
alone_ends q ps s e (sign backslash) h = refl
alone_ends q ps s e (sign simplifies) h = refl
alone_ends q ps s e (sign propagates) h = refl
alone_ends q ps s e (sign bar) h = refl
alone_ends q ps s e (sign stop) h = refl
alone_ends q ps s e _ h = absurd h

right_ends : (q : Section) (ps : Program) (r : Relation) (d : Expr) (s : Option (Expr × Additive)) (e : Expr) (t : Token) → Ends t → m.operator_step s e (m.right q ps r d ∷ []) t ≡ items_step t (section_with_item q (related r d (m.sum_with s e))) ps
right_ends q ps r d s e (sign comma) h = refl
right_ends q ps r d s e (sign backslash) h = refl
right_ends q ps r d s e (sign simplifies) h = refl
right_ends q ps r d s e (sign propagates) h = refl
right_ends q ps r d s e (sign bar) h = refl
right_ends q ps r d s e (sign stop) h = refl
right_ends q ps r d s e _ h = absurd h

-- the heads of a rule, of which one may be passive
alone_hash : (q : Section) (ps : Program) (s : Option (Expr × Additive)) (e : Expr) → OfHeads q → m.operator_step s e (m.item q ps ∷ []) (sign hash) ≡ goes (m.hashed q (plain (m.sum_with s e)) ps)
alone_hash (heads l n hs) ps s e h = refl
alone_hash (behind l n hs js) ps s e h = refl
alone_hash _ ps s e h = absurd h

right_hash : (q : Section) (ps : Program) (r : Relation) (d : Expr) (s : Option (Expr × Additive)) (e : Expr) → OfHeads q → m.operator_step s e (m.right q ps r d ∷ []) (sign hash) ≡ goes (m.hashed q (related r d (m.sum_with s e)) ps)
right_hash (heads l n hs) ps r d s e h = refl
right_hash (behind l n hs js) ps r d s e h = refl
right_hash _ ps r d s e h = absurd h

-- An item is read: what is left open is its one expression, or the right one of a comparison.
record ReadsItem (ts : List Placed) (i : Item) : Type 0 where
  k : Section → Program → List Frame
  sum : Option (Expr × Additive)
  product : Expr
  ends : (q : Section) (ps : Program) (t : Token) → Ends t → m.operator_step sum product (k q ps) t ≡ items_step t (section_with_item q i) ps
  marks : (q : Section) (ps : Program) → OfHeads q → m.operator_step sum product (k q ps) (sign hash) ≡ goes (m.hashed q i ps)
  runs : (q : Section) (ps : Program) (rest : List Placed) → NoOpen rest → run any_room (state_before_item q ps) (ts ++ rest) ≡ run any_room (have sum product (k q ps)) rest

item_runs : {ts : List Placed} {i : Item} → IsItem ts i → ReadsItem ts i
item_runs (an_expr {ts} {e} p) = let r = sum_runs p in record {
  k = λ q ps. m.item q ps ∷ [];
  sum = r.sum;
  product = r.product;
  ends = λ q ps t o. alone_ends q ps r.sum r.product t o ∙ ap (λ x. items_step t (section_with_item q (plain x)) ps) r.is;
  marks = λ q ps o. alone_hash q ps r.sum r.product o ∙ ap (λ x. goes (m.hashed q (plain x) ps)) r.is;
  runs = λ q ps rest o. r.runs (m.item q ps ∷ []) rest o;
}
item_runs (a_relation {ts} {us} {r} {e} {f} a p q) = let x = sum_runs p in let z = sum_runs q in record {
  k = λ q ps. m.right q ps r e ∷ [];
  sum = z.sum;
  product = z.product;
  ends = λ q ps t o. right_ends q ps r e z.sum z.product t o ∙ ap (λ x. items_step t (section_with_item q (related r e x)) ps) z.is;
  marks = λ q ps o. right_hash q ps r e z.sum z.product o ∙ ap (λ x. goes (m.hashed q (related r e x) ps)) z.is;
  runs = λ q ps rest o. rw append_assoc (x.runs (m.item q ps ∷ []) (at a (relation r) ∷ us ++ rest) tt
      ∙ ap (λ x. run any_room (want no_prefix (m.right q ps r x ∷ [])) (us ++ rest)) x.is
      ∙ z.runs (m.right q ps r e ∷ []) rest o);
}

-- an item, or a head, is read up to the sign that ends it
item_run : {ts : List Placed} {i : Item} → IsItem ts i → (q : Section) (ps : Program) (a : Place) (t : Token) (rest : List Placed) → Ends t
    → run any_room (state_before_item q ps) (ts ++ at a t ∷ rest) ≡ step_verdict (items_step t (section_with_item q i) ps) (at a t ∷ rest) (λ s. run any_room s rest)
item_run p q ps a t rest o = let r = item_runs p in r.runs q ps (at a t ∷ rest) (no_open a t rest o) ∙ ap (λ x. step_verdict x (at a t ∷ rest) (λ s. run any_room s rest)) (r.ends q ps t o)

head_run : {ts : List Placed} {h : Head} → IsHead ts h → (q : Section) (ps : Program) → OfHeads q → (a : Place) (t : Token) (rest : List Placed) → Ends t
    → run any_room (state_before_item q ps) (ts ++ at a t ∷ rest) ≡ step_verdict (items_step t (section_with_head q h.passive h.item) ps) (at a t ∷ rest) (λ s. run any_room s rest)
head_run (an_active_head p) q ps f a t rest o = item_run p q ps a t rest o
head_run (a_passive_head {ts} {i} b c p) q ps f a t rest o =
    let r = item_runs p in
    regroup (state_before_item q ps) _ ts (at b (sign hash) ∷ at c (name (codes "passive")) ∷ []) (at a t ∷ rest)
    (r.runs q ps (at b (sign hash) ∷ at c (name (codes "passive")) ∷ at a t ∷ rest) tt ∙ ap (λ x. step_verdict x (at b (sign hash) ∷ at c (name (codes "passive")) ∷ at a t ∷ rest) (λ s. run any_room s (at c (name (codes "passive")) ∷ at a t ∷ rest))) (r.marks q ps f))

filled_more : (f : Slot) (is : List Item) (i : Item) → section_with_item (slot_section f is) i ≡ slot_section f (is ++ i ∷ [])
filled_more (in_body s) is i = refl
filled_more (in_guarded s gs) is i = refl
filled_more (in_query l) is i = refl

items_run : {ts : List Placed} {is : List Item} → AreItems ts is → (f : Slot) (ps : Program) (a : Place) (t : Token) (rest : List Placed) → Ends t
    → run any_room (state_before_item (slot_section f []) ps) (ts ++ at a t ∷ rest) ≡ step_verdict (items_step t (slot_section f is) ps) (at a t ∷ rest) (λ s. run any_room s rest)
items_run (one_item {ts} {i} p) f ps a t rest o = item_run p (slot_section f []) ps a t rest o ∙ ap (λ q. step_verdict (items_step t q ps) (at a t ∷ rest) (λ s. run any_room s rest)) (filled_more f [] i)
items_run (more_items {ts} {us} {is} {i} b p q) f ps a t rest o =
    rw append_assoc (items_run p f ps b (sign comma) (us ++ at a t ∷ rest) tt
    ∙ item_run q (slot_section f is) ps a t rest o
    ∙ ap (λ q. step_verdict (items_step t q ps) (at a t ∷ rest) (λ s. run any_room s rest)) (filled_more f is i))

headed_more : (f : Side) (hs : List Head) (h : Head) → section_with_head (side_section f hs) h.passive h.item ≡ side_section f (hs ++ h ∷ [])
headed_more (in_heads l n) hs h = refl
headed_more (in_behind l n js) hs h = refl

are_headed : (f : Side) (hs : List Head) → OfHeads (side_section f hs)
are_headed (in_heads l n) hs = tt
are_headed (in_behind l n js) hs = tt

heads_run : {ts : List Placed} {hs : List Head} → AreHeads ts hs → (f : Side) (ps : Program) (a : Place) (t : Token) (rest : List Placed) → Ends t
    → run any_room (state_before_item (side_section f []) ps) (ts ++ at a t ∷ rest) ≡ step_verdict (items_step t (side_section f hs) ps) (at a t ∷ rest) (λ s. run any_room s rest)
heads_run (one_head {ts} {h} p) f ps a t rest o = head_run p (side_section f []) ps (are_headed f []) a t rest o ∙ ap (λ q. step_verdict (items_step t q ps) (at a t ∷ rest) (λ s. run any_room s rest)) (headed_more f [] h)
heads_run (more_heads {ts} {us} {hs} {h} b p q) f ps a t rest o =
    rw append_assoc (heads_run p f ps b (sign comma) (us ++ at a t ∷ rest) (comma_ends f hs)
    ∙ comma_wants f ps hs b (us ++ at a t ∷ rest)
    ∙ head_run q (side_section f hs) ps (are_headed f hs) a t rest o
    ∙ ap (λ q. step_verdict (items_step t q ps) (at a t ∷ rest) (λ s. run any_room s rest)) (headed_more f hs h))
  where
    comma_ends : (f : Side) (hs : List Head) → Ends (sign comma)
    comma_ends f hs = tt

    comma_wants : (f : Side) (ps : Program) (hs : List Head) (b : Place) (rest : List Placed) → step_verdict (items_step (sign comma) (side_section f hs) ps) (at b (sign comma) ∷ rest) (λ s. run any_room s rest) ≡ run any_room (state_before_item (side_section f hs) ps) rest
    comma_wants f ps hs b rest = refl

arrow_ends : (r : Arrow) → Ends (sign (arrow_sign r))
arrow_ends simplification = tt
arrow_ends propagation = tt

arrow_heads : (r : Arrow) (l : ℕ) (n : Option (List ℕ)) (hs : List Head) (ps : Program) → items_step (sign (arrow_sign r)) (heads l n hs) ps ≡ goes (state_before_item (body (rule_start l n hs [] r) []) ps)
arrow_heads simplification l n hs ps = refl
arrow_heads propagation l n hs ps = refl

arrow_behind : (r : Arrow) (l : ℕ) (n : Option (List ℕ)) (hs js : List Head) (ps : Program) → items_step (sign (arrow_sign r)) (behind l n hs js) ps ≡ goes (state_before_item (body (rule_start l n hs js r) []) ps)
arrow_behind simplification l n hs js ps = refl
arrow_behind propagation l n hs js ps = refl

all_heads_run : {ts : List Placed} {hs js : List Head} → AreAllHeads ts hs js → (l : ℕ) (n : Option (List ℕ)) (ps : Program) (r : Arrow) (a : Place) (rest : List Placed)
    → run any_room (state_before_item (heads l n []) ps) (ts ++ at a (sign (arrow_sign r)) ∷ rest) ≡ run any_room (state_before_item (body (rule_start l n hs js r) []) ps) rest
all_heads_run (one_list {hs = hs} p) l n ps r a rest =
    heads_run p (in_heads l n) ps a (sign (arrow_sign r)) rest (arrow_ends r) ∙ ap (λ x. step_verdict x (at a (sign (arrow_sign r)) ∷ rest) (λ s. run any_room s rest)) (arrow_heads r l n hs ps)
all_heads_run (two_lists {ts} {us} {hs} {js} b p q) l n ps r a rest =
    rw append_assoc (heads_run p (in_heads l n) ps b (sign backslash) (us ++ at a (sign (arrow_sign r)) ∷ rest) tt
    ∙ heads_run q (in_behind l n hs) ps a (sign (arrow_sign r)) rest (arrow_ends r)
    ∙ ap (λ x. step_verdict x (at a (sign (arrow_sign r)) ∷ rest) (λ s. run any_room s rest)) (arrow_behind r l n hs js ps))

body_run : {ts : List Placed} {gs is : List Item} → IsBody ts gs is → (s : RuleStart) (ps : Program) (a : Place) (rest : List Placed)
    → run any_room (state_before_item (body s []) ps) (ts ++ at a (sign stop) ∷ rest) ≡ run any_room (between (ps ++ rule_of s gs is ∷ [])) rest
body_run (no_guard p) s ps a rest = items_run p (in_body s) ps a (sign stop) rest tt
body_run (a_guard {ts} {us} {gs} {is} b p q) s ps a rest = rw append_assoc (items_run p (in_body s) ps b (sign bar) (us ++ at a (sign stop) ∷ rest) tt ∙ items_run q (in_guarded s gs) ps a (sign stop) rest tt)

-- what begins a rule without a name is no directive, and has no `@` after a first name
abbrev NoAt : List Placed → Type 0
NoAt [] = Unit {0}
NoAt (at a (sign label) ∷ ts) = ⊥
NoAt (t ∷ ts) = Unit {0}

abbrev NoLabel : List Placed → Type 0
NoLabel [] = ⊥
NoLabel (at a (name w) ∷ ts) = NoAt ts
NoLabel (at a over ∷ ts) = ⊥
NoLabel (at a (sign token.declares) ∷ ts) = ⊥
NoLabel (t ∷ ts) = Unit {0}

primary_label : {ts : List Placed} {e : Expr} → IsPrimary ts e → (rest : List Placed) → NoAt rest → NoLabel (ts ++ rest)
primary_label a_name rest h = h
primary_label _ rest h = tt

product_label : {ts : List Placed} {e : Expr} → IsProduct ts e → (rest : List Placed) → NoAt rest → NoLabel (ts ++ rest)
product_label (one_factor p) rest h = primary_label p rest h
product_label (more_factors {ts} {us} {o} a p q) rest h = rw append_assoc (product_label p (at a (multiplicative o) ∷ us ++ rest) tt)

sum_label : {ts : List Placed} {e : Expr} → IsSum ts e → (rest : List Placed) → NoAt rest → NoLabel (ts ++ rest)
sum_label (one_summand p) rest h = product_label p rest h
sum_label (more_summands {ts} {us} {o} a p q) rest h = rw append_assoc (sum_label p (at a (additive o) ∷ us ++ rest) tt)

item_label : {ts : List Placed} {i : Item} → IsItem ts i → (rest : List Placed) → NoAt rest → NoLabel (ts ++ rest)
item_label (an_expr p) rest h = sum_label p rest h
item_label (a_relation {ts} {us} {r} a p q) rest h = rw append_assoc (sum_label p (at a (relation r) ∷ us ++ rest) tt)

head_label : {ts : List Placed} {h : Head} → IsHead ts h → (rest : List Placed) → NoAt rest → NoLabel (ts ++ rest)
head_label (an_active_head p) rest h = item_label p rest h
head_label (a_passive_head {ts} a b p) rest h = rw append_assoc (item_label p (at a (sign hash) ∷ at b (name (codes "passive")) ∷ rest) tt)

heads_label : {ts : List Placed} {hs : List Head} → AreHeads ts hs → (rest : List Placed) → NoAt rest → NoLabel (ts ++ rest)
heads_label (one_head p) rest h = head_label p rest h
heads_label (more_heads {ts} {us} a p q) rest h = rw append_assoc (heads_label p (at a (sign comma) ∷ us ++ rest) tt)

all_heads_label : {ts : List Placed} {hs js : List Head} → AreAllHeads ts hs js → (rest : List Placed) → NoAt rest → NoLabel (ts ++ rest)
all_heads_label (one_list p) rest h = heads_label p rest h
all_heads_label (two_lists {ts} {us} a p q) rest h = rw append_assoc (heads_label p (at a (sign backslash) ∷ us ++ rest) tt)

between_runs : (ps : Program) (ts : List Placed) → NoLabel ts → run any_room (between ps) ts ≡ run any_room (state_before_item (heads (line_of ts) None []) ps) ts
between_runs ps [] h = absurd h
between_runs ps (at a (name w) ∷ []) h = refl
between_runs ps (at a (name w) ∷ at b (sign label) ∷ ts) h = absurd h
between_runs ps (at a (name w) ∷ at b (sign opens) ∷ ts) h = refl
between_runs ps (at a (name w) ∷ at b t ∷ ts) h = refl
between_runs ps (at a over ∷ ts) h = absurd h
between_runs ps (at a (sign token.declares) ∷ ts) h = absurd h
between_runs ps (at a t ∷ ts) h = refl

-- what comes after a token leaves the line as it is
same_line : (xs : List Placed) (t : Placed) (ys zs : List Placed) → line_of (xs ++ t ∷ ys) ≡ line_of (xs ++ t ∷ zs)
same_line [] (at p t) ys zs = refl
same_line (at p t ∷ xs) u ys zs = refl

label_run : {ls ts : List Placed} {n : Option (List ℕ)} {hs js : List Head} → IsLabel ls n → AreAllHeads ts hs js → (ps : Program) (t : Placed) (rest : List Placed) → NoAt (t ∷ rest)
    → run any_room (between ps) (ls ++ (ts ++ t ∷ rest)) ≡ run any_room (state_before_item (heads (line_of (ls ++ (ts ++ t ∷ rest))) n []) ps) (ts ++ t ∷ rest)
label_run no_label h ps t rest o = between_runs ps _ (all_heads_label h (t ∷ rest) o)
label_run a_label h ps t rest o = refl

arrow_no_at : (r : Arrow) (a : Place) (rest : List Placed) → NoAt (at a (sign (arrow_sign r)) ∷ rest)
arrow_no_at simplification a rest = tt
arrow_no_at propagation a rest = tt

rule_run : {ts : List Placed} {r : Rule} → IsRule ts r → (ps : Program) (rest : List Placed) → run any_room (between ps) (ts ++ rest) ≡ run any_room (between (ps ++ syntax.rule (line_of ts) r ∷ [])) rest
rule_run (a_rule {ls} {ts} {us} {l} {hs} {js} {gs} {is} r a b p q s) ps rest =
    let arrow = at a (sign (arrow_sign r)) in
    let e : (ls ++ (ts ++ arrow ∷ (us ++ at b (sign stop) ∷ []))) ++ rest ≡ ls ++ (ts ++ (arrow ∷ (us ++ at b (sign stop) ∷ rest))) = simp append_assoc in
    let line : line_of (ls ++ (ts ++ arrow ∷ (us ++ at b (sign stop) ∷ rest))) ≡ line_of (ls ++ (ts ++ arrow ∷ (us ++ at b (sign stop) ∷ []))) =
    ap line_of (sym (append_assoc ls ts _)) ∙ same_line (ls ++ ts) arrow _ _ ∙ ap line_of (append_assoc ls ts _) in
    ap (run any_room (between ps)) e
    ∙ label_run p q ps arrow (us ++ at b (sign stop) ∷ rest) (arrow_no_at r a _)
    ∙ all_heads_run q _ l ps r a (us ++ at b (sign stop) ∷ rest)
    ∙ body_run s (rule_start _ l hs js r) ps b rest
    ∙ ap (λ n. run any_room (between (ps ++ syntax.rule n (record { label = l; heads = hs; behind = js; arrow = r; guard = gs; body = is }) ∷ [])) rest) line

-- symbols are read: those before the last token of the list are done
abbrev listing : Bool → ℕ → Program → List Declaration → Listing
listing m l ps ds = record { is_module = m; line = l; parts = ps; done = ds }

symbol_run : {ts : List Placed} {d : Declaration} → IsDeclaration ts d → (m : Bool) (l : ℕ) (ps : Program) (ds : List Declaration) (rest : List Placed)
    → run any_room (symbol (listing m l ps ds)) (ts ++ rest) ≡ run any_room (declared (listing m l ps (ds ++ d ∷ []))) rest
symbol_run (a_symbol {c = c} {w = w} {signed = g} {n = n} small) m l ps ds rest =
    stepped (counted (listing m l ps ds) w) (declared (listing m l ps (ds ++ record { name = encode_utf8_all w; arity = n } ∷ []))) (at c (numeral g n)) rest (so _ _ small)

symbols_run : {ts : List Placed} {ds : List Declaration} → AreDeclarations ts ds → (m : Bool) (l : ℕ) (ps : Program) (rest : List Placed)
    → run any_room (symbol (listing m l ps [])) (ts ++ rest) ≡ run any_room (declared (listing m l ps ds)) rest
symbols_run (one_symbol p) m l ps rest = symbol_run p m l ps [] rest
symbols_run (more_symbols {ts} {us} {ds} {d} a p q) m l ps rest = rw append_assoc (symbols_run p m l ps (at a (sign comma) ∷ us ++ rest) ∙ symbol_run q m l ps ds rest)

-- exports begin with a symbol, or end at once
exporting_runs : {ts : List Placed} {ds : List Declaration} → AreDeclarations ts ds → (l : ℕ) (ps : Program) (rest : List Placed)
    → run any_room (m.exporting l ps) (ts ++ rest) ≡ run any_room (symbol (listing true l ps [])) (ts ++ rest)
exporting_runs (one_symbol (a_symbol small)) l ps rest = refl
exporting_runs (more_symbols {ts} {us} a p q) l ps rest = rw append_assoc (exporting_runs p l ps (at a (sign comma) ∷ us ++ rest))

exports_run : {ts : List Placed} → AreExports ts → (l : ℕ) (ps : Program) (a : Place) (rest : List Placed)
    → run any_room (m.exporting l ps) (ts ++ at a (sign closes_list) ∷ rest) ≡ run any_room (m.state_after_exports l ps) rest
exports_run no_exports l ps a rest = refl
exports_run (some_exports p) l ps a rest = exporting_runs p l ps (at a (sign closes_list) ∷ rest) ∙ symbols_run p true l ps (at a (sign closes_list) ∷ rest)

part_run : {ts : List Placed} {p : Part} → IsPart ts p → (ps : Program) (rest : List Placed) → run any_room (between ps) (ts ++ rest) ≡ run any_room (between (ps ++ p ∷ [])) rest
part_run (a_chr_constraint {a} {b} {ts} {ds} c p) ps rest =
    regroup (symbol (listing false a.line ps [])) _ ts (at c (sign stop) ∷ []) rest (symbols_run p false a.line ps (at c (sign stop) ∷ rest))
part_run a_use_module ps rest = refl
part_run (a_module {a = a} {ts = ts} g h i p) ps rest =
    regroup (m.exporting a.line ps) _ ts (at g (sign closes_list) ∷ at h (sign closes) ∷ at i (sign stop) ∷ []) rest (exports_run p a.line ps g (at h (sign closes) ∷ at i (sign stop) ∷ rest))
part_run (some_rule p) ps rest = rule_run p ps rest

parts_run : {ts : List Placed} {ps : Program} → AreParts ts ps → (rest : List Placed) → run any_room (between []) (ts ++ rest) ≡ run any_room (between ps) rest
parts_run no_parts rest = refl
parts_run (more_parts {ts} {us} {ps} {p} h k) rest = rw append_assoc (parts_run h (us ++ rest) ∙ part_run k ps rest)

-- what is a program, or a query, is accepted
pub program_runs : {ts : List Placed} {ps : Program} → IsProgram ts ps → run any_room (between []) ts ≡ accept (m.program ps)
program_runs (a_program a h) = parts_run h (at a over ∷ [])

-- items are not empty
pub items_not_empty : {ts : List Placed} {is : List Item} → AreItems ts is → (rest : List Placed) → NoEnd (ts ++ rest)
items_not_empty (one_item (an_expr p)) rest = sum_first p rest
items_not_empty (one_item (a_relation {ts} {us} {r} a p q)) rest = rw append_assoc (sum_first p (at a (relation r) ∷ us ++ rest))
items_not_empty (more_items {ts} {us} a p q) rest = rw append_assoc (items_not_empty p (at a (sign comma) ∷ us ++ rest))

asking_runs : (ts : List Placed) → NoEnd ts → run any_room asking ts ≡ run any_room (state_before_item (asked (line_of ts) []) []) ts
asking_runs [] h = absurd h
asking_runs (at a t ∷ ts) h = refl

line_of_items : (ts rest : List Placed) → NoEnd (ts ++ []) → line_of (ts ++ rest) ≡ line_of ts
line_of_items [] rest h = absurd h
line_of_items (at a t ∷ ts) rest h = refl

pub query_runs : {ts : List Placed} {q : Query} → IsQuery ts q → run any_room asking ts ≡ accept (m.query q)
query_runs (a_query {ts} {is} a b h) =
    let rest = at a (sign stop) ∷ at b over ∷ [] in
    asking_runs (ts ++ rest) (items_not_empty h rest)
    ∙ items_run h (in_query (line_of (ts ++ rest))) [] a (sign stop) (at b over ∷ []) tt
    ∙ ap (λ l. accept (m.query (record { line = l; items = is }))) (line_of_items ts rest (items_not_empty h []))
