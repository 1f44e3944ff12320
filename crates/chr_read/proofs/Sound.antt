-- What the automaton accepts, the grammar spells.
use Rattle.std.proofs.Common.{◌≡◌, ℕ, List, [], ◌∷◌, ◌++◌, Bool, true, false, cond, Option, Some, None, refl, sym, ◌∙◌, ap, subst, append_assoc, append-nil}
use Rattle.std.proofs.lemmas.Slice.Eq.{bytes_eq-Decides}
use Rattle.std.specs.Prelude.{codes, pos, neg_ℤ, bytes_eq}
use Rattle.chr_semantics.specs.Tokens as token
use Rattle.chr_semantics.specs.Tokens.{Place, Additive, plus, minus, Multiplicative, Relation, Sign, opens, closes, opens_list, closes_list, comma, bar, label, backslash, hash, simplifies, propagates, slash, stop, Token, name, numeral, additive, multiplicative, relation, sign, over, Placed, at}
use Rattle.chr_semantics.specs.Syntax as syntax
use Rattle.chr_semantics.specs.Syntax.{Expr, exprs_of, variable, number, call, nil, list, Item, plain, related, Head, Arrow, simplification, propagation, Rule, Declaration, Part, ignored, Program, Query}
use Rattle.chr_semantics.specs.Grammar.{is_number, is_magnitude, IsPrimary, a_variable, a_number, a_negative, a_name, a_call, in_parens, an_empty_list, a_list, a_list_with_end, IsProduct, one_factor, more_factors, IsSum, one_summand, more_summands, AreExprs, one_expr, more_exprs, IsItem, an_expr, a_relation, AreItems, one_item, more_items, IsHead, an_active_head, a_passive_head, AreHeads, one_head, more_heads, IsLabel, no_label, a_label, AreAllHeads, one_list, two_lists, arrow_sign, no_guard, a_guard, IsRule, a_rule, IsDeclaration, a_symbol, AreDeclarations, one_symbol, more_symbols, AreExports, no_exports, some_exports, line_of, IsPart, a_chr_constraint, a_use_module, a_module, some_rule, AreParts, no_parts, more_parts, a_program, a_query}
use Rattle.chr_read.proofs.Complete.{NoEnd, items_not_empty}
use Rattle.chr_read.specs.Automaton as m
use Rattle.chr_read.proofs.Viable.{OfHeads}
use Rattle.chr_read.specs.Automaton.{Prefix, Frame, State, Section, heads, behind, body, guarded, asked, RuleStart, rule_start, Listing, Wanted, a_word, any_name, a_sign, is_wanted, is_same_sign, want, signed, named, listed, have, hashed, marked, between, labelled, directive, fixed, symbol, slashed, counted, declared, exporting, answered, asking, done, no_prefix, state_after_primary, state_before_item, section_with_head, section_with_item, items_step, rule_of, SyntaxTree, Language, programs, queries, Spells, first_state, Verdict, accept, Step, goes, refused, deep, step_verdict, run, any_room}

abbrev IfGoes : Step → (State → Type 0) → Type 0
IfGoes (goes s) P = P s
IfGoes _ P = Unit {0}

-- These tokens spell a sum that has begun, up to its operator; a product; elements, up to the comma; items, heads and symbols.
data SumBegun : List Placed → Option (Expr × Additive) → Type 0 where
  no_sum : SumBegun [] None
  a_sum : {ts : List Placed} {e : Expr} {o : Additive} (a : Place) → IsSum ts e → SumBegun (ts ++ at a (additive o) ∷ []) (Some (e, o))

data ProductBegun : List Placed → Option (Expr × Multiplicative) → Type 0 where
  no_product : ProductBegun [] None
  a_product : {ts : List Placed} {e : Expr} {o : Multiplicative} (a : Place) → IsProduct ts e → ProductBegun (ts ++ at a (multiplicative o) ∷ []) (Some (e, o))

data ExprsBegun : List Placed → List Expr → Type 0 where
  no_exprs : ExprsBegun [] []
  some_exprs : {ts : List Placed} {es : List Expr} (a : Place) → AreExprs ts es → ExprsBegun (ts ++ at a (sign comma) ∷ []) es

data ItemsBegun : List Placed → List Item → Type 0 where
  no_items : ItemsBegun [] []
  some_items : {ts : List Placed} {is : List Item} (a : Place) → AreItems ts is → ItemsBegun (ts ++ at a (sign comma) ∷ []) is

data HeadsBegun : List Placed → List Head → Type 0 where
  no_heads : HeadsBegun [] []
  some_heads : {ts : List Placed} {hs : List Head} (a : Place) → AreHeads ts hs → HeadsBegun (ts ++ at a (sign comma) ∷ []) hs

data SymbolsBegun : List Placed → List Declaration → Type 0 where
  no_symbols : SymbolsBegun [] []
  some_symbols : {ts : List Placed} {ds : List Declaration} (a : Place) → AreDeclarations ts ds → SymbolsBegun (ts ++ at a (sign comma) ∷ []) ds

whole_product : {zs us : List Placed} {p : Option (Expr × Multiplicative)} {e : Expr} → ProductBegun zs p → IsPrimary us e → IsProduct (zs ++ us) (m.product_with p e)
whole_product no_product q = one_factor q
whole_product (a_product a p) q = rw append_assoc (more_factors a p q)

whole_sum : {ys zs : List Placed} {s : Option (Expr × Additive)} {e : Expr} → SumBegun ys s → IsProduct zs e → IsSum (ys ++ zs) (m.sum_with s e)
whole_sum no_sum q = one_summand q
whole_sum (a_sum a p) q = rw append_assoc (more_summands a p q)

whole_exprs : {ys zs : List Placed} {es : List Expr} {e : Expr} → ExprsBegun ys es → IsSum zs e → AreExprs (ys ++ zs) (es ++ e ∷ [])
whole_exprs no_exprs q = one_expr q
whole_exprs (some_exprs a p) q = rw append_assoc (more_exprs a p q)

whole_items : {ys zs : List Placed} {is : List Item} {i : Item} → ItemsBegun ys is → IsItem zs i → AreItems (ys ++ zs) (is ++ i ∷ [])
whole_items no_items q = one_item q
whole_items (some_items a p) q = rw append_assoc (more_items a p q)

whole_heads : {ys zs : List Placed} {hs : List Head} {h : Head} → HeadsBegun ys hs → IsHead zs h → AreHeads (ys ++ zs) (hs ++ h ∷ [])
whole_heads no_heads q = one_head q
whole_heads (some_heads a p) q = rw append_assoc (more_heads a p q)

whole_symbols : {ys zs : List Placed} {ds : List Declaration} {d : Declaration} → SymbolsBegun ys ds → IsDeclaration zs d → AreDeclarations (ys ++ zs) (ds ++ d ∷ [])
whole_symbols no_symbols q = one_symbol q
whole_symbols (some_symbols a p) q = rw append_assoc (more_symbols a p q)

-- tokens that have to come, and do
data Comes : List Wanted → List Placed → Type 0 where
  nothing : Comes [] []
  next_comes : {w : Wanted} {ws : List Wanted} {a : Place} {t : Token} {us : List Placed} → is_wanted w t ≡ true → Comes ws us → Comes (w ∷ ws) (at a t ∷ us)

same_sign_true : (s r : Sign) → is_same_sign s r ≡ true → r ≡ s
same_sign_true opens opens e = refl
same_sign_true closes closes e = refl
same_sign_true opens_list opens_list e = refl
same_sign_true closes_list closes_list e = refl
same_sign_true comma comma e = refl
same_sign_true bar bar e = refl
same_sign_true label label e = refl
same_sign_true backslash backslash e = refl
same_sign_true hash hash e = refl
same_sign_true simplifies simplifies e = refl
same_sign_true propagates propagates e = refl
same_sign_true token.declares token.declares e = refl
same_sign_true slash slash e = refl
same_sign_true stop stop e = refl
same_sign_true _ _ e = cc

-- the token that was wanted is there
came_sign : (s : Sign) (t : Token) → is_wanted (a_sign s) t ≡ true → t ≡ sign s
came_sign s (sign r) e = ap sign (same_sign_true s r e)
came_sign s _ e = cc

came_word : (w : List ℕ) (t : Token) → is_wanted (a_word w) t ≡ true → t ≡ name w
came_word w (name v) e = ap name (sym ((bytes_eq-Decides w v).0 e))
came_word w _ e = cc

came_name : (t : Token) → is_wanted any_name t ≡ true → (w : List ℕ) × (t ≡ name w)
came_name (name w) e = (w, refl)
came_name (token.variable w) e = cc
came_name (numeral g n) e = cc
came_name (additive o) e = cc
came_name (multiplicative o) e = cc
came_name (relation r) e = cc
came_name (sign s) e = cc
came_name (token.fault f) e = cc
came_name over e = cc

-- what leads to a state within a part of a program after these parts, or within a query, that begins in this line
module _ (l : Language) (ps : Program) (n : ℕ) where
  -- a rule up to its arrow
  data IsStart : List Placed → RuleStart → Type 0 where
    a_start : {ls ts : List Placed} {w : Option (List ℕ)} {hs js : List Head} (r : Arrow) (a : Place) → IsLabel ls w → AreAllHeads ts hs js → IsStart (ls ++ (ts ++ at a (sign (arrow_sign r)) ∷ [])) (rule_start n w hs js r)

  -- a section, up to the sign before its next item
  data IsSection : List Placed → Section → Type 0 where
    in_heads : {ls ts : List Placed} {w : Option (List ℕ)} {hs : List Head} → l ≡ programs → IsLabel ls w → HeadsBegun ts hs → IsSection (ls ++ ts) (heads n w hs)
    in_behind : {ls ts us : List Placed} {w : Option (List ℕ)} {hs js : List Head} (a : Place) → l ≡ programs → IsLabel ls w → AreHeads ts hs → HeadsBegun us js → IsSection (ls ++ (ts ++ at a (sign backslash) ∷ us)) (behind n w hs js)
    in_body : {zs us : List Placed} {s : RuleStart} {is : List Item} → l ≡ programs → IsStart zs s → ItemsBegun us is → IsSection (zs ++ us) (body s is)
    in_guarded : {zs us vs : List Placed} {s : RuleStart} {gs is : List Item} (a : Place) → l ≡ programs → IsStart zs s → AreItems us gs → ItemsBegun vs is → IsSection (zs ++ (us ++ at a (sign bar) ∷ vs)) (guarded s gs is)
    in_query : {us : List Placed} {is : List Item} → l ≡ queries → ItemsBegun us is → IsSection us (asked n is)

  -- a section, up to the sign after an item
  data IsFull : List Placed → Section → Type 0 where
    full_heads : {ls ts : List Placed} {w : Option (List ℕ)} {hs : List Head} → l ≡ programs → IsLabel ls w → AreHeads ts hs → IsFull (ls ++ ts) (heads n w hs)
    full_behind : {ls ts us : List Placed} {w : Option (List ℕ)} {hs js : List Head} (a : Place) → l ≡ programs → IsLabel ls w → AreHeads ts hs → AreHeads us js → IsFull (ls ++ (ts ++ at a (sign backslash) ∷ us)) (behind n w hs js)
    full_body : {zs us : List Placed} {s : RuleStart} {is : List Item} → l ≡ programs → IsStart zs s → AreItems us is → IsFull (zs ++ us) (body s is)
    full_guarded : {zs us vs : List Placed} {s : RuleStart} {gs is : List Item} (a : Place) → l ≡ programs → IsStart zs s → AreItems us gs → AreItems vs is → IsFull (zs ++ (us ++ at a (sign bar) ∷ vs)) (guarded s gs is)
    full_query : {us : List Placed} {is : List Item} → l ≡ queries → AreItems us is → IsFull us (asked n is)

  -- what is open
  mutual
    data IsOpen : List Placed → List Frame → Type 0 where
      in_item : {zs : List Placed} {q : Section} → IsSection zs q → IsOpen zs (m.item q ps ∷ [])
      in_right : {zs us : List Placed} {q : Section} {r : Relation} {e : Expr} (a : Place) → IsSection zs q → IsSum us e → IsOpen (zs ++ (us ++ at a (relation r) ∷ [])) (m.right q ps r e ∷ [])
      in_paren : {ts : List Placed} {b : Prefix} {k : List Frame} (a : Place) → IsBegun ts b k → IsOpen (ts ++ at a (sign opens) ∷ []) (m.paren b ∷ k)
      in_call : {ts us : List Placed} {w : List ℕ} {es : List Expr} {b : Prefix} {k : List Frame} (a c : Place) → IsBegun ts b k → ExprsBegun us es → IsOpen (ts ++ (at a (name w) ∷ at c (sign opens) ∷ us)) (m.elements (m.of_call w) es b ∷ k)
      in_list : {ts us : List Placed} {es : List Expr} {b : Prefix} {k : List Frame} (a : Place) → IsBegun ts b k → ExprsBegun us es → IsOpen (ts ++ (at a (sign opens_list) ∷ us)) (m.elements m.of_list es b ∷ k)
      in_tail : {ts us : List Placed} {es : List Expr} {b : Prefix} {k : List Frame} (a c : Place) → IsBegun ts b k → AreExprs us es → IsOpen (ts ++ (at a (sign opens_list) ∷ us ++ at c (sign bar) ∷ [])) (m.tail es b ∷ k)

    data IsBegun : List Placed → Prefix → List Frame → Type 0 where
      begun : {xs ys zs : List Placed} {s : Option (Expr × Additive)} {p : Option (Expr × Multiplicative)} {k : List Frame} → IsOpen xs k → SumBegun ys s → ProductBegun zs p → IsBegun (xs ++ (ys ++ zs)) (record { sum = s; product = p }) k

  -- a directive up to its symbols
  data IsListed : Bool → List Placed → Type 0 where
    of_program : {a b : Place} → l ≡ programs → a.line ≡ n → IsListed false (at a (sign token.declares) ∷ at b (name (codes "chr_constraint")) ∷ [])
    of_module : {a b c d e f : Place} {w : List ℕ} → l ≡ programs → a.line ≡ n → IsListed true (at a (sign token.declares) ∷ at b (name (codes "module")) ∷ at c (sign opens) ∷ at d (name w) ∷ at e (sign comma) ∷ at f (sign opens_list) ∷ [])

  abbrev symbols_of : Bool → List Declaration → Listing
  symbols_of e ds = record { is_module = e; line = n; parts = ps; done = ds }

  -- these tokens lead to the state
  data Holds : State → List Placed → Type 0 where
    wanting : {ts : List Placed} {b : Prefix} {k : List Frame} → IsBegun ts b k → Holds (want b k) ts
    signing : {ts : List Placed} {b : Prefix} {k : List Frame} (a : Place) → IsBegun ts b k → Holds (signed b k) (ts ++ at a (additive minus) ∷ [])
    naming : {ts : List Placed} {w : List ℕ} {b : Prefix} {k : List Frame} (a : Place) → IsBegun ts b k → Holds (named w b k) (ts ++ at a (name w) ∷ [])
    listing : {ts : List Placed} {b : Prefix} {k : List Frame} (a : Place) → IsBegun ts b k → Holds (listed b k) (ts ++ at a (sign opens_list) ∷ [])
    having : {xs ys zs : List Placed} {s : Option (Expr × Additive)} {e : Expr} {k : List Frame} → IsOpen xs k → SumBegun ys s → IsProduct zs e → Holds (have s e k) (xs ++ (ys ++ zs))
    hashing : {zs us : List Placed} {q : Section} {i : Item} (a : Place) → IsSection zs q → OfHeads q → IsItem us i → Holds (hashed q i ps) (zs ++ (us ++ at a (sign hash) ∷ []))
    marking : {zs : List Placed} {q : Section} → IsFull zs q → Holds (marked q ps) zs
    labelling : {a : Place} {w : List ℕ} → l ≡ programs → Holds (labelled n w ps) (at a (name w) ∷ [])
    directing : {a : Place} → l ≡ programs → a.line ≡ n → Holds (directive n ps) (at a (sign token.declares) ∷ [])
    fixing : {ts : List Placed} {ws : List Wanted} {s : State} → ((us : List Placed) → Comes ws us → Holds s (ts ++ us)) → Holds (fixed ws s) ts
    symbols : {zs ts : List Placed} {e : Bool} {ds : List Declaration} → IsListed e zs → SymbolsBegun ts ds → Holds (symbol (symbols_of e ds)) (zs ++ ts)
    slashing : {zs ts : List Placed} {e : Bool} {ds : List Declaration} {w : List ℕ} (a : Place) → IsListed e zs → SymbolsBegun ts ds → Holds (slashed (symbols_of e ds) w) (zs ++ (ts ++ at a (name w) ∷ []))
    counting : {zs ts : List Placed} {e : Bool} {ds : List Declaration} {w : List ℕ} (a c : Place) → IsListed e zs → SymbolsBegun ts ds → Holds (counted (symbols_of e ds) w) (zs ++ (ts ++ at a (name w) ∷ at c (sign slash) ∷ []))
    declaring : {zs ts : List Placed} {e : Bool} {ds : List Declaration} → IsListed e zs → AreDeclarations ts ds → Holds (declared (symbols_of e ds)) (zs ++ ts)
    exports : {zs : List Placed} → IsListed true zs → Holds (exporting n ps) zs
    ends_rule : {zs : List Placed} {r : Rule} → l ≡ programs → IsRule zs r → Holds (between (ps ++ syntax.rule n r ∷ [])) zs
    ends_directive : {zs : List Placed} {p : Part} → l ≡ programs → IsPart zs p → Holds (between (ps ++ p ∷ [])) zs
    answers : {us : List Placed} {is : List Item} (a : Place) → l ≡ queries → AreItems us is → Holds (answered (record { line = n; items = is })) (us ++ at a (sign stop) ∷ [])
    overs : {a : Place} → l ≡ programs → Holds (done (m.program ps)) (at a over ∷ [])
    dones : {us : List Placed} {is : List Item} (a b : Place) → l ≡ queries → AreItems us is → Holds (done (m.query (record { line = n; items = is }))) (us ++ at a (sign stop) ∷ at b over ∷ [])

  whole_primary : {ts us : List Placed} {b : Prefix} {e : Expr} {k : List Frame} → IsBegun ts b k → IsPrimary us e → Holds (state_after_primary b e k) (ts ++ us)
  whole_primary (begun {xs} {ys} {zs} o s p) q = rw (append_assoc, append_assoc) (having o s (whole_product p q))

  nothing_begun : {ts : List Placed} {k : List Frame} → IsOpen ts k → Holds (want no_prefix k) ts
  nothing_begun {ts} {k} o = let h : Holds (want no_prefix k) (ts ++ []) = wanting (begun o no_sum no_product) in rw append-nil at h

  in_one : {ts : List Placed} {k : List Frame} → IsOpen ts k → IsBegun ts no_prefix k
  in_one {ts} {k} o = let h : IsBegun (ts ++ []) no_prefix k = begun o no_sum no_product in rw append-nil at h

  items_begin : {zs : List Placed} {q : Section} → IsSection zs q → Holds (state_before_item q ps) zs
  items_begin z = nothing_begun (in_item z)

  -- a section with one more item, or with one more head that is passive
  full_item : {zs us : List Placed} {q : Section} {i : Item} → IsSection zs q → IsItem us i → IsFull (zs ++ us) (section_with_item q i)
  full_item (in_heads e w hs) p = simp append_assoc (full_heads e w (whole_heads hs (an_active_head p)))
  full_item (in_behind a e w hs js) p = simp append_assoc (full_behind a e w hs (whole_heads js (an_active_head p)))
  full_item (in_body e s is) p = simp append_assoc (full_body e s (whole_items is p))
  full_item (in_guarded a e s gs is) p = simp append_assoc (full_guarded a e s gs (whole_items is p))
  full_item (in_query e is) p = full_query e (whole_items is p)

  full_passive : {zs us : List Placed} {q : Section} {i : Item} (a b : Place) → IsSection zs q → OfHeads q → IsItem us i → IsFull (zs ++ (us ++ at a (sign hash) ∷ at b (name (codes "passive")) ∷ [])) (section_with_head q true i)
  full_passive a b (in_heads e w hs) o p = simp append_assoc (full_heads e w (whole_heads hs (a_passive_head a b p)))
  full_passive a b (in_behind c e w hs js) o p = simp append_assoc (full_behind c e w hs (whole_heads js (a_passive_head a b p)))
  full_passive a b (in_body e s is) o p = absurd o
  full_passive a b (in_guarded c e s gs is) o p = absurd o
  full_passive a b (in_query e is) o p = absurd o

  full_holds : {zs : List Placed} {q : Section} → IsFull zs q → (a : Place) (t : Token) → IfGoes (items_step t q ps) (λ s. Holds s (zs ++ at a t ∷ []))
  full_holds (full_heads e w hs) a (sign comma) = simp append_assoc (items_begin (in_heads e w (some_heads a hs)))
  full_holds (full_heads e w hs) a (sign backslash) = simp append_assoc (items_begin (in_behind a e w hs no_heads))
  full_holds (full_heads e w hs) a (sign simplifies) = simp append_assoc (simp append-nil at (items_begin (in_body e (a_start simplification a w (one_list hs)) no_items)))
  full_holds (full_heads e w hs) a (sign propagates) = simp append_assoc (simp append-nil at (items_begin (in_body e (a_start propagation a w (one_list hs)) no_items)))
  full_holds (full_behind c e w hs js) a (sign comma) = simp append_assoc (items_begin (in_behind c e w hs (some_heads a js)))
  full_holds (full_behind c e w hs js) a (sign simplifies) = simp append_assoc (simp (append-nil, append_assoc) at (items_begin (in_body e (a_start simplification a w (two_lists c hs js)) no_items)))
  full_holds (full_behind c e w hs js) a (sign propagates) = simp append_assoc (simp (append-nil, append_assoc) at (items_begin (in_body e (a_start propagation a w (two_lists c hs js)) no_items)))
  full_holds (full_body e s is) a (sign comma) = simp append_assoc (items_begin (in_body e s (some_items a is)))
  full_holds (full_body e s is) a (sign bar) = simp append_assoc (items_begin (in_guarded a e s is no_items))
  full_holds (full_body e (a_start r b w hs) is) a (sign stop) = simp append_assoc (ends_rule e (a_rule r b a w hs (no_guard is)))
  full_holds (full_guarded c e s gs is) a (sign comma) = simp append_assoc (items_begin (in_guarded c e s gs (some_items a is)))
  full_holds (full_guarded c e (a_start r b w hs) gs is) a (sign stop) = simp append_assoc (simp append_assoc at (ends_rule e (a_rule r b a w hs (a_guard c gs is))))
  full_holds (full_query e is) a (sign comma) = items_begin (in_query e (some_items a is))
  full_holds (full_query e is) a (sign stop) = answers a e is
  full_holds (full_heads e w hs) a _ = tt
  full_holds (full_behind c e w hs js) a _ = tt
  full_holds (full_body e s is) a _ = tt
  full_holds (full_guarded c e s gs is) a _ = tt
  full_holds (full_query e is) a _ = tt

  item_holds : {zs us : List Placed} {q : Section} {i : Item} → IsSection zs q → IsItem us i → (a : Place) (t : Token) → IfGoes (m.item_step t q ps i) (λ s. Holds s ((zs ++ us) ++ at a t ∷ []))
  item_holds (in_heads e w hs) p a (sign hash) = simp append_assoc (simp append_assoc at (hashing a (in_heads e w hs) tt p))
  item_holds (in_behind c e w hs js) p a (sign hash) = simp append_assoc (simp append_assoc at (hashing a (in_behind c e w hs js) tt p))
  item_holds (in_body e s is) p a (sign hash) = tt
  item_holds (in_guarded c e s gs is) p a (sign hash) = tt
  item_holds (in_query e is) p a (sign hash) = tt
  item_holds z p a t = full_holds (full_item z p) a t

  closed_holds : {xs us : List Placed} {k : List Frame} {e : Expr} → IsOpen xs k → IsSum us e → (a : Place) (t : Token) → IfGoes (m.expr_step e k t) (λ s. Holds s ((xs ++ us) ++ at a t ∷ []))
  closed_holds (in_paren b o) p a (sign closes) = simp append_assoc (whole_primary o (in_parens a p))
  closed_holds (in_call {w = w} b c o ps) p a (sign closes) = simp append_assoc (simp append_assoc at (whole_primary o (a_call {a = b} {b = c} {w = w} a (whole_exprs ps p))))
  closed_holds (in_call {w = w} b c o ps) p a (sign comma) = simp append_assoc (simp append_assoc at (nothing_begun (in_call {w = w} b c o (some_exprs a (whole_exprs ps p)))))
  closed_holds (in_list b o ps) p a (sign closes_list) = simp append_assoc (simp append_assoc at (whole_primary o (a_list {a = b} a (whole_exprs ps p))))
  closed_holds (in_list b o ps) p a (sign comma) = simp append_assoc (simp append_assoc at (nothing_begun (in_list b o (some_exprs a (whole_exprs ps p)))))
  closed_holds (in_list b o ps) p a (sign bar) = simp append_assoc (simp append_assoc at (nothing_begun (in_tail b a o (whole_exprs ps p))))
  closed_holds (in_tail b c o ps) p a (sign closes_list) = simp append_assoc (simp append_assoc at (whole_primary o (a_list_with_end {a = b} c a ps p)))
  closed_holds (in_item z) p a (relation r) = simp append_assoc (nothing_begun (in_right a z p))
  closed_holds (in_item z) p a t = item_holds z (an_expr p) a t
  closed_holds {us = us} {e = e} (in_right {zs = zs} {us = vs} {q = q} {r = r} {e = d} b z f) p a t =
      let h = item_holds z (a_relation b f p) a t in
      let g : zs ++ (vs ++ (at b (relation r) ∷ us)) ≡ (zs ++ (vs ++ at b (relation r) ∷ [])) ++ us = simp append_assoc in
      subst (λ y. IfGoes (m.item_step t q ps (related r d e)) (λ s. Holds s (y ++ at a t ∷ []))) g h
  closed_holds (in_paren b o) p a _ = tt
  closed_holds (in_call b c o ps) p a _ = tt
  closed_holds (in_list b o ps) p a _ = tt
  closed_holds (in_tail b c o ps) p a _ = tt

  followed_holds : {xs ys zs : List Placed} {s : Option (Expr × Additive)} {e : Expr} {k : List Frame} → IsOpen xs k → SumBegun ys s → IsProduct zs e → (a : Place) (t : Token)
      → IfGoes (m.operator_step s e k t) (λ s. Holds s ((xs ++ (ys ++ zs)) ++ at a t ∷ []))
  followed_holds o s p a (multiplicative r) = simp append_assoc (wanting (begun o s (a_product {o = r} a p)))
  followed_holds o s p a (additive r) = simp append_assoc (simp append_assoc at (wanting (begun o (a_sum {o = r} a (whole_sum s p)) no_product)))
  followed_holds o s p a t = closed_holds o (whole_sum s p) a t

  where_so_holds : (b : Bool) (s : State) (zs : List Placed) → (b ≡ true → Holds s zs) → IfGoes (m.step_if b s) (λ s'. Holds s' zs)
  where_so_holds true s zs h = h refl
  where_so_holds false s zs h = tt

  begun_holds : {ts : List Placed} {b : Prefix} {k : List Frame} → IsBegun ts b k → (a : Place) (t : Token) → IfGoes (m.primary_step any_room b k t) (λ s. Holds s (ts ++ at a t ∷ []))
  begun_holds o a (token.variable w) = whole_primary o a_variable
  begun_holds {ts} {b} {k} o a (numeral g i) = where_so_holds (is_number i) (state_after_primary b (number (pos i)) k) (ts ++ at a (numeral g i) ∷ []) (λ small. whole_primary o (a_number small))
  begun_holds o a (additive minus) = signing a o
  begun_holds o a (name w) = naming a o
  begun_holds o a (sign opens) = nothing_begun (in_paren a o)
  begun_holds o a (sign opens_list) = listing a o
  begun_holds o a _ = tt

  got_holds : {ts us : List Placed} {b : Prefix} {e : Expr} {k : List Frame} → IsBegun ts b k → IsPrimary us e → (a : Place) (t : Token)
      → IfGoes (m.operator_step b.sum (m.product_with b.product e) k t) (λ s. Holds s ((ts ++ us) ++ at a t ∷ []))
  got_holds {us = us} {e = e} (begun {xs} {ys} {zs} {s} {p} {k} o q r) h a t =
      let P : List Placed → Type 0 = λ x. IfGoes (m.operator_step s (m.product_with p e) k t) (λ s. Holds s (x ++ at a t ∷ [])) in
      let g : xs ++ (ys ++ (zs ++ us)) ≡ (xs ++ (ys ++ zs)) ++ us = simp append_assoc in
      subst P g (followed_holds o q (whole_product r h) a t)

  named_holds : {ts : List Placed} {b : Prefix} {k : List Frame} (w : List ℕ) (c : Place) → IsBegun ts b k → (a : Place) (t : Token) → IfGoes (m.step any_room (named w b k) (at a t)) (λ s. Holds s ((ts ++ at c (name w) ∷ []) ++ at a t ∷ []))
  named_holds w c o a (sign opens) = simp append_assoc (nothing_begun (in_call {w = w} c a o no_exprs))
  named_holds w c o a t = got_holds o (a_name {w = w}) a t

  listed_holds : {ts : List Placed} {b : Prefix} {k : List Frame} (c : Place) → IsBegun ts b k → (a : Place) (t : Token) → IfGoes (m.step any_room (listed b k) (at a t)) (λ s. Holds s ((ts ++ at c (sign opens_list) ∷ []) ++ at a t ∷ []))
  listed_holds c o a (sign closes_list) = simp append_assoc (whole_primary o an_empty_list)
  listed_holds c o a t = begun_holds (in_one (in_list c o no_exprs)) a t

  signed_holds : {ts : List Placed} {b : Prefix} {k : List Frame} (c : Place) → IsBegun ts b k → (a : Place) (t : Token) → IfGoes (m.step any_room (signed b k) (at a t)) (λ s. Holds s ((ts ++ at c (additive minus) ∷ []) ++ at a t ∷ []))
  signed_holds {ts} {b} {k} c o a (numeral true i) = where_so_holds (is_magnitude i) (state_after_primary b (number (neg_ℤ (pos i))) k) _ (λ small. simp append_assoc (whole_primary o (a_negative small)))
  signed_holds c o a _ = tt

  hashed_holds : {zs us : List Placed} {q : Section} {i : Item} (c : Place) → IsSection zs q → OfHeads q → IsItem us i → (a : Place) (t : Token)
      → IfGoes (m.step any_room (hashed q i ps) (at a t)) (λ s. Holds s ((zs ++ (us ++ at c (sign hash) ∷ [])) ++ at a t ∷ []))
  hashed_holds {zs} {us} {q} {i} c z o p a (name w) = where_so_holds (bytes_eq w (codes "passive")) (marked (section_with_head q true i) ps) _
      (λ e. subst (λ w. Holds (marked (section_with_head q true i) ps) ((zs ++ (us ++ at c (sign hash) ∷ [])) ++ at a (name w) ∷ [])) (sym ((bytes_eq-Decides w (codes "passive")).0 e)) (simp append_assoc (marking (full_passive c a z o p))))
  hashed_holds c z o p a _ = tt

  -- the tokens of a directive that are always the same
  library_came : {c d : Place} → l ≡ programs → c.line ≡ n → (us : List Placed) → Comes m.library_words us → Holds (between (ps ++ ignored n ∷ [])) (at c (sign token.declares) ∷ at d (name (codes "use_module")) ∷ us)
  library_came e k _ (next_comes {t = t1} m1 (next_comes {t = t2} m2 (next_comes {t = t3} m3 (next_comes {t = t4} m4 (next_comes {t = t5} m5 (next_comes {t = t6} m6 (next_comes {t = t7} m7 nothing))))))) =
      rw (came_sign opens t1 m1, came_word (codes "library") t2 m2, came_sign opens t3 m3, came_word (codes "chr") t4 m4, came_sign closes t5 m5, came_sign closes t6 m6, came_sign stop t7 m7, sym k) (ends_directive e a_use_module)

  module_came : {c d : Place} → l ≡ programs → c.line ≡ n → (us : List Placed) → Comes m.module_words us → Holds (exporting n ps) (at c (sign token.declares) ∷ at d (name (codes "module")) ∷ us)
  module_came e k _ (next_comes {t = t1} m1 (next_comes {t = t2} m2 (next_comes {t = t3} m3 (next_comes {t = t4} m4 nothing)))) =
      let named = came_name t2 m2 in
      rw (came_sign opens t1 m1, named.1, came_sign comma t3 m3, came_sign opens_list t4 m4) (exports (of_module {w = named.0} e k))

  exports_came : {zs ts : List Placed} → IsListed true zs → AreExports ts → (a : Place) (us : List Placed) → Comes (a_sign closes ∷ a_sign stop ∷ []) us → Holds (between (ps ++ ignored n ∷ [])) ((zs ++ (ts ++ at a (sign closes_list) ∷ [])) ++ us)
  exports_came {ts = ts} (of_module {a = p1} {b = p2} {c = p3} {d = p4} {e = p5} {f = p6} {w = w} e k) h a _ (next_comes {a = p7} {t = t1} m1 (next_comes {a = p8} {t = t2} m2 nothing)) =
      let last = at p7 (sign closes) ∷ at p8 (sign stop) ∷ [] in
      let P : List Placed → Type 0 = λ y. Holds (between (ps ++ ignored p1.line ∷ [])) (at p1 (sign token.declares) ∷ at p2 (name (codes "module")) ∷ at p3 (sign opens) ∷ at p4 (name w) ∷ at p5 (sign comma) ∷ at p6 (sign opens_list) ∷ y) in
      rw (came_sign closes t1 m1, came_sign stop t2 m2) (subst (λ i. Holds (between (ps ++ ignored i ∷ [])) (at p1 (sign token.declares) ∷ at p2 (name (codes "module")) ∷ at p3 (sign opens) ∷ at p4 (name w) ∷ at p5 (sign comma) ∷ at p6 (sign opens_list) ∷ ((ts ++ at a (sign closes_list) ∷ []) ++ last))) k (subst P (sym (append_assoc ts (at a (sign closes_list) ∷ []) last)) (ends_directive e (a_module a p7 p8 h))))

  fixed_holds : (ts : List Placed) (w : Wanted) (ws : List Wanted) (s : State) → ((us : List Placed) → Comes (w ∷ ws) us → Holds s (ts ++ us)) → (a : Place) (t : Token) → IfGoes (m.step_if (is_wanted w t) (m.state_before_wanted ws s)) (λ s'. Holds s' (ts ++ at a t ∷ []))
  fixed_holds ts w [] s h a t = where_so_holds (is_wanted w t) s (ts ++ at a t ∷ []) (λ e. h (at a t ∷ []) (next_comes e nothing))
  fixed_holds ts w (v ∷ ws) s h a t = where_so_holds (is_wanted w t) (fixed (v ∷ ws) s) (ts ++ at a t ∷ []) (λ e. fixing (λ us k. simp append_assoc (h (at a t ∷ us) (next_comes e k))))

  if_holds : (b : Bool) (s : State) (o : Step) (zs : List Placed) → (b ≡ true → Holds s zs) → IfGoes o (λ s'. Holds s' zs) → IfGoes (cond b (goes s) o) (λ s'. Holds s' zs)
  if_holds true s o zs h k = h refl
  if_holds false s o zs h k = k

  directed_holds : (c : Place) → l ≡ programs → c.line ≡ n → (a : Place) (w : List ℕ) → IfGoes (m.directive_step n ps w) (λ s. Holds s (at c (sign token.declares) ∷ at a (name w) ∷ []))
  directed_holds c e k a w =
      let is = λ (v : List ℕ) (q : bytes_eq w v ≡ true). ap (λ x. at c (sign token.declares) ∷ at a (name x) ∷ []) (sym ((bytes_eq-Decides w v).0 q)) in
      if_holds (bytes_eq w (codes "chr_constraint")) (symbol (symbols_of false [])) _ _
      (λ q. subst (Holds (symbol (symbols_of false []))) (is (codes "chr_constraint") q) (symbols (of_program e k) no_symbols))
      (if_holds (bytes_eq w (codes "use_module")) (fixed m.library_words (between (ps ++ ignored n ∷ []))) _ _
      (λ q. subst (Holds (fixed m.library_words (between (ps ++ ignored n ∷ [])))) (is (codes "use_module") q) (fixing (library_came e k)))
      (if_holds (bytes_eq w (codes "module")) (fixed m.module_words (exporting n ps)) refused _
      (λ q. subst (Holds (fixed m.module_words (exporting n ps))) (is (codes "module") q) (fixing (module_came e k)))
      tt))

  symbols_hold : {zs ts : List Placed} {e : Bool} {ds : List Declaration} → IsListed e zs → AreDeclarations ts ds → (a : Place) (t : Token) → IfGoes (m.symbols_step t e (symbols_of e ds)) (λ s. Holds s ((zs ++ ts) ++ at a t ∷ []))
  symbols_hold i ds a (sign comma) = simp append_assoc (symbols i (some_symbols a ds))
  symbols_hold {ts = ts} {ds = ds} (of_program {a = c} {b = d} e k) h a (sign stop) =
      subst (λ j. Holds (between (ps ++ syntax.declares j ds ∷ [])) (at c (sign token.declares) ∷ at d (name (codes "chr_constraint")) ∷ (ts ++ at a (sign stop) ∷ []))) k (ends_directive e (a_chr_constraint a h))
  symbols_hold {ts = ts} (of_module {a = p1} {b = p2} {c = p3} {d = p4} {e = p5} {f = p6} {w = w} e k) h a (sign closes_list) =
      fixing (λ us come. exports_came (of_module {a = p1} {b = p2} {c = p3} {d = p4} {e = p5} {f = p6} {w = w} e k) (some_exports h) a us come)
  symbols_hold (of_program e k) h a _ = tt
  symbols_hold (of_module e k) h a _ = tt

  at_start : l ≡ programs → IsBegun [] no_prefix (m.item (heads n None []) ps ∷ [])
  at_start e = in_one (in_item (in_heads e no_label no_heads))

  labelled_holds : (w : List ℕ) (c : Place) → l ≡ programs → (a : Place) (t : Token) → IfGoes (m.step any_room (labelled n w ps) (at a t)) (λ s. Holds s (at c (name w) ∷ at a t ∷ []))
  labelled_holds w c e a (sign label) = items_begin (in_heads e (a_label {w = w}) no_heads)
  labelled_holds w c e a (sign opens) = named_holds w c (at_start e) a (sign opens)
  labelled_holds w c e a t = named_holds w c (at_start e) a t

  -- the state is not after the whole part
  abbrev Inside : State → Type 0
  Inside (between qs) = ⊥
  Inside _ = Unit {0}

  fixed_step : (ts : List Placed) (ws : List Wanted) (s : State) → ((us : List Placed) → Comes ws us → Holds s (ts ++ us)) → (a : Place) (t : Token) → IfGoes (m.step any_room (fixed ws s) (at a t)) (λ s'. Holds s' (ts ++ at a t ∷ []))
  fixed_step ts [] s h a t = tt
  fixed_step ts (w ∷ ws) s h a t = fixed_holds ts w ws s h a t

  exporting_holds : {zs : List Placed} → IsListed true zs → (a : Place) (t : Token) → IfGoes (m.step any_room (exporting n ps) (at a t)) (λ s. Holds s (zs ++ at a t ∷ []))
  exporting_holds i a (name w) = slashing a i no_symbols
  exporting_holds i a (sign closes_list) = fixing (λ us come. exports_came i no_exports a us come)
  exporting_holds i a _ = tt

  symbol_holds : {zs ts : List Placed} {e : Bool} {ds : List Declaration} → IsListed e zs → SymbolsBegun ts ds → (a : Place) (t : Token) → IfGoes (m.step any_room (symbol (symbols_of e ds)) (at a t)) (λ s. Holds s ((zs ++ ts) ++ at a t ∷ []))
  symbol_holds i ds a (name w) = simp append_assoc (slashing a i ds)
  symbol_holds i ds a _ = tt

  slashed_holds : {zs ts : List Placed} {e : Bool} {ds : List Declaration} (w : List ℕ) (c : Place) → IsListed e zs → SymbolsBegun ts ds → (a : Place) (t : Token) → IfGoes (m.step any_room (slashed (symbols_of e ds) w) (at a t)) (λ s. Holds s ((zs ++ (ts ++ at c (name w) ∷ [])) ++ at a t ∷ []))
  slashed_holds w c i ds a (sign slash) = simp append_assoc (counting c a i ds)
  slashed_holds w c i ds a _ = tt

  counted_holds : {zs ts : List Placed} {e : Bool} {ds : List Declaration} (w : List ℕ) (c d : Place) → IsListed e zs → SymbolsBegun ts ds → (a : Place) (t : Token)
      → IfGoes (m.step any_room (counted (symbols_of e ds) w) (at a t)) (λ s. Holds s ((zs ++ (ts ++ at c (name w) ∷ at d (sign slash) ∷ [])) ++ at a t ∷ []))
  counted_holds {e = e} {ds = ds} w c d i h a (numeral g k) = where_so_holds (is_number k) (declared (m.listing_with_symbol (symbols_of e ds) w k)) _ (λ small. simp append_assoc (declaring i (whole_symbols h (a_symbol {w = w} {signed = g} small))))
  counted_holds w c d i ds a _ = tt

  answered_holds : {us : List Placed} {is : List Item} (c : Place) → l ≡ queries → AreItems us is → (a : Place) (t : Token) → IfGoes (m.step any_room (answered (record { line = n; items = is })) (at a t)) (λ s. Holds s ((us ++ at c (sign stop) ∷ []) ++ at a t ∷ []))
  answered_holds c e is a over = simp append_assoc (dones c a e is)
  answered_holds c e is a _ = tt

  step_holds : {zs : List Placed} (s : State) → Holds s zs → Inside s → (a : Place) (t : Token) → IfGoes (m.step any_room s (at a t)) (λ s'. Holds s' (zs ++ at a t ∷ []))
  step_holds _ (wanting o) h a t = begun_holds o a t
  step_holds _ (signing c o) h a t = signed_holds c o a t
  step_holds _ (naming {w = w} c o) h a t = named_holds w c o a t
  step_holds _ (listing c o) h a t = listed_holds c o a t
  step_holds _ (having o s p) h a t = followed_holds o s p a t
  step_holds _ (hashing c z o p) h a t = hashed_holds c z o p a t
  step_holds _ (marking z) h a t = full_holds z a t
  step_holds _ (labelling {a = c} {w = w} e) h a t = labelled_holds w c e a t
  step_holds _ (directing {a = c} e k) h a (name w) = directed_holds c e k a w
  step_holds _ (directing {a = c} e k) h a _ = tt
  step_holds {zs} _ (fixing {ws = ws} {s = s} f) h a t = fixed_step zs ws s f a t
  step_holds _ (symbols i ds) h a t = symbol_holds i ds a t
  step_holds _ (slashing {w = w} c i ds) h a t = slashed_holds w c i ds a t
  step_holds _ (counting {w = w} c d i ds) h a t = counted_holds w c d i ds a t
  step_holds _ (declaring i ds) h a t = symbols_hold i ds a t
  step_holds _ (exports i) h a t = exporting_holds i a t
  step_holds _ (ends_rule e p) h a t = absurd h
  step_holds _ (ends_directive e p) h a t = absurd h
  step_holds _ (answers c e is) h a t = answered_holds c e is a t
  step_holds _ (overs e) h a t = tt
  step_holds _ (dones c d e is) h a t = tt

  -- the part is whole, or the state is within it
  data Settles : State → List Placed → Type 0 where
    whole : {zs : List Placed} {p : Part} → ((a : Place) (t : Token) (us : List Placed) → zs ≡ at a t ∷ us → a.line ≡ n → IsPart zs p) → Settles (between (ps ++ p ∷ [])) zs
    within : {zs : List Placed} {s : State} → Holds s zs → Inside s → Settles s zs

  rule_settles : {zs : List Placed} {r : Rule} → IsRule zs r → (a : Place) (t : Token) (us : List Placed) → zs ≡ at a t ∷ us → a.line ≡ n → IsPart zs (syntax.rule n r)
  rule_settles {zs} {r} h a t us e k = subst (λ i. IsPart zs (syntax.rule i r)) (ap line_of e ∙ k) (some_rule h)

  settles : {zs : List Placed} {s : State} → Holds s zs → Settles s zs
  settles (ends_rule e h) = whole (rule_settles h)
  settles (ends_directive e h) = whole (λ a t us q k. h)
  settles (wanting o) = within (wanting o) tt
  settles (signing c o) = within (signing c o) tt
  settles (naming c o) = within (naming c o) tt
  settles (listing c o) = within (listing c o) tt
  settles (having o s p) = within (having o s p) tt
  settles (hashing c z o p) = within (hashing c z o p) tt
  settles (marking z) = within (marking z) tt
  settles (labelling e) = within (labelling e) tt
  settles (directing e k) = within (directing e k) tt
  settles (fixing f) = within (fixing f) tt
  settles (symbols i ds) = within (symbols i ds) tt
  settles (slashing c i ds) = within (slashing c i ds) tt
  settles (counting c d i ds) = within (counting c d i ds) tt
  settles (declaring i ds) = within (declaring i ds) tt
  settles (exports i) = within (exports i) tt
  settles (answers c e is) = within (answers c e is) tt
  settles (overs e) = within (overs e) tt
  settles (dones c d e is) = within (dones c d e is) tt

-- between two parts, or at the end of all, any token begins what it can
first_holds : (ps : Program) (a : Place) (t : Token) → IfGoes (m.step any_room (between ps) (at a t)) (λ s. Holds programs ps a.line s (at a t ∷ []))
first_holds ps a over = overs refl
first_holds ps a (sign token.declares) = directing refl refl
first_holds ps a (name w) = labelling refl
first_holds ps a t = begun_holds programs ps a.line (at_start programs ps a.line refl) a t

asked_holds : (a : Place) (t : Token) → IfGoes (m.step any_room asking (at a t)) (λ s. Holds queries [] a.line s (at a t ∷ []))
asked_holds a t = begun_holds queries [] a.line (in_one queries [] a.line (in_item (in_query refl no_items))) a t

-- these tokens of a whole text lead to the state
data Leads : Language → State → List Placed → Type 0 where
  at_part : {xs : List Placed} {ps : Program} → AreParts xs ps → Leads programs (between ps) xs
  in_part : {xs us : List Placed} {ps : Program} {p : Place} {t : Token} {s : State} → AreParts xs ps → Holds programs ps p.line s (at p t ∷ us) → Leads programs s (xs ++ at p t ∷ us)
  at_query : Leads queries asking []
  in_a_query : {us : List Placed} {p : Place} {t : Token} {s : State} → Holds queries [] p.line s (at p t ∷ us) → Leads queries s (at p t ∷ us)

part_leads : (ps : Program) (xs : List Placed) → AreParts xs ps → (a : Place) (t : Token) → IfGoes (m.step any_room (between ps) (at a t)) (λ s. Leads programs s (xs ++ at a t ∷ []))
part_leads ps xs h a t = through (m.step any_room (between ps) (at a t)) (first_holds ps a t)
  where
    through : (o : Step) → IfGoes o (λ s. Holds programs ps a.line s (at a t ∷ [])) → IfGoes o (λ s. Leads programs s (xs ++ at a t ∷ []))
    through (goes s) k = in_part h k
    through refused k = tt
    through deep k = tt

-- after a whole part the next one begins
settled : (ps : Program) (xs us : List Placed) (p : Place) (u : Token) (s : State) → AreParts xs ps → Settles programs ps p.line s (at p u ∷ us) → (a : Place) (t : Token) → IfGoes (m.step any_room s (at a t)) (λ s'. Leads programs s' ((xs ++ at p u ∷ us) ++ at a t ∷ []))
settled ps xs us p u _ h (whole {p = q} k) a t = part_leads (ps ++ q ∷ []) (xs ++ at p u ∷ us) (more_parts h (k p u us refl refl)) a t
settled ps xs us p u s h (within k i) a t = through (m.step any_room s (at a t)) (step_holds programs ps p.line s k i a t)
  where
    through : (o : Step) → IfGoes o (λ s'. Holds programs ps p.line s' (at p u ∷ us ++ at a t ∷ [])) → IfGoes o (λ s'. Leads programs s' ((xs ++ at p u ∷ us) ++ at a t ∷ []))
    through (goes s') k = simp append_assoc (in_part h k)
    through refused k = tt
    through deep k = tt

other_language : queries ≡ programs → ⊥
other_language e = cc

query_inside : {zs : List Placed} {n : ℕ} {s : State} → Holds queries [] n s zs → Inside queries [] n s
query_inside (ends_rule e h) = absurd (other_language e)
query_inside (ends_directive e h) = absurd (other_language e)
query_inside (wanting o) = tt
query_inside (signing c o) = tt
query_inside (naming c o) = tt
query_inside (listing c o) = tt
query_inside (having o s p) = tt
query_inside (hashing c z o p) = tt
query_inside (marking z) = tt
query_inside (labelling e) = tt
query_inside (directing e k) = tt
query_inside (fixing f) = tt
query_inside (symbols i ds) = tt
query_inside (slashing c i ds) = tt
query_inside (counting c d i ds) = tt
query_inside (declaring i ds) = tt
query_inside (exports i) = tt
query_inside (answers c e is) = tt
query_inside (overs e) = tt
query_inside (dones c d e is) = tt

step_leads : (l : Language) (ts : List Placed) (s : State) → Leads l s ts → (t : Placed) → IfGoes (m.step any_room s t) (λ s'. Leads l s' (ts ++ t ∷ []))
step_leads _ _ _ (at_part {xs} {ps} h) (at a t) = part_leads ps xs h a t
step_leads _ _ s (in_part {xs = xs} {us = us} {ps = ps} {p = p} {t = u} h k) (at a t) = settled ps xs us p u s h (settles programs ps p.line k) a t
step_leads _ _ _ at_query (at a t) = through (m.step any_room asking (at a t)) (asked_holds a t)
  where
    through : (o : Step) → IfGoes o (λ s. Holds queries [] a.line s (at a t ∷ [])) → IfGoes o (λ s. Leads queries s (at a t ∷ []))
    through (goes s) k = in_a_query k
    through refused k = tt
    through deep k = tt
step_leads _ _ s (in_a_query {us = us} {p = p} {t = u} k) (at a t) = through (m.step any_room s (at a t)) (step_holds queries [] p.line s k (query_inside k) a t)
  where
    through : (o : Step) → IfGoes o (λ s'. Holds queries [] p.line s' (at p u ∷ us ++ at a t ∷ [])) → IfGoes o (λ s'. Leads queries s' (at p u ∷ us ++ at a t ∷ []))
    through (goes s') k = in_a_query k
    through refused k = tt
    through deep k = tt

program_ends : {zs : List Placed} (ps : Program) (xs us : List Placed) (p : Place) (u : Token) (s : State) (x : SyntaxTree) → AreParts xs ps → Holds programs ps p.line s zs → zs ≡ at p u ∷ us → m.end_verdict s ≡ accept x → Spells programs (xs ++ zs) x
program_ends ps xs us p u _ x h (overs {a = a} e) q k = let same : m.program ps ≡ x = cc in subst (Spells programs (xs ++ at a over ∷ [])) same (a_program a h)
program_ends ps xs us p u _ x h (dones c d e is) q k = absurd (other_language (sym e))
program_ends ps xs us p u _ x h _ q k = cc

items_line : (vs rest us : List Placed) (p : Place) (u : Token) → NoEnd (vs ++ []) → vs ++ rest ≡ at p u ∷ us → p.line ≡ line_of vs
items_line [] rest us p u h e = absurd h
items_line (at q v ∷ vs) rest us p u h e = ap line_of (sym e)

query_ends : {zs : List Placed} (us : List Placed) (p : Place) (u : Token) (s : State) (x : SyntaxTree) → Holds queries [] p.line s zs → zs ≡ at p u ∷ us → m.end_verdict s ≡ accept x → Spells queries zs x
query_ends us p u _ x (overs e) q k = absurd (other_language e)
query_ends us p u _ x (dones {us = vs} {is = is} c d e h) q k =
    let line : p.line ≡ line_of vs = items_line vs (at c (sign stop) ∷ at d over ∷ []) us p u (items_not_empty h []) q in
    let same : m.query (record { line = p.line; items = is }) ≡ x = cc in
    subst (Spells queries (vs ++ at c (sign stop) ∷ at d over ∷ [])) (ap (λ i. m.query (record { line = i; items = is })) (sym line) ∙ same) (a_query c d h)
query_ends us p u _ x _ q k = cc

ended_spells : (l : Language) (ts : List Placed) (s : State) (x : SyntaxTree) → Leads l s ts → m.end_verdict s ≡ accept x → Spells l ts x
ended_spells _ _ _ x (at_part h) e = cc
ended_spells _ _ s x (in_part {xs = xs} {us = us} {ps = ps} {p = p} {t = t} h k) e = program_ends ps xs us p t s x h k refl e
ended_spells _ _ _ x at_query e = cc
ended_spells _ _ s x (in_a_query {us = us} {p = p} {t = t} k) e = query_ends us p t s x k refl e

run_spells : (l : Language) (ts : List Placed) (s : State) (rest : List Placed) (x : SyntaxTree) → Leads l s ts → run any_room s rest ≡ accept x → Spells l (ts ++ rest) x
run_spells l ts s [] x h e = rw append-nil (ended_spells l ts s x h e)
run_spells l ts s (t ∷ rest) x h e = through (m.step any_room s t) (step_leads l ts s h t) e (λ s'. run_spells l (ts ++ t ∷ []) s' rest x)
  where
    through : (o : Step) → IfGoes o (λ s'. Leads l s' (ts ++ t ∷ [])) → step_verdict o (t ∷ rest) (λ s'. run any_room s' rest) ≡ accept x
        → ((s' : State) → Leads l s' (ts ++ t ∷ []) → run any_room s' rest ≡ accept x → Spells l ((ts ++ t ∷ []) ++ rest) x) → Spells l (ts ++ t ∷ rest) x
    through refused h e f = cc
    through deep h e f = cc
    through (goes s') h e f = simp append_assoc at (f s' h e)

pub accepted_spells : (l : Language) (ts : List Placed) (x : SyntaxTree) → run any_room (first_state l) ts ≡ accept x → Spells l ts x
accepted_spells programs ts x e = run_spells programs [] (between []) ts x (at_part no_parts) e
accepted_spells queries ts x e = run_spells queries [] asking ts x at_query e
