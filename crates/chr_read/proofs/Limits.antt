-- What the limited automaton answers, in words of the grammar.
use Rattle.std.proofs.Common.{◌≡◌, ℕ, zero, suc, pred, ◌<◌, ◌≤◌, List, [], ◌∷◌, ◌++◌, Bool, true, false, Option, None, refl, sym, ◌∙◌, ap, subst, arith, append_assoc}
use Rattle.std.specs.Prelude.{codes, bytes_eq, nat_lt, pos, neg_ℤ, cond}
use Rattle.std.specs.Str.{encode_utf8_all}
use Rattle.std.proofs.lemmas.Bool.{ltb-true, ltb-false}
use Rattle.chr_semantics.specs.Tokens as token
use Rattle.chr_semantics.specs.Tokens.{Place, Additive, minus, Multiplicative, Sign, opens, closes, opens_list, closes_list, comma, bar, label, backslash, hash, simplifies, propagates, slash, stop, Token, name, numeral, additive, multiplicative, relation, sign, fault, over, Placed, at}
use Rattle.chr_semantics.specs.Syntax as syntax
use Rattle.chr_semantics.specs.declared.limits.TheConstants.{MAX_OPEN_BRACKETS}
use Rattle.chr_semantics.specs.Syntax.{Expr, exprs_of, call, nil, list, number, plain, Item, Program}
use Rattle.chr_semantics.specs.Grammar.{is_number, is_magnitude}
use Rattle.chr_semantics.specs.Reading.{Begins, IsTooDeep, IsUnexpected, Opens, next, level, Within}
use Rattle.chr_read.specs.Automaton as m
use Rattle.chr_read.specs.Automaton.{Prefix, Frame, State, Section, heads, behind, body, guarded, asked, Listing, Wanted, a_word, any_name, a_sign, is_wanted, is_same_sign, step_if, state_before_wanted, want, signed, named, listed, have, hashed, marked, between, labelled, directive, fixed, symbol, slashed, counted, declared, exporting, answered, asking, done, items_step, section_with_head, section_with_item, Step, goes, refused, deep, SyntaxTree, Verdict, accept, expected, too_deep, step_verdict, run, any_room, limited_room, depth, no_prefix, state_after_primary, Language, first_state, verdict_of}
use Rattle.chr_read.proofs.Viable.{finishes, IsLevel, IsWhole, OfHeads, IsWholeState, AreLevels, depth_before, unclosed_count, symbols_depth, depth_of}

-- what a step of the limited automaton says of the free one and of the brackets
abbrev StepIs : Type 0 → ℕ → Token → Step → Step → Type 0
StepIs W d t (goes s) freely = (freely ≡ goes s) × (W → (depth_of s ≡ next d t) × (Opens t → d < MAX_OPEN_BRACKETS) × IsWholeState s)
StepIs W d t refused freely = freely ≡ refused
StepIs W d t deep freely = Opens t × (MAX_OPEN_BRACKETS ≤ d) × ((s : State) × (freely ≡ goes s) × (W → IsWholeState s))

opened_is : (W : Type 0) (d : ℕ) (t : Token) (s : State) → Opens t → depth_of s ≡ next d t → (W → IsWholeState s) → StepIs W d t (m.bracket_step (nat_lt d MAX_OPEN_BRACKETS) s) (goes s)
opened_is W d t s o e u = by (nat_lt d MAX_OPEN_BRACKETS) refl
  where
    by : (b : Bool) → nat_lt d MAX_OPEN_BRACKETS ≡ b → StepIs W d t (m.bracket_step b s) (goes s)
    by true h = (refl, λ w. (e, (λ _. ltb-true d MAX_OPEN_BRACKETS h), u w))
    by false h = (o, ltb-false d MAX_OPEN_BRACKETS h, (s, refl, u))

-- where the step is one that is made if a test passes
where_so_is : (W : Type 0) (d : ℕ) (t : Token) (b : Bool) (s : State) → (b ≡ true → W → (depth_of s ≡ next d t) × (Opens t → d < MAX_OPEN_BRACKETS) × IsWholeState s) → StepIs W d t (step_if b s) (step_if b s)
where_so_is W d t true s h = (refl, h refl)
where_so_is W d t false s h = refl

cond_is : (W : Type 0) (d : ℕ) (t : Token) (b : Bool) (x y : Step) → StepIs W d t x x → StepIs W d t y y → StepIs W d t (cond b x y) (cond b x y)
cond_is W d t true x y h k = h
cond_is W d t false x y h k = k

elements_is : (t : Token) (q : m.Container) (es : List Expr) (b : Prefix) (k : List Frame) → StepIs (IsWhole k) (suc (depth k)) t (m.elements_step t q es b k) (m.elements_step t q es b k)
elements_is (sign comma) q es b k = (refl, λ w. (refl, (λ o. elim o [ ]), w))
elements_is (sign closes) (m.of_call v) es b k = (refl, λ w. (refl, (λ o. elim o [ ]), w))
elements_is (sign closes_list) m.of_list es b k = (refl, λ w. (refl, (λ o. elim o [ ]), w))
elements_is (sign bar) m.of_list es b k = (refl, λ w. (refl, (λ o. elim o [ ]), w))
elements_is _ _ _ _ _ = refl

items_are : (W : Type 0) (t : Token) (q : Section) (ps : Program) → StepIs W 0 t (items_step t q ps) (items_step t q ps)
items_are W (sign comma) q ps = (refl, λ w. (refl, (λ o. elim o [ ]), tt))
items_are W (sign backslash) (heads l n hs) ps = (refl, λ w. (refl, (λ o. elim o [ ]), tt))
items_are W (sign simplifies) (heads l n hs) ps = (refl, λ w. (refl, (λ o. elim o [ ]), tt))
items_are W (sign propagates) (heads l n hs) ps = (refl, λ w. (refl, (λ o. elim o [ ]), tt))
items_are W (sign simplifies) (behind l n hs js) ps = (refl, λ w. (refl, (λ o. elim o [ ]), tt))
items_are W (sign propagates) (behind l n hs js) ps = (refl, λ w. (refl, (λ o. elim o [ ]), tt))
items_are W (sign bar) (body s is) ps = (refl, λ w. (refl, (λ o. elim o [ ]), tt))
items_are W (sign stop) (body s is) ps = (refl, λ w. (refl, (λ o. elim o [ ]), tt))
items_are W (sign stop) (guarded s gs is) ps = (refl, λ w. (refl, (λ o. elim o [ ]), tt))
items_are W (sign stop) (asked l is) ps = (refl, λ w. (refl, (λ o. elim o [ ]), tt))
items_are W _ _ _ = refl

item_is : (W : Type 0) (t : Token) (q : Section) (ps : Program) (i : Item) → StepIs W 0 t (m.item_step t q ps i) (m.item_step t q ps i)
item_is W (sign hash) (heads l n hs) ps i = (refl, λ w. (refl, (λ o. elim o [ ]), tt))
item_is W (sign hash) (behind l n hs js) ps i = (refl, λ w. (refl, (λ o. elim o [ ]), tt))
item_is W t q ps i = items_are W t (section_with_item q i) ps

close_is : (e : Expr) (k : List Frame) (t : Token) → StepIs (IsWhole k) (depth k) t (m.expr_step e k t) (m.expr_step e k t)
close_is e (m.paren b ∷ k) (sign closes) = (refl, λ w. (refl, (λ o. elim o [ ]), w))
close_is e (m.elements q es b ∷ k) t = elements_is t q (es ++ e ∷ []) b k
close_is e (m.tail es b ∷ k) (sign closes_list) = (refl, λ w. (refl, (λ o. elim o [ ]), w))
close_is e (m.item q ps ∷ []) (relation r) = (refl, λ w. (refl, (λ o. elim o [ ]), tt))
close_is e (m.item q ps ∷ []) t = item_is (Unit {0}) t q ps (plain e)
close_is e (m.right q ps r d ∷ []) t = item_is (Unit {0}) t q ps (syntax.related r d e)
close_is e _ _ = refl

follow_is : (s : Option (Expr × Additive)) (e : Expr) (k : List Frame) (t : Token) → StepIs (IsWhole k) (depth k) t (m.operator_step s e k t) (m.operator_step s e k t)
follow_is s e k (multiplicative o) = (refl, λ w. (refl, (λ o. elim o [ ]), w))
follow_is s e k (additive o) = (refl, λ w. (refl, (λ o. elim o [ ]), w))
follow_is s e k t = close_is (m.sum_with s e) k t

begin_is : (b : Prefix) (k : List Frame) (t : Token) → StepIs (IsWhole k) (depth k) t (m.primary_step limited_room b k t) (m.primary_step any_room b k t)
begin_is b k (token.variable v) = (refl, λ w. (refl, (λ o. elim o [ ]), w))
begin_is b k (numeral g n) = where_so_is (IsWhole k) (depth k) (numeral g n) (is_number n) (state_after_primary b (number (pos n)) k) (λ e w. (refl, (λ o. elim o [ ]), w))
begin_is b k (additive minus) = (refl, λ w. (refl, (λ o. elim o [ ]), w))
begin_is b k (name v) = (refl, λ w. (refl, (λ o. elim o [ ]), w))
begin_is b k (sign opens) = opened_is (IsWhole k) (depth k) (sign opens) _ tt refl (λ w. w)
begin_is b k (sign opens_list) = opened_is (IsWhole k) (depth k) (sign opens_list) _ tt refl (λ w. w)
begin_is b k _ = refl

opening_is : (n : ℕ) → (0 < n) × (n ≤ MAX_OPEN_BRACKETS) → (n ≡ suc (pred n)) × (pred n < MAX_OPEN_BRACKETS)
opening_is zero l = absurd (omega (arith, l.0))
opening_is (suc n) l = (refl, omega (arith, l.1))

sign_is : (s r : Sign) (n : ℕ) → is_same_sign s r ≡ true → IsLevel (a_sign s) n → (n ≡ next (depth_before (a_sign s) n) (sign r)) × (Opens (sign r) → depth_before (a_sign s) n < MAX_OPEN_BRACKETS)
sign_is opens opens n e l = ((opening_is n l).0, λ o. (opening_is n l).1)
sign_is closes closes n e l = (refl, λ o. elim o [ ])
sign_is opens_list opens_list n e l = ((opening_is n l).0, λ o. (opening_is n l).1)
sign_is closes_list closes_list n e l = (refl, λ o. elim o [ ])
sign_is comma comma n e l = (refl, λ o. elim o [ ])
sign_is bar bar n e l = (refl, λ o. elim o [ ])
sign_is label label n e l = (refl, λ o. elim o [ ])
sign_is backslash backslash n e l = (refl, λ o. elim o [ ])
sign_is hash hash n e l = (refl, λ o. elim o [ ])
sign_is simplifies simplifies n e l = (refl, λ o. elim o [ ])
sign_is propagates propagates n e l = (refl, λ o. elim o [ ])
sign_is token.declares token.declares n e l = (refl, λ o. elim o [ ])
sign_is slash slash n e l = (refl, λ o. elim o [ ])
sign_is stop stop n e l = (refl, λ o. elim o [ ])
sign_is _ _ n e l = cc

wanted_is : (w : Wanted) (t : Token) (n : ℕ) → is_wanted w t ≡ true → IsLevel w n → (n ≡ next (depth_before w n) t) × (Opens t → depth_before w n < MAX_OPEN_BRACKETS)
wanted_is (a_word v) (name u) n e l = (refl, λ o. elim o [ ])
wanted_is any_name (name u) n e l = (refl, λ o. elim o [ ])
wanted_is (a_sign s) (sign r) n e l = sign_is s r n e l
wanted_is _ _ n e l = cc

fixed_is : (ws : List Wanted) (s : State) (t : Token) (p : Place) → StepIs (AreLevels ws (depth_of s) × IsWholeState s) (unclosed_count ws (depth_of s)) t (m.step limited_room (fixed ws s) (at p t)) (m.step any_room (fixed ws s) (at p t))
fixed_is [] s t p = refl
fixed_is (w ∷ []) s t p = where_so_is _ (unclosed_count (w ∷ []) (depth_of s)) t (is_wanted w t) s (λ e h. let k = wanted_is w t (depth_of s) e h.0 in (k.0, k.1, h.1))
fixed_is (w ∷ v ∷ ws) s t p = where_so_is _ (unclosed_count (w ∷ v ∷ ws) (depth_of s)) t (is_wanted w t) (fixed (v ∷ ws) s) (λ e h. let k = wanted_is w t (unclosed_count (v ∷ ws) (depth_of s)) e h.0.0 in (k.0, k.1, (h.0.1, h.1)))

symbols_are : (t : Token) (e : Bool) (d : Listing) → d.is_module ≡ e → StepIs (Unit {0}) (symbols_depth e) t (m.symbols_step t e d) (m.symbols_step t e d)
symbols_are (sign comma) e d k = (refl, λ w. (ap symbols_depth k, (λ o. elim o [ ]), tt))
symbols_are (sign stop) false d k = (refl, λ w. (refl, (λ o. elim o [ ]), tt))
symbols_are (sign closes_list) true d k = (refl, λ w. (refl, (λ o. elim o [ ]), ((tt, tt), tt)))
symbols_are _ _ _ k = refl

directed_is : (l : ℕ) (ps : Program) (v : List ℕ) → StepIs (Unit {0}) 0 (name v) (m.directive_step l ps v) (m.directive_step l ps v)
directed_is l ps v =
    cond_is (Unit {0}) 0 (name v) (bytes_eq v (codes "chr_constraint")) _ _ (refl, λ w. (refl, (λ o. elim o [ ]), tt))
    (cond_is (Unit {0}) 0 (name v) (bytes_eq v (codes "use_module")) _ _ (refl, λ w. (refl, (λ o. elim o [ ]), (((omega arith, omega arith), (tt, ((omega arith, omega arith), (tt, (tt, (tt, tt)))))), tt)))
    (cond_is (Unit {0}) 0 (name v) (bytes_eq v (codes "module")) _ _ (refl, λ w. (refl, (λ o. elim o [ ]), (((omega arith, omega arith), (tt, (tt, (omega arith, omega arith)))), tt))) refl))

step_is : (s : State) (p : Place) (t : Token) → StepIs (IsWholeState s) (depth_of s) t (m.step limited_room s (at p t)) (m.step any_room s (at p t))
step_is (want b k) p t = begin_is b k t
step_is (signed b k) p (numeral true n) = where_so_is (IsWhole k) (depth k) (numeral true n) (is_magnitude n) (state_after_primary b (number (neg_ℤ (pos n))) k) (λ e w. (refl, (λ o. elim o [ ]), w))
step_is (named v b k) p (sign opens) = opened_is (IsWhole k) (depth k) (sign opens) _ tt refl (λ w. w)
step_is (named v b k) p t = follow_is b.sum (m.product_with b.product (call (encode_utf8_all v) (exprs_of []))) k t
step_is (listed b k) p (sign closes_list) = (refl, λ w. (refl, (λ o. elim o [ ]), w))
step_is (listed b k) p t = begin_is no_prefix (m.elements m.of_list [] b ∷ k) t
step_is (have s e k) p t = follow_is s e k t
step_is (hashed q i ps) p (name v) = where_so_is (OfHeads q) 0 (name v) (bytes_eq v (codes "passive")) (marked (section_with_head q true i) ps) (λ e w. (refl, (λ o. elim o [ ]), tt))
step_is (marked q ps) p t = items_are (Unit {0}) t q ps
step_is (between ps) p over = (refl, λ w. (refl, (λ o. elim o [ ]), tt))
step_is (between ps) p (sign token.declares) = (refl, λ w. (refl, (λ o. elim o [ ]), tt))
step_is (between ps) p (name v) = (refl, λ w. (refl, (λ o. elim o [ ]), tt))
step_is (between ps) p t = begin_is no_prefix (m.item (heads p.line None []) ps ∷ []) t
step_is (labelled l v ps) p (sign label) = (refl, λ w. (refl, (λ o. elim o [ ]), tt))
step_is (labelled l v ps) p (sign opens) = opened_is (Unit {0}) 0 (sign opens) _ tt refl (λ w. tt)
step_is (labelled l v ps) p t = follow_is None (call (encode_utf8_all v) (exprs_of [])) (m.item (heads l None []) ps ∷ []) t
step_is (directive l ps) p (name v) = directed_is l ps v
step_is (fixed ws s) p t = fixed_is ws s t p
step_is (symbol d) p (name v) = (refl, λ w. (refl, (λ o. elim o [ ]), tt))
step_is (slashed d v) p (sign slash) = (refl, λ w. (refl, (λ o. elim o [ ]), tt))
step_is (counted d v) p (numeral g n) = where_so_is (Unit {0}) (symbols_depth d.is_module) (numeral g n) (is_number n) (declared (m.listing_with_symbol d v n)) (λ e w. (refl, (λ o. elim o [ ]), tt))
step_is (declared d) p t = symbols_are t d.is_module d refl
step_is (exporting l ps) p (name v) = (refl, λ w. (refl, (λ o. elim o [ ]), tt))
step_is (exporting l ps) p (sign closes_list) = (refl, λ w. (refl, (λ o. elim o [ ]), ((tt, tt), tt)))
step_is asking p t = begin_is no_prefix (m.item (asked p.line []) [] ∷ []) t
step_is (answered q) p over = (refl, λ w. (refl, (λ o. elim o [ ]), tt))
step_is _ _ _ = refl

-- the free automaton fails at the first of the rest, whatever follows, or at the end
Fails : State → List Placed → List Placed → Type 0
Fails s front [] = run any_room s front ≡ expected []
Fails s front (t ∷ rest) = (more : List Placed) → run any_room s (front ++ t ∷ more) ≡ expected (t ∷ more)

record FailsAt (s : State) (ts rest : List Placed) : Type 0 where
  front : List Placed
  split : ts ≡ front ++ rest
  before : Within (depth_of s) front
  fails : Fails s front rest
  reached : State
  leads : (more : List Placed) → run any_room s (front ++ more) ≡ run any_room reached more
  whole : IsWholeState reached

record DeepAt (s : State) (ts rest : List Placed) : Type 0 where
  front : List Placed
  place : Place
  bracket : Token
  more : List Placed
  rest_is : rest ≡ at place bracket ∷ more
  split : ts ≡ front ++ rest
  before : Within (depth_of s) front
  opens : Opens bracket
  full : MAX_OPEN_BRACKETS ≤ level (depth_of s) front
  reached : State
  leads : (more : List Placed) → run any_room s (front ++ at place bracket ∷ more) ≡ run any_room reached more
  whole : IsWholeState reached

abbrev Outcome : State → List Placed → Verdict → Type 0
Outcome s ts (accept x) = (run any_room s ts ≡ accept x) × Within (depth_of s) ts
Outcome s ts (expected rest) = FailsAt s ts rest
Outcome s ts (too_deep rest) = DeepAt s ts rest

Fails-step : (s s' : State) (t : Placed) (front rest : List Placed) → m.step any_room s t ≡ goes s' → Fails s' front rest → Fails s (t ∷ front) rest
unfolding Fails
Fails-step s s' t front [] e h = rw e h
Fails-step s s' t front (r ∷ rest) e h = λ more. rw e (h more)

ended_is : (s : State) → IsWholeState s → Outcome s [] (m.end_verdict s)
unfolding Fails
ended_is (done x) w = (refl, tt)
ended_is (want b k) w = record { front = []; split = refl; before = tt; fails = refl; reached = _; leads = λ more. refl; whole = w }
ended_is (signed b k) w = record { front = []; split = refl; before = tt; fails = refl; reached = _; leads = λ more. refl; whole = w }
ended_is (named v b k) w = record { front = []; split = refl; before = tt; fails = refl; reached = _; leads = λ more. refl; whole = w }
ended_is (listed b k) w = record { front = []; split = refl; before = tt; fails = refl; reached = _; leads = λ more. refl; whole = w }
ended_is (have s e k) w = record { front = []; split = refl; before = tt; fails = refl; reached = _; leads = λ more. refl; whole = w }
ended_is (hashed q i ps) w = record { front = []; split = refl; before = tt; fails = refl; reached = _; leads = λ more. refl; whole = w }
ended_is (marked q ps) w = record { front = []; split = refl; before = tt; fails = refl; reached = marked q ps; leads = λ more. refl; whole = w }
ended_is (between ps) w = record { front = []; split = refl; before = tt; fails = refl; reached = between ps; leads = λ more. refl; whole = w }
ended_is (labelled l v ps) w = record { front = []; split = refl; before = tt; fails = refl; reached = labelled l v ps; leads = λ more. refl; whole = w }
ended_is (directive l ps) w = record { front = []; split = refl; before = tt; fails = refl; reached = directive l ps; leads = λ more. refl; whole = w }
ended_is (fixed ws s) w = record { front = []; split = refl; before = tt; fails = refl; reached = fixed ws s; leads = λ more. refl; whole = w }
ended_is (symbol d) w = record { front = []; split = refl; before = tt; fails = refl; reached = symbol d; leads = λ more. refl; whole = w }
ended_is (slashed d v) w = record { front = []; split = refl; before = tt; fails = refl; reached = slashed d v; leads = λ more. refl; whole = w }
ended_is (counted d v) w = record { front = []; split = refl; before = tt; fails = refl; reached = counted d v; leads = λ more. refl; whole = w }
ended_is (declared d) w = record { front = []; split = refl; before = tt; fails = refl; reached = declared d; leads = λ more. refl; whole = w }
ended_is (exporting l ps) w = record { front = []; split = refl; before = tt; fails = refl; reached = exporting l ps; leads = λ more. refl; whole = w }
ended_is asking w = record { front = []; split = refl; before = tt; fails = refl; reached = asking; leads = λ more. refl; whole = w }
ended_is (answered q) w = record { front = []; split = refl; before = tt; fails = refl; reached = answered q; leads = λ more. refl; whole = w }

before_is : (s s' : State) (p : Place) (t : Token) (ts : List Placed) (v : Verdict) → m.step any_room s (at p t) ≡ goes s' → depth_of s' ≡ next (depth_of s) t → (Opens t → depth_of s < MAX_OPEN_BRACKETS) → Outcome s' ts v → Outcome s (at p t ∷ ts) v
before_is s s' p t ts (accept x) e d o h = (rw e h.0, (o, subst (λ n. Within n ts) d h.1))
before_is s s' p t ts (expected rest) e d o h = record { front = at p t ∷ h.front; split = ap (λ x. at p t ∷ x) h.split; before = (o, subst (λ n. Within n h.front) d h.before); fails = Fails-step s s' (at p t) h.front rest e h.fails; reached = h.reached; leads = λ more. rw e (h.leads more); whole = h.whole }
before_is s s' p t ts (too_deep rest) e d o h = record {
  front = at p t ∷ h.front;
  place = h.place;
  bracket = h.bracket;
  more = h.more;
  rest_is = h.rest_is;
  split = ap (λ x. at p t ∷ x) h.split;
  before = (o, subst (λ n. Within n h.front) d h.before);
  opens = h.opens;
  full = subst (λ n. MAX_OPEN_BRACKETS ≤ level n h.front) d h.full;
  reached = h.reached;
  leads = λ more. rw e (h.leads more);
  whole = h.whole;
}

run_is : (s : State) (ts : List Placed) → IsWholeState s → Outcome s ts (run limited_room s ts)
unfolding Fails
run_is s [] w = ended_is s w
run_is s (at p t ∷ ts) w = by (m.step limited_room s (at p t)) (step_is s p t) (λ s' w'. run_is s' ts w')
  where
    by : (x : Step) → StepIs (IsWholeState s) (depth_of s) t x (m.step any_room s (at p t)) → ((s' : State) → IsWholeState s' → Outcome s' ts (run limited_room s' ts)) → Outcome s (at p t ∷ ts) (step_verdict x (at p t ∷ ts) (λ s'. run limited_room s' ts))
    by (goes s') h f = let k = h.1 w in before_is s s' p t ts (run limited_room s' ts) h.0 k.0 k.1 (f s' k.2)
    by refused h f = record { front = []; split = refl; before = tt; fails = (λ more. rw h refl); reached = s; leads = λ more. refl; whole = w }
    by deep h f = record { front = []; place = p; bracket = t; more = ts; rest_is = refl; split = refl; before = tt; opens = h.0; full = h.1; reached = h.2.0; leads = (λ more. rw h.2.1 refl); whole = h.2.2 w }

-- with its brackets within the limit, a text is read as with none
within_is : (s : State) (ts : List Placed) → IsWholeState s → Within (depth_of s) ts → run limited_room s ts ≡ run any_room s ts
within_is s [] w h = refl
within_is s (at p t ∷ ts) w h = by (m.step limited_room s (at p t)) (m.step any_room s (at p t)) (step_is s p t) (λ s' w' h'. within_is s' ts w' h')
  where
    by : (x y : Step) → StepIs (IsWholeState s) (depth_of s) t x y → ((s' : State) → IsWholeState s' → Within (depth_of s') ts → run limited_room s' ts ≡ run any_room s' ts) → step_verdict x (at p t ∷ ts) (λ s'. run limited_room s' ts) ≡ step_verdict y (at p t ∷ ts) (λ s'. run any_room s' ts)
    by (goes s') y k f = let u = k.1 w in rw k.0 (f s' u.2 (subst (λ n. Within n ts) (sym u.0) h.1))
    by refused y k f = rw k refl
    by deep y k f = absurd (let i : depth_of s < MAX_OPEN_BRACKETS = h.0 k.0 in let j : MAX_OPEN_BRACKETS ≤ depth_of s = k.1 in omega (arith, i, j))

start_whole : (l : Language) → IsWholeState (first_state l)
start_whole m.programs = tt
start_whole m.queries = tt

start_depth : (l : Language) → depth_of (first_state l) ≡ 0
start_depth m.programs = refl
start_depth m.queries = refl

-- the laws of a language whose texts are what the free automaton accepts
module _ {S : Type 0} (Spelled : List Placed → S → Type 0) (l : Language) (tree : S → SyntaxTree)
    (runs : (ts : List Placed) (s : S) → Spelled ts s → run any_room (first_state l) ts ≡ accept (tree s))
    (spells : (ts : List Placed) (x : SyntaxTree) → run any_room (first_state l) ts ≡ accept x → (s : S) × (x ≡ tree s) × Spelled ts s) where
  outcome : (ts : List Placed) (v : Verdict) → verdict_of l ts ≡ v → Outcome (first_state l) ts v
  outcome ts v e = subst (Outcome (first_state l) ts) e (run_is (first_state l) ts (start_whole l))

  within : (ts : List Placed) → Within (depth_of (first_state l)) ts → Within 0 ts
  within ts h = subst (λ n. Within n ts) (start_depth l) h

  pub accepts : (ts : List Placed) (s : S) → Spelled ts s → Within 0 ts → verdict_of l ts ≡ accept (tree s)
  accepts ts s h w = within_is (first_state l) ts (start_whole l) (subst (λ n. Within n ts) (sym (start_depth l)) w) ∙ runs ts s h

  pub accepted : (ts : List Placed) (x : SyntaxTree) → verdict_of l ts ≡ accept x → ((s : S) × (x ≡ tree s) × Spelled ts s) × Within 0 ts
  accepted ts x e = let h = outcome ts (accept x) e in (spells ts x h.0, within ts h.1)

  -- what can be finished from a state that tokens lead to
  begins : (front : List Placed) (s : State) → IsWholeState s → ((more : List Placed) → run any_room (first_state l) (front ++ more) ≡ run any_room s more) → Begins Spelled front
  begins front s w h = let f = finishes s w in let k = spells (front ++ f.more) f.tree (h f.more ∙ f.accepts) in (f.more, k.0, k.2)

  fails_no_text : (front : List Placed) (p : Place) (t : Token) (rest : List Placed) → Fails (first_state l) front (at p t ∷ rest) → Begins Spelled (front ++ at p t ∷ []) → ⊥
  unfolding Fails
  fails_no_text front p t rest h b =
      let e = runs _ b.1 b.2 in
      let g = h b.0 in
      let same : (front ++ at p t ∷ []) ++ b.0 ≡ front ++ at p t ∷ b.0 = append_assoc front (at p t ∷ []) b.0 in
      let clash : expected (at p t ∷ b.0) ≡ accept (tree b.1) = sym g ∙ ap (run any_room (first_state l)) (sym same) ∙ e in
      cc

  pub unexpected : (ts : List Placed) (p : Place) (t : Token) (rest : List Placed) → verdict_of l ts ≡ expected (at p t ∷ rest) → IsUnexpected Spelled ts p t
  unexpected ts p t rest e = let h = outcome ts (expected (at p t ∷ rest)) e in
      record { front = h.front; rest = rest; split = h.split; before = within h.front h.before; none = fails_no_text h.front p t rest h.fails; begun = begins h.front h.reached h.whole h.leads }

  deep_there : (ts rest : List Placed) → (h : DeepAt (first_state l) ts rest) → IsTooDeep Spelled ts h.place
  deep_there ts rest h = record {
    front = h.front;
    bracket = h.bracket;
    rest = h.more;
    split = h.split ∙ ap (λ r. h.front ++ r) h.rest_is;
    before = within h.front h.before;
    is_bracket = h.opens;
    full = subst (λ n. MAX_OPEN_BRACKETS ≤ level n h.front) (start_depth l) h.full;
    begun = begins (h.front ++ at h.place h.bracket ∷ []) h.reached h.whole (λ more. ap (run any_room (first_state l)) (append_assoc h.front (at h.place h.bracket ∷ []) more) ∙ h.leads more);
  }

  place_same : (p q : Place) (t u : Token) (ts us : List Placed) → at p t ∷ ts ≡ at q u ∷ us → q ≡ p
  place_same p q t u ts us e = cc

  pub deep_at : (ts : List Placed) (p : Place) (t : Token) (rest : List Placed) → verdict_of l ts ≡ too_deep (at p t ∷ rest) → IsTooDeep Spelled ts p
  deep_at ts p t rest e =
      let h = outcome ts (too_deep (at p t ∷ rest)) e in
      subst (IsTooDeep Spelled ts) (place_same p h.place t h.bracket rest h.more h.rest_is) (deep_there ts (at p t ∷ rest) h)

  pub never_deep : (ts : List Placed) → verdict_of l ts ≡ too_deep [] → ⊥
  never_deep ts e = let h = outcome ts (too_deep []) e in nothing_there h.place h.bracket h.more h.rest_is
    where
      nothing_there : (p : Place) (t : Token) (us : List Placed) → [] ≡ at p t ∷ us → ⊥
      nothing_there p t us e = cc

-- a fault, or the end of a text
abbrev pub IsLast : Token → Type 0
IsLast over = Unit {0}
IsLast (fault f) = Unit {0}
IsLast _ = ⊥

-- such a token is refused, or it ends the reading
abbrev Ends : Step → Type 0
Ends refused = Unit {0}
Ends (goes (done x)) = Unit {0}
Ends _ = ⊥

close_ends : (e : Expr) (k : List Frame) (t : Token) → IsLast t → Ends (m.expr_step e k t)
close_ends e (m.paren b ∷ k) over h = tt
close_ends e (m.paren b ∷ k) (fault f) h = tt
close_ends e (m.elements q es b ∷ k) over h = tt
close_ends e (m.elements q es b ∷ k) (fault f) h = tt
close_ends e (m.tail es b ∷ k) over h = tt
close_ends e (m.tail es b ∷ k) (fault f) h = tt
close_ends e (m.item q ps ∷ []) over h = tt
close_ends e (m.item q ps ∷ []) (fault f) h = tt
close_ends e (m.right q ps r d ∷ []) over h = tt
close_ends e (m.right q ps r d ∷ []) (fault f) h = tt
close_ends e [] over h = tt
close_ends e [] (fault f) h = tt
close_ends e (m.item q ps ∷ g ∷ k) over h = tt
close_ends e (m.item q ps ∷ g ∷ k) (fault f) h = tt
close_ends e (m.right q ps r d ∷ g ∷ k) over h = tt
close_ends e (m.right q ps r d ∷ g ∷ k) (fault f) h = tt
close_ends e k _ h = absurd h

follow_ends : (s : Option (Expr × Additive)) (e : Expr) (k : List Frame) (t : Token) → IsLast t → Ends (m.operator_step s e k t)
follow_ends s e k over h = close_ends (m.sum_with s e) k over tt
follow_ends s e k (fault f) h = close_ends (m.sum_with s e) k (fault f) tt
follow_ends s e k _ h = absurd h

fixed_ends : (ws : List Wanted) (s : State) (p : Place) (t : Token) → IsLast t → Ends (m.step limited_room (fixed ws s) (at p t))
fixed_ends [] s p t h = tt
fixed_ends (a_word v ∷ ws) s p over h = tt
fixed_ends (a_word v ∷ ws) s p (fault f) h = tt
fixed_ends (any_name ∷ ws) s p over h = tt
fixed_ends (any_name ∷ ws) s p (fault f) h = tt
fixed_ends (a_sign r ∷ ws) s p over h = tt
fixed_ends (a_sign r ∷ ws) s p (fault f) h = tt
fixed_ends (w ∷ ws) s p _ h = absurd h

last_ends : (s : State) (p : Place) (t : Token) → IsLast t → Ends (m.step limited_room s (at p t))
last_ends (named v b k) p over h = follow_ends b.sum (m.product_with b.product (call (encode_utf8_all v) (exprs_of []))) k over tt
last_ends (named v b k) p (fault f) h = follow_ends b.sum (m.product_with b.product (call (encode_utf8_all v) (exprs_of []))) k (fault f) tt
last_ends (have s e k) p over h = follow_ends s e k over tt
last_ends (have s e k) p (fault f) h = follow_ends s e k (fault f) tt
last_ends (fixed ws s) p over h = fixed_ends ws s p over tt
last_ends (fixed ws s) p (fault f) h = fixed_ends ws s p (fault f) tt
last_ends _ p over h = tt
last_ends _ p (fault f) h = tt
last_ends _ p _ h = absurd h

-- the reading of a text never runs out of tokens
pub never_over : (s : State) (ts : List Placed) (p : Place) (t : Token) → IsLast t → run limited_room s (ts ++ at p t ∷ []) ≡ expected [] → ⊥
never_over s [] p t h e = by (m.step limited_room s (at p t)) (last_ends s p t h) e
  where
    by : (o : Step) → Ends o → step_verdict o (at p t ∷ []) (λ s'. run limited_room s' []) ≡ expected [] → ⊥
    by refused h e = cc
    by (goes (done x)) h e = cc
    by _ h e = absurd h
never_over s (u ∷ ts) p t h e = by (m.step limited_room s u) e (λ s' e'. never_over s' ts p t h e')
  where
    by : (o : Step) → step_verdict o (u ∷ ts ++ at p t ∷ []) (λ s'. run limited_room s' (ts ++ at p t ∷ [])) ≡ expected [] → ((s' : State) → run limited_room s' (ts ++ at p t ∷ []) ≡ expected [] → ⊥) → ⊥
    by refused e f = cc
    by deep e f = cc
    by (goes s') e f = f s' e
