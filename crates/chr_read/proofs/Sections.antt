-- Steps of the limited automaton in a rule, that the reader takes at once.
use Rattle.std.proofs.Common.{◌≡◌, ◌∙◌, ℕ, List, [], ◌∷◌, Option, None, Result, Ok, Err, IfOk, MatchResult, Vec, ap, ap₂, refl, subst, sym}
use Rattle.std.specs.Borrow.{Bor}
use Rattle.chr_semantics.specs.Tokens as token
use Rattle.chr_semantics.specs.Tokens.{Place, opens, comma, bar, label, backslash, hash, simplifies, propagates, stop, name, over, sign, Placed, at}
use Rattle.chr_semantics.specs.Grammar.{arrow_sign, line_of}
use Rattle.chr_semantics.specs.Syntax.{Arrow, simplification, propagation, Head, Item, Program}
use Rattle.chr_tokens.specs.TokenView.{placed_views}
use Rattle.chr_tokens.specs.declared.token.Placed as code
use Rattle.chr_read.specs.declared.halt.Halt.{Halt}
use Rattle.chr_read.specs.declared.halt.Halt.TheVariants.{Expected}
use Rattle.chr_read.specs.declared.rules.Front.{Front}
use Rattle.chr_read.specs.declared.syntax.Head as code_head
use Rattle.chr_read.specs.SyntaxView.{arrow_view, head_views}
use Rattle.chr_read.specs.Automaton.{RuleStart, Verdict, rule_start, between, body, guarded, heads, behind, expected, limited_room, run, state_before_item}
use Rattle.chr_read.specs.Reads.{BeginsWith, Goes, HaltIs, Lacks, NoArrow, NoName, items_verdict}
use Rattle.chr_read.specs.Parts.{BeginsRule}

-- a rule without a name begins with its heads
pub no_name : (ps : Program) (ts : List Placed) → BeginsRule ts → NoName ts → run limited_room (between ps) ts ≡ run limited_room (state_before_item (heads (line_of ts) None []) ps) ts
no_name ps [] h i = refl
no_name ps (at p (name w) ∷ ts) h i = absurd i
no_name ps (at p over ∷ ts) h i = absurd h
no_name ps (at p (sign token.declares) ∷ ts) h i = absurd h
no_name ps (at p t ∷ ts) h i = refl

pub no_label : (ps : Program) (p : Place) (w : List ℕ) (ts : List Placed) → Lacks label ts → run limited_room (between ps) (at p (name w) ∷ ts) ≡ run limited_room (state_before_item (heads p.line None []) ps) (at p (name w) ∷ ts)
no_label ps p w [] h = refl
no_label ps p w (at q (sign label) ∷ ts) h = absurd (h refl)
no_label ps p w (at q (sign opens) ∷ ts) h = refl
no_label ps p w (at q t ∷ ts) h = refl

pub ruleset label_steps = (no_name, no_label)

-- the arrow after the heads
pub heads_turn : (l : ℕ) (w : Option (List ℕ)) (hs : List Head) (r : Arrow) (ps : Program) (p : Place) (ts : List Placed) → items_verdict (heads l w hs) ps (at p (sign (arrow_sign r)) ∷ ts) ≡ run limited_room (state_before_item (body (rule_start l w hs [] r) []) ps) ts
heads_turn l w hs simplification ps p ts = refl
heads_turn l w hs propagation ps p ts = refl

pub behind_turns : (l : ℕ) (w : Option (List ℕ)) (hs js : List Head) (r : Arrow) (ps : Program) (p : Place) (ts : List Placed) → items_verdict (behind l w hs js) ps (at p (sign (arrow_sign r)) ∷ ts) ≡ run limited_room (state_before_item (body (rule_start l w hs js r) []) ps) ts
behind_turns l w hs js simplification ps p ts = refl
behind_turns l w hs js propagation ps p ts = refl

-- a first token that no section of this kind goes on with
pub heads_refuse : (l : ℕ) (w : Option (List ℕ)) (hs : List Head) (ps : Program) (ts : List Placed) → Lacks comma ts → NoArrow ts → Lacks backslash ts → items_verdict (heads l w hs) ps ts ≡ expected ts
heads_refuse l w hs ps [] c a b = refl
heads_refuse l w hs ps (at p (sign comma) ∷ ts) c a b = absurd (c refl)
heads_refuse l w hs ps (at p (sign simplifies) ∷ ts) c a b = absurd a
heads_refuse l w hs ps (at p (sign propagates) ∷ ts) c a b = absurd a
heads_refuse l w hs ps (at p (sign backslash) ∷ ts) c a b = absurd (b refl)
heads_refuse l w hs ps (at p t ∷ ts) c a b = refl

pub behind_refuses : (l : ℕ) (w : Option (List ℕ)) (hs js : List Head) (ps : Program) (ts : List Placed) → Lacks comma ts → NoArrow ts → items_verdict (behind l w hs js) ps ts ≡ expected ts
behind_refuses l w hs js ps [] c a = refl
behind_refuses l w hs js ps (at p (sign comma) ∷ ts) c a = absurd (c refl)
behind_refuses l w hs js ps (at p (sign simplifies) ∷ ts) c a = absurd a
behind_refuses l w hs js ps (at p (sign propagates) ∷ ts) c a = absurd a
behind_refuses l w hs js ps (at p t ∷ ts) c a = refl

-- what comes of heads before their arrow
abbrev pub after_front : {A : Type 0} → ℕ → Option (List ℕ) → Program → Front A × Bor (List code.Placed) → Verdict
after_front l w ps x = run limited_room (state_before_item (body (rule_start l w (head_views x.0.heads.items) (head_views x.0.behind.items) (arrow_view x.0.arrow)) []) ps) (placed_views x.1.now)

abbrev pub IsBeforeArrow : {A : Type 0} → Bor (List code.Placed) → Result (Front A × Bor (List code.Placed)) Halt → Type 0
IsBeforeArrow ts r = MatchResult r (λ x. BeginsWith (placed_views ts.now) (sign (arrow_sign (arrow_view x.0.arrow))) (placed_views x.1.now)) (λ e. (e ≡ Expected ts) × NoArrow (placed_views ts.now))

pub front_alone : {A : Type 0} (l : ℕ) (w : Option (List ℕ)) (ps : Program) (ts : Bor (List code.Placed)) (first none : Vec (code_head.Head A) A) (r : Result (Front A × Bor (List code.Placed)) Halt)
    → Lacks comma (placed_views ts.now) → Lacks backslash (placed_views ts.now) → none.items ≡ [] → IfOk r (λ x. (x.0.heads ≡ first) × (x.0.behind ≡ none)) → IsBeforeArrow ts r → Goes (items_verdict (heads l w (head_views first.items)) ps (placed_views ts.now)) r (after_front l w ps)
front_alone l w ps ts first none (Ok x) c b empty are turns =
    ap (items_verdict (heads l w (head_views first.items)) ps) turns.are
    ∙ heads_turn l w (head_views first.items) (arrow_view x.0.arrow) ps turns.place (placed_views x.1.now)
    ∙ ap₂ (λ hs js. run limited_room (state_before_item (body (rule_start l w hs js (arrow_view x.0.arrow)) []) ps) (placed_views x.1.now)) (ap (λ v. head_views v.items) (sym are.0)) (sym (ap (λ v. head_views v.items) are.1 ∙ ap head_views empty))
front_alone l w ps ts first none (Err e) c b empty are turns = subst (λ f. HaltIs f (items_verdict (heads l w (head_views first.items)) ps (placed_views ts.now))) (sym turns.0) (heads_refuse l w (head_views first.items) ps (placed_views ts.now) c turns.1 b)

pub front_with_behind : {A : Type 0} (l : ℕ) (w : Option (List ℕ)) (ps : Program) (ts : Bor (List code.Placed)) (first second : Vec (code_head.Head A) A) (r : Result (Front A × Bor (List code.Placed)) Halt)
    → Lacks comma (placed_views ts.now) → IfOk r (λ x. (x.0.heads ≡ first) × (x.0.behind ≡ second)) → IsBeforeArrow ts r → Goes (items_verdict (behind l w (head_views first.items) (head_views second.items)) ps (placed_views ts.now)) r (after_front l w ps)
front_with_behind l w ps ts first second (Ok x) c are turns =
    ap (items_verdict (behind l w (head_views first.items) (head_views second.items)) ps) turns.are
    ∙ behind_turns l w (head_views first.items) (head_views second.items) (arrow_view x.0.arrow) ps turns.place (placed_views x.1.now)
    ∙ ap₂ (λ hs js. run limited_room (state_before_item (body (rule_start l w hs js (arrow_view x.0.arrow)) []) ps) (placed_views x.1.now)) (ap (λ v. head_views v.items) (sym are.0)) (ap (λ v. head_views v.items) (sym are.1))
front_with_behind l w ps ts first second (Err e) c are turns =
    subst (λ f. HaltIs f (items_verdict (behind l w (head_views first.items) (head_views second.items)) ps (placed_views ts.now))) (sym turns.0) (behind_refuses l w (head_views first.items) (head_views second.items) ps (placed_views ts.now) c turns.1)

pub body_refuses : (s : RuleStart) (is : List Item) (ps : Program) (ts : List Placed) → Lacks comma ts → Lacks stop ts → Lacks bar ts → items_verdict (body s is) ps ts ≡ expected ts
body_refuses s is ps [] c a b = refl
body_refuses s is ps (at p (sign comma) ∷ ts) c a b = absurd (c refl)
body_refuses s is ps (at p (sign stop) ∷ ts) c a b = absurd (a refl)
body_refuses s is ps (at p (sign bar) ∷ ts) c a b = absurd (b refl)
body_refuses s is ps (at p t ∷ ts) c a b = refl

pub guarded_refuses : (s : RuleStart) (gs is : List Item) (ps : Program) (ts : List Placed) → Lacks comma ts → Lacks stop ts → items_verdict (guarded s gs is) ps ts ≡ expected ts
guarded_refuses s gs is ps [] c a = refl
guarded_refuses s gs is ps (at p (sign comma) ∷ ts) c a = absurd (c refl)
guarded_refuses s gs is ps (at p (sign stop) ∷ ts) c a = absurd (a refl)
guarded_refuses s gs is ps (at p t ∷ ts) c a = refl
