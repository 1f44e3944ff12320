-- What the functions that read rules, directives and whole texts say, by the automaton.
use Rattle.std.specs.Prelude.{ℕ, Bool, false, List, [], ◌∷◌, ◌++◌, Option, Result, map, option_map}
use Rattle.chr_semantics.specs.Tokens as token
use Rattle.chr_semantics.specs.Tokens.{Sign, Placed, at, over, sign}
use Rattle.chr_semantics.specs.Syntax as syntax
use Rattle.chr_semantics.specs.Grammar.{line_of}
use Rattle.chr_tokens.specs.TokenView.{placed_views, sign_view}
use Rattle.chr_read.specs.declared.halt.Halt.{Halt}
use Rattle.chr_read.specs.declared.directives.Wanted as code_wanted
use Rattle.chr_read.specs.declared.directives.Wanted.TheVariants as Written
use Rattle.chr_read.specs.declared.rules.Front.{Front}
use Rattle.chr_read.specs.declared.rules.Body.{Body}
use Rattle.chr_read.specs.declared.syntax.RuleSyntax.{RuleSyntax}
use Rattle.chr_read.specs.declared.syntax.Declaration.{Declaration}
use Rattle.chr_read.specs.declared.syntax.Part.{Part}
use Rattle.chr_read.specs.declared.syntax.QuerySyntax.{QuerySyntax}
use Rattle.chr_read.specs.SyntaxView.{arrow_view, declaration_view, declaration_views, head_views, item_views, part_view, part_views, query_view, rule_view}
use Rattle.chr_read.specs.Automaton.{Listing, RuleStart, State, Wanted, a_sign, a_word, accept, any_name, between, body, declared, directive, done, state_after_exports, exporting, fixed, state_before_wanted, heads, library_words, limited_room, listing_with, module_words, program, programs, queries, query, verdict_of, rule_of, run, rule_start, symbol, state_before_item}
use Rattle.chr_read.specs.Reads.{Goes, Reading, Rest}

-- the first token is neither the end of the text nor the sign of a directive
abbrev pub BeginsRule : List Placed → Type 0
BeginsRule (at p over ∷ ts) = ⊥
BeginsRule (at p (sign token.declares) ∷ ts) = ⊥
BeginsRule _ = Unit {0}

abbrev pub ReadsLabel : {S : Type 0} → (S → List ℕ) → List Placed → Reading (Option S) → Type 0
ReadsLabel bytes ts r = (ps : syntax.Program) → Goes (run limited_room (between ps) ts) r (λ x. run limited_room (state_before_item (heads (line_of ts) (option_map bytes x.0) []) ps) (placed_views x.1.now))

abbrev pub ReadsFront : {A : Type 0} → List Placed → Reading (Front A) → Type 0
ReadsFront ts r = (l : ℕ) (w : Option (List ℕ)) (ps : syntax.Program) → Goes (run limited_room (state_before_item (heads l w []) ps) ts) r
    (λ x. run limited_room (state_before_item (body (rule_start l w (head_views x.0.heads.items) (head_views x.0.behind.items) (arrow_view x.0.arrow)) []) ps) (placed_views x.1.now))

abbrev pub ReadsBody : {A : Type 0} → List Placed → Reading (Body A) → Type 0
ReadsBody ts r = (s : RuleStart) (ps : syntax.Program) → Goes (run limited_room (state_before_item (body s []) ps) ts) r
    (λ x. run limited_room (between (ps ++ rule_of s (item_views x.0.guard.items) (item_views x.0.body.items) ∷ [])) (placed_views x.1.now))

abbrev pub ReadsRule : {A : Type 0} → List Placed → Reading (RuleSyntax A) → Type 0
ReadsRule ts r = (ps : syntax.Program) → Goes (run limited_room (between ps) ts) r (λ x. run limited_room (between (ps ++ syntax.rule (line_of ts) (rule_view x.0) ∷ [])) (placed_views x.1.now))

-- after the `:-` of a directive
abbrev pub ReadsDirective : {A : Type 0} → ℕ → List Placed → Reading (Part A) → Type 0
ReadsDirective l ts r = (ps : syntax.Program) → Goes (run limited_room (directive l ps) ts) r (λ x. run limited_room (between (ps ++ part_view x.0 ∷ [])) (placed_views x.1.now))

abbrev pub listing : Bool → ℕ → syntax.Program → List syntax.Declaration → Listing
listing m l ps ds = record { is_module = m; line = l; parts = ps; done = ds }

abbrev pub ReadsDeclared : {A : Type 0} → ℕ → List Placed → Reading (Part A) → Type 0
ReadsDeclared l ts r = (ps : syntax.Program) → Goes (run limited_room (symbol (listing false l ps [])) ts) r (λ x. run limited_room (between (ps ++ part_view x.0 ∷ [])) (placed_views x.1.now))

abbrev pub ReadsSymbol : {A : Type 0} → List Placed → Reading (Declaration A) → Type 0
ReadsSymbol ts r = (d : Listing) → Goes (run limited_room (symbol d) ts) r (λ x. run limited_room (declared (listing_with d (declaration_view x.0))) (placed_views x.1.now))

abbrev pub ReadsSymbols : {A V : Type 0} → (V → List (Declaration A)) → List Placed → Reading V → Type 0
ReadsSymbols items ts r = (m : Bool) (l : ℕ) (ps : syntax.Program) → Goes (run limited_room (symbol (listing m l ps [])) ts) r (λ x. run limited_room (declared (listing m l ps (declaration_views (items x.0)))) (placed_views x.1.now))

-- a token that has to come
abbrev pub ReadsWanted : Wanted → List Placed → Rest → Type 0
ReadsWanted w ts r = (ws : List Wanted) (s : State) → Goes (run limited_room (fixed (w ∷ ws) s) ts) r (λ after. run limited_room (state_before_wanted ws s) (placed_views after.now))

abbrev pub wanted_view : code_wanted.Wanted → Wanted
wanted_view (Written.Sign s) = a_sign (sign_view s)
wanted_view (Written.Word w) = a_word w.now
wanted_view Written.Name = any_name

abbrev pub wanted_views : List code_wanted.Wanted → List Wanted
wanted_views ws = map wanted_view ws

-- tokens that have to come
abbrev pub ReadsFixed : List Wanted → List Placed → Rest → Type 0
ReadsFixed ws ts r = (s : State) → Goes (run limited_room (state_before_wanted ws s) ts) r (λ after. run limited_room s (placed_views after.now))

abbrev pub ReadsLibrary : List Placed → Rest → Type 0
ReadsLibrary ts r = (s : State) → Goes (run limited_room (fixed library_words s) ts) r (λ after. run limited_room s (placed_views after.now))

abbrev pub ReadsExports : List Placed → Rest → Type 0
ReadsExports ts r = (l : ℕ) (ps : syntax.Program) → Goes (run limited_room (exporting l ps) ts) r (λ after. run limited_room (state_after_exports l ps) (placed_views after.now))

abbrev pub ReadsModule : List Placed → Rest → Type 0
ReadsModule ts r = (l : ℕ) (ps : syntax.Program) → Goes (run limited_room (fixed module_words (exporting l ps)) ts) r (λ after. run limited_room (between (ps ++ syntax.ignored l ∷ [])) (placed_views after.now))

-- a part, and whole texts
abbrev pub NoOver : List Placed → Type 0
NoOver (at p over ∷ ts) = ⊥
NoOver _ = Unit {0}

abbrev pub ReadsPart : {A : Type 0} → List Placed → Reading (Part A) → Type 0
ReadsPart ts r = (ps : syntax.Program) → Goes (run limited_room (between ps) ts) r (λ x. run limited_room (between (ps ++ part_view x.0 ∷ [])) (placed_views x.1.now))

abbrev pub ReadsParts : {A V : Type 0} → (V → List (Part A)) → List Placed → Reading V → Type 0
ReadsParts items ts r = Goes (run limited_room (between []) ts) r (λ x. run limited_room (done (program (part_views (items x.0)))) (placed_views x.1.now))

abbrev pub ReadsProgram : {A V : Type 0} → (V → List (Part A)) → List Placed → Result V Halt → Type 0
ReadsProgram items ts r = Goes (verdict_of programs ts) r (λ x. accept (program (part_views (items x))))

abbrev pub ReadsQuery : {A : Type 0} → List Placed → Result (QuerySyntax A) Halt → Type 0
ReadsQuery ts r = Goes (verdict_of queries ts) r (λ x. accept (query (query_view x)))
