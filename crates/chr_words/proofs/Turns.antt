-- What one word does in the walk of a parse.
use Rattle.std.proofs.Common.{◌≡◌, ◌∙◌, ◌||◌, ◌++◌, Bool, true, false, cond, refl, sym, ap, ap₂, subst, List, [], ◌∷◌, Option, Some, None, codes, true≢false}
use Rattle.std.specs.Prelude.{fold, is_some}
use Rattle.std.specs.List.{list_all}
use Rattle.clap.specs.Kinds.{Kinds, or_else}
use Rattle.clap.specs.Faults.{check_fault, defaults_fault, entered_fault, given_default_fault, settle_fault, turn_fault, walk_fault}
use Rattle.clap.specs.Walk.{Held, Row, Rule, Text, Walk, default_rows, finished, first_of, has_row, one_of, is_empty, reading_by, settled, walked, with_default}
use Rattle.clap.specs.Simple.{Shape, built, entered}
use Rattle.clap.specs.Values.{bool_text}
use Rattle.clap.specs.declared.error.kind.ErrorKind.{ErrorKind}
use Rattle.clap.specs.declared.error.kind.ErrorKind.TheVariants as kind
use Rattle.chr_words.specs.Words.{Asks, RunWords, help, refused, run, version}
use Rattle.chr_words.specs.App.{chr_app}
use Rattle.chr_words.proofs.Numbers.{both}
use Rattle.chr_words.proofs.Rows.{AreFit, budget_built, help_built, program_built, query_built, record_built, replay_built, totals_built, workers_built}

-- those that have no default
abbrev plain_rules : List Rule
plain_rules = program_built ∷ query_built ∷ budget_built ∷ workers_built ∷ record_built ∷ replay_built ∷ []

abbrev pub rules : List Rule
rules = plain_rules ++ totals_built ∷ help_built ∷ []

abbrev pub top : Shape
top = (built chr_app).top

pub rules_are : top.rules ≡ rules
rules_are = refl

-- ---- faults

-- one kind, which is no request for help
abbrev pub is_wrong : ErrorKind → Bool
is_wrong kind.DisplayHelp = false
is_wrong kind.OutOfMemory = false
is_wrong _ = true

abbrev pub are_wrong : Kinds → Bool
are_wrong [] = false
are_wrong (k ∷ []) = is_wrong k
are_wrong (k ∷ l ∷ ks) = false

-- the first fault of a walk, and what its end adds
abbrev pub fault_from : Kinds → Walk → Kinds
fault_from before end = or_else before (or_else (entered_fault (built chr_app) end.stopped)
    (or_else (settle_fault rules false end.held)
    (or_else (defaults_fault (settled rules end.held).rows rules)
    (check_fault top (finished rules end.held) (is_some (entered (built chr_app) end.stopped))))))

abbrev pub end_of : Walk → List Text → Walk
end_of w words = fold (walked rules []) w words

abbrev pub fault_at : Walk → List Text → Kinds
fault_at w words = fault_from (walk_fault top [] w words) (end_of w words)

-- the rows show what was said
pub record Shows (run_words : RunWords) (rows : List Row) : Type 0 where
  pub program : first_of (codes "PROGRAM") rows ≡ run_words.program
  pub query : first_of (codes "QUERY") rows ≡ run_words.query
  pub budget : one_of (codes "budget") rows ≡ run_words.values.budget
  pub workers : one_of (codes "workers") rows ≡ run_words.values.workers
  pub recorded : first_of (codes "record") rows ≡ run_words.values.recorded
  pub replay : first_of (codes "replay") rows ≡ run_words.values.replay
  pub totals : one_of (codes "totals") rows ≡ Some (bool_text run_words.values.totals)
  pub fit : AreFit run_words.values

-- the walk over the words ends as they ask
abbrev pub Agrees : Asks → Walk → List Text → Type 0
Agrees (run run_words) w words = (fault_at w words ≡ []) × Shows run_words (finished rules (end_of w words).held)
Agrees help w words = fault_at w words ≡ kind.DisplayHelp ∷ []
Agrees version w words = ⊥
Agrees refused w words = are_wrong (fault_at w words) ≡ true

agrees_along : (a : Asks) (w v : Walk) (words more : List Text) → fault_at w words ≡ fault_at v more → end_of w words ≡ end_of v more → Agrees a v more → Agrees a w words
agrees_along (run run_words) w v words more e f h = (e ∙ h.0, subst (λ (x : Walk). Shows run_words (finished rules x.held)) (sym f) h.1)
agrees_along help w v words more e f h = e ∙ h
agrees_along version w v words more e f h = h
agrees_along refused w v words more e f h = ap are_wrong e ∙ h

-- a word that fails not, and takes the walk further
pub goes_on : (a : Asks) (w v : Walk) (word : Text) (words : List Text) → turn_fault top [] w word ≡ [] → walked rules [] w word ≡ v → Agrees a v words → Agrees a w (word ∷ words)
unfolding walk_fault
goes_on a w v word words fine is h =
    agrees_along a w v (word ∷ words) words
    (ap₂ (λ (f : Kinds) (x : Walk). fault_from (or_else f (walk_fault top [] x words)) (end_of x words)) fine is)
    (ap (λ (x : Walk). end_of x words) is) h

-- a word that fails
pub fails_at : (w : Walk) (word : Text) (words : List Text) (k : ErrorKind) → turn_fault top [] w word ≡ k ∷ [] → fault_at w (word ∷ words) ≡ k ∷ []
unfolding walk_fault
fails_at w word words k is =
    ap (λ (f : Kinds). fault_from (or_else f (walk_fault top [] (walked rules [] w word) words)) (end_of (walked rules [] w word) words)) is

-- ---- the end

cond-same : {X : Type 0} (b : Bool) (x : X) → cond b x x ≡ x
cond-same true x = refl
cond-same false x = refl

no_default : (rows : List Row) (a : Rule) → a.defaults ≡ [] → with_default rows a ≡ rows
no_default rows a e = ap (λ d. cond (has_row a.id rows) rows (default_rows a.id (reading_by a) d rows)) e ∙ cond-same (has_row a.id rows) rows

abbrev has_none : {X : Type 0} → List X → Bool
has_none [] = true
has_none (x ∷ xs) = false

no_defaults : (rows : List Row) (more : List Rule) → list_all (λ a. has_none a.defaults) more ≡ true → fold with_default rows more ≡ rows
no_defaults rows [] e = refl
no_defaults rows (a ∷ more) e =
    let parts = both _ _ e in
    ap (λ r. fold with_default r more) (no_default rows a (none_is a.defaults parts.0)) ∙ no_defaults rows more parts.1
  where
    none_is : (d : List Text) → has_none d ≡ true → d ≡ []
    none_is [] e = refl
    none_is (d ∷ ds) e = absurd (true≢false (sym e))

-- only `--totals` has a default
pub finished_is : (h : Held) → finished rules h ≡ with_default (settled rules h).rows totals_built
finished_is h =
    let before = (settled rules h).rows in
    ap (λ r. with_default (with_default r totals_built) help_built) (no_defaults before plain_rules refl) ∙ no_default (with_default before totals_built) help_built refl

-- the default fails not, where there is one
abbrev has_fine_default : Rule → Bool
has_fine_default a = is_empty a.defaults || has_none (given_default_fault a a.defaults)

fine_default : (has none : Bool) (fault : Kinds) → (none || has_none fault) ≡ true → cond (has || none) [] fault ≡ []
fine_default true none fault e = refl
fine_default false true fault e = refl
fine_default false false [] e = refl
fine_default false false (k ∷ ks) e = absurd (true≢false (sym e))

no_default_fault : (rows : List Row) (more : List Rule) → list_all has_fine_default more ≡ true → defaults_fault rows more ≡ []
unfolding defaults_fault
no_default_fault rows [] e = refl
no_default_fault rows (a ∷ more) e =
    let parts = both _ _ e in
    ap (λ f. or_else f (defaults_fault (with_default rows a) more)) (fine_default (has_row a.id rows) (is_empty a.defaults) (given_default_fault a a.defaults) parts.0)
    ∙ no_default_fault (with_default rows a) more parts.1

-- the walk ends where nothing is left to fail
pub ends : (w : Walk) → w.stopped ≡ None → settle_fault rules false w.held ≡ [] → fault_at w [] ≡ []
unfolding walk_fault
ends w stopped fine =
    ap₂ (λ (s : Option (Text × List Text)) (f : Kinds). or_else (entered_fault (built chr_app) s) (or_else f (or_else (defaults_fault (settled rules w.held).rows rules)
    (check_fault top (finished rules w.held) (is_some (entered (built chr_app) s)))))) stopped fine
    ∙ ap (λ (f : Kinds). or_else f []) (no_default_fault (settled rules w.held).rows rules refl)

-- the walk ends where what is pending fails
pub ends_wrong : (w : Walk) (k : ErrorKind) → w.stopped ≡ None → settle_fault rules false w.held ≡ k ∷ [] → fault_at w [] ≡ k ∷ []
unfolding walk_fault
ends_wrong w k stopped is =
    ap₂ (λ (s : Option (Text × List Text)) (f : Kinds). or_else (entered_fault (built chr_app) s) (or_else f (or_else (defaults_fault (settled rules w.held).rows rules)
    (check_fault top (finished rules w.held) (is_some (entered (built chr_app) s)))))) stopped is
