-- Which fronts are looked at from one on.
use Rattle.std.specs.Prelude.{◌≡◌, ◌<◌, ◌≤◌, ◌==◌, ◌+◌, ◌-◌, ◌++◌, ◌∷◌, [], ℕ, List, None, Option, Some, cond, filter, flat_map, length, not, option_map, slice_get}
use Rattle.chr_semantics.specs.Keys.{rows_of}
use Rattle.chr_semantics.specs.Lists.{fronts_from}
use Rattle.chr_semantics.specs.Program.{Head, Rule}
use Rattle.chr_semantics.specs.Search.{has_number}
use Rattle.chr_semantics.specs.State.{State}
use Rattle.chr_semantics.specs.Verdict.{Verdict, stage}
use Rattle.chr_semantics.specs.declared.limits.TheConstants.{MAX_HEADS}
use Rattle.chr_machine.specs.MachineView.{machine_view}
use Rattle.chr_machine.specs.Model.{Model, state_in}
use Rattle.chr_look.specs.FrontView.{AreFronts}
use Rattle.chr_look.specs.declared.fronts.Fronts.{Fronts}
use Rattle.chr_look.specs.declared.fronts.Looked.{Looked}

abbrev pub model_of : {A : Type 0} → Looked A → Model
model_of l = machine_view l.machine.now

-- for the rule that is looked at
abbrev pub ForRule : {A : Type 0} → Looked A → (Rule → Type 0) → Type 0
ForRule l P = (rule : Rule) → slice_get (model_of l).rules l.rule ≡ Some rule → P rule

-- the rule is one of the program's, and the front has no more constraints than it has heads, or fewer
abbrev pub IsFrontIn : {A : Type 0} → Looked A → List ℕ → Type 0
IsFrontIn l ids = (l.rule < length (model_of l).rules) × (length ids ≤ MAX_HEADS) × ForRule l (λ rule. length ids ≤ length rule.heads)

abbrev pub IsShortIn : {A : Type 0} → Looked A → List ℕ → Type 0
IsShortIn l ids = (l.rule < length (model_of l).rules) × (length ids < MAX_HEADS) × ForRule l (λ rule. length ids < length rule.heads)

-- the symbol of the head behind a front, by the verdict on it
abbrev pub symbol_behind : Rule → List ℕ → Verdict → Option ℕ
symbol_behind rule ids v = cond (stage v == 5) None (option_map (λ (h : Head). h.atom.sym) (slice_get rule.heads (length ids)))

-- the fronts that have one of these constraints behind a front, and those that begin with them
abbrev pub among : State → ℕ → Rule → List ℕ → List ℕ → List (List ℕ)
among s r rule ids xs = flat_map (λ i. fronts_from s r rule (length rule.heads - (length ids + 1)) (ids ++ i ∷ [])) (filter (λ i. not (has_number ids i)) xs)

-- of a symbol
abbrev pub behind : State → ℕ → Rule → List ℕ → ℕ → List (List ℕ)
behind s r rule ids f = among s r rule ids (rows_of s.store f)

-- those that are looked at from a front on, by the symbol of the head behind it
abbrev pub GoesOn : {A : Type 0} → Looked A → Rule → List ℕ → Option ℕ → Type 0
GoesOn l rule ids None = fronts_from (state_in (model_of l)) l.rule rule (length rule.heads - length ids) ids ≡ ids ∷ []
GoesOn l rule ids (Some f) =
    (length ids < MAX_HEADS) × (length ids < length rule.heads)
    × (fronts_from (state_in (model_of l)) l.rule rule (length rule.heads - length ids) ids ≡ ids ∷ behind (state_in (model_of l)) l.rule rule ids f)

-- with the front behind the others
abbrev pub Notes : {A : Type 0} → Looked A → List ℕ → Fronts A → Fronts A → Type 0
Notes l ids old new = ForRule l (λ rule. (all : List (List ℕ)) → AreFronts (state_in (model_of l)) l.rule rule all old → AreFronts (state_in (model_of l)) l.rule rule (all ++ ids ∷ []) new)

-- with the front and those that begin with it behind the others
abbrev pub LooksAt : {A : Type 0} → Looked A → List ℕ → Fronts A → Fronts A → Type 0
LooksAt l ids old new = ForRule l (λ rule. (all : List (List ℕ)) → AreFronts (state_in (model_of l)) l.rule rule all old
    → AreFronts (state_in (model_of l)) l.rule rule (all ++ fronts_from (state_in (model_of l)) l.rule rule (length rule.heads - length ids) ids) new)

-- with those that have one of these constraints behind it
abbrev pub LooksBehind : {A : Type 0} → Looked A → List ℕ → List ℕ → Fronts A → Fronts A → Type 0
LooksBehind l ids xs old new = ForRule l (λ rule. (all : List (List ℕ)) → AreFronts (state_in (model_of l)) l.rule rule all old
    → AreFronts (state_in (model_of l)) l.rule rule (all ++ among (state_in (model_of l)) l.rule rule ids xs) new)

-- with those that have one more constraint behind it, unless it has that already
abbrev pub next : State → ℕ → Rule → List ℕ → ℕ → List (List ℕ)
next s r rule ids i = cond (not (has_number ids i)) (fronts_from s r rule (length rule.heads - (length ids + 1)) (ids ++ i ∷ [])) []

abbrev pub LooksNext : {A : Type 0} → Looked A → List ℕ → ℕ → Fronts A → Fronts A → Type 0
LooksNext l ids i old new = ForRule l (λ rule. (all : List (List ℕ)) → AreFronts (state_in (model_of l)) l.rule rule all old
    → AreFronts (state_in (model_of l)) l.rule rule (all ++ next (state_in (model_of l)) l.rule rule ids i) new)
