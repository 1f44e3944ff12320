-- A reading that hands on a halt.
use Rattle.std.proofs.Common.{◌≡◌, ◌∙◌, ◌∷◌, List, Result, Ok, Err, IfOk, IsErrAnd, MatchResult, ap, refl, subst, sym}
use Rattle.std.specs.Borrow.{Bor}
use Rattle.chr_semantics.specs.Tokens.{Place, Placed, Sign, at, sign}
use Rattle.chr_tokens.specs.TokenView.{placed_views}
use Rattle.chr_tokens.specs.declared.token.Placed as code
use Rattle.chr_read.specs.declared.halt.Halt.{Halt}
use Rattle.chr_read.specs.declared.halt.Halt.TheVariants.{Expected, Memory}
use Rattle.chr_read.specs.Automaton.{Verdict, expected}
use Rattle.chr_read.specs.Reads.{BeginsWith, Goes, HaltIs, Lacks}

-- what halts a part of a reading halts the whole, where the automaton comes to that part
pub halts : {X : Type 0} (v w : Verdict) (then : X → Verdict) (r : Result X Halt) (e : Halt) → IsErrAnd r (λ f. f ≡ e) → v ≡ w → HaltIs e w → Goes v r then
halts v w then (Ok x) e is p h = absurd is
halts v w then (Err f) e is p h = subst (λ f. HaltIs f v) (sym is) (subst (HaltIs e) (sym p) h)

-- what is said of a halt is said of the one that is handed on
pub halts_so : {X : Type 0} (P : X → Type 0) (Q : Halt → Type 0) (r : Result X Halt) (e : Halt) → IsErrAnd r (λ f. f ≡ e) → Q e → MatchResult r P Q
halts_so P Q (Ok x) e is h = absurd is
halts_so P Q (Err f) e is h = subst Q (sym is) h

-- memory that was refused says nothing of the automaton
pub refused : {X : Type 0} (v : Verdict) (then : X → Verdict) (r : Result X Halt) → IsErrAnd r (λ e. e ≡ Memory) → Goes v r then
refused v then (Ok x) is = absurd is
refused v then (Err f) is = subst (λ e. HaltIs e v) (sym is) tt

-- what halts the second of two readings halts the whole, and where the second ends, the whole goes on
pub halts_second : {X Y : Type 0} (v w : Verdict) (then : X → Verdict) (r : Result X Halt) (second : Result Y Halt) (on : Y → Verdict) (e : Halt) → IsErrAnd r (λ f. f ≡ e) → second ≡ Err e → v ≡ w → Goes w second on → Goes v r then
halts_second v w then r second on e is was p h = halts v w then r e is p (subst (λ s. Goes w s on) was h)

pub goes_to : {Y : Type 0} (w : Verdict) (second : Result Y Halt) (on : Y → Verdict) (y : Y) → second ≡ Ok y → Goes w second on → w ≡ on y
goes_to w second on y was h = subst (λ s. Goes w s on) was h

-- what was read is made into a value, unless memory is refused
pub goes_made : {X : Type 0} (v w : Verdict) (then : X → Verdict) (r : Result X Halt) (IsMade : X → Type 0) → v ≡ w → MatchResult r IsMade (λ e. e ≡ Memory) → ((x : X) → IsMade x → w ≡ then x) → Goes v r then
goes_made v w then (Ok x) IsMade p is same = p ∙ same x is
goes_made v w then (Err e) IsMade p is same = subst (λ f. HaltIs f v) (sym is) tt

-- what holds of the tokens after it holds of those that are handed on with the value
pub holds_after : {X : Type 0} (Q : Bor (List code.Placed) → Type 0) (rest : Bor (List code.Placed)) (r : Result (X × Bor (List code.Placed)) Halt) (IsMade : X × Bor (List code.Placed) → Type 0) → MatchResult r IsMade (λ e. e ≡ Memory) → ((x : X × Bor (List code.Placed)) → IsMade x → x.1 ≡ rest) → Q rest → IfOk r (λ x. Q x.1)
holds_after Q rest (Ok x) IsMade is same h = subst Q (sym (same x is)) h
holds_after Q rest (Err e) IsMade is same h = tt

-- a token that was not expected halts it
pub expects : {X : Type 0} (v : Verdict) (then : X → Verdict) (r : Result X Halt) (e : Halt) (ts : Bor (List code.Placed)) → IsErrAnd r (λ f. f ≡ e) → e ≡ Expected ts → v ≡ expected (placed_views ts.now) → Goes v r then
expects v then r e ts is from p = halts v (expected (placed_views ts.now)) then r e is p (subst (λ f. HaltIs f (expected (placed_views ts.now))) (sym from) refl)

-- what was read before a sign that has to come: the automaton goes on where the sign comes, and expected it where it doesn't
pub goes_before : {T : Type 0} (s : Sign) (ts : Bor (List code.Placed)) (found : T) (r : Result (T × Bor (List code.Placed)) Halt) (v : List Placed → Verdict) (then : T × Bor (List code.Placed) → Verdict)
    → MatchResult r (λ x. (x.0 ≡ found) × BeginsWith (placed_views ts.now) (sign s) (placed_views x.1.now)) (λ e. (e ≡ Expected ts) × Lacks s (placed_views ts.now))
    → ((p : Place) (rest : Bor (List code.Placed)) → v (at p (sign s) ∷ placed_views rest.now) ≡ then (found, rest))
    → (Lacks s (placed_views ts.now) → v (placed_views ts.now) ≡ expected (placed_views ts.now)) → Goes (v (placed_views ts.now)) r then
goes_before s ts found (Ok x) v then is goes refuses = ap v is.1.are ∙ goes is.1.place x.1 ∙ ap (λ f. then (f, x.1)) (sym is.0)
goes_before s ts found (Err e) v then is goes refuses = subst (λ f. HaltIs f (v (placed_views ts.now))) (sym is.0) (refuses is.1)

pub goes_on : {X : Type 0} (v w : Verdict) (then : X → Verdict) (r : Result X Halt) → v ≡ w → Goes w r then → Goes v r then
goes_on v w then (Ok x) p h = p ∙ h
goes_on v w then (Err e) p h = subst (HaltIs e) (sym p) h
