-- The index of the occurrences, an occurrence at a time.
use Rattle.std.proofs.Common.{◌≡◌, ◌∙◌, ℕ, zero, suc, ◌+◌, ◌-◌, ◌<◌, ◌≤◌, ◌++◌, List, [], ◌∷◌, length, Vec, refl, ap, sym, arith, Bool, true, false, not, ◌&&◌, ◌==◌, map, cond, get_or, append-nil, append_assoc, slice_set, take, drop, drop-cons, add-one, add-zero}
use Rattle.std.proofs.lemmas.List.{map-append, reverse-append, length-map, length-take-le}
use Rattle.std.proofs.lemmas.Simd.{map-map}
use Rattle.std.specs.Prelude.{slice_get, reverse}
use Rattle.chr_semantics.specs.Program as semantics
use Rattle.chr_semantics.specs.Program.{Head, places_from, occurrences_in, occurrences_from}
use Rattle.chr_term.specs.declared.term.Sym.{Sym}
use Rattle.chr_term.specs.declared.term.Term.{Term}
use Rattle.chr_rules.specs.RuleView.{flag_at, heads_from, rule_view, rules_view}
use Rattle.chr_rules.specs.declared.rule.Rule.{Rule}
use Rattle.std.proofs.lemmas.Grind.{common_steps}
use Rattle.chr_rules.specs.Index.{pairs_in, pair_view, pairs_of}
use Rattle.chr_rules.specs.declared.index.Occurrence.{Occurrence}
use Rattle.std.proofs.lemmas.Bool.{ne_eqb}

-- an empty place at the end shows nothing more
pub pairs_in-empty_more : {A : Type 0} (ps : List (Vec Occurrence A)) (v : Vec Occurrence A) → v.items ≡ [] → (f : ℕ) → pairs_in (slice_get (ps ++ v ∷ []) f) ≡ pairs_in (slice_get ps f)
pairs_in-empty_more [] v e zero = rw e
pairs_in-empty_more [] v e (suc f) = refl
pairs_in-empty_more (p ∷ ps) v e zero = refl
pairs_in-empty_more (p ∷ ps) v e (suc f) = pairs_in-empty_more ps v e f

test-suc : (f g : ℕ) → (suc f == suc g) ≡ (f == g)
test-suc f g = grind arith

-- one more occurrence at the place of its symbol
pub pairs_in-put : {A : Type 0} (ps : List (Vec Occurrence A)) (f g : ℕ) (v d : Vec Occurrence A) (o : Occurrence) → f < length ps → v.items ≡ (get_or ps f d).items ++ o ∷ [] → pairs_in (slice_get (slice_set ps f v) g) ≡ pairs_in (slice_get ps g) ++ cond (f == g) (pair_view o ∷ []) []
pairs_in-put [] f g v d o h e = absurd (omega (arith, h))
pairs_in-put (p ∷ ps) zero zero v d o h e = rw (e, map-append)
pairs_in-put (p ∷ ps) zero (suc g) v d o h e = rw (ne_eqb 0 (suc g) (omega arith), append-nil)
pairs_in-put (p ∷ ps) (suc f) zero v d o h e = rw (ne_eqb (suc f) 0 (omega arith), append-nil)
pairs_in-put (p ∷ ps) (suc f) (suc g) v d o h e = rw (test-suc f g) (pairs_in-put ps f g v d o (omega (arith, h)) e)

-- the occurrences of the symbol f at the heads from the k-th on
abbrev pub pairs_from : {A : Type 0} → ℕ → List Bool → ℕ → List (Sym × Vec (Term A) A) → ℕ → List (ℕ × ℕ)
pairs_from number flags k hs f = map {B = ℕ × ℕ} (λ place. (number, place)) (reverse (places_from k f (heads_from flags k hs)))

pairs_step : (b : Bool) (number k : ℕ) (ps : List ℕ) → map {B = ℕ × ℕ} (λ place. (number, place)) (reverse (cond b (k ∷ ps) ps)) ≡ map {B = ℕ × ℕ} (λ place. (number, place)) (reverse ps) ++ cond b ((number, k) ∷ []) []
pairs_step true number k ps =
    ap (map {B = ℕ × ℕ} (λ place. (number, place))) (reverse-append (k ∷ []) ps) ∙ map-append {B = ℕ × ℕ} (λ place. (number, place)) (reverse ps) (k ∷ [])
pairs_step false number k ps = sym (append-nil _)

pairs_from-cons : {A : Type 0} (number : ℕ) (flags : List Bool) (k : ℕ) (hs : List (Sym × Vec (Term A) A)) (h : Sym × Vec (Term A) A) (f : ℕ) → k < length hs → h ≡ get_or hs k h → pairs_from number flags k (drop k hs) f ≡ pairs_from number flags (k + 1) (drop (k + 1) hs) f ++ cond (h.0.0 == f && not (flag_at flags k)) ((number, k) ∷ []) []
pairs_from-cons number flags k hs h f lt e =
    let first : drop k hs ≡ h ∷ drop (k + 1) hs = rw (add-one, drop-cons hs k h, ← e) in
    rw first (pairs_step (h.0.0 == f && not (flag_at flags k)) number k (places_from (k + 1) f (heads_from flags (k + 1) (drop (k + 1) hs))))

-- one head more to the left of the place k
pub pairs_from-left : {A : Type 0} (number : ℕ) (flags : List Bool) (k : ℕ) (hs : List (Sym × Vec (Term A) A)) (h : Sym × Vec (Term A) A) (f : ℕ) → 0 < k → k ≤ length hs → h ≡ get_or hs (k - 1) h → pairs_from number flags (k - 1) (drop (k - 1) hs) f ≡ pairs_from number flags k (drop k hs) f ++ cond (h.0.0 == f && not (flag_at flags (k - 1))) ((number, k - 1) ∷ []) []
pairs_from-left number flags k hs h f some within e =
    let back : (k - 1) + 1 ≡ k = omega arith in
    let lt : k - 1 < length hs = omega arith in
    rw back at (pairs_from-cons number flags (k - 1) hs h f lt e)

-- a passive head adds nothing
pub with_passive : {X : Type 0} (b p : Bool) (xs : List X) → p ≡ true → cond (b && not p) xs [] ≡ []
with_passive true true xs e = refl
with_passive true false xs e = cc
with_passive false p xs e = refl

pub with_active : {X : Type 0} (b p : Bool) (xs : List X) → p ≡ false → cond (b && not p) xs [] ≡ cond b xs []
with_active true true xs e = cc
with_active true false xs e = refl
with_active false p xs e = refl

pub pairs_of-in : (number : ℕ) (rule : semantics.Rule) (f : ℕ) → pairs_of (occurrences_in number rule f) ≡ map {B = ℕ × ℕ} (λ place. (number, place)) (reverse (places_from 0 f rule.heads))
pairs_of-in number rule f = map-map (λ (o : semantics.Occurrence). (o.number, o.place)) (λ k. record { number = number; rule = rule; place = k }) (reverse (places_from 0 f rule.heads))

-- the occurrences of one rule more
pub occurrences_from-more : (r : ℕ) (p : semantics.Program) (rule : semantics.Rule) (f : ℕ) → occurrences_from r (p ++ rule ∷ []) f ≡ occurrences_from r p f ++ occurrences_in (r + length p) rule f
occurrences_from-more r [] rule f = rw (append-nil, add-zero)
occurrences_from-more r (q ∷ p) rule f =
    let e : (r + 1) + length p ≡ r + suc (length p) = omega arith in
    rw (occurrences_from-more (r + 1) p rule f, e, append_assoc)

-- the occurrences in the rules up to the n-th, and with it
pub pairs_in-more : {A : Type 0} (rules : List (Rule A)) (n : ℕ) (rule : Rule A) (f : ℕ) → n < length rules → rule ≡ get_or rules n rule → pairs_of (occurrences_from 0 (rules_view (take n rules)) f) ++ pairs_of (occurrences_in n (rule_view rule) f) ≡ pairs_of (occurrences_from 0 (rules_view (take (n + 1) rules)) f)
pairs_in-more {A} rules n rule f lt e =
    let more : take (n + 1) rules ≡ take n rules ++ rule ∷ [] = grind (arith, common_steps) in
    let len : 0 + length (rules_view (take n rules)) ≡ n = omega (arith, length-map (take n rules) (λ (r : Rule A). rule_view r), length-take-le n rules (omega arith)) in
    let before = rules_view (take n rules) in
    sym (ap (λ rs. pairs_of (occurrences_from 0 (rules_view rs) f)) more
    ∙ (ap (λ rs. pairs_of (occurrences_from 0 rs f)) (map-append (λ (r : Rule A). rule_view r) (take n rules) (rule ∷ []))
    ∙ (ap pairs_of (occurrences_from-more 0 before (rule_view rule) f)
    ∙ (map-append (λ (o : semantics.Occurrence). (o.number, o.place)) (occurrences_from 0 before f) (occurrences_in (0 + length before) (rule_view rule) f)
    ∙ ap (λ m. pairs_of (occurrences_from 0 before f) ++ pairs_of (occurrences_in m (rule_view rule) f)) len))))
