-- Flags that are set one after another.
use Rattle.std.proofs.Common.{◌≡◌, ◌∙◌, ◌+◌, ◌<◌, ◌≤◌, ◌∷◌, ◌==◌, ◌||◌, [], Bool, List, Some, ap, arith, false, length, map, not, refl, replicate, set, drop, take, add-one, ◌&&◌, slice_get, suc, sym, true, zero, ℕ}
use Rattle.std.specs.Prelude.{Vec}
use Rattle.std.specs.List.{list_all, list_any}
use Rattle.std.proofs.lemmas.List.{drop_all}
use Rattle.std.proofs.lemmas.Bool.Decides.{Decides-eqb}
use Rattle.chr_semantics.specs.Program.{Head}
use Rattle.chr_term.specs.declared.term.Sym.{Sym}
use Rattle.chr_term.specs.declared.term.Term.{Term}
use Rattle.chr_rules.specs.RuleView.{flag_at, heads_from}
use Rattle.chr_suspicions.specs.Marks.{Marks}

or_more : (a b c : Bool) → ((a || b) || c) ≡ (a || (b || c))
or_more true b c = refl
or_more false b c = refl

or_not : (a : Bool) → a ≡ (a || false)
or_not true = refl
or_not false = refl

-- no flag is set
pub none_marked : (old : List Bool) → Marks old (λ f. false) old
none_marked old f lt = or_not (flag_at old f)

-- some flags are set, and then more
pub both_marked : (old mid new : List Bool) (p q r : ℕ → Bool) → length mid ≡ length old → Marks old p mid → Marks mid q new → ((f : ℕ) → r f ≡ (p f || q f)) → Marks old r new
both_marked old mid new p q r len first second is f lt =
    second f (omega (arith, lt, len)) ∙ ap (λ b. b || q f) (first f lt) ∙ or_more (flag_at old f) (p f) (q f) ∙ ap (λ b. flag_at old f || b) (sym (is f))

flag_set : (flags : List Bool) (k f : ℕ) → k < length flags → f < length flags → flag_at (set flags k true) f ≡ (flag_at flags f || k == f)
flag_set [] k f ltk lt = absurd (omega (arith, lt))
flag_set (x ∷ flags) zero zero ltk lt = by x
  where
    by : (b : Bool) → true ≡ (b || true)
    by true = refl
    by false = refl
flag_set (x ∷ flags) zero (suc f) ltk lt = let differ : (zero == suc f) ≡ false = grind arith in or_not (flag_at flags f) ∙ ap (λ b. flag_at flags f || b) (sym differ)
flag_set (x ∷ flags) (suc k) zero ltk lt = let differ : (suc k == zero) ≡ false = grind arith in or_not x ∙ ap (λ b. x || b) (sym differ)
flag_set (x ∷ flags) (suc k) (suc f) ltk lt =
    let same : (suc k == suc f) ≡ (k == f) = grind arith in
    flag_set flags k f (omega (arith, ltk)) (omega (arith, lt)) ∙ ap (λ b. flag_at flags f || b) (sym same)

-- one flag is set
pub one_marked : (flags : List Bool) (k : ℕ) → k < length flags → Marks flags (λ f. k == f) (set flags k true)
one_marked flags k ltk f lt = flag_set flags k f ltk lt

-- one that is not there
pub beyond_marked : (flags : List Bool) (k : ℕ) → length flags ≤ k → Marks flags (λ f. k == f) flags
beyond_marked flags k le f lt = or_not (flag_at flags f) ∙ ap (λ b. flag_at flags f || b) (sym (by (k == f) refl))
  where
    by : (b : Bool) → (k == f) ≡ b → b ≡ false
    by true e = let is : k ≡ f = (Decides-eqb k f).0 e in absurd (omega (arith, is, lt, le))
    by false e = refl

-- the symbols of heads are those that stand there
pub symbols_of_heads : {A : Type 0} (p : ℕ → Bool) (flags : List Bool) (k : ℕ) (hs : List (Sym × Vec (Term A) A)) → list_any (λ (h : Head). p h.atom.sym) (heads_from flags k hs) ≡ list_any (λ h. p h.0.0) hs
symbols_of_heads p flags k [] = refl
symbols_of_heads p flags k (h ∷ hs) = ap (λ b. p h.0.0 || b) (symbols_of_heads p flags (k + 1) hs)

flag_next : (flags : List Bool) (k : ℕ) → k < length flags → drop k flags ≡ flag_at flags k ∷ drop (k + 1) flags
flag_next [] k lt = absurd (omega (arith, lt))
flag_next (x ∷ flags) zero lt = refl
flag_next (x ∷ flags) (suc k) lt =
    flag_next flags k (omega (arith, lt)) ∙ ap (λ n. flag_at flags k ∷ drop n flags) (add-one k) ∙ ap (λ n. flag_at flags k ∷ drop n (x ∷ flags)) (sym (add-one (suc k)))

passive_from : {A : Type 0} (flags : List Bool) (k : ℕ) (hs : List (Sym × Vec (Term A) A)) → k + length hs ≡ length flags → map (λ (h : Head). h.passive) (heads_from flags k hs) ≡ drop k flags
passive_from flags k [] e = sym (drop_all k flags (omega (arith, e)))
passive_from flags k (h ∷ hs) e = ap (λ fs. flag_at flags k ∷ fs) (passive_from flags (k + 1) hs (omega (arith, e))) ∙ sym (flag_next flags k (omega (arith, e)))

all_mapped : (hs : List Head) → list_all (λ (h : Head). h.passive) hs ≡ list_all (λ (b : Bool). b) (map (λ (h : Head). h.passive) hs)
all_mapped [] = refl
all_mapped (h ∷ hs) = ap (λ b. h.passive && b) (all_mapped hs)

any_mapped : (hs : List Head) → list_any (λ (h : Head). h.passive) hs ≡ list_any (λ (b : Bool). b) (map (λ (h : Head). h.passive) hs)
any_mapped [] = refl
any_mapped (h ∷ hs) = ap (λ b. h.passive || b) (any_mapped hs)

-- the heads are passive that have a flag
pub all_passive : {A : Type 0} (flags : List Bool) (hs : List (Sym × Vec (Term A) A)) → length flags ≡ length hs → list_all (λ (b : Bool). b) flags ≡ list_all (λ (h : Head). h.passive) (heads_from flags 0 hs)
all_passive flags hs e = sym (all_mapped (heads_from flags 0 hs) ∙ ap (list_all (λ (b : Bool). b)) (passive_from flags 0 hs (omega (arith, e))))

pub any_passive : {A : Type 0} (flags : List Bool) (hs : List (Sym × Vec (Term A) A)) → length flags ≡ length hs → list_any (λ (b : Bool). b) flags ≡ list_any (λ (h : Head). h.passive) (heads_from flags 0 hs)
any_passive flags hs e = sym (any_mapped (heads_from flags 0 hs) ∙ ap (list_any (λ (b : Bool). b)) (passive_from flags 0 hs (omega (arith, e))))

-- one element more
pub any_more : {X : Type 0} (p : X → Bool) (xs : List X) (k : ℕ) (x : X) → slice_get xs k ≡ Some x → list_any p (take (k + 1) xs) ≡ (list_any p (take k xs) || p x)
any_more p [] k x e = cc
any_more p (y ∷ xs) zero x e = let same : y ≡ x = cc in ap (λ z. p z || false) same ∙ sym (or_not (p x))
any_more p (y ∷ xs) (suc k) x e =
    ap (λ n. list_any p (take n (y ∷ xs))) (add-one (suc k))
    ∙ ap (λ n. p y || list_any p (take n xs)) (sym (add-one k))
    ∙ ap (λ b. p y || b) (any_more p xs k x e)
    ∙ sym (or_more (p y) (list_any p (take k xs)) (p x))

-- a flag that is there
pub flag_there : (flags : List Bool) (f : ℕ) (b : Bool) → f < length flags → flag_at flags f ≡ b → slice_get flags f ≡ Some b
flag_there [] f b lt e = absurd (omega (arith, lt))
flag_there (x ∷ flags) zero b lt e = ap Some e
flag_there (x ∷ flags) (suc f) b lt e = flag_there flags f b (omega (arith, lt)) e

pub none_is_set : (n f : ℕ) → flag_at (replicate n false) f ≡ false
none_is_set zero f = refl
none_is_set (suc n) zero = refl
none_is_set (suc n) (suc f) = none_is_set n f

pub turned : (flags : List Bool) (f : ℕ) (b : Bool) → slice_get flags f ≡ Some b → slice_get (map not flags) f ≡ Some (not b)
turned [] f b e = cc
turned (x ∷ flags) zero b e = let same : x ≡ b = cc in ap (λ y. Some (not y)) same
turned (x ∷ flags) (suc f) b e = turned flags f b e
