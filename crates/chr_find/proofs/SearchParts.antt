-- What the parts of a search answer.
use Rattle.std.proofs.Common.{◌≡◌, Bool, ℕ, ◌+◌, ◌-◌, ◌*◌, ◌∙◌, ◌<◌, ◌≤◌, List, [], ◌∷◌, ◌++◌, Option, Some, None, add-one, length, drop, ap, refl, subst, arith, zero, suc}
use Rattle.std.proofs.Math.Nat.{add-mul}
use Rattle.std.proofs.lemmas.List.{length-append}
use Rattle.std.specs.Prelude.{IfOk, Result, Ok, Err, slice_get}
use Rattle.chr_bind.specs.declared.matching.Match.{Match}
use Rattle.chr_semantics.specs.Match.{Row}
use Rattle.chr_semantics.specs.Program.{Head, Rule}
use Rattle.chr_semantics.specs.Search.{History}
use Rattle.chr_find.specs.Threshold.{Threshold}
use Rattle.chr_find.specs.Joins.{JoinIs}
use Rattle.chr_find.specs.CursorStateView.{threshold_of}
use Rattle.chr_find.specs.SearchIs.{if_found}
use Rattle.chr_find.specs.declared.cursor_state.CursorState.{CursorState}

pub ok_more : {X E : Type 0} (P Q : X → Type 0) (r : Result X E) → ((x : X) → P x → Q x) → IfOk r P → IfOk r Q
ok_more P Q (Ok x) f h = f x h
ok_more P Q (Err e) f h = h

-- what is found, where it is known whether something is
pub found_so : (b d : Bool) → b ≡ d → (l : List ℕ) (P : Option (List ℕ) → Type 0) → P (if_found b l) → P (if_found d l)
found_so b d e l P h = subst (λ (x : Bool). P (if_found x l)) e h

drop_one : {X : Type 0} (k : ℕ) (x : X) (xs : List X) → drop (k + 1) xs ≡ drop (suc k + 1) (x ∷ xs)
drop_one k x xs = rw (add-one, add-one) refl

-- what is left of a list from an element on, and behind the last
pub drop_at : {X : Type 0} (xs : List X) (k : ℕ) (x : X) → slice_get xs k ≡ Some x → drop k xs ≡ x ∷ drop (k + 1) xs
drop_at [] k x e = cc
drop_at {X} (y ∷ xs) zero x e = let same : y ≡ x = cc in ap (λ (z : X). z ∷ xs) same
drop_at {X} (y ∷ xs) (suc k) x e = drop_at xs k x e ∙ ap (λ (l : List X). x ∷ l) (drop_one k y xs)

pub drop_behind : {X : Type 0} (xs : List X) (k : ℕ) → slice_get xs k ≡ None → drop k xs ≡ []
drop_behind [] zero e = refl
drop_behind [] (suc k) e = refl
drop_behind (y ∷ xs) zero e = cc
drop_behind (y ∷ xs) (suc k) e = drop_behind xs k e

-- there is a head at a level that is not the last
pub head_there : (heads : List Head) (k : ℕ) → k < length heads → (x : Head) × (slice_get heads k ≡ Some x)
head_there [] k lt = absurd (omega (arith, lt))
head_there (h ∷ heads) zero lt = (h, refl)
head_there (h ∷ heads) (suc k) lt = head_there heads k (omega (arith, lt))

-- the search from the longer partners
pub join_longer : {A : Type 0} (rows : List Row) (h : History) (r : ℕ) (rule : Rule) (place own level longer_level : ℕ) (longer : List ℕ) (next : Match A) (from quiet : ℕ) (mode : CursorState) (after : List ℕ) (threshold : Threshold) (result : Option (List ℕ)) (told now : ℕ) → longer_level ≡ level + 1
    → threshold_of mode (drop (level + 1) after) ≡ threshold → JoinIs rows h r rule place own longer_level longer next from quiet (threshold_of mode (drop longer_level after)) result told now → JoinIs rows h r rule place own (level + 1) longer next from quiet threshold result told now
join_longer rows h r rule place own level longer_level longer next from quiet mode after threshold result told now e g j =
    subst (λ (x : Threshold). JoinIs rows h r rule place own (level + 1) longer next from quiet x result told now) g
    (subst (λ (k : ℕ). JoinIs rows h r rule place own k longer next from quiet (threshold_of mode (drop k after)) result told now) e j)

pub longer_length : (partners longer : List ℕ) (c : ℕ) → longer ≡ partners ++ c ∷ [] → length longer ≡ length partners + 1
longer_length partners longer c is = ap length is ∙ length-append partners (c ∷ [])

-- The measure falls where all rows of a bucket are visited for a level, and where those after a middle are.
pub level_less : (h l r n : ℕ) → l < h → n ≤ r → (h - l - 1) * (3 * r + 7) + 3 * n + 6 < (h - l) * (3 * r + 7)
level_less h l r n lt e =
    let one_more : h - l ≡ (h - l - 1) + 1 = omega (arith, lt) in
    let whole : (h - l) * (3 * r + 7) ≡ (h - l - 1) * (3 * r + 7) + 1 * (3 * r + 7) = ap (λ (x : ℕ). x * (3 * r + 7)) one_more ∙ add-mul (h - l - 1) 1 (3 * r + 7) in
    omega (arith, whole, e)

pub before_shorter : {X : Type 0} (part xs : List X) (m : X) (ys : List X) → part ≡ xs ++ m ∷ ys → length xs < length part
before_shorter part xs m ys e = let whole : length part ≡ length xs + length (m ∷ ys) = ap length e ∙ length-append xs (m ∷ ys) in omega (arith, whole)

pub after_shorter : {X : Type 0} (part xs : List X) (m : X) (ys : List X) → part ≡ xs ++ m ∷ ys → length ys < length part
after_shorter part xs m ys e = let whole : length part ≡ length xs + length (m ∷ ys) = ap length e ∙ length-append xs (m ∷ ys) in omega (arith, whole)
