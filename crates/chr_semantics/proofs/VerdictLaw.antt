-- What a verdict on a rule and a list of constraints says.
use Rattle.std.proofs.Common.{append-nil, length, ◌≡◌, ◌∙◌, ◌+◌, ◌==◌, ◌&&◌, ◌∷◌, ◌++◌, [], Bool, List, None, Option, Some, ap, arith, cond, not, refl, sym, true, false, true≢false, ℕ, ◌<◌, nat_lt, subst}
use Rattle.std.proofs.lemmas.Bool.{and_from, and_parts}
use Rattle.std.proofs.lemmas.List.{length-map}
use Rattle.std.proofs.lemmas.Bool.Decides.{Decides-eqb}
use Rattle.std.specs.List.{list_all}
use Rattle.std.specs.Prelude.{find, is_none, is_some, unwrap_or}
use Rattle.chr_semantics.specs.Footprint.{Ascends}
use Rattle.chr_semantics.specs.Guard.{all_entailed, entailed}
use Rattle.chr_semantics.specs.Match.{AreMade, Row, fits, made_atom}
use Rattle.chr_semantics.specs.Mgu.{vars_of_all}
use Rattle.chr_semantics.specs.Program.{Atom, Head, Program, Query, Rule, Test}
use Rattle.chr_semantics.specs.Search.{atom_of, fired_before, has_number, ids_of, passes_guard}
use Rattle.chr_semantics.specs.State.{State, rows, start}
use Rattle.chr_semantics.specs.Step.{after}
use Rattle.chr_semantics.specs.Subst.{Solves, Subst, binds_var, instance, instances, value_at}
use Rattle.chr_semantics.specs.Tree.{Tree, Trees, int, more, node, none, var}
use Rattle.chr_semantics.specs.Verdict.{Joining, Verdict, VerdictLaw, bound_by, can_fire_with, first_absent, first_bound, first_lack, first_of_another, first_repeated, fired, guard, is_could_fire, join_rows, joined, lack, not_yet_there, of_joining, of_match, of_rows, or_else, other_symbol, parted, past, removed, row_vars, rows_of, stage, twice, unlike, verdict, waits}
use Rattle.chr_semantics.proofs.Apartness.{AreBound, beside, equal_by_match}
use Rattle.chr_semantics.proofs.Counts.{after-add}
use Rattle.chr_semantics.proofs.Decides.{decides}
use Rattle.chr_semantics.proofs.FitsLaw.{fits_law}
use Rattle.chr_semantics.proofs.Instances.{instances-instances}
use Rattle.chr_semantics.proofs.Joinings.{AreEqual, Meets, rows_joined, rows_meet}
use Rattle.chr_semantics.proofs.Lookups.{Ascends-ends, atom_resolved}
use Rattle.chr_semantics.proofs.Onward.{GoesOn, goes_on}
use Rattle.chr_semantics.proofs.Soundness.{sound_after, sound_start}
use Rattle.chr_semantics.proofs.SolvedLaw.{nothing_solved}

-- ---- what each part of a verdict is not

-- it comes from the heads and the guard
abbrev is_of_rows : Verdict → Bool
is_of_rows v = nat_lt 4 (stage v)

abbrev is_unlike : Verdict → Bool
is_unlike v = stage v == 5

-- another hindrance, or none where the test holds
abbrev IsHindrance : Option Verdict → Bool → Type 0
IsHindrance None b = b ≡ true
IsHindrance (Some v) b = (is_could_fire v ≡ false) × (b ≡ false) × (is_of_rows v ≡ false)

gone : (b : Bool) (i : ℕ) → IsHindrance (Some (cond b (removed i) (not_yet_there i))) false
gone true i = (refl, refl, refl)
gone false i = (refl, refl, refl)

absence : (s : State) (ids : List ℕ) → IsHindrance (first_absent s ids) (list_all (λ i. is_some (atom_of s.store i)) ids)
absence s [] = refl
absence s (i ∷ ids) = by (is_some (atom_of s.store i)) (absence s ids)
  where
    by : (b : Bool) → IsHindrance (first_absent s ids) (list_all (λ k. is_some (atom_of s.store k)) ids)
        → IsHindrance (cond b (first_absent s ids) (Some (cond (nat_lt i s.next_id) (removed i) (not_yet_there i)))) (b && list_all (λ k. is_some (atom_of s.store k)) ids)
    by true h = h
    by false h = gone (nat_lt i s.next_id) i

repetition : (ids : List ℕ) → IsHindrance (first_repeated ids) (is_none (first_repeated ids))
repetition [] = refl
repetition (i ∷ ids) = by (has_number ids i) (repetition ids)
  where
    by : (b : Bool) → IsHindrance (first_repeated ids) (is_none (first_repeated ids))
        → IsHindrance (cond b (Some (twice i)) (first_repeated ids)) (is_none (cond b (Some (twice i)) (first_repeated ids)))
    by true h = (refl, refl, refl)
    by false h = h

-- the heads' symbols are not those of the rows: then nothing makes the heads the rows
another : (k : ℕ) (hs : List Head) (rs : List Row) (v : Verdict) → first_of_another k hs rs ≡ Some v → (is_could_fire v ≡ false) × (is_of_rows v ≡ false)
another k [] rs v e = cc
another k (h ∷ hs) [] v e = cc
another k (h ∷ hs) (r ∷ rs) v e = by (h.atom.sym == r.1.sym) (another (k + 1) hs rs v) e
  where
    by : (b : Bool) → (first_of_another (k + 1) hs rs ≡ Some v → (is_could_fire v ≡ false) × (is_of_rows v ≡ false)) → cond b (first_of_another (k + 1) hs rs) (Some (other_symbol k)) ≡ Some v
        → (is_could_fire v ≡ false) × (is_of_rows v ≡ false)
    by true go e = go e
    by false go e = let same : other_symbol k ≡ v = cc in (ap is_could_fire (sym same), ap is_of_rows (sym same))

same_symbols : (f : ℕ → Tree) (k : ℕ) (hs : List Head) (rs : List Row) → AreMade f hs rs → first_of_another k hs rs ≡ None
same_symbols f k [] rs e = refl
same_symbols f k (h ∷ hs) [] e = refl
same_symbols f k (h ∷ hs) (r ∷ rs) e =
    let here : made_atom f h ≡ r.1 = cc in
    let rest : AreMade f hs rs = cc in
    rw ((Decides-eqb h.atom.sym r.1.sym).1 (ap (λ (a : Atom). a.sym) here)) (same_symbols f (k + 1) hs rs rest)

abbrev IsWait : Verdict → Type 0
IsWait v = (is_could_fire v ≡ false) × (is_unlike v ≡ false)

bound : (u : Subst) (k : ℕ) (rs : List Row) → IsWait (unwrap_or (first_bound u k rs) (waits 0 0))
bound u k [] = (refl, refl)
bound u k (r ∷ rs) = by (find (binds_var u) (vars_of_all r.1.args)) (bound u (k + 1) rs)
  where
    by : (o : Option ℕ) → IsWait (unwrap_or (first_bound u (k + 1) rs) (waits 0 0)) → IsWait (unwrap_or (elim o [ Some x ↦ Some (waits k x) | None ↦ first_bound u (k + 1) rs ]) (waits 0 0))
    by (Some x) h = (refl, refl)
    by None h = h

-- the guard is entailed
entails : (m : Subst) (k : ℕ) (ts : List Test) → is_could_fire (first_lack m k ts) ≡ all_entailed m ts
entails m k [] = refl
entails m k (t ∷ ts) = by (entailed m t) (entails m (k + 1) ts)
  where
    by : (b : Bool) → is_could_fire (first_lack m (k + 1) ts) ≡ all_entailed m ts → is_could_fire (cond b (first_lack m (k + 1) ts) (guard k (lack m t))) ≡ (b && all_entailed m ts)
    by true h = h
    by false h = refl

-- ---- the heads and the rows

mutual
  itself : (t : Tree) → instance (λ x. var x) t ≡ t
  itself (var x) = refl
  itself (int z) = refl
  itself (node f ts) = ap (node f) (themselves ts)

  themselves : (ts : Trees) → instances (λ x. var x) ts ≡ ts
  themselves none = refl
  themselves (more t ts) = λ k. more (itself t k) (themselves ts k)

all_bound : (rs : List Row) → AreBound (λ x. var x) rs rs
all_bound [] = tt
all_bound (r ∷ rs) = (themselves r.1.args, all_bound rs)

-- a match of the later rows keeps the heads and the earlier ones from parting
not_parted : (g : ℕ → Tree) (m : Subst) (hs : List Head) (rs cs : List Row) → AreBound g rs cs → fits hs cs ≡ Some m → Meets (beside (past (row_vars rs)) g m) (join_rows [] (past (row_vars rs)) 1 hs rs)
not_parted g m hs rs cs w is =
    rows_meet (beside (past (row_vars rs)) g m) [] (past (row_vars rs)) 1 hs rs (λ x. refl) (equal_by_match (past (row_vars rs)) g m hs rs cs (omega arith) w (fits_law.makes hs cs m is))

matched : (rule : Rule) (rs : List Row) (m : Subst) → fits rule.heads rs ≡ Some m → is_could_fire (of_rows rule rs) ≡ all_entailed m rule.guard
matched rule rs m is = by (join_rows [] (past (row_vars rs)) 1 rule.heads rs) (not_parted (λ x. var x) m rule.heads rs rs (all_bound rs) is)
  where
    by : (j : Joining) → Meets (beside (past (row_vars rs)) (λ x. var x) m) j → is_could_fire (of_joining rule rs j) ≡ all_entailed m rule.guard
    by (joined u) h = rw is (entails m 1 rule.guard)
    by (parted way t v) h = absurd h

unmatched : (rule : Rule) (rs : List Row) → fits rule.heads rs ≡ None → is_could_fire (of_rows rule rs) ≡ false
unmatched rule rs is = by (join_rows [] (past (row_vars rs)) 1 rule.heads rs)
  where
    by : (j : Joining) → is_could_fire (of_joining rule rs j) ≡ false
    by (joined u) = rw is ((bound u 1 rs).0)
    by (parted way t v) = refl

by_rows : (rule : Rule) (rs : List Row) (o : Option Subst) → fits rule.heads rs ≡ o → is_could_fire (or_else (first_of_another 1 rule.heads rs) (of_rows rule rs)) ≡ passes_guard rule o
by_rows rule rs (Some m) is = rw (same_symbols (value_at m) 1 rule.heads rs (fits_law.makes rule.heads rs m is)) (matched rule rs m is)
by_rows rule rs None is = by (first_of_another 1 rule.heads rs) refl
  where
    by : (o : Option Verdict) → first_of_another 1 rule.heads rs ≡ o → is_could_fire (or_else o (of_rows rule rs)) ≡ false
    by None e = unmatched rule rs is
    by (Some v) e = (another 1 rule.heads rs v e).0

-- ---- the list

same_rows : (s : State) (ids : List ℕ) → list_all (λ i. is_some (atom_of s.store i)) ids ≡ true → ids_of (rows_of (rows s) ids) ≡ ids
same_rows s [] h = refl
same_rows s (i ∷ ids) h = by (atom_of s.store i) refl (same_rows s ids) h
  where
    by : (o : Option Atom) → atom_of s.store i ≡ o → (list_all (λ k. is_some (atom_of s.store k)) ids ≡ true → ids_of (rows_of (rows s) ids) ≡ ids)
        → (is_some o && list_all (λ k. is_some (atom_of s.store k)) ids) ≡ true → ids_of (rows_of (rows s) (i ∷ ids)) ≡ i ∷ ids
    by None e go h = absurd (true≢false (sym h))
    by (Some a) e go h = rw (atom_resolved s.subst s.store i a e) (ap (λ (l : List ℕ). i ∷ l) (go h))

never_fired : (b : Bool) (v : Verdict) → is_could_fire v ≡ false → is_could_fire (cond b fired v) ≡ false
never_fired true v h = refl
never_fired false v h = h

none_left : (a : Bool) → (a && false) ≡ false
none_left true = refl
none_left false = refl

all_left : (a : Bool) → a ≡ (a && true)
all_left true = refl
all_left false = refl

could_by : (old now : Bool) (a c : Option Verdict) (lives differ : Bool) (v : Verdict) (passes : Bool) → IsHindrance a lives → IsHindrance c differ → (lives ≡ true → now ≡ old) → is_could_fire v ≡ passes
    → is_could_fire (cond old fired (or_else a (or_else c v))) ≡ (lives && (differ && (passes && not now)))
could_by old now (Some w) c lives differ v passes h k same is = never_fired old w h.0 ∙ sym (ap (λ (b : Bool). b && (differ && (passes && not now))) h.1)
could_by old now None (Some w) lives differ v passes h k same is = never_fired old w k.0 ∙ sym (λ i. h i && (k.1 i && (passes && not now)))
could_by true now None None lives differ v passes h k same is = sym ((λ i. h i && (k i && (passes && not (same h i)))) ∙ none_left passes)
could_by false now None None lives differ v passes h k same is = is ∙ all_left passes ∙ sym (λ i. h i && (k i && (passes && not (same h i))))

could : (s : State) (r : ℕ) (rule : Rule) (ids : List ℕ) → is_could_fire (verdict s r rule ids) ≡ can_fire_with s r rule ids
could s r rule ids =
    could_by (fired_before s.history r ids) (fired_before s.history r (ids_of (rows_of (rows s) ids))) (first_absent s ids) (first_repeated ids) (list_all (λ i. is_some (atom_of s.store i)) ids) (is_none (first_repeated ids))
    (or_else (first_of_another 1 rule.heads (rows_of (rows s) ids)) (of_rows rule (rows_of (rows s) ids))) (passes_guard rule (fits rule.heads (rows_of (rows s) ids)))
    (absence s ids) (repetition ids) (λ h. ap (fired_before s.history r) (same_rows s ids h)) (by_rows rule (rows_of (rows s) ids) (fits rule.heads (rows_of (rows s) ids)) refl)

-- ---- for good

lacks : (m : Subst) (k : ℕ) (ts : List Test) → is_unlike (first_lack m k ts) ≡ false
lacks m k [] = refl
lacks m k (t ∷ ts) = by (entailed m t) (lacks m (k + 1) ts)
  where
    by : (b : Bool) → is_unlike (first_lack m (k + 1) ts) ≡ false → is_unlike (cond b (first_lack m (k + 1) ts) (guard k (lack m t))) ≡ false
    by true h = h
    by false h = refl

joined_not_unlike : (rule : Rule) (rs : List Row) (u : Subst) (o : Option Subst) → is_unlike (of_match rule rs u o) ≡ false
joined_not_unlike rule rs u (Some m) = lacks m 1 rule.guard
joined_not_unlike rule rs u None = (bound u 1 rs).1

not_both : (test : Verdict → Bool) (v w : Verdict) → test v ≡ false → test w ≡ true → v ≡ w → ⊥
not_both test v w h k e = true≢false (sym k ∙ ap test (sym e) ∙ h)

-- what a verdict on rows comes from: all live, have the heads' symbols, and the verdict is on them
record OfRows (lives : Bool) (o : Option Verdict) (v w : Verdict) : Type 0 where
  live : lives ≡ true
  alike : o ≡ None
  is : v ≡ w

parts_of : (old : Bool) (a c o : Option Verdict) (lives differ : Bool) (v w : Verdict) → IsHindrance a lives → IsHindrance c differ → ((x : Verdict) → o ≡ Some x → is_of_rows x ≡ false)
    → cond old fired (or_else a (or_else c (or_else o v))) ≡ w → is_of_rows w ≡ true → OfRows lives o v w
parts_of true a c o lives differ v w h k other e of = absurd (not_both is_of_rows fired w refl of e)
parts_of false (Some x) c o lives differ v w h k other e of = absurd (not_both is_of_rows x w h.2 of e)
parts_of false None (Some x) o lives differ v w h k other e of = absurd (not_both is_of_rows x w k.2 of e)
parts_of false None None (Some x) lives differ v w h k other e of = absurd (not_both is_of_rows x w (other x refl) of e)
parts_of false None None None lives differ v w h k other e of = record { live = h; alike = refl; is = e }

of_its_rows : (s : State) (r : ℕ) (rule : Rule) (ids : List ℕ) (w : Verdict) → verdict s r rule ids ≡ w → is_of_rows w ≡ true
    → (let rs = rows_of (rows s) ids in OfRows (list_all (λ i. is_some (atom_of s.store i)) ids) (first_of_another 1 rule.heads rs) (of_rows rule rs) w)
of_its_rows s r rule ids w e of =
    let rs = rows_of (rows s) ids in
    parts_of (fired_before s.history r ids) (first_absent s ids) (first_repeated ids) (first_of_another 1 rule.heads rs) _ _ (of_rows rule rs) w (absence s ids) (repetition ids) (λ v is. (another 1 rule.heads rs v is).1) e of

unlike_parted : (rule : Rule) (rs : List Row) (j : Joining) (way : List ℕ) (t u : Tree) → of_joining rule rs j ≡ unlike way t u → j ≡ parted way t u
unlike_parted rule rs (joined w) way t u e = absurd (not_both is_unlike _ (unlike way t u) (joined_not_unlike rule rs w (fits rule.heads rs)) refl e)
unlike_parted rule rs (parted path a b) way t u e = cc

waits_joined : (rule : Rule) (rs : List Row) (j : Joining) (k x : ℕ) → of_joining rule rs j ≡ waits k x → (u : Subst) × (j ≡ joined u)
waits_joined rule rs (joined u) k x e = (u, refl)
waits_joined rule rs (parted way t v) k x e = cc

-- what lives is below the next identity
lives_below : (lo hi i : ℕ) (xs : List Row) (a : Atom) → Ascends lo xs hi → atom_of xs i ≡ Some a → i < hi
lives_below lo hi i [] a h e = cc
lives_below lo hi i (x ∷ xs) a h e = by (x.0 == i) refl (lives_below (x.0 + 1) hi i xs a h.1) e
  where
    by : (b : Bool) → (x.0 == i) ≡ b → (atom_of xs i ≡ Some a → i < hi) → cond b (Some x.1) (atom_of xs i) ≡ Some a → i < hi
    by true is go e = let same : x.0 ≡ i = (Decides-eqb x.0 i).0 is in let l = Ascends-ends (x.0 + 1) hi xs h.1 in omega (arith, same, l)
    by false is go e = go e

bound_twice : (s r : Subst) (ts : Trees) → Solves (value_at r) s → instances (value_at r) (instances (value_at s) ts) ≡ instances (value_at r) ts
bound_twice s r ts h = instances-instances (value_at r) (value_at s) ts ∙ (λ k. instances (λ x. h x k) ts)

all_first : {X : Type 0} (test : X → Bool) (xs ys : List X) → list_all test (xs ++ ys) ≡ true → list_all test xs ≡ true
all_first test [] ys e = refl
all_first test (x ∷ xs) ys e = let parts = and_parts (test x) _ e in and_from (test x) (list_all test xs) parts.0 (all_first test xs ys parts.1)

-- the rows of identities that live then and now; now others may stand behind them
bound_rows : (s t : State) → GoesOn s t → Ascends 0 s.store s.next_id → (ids others : List ℕ) → list_all (λ i. is_some (atom_of s.store i)) ids ≡ true → list_all (λ i. is_some (atom_of t.store i)) ids ≡ true
    → AreBound (value_at t.subst) (rows_of (rows s) ids) (rows_of (rows t) (ids ++ others))
bound_rows s t on h [] others old now = tt
bound_rows s t on h (i ∷ ids) others old now = by (atom_of s.store i) (atom_of t.store i) refl refl (bound_rows s t on h ids others) old now
  where
    by : (x y : Option Atom) → atom_of s.store i ≡ x → atom_of t.store i ≡ y
        → (list_all (λ k. is_some (atom_of s.store k)) ids ≡ true → list_all (λ k. is_some (atom_of t.store k)) ids ≡ true → AreBound (value_at t.subst) (rows_of (rows s) ids) (rows_of (rows t) (ids ++ others)))
        → (is_some x && list_all (λ k. is_some (atom_of s.store k)) ids) ≡ true → (is_some y && list_all (λ k. is_some (atom_of t.store k)) ids) ≡ true
        → AreBound (value_at t.subst) (rows_of (rows s) (i ∷ ids)) (rows_of (rows t) (i ∷ ids ++ others))
    by None y ex ey go old now = absurd (true≢false (sym old))
    by (Some a) None ex ey go old now = absurd (true≢false (sym now))
    by (Some a) (Some b) ex ey go old now =
        let there : Some a ≡ Some b = sym ex ∙ on.lived i b (lives_below 0 s.next_id i s.store a h ex) ey in
        let same : a ≡ b = cc in
        rw (atom_resolved s.subst s.store i a ex, atom_resolved t.subst t.store i b ey) (bound_twice s.subst t.subst a.args on.bound ∙ ap (λ (c : Atom). instances (value_at t.subst) c.args) same, go old now)

not_true : (b : Bool) → (b ≡ true → ⊥) → b ≡ false
not_true true h = absurd (h refl)
not_true false h = refl

some_match : (rule : Rule) (o : Option Subst) → passes_guard rule o ≡ true → (m : Subst) × (o ≡ Some m)
some_match rule None e = absurd (true≢false (sym e))
some_match rule (Some m) e = (m, refl)

never_fires : (s t : State) → GoesOn s t → Ascends 0 s.store s.next_id → (r : ℕ) (rule : Rule) (ids others way : List ℕ) (x y : Tree) → verdict s r rule ids ≡ unlike way x y → can_fire_with t r rule (ids ++ others) ≡ true → ⊥
never_fires s t on h r rule ids others way x y e fires =
    let parts = of_its_rows s r rule ids (unlike way x y) e refl in
    let now = and_parts (list_all (λ i. is_some (atom_of t.store i)) (ids ++ others)) _ fires in
    let passes = and_parts (passes_guard rule (fits rule.heads (rows_of (rows t) (ids ++ others)))) _ (and_parts (is_none (first_repeated (ids ++ others))) _ now.1).1 in
    let m = some_match rule (fits rule.heads (rows_of (rows t) (ids ++ others))) passes.0 in
    subst (Meets (beside (past (row_vars (rows_of (rows s) ids))) (value_at t.subst) m.0)) (unlike_parted rule (rows_of (rows s) ids) (join_rows [] (past (row_vars (rows_of (rows s) ids))) 1 rule.heads (rows_of (rows s) ids)) way x y parts.is)
    (not_parted (value_at t.subst) m.0 rule.heads (rows_of (rows s) ids) (rows_of (rows t) (ids ++ others)) (bound_rows s t on h ids others parts.live (all_first _ ids others now.0)) m.1)

behind : (p : Program) (q : Query) (n m r : ℕ) (rule : Rule) (ids others way : List ℕ) (t u : Tree) → verdict (after p (start q) n) r rule ids ≡ unlike way t u → can_fire_with (after p (start q) (n + m)) r rule (ids ++ others) ≡ false
behind p q n m r rule ids others way t u e =
    let sound = sound_after p n (start q) (sound_start q) in
    not_true _ (λ fires. never_fires (after p (start q) n) (after p (start q) (n + m))
    (subst (GoesOn (after p (start q) n)) (sym (after-add p (start q) n m)) (goes_on p m (after p (start q) n) sound)) sound.ascends r rule ids others way t u e fires)

for_good : (p : Program) (q : Query) (n m r : ℕ) (rule : Rule) (ids way : List ℕ) (t u : Tree) → verdict (after p (start q) n) r rule ids ≡ unlike way t u → can_fire_with (after p (start q) (n + m)) r rule ids ≡ false
for_good p q n m r rule ids way t u e = ap (can_fire_with (after p (start q) (n + m)) r rule) (sym (append-nil ids)) ∙ behind p q n m r rule ids [] way t u e

-- ---- what waits is mended

made_by : (u : Subst) (n k : ℕ) (hs : List Head) (rs : List Row) → length rs ≡ length hs → first_of_another k hs rs ≡ None → AreEqual (value_at u) n hs rs → AreMade (λ x. value_at u (n + x)) hs (bound_by (value_at u) rs)
made_by u n k [] [] long alike e = refl
made_by u n k [] (c ∷ rs) long alike e = cc
made_by u n k (h ∷ hs) [] long alike e = cc
made_by u n k (h ∷ hs) (c ∷ rs) long alike e = by (h.atom.sym == c.1.sym) refl (λ w. made_by u n (k + 1) hs rs (omega (arith, long)) w e.1) alike
  where
    by : (b : Bool) → (h.atom.sym == c.1.sym) ≡ b → (first_of_another (k + 1) hs rs ≡ None → AreMade (λ x. value_at u (n + x)) hs (bound_by (value_at u) rs)) → cond b (first_of_another (k + 1) hs rs) (Some (other_symbol k)) ≡ None → AreMade (λ x. value_at u (n + x)) (h ∷ hs) (bound_by (value_at u) (c ∷ rs))
    by true is go alike =
        let first : made_atom (λ x. value_at u (n + x)) h ≡ record { sym = c.1.sym; args = instances (value_at u) c.1.args } =
        λ k. record { sym = (Decides-eqb h.atom.sym c.1.sym).0 is k; args = (sym (instances-instances (value_at u) (λ x. var (n + x)) h.atom.args) ∙ e.0) k } in
        let others = go alike in
        λ i. first i ∷ others i
    by false is go alike = cc

some_found : (f : ℕ → Tree) (g : ℕ → Tree) (hs : List Head) (rs : List Row) (o : Option Subst) → fits hs (bound_by f rs) ≡ o → AreMade g hs (bound_by f rs) → (f : ℕ → Tree) × (m : Subst) × (fits hs (bound_by f rs) ≡ Some m)
some_found f g hs rs None is made = absurd (fits_law.none hs (bound_by f rs) is g made)
some_found f g hs rs (Some m) is made = (f, m, is)

mends : (s : State) (r : ℕ) (rule : Rule) (ids : List ℕ) (k x : ℕ) → length ids ≡ length rule.heads → verdict s r rule ids ≡ waits k x → (f : ℕ → Tree) × (m : Subst) × (fits rule.heads (bound_by f (rows_of (rows s) ids)) ≡ Some m)
mends s r rule ids k x long e =
    let rs = rows_of (rows s) ids in
    let parts = of_its_rows s r rule ids (waits k x) e refl in
    let u = waits_joined rule rs (join_rows [] (past (row_vars rs)) 1 rule.heads rs) k x parts.is in
    let joins = rows_joined [] u.0 (past (row_vars rs)) 1 rule.heads rs nothing_solved u.1 in
    let as_long = sym (length-map rs (λ (c : Row). c.0)) ∙ ap (λ (l : List ℕ). length l) (same_rows s ids parts.live) ∙ long in
    some_found (value_at u.0) (λ y. value_at u.0 (past (row_vars rs) + y)) rule.heads rs (fits rule.heads (bound_by (value_at u.0) rs)) refl
    (made_by u.0 (past (row_vars rs)) 1 rule.heads rs as_long parts.alike joins.equal)

pub verdict_law : VerdictLaw
verdict_law = record { could = could; for_good = for_good; behind = behind; mends = mends; decides = decides }
