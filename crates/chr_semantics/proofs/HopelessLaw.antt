-- A test that is hopeless as it is written is so under each match.
use Rattle.std.proofs.Common.{◌≡◌, ◌∙◌, ◌&&◌, Bool, true, false, cond, not, [], Option, Some, None, Ok, Err, ap, refl, sym, subst, true≢false}
use Rattle.std.proofs.lemmas.Bool.{and_parts}
use Rattle.std.specs.Prelude.{ℤ, is_none, is_some, nat_le}
use Rattle.chr_semantics.specs.Names.{plus_symbol, modulo_symbol}
use Rattle.chr_semantics.specs.Tree.{Tree, var, int, node, none, more, same}
use Rattle.chr_semantics.specs.Subst.{Subst, apply, value_at, instance}
use Rattle.chr_semantics.specs.Mgu.{mgu}
use Rattle.chr_semantics.specs.Value.{Fault, Value, both_values, not_number, operator_value, overflow, unbound, value, zero_divisor}
use Rattle.chr_semantics.specs.Program.{Comparison, Test, compares, identical, is_ground, is_integer, not_unifiable}
use Rattle.chr_semantics.specs.Guard.{entailed, value_comparison_holds}
use Rattle.chr_semantics.specs.Verdict.{lack_of_values, lack_where}
use Rattle.chr_semantics.specs.Suspicion.{is_for_good, is_hopeless}
use Rattle.chr_semantics.proofs.Instances.{instance-solves}
use Rattle.chr_semantics.proofs.SameLaw.{same_true}
use Rattle.chr_semantics.proofs.UnifierNone.{mgu_none}

-- there is no value
abbrev NoValue : Value → Type 0
NoValue (Ok z) = ⊥
NoValue (Err e) = Unit {0}

-- what a value is once more variables have values: a number stays, and a fault but `unbound` stays one
abbrev Stays : Value → Value → Type 0
Stays (Ok z) v = v ≡ Ok z
Stays (Err unbound) v = Unit {0}
Stays (Err not_number) v = NoValue v
Stays (Err overflow) v = NoValue v
Stays (Err zero_divisor) v = NoValue v

itself_stays : (v : Value) → Stays v v
itself_stays (Ok z) = refl
itself_stays (Err unbound) = tt
itself_stays (Err not_number) = tt
itself_stays (Err overflow) = tt
itself_stays (Err zero_divisor) = tt

no_value_stays : (e : Fault) (v : Value) → NoValue v → Stays (Err e) v
no_value_stays unbound v h = tt
no_value_stays not_number v h = h
no_value_stays overflow v h = h
no_value_stays zero_divisor v h = h

-- a fault of one of two values is one of both
fault_stays : (g : ℤ → ℤ → Value) (e : Fault) (v d : Value) → NoValue v → Stays (Err e) (both_values g v d)
fault_stays g e (Ok z) d h = absurd h
fault_stays g e (Err f) d h = no_value_stays e (Err f) tt

second_fault : (g : ℤ → ℤ → Value) (x : ℤ) (e : Fault) (v : Value) → NoValue v → Stays (Err e) (both_values g (Ok x) v)
second_fault g x e (Ok z) h = absurd h
second_fault g x e (Err f) h = no_value_stays e (Err f) tt

-- the second of two values stays, where the first is a number
second_stays : (g : ℤ → ℤ → Value) (x : ℤ) (b d : Value) → Stays b d → Stays (both_values g (Ok x) b) (both_values g (Ok x) d)
second_stays g x (Ok y) d h = subst (λ (v : Value). Stays (g x y) (both_values g (Ok x) v)) (sym h) (itself_stays (g x y))
second_stays g x (Err unbound) d h = tt
second_stays g x (Err not_number) d h = second_fault g x not_number d h
second_stays g x (Err overflow) d h = second_fault g x overflow d h
second_stays g x (Err zero_divisor) d h = second_fault g x zero_divisor d h

both_stay : (g : ℤ → ℤ → Value) (a b c d : Value) → Stays a c → Stays b d → Stays (both_values g a b) (both_values g c d)
both_stay g (Ok x) b c d h k = subst (λ (v : Value). Stays (both_values g (Ok x) b) (both_values g v d)) (sym h) (second_stays g x b d k)
both_stay g (Err unbound) b c d h k = tt
both_stay g (Err not_number) b c d h k = fault_stays g not_number c d h
both_stay g (Err overflow) b c d h k = fault_stays g overflow c d h
both_stay g (Err zero_divisor) b c d h k = fault_stays g zero_divisor c d h

operator_stays : (is_operator : Bool) (g : ℤ → ℤ → Value) (a b c d : Value) → Stays a c → Stays b d
    → Stays (cond is_operator (both_values g a b) (Err not_number)) (cond is_operator (both_values g c d) (Err not_number))
operator_stays true g a b c d h k = both_stay g a b c d h k
operator_stays false g a b c d h k = tt

value_stays : (m : Subst) (t : Tree) → Stays (value t) (value (apply m t))
value_stays m (var x) = tt
value_stays m (int z) = refl
value_stays m (node f none) = tt
value_stays m (node f (more a none)) = tt
value_stays m (node f (more a (more b none))) =
    operator_stays (nat_le plus_symbol f && nat_le f modulo_symbol) (operator_value f) (value a) (value b) (value (apply m a)) (value (apply m b)) (value_stays m a) (value_stays m b)
value_stays m (node f (more a (more b (more c ts)))) = tt

-- what the empty match does is nothing to another
under_nothing : (m : Subst) (t : Tree) → apply m (apply [] t) ≡ apply m t
under_nothing m t = instance-solves (value_at m) [] (λ x. refl) t

stays_applied : (m : Subst) (t : Tree) → Stays (value (apply [] t)) (value (apply m t))
stays_applied m t = subst (λ (u : Tree). Stays (value (apply [] t)) (value u)) (under_nothing m t) (value_stays m (apply [] t))

never_holds : (c : Comparison) (a b : Value) → NoValue b → value_comparison_holds c a b ≡ false
never_holds c a (Ok y) h = absurd h
never_holds c (Ok x) (Err e) h = refl
never_holds c (Err f) (Err e) h = refl

first_never_holds : (c : Comparison) (a b : Value) → NoValue a → value_comparison_holds c a b ≡ false
first_never_holds c (Ok x) b h = absurd h
first_never_holds c (Err e) b h = refl

-- a comparison that is false for good of two values, or of none
compared : (c : Comparison) (a b p q : Value) → Stays a p → Stays b q → (not (value_comparison_holds c a b) && is_for_good (lack_of_values a b)) ≡ true → value_comparison_holds c p q ≡ false
compared c (Ok x) (Ok y) p q h k e = subst (λ (v : Value). value_comparison_holds c v q ≡ false) (sym h) (subst (λ (v : Value). value_comparison_holds c (Ok x) v ≡ false) (sym k) (is_false (value_comparison_holds {F = Fault} c (Ok x) (Ok y)) (and_parts (not (value_comparison_holds {F = Fault} c (Ok x) (Ok y))) true e).0))
  where
    is_false : (b : Bool) → not b ≡ true → b ≡ false
    is_false true h = absurd (true≢false (sym h))
    is_false false h = refl
compared c (Ok x) (Err unbound) p q h k e = absurd (true≢false (sym e))
compared c (Ok x) (Err not_number) p q h k e = never_holds c p q k
compared c (Ok x) (Err overflow) p q h k e = never_holds c p q k
compared c (Ok x) (Err zero_divisor) p q h k e = never_holds c p q k
compared c (Err unbound) (Ok y) p q h k e = absurd (true≢false (sym e))
compared c (Err unbound) (Err unbound) p q h k e = absurd (true≢false (sym e))
compared c (Err unbound) (Err not_number) p q h k e = never_holds c p q k
compared c (Err unbound) (Err overflow) p q h k e = never_holds c p q k
compared c (Err unbound) (Err zero_divisor) p q h k e = never_holds c p q k
compared c (Err not_number) b p q h k e = first_never_holds c p q h
compared c (Err overflow) b p q h k e = first_never_holds c p q h
compared c (Err zero_divisor) b p q h k e = first_never_holds c p q h

-- ---- terms

unlike_stays : (m : Subst) (s t : Tree) → mgu [] (apply [] s) (apply [] t) ≡ None → (b : Bool) → same (apply m s) (apply m t) ≡ b → b ≡ false
unlike_stays m s t h true e =
    absurd (mgu_none [] (apply [] s) (apply [] t) h (value_at m) (λ x. refl) (under_nothing m s ∙ same_true (apply m s) (apply m t) e ∙ sym (under_nothing m t)))
unlike_stays m s t h false e = refl

like_stays : (m : Subst) (s t : Tree) → same (apply [] s) (apply [] t) ≡ true → (r : Option Subst) → mgu [] (apply m s) (apply m t) ≡ r → is_none r ≡ false
like_stays m s t h None e =
    let equal = sym (under_nothing m s) ∙ ap (apply m) (same_true (apply [] s) (apply [] t) h) ∙ under_nothing m t in
    absurd (mgu_none [] (apply m s) (apply m t) e (value_at []) (λ x. refl) (ap (instance (value_at [])) equal))
like_stays m s t h (Some u) e = refl

no_unifier : (r : Option Subst) → is_for_good (lack_where (is_some r)) ≡ true → r ≡ None
no_unifier None h = refl
no_unifier (Some u) h = absurd (true≢false (sym h))

is_same : (b : Bool) → is_for_good (lack_where (not b)) ≡ true → b ≡ true
is_same true h = refl
is_same false h = absurd (true≢false (sym h))

-- the law
pub hopeless : (t : Test) (m : Subst) → is_hopeless t ≡ true → entailed m t ≡ false
hopeless (identical s t) m h =
    let parts = and_parts (not (same (apply [] s) (apply [] t))) (is_for_good (lack_where (is_some (mgu [] (apply [] s) (apply [] t))))) h in
    unlike_stays m s t (no_unifier (mgu [] (apply [] s) (apply [] t)) parts.1) (same (apply m s) (apply m t)) refl
hopeless (not_unifiable s t) m h =
    let parts = and_parts (not (is_none (mgu [] (apply [] s) (apply [] t)))) (is_for_good (lack_where (not (same (apply [] s) (apply [] t))))) h in
    like_stays m s t (is_same (same (apply [] s) (apply [] t)) parts.1) (mgu [] (apply m s) (apply m t)) refl
hopeless (compares c s t) m h = compared c (value (apply [] s)) (value (apply [] t)) (value (apply m s)) (value (apply m t)) (stays_applied m s) (stays_applied m t) h
hopeless (is_integer (var x)) m h = absurd (true≢false (sym h))
hopeless (is_integer (int z)) m h = absurd (true≢false (sym h))
hopeless (is_integer (node f ts)) m h = refl
hopeless (is_ground t) m h = absurd (true≢false (sym (and_parts (not (entailed [] (is_ground t))) false h).1))
