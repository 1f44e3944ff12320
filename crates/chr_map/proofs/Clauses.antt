-- Clauses of answers.
use Rattle.std.proofs.Common.{◌≡◌, refl, sym, subst, true}
use Rattle.std.specs.Prelude.{Option, Some, None, IfNone, IfSome, Result, Ok, Err, IfErr, IfOk, OnErr, OnOk, is_ok}

-- a clause of an answer leads to another, also of an equal answer
pub ok_leads : {X E : Type 0} (P Q : Type 0) (r : Result X E) → OnOk r P → (P → Q) → OnOk r Q
ok_leads P Q (Ok x) h f = f h
ok_leads P Q (Err x) h f = tt

pub ok_more : {X E : Type 0} (P Q : Type 0) (a r : Result X E) → a ≡ r → OnOk r P → (P → Q) → OnOk a Q
ok_more {X = X} {E = E} P Q a r e h f = subst (λ (x : Result X E). OnOk x Q) (sym e) (ok_leads P Q r h f)

pub err_leads : {X E : Type 0} (P Q : Type 0) (r : Result X E) → OnErr r P → (P → Q) → OnErr r Q
err_leads P Q (Ok x) h f = tt
err_leads P Q (Err x) h f = f h

pub err_more : {X E : Type 0} (P Q : Type 0) (a r : Result X E) → a ≡ r → OnErr r P → (P → Q) → OnErr a Q
err_more {X = X} {E = E} P Q a r e h f = subst (λ (x : Result X E). OnErr x Q) (sym e) (err_leads P Q r h f)

-- a clause of a value leads to another
pub if_more : {X E : Type 0} (P Q : X → Type 0) (r : Result X E) → IfOk r P → ((x : X) → P x → Q x) → IfOk r Q
if_more P Q (Ok x) h f = f x h
if_more P Q (Err e) h f = tt

pub if_err_more : {X E : Type 0} (P Q : E → Type 0) (r : Result X E) → IfErr r P → ((x : E) → P x → Q x) → IfErr r Q
if_err_more P Q (Ok x) h f = tt
if_err_more P Q (Err e) h f = f e h

-- what holds at every answer
pub err_holds : {X E : Type 0} (P : Type 0) (r : Result X E) → P → OnErr r P
err_holds P (Ok x) h = tt
err_holds P (Err x) h = h

-- what is known of an answer
pub ok_known : {X E : Type 0} (P : Type 0) (r : Result X E) (x : X) → r ≡ Ok x → OnOk r P → P
ok_known {X = X} {E = E} P r x e h = subst (λ (a : Result X E). OnOk a P) e h

pub err_known : {X E : Type 0} (P : Type 0) (r : Result X E) (x : E) → r ≡ Err x → OnErr r P → P
err_known {X = X} {E = E} P r x e h = subst (λ (a : Result X E). OnErr a P) e h

-- what follows from either answer
pub either : {X E : Type 0} (P Q R : Type 0) (r : Result X E) → OnOk r P → OnErr r Q → (P → R) → (Q → R) → R
either P Q R (Ok x) p q f e = f p
either P Q R (Err x) p q f e = e q

-- where it can not have failed
pub ok_since : {X E : Type 0} (P : Type 0) (r : Result X E) → OnErr r P → (P → ⊥) → is_ok r ≡ true
ok_since P (Ok x) h never = refl
ok_since P (Err e) h never = absurd (never h)

-- a clause of an option leads to another
pub some_more : {X : Type 0} (P Q : X → Type 0) (o : Option X) → IfSome o P → ((x : X) → P x → Q x) → IfSome o Q
some_more P Q None h f = tt
some_more P Q (Some x) h f = f x h

pub none_leads : {X : Type 0} (P Q : Type 0) (o : Option X) → IfNone o P → (P → Q) → IfNone o Q
none_leads P Q None h f = f h
none_leads P Q (Some x) h f = tt
