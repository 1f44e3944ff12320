-- The variables of matches: what a head's variables are matched to are parts of the rows.
use Rattle.std.proofs.Common.{◌≡◌, ◌==◌, ℕ, Bool, true, false, true≢false, cond, List, [], ◌∷◌, Option, Some, None, refl, sym, ◌||◌}
use Rattle.std.specs.Ordering.{int_eq}
use Rattle.std.proofs.lemmas.List.Elements.{All-cons, All-head, All-nil, All-tail}
use Rattle.chr_semantics.specs.Bounds.{AreBelow, AreRowsBelow, IsBelow, IsSubstBelow}
use Rattle.chr_semantics.specs.Match.{Row, fit, fit_all, fit_atom, fit_rows, fit_var, fits, match_at}
use Rattle.chr_semantics.specs.Program.{Head}
use Rattle.chr_semantics.specs.Subst.{Subst, binds_var, value_at}
use Rattle.chr_semantics.specs.Tree.{Tree, var, int, node, Trees, none, more, same}
use Rattle.std.specs.Prelude.{option_and_then}
use Rattle.chr_laws.proofs.Unifiers.{IfSubst}

tested_within : (n : ℕ) (b : Bool) (o : Option Subst) → IfSubst n o → IfSubst n (cond b o None)
tested_within n true o h = h
tested_within n false o h = tt

then_within : (n : ℕ) (f : Subst → Option Subst) (o : Option Subst) → ((m : Subst) → IsSubstBelow n m → IfSubst n (f m)) → IfSubst n o → IfSubst n (option_and_then f o)
then_within n f None h k = tt
then_within n f (Some m) h k = h m k

var_within : (n : ℕ) (m : Subst) (x : ℕ) (t : Tree) (o : Option Tree) → IsSubstBelow n m → IsBelow n t → IfSubst n (fit_var m x t o)
var_within n m x t None h b = All-cons (λ (p : ℕ × Tree). IsBelow n p.1) (x, t) m b h
var_within n m x t (Some u) h b = tested_within n (same u t) (Some m) h

mutual
  fit_within : (n : ℕ) (p t : Tree) (m : Subst) → IsSubstBelow n m → IsBelow n t → IfSubst n (fit p t m)
  fit_within n (var x) t m h b = var_within n m x t (match_at m x) h b
  fit_within n (int z) (var y) m h b = tt
  fit_within n (int z) (int w) m h b = tested_within n (int_eq z w) (Some m) h
  fit_within n (int z) (node g us) m h b = tt
  fit_within n (node f ts) (var y) m h b = tt
  fit_within n (node f ts) (int w) m h b = tt
  fit_within n (node f ts) (node g us) m h b = tested_within n (f == g) (fit_all ts us m) (fit_all_within n ts us m h b)

  fit_all_within : (n : ℕ) (ps ts : Trees) (m : Subst) → IsSubstBelow n m → AreBelow n ts → IfSubst n (fit_all ps ts m)
  fit_all_within n none none m h b = h
  fit_all_within n none (more u us) m h b = tt
  fit_all_within n (more p ps) none m h b = tt
  fit_all_within n (more p ps) (more t ts) m h b = then_within n (fit_all ps ts) (fit p t m) (λ k q. fit_all_within n ps ts k q b.1) (fit_within n p t m h b.0)

fit_rows_within : (n : ℕ) (hs : List Head) (rows : List Row) (m : Subst) → IsSubstBelow n m → AreRowsBelow n rows → IfSubst n (fit_rows hs rows m)
fit_rows_within n [] [] m h b = h
fit_rows_within n [] (a ∷ rows) m h b = tt
fit_rows_within n (p ∷ hs) [] m h b = tt
fit_rows_within n (p ∷ hs) (a ∷ rows) m h b =
    then_within n (fit_rows hs rows) (fit_atom p.atom a.1 m) (λ k q. fit_rows_within n hs rows k q (All-tail (λ (r : Row). AreBelow n r.1.args) a rows b))
    (tested_within n (p.atom.sym == a.1.sym) (fit_all p.atom.args a.1.args m) (fit_all_within n p.atom.args a.1.args m h (All-head (λ (r : Row). AreBelow n r.1.args) a rows b)))

pub fits_within : (n : ℕ) (hs : List Head) (rows : List Row) → AreRowsBelow n rows → IfSubst n (fits hs rows)
fits_within n hs rows b = fit_rows_within n hs rows [] (All-nil (λ (p : ℕ × Tree). IsBelow n p.1)) b

first_bound : (n : ℕ) (b : Bool) (t u : Tree) → IsBelow n t → (b ≡ false → IsBelow n u) → IsBelow n (cond b t u)
first_bound n true t u h k = h
first_bound n false t u h k = k refl

or_right : (b c : Bool) → b ≡ false → (b || c) ≡ true → c ≡ true
or_right b c e f = cc

-- what a variable that is bound stands for
pub bound_within : (n : ℕ) (m : Subst) (x : ℕ) → IsSubstBelow n m → binds_var m x ≡ true → IsBelow n (value_at m x)
bound_within n [] x h e = absurd (true≢false (sym e))
bound_within n (p ∷ m) x h e =
    first_bound n (p.0 == x) p.1 (value_at m x) (All-head (λ (p : ℕ × Tree). IsBelow n p.1) p m h)
    (λ f. bound_within n m x (All-tail (λ (p : ℕ × Tree). IsBelow n p.1) p m h) (or_right (p.0 == x) (binds_var m x) f e))
