-- A row with another root, or with another key, does not fit.
use Rattle.std.proofs.Common.{◌≡◌, ◌&&◌, ◌||◌, ℕ, zero, suc, ℤ, Bool, true, false, not, List, [], ◌∷◌, Option, Some, None, option_and_then, ap, refl, ◌∙◌, sym, true≢false}
use Rattle.std.specs.Prelude.{All, is_some, option_map}
use Rattle.std.specs.List.{list_all}
use Rattle.std.proofs.lemmas.Bool.{and_parts, eq-eqb}
use Rattle.std.proofs.lemmas.Bool.Decides.{Decides-eqb, Decides-int_eq}
use Rattle.std.proofs.lemmas.List.Elements.{All-cons, All-nil}
use Rattle.chr_semantics.specs.Tree.{Tree, var, int, node, Trees, none, more}
use Rattle.chr_semantics.specs.Subst.{Subst}
use Rattle.chr_semantics.specs.Program.{Atom, Head}
use Rattle.chr_semantics.specs.Match.{Row, match_at, fit_atom}
use Rattle.chr_semantics.specs.Keys.{ClashLaw, Key, Root, RootLaw, arg_at, clashes_with, first_key, has_root, head_root, is_of, is_root, key, key_of, name, number, pattern_root, root_of, same_key, same_keys, same_root, unbound}
use Rattle.chr_semantics.proofs.Makes.{Extends, Makes, MakesAll, fit_atom_makes}
use Rattle.std.proofs.lemmas.Option.{none-some}

same_key_itself : (k : Key) → same_key k k ≡ true
same_key_itself (number z) = (Decides-int_eq z z).1 refl
same_key_itself (name f) = (Decides-eqb f f).1 refl

same_root_itself : (k : Root) → same_root k k ≡ true
same_root_itself (key k) = same_key_itself k
same_root_itself (unbound x) = (Decides-eqb x x).1 refl

-- the root that a pattern asks for is the root of what it is made
root_made : (m n : Subst) (p u : Tree) (k : Root) → Extends m n → Makes n p u → pattern_root m p ≡ Some k → root_of u ≡ k
root_made m n (var x) u k f h e = of_var (match_at m x) refl e
  where
    of_var : (o : Option Tree) → match_at m x ≡ o → option_map root_of o ≡ Some k → root_of u ≡ k
    of_var None is d = absurd (none-some k d)
    of_var (Some t) is d = let same : Some t ≡ Some u = sym (f x t is) ∙ h in let q : t ≡ u = cc in let r : root_of t ≡ k = cc in ap root_of (sym q) ∙ r
root_made m n (int z) (var y) k f h e = absurd h
root_made m n (int z) (int w) k f h e = let r : key (number z) ≡ k = cc in ap (λ (v : ℤ). key (number v)) (sym h) ∙ r
root_made m n (int z) (node g us) k f h e = absurd h
root_made m n (node g ts) (var y) k f h e = absurd h
root_made m n (node g ts) (int w) k f h e = absurd h
root_made m n (node g ts) (node l us) k f h e = let r : key (name g) ≡ k = cc in ap (λ (v : ℕ). key (name v)) (sym h.0) ∙ r

args_root : (m n : Subst) (ps us : Trees) (p : ℕ) (k : Root) → Extends m n → MakesAll n ps us → option_and_then (pattern_root m) (arg_at ps p) ≡ Some k → option_map root_of (arg_at us p) ≡ Some k
args_root m n none none p k f h e = absurd (none-some k e)
args_root m n none (more u us) p k f h e = absurd h
args_root m n (more t ts) none p k f h e = absurd h
args_root m n (more t ts) (more u us) zero k f h e = ap (λ (r : Root). Some r) (root_made m n t u k f h.0 e)
args_root m n (more t ts) (more u us) (suc p) k f h e = args_root m n ts us p k f h.1 e

roots_at : (o : Option Subst) (h : Head) (m : Subst) (p : ℕ) (k : Root) (c : Row) → fit_atom h.atom c.1 m ≡ o → head_root m h p ≡ Some k → has_root p k c ≡ false → o ≡ None
roots_at None h m p k c is e out = refl
roots_at (Some n) h m p k c is e out =
    let a = fit_atom_makes h.atom c.1 m n is in
    let got : option_map root_of (arg_at c.1.args p) ≡ Some k = args_root m n h.atom.args c.1.args p k a.0 a.1.1 e in
    absurd (true≢false (sym (ap (is_root k) got ∙ same_root_itself k) ∙ out))

symbols_at : (o : Option Subst) (h : Head) (m : Subst) (c : Row) → fit_atom h.atom c.1 m ≡ o → is_of h.atom.sym c ≡ false → o ≡ None
symbols_at None h m c is out = refl
symbols_at (Some n) h m c is out =
    let a = fit_atom_makes h.atom c.1 m n is in
    absurd (true≢false (sym (eq-eqb c.1.sym h.atom.sym (sym a.1.0)) ∙ out))

pub root_law : RootLaw
root_law = record { roots = λ h m p k c e out. roots_at (fit_atom h.atom c.1 m) h m p k c refl e out; symbols = λ h m c out. symbols_at (fit_atom h.atom c.1 m) h m c refl out }

-- the key of a pattern is the key of what it is made
key_made : (n : Subst) (p u : Tree) (k : Key) → Makes n p u → key_of p ≡ Some k → key_of u ≡ Some k
key_made n (var x) u k h e = absurd (none-some k e)
key_made n (int z) (var y) k h e = absurd h
key_made n (int z) (int w) k h e = ap (λ (v : ℤ). Some (number v)) (sym h) ∙ e
key_made n (int z) (node g us) k h e = absurd h
key_made n (node g ts) (var y) k h e = absurd h
key_made n (node g ts) (int w) k h e = absurd h
key_made n (node g ts) (node l us) k h e = ap (λ (v : ℕ). Some (name v)) (sym h.0) ∙ e

first_made : (n : Subst) (ps us : Trees) (k : Key) → MakesAll n ps us → option_and_then key_of (arg_at ps 0) ≡ Some k → option_and_then key_of (arg_at us 0) ≡ Some k
first_made n none none k h e = e
first_made n none (more u us) k h e = absurd h
first_made n (more t ts) none k h e = absurd h
first_made n (more t ts) (more u us) k h e = key_made n t u k h.0 e

keys_made : (n : Subst) (h a : Atom) (o : Option Key) → MakesAll n h.args a.args → first_key h ≡ o → (is_some o && not (same_keys o (first_key a))) ≡ false
keys_made n h a None made is = refl
keys_made n h a (Some k) made is = rw (first_made n h.args a.args k made is, same_key_itself k) refl

clash_none : (c : Row) (h : Head) (m : Subst) (o : Option Subst) → fit_atom h.atom c.1 m ≡ o → clashes_with c h ≡ true → o ≡ None
clash_none c h m None is out = refl
clash_none c h m (Some n) is out =
    let a = fit_atom_makes h.atom c.1 m n is in
    let here : is_of h.atom.sym c ≡ true = eq-eqb c.1.sym h.atom.sym (sym a.1.0) in
    let keys = keys_made n h.atom c.1 (first_key h.atom) a.1.1 refl in
    absurd (true≢false (sym out ∙ ap (λ (b : Bool). not b || (is_some (first_key h.atom) && not (same_keys (first_key h.atom) (first_key c.1)))) here ∙ keys))

clash_all : (c : Row) (hs : List Head) → list_all (clashes_with c) hs ≡ true → All (λ h. (m : Subst) → fit_atom h.atom c.1 m ≡ None) hs
clash_all c [] h = All-nil (λ h. (m : Subst) → fit_atom h.atom c.1 m ≡ None)
clash_all c (x ∷ hs) h =
    let parts = and_parts (clashes_with c x) (list_all (clashes_with c) hs) h in
    All-cons (λ h. (m : Subst) → fit_atom h.atom c.1 m ≡ None) x hs (λ m. clash_none c x m (fit_atom x.atom c.1 m) refl parts.0) (clash_all c hs parts.1)

pub clash_law : ClashLaw
clash_law rule c h = clash_all c rule.heads h
