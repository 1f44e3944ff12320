-- Terms that a function of variables makes equal are joined, and the function solves what joins them; and what joins terms makes them equal.
use Rattle.std.proofs.Common.{◌≡◌, ◌∙◌, ◌+◌, ◌==◌, Bool, List, None, Option, Some, [], ◌∷◌, ap, cond, refl, subst, sym, true, false, ℕ}
use Rattle.std.proofs.lemmas.Bool.Decides.{Decides-eqb}
use Rattle.chr_semantics.specs.Match.{Row}
use Rattle.chr_semantics.specs.Mgu.{mgu}
use Rattle.chr_semantics.specs.Program.{Head}
use Rattle.chr_semantics.specs.Subst.{IsSolved, Solves, Subst, apply, instance, instances, value_at}
use Rattle.chr_semantics.specs.Tree.{Tree, Trees, int, more, node, none, var}
use Rattle.chr_semantics.specs.Verdict.{Joining, join_arguments, join_rows, join_terms, joined, joined_by, parted, renamed}
use Rattle.chr_semantics.proofs.Instances.{instance-solves, instances-instances}
use Rattle.chr_semantics.proofs.Onward.{solves_on}
use Rattle.chr_semantics.proofs.SolvedLaw.{solved_twice}
use Rattle.chr_semantics.proofs.UnifierLaw.{unifier_law}

-- joined, by what the function solves
abbrev pub Meets : (ℕ → Tree) → Joining → Type 0
Meets f (joined r) = Solves f r
Meets f (parted way t v) = ⊥

by_unifier : (f : ℕ → Tree) (u : Subst) (t v : Tree) (o : Option Subst) → mgu u t v ≡ o → Solves f u → instance f t ≡ instance f v → Meets f (joined_by o u t v)
by_unifier f u t v None is s e = unifier_law.only u t v is f s e
by_unifier f u t v (Some r) is s e = unifier_law.general u t v f s e r is

mutual
  pub terms_meet : (f : ℕ → Tree) (u : Subst) (t v : Tree) → Solves f u → instance f t ≡ instance f v → Meets f (join_terms u t v)
  terms_meet f u (var x) v s e = by_unifier f u (var x) v (mgu u (var x) v) refl s e
  terms_meet f u (int z) v s e = by_unifier f u (int z) v (mgu u (int z) v) refl s e
  terms_meet f u (node g ts) (var y) s e = by_unifier f u (node g ts) (var y) (mgu u (node g ts) (var y)) refl s e
  terms_meet f u (node g ts) (int w) s e = cc
  terms_meet f u (node g ts) (node h vs) s e =
      let symbols : g ≡ h = cc in
      let arguments : instances f ts ≡ instances f vs = cc in
      rw ((Decides-eqb g h).1 symbols) (arguments_meet f u 1 ts vs s arguments)

  pub arguments_meet : (f : ℕ → Tree) (u : Subst) (k : ℕ) (ts vs : Trees) → Solves f u → instances f ts ≡ instances f vs → Meets f (join_arguments u k ts vs)
  arguments_meet f u k none none s e = s
  arguments_meet f u k none (more v vs) s e = cc
  arguments_meet f u k (more t ts) none s e = cc
  arguments_meet f u k (more t ts) (more v vs) s e =
      let here : instance f t ≡ instance f v = cc in
      let rest : instances f ts ≡ instances f vs = cc in
      next (join_terms u t v) (terms_meet f u t v s here) (λ r w. arguments_meet f r (k + 1) ts vs w rest)
    where
      next : (j : Joining) → Meets f j → ((r : Subst) → Solves f r → Meets f (join_arguments r (k + 1) ts vs))
          → Meets f (elim j [ joined r ↦ join_arguments r (k + 1) ts vs | parted way a w ↦ parted (k ∷ way) a w ])
      next (joined r) w go = go r w
      next (parted way a b) w go = absurd w

-- a function makes heads that are renamed apart the rows
abbrev pub AreEqual : (ℕ → Tree) → ℕ → List Head → List Row → Type 0
AreEqual f n [] rs = Unit {0}
AreEqual f n (h ∷ hs) [] = Unit {0}
AreEqual f n (h ∷ hs) (r ∷ rs) = (instances f (renamed n h.atom.args) ≡ instances f r.1.args) × AreEqual f n hs rs

pub rows_meet : (f : ℕ → Tree) (u : Subst) (n k : ℕ) (hs : List Head) (rs : List Row) → Solves f u → AreEqual f n hs rs → Meets f (join_rows u n k hs rs)
rows_meet f u n k [] rs s e = s
rows_meet f u n k (h ∷ hs) [] s e = s
rows_meet f u n k (h ∷ hs) (r ∷ rs) s e =
    next (join_arguments u 1 (renamed n h.atom.args) r.1.args) (arguments_meet f u 1 (renamed n h.atom.args) r.1.args s e.0) (λ v w. rows_meet f v n (k + 1) hs rs w e.1)
  where
    next : (j : Joining) → Meets f j → ((v : Subst) → Solves f v → Meets f (join_rows v n (k + 1) hs rs))
        → Meets f (elim j [ joined v ↦ join_rows v n (k + 1) hs rs | parted way a b ↦ parted (k ∷ way) a b ])
    next (joined v) w go = go v w
    next (parted way a b) w go = absurd w

-- ---- what joins terms

-- solved, it has the bindings of before
pub record Joins (u r : Subst) (t v : Tree) : Type 0 where
  pub solved : IsSolved r
  pub extends : Solves (value_at r) u
  pub equal : instance (value_at r) t ≡ instance (value_at r) v

pub record JoinsAll (u r : Subst) (ts vs : Trees) : Type 0 where
  pub solved : IsSolved r
  pub extends : Solves (value_at r) u
  pub equal : instances (value_at r) ts ≡ instances (value_at r) vs

mgu_joins : (u r : Subst) (t v : Tree) (o : Option Subst) → IsSolved u → mgu u t v ≡ o → joined_by o u t v ≡ joined r → Joins u r t v
mgu_joins u r t v None h is e = cc
mgu_joins u r t v (Some w) h is e =
    let law = unifier_law.equal u t v h w is in
    let same : w ≡ r = cc in
    subst (λ (z : Subst). Joins u z t v) same (record { solved = law.0; extends = law.1; equal = law.2 })

-- so they are under what goes on from there
under_later : (a r : Subst) (t v : Tree) → Solves (value_at r) a → instance (value_at a) t ≡ instance (value_at a) v → instance (value_at r) t ≡ instance (value_at r) v
under_later a r t v h e = sym (instance-solves (value_at r) a h t) ∙ ap (instance (value_at r)) e ∙ instance-solves (value_at r) a h v

all_under_later : (a r : Subst) (ts vs : Trees) → Solves (value_at r) a → instances (value_at a) ts ≡ instances (value_at a) vs → instances (value_at r) ts ≡ instances (value_at r) vs
all_under_later a r ts vs h e = again ts ∙ ap (instances (value_at r)) e ∙ sym (again vs)
  where
    again : (us : Trees) → instances (value_at r) us ≡ instances (value_at r) (instances (value_at a) us)
    again us = sym (instances-instances (value_at r) (value_at a) us ∙ (λ k. instances (λ x. h x k) us))

mutual
  pub terms_joined : (u r : Subst) (t v : Tree) → IsSolved u → join_terms u t v ≡ joined r → Joins u r t v
  terms_joined u r (var x) v h e = mgu_joins u r (var x) v (mgu u (var x) v) h refl e
  terms_joined u r (int z) v h e = mgu_joins u r (int z) v (mgu u (int z) v) h refl e
  terms_joined u r (node g ts) (var y) h e = mgu_joins u r (node g ts) (var y) (mgu u (node g ts) (var y)) h refl e
  terms_joined u r (node g ts) (int w) h e = cc
  terms_joined u r (node g ts) (node f vs) h e = by (g == f) refl (arguments_joined u r 1 ts vs h) e
    where
      by : (b : Bool) → (g == f) ≡ b → (join_arguments u 1 ts vs ≡ joined r → JoinsAll u r ts vs)
          → cond b (join_arguments u 1 ts vs) (parted [] (apply u (node g ts)) (apply u (node f vs))) ≡ joined r → Joins u r (node g ts) (node f vs)
      by true is go e = let w = go e in record { solved = w.solved; extends = w.extends; equal = λ k. node ((Decides-eqb g f).0 is k) (w.equal k) }
      by false is go e = cc

  pub arguments_joined : (u r : Subst) (k : ℕ) (ts vs : Trees) → IsSolved u → join_arguments u k ts vs ≡ joined r → JoinsAll u r ts vs
  arguments_joined u r k none none h e = let same : u ≡ r = cc in subst (λ (z : Subst). JoinsAll u z none none) same (record { solved = h; extends = solved_twice u h; equal = refl })
  arguments_joined u r k none (more v vs) h e = cc
  arguments_joined u r k (more t ts) none h e = cc
  arguments_joined u r k (more t ts) (more v vs) h e = by (join_terms u t v) refl (λ a is. terms_joined u a t v h is) (λ a w is. arguments_joined a r (k + 1) ts vs w is) e
    where
      by : (j : Joining) → join_terms u t v ≡ j → ((a : Subst) → join_terms u t v ≡ joined a → Joins u a t v) → ((a : Subst) → IsSolved a → join_arguments a (k + 1) ts vs ≡ joined r → JoinsAll a r ts vs)
          → elim j [ joined a ↦ join_arguments a (k + 1) ts vs | parted way s w ↦ parted (k ∷ way) s w ] ≡ joined r → JoinsAll u r (more t ts) (more v vs)
      by (joined a) is first rest e =
          let here = first a is in
          let others = rest a here.solved e in
          record {
            solved = others.solved;
            extends = solves_on (value_at r) u a here.extends others.extends;
            equal = λ i. more (under_later a r t v others.extends here.equal i) (others.equal i);
          }
      by (parted way s w) is first rest e = cc

-- heads and rows that are joined
pub record JoinsRows (u r : Subst) (n : ℕ) (hs : List Head) (rs : List Row) : Type 0 where
  pub extends : Solves (value_at r) u
  pub equal : AreEqual (value_at r) n hs rs

pub rows_joined : (u r : Subst) (n k : ℕ) (hs : List Head) (rs : List Row) → IsSolved u → join_rows u n k hs rs ≡ joined r → JoinsRows u r n hs rs
rows_joined u r n k [] rs h e = let same : u ≡ r = cc in subst (λ (z : Subst). JoinsRows u z n [] rs) same (record { extends = solved_twice u h; equal = tt })
rows_joined u r n k (x ∷ hs) [] h e = let same : u ≡ r = cc in subst (λ (z : Subst). JoinsRows u z n (x ∷ hs) []) same (record { extends = solved_twice u h; equal = tt })
rows_joined u r n k (x ∷ hs) (c ∷ rs) h e =
    by (join_arguments u 1 (renamed n x.atom.args) c.1.args) refl (λ a is. arguments_joined u a 1 (renamed n x.atom.args) c.1.args h is) (λ a w is. rows_joined a r n (k + 1) hs rs w is) e
  where
    by : (j : Joining) → join_arguments u 1 (renamed n x.atom.args) c.1.args ≡ j → ((a : Subst) → join_arguments u 1 (renamed n x.atom.args) c.1.args ≡ joined a → JoinsAll u a (renamed n x.atom.args) c.1.args)
        → ((a : Subst) → IsSolved a → join_rows a n (k + 1) hs rs ≡ joined r → JoinsRows a r n hs rs)
        → elim j [ joined a ↦ join_rows a n (k + 1) hs rs | parted way s w ↦ parted (k ∷ way) s w ] ≡ joined r → JoinsRows u r n (x ∷ hs) (c ∷ rs)
    by (joined a) is first rest e =
        let here = first a is in
        let others = rest a here.solved e in
        record {
          extends = solves_on (value_at r) u a here.extends others.extends;
          equal = (all_under_later a r (renamed n x.atom.args) c.1.args others.extends here.equal, others.equal);
        }
    by (parted way s w) is first rest e = cc
