-- A new binding keeps the links sound.
use Rattle.std.proofs.Common.{◌≡◌, ◌≢◌, ℕ, zero, suc, ◌+◌, ◌<◌, false, cond, ◌==◌, Option, Some, None, List, [], ◌∷◌, ◌++◌, length, set, ap, refl, ◌∙◌, sym, subst, slice_get, ◌⊎◌, inl, inr, arith}
use Rattle.std.proofs.lemmas.Bool.Decides.{Decides-eqb, eqb_tells}
use Rattle.std.proofs.lemmas.List.{length-append}
use Rattle.std.proofs.lemmas.Option.{slice_get_within}
use Rattle.chr_semantics.specs.Tree.{Tree, var}
use Rattle.chr_semantics.specs.Subst.{Subst, value_at, apply, occurs, with_binding, IsSolved}
use Rattle.chr_semantics.proofs.Instances.{instance-solves}
use Rattle.chr_semantics.proofs.SolvedLaw.{solved_twice}
use Rattle.chr_semantics.proofs.UnifierEqual.{IsFree, apply-bound, apply_absent, bound_is, bound_solved, here, one}
use Rattle.std.specs.Borrow.{Bor}
use Rattle.chr_term.specs.declared.term.Term.{Term}
use Rattle.chr_semantics.specs.Bounds.{IsBelow}
use Rattle.chr_bind.specs.Terms.{IsNoVar}
use Rattle.chr_bind.specs.Chains.{Pairs, ArePairsBelow, IsAttached, IsJoined, IsJoinedAt, IsLast, IsLater, IsLinked, IsSound, StandsFor, free_count, free_one, lent_pair, name_of, owned_pair, pairs_in, solution, extension_by}
use Rattle.chr_bind.specs.declared.chains.Link.{Link}
use Rattle.chr_bind.specs.declared.chains.Link.TheVariants.{Free, Follows, Bound}
use Rattle.std.proofs.lemmas.List.{length-set}
use Rattle.chr_bind.proofs.Changed.{free_count-set, slice_get-before, slice_get-last, slice_get-set_other, slice_get-set_same}
use Rattle.chr_bind.proofs.Links.{has_pair, linked_at}
use Rattle.std.proofs.lemmas.Bool.{ne_eqb}

extension_by-last : (s : Subst) (es : Pairs) (e : ℕ × Tree) → extension_by s (es ++ e ∷ []) ≡ with_binding e.0 (apply (extension_by s es) e.1) (extension_by s es)
extension_by-last s [] e = refl
extension_by-last s (f ∷ es) e = extension_by-last (with_binding f.0 (apply s f.1) s) es e

-- what is added last is bound last
pub solution-last : (es : Pairs) (e : ℕ × Tree) → solution (es ++ e ∷ []) ≡ with_binding e.0 (apply (solution es) e.1) (solution es)
solution-last es e = extension_by-last [] es e

pub free_link : (o : Option Link) (n : ℕ) → name_of o ≡ Some n → (z : ℕ) × (o ≡ Some (Free n z))
free_link None n h = cc
free_link (Some (Free m z)) n h = let same : m ≡ n = cc in (z, ap (λ k. Some (Free k z)) same)
free_link (Some (Follows p i)) n h = cc
free_link (Some (Bound i)) n h = cc

pairs_below_last : (n : ℕ) (es : Pairs) (e : ℕ × Tree) → ArePairsBelow n es → e.0 < n → IsBelow n e.1 → ArePairsBelow n (es ++ e ∷ [])
pairs_below_last n [] e h k l = (k, l, tt)
pairs_below_last n (f ∷ es) e h k l = (h.0, h.1, pairs_below_last n es e h.2 k l)

pub length-last : {A : Type 0} (xs : List A) (a : A) → length (xs ++ a ∷ []) ≡ length xs + 1
length-last xs a = length-append xs (a ∷ [])

no_link_known : {A : Type 0} (xs : List A) (y n : ℕ) → slice_get xs y ≡ None → n < length xs → n ≢ y
no_link_known [] y n e h same = absurd (omega arith)
no_link_known (x ∷ xs) zero n e h same = cc
no_link_known (x ∷ xs) (suc y) zero e h same = absurd (omega (arith, same))
no_link_known (x ∷ xs) (suc y) (suc n) e h same = no_link_known xs y n e (omega arith) (omega (arith, same))

-- a link that is new with the binding k: one that goes on does so since k
abbrev IsNew : ℕ → Option Link → Type 0
IsNew k None = Unit {0}
IsNew k (Some (Free n z)) = Unit {0}
IsNew k (Some (Follows p j)) = j ≡ k
IsNew k (Some (Bound j)) = Unit {0}

later_new : (i k : ℕ) (o : Option Link) → i < k → IsNew k o → IsLater i o
later_new i k None h e = tt
later_new i k (Some (Free n z)) h e = tt
later_new i k (Some (Follows p j)) h e = omega (arith, e)
later_new i k (Some (Bound j)) h e = tt

later_kept : (i k : ℕ) (o w : Option Link) → i < k → (w ≡ o) ⊎ IsNew k w → IsLater i o → IsLater i w
later_kept i k o w h (inl e) l = subst (IsLater i) (sym e) l
later_kept i k o w h (inr e) l = later_new i k w h e

free_one_unnamed : (l : Link) → name_of (Some l) ≡ None → free_one l ≡ 0
free_one_unnamed (Free n z) e = cc
free_one_unnamed (Follows p i) e = refl
free_one_unnamed (Bound i) e = refl

last_later : (i : ℕ) (o : Option Link) → IsLast o → IsLater i o
last_later i None h = absurd h
last_later i (Some (Free n z)) h = tt
last_later i (Some (Follows p j)) h = absurd h
last_later i (Some (Bound j)) h = tt

name_absent : (n m : ℕ) → (n == m) ≡ false → n ≢ m
name_absent n m h = grind (arith, Decides-eqb n m)

module _ (links : List Link) (pairs : Pairs) (x n : ℕ) (t : Tree) (h : IsSound links pairs) (at : name_of (slice_get links x) ≡ Some n) (absent : occurs n (apply (solution pairs) t) ≡ false) where
  pub value_here : value_at (solution pairs) x ≡ var n
  value_here = let f = free_link (slice_get links x) n at in (linked_at links pairs x (Free n f.0) h f.1).0

  pub name_known : n < length links
  name_known = let f = free_link (slice_get links x) n at in (linked_at links pairs x (Free n f.0) h f.1).1

  pub name_free : value_at (solution pairs) n ≡ var n
  name_free = sym (ap (apply (solution pairs)) value_here) ∙ solved_twice (solution pairs) h.solved x ∙ value_here

  binds_free : IsFree (solution pairs) n (apply (solution pairs) t)
  binds_free = record { free = name_free; closed_under = instance-solves (value_at (solution pairs)) (solution pairs) (solved_twice (solution pairs) h.solved) t; absent = absent }

  value_after : (y : ℕ) → value_at (solution (pairs ++ (n, t) ∷ [])) y ≡ apply (one n (apply (solution pairs) t)) (value_at (solution pairs) y)
  value_after y = ap (λ s. value_at s y) (solution-last pairs (n, t)) ∙ bound_is (solution pairs) n (apply (solution pairs) t) name_free y

  apply_after : (w : Tree) → apply (solution (pairs ++ (n, t) ∷ [])) w ≡ apply (one n (apply (solution pairs) t)) (apply (solution pairs) w)
  apply_after w = ap (λ s. apply s w) (solution-last pairs (n, t)) ∙ apply-bound (solution pairs) n (apply (solution pairs) t) name_free w

  stays : apply (one n (apply (solution pairs) t)) (apply (solution pairs) t) ≡ apply (solution pairs) t
  stays = apply_absent n (apply (solution pairs) t) (apply (solution pairs) t) absent

  solved_after : IsSolved (solution (pairs ++ (n, t) ∷ []))
  solved_after = subst IsSolved (sym (solution-last pairs (n, t))) (bound_solved (solution pairs) n (apply (solution pairs) t) binds_free h.solved)

  -- the class of x stands for t then, and so does what stood for it before
  x_after : value_at (solution (pairs ++ (n, t) ∷ [])) x ≡ apply (solution pairs) t
  x_after = value_after x ∙ ap (apply (one n (apply (solution pairs) t))) value_here ∙ here n (apply (solution pairs) t) (var n)

  y_after : (y : ℕ) → value_at (solution pairs) y ≡ apply (solution pairs) t → value_at (solution (pairs ++ (n, t) ∷ [])) y ≡ apply (solution pairs) t
  y_after y e = value_after y ∙ ap (apply (one n (apply (solution pairs) t))) e ∙ stays

  other_after : (y m : ℕ) → value_at (solution pairs) y ≡ var m → n ≢ m → value_at (solution (pairs ++ (n, t) ∷ [])) y ≡ var m
  other_after y m e ne = value_after y ∙ ap (apply (one n (apply (solution pairs) t))) e ∙ ap (λ b. cond b (apply (solution pairs) t) (var m)) (ne_eqb n m ne)

  stands_after : (y : ℕ) (i : ℕ) → StandsFor (solution pairs) y (slice_get pairs i) → StandsFor (solution (pairs ++ (n, t) ∷ [])) y (slice_get (pairs ++ (n, t) ∷ []) i)
  stands_after y i k =
      let p = has_pair (solution pairs) y (slice_get pairs i) k in
      let old : StandsFor (solution pairs) y (Some p.0) = subst (StandsFor (solution pairs) y) p.1 k in
      subst (StandsFor (solution (pairs ++ (n, t) ∷ [])) y) (sym (slice_get-before pairs i (n, t) p.0 p.1)) (value_after y ∙ ap (apply (one n (apply (solution pairs) t))) old.0 ∙ sym (apply_after p.0.1), old.1)

  -- a link that stays is right then
  kept : (new : List Link) (y : ℕ) (o : Option Link) → length new ≡ length links → IsLinked links pairs (solution pairs) y o → (name_of o ≡ Some n → ⊥) → (o ≡ None → n ≢ y)
      → ((p : ℕ) → (slice_get new p ≡ slice_get links p) ⊎ IsNew (length pairs) (slice_get new p)) → IsLinked new (pairs ++ (n, t) ∷ []) (solution (pairs ++ (n, t) ∷ [])) y o
  kept new y None l k other beyond changed = other_after y y k (beyond refl)
  kept new y (Some (Free m z)) l k other beyond changed = (other_after y m k.0 (λ e. other (ap Some (sym e))), omega (arith, k.1, l))
  kept new y (Some (Follows p i)) l k other beyond changed =
      (value_after y ∙ ap (apply (one n (apply (solution pairs) t))) k.0 ∙ sym (value_after p), omega (arith, k.1, l), omega (arith, k.2, length-last pairs (n, t)), later_kept i (length pairs) (slice_get links p) (slice_get new p) k.2 (changed p) k.3)
  kept new y (Some (Bound i)) l k other beyond changed = stands_after y i k

  below_after : (new : List Link) → length new ≡ length links → IsBelow (length links) t → ArePairsBelow (length new) (pairs ++ (n, t) ∷ [])
  below_after new l b = subst (λ k. ArePairsBelow k (pairs ++ (n, t) ∷ [])) (sym l) (pairs_below_last (length links) pairs (n, t) h.below name_known b)

  -- the class of x no more ends at x
  module _ (l : Link) (unnamed : name_of (Some l) ≡ None) (is_new : IsNew (length pairs) (Some l)) where
    here_new : slice_get (set links x l) x ≡ Some l
    here_new = slice_get-set_same links x l (slice_get_within links x (Free n (free_link (slice_get links x) n at).0) (free_link (slice_get links x) n at).1)

    changed_here : (p : ℕ) → (slice_get (set links x l) p ≡ slice_get links p) ⊎ IsNew (length pairs) (slice_get (set links x l) p)
    changed_here p = elim (eqb_tells p x) [
      | inl e ↦ inr (subst (IsNew (length pairs)) (sym (ap (slice_get (set links x l)) e.1 ∙ here_new)) is_new)
      | inr e ↦ inl (slice_get-set_other links x p l e.1)
    ]

    old_name : (a m : ℕ) → name_of (slice_get (set links x l) a) ≡ Some m → name_of (slice_get links a) ≡ Some m
    old_name a m e = elim (eqb_tells a x) [
      | inl k ↦ let none : name_of (slice_get (set links x l) a) ≡ None = ap (λ b. name_of (slice_get (set links x l) b)) k.1 ∙ ap name_of here_new ∙ unnamed in cc
      | inr k ↦ ap name_of (sym (slice_get-set_other links x a l k.1)) ∙ e
    ]

    pub sound_set : IsBelow (length links) t → IsLinked (set links x l) (pairs ++ (n, t) ∷ []) (solution (pairs ++ (n, t) ∷ [])) x (Some l)
        → IsSound (set links x l) (pairs ++ (n, t) ∷ []) × (free_count (set links x l) + 1 ≡ free_count links)
    sound_set b linked =
        let new = set links x l in
        let f = free_link (slice_get links x) n at in
        let fewer : free_count new + 1 ≡ free_count links + free_one l = free_count-set links x l (Free n f.0) f.1 in
        let none = free_one_unnamed l unnamed in (
          record {
            solved = solved_after;
            below = below_after new (length-set links x l) b;
            linked = λ y. elim (eqb_tells y x) [
              | inl e ↦ subst (IsLinked new (pairs ++ (n, t) ∷ []) (solution (pairs ++ (n, t) ∷ [])) y) (sym (ap (slice_get new) e.1 ∙ here_new)) (subst (λ v. IsLinked new (pairs ++ (n, t) ∷ []) (solution (pairs ++ (n, t) ∷ [])) v (Some l)) (sym e.1) linked)
              | inr e ↦
                  subst (IsLinked new (pairs ++ (n, t) ∷ []) (solution (pairs ++ (n, t) ∷ [])) y) (sym (slice_get-set_other links x y l e.1)) (kept new y (slice_get links y) (length-set links x l) (h.linked y) (λ k. e.1 (h.once y x n k at)) (λ k. no_link_known links y n k name_known) changed_here)
            ];
            once = λ a c m ea ec. h.once a c m (old_name a m ea) (old_name c m ec);
            counted = omega (arith, fewer, none, h.counted, length-last pairs (n, t), length-set links x l);
          },
          omega (arith, fewer, none),
        )

  -- the class of x is bound to a term that is no variable
  pub sound_bound : IsBelow (length links) t → IsNoVar t → IsSound (set links x (Bound (length pairs))) (pairs ++ (n, t) ∷ []) × (free_count (set links x (Bound (length pairs))) + 1 ≡ free_count links)
  sound_bound b proper =
      sound_set (Bound (length pairs)) refl tt b (subst (StandsFor (solution (pairs ++ (n, t) ∷ [])) x) (sym (slice_get-last pairs (n, t))) (x_after ∙ sym (apply_after t ∙ stays), proper))

  -- the class of x goes on at one that is bound
  sound_follows : (y : ℕ) → y < length links → x ≢ y → IsLast (slice_get links y) → value_at (solution pairs) y ≡ apply (solution pairs) t → IsBelow (length links) t
      → IsSound (set links x (Follows y (length pairs))) (pairs ++ (n, t) ∷ []) × (free_count (set links x (Follows y (length pairs))) + 1 ≡ free_count links)
  sound_follows y within ne last e b =
      sound_set (Follows y (length pairs)) refl refl b (
        x_after ∙ sym (y_after y e),
        omega (arith, within, length-set links x (Follows y (length pairs))),
        omega (arith, length-last pairs (n, t)),
        subst (IsLater (length pairs)) (sym (slice_get-set_other links x y (Follows y (length pairs)) (λ k. ne (sym k)))) (last_later (length pairs) (slice_get links y) last),
      )

  -- Of two free classes that stand for the same after the binding, c goes on at d, which ends with the least variable m of both.
  module _ (c d m w : ℕ) (lc ld : Link) (apart : c ≢ d) (at_c : slice_get links c ≡ Some lc) (at_d : slice_get links d ≡ Some ld) (free_c : free_one lc ≡ 1) (free_d : free_one ld ≡ 1) where
    both_new : List Link
    both_new = set (set links c (Follows d (length pairs))) d (Free m w)

    length-both : length both_new ≡ length links
    unfolding both_new
    length-both = length-set (set links c (Follows d (length pairs))) d (Free m w) ∙ length-set links c (Follows d (length pairs))

    new_at_d : slice_get both_new d ≡ Some (Free m w)
    unfolding both_new
    new_at_d = slice_get-set_same (set links c (Follows d (length pairs))) d (Free m w) (omega (arith, slice_get_within links d ld at_d, length-set links c (Follows d (length pairs))))

    new_at_c : slice_get both_new c ≡ Some (Follows d (length pairs))
    unfolding both_new
    new_at_c = slice_get-set_other (set links c (Follows d (length pairs))) d c (Free m w) apart ∙ slice_get-set_same links c (Follows d (length pairs)) (slice_get_within links c lc at_c)

    new_elsewhere : (a : ℕ) → a ≢ c → a ≢ d → slice_get both_new a ≡ slice_get links a
    unfolding both_new
    new_elsewhere a nc nd = slice_get-set_other (set links c (Follows d (length pairs))) d a (Free m w) nd ∙ slice_get-set_other links c a (Follows d (length pairs)) nc

    fewer_both : free_count both_new + 1 ≡ free_count links
    unfolding both_new
    fewer_both =
        let first : free_count (set links c (Follows d (length pairs))) + free_one lc ≡ free_count links + 0 = free_count-set links c (Follows d (length pairs)) lc at_c in
        let second : free_count (set (set links c (Follows d (length pairs))) d (Free m w)) + free_one ld ≡ free_count (set links c (Follows d (length pairs))) + 1 =
        free_count-set (set links c (Follows d (length pairs))) d (Free m w) ld (slice_get-set_other links c d (Follows d (length pairs)) (λ e. apart (sym e)) ∙ at_d) in
        omega (arith, first, second, free_c, free_d)

    changed_both : (p : ℕ) → (slice_get both_new p ≡ slice_get links p) ⊎ IsNew (length pairs) (slice_get both_new p)
    changed_both p = elim (eqb_tells p c) [
      | inl e ↦ inr (subst (IsNew (length pairs)) (sym (ap (slice_get both_new) e.1 ∙ new_at_c)) refl)
      | inr nc ↦ elim (eqb_tells p d) [
        | inl e ↦ inr (subst (IsNew (length pairs)) (sym (ap (slice_get both_new) e.1 ∙ new_at_d)) tt)
        | inr nd ↦ inl (new_elsewhere p nc.1 nd.1)
      ]
    ]

    -- a name of the new links is the common one at d, or the old one elsewhere
    name_new : (a j : ℕ) → name_of (slice_get both_new a) ≡ Some j → ((a ≡ d) × (j ≡ m)) ⊎ ((a ≢ c) × (a ≢ d) × (name_of (slice_get links a) ≡ Some j))
    name_new a j e = elim (eqb_tells a c) [
      | inl k ↦ let none : name_of (slice_get both_new a) ≡ None = ap (λ b. name_of (slice_get both_new b)) k.1 ∙ ap name_of new_at_c in cc
      | inr nc ↦ elim (eqb_tells a d) [
        | inl k ↦ let here_name : name_of (slice_get both_new a) ≡ Some m = ap (λ b. name_of (slice_get both_new b)) k.1 ∙ ap name_of new_at_d in inl (k.1, cc)
        | inr nd ↦ inr (nc.1, nd.1, ap name_of (sym (new_elsewhere a nc.1 nd.1)) ∙ e)
      ]
    ]

    sound_both : IsBelow (length links) t → ((a : ℕ) → a ≢ c → a ≢ d → name_of (slice_get links a) ≡ Some n → ⊥) → ((a : ℕ) → a ≢ c → a ≢ d → name_of (slice_get links a) ≡ Some m → ⊥) → m < length links
        → value_at (solution (pairs ++ (n, t) ∷ [])) c ≡ var m → value_at (solution (pairs ++ (n, t) ∷ [])) d ≡ var m → IsSound both_new (pairs ++ (n, t) ∷ [])
    sound_both b no_n no_m known vc vd =
        record {
          solved = solved_after;
          below = below_after both_new length-both b;
          linked = λ y. elim (eqb_tells y c) [
            | inl e ↦
                subst (IsLinked both_new (pairs ++ (n, t) ∷ []) (solution (pairs ++ (n, t) ∷ [])) y) (sym (ap (slice_get both_new) e.1 ∙ new_at_c)) (
                  ap (value_at (solution (pairs ++ (n, t) ∷ []))) e.1 ∙ vc ∙ sym vd,
                  omega (arith, slice_get_within links d ld at_d, length-both),
                  omega (arith, length-last pairs (n, t)),
                  subst (IsLater (length pairs)) (sym new_at_d) tt,
                )
            | inr nc ↦ elim (eqb_tells y d) [
              | inl e ↦
                  subst (IsLinked both_new (pairs ++ (n, t) ∷ []) (solution (pairs ++ (n, t) ∷ [])) y) (sym (ap (slice_get both_new) e.1 ∙ new_at_d)) (
                    ap (value_at (solution (pairs ++ (n, t) ∷ []))) e.1 ∙ vd,
                    omega (arith, known, length-both),
                  )
              | inr nd ↦
                  subst (IsLinked both_new (pairs ++ (n, t) ∷ []) (solution (pairs ++ (n, t) ∷ [])) y) (sym (new_elsewhere y nc.1 nd.1)) (kept both_new y (slice_get links y) length-both (h.linked y) (no_n y nc.1 nd.1) (λ k. no_link_known links y n k name_known) changed_both)
            ]
          ];
          once = λ a e j ea ee. elim (name_new a j ea) [
            | inl p ↦ elim (name_new e j ee) [
              | inl q ↦ p.0 ∙ sym q.0
              | inr q ↦ absurd (no_m e q.0 q.1 (q.2 ∙ ap Some p.1))
            ]
            | inr p ↦ elim (name_new e j ee) [
              | inl q ↦ absurd (no_m a p.0 p.1 (p.2 ∙ ap Some q.1))
              | inr q ↦ h.once a e j p.2 q.2
            ]
          ];
          counted = omega (arith, fewer_both, h.counted, length-both, length-last pairs (n, t));
        }

  free_joined : (new : List Link) (y m z w : ℕ) → slice_get links y ≡ Some (Free m z) → value_at (solution pairs) y ≡ apply (solution pairs) t → IsBelow (length links) t
      → (new ≡ set (set links x (Follows y (length pairs))) y (Free m w)) ⊎ (new ≡ set (set links y (Follows x (length pairs))) x (Free m w)) → IsSound new (pairs ++ (n, t) ∷ []) × (free_count new + 1 ≡ free_count links)
  unfolding both_new
  free_joined new y m z w at_y e b way =
      let f = free_link (slice_get links x) n at in
      let linked_y = linked_at links pairs y (Free m z) h at_y in
      let stands_for : apply (solution pairs) t ≡ var m = sym e ∙ linked_y.0 in
      let other : n ≢ m = name_absent n m (ap (occurs n) (sym stands_for) ∙ absent) in
      let ne : x ≢ y = λ same. other (cc (f.1, at_y, ap (slice_get links) same)) in
      let vx = x_after ∙ stands_for in
      let vy = y_after y e ∙ stands_for in
      elim way [
        | inl is ↦
            subst (λ (ls : List Link). IsSound ls (pairs ++ (n, t) ∷ []) × (free_count ls + 1 ≡ free_count links)) (sym is) (
              sound_both x y m w (Free n f.0) (Free m z) ne f.1 at_y refl refl b (λ a nx ny k. nx (h.once a x n k at)) (λ a nx ny k. ny (h.once a y m k (ap name_of at_y))) linked_y.1 vx vy,
              fewer_both x y m w (Free n f.0) (Free m z) ne f.1 at_y refl refl,
            )
        | inr is ↦
            subst (λ (ls : List Link). IsSound ls (pairs ++ (n, t) ∷ []) × (free_count ls + 1 ≡ free_count links)) (sym is) (
              sound_both y x m w (Free m z) (Free n f.0) (λ k. ne (sym k)) at_y f.1 refl refl b (λ a ny nx k. nx (h.once a x n k at)) (λ a ny nx k. ny (h.once a y m k (ap name_of at_y))) linked_y.1 vy vx,
              fewer_both y x m w (Free m z) (Free n f.0) (λ k. ne (sym k)) at_y f.1 refl refl,
            )
      ]

  joined_at : (new : List Link) (y : ℕ) (o : Option Link) → slice_get links y ≡ o → IsLast o → y < length links → value_at (solution pairs) y ≡ apply (solution pairs) t → IsBelow (length links) t
      → IsJoinedAt links new x y (length pairs) o → IsSound new (pairs ++ (n, t) ∷ []) × (free_count new + 1 ≡ free_count links)
  joined_at new y None at_y last known e b j = absurd last
  joined_at new y (Some (Free m z)) at_y last known e b j = free_joined new y m z j.0 at_y e b j.1
  joined_at new y (Some (Follows p i)) at_y last known e b j = absurd last
  joined_at new y (Some (Bound i)) at_y last known e b j =
      let f = free_link (slice_get links x) n at in
      let ne : x ≢ y = λ same. let clash : Some (Free n f.0) ≡ Some (Bound i) = sym f.1 ∙ ap (slice_get links) same ∙ at_y in cc in
      subst (λ (ls : List Link). IsSound ls (pairs ++ (n, t) ∷ []) × (free_count ls + 1 ≡ free_count links)) (sym j) (sound_follows y known ne (subst IsLast (sym at_y) last) e b)

  -- the class of x is joined with another
  pub sound_joined : (new : List Link) (y : ℕ) → IsLast (slice_get links y) → y < length links → value_at (solution pairs) y ≡ apply (solution pairs) t → IsBelow (length links) t
      → IsJoined links new x y (length pairs) → IsSound new (pairs ++ (n, t) ∷ []) × (free_count new + 1 ≡ free_count links)
  sound_joined new y last known e b j = joined_at new y (slice_get links y) refl last known e b j

joined_length : (links new : List Link) (x y i : ℕ) (o : Option Link) → IsJoinedAt links new x y i o → length new ≡ length links
joined_length links new x y i None j = absurd j
joined_length links new x y i (Some (Free m z)) (w, inl e) = ap length e ∙ length-set (set links x (Follows y i)) y (Free m w) ∙ length-set links x (Follows y i)
joined_length links new x y i (Some (Free m z)) (w, inr e) = ap length e ∙ length-set (set links y (Follows x i)) x (Free m w) ∙ length-set links y (Follows x i)
joined_length links new x y i (Some (Follows p k)) e = ap length e ∙ length-set links x (Follows y i)
joined_length links new x y i (Some (Bound k)) e = ap length e ∙ length-set links x (Follows y i)

-- a class that was joined with another by a new binding
pub attached_joined : (links new : List Link) (pairs : Pairs) (x n y i : ℕ) (t : Tree) → IsSound links pairs → name_of (slice_get links x) ≡ Some n → occurs n (apply (solution pairs) t) ≡ false → IsBelow (length links) t → i ≡ length pairs
    → IsLast (slice_get links y) → y < length links → value_at (solution pairs) y ≡ apply (solution pairs) t → IsJoined links new x y i → IsAttached links new pairs (n, t)
attached_joined links new pairs x n y i t h at absent b number last known e j =
    let r = sound_joined links pairs x n t h at absent new y last known e b (subst (IsJoined links new x y) number j) in
    record { sound = r.0; fewer = r.1; len = joined_length links new x y i (slice_get links y) j }

-- a class that was bound to a term
pub attached_bound : (links new : List Link) (pairs : Pairs) (x n i : ℕ) (t : Tree) → IsSound links pairs → name_of (slice_get links x) ≡ Some n → occurs n (apply (solution pairs) t) ≡ false → IsBelow (length links) t → i ≡ length pairs → IsNoVar t
    → new ≡ set links x (Bound i) → IsAttached links new pairs (n, t)
attached_bound links new pairs x n i t h at absent b number proper is =
    let same : set links x (Bound (length pairs)) ≡ new = ap (λ k. set links x (Bound k)) (sym number) ∙ sym is in
    let r = sound_bound links pairs x n t h at absent b proper in
    record {
      sound = subst (λ (ls : List Link). IsSound ls (pairs ++ (n, t) ∷ [])) same r.0;
      fewer = subst (λ (ls : List Link). free_count ls + 1 ≡ free_count links) same r.1;
      len = ap length (sym same) ∙ length-set links x (Bound (length pairs));
    }

pub length-pairs : {A : Type 0} (made : List (ℕ × Term A)) (added : List (ℕ × Bor (Term A))) → length made + length added ≡ length (pairs_in made added)
length-pairs [] [] = refl
length-pairs [] (e ∷ added) = omega (arith, length-pairs [] added)
length-pairs (e ∷ made) added = omega (arith, length-pairs made added)

pub pairs_in-last : {A : Type 0} (made : List (ℕ × Term A)) (added : List (ℕ × Bor (Term A))) (e : ℕ × Bor (Term A)) → pairs_in made (added ++ e ∷ []) ≡ pairs_in made added ++ lent_pair e ∷ []
pairs_in-last [] [] e = refl
pairs_in-last [] (f ∷ added) e = ap (λ es. lent_pair f ∷ es) (pairs_in-last [] added e)
pairs_in-last (f ∷ made) added e = ap (λ es. owned_pair f ∷ es) (pairs_in-last made added e)
