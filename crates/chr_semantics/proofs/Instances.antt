-- Laws of replacement.
use Rattle.std.proofs.Common.{Bool, [], ap, cond, false, map, refl, sym, true, ℕ, ◌==◌, ◌∙◌, ◌∷◌, ◌≡◌}
use Rattle.std.proofs.lemmas.Bool.Decides.{Decides-eqb}
use mathlib.Core.Path.{fun_ext}
use Rattle.chr_semantics.specs.Subst.{Solves, Subst, apply, with_binding, instance, instances, value_at}
use Rattle.chr_semantics.specs.Tree.{Tree, Trees, int, more, node, none, var}

mutual
  pub instance-instance : (f g : ℕ → Tree) (t : Tree) → instance f (instance g t) ≡ instance (λ x. instance f (g x)) t
  instance-instance f g (var x) = refl
  instance-instance f g (int z) = refl
  instance-instance f g (node h ts) = ap (node h) (instances-instances f g ts)

  pub instances-instances : (f g : ℕ → Tree) (ts : Trees) → instances f (instances g ts) ≡ instances (λ x. instance f (g x)) ts
  instances-instances f g none = refl
  instances-instances f g (more t ts) = cc (instance-instance f g t, instances-instances f g ts)

-- what solves s does not see s
pub instance-solves : (f : ℕ → Tree) (s : Subst) → Solves f s → (t : Tree) → instance f (apply s t) ≡ instance f t
instance-solves f s h t = instance-instance f (value_at s) t ∙ ap (λ (g : ℕ → Tree). instance g t) (fun_ext h)

solves_at : (b : Bool) (f : ℕ → Tree) (x y : ℕ) (u : Tree) → (b ≡ true → x ≡ y) → f x ≡ instance f u → instance f (cond b u (var y)) ≡ f y
solves_at true f x y u same e = sym e ∙ ap f (same refl)
solves_at false f x y u same e = refl

-- one pair is solved by what makes its sides equal
pub Solves-one : (f : ℕ → Tree) (x : ℕ) (u : Tree) → f x ≡ instance f u → Solves f ((x, u) ∷ [])
Solves-one f x u e y = solves_at (x == y) f x y u (Decides-eqb x y).0 e

value_at-cond : (b : Bool) (x : ℕ) (u t w : Tree) → cond b (apply ((x, u) ∷ []) t) (apply ((x, u) ∷ []) w) ≡ apply ((x, u) ∷ []) (cond b t w)
value_at-cond true x u t w = refl
value_at-cond false x u t w = refl

-- another variable stands for what it stood for, with u for x
pub value_at-others : (x y : ℕ) (u : Tree) (s : Subst) → (x == y) ≡ false → value_at (map (λ (p : ℕ × Tree). (p.0, apply ((x, u) ∷ []) p.1)) s) y ≡ apply ((x, u) ∷ []) (value_at s y)
value_at-others x y u [] h = rw h
value_at-others x y u (p ∷ s) h = rw (value_at-others x y u s h) (value_at-cond (p.0 == y) x u p.1 (value_at s y))

Solves-bound_at : (b : Bool) (f : ℕ → Tree) (x y : ℕ) (u : Tree) (s : Subst) → (x == y) ≡ b → Solves f s → f x ≡ instance f u → instance f (cond b u (value_at (map (λ (p : ℕ × Tree). (p.0, apply ((x, u) ∷ []) p.1)) s) y)) ≡ f y
Solves-bound_at true f x y u s is h e = sym e ∙ ap f ((Decides-eqb x y).0 is)
Solves-bound_at false f x y u s is h e =
    ap (instance f) (value_at-others x y u s is) ∙ instance-solves f ((x, u) ∷ []) (Solves-one f x u e) (value_at s y) ∙ h y

-- binding a variable keeps what makes it equal to its term
pub Solves-bound : (f : ℕ → Tree) (x : ℕ) (u : Tree) (s : Subst) → Solves f s → f x ≡ instance f u → Solves f (with_binding x u s)
Solves-bound f x u s h e y = Solves-bound_at (x == y) f x y u s refl h e
