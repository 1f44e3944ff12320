-- The test of identity decides equality.
use Rattle.std.proofs.Common.{ap, refl, sym, true, true≢false, ℕ, ◌==◌, ◌∙◌, ◌≡◌}
use Rattle.std.proofs.lemmas.Bool.{and_from, and_parts}
use Rattle.std.proofs.lemmas.Bool.Decides.{Decides-eqb, Decides-int_eq}
use Rattle.chr_semantics.specs.Program.{Atom}
use Rattle.chr_semantics.specs.Schedule.{same_atom}
use Rattle.chr_semantics.specs.Tree.{SameLaw, Tree, Trees, int, more, node, none, same, same_all, var}

mutual
  pub same_true : (t u : Tree) → same t u ≡ true → t ≡ u
  same_true (var x) (var y) h = ap var ((Decides-eqb x y).0 h)
  same_true (var x) (int z) h = absurd (true≢false (sym h))
  same_true (var x) (node g us) h = absurd (true≢false (sym h))
  same_true (int z) (var y) h = absurd (true≢false (sym h))
  same_true (int z) (int w) h = ap int ((Decides-int_eq z w).0 h)
  same_true (int z) (node g us) h = absurd (true≢false (sym h))
  same_true (node f ts) (var y) h = absurd (true≢false (sym h))
  same_true (node f ts) (int w) h = absurd (true≢false (sym h))
  same_true (node f ts) (node g us) h = let r = and_parts (f == g) (same_all ts us) h in cc ((Decides-eqb f g).0 r.0, same_all_true ts us r.1)

  pub same_all_true : (ts us : Trees) → same_all ts us ≡ true → ts ≡ us
  same_all_true none none h = refl
  same_all_true none (more u us) h = absurd (true≢false (sym h))
  same_all_true (more t ts) none h = absurd (true≢false (sym h))
  same_all_true (more t ts) (more u us) h = let r = and_parts (same t u) (same_all ts us) h in cc (same_true t u r.0, same_all_true ts us r.1)

-- two constraints that are the same are equal
pub same_atom_true : (a b : Atom) → same_atom a b ≡ true → a ≡ b
same_atom_true a b h =
    let r = and_parts (a.sym == b.sym) (same_all a.args b.args) h in
    ap (λ (f : ℕ). record { sym = f; args = a.args }) ((Decides-eqb a.sym b.sym).0 r.0) ∙ ap (λ (ts : Trees). record { sym = b.sym; args = ts }) (same_all_true a.args b.args r.1)

mutual
  pub same_itself : (t : Tree) → same t t ≡ true
  same_itself (var x) = (Decides-eqb x x).1 refl
  same_itself (int z) = (Decides-int_eq z z).1 refl
  same_itself (node f ts) = and_from (f == f) (same_all ts ts) ((Decides-eqb f f).1 refl) (same_all_itself ts)

  pub same_all_itself : (ts : Trees) → same_all ts ts ≡ true
  same_all_itself none = refl
  same_all_itself (more t ts) = and_from (same t t) (same_all ts ts) (same_itself t) (same_all_itself ts)

pub same_law : SameLaw
same_law = record {
  terms = λ t u. (same_true t u, λ e. ap (same t) (sym e) ∙ same_itself t);
  lists = λ ts us. (same_all_true ts us, λ e. ap (same_all ts) (sym e) ∙ same_all_itself ts);
}
