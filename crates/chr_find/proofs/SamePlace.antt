-- Places that are the same.
use Rattle.std.proofs.Common.{◌≡◌, refl}
use Rattle.std.proofs.lemmas.Cmp.{int_eq_equiv}
use Rattle.chr_semantics.proofs.Tests.{eqb_sym}
use Rattle.chr_semantics.specs.Keys.{same_root}
use Rattle.chr_find.specs.contracts.root.RootPartialEq.TheImpl.{ghosts}
use Rattle.chr_find.specs.declared.root.Root.{Root}
use Rattle.chr_find.specs.declared.root.Root.TheVariants.{Int, Name, Unbound}
use Rattle.chr_find.specs.RootView.{root_view}

pub root_test : (k l : Root) → ghosts.eq k l ≡ same_root (root_view l) (root_view k)
root_test (Int z) (Int w) = int_eq_equiv.symm z w
root_test (Int z) (Name g) = refl
root_test (Int z) (Unbound y) = refl
root_test (Name f) (Int w) = refl
root_test (Name f) (Name g) = eqb_sym f.0 g.0
root_test (Name f) (Unbound y) = refl
root_test (Unbound x) (Int w) = refl
root_test (Unbound x) (Name g) = refl
root_test (Unbound x) (Unbound y) = eqb_sym x y
