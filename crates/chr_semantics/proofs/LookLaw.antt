-- Rows by key, and the identities of the first firing.
use Rattle.std.proofs.Common.{◌≡◌, ℕ, Bool, true, false, ◌&&◌, List, Option, Some, None, refl, ◌∙◌, true≢false}
use Rattle.std.specs.Prelude.{option_map}
use Rattle.chr_semantics.specs.Subst.{Subst}
use Rattle.chr_semantics.specs.Program.{Head, Rule}
use Rattle.chr_semantics.specs.Match.{Row, fit_atom}
use Rattle.chr_semantics.specs.Search.{found_with, ids_found, ids_of, first_tuple}
use Rattle.chr_semantics.proofs.FirstTuple.{first_is}
use Rattle.chr_semantics.specs.Keys.{Root, head_root, is_of, keeps_at, keeps_root, LookLaw}
use Rattle.chr_semantics.specs.Join.{Keeps}
use Rattle.chr_semantics.proofs.JoinLaw.{join_law}
use Rattle.chr_semantics.proofs.KeyLaw.{root_law}

keeps_head : (o : Option Root) (p : ℕ) (h : Head) (m : Subst) (c : Row) → head_root m h p ≡ o → keeps_at o p c ≡ false → fit_atom h.atom c.1 m ≡ None
keeps_head None p h m c is out = absurd (true≢false out)
keeps_head (Some k) p h m c is out = root_law.roots h m p k c is out

keeps : (pick : Head → Subst → ℕ) → Keeps (keeps_root pick)
keeps pick h m c out = keeps_by (is_of h.atom.sym c) refl out
  where
    keeps_by : (b : Bool) → is_of h.atom.sym c ≡ b → (b && keeps_at (head_root m h (pick h m)) (pick h m) c) ≡ false → fit_atom h.atom c.1 m ≡ None
    keeps_by true is e = keeps_head (head_root m h (pick h m)) (pick h m) h m c refl e
    keeps_by false is e = root_law.symbols h m c is

ids_found_with : (r : ℕ) (rule : Rule) (place : ℕ) (o : Option (List Row)) → ids_found (found_with r rule place o) ≡ option_map ids_of o
ids_found_with r rule place None = refl
ids_found_with r rule place (Some t) = refl

pub look_law : LookLaw
look_law = record {
  by_root = λ pick rows h r rule place own a is. join_law.kept_rows (keeps_root pick) rows h r rule place own a (keeps pick) is;
  first = λ p rows h i j b o lives is. first_is p rows h i j b o lives is ∙ ids_found_with o.number o.rule o.place (first_tuple rows h o.number o.rule o.place (i, b));
}
