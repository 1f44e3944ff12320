-- What is noted of the lists: what is alike stays so.
use Rattle.std.proofs.Common.{◌≡◌, ◌∙◌, ℕ, Bool, true, false, cond, ◌&&◌, ◌==◌, ap}
use Rattle.std.specs.Prelude.{Option, Some, None, option_map}
use Rattle.std.specs.Ordering.{is_eq}
use Rattle.chr_semantics.specs.Keys as semantics
use Rattle.chr_semantics.specs.Program.{Atom}
use Rattle.chr_keys.specs.Keyed.{listed_after}
use Rattle.chr_keys.specs.KeyChangeView.{changed_after, key_after}
use Rattle.chr_keys.specs.SymbolKeys.{atom_key, symbol_key_cmp, symbol_key_of}
use Rattle.chr_keys.specs.declared.key_change.KeyChange.{KeyChange}
use Rattle.chr_keys.specs.declared.symbol_key.SymbolKey.{SymbolKey}
use Rattle.chr_keys.proofs.KeyedLists.{key_test}

key_alike : (p : Option SymbolKey) (i : ℕ) (b : Bool) (l m : SymbolKey × ℕ → Bool) (x : SymbolKey × ℕ) → l x ≡ m x → key_after p i b l x ≡ key_after p i b m x
key_alike None i b l m x e = e
key_alike (Some p) i b l m x e = ap (λ (t : Bool). cond (x.1 == i && is_eq (symbol_key_cmp x.0 p)) b t) e

pub change_alike : (n : KeyChange) (l m : SymbolKey × ℕ → Bool) (x : SymbolKey × ℕ) → l x ≡ m x → changed_after n l x ≡ changed_after n m x
change_alike n l m x e = key_alike n.into n.id.0 true (key_after n.out n.id.0 false l) (key_after n.out n.id.0 false m) x (key_alike n.out n.id.0 false l m x e)

-- a change under the key of an atom, as it is listed
atom_listed : (a : Option Atom) (i : ℕ) (b : Bool) (l : SymbolKey × ℕ → Bool) (listed : ℕ → Option semantics.Key → ℕ → Bool) (f : ℕ) (k : Option semantics.Key) (j : ℕ) → l (symbol_key_of f k, j) ≡ listed f k j
    → key_after (option_map atom_key a) i b l (symbol_key_of f k, j) ≡ listed_after a i b listed f k j
atom_listed None i b l listed f k j e = e
atom_listed (Some a) i b l listed f k j e = (λ h. cond (j == i && key_test a f k h) b (e h))

-- what is noted of rows with these atoms, as it is listed
pub change_listed : (n : KeyChange) (out into : Option Atom) (l : SymbolKey × ℕ → Bool) (listed : ℕ → Option semantics.Key → ℕ → Bool) (f : ℕ) (k : Option semantics.Key) (j : ℕ) → n.out ≡ option_map atom_key out → n.into ≡ option_map atom_key into → l (symbol_key_of f k, j) ≡ listed f k j
    → changed_after n l (symbol_key_of f k, j) ≡ listed_after into n.id.0 true (listed_after out n.id.0 false listed) f k j
change_listed n out into l listed f k j left entered e =
    (λ h. key_after (entered h) n.id.0 true (key_after (left h) n.id.0 false l) (symbol_key_of f k, j))
    ∙ atom_listed into n.id.0 true (key_after (option_map atom_key out) n.id.0 false l) (listed_after out n.id.0 false listed) f k j (atom_listed out n.id.0 false l listed f k j e)
