-- What a join finds behind the partners so far.
use Rattle.std.specs.Prelude.{◌≡◌, ℕ, ◌+◌, Bool, not, ◌&&◌, List, ◌++◌, Option, option_map, find}
use Rattle.chr_semantics.specs.Guard.{all_entailed}
use Rattle.chr_semantics.specs.Join.{Joined}
use Rattle.chr_semantics.specs.Program.{Test}
use Rattle.chr_semantics.specs.Search.{History, fired_before, ids_of}
use Rattle.chr_semantics.specs.Tries.{capped, tried}

-- the guard is entailed, and the rule has not fired with these partners behind the prefix
abbrev pub entering : History → ℕ → List Test → List ℕ → Joined → Bool
entering h r guard prefix p = all_entailed p.1 guard && not (fired_before h r (prefix ++ ids_of p.0))

-- the identities of the first that enters
abbrev pub best : History → ℕ → List Test → List ℕ → List Joined → Option (List ℕ)
best h r guard prefix ps = option_map (λ (p : Joined). prefix ++ ids_of p.0) (find (entering h r guard prefix) ps)

-- The identities are those, and each that was looked at counts one.
pub record Finds (h : History) (r : ℕ) (guard : List Test) (prefix : List ℕ) (ps : List Joined) (result : Option (List ℕ)) (told now : ℕ) : Type 0 where
  pub found : result ≡ best h r guard prefix ps
  pub tries : now ≡ capped (told + tried (entering h r guard prefix) ps)
