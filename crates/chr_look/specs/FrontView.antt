-- What came of the lists that were looked at for a rule.
use Rattle.std.specs.Prelude.{◌≡◌, ℕ, List, [], get_or, length, map, nat_lt, take}
use Rattle.chr_semantics.specs.Lists.{furthest, like, of_stage}
use Rattle.chr_semantics.specs.Program.{Rule}
use Rattle.chr_semantics.specs.State.{State}
use Rattle.chr_semantics.specs.Verdict as semantics
use Rattle.chr_look.specs.VerdictView.{verdict_view}
use Rattle.chr_look.specs.declared.fronts.Front.{Front}
use Rattle.chr_look.specs.declared.fronts.Fronts.{Fronts}

-- how many fronts are looked at, at most, and how many lists are kept
abbrev pub most_fronts : ℕ
most_fronts = 1000000

abbrev pub kept_lists : ℕ
kept_lists = 5

abbrev pub front_view : {A : Type 0} → Front A → List ℕ × semantics.Verdict
front_view f = (f.ids, verdict_view f.verdict)

-- of the first of these fronts, as many as are looked at
pub record AreFronts {A : Type 0} (s : State) (r : ℕ) (rule : Rule) (all : List (List ℕ)) (f : Fronts A) : Type 0 where
  pub like_are : (k : ℕ) → get_or f.like k 0 ≡ like s r rule k (take most_fronts all)
  pub stages_are : (k : ℕ) → get_or f.stages k 0 ≡ of_stage s r rule k (take most_fronts all)
  pub furthest_are : map front_view f.furthest.items ≡ furthest s r rule kept_lists [] (take most_fronts all)
  pub looked_is : f.looked ≡ length (take most_fronts all)
  pub cut_is : f.is_cut ≡ nat_lt most_fronts (length all)
