-- Which texts are accepted, and what they stand for.
use Rattle.std.specs.Prelude.{◌≡◌, ℕ, List, Ok}
use Rattle.chr_semantics.specs.Names.{Names}
use Rattle.chr_semantics.specs.Program as semantics
use Rattle.chr_semantics.specs.Syntax as syntax
use Rattle.chr_semantics.specs.Grammar.{IsProgram, IsQuery}
use Rattle.chr_semantics.specs.Reading.{IsRead}
use Rattle.chr_semantics.specs.Checked.{Checked, checked, checked_query}

-- the text spells a program with no mistake, which is this one
pub record IsAcceptedProgram (text : List ℕ) (c : Checked) : Type 0 where
  pub spelled : syntax.Program
  pub read : IsRead IsProgram text spelled
  pub is_checked : checked spelled ≡ Ok c

-- the text spells a query over this program with no mistake, which is this one; the names are those of both
pub record IsAcceptedQuery (c : Checked) (text : List ℕ) (names : Names) (q : semantics.Query) : Type 0 where
  pub spelled : syntax.Query
  pub read : IsRead IsQuery text spelled
  pub is_checked : checked_query c spelled ≡ Ok (names, q)

-- one text is accepted as a program, and the other as a query over it
pub record IsAccepted (program query : List ℕ) (names : Names) (rules : semantics.Program) (q : semantics.Query) : Type 0 where
  pub of : Checked
  pub is_program : IsAcceptedProgram program of
  pub is_query : IsAcceptedQuery of query names q
  pub rules_are : of.rules ≡ rules

-- A text has at most one reading; so two texts are accepted as at most one program and query, with their names.
pub record OneReadingLaw : Type 0 where
  pub programs : (text : List ℕ) (p q : syntax.Program) → IsRead IsProgram text p → IsRead IsProgram text q → p ≡ q
  pub queries : (text : List ℕ) (p q : syntax.Query) → IsRead IsQuery text p → IsRead IsQuery text q → p ≡ q
  pub accepted :
      (program query : List ℕ) (m n : Names) (p r : semantics.Program) (q t : semantics.Query)
      → IsAccepted program query m p q → IsAccepted program query n r t → (m ≡ n) × (p ≡ r) × (q ≡ t)
