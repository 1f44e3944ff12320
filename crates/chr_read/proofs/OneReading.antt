-- A text has at most one reading.
use Rattle.std.proofs.Common.{◌≡◌, ℕ, List, Result, Ok, sym, ap, ◌∙◌}
use Rattle.std.specs.Str.{chars}
use Rattle.chr_semantics.specs.Accepted.{IsAccepted, IsAcceptedProgram, OneReadingLaw}
use Rattle.chr_semantics.specs.Checked.{Checked, checked, checked_query}
use Rattle.chr_semantics.specs.Grammar.{IsProgram, IsQuery}
use Rattle.chr_semantics.specs.Names.{Names}
use Rattle.chr_semantics.specs.Program as semantics
use Rattle.chr_semantics.specs.Reading.{IsRead}
use Rattle.chr_semantics.specs.Syntax.{Program, Query}
use Rattle.chr_semantics.specs.Tokens.{tokens}
use Rattle.chr_read.specs.Automaton as m
use Rattle.chr_read.proofs.Learned.{accept_same, program_same, programs_run, queries_run, query_same}

one_program : (text : List ℕ) (p q : Program) → IsRead IsProgram text p → IsRead IsProgram text q → p ≡ q
one_program text p q h k =
    let ts = tokens (chars text) in
    program_same p q (accept_same (m.program p) (m.program q) (sym (programs_run ts p h.spells) ∙ programs_run ts q k.spells))

one_query : (text : List ℕ) (p q : Query) → IsRead IsQuery text p → IsRead IsQuery text q → p ≡ q
one_query text p q h k =
    let ts = tokens (chars text) in
    query_same p q (accept_same (m.query p) (m.query q) (sym (queries_run ts p h.spells) ∙ queries_run ts q k.spells))

same_answer : {X E : Type 0} (x y : X) → ◌≡◌ {A = Result X E} (Ok x) (Ok y) → x ≡ y
same_answer x y e = cc

-- what is accepted is computed from the reading
one_checked : (text : List ℕ) (c d : Checked) → IsAcceptedProgram text c → IsAcceptedProgram text d → c ≡ d
one_checked text c d h k =
    let same = one_program text h.spelled k.spelled h.read k.read in
    same_answer c d (sym h.is_checked ∙ ap checked same ∙ k.is_checked)

one_accepted : (program query : List ℕ) (n o : Names) (p r : semantics.Program) (q t : semantics.Query) → IsAccepted program query n p q → IsAccepted program query o r t → (n ≡ o) × (p ≡ r) × (q ≡ t)
one_accepted program query n o p r q t h k =
    let c = one_checked program h.of k.of h.is_program k.is_program in
    let same = one_query query h.is_query.spelled k.is_query.spelled h.is_query.read k.is_query.read in
    let both = same_answer (n, q) (o, t) (sym h.is_query.is_checked ∙ (λ i. checked_query (c i) (same i)) ∙ k.is_query.is_checked) in
    (ap (λ (x : Names × semantics.Query). x.0) both, sym h.rules_are ∙ ap (λ (d : Checked). d.rules) c ∙ k.rules_are, ap (λ (x : Names × semantics.Query). x.1) both)

pub one_reading_law : OneReadingLaw
one_reading_law = record { programs = one_program; queries = one_query; accepted = one_accepted }
