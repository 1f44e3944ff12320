-- From what the automaton comes to, to what a caller learns.
use Rattle.std.proofs.Common.{◌≡◌, ℕ, ◌<◌, ◌≤◌, List, [], ◌∷◌, None, Bool, true, false, length, refl, sym, subst, ap, ◌∙◌, arith, if◌then◌else◌}
use Rattle.std.specs.Str.{IsUtf8, chars}
use Rattle.chr_semantics.specs.Tokens as token
use Rattle.chr_semantics.specs.Tokens.{Place, Placed, at, Token, tokens}
use Rattle.chr_semantics.specs.Syntax.{Program, Query}
use Rattle.chr_semantics.specs.declared.limits.TheConstants.{MAX_TEXT_BYTES}
use Rattle.chr_semantics.specs.Grammar.{IsProgram, IsQuery, is_number}
use Rattle.chr_semantics.specs.Reading.{ReadErrorKind, IsRead, IsRefused, IsTooDeep, IsUnexpected, Within, bad_char, expected, kind_of, not_utf8, number_too_large, open_comment, too_deep, too_long}
use Rattle.chr_tokens.specs.TokenView.{IsEnded, IsLast, placed_views}
use Rattle.chr_tokens.specs.declared.token.Placed as code
use Rattle.chr_read.specs.Automaton as m
use Rattle.chr_read.specs.Automaton.{Language, SyntaxTree, Verdict, accept, programs, queries, verdict_of, run, any_room, first_state, Spells}
use Rattle.chr_read.specs.Reads.{HaltIs}
use Rattle.chr_read.specs.Refusals.{IsErrorAt, IsErrorAtFirst, IsErrorOfHalt, IsRefusal, IsRefusedAs, PointsToToken, kind_view, place_of}
use Rattle.chr_read.specs.declared.error.ReadError.{ReadError}
use Rattle.chr_read.specs.declared.error.ReadErrorKind as written
use Rattle.chr_read.specs.declared.error.ReadErrorKind.TheVariants as Written
use Rattle.chr_read.specs.declared.halt.Halt.{Halt}
use Rattle.chr_read.specs.declared.halt.Halt.TheVariants.{Memory, Expected, TooDeep}
use Rattle.chr_read.proofs.Complete.{program_runs, query_runs}
use Rattle.chr_read.proofs.Sound.{accepted_spells}
use Rattle.chr_read.proofs.Limits as limits

pub programs_run : (ts : List Placed) (ps : Program) → IsProgram ts ps → run any_room (first_state programs) ts ≡ accept (m.program ps)
programs_run ts ps h = program_runs h

program_of : (ts : List Placed) (x : SyntaxTree) → Spells programs ts x → (ps : Program) × (x ≡ m.program ps) × IsProgram ts ps
program_of ts (m.program ps) h = (ps, refl, h)
program_of ts (m.query q) h = absurd h

pub programs_spell : (ts : List Placed) (x : SyntaxTree) → run any_room (first_state programs) ts ≡ accept x → (ps : Program) × (x ≡ m.program ps) × IsProgram ts ps
programs_spell ts x e = program_of ts x (accepted_spells programs ts x e)

pub program_same : (p q : Program) → m.program p ≡ m.program q → p ≡ q
program_same p q e = cc

pub queries_run : (ts : List Placed) (q : Query) → IsQuery ts q → run any_room (first_state queries) ts ≡ accept (m.query q)
queries_run ts q h = query_runs h

query_of : (ts : List Placed) (x : SyntaxTree) → Spells queries ts x → (q : Query) × (x ≡ m.query q) × IsQuery ts q
query_of ts (m.program ps) h = absurd h
query_of ts (m.query q) h = (q, refl, h)

pub queries_spell : (ts : List Placed) (x : SyntaxTree) → run any_room (first_state queries) ts ≡ accept x → (q : Query) × (x ≡ m.query q) × IsQuery ts q
queries_spell ts x e = query_of ts x (accepted_spells queries ts x e)

pub query_same : (p q : Query) → m.query p ≡ m.query q → p ≡ q
query_same p q e = cc

-- what a token at fault has to do with: never with the bytes, nor with brackets
number_kind : (b : Bool) (k : ReadErrorKind) → if b then expected else number_too_large ≡ k → (k ≡ expected → ⊥) → (k ≡ number_too_large → ⊥) → ⊥
number_kind true k e h i = h (sym e)
number_kind false k e h i = i (sym e)

of_token : (t : Token) (k : ReadErrorKind) → kind_of t ≡ k → (k ≡ bad_char → ⊥) → (k ≡ open_comment → ⊥) → (k ≡ number_too_large → ⊥) → (k ≡ expected → ⊥) → ⊥
of_token (token.fault token.bad_character) k e a b c d = a (sym e)
of_token (token.fault token.unclosed_comment) k e a b c d = b (sym e)
of_token (token.fault token.too_large) k e a b c d = c (sym e)
of_token (token.numeral g n) k e a b c d = number_kind (is_number n) k e d c
of_token (token.variable w) k e a b c d = d (sym e)
of_token (token.name w) k e a b c d = d (sym e)
of_token (token.additive o) k e a b c d = d (sym e)
of_token (token.multiplicative o) k e a b c d = d (sym e)
of_token (token.relation r) k e a b c d = d (sym e)
of_token (token.sign s) k e a b c d = d (sym e)
of_token token.over k e a b c d = d (sym e)

no_kind : (k : written.ReadErrorKind) → kind_view k ≡ None → k ≡ Written.Memory
no_kind Written.Memory e = refl
no_kind _ e = cc

pub accept_same : (x y : SyntaxTree) → accept x ≡ accept y → x ≡ y
accept_same x y e = cc

module _ {S : Type 0} (Spelled : List Placed → S → Type 0) (l : Language) (tree : S → SyntaxTree)
    (runs : (ts : List Placed) (s : S) → Spelled ts s → run any_room (first_state l) ts ≡ accept (tree s))
    (spells : (ts : List Placed) (x : SyntaxTree) → run any_room (first_state l) ts ≡ accept x → (s : S) × (x ≡ tree s) × Spelled ts s)
    (same : (r s : S) → tree r ≡ tree s → r ≡ s)
    (bytes : List ℕ) (utf8 : IsUtf8 bytes) (short : length bytes ≤ MAX_TEXT_BYTES) (ts : List Placed) (are : ts ≡ tokens (chars bytes)) where
  pub read_so : (s : S) → verdict_of l ts ≡ accept (tree s) → IsRead Spelled bytes s
  read_so s e =
      let a = limits.accepted Spelled l tree runs spells ts (tree s) e in
      let spelled : Spelled ts s = subst (Spelled ts) (sym (same s a.0.0 a.0.1)) a.0.2 in
      record { is_utf8 = utf8; is_short = short; spells = subst (λ x. Spelled x s) are spelled; within = subst (Within 0) are a.1 }

  accepted : (s : S) → IsRead Spelled bytes s → verdict_of l ts ≡ accept (tree s)
  accepted s h = limits.accepts Spelled l tree runs spells ts s (subst (λ x. Spelled x s) (sym are) h.spells) (subst (Within 0) (sym are) h.within)

  pub only_so : (r : S) → verdict_of l ts ≡ accept (tree r) → (s : S) → IsRead Spelled bytes s → r ≡ s
  only_so r e s h = same r s (accept_same (tree r) (tree s) (sym e ∙ accepted s h))

  not_expected : (x : SyntaxTree) (rest : List Placed) (v : Verdict) → v ≡ accept x → v ≡ m.expected rest → ⊥
  not_expected x rest v e f = let g : accept x ≡ m.expected rest = sym e ∙ f in cc

  not_deep : (x : SyntaxTree) (rest : List Placed) (v : Verdict) → v ≡ accept x → v ≡ m.too_deep rest → ⊥
  not_deep x rest v e f = let g : accept x ≡ m.too_deep rest = sym e ∙ f in cc

  -- nothing that is spelled is refused
  pub only_memory : (h : Halt) (e : ReadError) → HaltIs h (verdict_of l ts) → IsErrorOfHalt h e → (s : S) → IsRead Spelled bytes s → e.kind ≡ Written.Memory
  only_memory Memory e i k s r = no_kind e.kind k.0
  only_memory (Expected rest) e i k s r = absurd (not_expected (tree s) (placed_views rest.now) (verdict_of l ts) (accepted s r) i)
  only_memory (TooDeep rest) e i k s r = absurd (not_deep (tree s) (placed_views rest.now) (verdict_of l ts) (accepted s r) i)

  -- a halt has a token that it points to
  expected_points : IsEnded ts → (xs : List code.Placed) → verdict_of l ts ≡ m.expected (placed_views xs) → 0 < length xs
  expected_points d [] e = absurd (limits.never_over (first_state l) d.before d.place d.last (last_token d.last d.is_last) (ap (verdict_of l) (sym d.are) ∙ e))
    where
      last_token : (t : Token) → IsLast t → limits.IsLast t
      last_token token.over h = tt
      last_token (token.fault f) h = tt
      last_token _ h = absurd h
  expected_points d (x ∷ xs) e = omega arith

  deep_points : (xs : List code.Placed) → verdict_of l ts ≡ m.too_deep (placed_views xs) → 0 < length xs
  deep_points [] e = absurd (limits.never_deep Spelled l tree runs spells ts e)
  deep_points (x ∷ xs) e = omega arith

  pub points : IsEnded ts → (h : Halt) → HaltIs h (verdict_of l ts) → PointsToToken h
  points d Memory i = tt
  points d (Expected rest) i = expected_points d rest.now i
  points d (TooDeep rest) i = deep_points rest.now i

  -- the text is refused so
  refused_at : (k : ReadErrorKind) (t : Token) (p : Place) → k ≡ kind_of t → IsUnexpected Spelled (tokens (chars bytes)) p t → IsRefused Spelled bytes k p
  refused_at not_utf8 t p e u = absurd (of_token t not_utf8 (sym e) (λ f. cc) (λ f. cc) (λ f. cc) (λ f. cc))
  refused_at too_long t p e u = absurd (of_token t too_long (sym e) (λ f. cc) (λ f. cc) (λ f. cc) (λ f. cc))
  refused_at too_deep t p e u = absurd (of_token t too_deep (sym e) (λ f. cc) (λ f. cc) (λ f. cc) (λ f. cc))
  refused_at bad_char t p e u = (utf8, short, (t, e, u))
  refused_at open_comment t p e u = (utf8, short, (t, e, u))
  refused_at number_too_large t p e u = (utf8, short, (t, e, u))
  refused_at expected t p e u = (utf8, short, (t, e, u))

  refused_as : (e : ReadError) (k : ReadErrorKind) (p : Place) → IsErrorAt k p e → IsRefused Spelled bytes k p → IsRefusal Spelled bytes e
  refused_as e k p f r = subst (IsRefusedAs Spelled bytes (place_of e)) (sym f.0) (subst (IsRefused Spelled bytes k) (sym f.1) r)

  expected_refusal : (e : ReadError) (xs : List Placed) → verdict_of l ts ≡ m.expected xs → IsErrorAtFirst kind_of xs e → IsRefusal Spelled bytes e
  expected_refusal e [] i k = absurd k
  expected_refusal e (at p t ∷ xs) i k = refused_as e (kind_of t) p k (refused_at (kind_of t) t p refl (subst (λ x. IsUnexpected Spelled x p t) are (limits.unexpected Spelled l tree runs spells ts p t xs i)))

  deep_refusal : (e : ReadError) (xs : List Placed) → verdict_of l ts ≡ m.too_deep xs → IsErrorAtFirst (λ t. too_deep) xs e → IsRefusal Spelled bytes e
  deep_refusal e [] i k = absurd k
  deep_refusal e (at p t ∷ xs) i k = refused_as e too_deep p k (utf8, short, subst (λ x. IsTooDeep Spelled x p) are (limits.deep_at Spelled l tree runs spells ts p t xs i))

  pub refused : (h : Halt) (e : ReadError) → HaltIs h (verdict_of l ts) → IsErrorOfHalt h e → IsRefusal Spelled bytes e
  refused Memory e i k = subst (IsRefusedAs Spelled bytes (place_of e)) (sym k.0) k.1
  refused (Expected rest) e i k = expected_refusal e (placed_views rest.now) i k
  refused (TooDeep rest) e i k = deep_refusal e (placed_views rest.now) i k
