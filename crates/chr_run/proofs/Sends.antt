-- What goes out of a run with workers is the text of the run, or a first part of it.
use Rattle.std.proofs.Common.{◌≡◌, inl, inr, ℕ, List, None, Option, Result, Ok, Err, subst, sym}
use Rattle.std.specs.Io.KnownBytes.{Appends}
use Rattle.chr_semantics.specs.Names.{Names}
use Rattle.chr_semantics.specs.Outcome.{run_refusal}
use Rattle.chr_semantics.specs.Program.{Program, Query}
use Rattle.chr_semantics.specs.Text.{lines_text, text}
use Rattle.chr_shelf.specs.declared.run.RunName.{Ghosts}
use Rattle.chr_policy.specs.CoordinatorView.{machine_by, names_by, query_by}
use Rattle.chr_policy.specs.declared.coordinator.Coordinator.{Coordinator}
use Rattle.chr_run.specs.Output.{AppendsLess}
use Rattle.chr_run.specs.Run.{IsInto, Sends}
use Rattle.chr_run.specs.Sending.{whole_text}
use Rattle.chr_run.specs.Turns.{IsPart, IsThrough}
use Rattle.chr_run.proofs.Ends.{begins, is_whole}
use Rattle.chr_run.proofs.Headlines.{has_come}
use Rattle.chr_run.proofs.Parts.{less_front}
use Rattle.chr_run.specs.declared.error.RunError.TheVariants.{BudgetTooLarge, TooManyWorkers, Memory}
use Rattle.chr_run.specs.declared.error.TextError.{TextError}
use Rattle.chr_run.specs.declared.error.TextError.TheVariants as error
use Rattle.chr_run.specs.declared.result.Run.{Run}

module _ {J A : Type 0} {G : Ghosts J} (c : Coordinator J A G) (n : ℕ) (names : Names) (q : Query) (names_are : names_by c ≡ names) (query_is : query_by c ≡ q) (old new : Option (List ℕ)) where
  -- what holds by what the run has holds by what it began with
  begun_with : (X : List ℕ → Type 0) → X (text (names_by c) G.rules (query_by c) n) → X (text names G.rules q n)
  begun_with X x = subst (λ (r : Query). X (text names G.rules r n)) query_is (subst (λ (m : Names). X (text m G.rules (query_by c) n)) names_are x)

  -- a run that is through, whose text is out
  pub sent_whole : IsThrough n (machine_by c) → Appends old new (whole_text (machine_by c)) → Appends old new (text names G.rules q n)
  sent_whole t out =
      let whole = is_whole (names_by c) G.rules (query_by c) (machine_by c).steps n (machine_by c) (has_come c) t.within t.all in
      begun_with (Appends old new) (subst (Appends old new) (sym whole.text_is) out)

  part_here : IsPart n (machine_by c) old new → AppendsLess old new (text (names_by c) G.rules (query_by c) n)
  part_here (inl h) =
      let b = begins (names_by c) G.rules (query_by c) (machine_by c).steps n (machine_by c) (has_come c) h.0 in
      less_front old new (text (names_by c) G.rules (query_by c) n) (lines_text (machine_by c).lines) b.rest b.whole b.some h.1
  part_here (inr h) =
      let whole = is_whole (names_by c) G.rules (query_by c) (machine_by c).steps n (machine_by c) (has_come c) h.0.within h.0.all in
      subst (AppendsLess old new) (sym whole.text_is) h.1

  -- a run of whose text a first part is out, and not all
  pub sent_part : IsPart n (machine_by c) old new → AppendsLess old new (text names G.rules q n)
  sent_part h = begun_with (AppendsLess old new) (part_here h)

-- what a job of these limits sends is what the contract of a run says
pub into : (A : Type 0) (names : Names) (p : Program) (q : Query) (n workers : ℕ) (old new : Option (List ℕ)) (r : Result (Run A) TextError) → run_refusal n workers ≡ None
    → Sends names p q n workers old new r → IsInto names p q n workers old new r
into A names p q n workers old new (Ok run) allowed h = (allowed, h)
into A names p q n workers old new (Err error.Write) allowed h = (allowed, h)
into A names p q n workers old new (Err (error.Run Memory)) allowed h = (allowed, h)
into A names p q n workers old new (Err (error.Run BudgetTooLarge)) allowed h = absurd h.0
into A names p q n workers old new (Err (error.Run TooManyWorkers)) allowed h = absurd h.0
into A names p q n workers old new (Err (error.Program e)) allowed h = absurd h.0
into A names p q n workers old new (Err (error.Rules e)) allowed h = absurd h.0
into A names p q n workers old new (Err (error.Query e)) allowed h = absurd h.0
into A names p q n workers old new (Err (error.Goals e)) allowed h = absurd h.0
into A names p q n workers old new (Err (error.Schedule e)) allowed h = absurd h.0
into A names p q n workers old new (Err (error.Replay e)) allowed h = absurd h.0

-- the same where the limits are these numbers
pub into_by : (A : Type 0) (names : Names) (p : Program) (q : Query) (n workers m more : ℕ) (old new : Option (List ℕ)) (r : Result (Run A) TextError) → n ≡ m → workers ≡ more → run_refusal n workers ≡ None
    → Sends names p q n workers old new r → IsInto names p q m more old new r
into_by A names p q n workers m more old new r e f allowed h =
    subst (λ (k : ℕ). IsInto names p q k more old new r) e (subst (λ (k : ℕ). IsInto names p q n k old new r) f (into A names p q n workers old new r allowed h))
