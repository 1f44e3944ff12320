-- What is out of a run.
use Rattle.std.proofs.Common.{◌≡◌, inl, inr, ◌∙◌, ◌+◌, ◌-◌, ◌≤◌, ◌++◌, [], ℕ, List, Option, ap, append-nil, arith, drop, length, length-append, subst, sym, take}
use Rattle.std.proofs.lemmas.List.{take-append-drop, take-append-le, take-take}
use Rattle.std.specs.Io.KnownBytes.{Appends}
use Rattle.chr_semantics.specs.Text.{lines_text}
use Rattle.chr_machine.specs.Model.{Model}
use Rattle.std.specs.Prelude.{OnErr, OnOk, Result, Ok, Err}
use Rattle.chr_shelf.specs.declared.run.RunName.{Ghosts}
use Rattle.chr_policy.specs.CoordinatorView.{IsAtRest, machine_by, query_by, workers_by}
use Rattle.chr_policy.specs.declared.coordinator.Coordinator.{Coordinator}
use Rattle.chr_run.specs.Output.{AppendsLess, AppendsPart, IsOut}
use Rattle.chr_run.specs.Sending.{AreOut, GoOn, rest_text, whole_text}
use Rattle.chr_run.specs.Turns.{IsOfRun, IsThrough, Turns}
use Rattle.chr_trace.proofs.Bodies.{lines_text-append}
use Rattle.chr_run.proofs.Ends.{sent_and_rest}
use Rattle.chr_run.proofs.Parts.{appends-both, less_back, part-more}

split : (lines : List (List ℕ)) (sent : ℕ) → lines_text lines ≡ lines_text (take sent lines) ++ lines_text (drop sent lines)
split lines sent = ap lines_text (sym (take-append-drop sent lines)) ∙ lines_text-append (take sent lines) (drop sent lines)

module _ (old mid new : Option (List ℕ)) (lines : List (List ℕ)) (sent : ℕ) (h : AreOut old mid lines sent) where
  -- the rest is left
  pub left_out : IsOut old mid (lines_text lines) (lines_text (drop sent lines))
  left_out = record { out = lines_text (take sent lines); whole = split lines sent; appends = h.appends }

  -- further lines go out too
  pub sent_on : (count : ℕ) → GoOn mid new lines sent count → AreOut old new lines count
  sent_on count k =
      let onward = k.onward in
      let first : take sent (take count lines) ≡ take sent lines = take-take sent count lines onward in
      let further = lines_text (drop sent (take count lines)) in
      let whole : lines_text (take sent lines) ++ further ≡ lines_text (take count lines) = ap (λ (ls : List (List ℕ)). lines_text ls ++ further) (sym first) ∙ sym (split (take count lines) sent) in
      record { few = k.few; appends = subst (Appends old new) whole (appends-both old mid new (lines_text (take sent lines)) further h.appends k.appends) }

  -- or a first part of it
  pub sent_cut : AppendsPart mid new (lines_text (drop sent lines)) → AppendsPart old new (lines_text lines)
  sent_cut p = part-more old mid new (lines_text lines) (lines_text (drop sent lines)) (lines_text (drop sent lines)) [] left_out (sym (append-nil _)) p

  -- or nothing more
  pub cut_here : AppendsPart old mid (lines_text lines)
  cut_here = record { rest = lines_text (drop sent lines); is_out = left_out }

  -- more lines are made
  pub sent_more : (others more : List (List ℕ)) → others ≡ lines ++ more → AreOut old mid others sent
  sent_more others more e =
      let few = h.few in
      let longer : sent ≤ length others = subst (λ (ls : List (List ℕ)). sent ≤ length ls) (sym e) (omega (arith, few, length-append lines more)) in
      let same : take sent lines ≡ take sent others = sym (take-append-le sent lines more few) ∙ ap (take sent) (sym e) in
      record { few = longer; appends = subst (λ (ls : List (List ℕ)). Appends old mid (lines_text ls)) same h.appends }

module _ (old mid new : Option (List ℕ)) (m : Model) (sent : ℕ) (h : AreOut old mid m.lines sent) where
  -- the end goes out after the first lines
  pub all_end : Appends mid new (rest_text m sent) → Appends old new (whole_text m)
  all_end k = subst (Appends old new) (sym (sent_and_rest m sent)) (appends-both old mid new (lines_text (take sent m.lines)) (rest_text m sent) h.appends k)

  -- or a first part of it, and not all
  pub cut_end : AppendsLess mid new (rest_text m sent) → AppendsLess old new (whole_text m)
  cut_end p = subst (AppendsLess old new) (sym (sent_and_rest m sent)) (less_back old mid new (lines_text (take sent m.lines)) (rest_text m sent) h.appends p)

-- a run is through, and its first lines are out
pub record IsDone {J A : Type 0} {G : Ghosts J} (n : ℕ) (old : Coordinator J A G) (before : Option (List ℕ)) (k : Coordinator J A G) (mid : Option (List ℕ)) (sent : ℕ) : Type 0 where
  pub same : IsOfRun old k
  pub through : IsThrough n (machine_by k)
  pub rests : IsAtRest k
  pub out : AreOut before mid (machine_by k).lines sent

-- it is so where the run, the outlet and the count are equal
pub done_same : {J A X : Type 0} {G : Ghosts J} (known : X → Option (List ℕ)) (n : ℕ) (old : Coordinator J A G) (before : Option (List ℕ)) (k k' : Coordinator J A G) (x x' : X) (sent sent' : ℕ)
    → k ≡ k' → x ≡ x' → sent ≡ sent' → IsDone n old before k' (known x') sent' → IsDone n old before k (known x) sent
done_same {J} {A} {X} {G} known n old before k k' x x' sent sent' e f h done =
    subst (λ (j : Coordinator J A G). IsDone n old before j (known x) sent) (sym e)
    (subst (λ (y : X). IsDone n old before k' (known y) sent) (sym f)
    (subst (λ (s : ℕ). IsDone n old before k' (known x') s) (sym h) done))

-- a run is cut off where it stands, and a first part of its lines is out
pub cut_off : {J A E : Type 0} {G : Ghosts J} (n : ℕ) (old was now : Coordinator J A G) (before after : Option (List ℕ)) (e : E) → IsOfRun old was → machine_by now ≡ machine_by was → query_by now ≡ query_by was → workers_by now ≡ workers_by was
    → (machine_by was).steps ≤ n → AppendsPart before after (lines_text (machine_by was).lines) → Turns n old now before after (Err e)
cut_off n old was now before after e same stays query workers few part = record {
  same = record {
    names_are = ap (λ (m : Model). m.names) stays ∙ same.names_are;
    query_is = query ∙ same.query_is;
    workers_are = workers ∙ same.workers_are;
  };
  through = tt;
  rests = tt;
  text = tt;
  part = inl (subst (λ (m : Model). m.steps ≤ n) (sym stays) few, subst (λ (m : Model). AppendsPart before after (lines_text m.lines)) (sym stays) part);
}

-- a run that is through goes out to its end, or a first part of it
pub ends : {J A E : Type 0} {G : Ghosts J} (n : ℕ) (old k : Coordinator J A G) (before mid after : Option (List ℕ)) (sent : ℕ) (r : Result (Unit {0}) E)
    → IsOfRun old k → IsThrough n (machine_by k) → IsAtRest k → AreOut before mid (machine_by k).lines sent
    → OnOk r (Appends mid after (rest_text (machine_by k) sent)) → OnErr r (AppendsLess mid after (rest_text (machine_by k) sent)) → Turns n old k before after r
ends n old k before mid after sent (Ok u) same through rests out text part = record {
  same = same;
  through = through;
  rests = rests;
  text = all_end before mid after (machine_by k) sent out text;
  part = tt;
}
ends n old k before mid after sent (Err e) same through rests out text part = record {
  same = same;
  through = tt;
  rests = tt;
  text = tt;
  part = inr (through, cut_end before mid after (machine_by k) sent out part);
}
