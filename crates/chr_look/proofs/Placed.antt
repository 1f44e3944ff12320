-- What a search of the next transition is, by the occurrence at which it is made.
use Rattle.std.proofs.Common.{◌≡◌, ◌∙◌, ◌∷◌, List, None, Option, Some, ap, cond, nat_lt, option_map, refl, sym, true, ℕ}
use Rattle.std.specs.Prelude.{slice_get}
use Rattle.chr_semantics.specs.Profile.{default, propagate, simplify}
use Rattle.chr_semantics.specs.Program.{Atom, Occurrence, Program, Rule, occurrence}
use Rattle.chr_semantics.specs.State.{Element, State, Status, active, done, failed, faulted, running}
use Rattle.chr_semantics.specs.Step.{is_running}
use Rattle.chr_semantics.proofs.OccurrenceRule.{occurrence_rule}
use Rattle.chr_rules.specs.Index.{pair_of, pair_view}
use Rattle.chr_rules.specs.declared.index.Occurrence as rust
use Rattle.chr_look.specs.NextView.{IsNext, fires_next}
use Rattle.chr_look.specs.declared.next.Next.TheVariants.{Search}
use Rattle.chr_look.proofs.Nexts.{place_runs, searches_kind}

pub runs_on : (w : Status) → is_running w ≡ true → w ≡ running
runs_on running h = refl
runs_on done h = cc
runs_on failed h = cc
runs_on (faulted f) h = cc

pub searched_next : (p : Program) (s : State) (i j : ℕ) (a : Atom) (below : List Element) (at : rust.Occurrence) (rule : Rule) → s.status ≡ running → s.stack ≡ active i j a ∷ below
    → Some (pair_view at) ≡ option_map pair_of (occurrence p a.sym j) → slice_get p at.rule ≡ Some rule → IsNext p s (Some (Search at (nat_lt at.place rule.kept)))
searched_next p s i j a below at rule runs stack found of_rule = by (occurrence p a.sym j) refl found
  where
    by : (x : Option Occurrence) → occurrence p a.sym j ≡ x → Some (pair_view at) ≡ option_map pair_of x → IsNext p s (Some (Search at (nat_lt at.place rule.kept)))
    by None is e = cc
    by (Some o) is e =
        let pairs : pair_view at ≡ pair_of o = cc in
        let number : at.rule ≡ o.number = ap (λ (x : ℕ × ℕ). x.0) pairs in
        let place : at.place ≡ o.place = ap (λ (x : ℕ × ℕ). x.1) pairs in
        let there : Some rule ≡ Some o.rule = sym of_rule ∙ ap (slice_get p) number ∙ occurrence_rule p a.sym j o is in
        let same : rule ≡ o.rule = cc in
        record {
          kind_is =
              searches_kind p s runs i j a below stack o is ∙ (λ h. Some (cond (fires_next p s) (cond (nat_lt (sym place h) (sym (ap (λ (r : Rule). r.kept) same) h)) propagate simplify) default));
          place_is = place_runs p s runs (active i j a ∷ below) stack ∙ sym found;
        }
