-- What a run does with a rule and a list of constraints, a transition at a time.
use Rattle.std.proofs.Common.{◌≡◌, ◌∙◌, ◌+◌, ◌++◌, ◌∷◌, [], Bool, List, None, Option, Some, add-one, ap, Vec, cond, map, refl, suc, sym, true, ℕ}
use Rattle.std.specs.List.{list_all}
use Rattle.std.specs.Prelude.{option_to_list, slice_get}
use Rattle.chr_semantics.specs.Life.{could_from, look_in, looks, looks_at_top, looks_for}
use Rattle.chr_semantics.specs.Program.{Program, Query, Rule}
use Rattle.chr_semantics.specs.State.{Element, State, start}
use Rattle.chr_semantics.specs.Step.{after, is_running}
use Rattle.chr_semantics.specs.Tasks.{lives}
use Rattle.chr_semantics.specs.Verdict.{Verdict, is_could_fire, verdict}
use Rattle.chr_trace.specs.State.{elem_view, stack_onto, stack_view}
use Rattle.chr_trace.specs.declared.state.Elem.{Elem}
use Rattle.chr_machine.specs.Model.{Model, state_in}
use Rattle.chr_look.specs.Looking.{IsListLog, IsSearch, ListModel, NotesState, list_view, noted_by, search_view}
use Rattle.chr_look.specs.declared.looking.ListLog.{ListLog}
use Rattle.chr_look.specs.declared.looking.Search.{Search}
use Rattle.chr_look.proofs.Logged.{earlier, first_more}

-- the last element is on top
onto_last : {A : Type 0} (es : List (Elem A)) (e : Elem A) (below : List Element) → stack_onto (es ++ e ∷ []) below ≡ elem_view e ∷ stack_onto es below
onto_last [] e below = refl
onto_last (x ∷ es) e below = onto_last es e (elem_view x ∷ below)

pub top_last : {A : Type 0} (es : List (Elem A)) (e : Elem A) → stack_view (es ++ e ∷ []) ≡ elem_view e ∷ stack_view es
top_last es e = onto_last es e []

-- the search is for the rule where the run goes on, all live, and the top asks for it
pub looks_when : (p : Program) (s : State) (r : ℕ) (ids : List ℕ) (found : Option ℕ) → is_running s.status ≡ true → list_all (lives s) ids ≡ true → found ≡ looks_at_top p r ids s.stack → found ≡ looks_for p s r ids
looks_when p s r ids found a b h = rw (a, b) h

same_noted : (b : Bool) (k : ℕ) (o : Option ℕ) → noted_by b k o ≡ earlier o (cond b (Some k) None)
same_noted b k None = refl
same_noted b k (Some j) = refl

module _ (p : Program) (q : Query) (r : ℕ) (rule : Rule) (ids : List ℕ) (is : slice_get p r ≡ Some rule) where
  could : State → Bool
  could t = is_could_fire (verdict t r rule ids)

  there : (m : Model) → m.rules ≡ p → slice_get m.rules r ≡ Some rule
  there m rules = ap (λ (x : Program). slice_get x r) rules ∙ is

  pub list_first : (m : Model) (log : ListModel) → m.rules ≡ p → state_in m ≡ start q → m.steps ≡ 0 → log.searches ≡ [] → NotesState m r ids None log.could_from → IsListLog p q m.steps r rule ids log
  list_first m log rules state none nothing notes = record {
    searches_are = nothing ∙ sym (ap (λ k. looks p (start q) k r rule ids) none);
    could_is = notes rule (there m rules) ∙ (λ k. cond (is_could_fire (verdict (state k) r rule ids)) (Some (none k)) None) ∙ sym (ap (λ k. could_from p (start q) k r rule ids) none);
  }

  -- a transition later
  pub list_next : (m n : Model) (old new : ListModel) (found : Option (ℕ × ℕ × Verdict)) → m.rules ≡ p → state_in m ≡ after p (start q) m.steps → n.rules ≡ p → state_in n ≡ after p (start q) n.steps → n.steps ≡ m.steps + 1
      → IsSearch m r ids found → new.searches ≡ old.searches ++ option_to_list found → NotesState n r ids old.could_from new.could_from → IsListLog p q m.steps r rule ids old → IsListLog p q n.steps r rule ids new
  list_next m n old new found rules state rules_next state_next one search more notes log = record {
    searches_are =
        more ∙ (λ k. log.searches_are k ++ option_to_list (found_is k)) ∙ ap (λ j. looks p (start q) m.steps r rule ids ++ option_to_list (look_in p (after p (start q) m.steps) j r rule ids)) (add-one m.steps)
        ∙ sym (ap (λ j. looks p (start q) j r rule ids) next);
    could_is =
        notes rule (there n rules_next) ∙ (λ k. noted_by (is_could_fire (verdict (state_next k) r rule ids)) n.steps (log.could_is k))
        ∙ ap (λ j. noted_by (is_could_fire (verdict (after p (start q) j) r rule ids)) j (could_from p (start q) m.steps r rule ids)) next
        ∙ same_noted _ (suc m.steps) (could_from p (start q) m.steps r rule ids)
        ∙ sym (first_more p (λ t. is_could_fire (verdict t r rule ids)) (start q) m.steps) ∙ sym (ap (λ j. could_from p (start q) j r rule ids) next);
  }
    where
      next : n.steps ≡ suc m.steps
      next = one ∙ add-one m.steps

      found_is : found ≡ look_in p (after p (start q) m.steps) (m.steps + 1) r rule ids
      found_is = search rule (there m rules) ∙ (λ k. look_in (rules k) (state k) (m.steps + 1) r rule ids)

-- the same searches, as they are seen
pub same_searches : {A : Type 0} (new old : ListLog A) → new.searches ≡ old.searches → (list_view new).searches ≡ (list_view old).searches
same_searches new old e = ap (λ (v : Vec (Search _) _). map search_view v.items) e

pub no_searches : {A : Type 0} (log : ListLog A) (v : Vec (Search A) A) → log.searches ≡ v → v.items ≡ [] → (list_view log).searches ≡ []
no_searches log v e nothing = ap (λ (x : Vec _ _). map search_view x.items) e ∙ ap (map search_view) nothing
