-- Firings that are the same, as numbers.
use Rattle.std.proofs.Common.{◌≡◌, ◌≢◌, ◌∙◌, ◌+◌, ◌++◌, ℕ, Bool, true, false, cond, not, ◌&&◌, ◌==◌, List, [], ◌∷◌, ap, sym, refl, arith, nat_eq}
use Rattle.std.proofs.Math.Path.{fun_ext}
use Rattle.std.proofs.lemmas.Bool.{eq-eqb, ne_eqb}
use Rattle.std.proofs.lemmas.List.{map-append}
use Rattle.std.specs.Cmp.Lexicographic.{pointwise}
use Rattle.std.specs.List.{list_any}
use Rattle.chr_semantics.specs.Changes.{Entries, entered, no_entries}
use Rattle.chr_semantics.specs.Search.{History, fired_before, same_ids}
use Rattle.chr_semantics.proofs.Tests.{eqb_sym}
use Rattle.chr_store.specs.FiredLaws.{same_fired}
use Rattle.chr_store.specs.HistoryView.{fired_view, firings_view}
use Rattle.chr_store.specs.Numbers.{numbers}
use Rattle.chr_store.specs.contracts.id.IdPartialEq.TheImpl.{ghosts as equality}
use Rattle.chr_store.specs.declared.fired.Fired.{Fired}
use Rattle.chr_store.specs.declared.id.Id.{Id}
use Rattle.chr_store.proofs.NumbersAlike.{equal_as}

-- the same numbers either way
pub same_ids_sym : (xs ys : List ℕ) → same_ids xs ys ≡ same_ids ys xs
same_ids_sym [] [] = refl
same_ids_sym [] (y ∷ ys) = refl
same_ids_sym (x ∷ xs) [] = refl
same_ids_sym (x ∷ xs) (y ∷ ys) = rw (eqb_sym x y, same_ids_sym xs ys) refl

-- a set of firings has one where the history of the definitions does
pub fired_among : (f : Fired) (fs : List Fired) → list_any (same_fired f) fs ≡ fired_before (firings_view fs) f.rule f.ids
fired_among f [] = refl
fired_among f (g ∷ fs) = rw (eqb_sym f.rule g.rule, same_ids_sym f.ids g.ids, fired_among f fs) refl

-- two firings are compared by their rules first
pub same_rule : (f g : Fired) (xs ys : List Id) (b : Bool) → f.rule ≡ g.rule → b ≡ pointwise equality.eq xs ys → numbers xs ≡ f.ids → numbers ys ≡ g.ids → b ≡ same_fired f g
same_rule f g xs ys b rule ids first second =
    ids ∙ (equal_as xs ys ∙ ((λ i. pointwise nat_eq (first i) (second i)) ∙ sym (ap (λ (c : Bool). c && pointwise nat_eq f.ids g.ids) (eq-eqb f.rule g.rule rule))))

pub other_rule : (f g : Fired) (r s : ℕ) → r ≡ f.rule → s ≡ g.rule → (r ≢ s) → (r == s) ≡ same_fired f g
other_rule f g r s first second other =
    let no : (r == s) ≡ false = ne_eqb r s other in
    no ∙ sym (ap (λ (c : Bool). c && pointwise nat_eq f.ids g.ids) ((λ i. sym first i == sym second i) ∙ no))

abbrev pub shown : History → (ℕ → ℕ) → Entries
shown list stamps = record { list = list; stamps = stamps }

-- no firing, and no stamp that was raised
pub shown_none : (list : List Fired) (stamps : ℕ → ℕ) → list ≡ [] → ((n : ℕ) → stamps n ≡ 0) → shown (firings_view list) stamps ≡ no_entries
shown_none list stamps none counts = let all : stamps ≡ (λ n. 0) = fun_ext counts in λ i. shown (firings_view (none i)) (all i)

-- a firing that was there leaves the history as it was, and another goes last
pub entered_as : (f : Fired) (old new : List Fired) (before after : ℕ → ℕ) (is_new : Bool) → is_new ≡ not (list_any (same_fired f) old) → new ≡ cond (list_any (same_fired f) old) old (old ++ f ∷ [])
    → ((n : ℕ) → after n ≡ before n + cond is_new (cond (f.rule == n) 1 0) 0) → shown (firings_view new) after ≡ entered (shown (firings_view old) before) f.rule (f.ids)
entered_as f old new before after is_new is_it grown counts = by_test (list_any (same_fired f) old) refl (sym (fired_among f old)) is_it grown
  where
    by_test : (b : Bool) → list_any (same_fired f) old ≡ b → fired_before (firings_view old) f.rule (f.ids) ≡ list_any (same_fired f) old → is_new ≡ not b → new ≡ cond b old (old ++ f ∷ [])
        → shown (firings_view new) after ≡ cond (fired_before (firings_view old) f.rule (f.ids)) (shown (firings_view old) before) (shown (firings_view old ++ (f.rule, f.ids) ∷ []) (λ n. before n + cond (f.rule == n) 1 0))
    by_test true e there not_new same =
        let stamps : after ≡ before = fun_ext (λ n. counts n ∙ rw not_new (omega arith)) in
        rw (there, e) (λ i. shown (firings_view (same i)) (stamps i))
    by_test false e absent is_new_one more =
        let stamps : after ≡ (λ n. before n + cond (f.rule == n) 1 0) = fun_ext (λ n. counts n ∙ rw is_new_one refl) in
        let list : firings_view new ≡ firings_view old ++ (f.rule, f.ids) ∷ [] = ap firings_view more ∙ map-append fired_view old (f ∷ []) in
        rw (absent, e) (λ i. shown (list i) (stamps i))
