-- The firings of a map as a history of the definitions.
use Rattle.std.proofs.Common.{◌≡◌, ◌∙◌, ◌==◌, ◌&&◌, ◌||◌, ℕ, Bool, true, false, cond, List, [], ◌∷◌, ap, refl, sym, true≢false, Bor}
use Rattle.std.specs.Bool.{Decides}
use Rattle.std.specs.Option.{option_copied}
use Rattle.std.specs.Ordering.{is_eq, match_ordering}
use Rattle.std.specs.declared.cmp.Ordering.{Ordering}
use Rattle.std.specs.declared.cmp.Ordering.TheVariants.{Less, Equal, Greater}
use Rattle.std.specs.Prelude.{Option, Some, None, is_some}
use Rattle.std.proofs.lemmas.Bool.Decides.{Decides-and, Decides-eqb, Decides-like, same_from_decides}
use Rattle.std.proofs.lemmas.Slice.Eq.{slice_eq-Decides}
use Rattle.chr_map.specs.Order.{value_of}
use Rattle.chr_map.proofs.Lookups.{value_at}
use Rattle.chr_semantics.specs.Search.{History, fired_before, same_ids}
use Rattle.chr_store.specs.FiredLaws.{same_fired}
use Rattle.chr_store.specs.contracts.fired.FiredOrd.TheImpl.Laws.{matches_eq-law, total-law}
use Rattle.chr_store.specs.declared.fired.Fired.{Fired}
use Rattle.chr_find.specs.Firings.{fired_cmp, history_in, history_of, is_in}
use Rattle.chr_find.proofs.FiringMaps.{same_Decides}

pub same_ids_Decides : (xs ys : List ℕ) → Decides (same_ids xs ys) (xs ≡ ys)
same_ids_Decides xs ys = slice_eq-Decides Decides-eqb xs ys (same_ids xs ys) refl

-- an entry of the history and the firing that a search asks for
asked : (q g : Fired) → (g.rule == q.rule && same_ids g.ids q.ids) ≡ same_fired q g
asked q g =
    same_from_decides _ _
    (Decides-like _ (λ e i. record { rule = sym e.0 i; ids = sym e.1 i }) (λ e. (ap (λ (f : Fired). f.rule) (sym e), ap (λ (f : Fired). f.ids) (sym e))) (Decides-and (g.rule == q.rule) _ (Decides-eqb g.rule q.rule) (same_ids_Decides g.ids q.ids)))
    (same_Decides q g)

before_if : (b : Bool) (f : ℕ × List ℕ) (h : History) (r : ℕ) (ids : List ℕ) → fired_before (cond b (f ∷ h) h) r ids ≡ (b && (f.0 == r && same_ids f.1 ids) || fired_before h r ids)
before_if true f h r ids = refl
before_if false f h r ids = refl

apart : (c s : Bool) (u : Unit {0}) (o : Option (Unit {0})) → ((c && s) || (c && is_some o)) ≡ (c && is_some (cond s (Some u) o))
apart true true u o = refl
apart true false u o = refl
apart false s u o = refl

none_there : (c : Bool) → false ≡ (c && false)
none_there true = refl
none_there false = refl

where_same : (b c s x : Bool) → (s ≡ true → b ≡ c) → x ≡ s → (b && x) ≡ (c && s)
where_same b c true true h e = ap (λ (d : Bool). d && true) (h refl)
where_same b c false false h e = sym (none_there b) ∙ none_there c
where_same b c true false h e = absurd (true≢false (sym e))
where_same b c false true h e = absurd (true≢false e)

by_scan : (all es : List (Fired × Unit {0})) (q : Fired) → fired_before (history_in all es) q.rule q.ids ≡ (is_in all q && is_some (value_at fired_cmp total-law es q))
by_scan all [] q = none_there (is_in all q)
by_scan all (e ∷ es) q =
    before_if (is_in all e.0) (e.0.rule, e.0.ids) (history_in all es) q.rule q.ids
    ∙ (ap (λ (b : Bool). b || fired_before (history_in all es) q.rule q.ids)
    (where_same (is_in all e.0) (is_in all q) (same_fired q e.0) _ (λ t. ap (is_in all) (sym ((same_Decides q e.0).0 t))) (asked q e.0) ∙ ap (λ (b : Bool). is_in all q && b) (matches_eq-law q e.0))
    ∙ (ap (λ (b : Bool). is_in all q && is_eq (fired_cmp q e.0) || b) (by_scan all es q) ∙ apart (is_in all q) (is_eq (fired_cmp q e.0)) e.1 (value_at fired_cmp total-law es q)))

scan_at : (o : Ordering) (u : Unit {0}) (m n : Option (Unit {0})) → (is_some m ≡ true → is_some n ≡ true) → is_some (match_ordering o None (Some u) m) ≡ true → is_some (cond (is_eq o) (Some u) n) ≡ true
scan_at Less u m n h e = cc
scan_at Equal u m n h e = refl
scan_at Greater u m n h e = h e

scanned : (es : List (Fired × Unit {0})) (q : Fired) → is_in es q ≡ true → is_some (value_at fired_cmp total-law es q) ≡ true
scanned [] q e = cc
scanned (x ∷ es) q e = scan_at (fired_cmp q x.0) x.1 (value_of fired_cmp es q) (value_at fired_cmp total-law es q) (scanned es q) e

pub both_true : (a b : Bool) → (a ≡ true → b ≡ true) → (a && b) ≡ a
both_true true b h = h refl
both_true false b h = refl

-- the history has what the map has
pub history_stands : (es : List (Fired × Unit {0})) (q : Fired) → fired_before (history_of es) q.rule q.ids ≡ is_in es q
history_stands es q = by_scan es es q ∙ both_true (is_in es q) (is_some (value_at fired_cmp total-law es q)) (scanned es q)

pub copied : {T : Type 0} (o : Option (Bor T)) → is_some o ≡ is_some (option_copied o)
copied None = refl
copied (Some x) = refl
