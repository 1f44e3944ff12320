-- The match of the heads of a rule with constraints that stand in a table.
use Rattle.std.proofs.Common.{◌≡◌, ◌∙◌, ◌<◌, ◌≤◌, ◌+◌, ◌⊎◌, ℕ, Bool, true, false, ◌==◌, List, [], ◌∷◌, Option, Some, None, length, get_or, drop, min, ap, sym, subst, inl, inr, arith}
use Rattle.std.specs.Borrow.{Bor}
use Rattle.std.specs.Iterator.{Yields}
use Rattle.std.specs.Iterator.Adapters.{zip_first, zip_second}
use Rattle.std.specs.Prelude.{Vec, slice_get}
use Rattle.std.specs.Slice.Iter.{iter_rest}
use Rattle.std.specs.declared.iter.Zip.{Zip}
use Rattle.std.specs.declared.slice.Iter.{Iter}
use Rattle.std.proofs.iter.Yields.{fronts}
use Rattle.std.proofs.lemmas.Iterator.{zips}
use Rattle.std.proofs.lemmas.Slice.Zip.{zip_turn}
use Rattle.std.proofs.Math.ListN.{get_or-map}
use Rattle.std.proofs.lemmas.Bool.{cases_lt}
use Rattle.std.proofs.lemmas.List.{drop_all, drop_more, length-map}
use Rattle.std.proofs.lemmas.Option.{none-some, option_and_then_some, same_Some}
use Rattle.chr_semantics.proofs.Below.{below_more_all}
use Rattle.chr_semantics.proofs.Lists.{All-got}
use Rattle.chr_semantics.proofs.Makes.{tested}
use Rattle.chr_semantics.specs.Bounds.{AreBelow, IsBounded, IsHeadBelow}
use Rattle.chr_semantics.specs.Match.{Row, fit_all, fit_atom, fit_rows, fits}
use Rattle.chr_semantics.specs.Program.{Atom, Head, Rule}
use Rattle.chr_semantics.specs.Search.{ids_of}
use Rattle.chr_semantics.specs.Subst.{Subst}
use Rattle.chr_semantics.specs.Tree.{Trees}
use Rattle.chr_semantics.specs.declared.limits.TheConstants.{MAX_RULE_VARIABLES}
use Rattle.chr_bind.specs.Matching.{AgreesWith, FitsOrSpoils}
use Rattle.chr_bind.specs.declared.matching.Match.{Match}
use Rattle.chr_store.specs.Numbers.{numbers}
use Rattle.chr_store.specs.declared.id.Id.{Id}
use Rattle.chr_term.specs.TermView.{atom_view}
use Rattle.chr_term.specs.declared.term.Sym.{Sym}
use Rattle.chr_term.specs.declared.term.Term.{Term}
use Rattle.chr_rules.specs.RuleView.{heads_view}
use Rattle.chr_find.proofs.SearchParts.{drop_at}
use Rattle.chr_find.proofs.RuleHeads.{head_at}
use Rattle.chr_find.specs.TableView.{atom_at}
use Rattle.chr_find.specs.declared.table.Table.{Table}
use Rattle.chr_base.specs.Standing.{AreStanding}

-- the head and the identity of a turn
pub at_turn : {A : Type 0} (hs : List (Sym × Vec (Term A) A)) (flags : List Bool) (ids : List Id) (yielded : List (Bor (Sym × Vec (Term A) A) × Bor Id)) (s t u : Zip (Iter (Sym × Vec (Term A) A)) (Iter Id)) (r : Option (Bor (Sym × Vec (Term A) A) × Bor Id)) (h : Bor (Sym × Vec (Term A) A)) (id : Bor Id)
    → iter_rest (zip_first s) ≡ hs → iter_rest (zip_second s) ≡ ids → Yields (zips fronts fronts) s yielded t → r ≡ Some (h, id) → zips fronts fronts t r u
    → (x : Head) × (slice_get (heads_view hs flags) (length yielded) ≡ Some x) × (x.atom ≡ atom_view h.now.0 h.now.1.items) × (length yielded < length (numbers ids)) × (id.now.0 ≡ get_or (numbers ids) (length yielded) id.now.0)
at_turn {A = A} hs flags ids yielded s t u r h id first second y is step =
    let turn = zip_turn hs ids yielded s t u r first second y (h, id) is step in
    let x : (x : Head) × (slice_get (heads_view hs flags) (length yielded) ≡ Some x) × (x.atom ≡ atom_view h.now.0 h.now.1.items) = head_at hs flags (length yielded) h.now turn.0 (turn.2 h.now) in
    (x.0, x.1, x.2, omega (arith, turn.1, length-map ids (λ (i : Id). i.0)), ap (λ (i : Id). i.0) (turn.3 id.now) ∙ sym (get_or-map (λ (i : Id). i.0) ids (length yielded) id.now))

-- the patterns of a head have few variables
pub patterns_small : (rule : Rule) (i : ℕ) (x : Head) (h : Atom) (ps : Trees) → slice_get rule.heads i ≡ Some x → x.atom ≡ h → h.args ≡ ps → IsBounded rule → AreBelow MAX_RULE_VARIABLES ps
patterns_small rule i x h ps at is args b =
    let few : rule.head_vars ≤ MAX_RULE_VARIABLES = omega (arith, b.ordered, b.few) in
    subst (AreBelow MAX_RULE_VARIABLES) (ap (λ (y : Atom). y.args) is ∙ args) (below_more_all rule.head_vars MAX_RULE_VARIABLES x.atom.args few (All-got (IsHeadBelow rule.head_vars) rule.heads i x at b.heads))

-- where an atom fits, its arguments do
pub fit_arguments : (h a : Atom) (m n : Subst) → fit_atom h a m ≡ Some n → fit_all h.args a.args m ≡ Some n
fit_arguments h a m n e = (tested (h.sym == a.sym) (fit_all h.args a.args m) n e).1

-- the match after arguments that fit
fitted : {A : Type 0} (b : Bool) (ps ts : Trees) (old new : Match A) (m n : Subst) → FitsOrSpoils b ps ts old new → AgreesWith old m → fit_all ps ts m ≡ Some n → AgreesWith new n
fitted true ps ts old new m n f a e =
    let k : (k : Subst) × (fit_all ps ts m ≡ Some k) × AgreesWith new k = f m a in
    subst (λ (s : Subst). AgreesWith new s) (same_Some k.0 n (sym k.1 ∙ e)) k.2
fitted false ps ts old new m n f a e = absurd (none-some n (sym (f m a) ∙ e))

-- where no head or no row is left, the match is whole
whole : (hs : List Head) (t : List Row) (n m : Subst) → (hs ≡ []) ⊎ (t ≡ []) → fit_rows hs t n ≡ Some m → n ≡ m
whole [] [] n m o e = same_Some n m e
whole [] (a ∷ t) n m o e = absurd (none-some m e)
whole (h ∷ hs) [] n m o e = absurd (none-some m e)
whole (h ∷ hs) (a ∷ t) n m (inl o) e = absurd (let no : h ∷ hs ≡ [] = o in cc)
whole (h ∷ hs) (a ∷ t) n m (inr o) e = absurd (let no : a ∷ t ≡ [] = o in cc)

none_left : (i : ℕ) (hs : List Head) (t : List Row) → i ≡ min (length hs) (length t) → (length hs < length t) ⊎ (length t ≤ length hs) → (drop i hs ≡ []) ⊎ (drop i t ≡ [])
none_left i hs t e (inl h) = inl (drop_all i hs (omega (arith, e, h)))
none_left i hs t e (inr h) = inr (drop_all i t (omega (arith, e, h)))

module _ {A : Type 0} (table : Table A) (heads : List Head) (ids : List ℕ) where
  -- with the first i heads matched, the match goes on to that of all
  abbrev pub IsMatchedTo : ℕ → Match A → Type 0
  IsMatchedTo i matching =
      (t : List Row) → ids_of t ≡ ids → AreStanding table t → (m : Subst) → fits heads t ≡ Some m → (n : Subst) × (fit_rows (drop i heads) (drop i t) n ≡ Some m) × AgreesWith matching n

  -- the row at an identity
  row_at : (t : List Row) (i : ℕ) (d : Row) → ids_of t ≡ ids → AreStanding table t → i < length ids
      → (a : Row) × (drop i t ≡ a ∷ drop (i + 1) t) × (a.0 ≡ get_or ids i d.0) × (atom_at table a.0 ≡ Some a.1)
  row_at t i d e standing lt =
      let within : i < length t = omega (arith, lt, ap length e, length-map t (λ (r : Row). r.0)) in
      (get_or t i d, drop_more t i d within, sym (get_or-map (λ (r : Row). r.0) t i d) ∙ ap (λ (l : List ℕ). get_or l i d.0) e, standing i d within)

  -- one head more
  pub matched_more : (i : ℕ) (x : Head) (h : Atom) (id : ℕ) (found : Atom) (ps ts : Trees) (b : Bool) (old new : Match A) → slice_get heads i ≡ Some x → x.atom ≡ h → h.args ≡ ps → i < length ids → id ≡ get_or ids i id → Some found ≡ atom_at table id → found.args ≡ ts
      → FitsOrSpoils b ps ts old new → IsMatchedTo i old → IsMatchedTo (i + 1) new
  matched_more i x h id found ps ts b old new here is args lt at stands terms fit so t e standing m whole =
      let n : (n : Subst) × (fit_rows (drop i heads) (drop i t) n ≡ Some m) × AgreesWith old n = so t e standing m whole in
      let a : (a : Row) × (drop i t ≡ a ∷ drop (i + 1) t) × (a.0 ≡ get_or ids i id) × (atom_at table a.0 ≡ Some a.1) = row_at t i (id, found) e standing lt in
      let both : fit_rows (x ∷ drop (i + 1) heads) (a.0 ∷ drop (i + 1) t) n.0 ≡ Some m =
      ap (λ (hs : List Head). fit_rows hs (a.0 ∷ drop (i + 1) t) n.0) (sym (drop_at heads i x here)) ∙ (ap (λ (rows : List Row). fit_rows (drop i heads) rows n.0) (sym a.1) ∙ n.1) in
      let k : (k : Subst) × (fit_atom x.atom a.0.1 n.0 ≡ Some k) × (fit_rows (drop (i + 1) heads) (drop (i + 1) t) k ≡ Some m) = option_and_then_some (fit_rows (drop (i + 1) heads) (drop (i + 1) t)) (fit_atom x.atom a.0.1 n.0) m both (λ k fits_one rest. (k, fits_one, rest)) in
      let same : a.0.1 ≡ found = same_Some a.0.1 found (sym a.3 ∙ (ap (atom_at table) (a.2 ∙ sym at) ∙ sym stands)) in
      let fits_so : fit_all ps ts n.0 ≡ Some k.0 =
      ap (λ (us : Trees). fit_all us ts n.0) (sym (ap (λ (y : Atom). y.args) is ∙ args)) ∙ (ap (λ (us : Trees). fit_all x.atom.args us n.0) (sym (ap (λ (y : Atom). y.args) same ∙ terms)) ∙ fit_arguments x.atom a.0.1 n.0 k.0 k.1) in
      (k.0, k.2, fitted b ps ts old new n.0 k.0 fit n.2 fits_so)

  -- a constraint that stands is found
  pub matched_none : (i : ℕ) (x : Head) (id : ℕ) (old : Match A) → i < length ids → id ≡ get_or ids i id → None ≡ atom_at table id → IsMatchedTo i old → IsMatchedTo (i + 1) old
  matched_none i x id old lt at stands so t e standing m whole =
      let a : (a : Row) × (drop i t ≡ a ∷ drop (i + 1) t) × (a.0 ≡ get_or ids i id) × (atom_at table a.0 ≡ Some a.1) = row_at t i (id, x.atom) e standing lt in
      absurd (none-some a.0.1 (stands ∙ (ap (atom_at table) (at ∙ sym a.2) ∙ a.3)))

  -- all heads are matched
  pub matched_all : (i : ℕ) (matching : Match A) → i ≡ min (length heads) (length ids) → IsMatchedTo i matching → (t : List Row) → ids_of t ≡ ids → AreStanding table t → (m : Subst) → fits heads t ≡ Some m → AgreesWith matching m
  matched_all i matching end so t e standing m h =
      let n : (n : Subst) × (fit_rows (drop i heads) (drop i t) n ≡ Some m) × AgreesWith matching n = so t e standing m h in
      let same : length t ≡ length ids = sym (length-map t (λ (r : Row). r.0)) ∙ ap length e in
      let last : i ≡ min (length heads) (length t) = end ∙ ap (min (length heads)) (sym same) in
      subst (λ (s : Subst). AgreesWith matching s) (whole (drop i heads) (drop i t) n.0 m (none_left i heads t last (cases_lt (length heads) (length t))) n.1) n.2
