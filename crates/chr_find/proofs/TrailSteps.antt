-- The partial lists of a join: its steps, its own head, and its end.
use Rattle.std.proofs.Common.{◌≡◌, ◌^◌, ◌<◌, ◌≤◌, append-nil, ℕ, ◌+◌, Bool, true, false, not, ◌&&◌, ◌==◌, List, [], ◌∷◌, ◌++◌, Option, Some, None, length, drop, subst, ap, refl, ◌∙◌, sym, ◌⊎◌, inl, inr}
use Rattle.std.specs.Prelude.{filter, flat_map, slice_get}
use Rattle.std.proofs.lemmas.List.{drop_all}
use Rattle.std.proofs.lemmas.List.Concat.{flat_map-append}
use Rattle.chr_bind.specs.Matching.{AgreesWith, IsSame}
use Rattle.chr_bind.specs.declared.matching.Match.{Match}
use Rattle.chr_semantics.proofs.SearchedLists.{flat_map-filter}
use Rattle.chr_semantics.specs.Match.{Row, fit_atom}
use Rattle.chr_semantics.specs.Guard.{all_entailed}
use Rattle.chr_semantics.specs.Program.{Atom, Head, Rule, Test}
use Rattle.chr_semantics.specs.Search.{History, fired_before, has_number}
use Rattle.chr_semantics.specs.Subst.{Subst}
use Rattle.chr_semantics.specs.Trail.{Trail, after_each, after_own, branch, own_trail, partial_lists, partial_with, trail}
use Rattle.chr_semantics.specs.Tries.{capped}
use Rattle.chr_find.specs.Enough.{TakesAs}
use Rattle.chr_find.specs.Finds.{entering}
use Rattle.chr_find.specs.CursorStateView.{threshold_of}
use Rattle.chr_find.specs.Threshold.{Threshold, free, next_threshold}
use Rattle.chr_find.specs.declared.cursor_state.CursorState.{CursorState}
use Rattle.chr_find.specs.Partial.{Counts, JoinCounts, WalkCounts, trail_after}
use Rattle.chr_find.proofs.JoinSteps.{known_as, used_next}
use Rattle.chr_find.proofs.PartialLists.{counts_after, counts_first, counts_more, counts_none, counts_same, counts_second, counts_whole}
use Rattle.chr_find.proofs.SearchParts.{drop_at}

after_none : (further : Subst → Trail) (c : Row) (used : Bool) (e : Option Subst) → e ≡ None → branch further c used e ≡ []
after_none further c true e none = refl
after_none further c false None none = refl
after_none further c false (Some m) none = cc

after_misfit : (rows : List Row) (a : Row) (place : ℕ) (hs : List Head) (used : List ℕ) (k : ℕ) (m : Subst) (h : Atom) (c : Row) → fit_atom h c.1 m ≡ None → trail_after rows a place hs used k m h c ≡ []
after_misfit rows a place hs used k m h c e = after_none (λ n. trail rows a place hs (c.0 ∷ used) (k + 1) n) c (has_number (a.0 ∷ used) c.0) (fit_atom h c.1 m) e

after_fit : (rows : List Row) (a : Row) (place : ℕ) (hs : List Head) (used : List ℕ) (k : ℕ) (m n : Subst) (h : Atom) (c : Row) → has_number (a.0 ∷ used) c.0 ≡ false → fit_atom h c.1 m ≡ Some n
    → trail_after rows a place hs used k m h c ≡ after_each c (trail rows a place hs (c.0 ∷ used) (k + 1) n)
after_fit rows a place hs used k m n h c u e = rw (u, e) refl

after_left_out : (rows : List Row) (a : Row) (place : ℕ) (hs : List Head) (used : List ℕ) (k : ℕ) (m : Subst) (h : Atom) (c : Row) (known : List ℕ) → has_number (a.0 ∷ used) c.0 ≡ has_number known c.0
    → (has_number known c.0 ≡ true) ⊎ (fit_atom h c.1 m ≡ None) → trail_after rows a place hs used k m h c ≡ []
after_left_out rows a place hs used k m h c known same (inl e) = let u : has_number (a.0 ∷ used) c.0 ≡ true = same ∙ e in rw u refl
after_left_out rows a place hs used k m h c known same (inr e) = after_misfit rows a place hs used k m h c e

module _ {A : Type 0} (rows : List Row) (h : History) (r : ℕ) (rule : Rule) (place own level : ℕ) (partners : List ℕ) (matching : Match A) (head : Atom) where
  -- no rows
  pub walk_none : (told : ℕ) → told < 2 ^ 64 → WalkCounts rows h r rule place own level partners matching head [] false told told
  walk_none told small a used m owns known agrees = counts_none h r rule.guard partners told small

  -- found among the first rows
  pub walk_found : (walked xs ys : List Row) (b : Bool) (told now : ℕ) → walked ≡ xs ++ ys → b ≡ true → WalkCounts rows h r rule place own level partners matching head xs b told now → WalkCounts rows h r rule place own level partners matching head walked true told now
  walk_found walked xs ys b told now is found w a used m owns known agrees =
      let f : Row → Trail = λ c. trail_after rows a place (drop (level + 1) rule.heads) used level m head c in
      counts_same h r rule.guard partners (flat_map f walked) (flat_map f xs ++ flat_map f ys) true told now (ap (flat_map f) is ∙ flat_map-append f xs ys)
      (counts_first h r rule.guard partners (flat_map f xs) (flat_map f ys) told now (subst (λ (x : Bool). Counts h r rule.guard partners (flat_map f xs) x told now) found (w a used m owns known agrees)))

  -- not found there, and the match is the same again
  pub walk_on : (next : Match A) (walked xs ys : List Row) (b d : Bool) (told mid now : ℕ) → walked ≡ xs ++ ys → b ≡ false → WalkCounts rows h r rule place own level partners matching head xs b told mid → IsSame matching next
      → WalkCounts rows h r rule place own level partners next head ys d mid now → WalkCounts rows h r rule place own level partners matching head walked d told now
  walk_on next walked xs ys b d told mid now is none v same w a used m owns known agrees =
      let f : Row → Trail = λ c. trail_after rows a place (drop (level + 1) rule.heads) used level m head c in
      counts_same h r rule.guard partners (flat_map f walked) (flat_map f xs ++ flat_map f ys) d told now (ap (flat_map f) is ∙ flat_map-append f xs ys)
      (counts_second h r rule.guard partners (flat_map f xs) (flat_map f ys) d told mid now (subst (λ (x : Bool). Counts h r rule.guard partners (flat_map f xs) x told mid) none (v a used m owns known agrees))
      (w a used m owns known (λ x. same x ∙ agrees x)))

  -- a row that is left out
  pub row_out : (c : Row) (next : Match A) (told : ℕ) → told < 2 ^ 64 → TakesAs false (own ∷ partners) head c matching next → WalkCounts rows h r rule place own level partners matching head (c ∷ []) false told told
  row_out c next told small t a used m owns known agrees =
      let hs : List Head = drop (level + 1) rule.heads in
      let e : trail_after rows a place hs used level m head c ≡ [] = after_left_out rows a place hs used level m head c (own ∷ partners) (known_as a own used partners owns known c.0) (t m agrees) in
      counts_same h r rule.guard partners (trail_after rows a place hs used level m head c ++ []) [] false told told (ap (λ (l : Trail). l ++ []) e) (counts_none h r rule.guard partners told small)

  -- a row that is taken
  pub row_taken : (c : Row) (longer : List ℕ) (next : Match A) (b : Bool) (told now : ℕ) → longer ≡ partners ++ c.0 ∷ [] → TakesAs true (own ∷ partners) head c matching next
      → JoinCounts rows h r rule place own (level + 1) longer next b told now → WalkCounts rows h r rule place own level partners matching head (c ∷ []) b told now
  row_taken c longer next b told now at t j a used m owns known agrees =
      let hs : List Head = drop (level + 1) rule.heads in
      let n : (n : Subst) × (has_number (own ∷ partners) c.0 ≡ false) × (fit_atom head c.1 m ≡ Some n) × AgreesWith next n = t m agrees in
      let further : Trail = trail rows a place hs (c.0 ∷ used) (level + 1) n.0 in
      let e : trail_after rows a place hs used level m head c ≡ after_each c further = after_fit rows a place hs used level m n.0 head c (known_as a own used partners owns known c.0 ∙ n.1) n.2 in
      counts_same h r rule.guard partners (trail_after rows a place hs used level m head c ++ []) (after_each c further) b told now (append-nil (trail_after rows a place hs used level m head c) ∙ e)
      (counts_after h r rule.guard partners c longer further b told now at (j a (c.0 ∷ used) n.0 owns (used_next used partners longer c.0 at known) n.3))

-- the partial lists behind the longer partners
pub counts_longer : {A : Type 0} (rows : List Row) (h : History) (r : ℕ) (rule : Rule) (place own level longer_level : ℕ) (longer : List ℕ) (next : Match A) (b : Bool) (told now : ℕ) → longer_level ≡ level + 1
    → JoinCounts rows h r rule place own longer_level longer next b told now → JoinCounts rows h r rule place own (level + 1) longer next b told now
counts_longer rows h r rule place own level longer_level longer next b told now e j = subst (λ (k : ℕ). JoinCounts rows h r rule place own k longer next b told now) e j

-- where no list was passed over, none is behind the longer partners
pub free_longer : (mode : CursorState) (after : List ℕ) (level longer_level from id : ℕ) (g : Threshold) → longer_level ≡ level + 1 → threshold_of mode (drop (level + 1) after) ≡ next_threshold from g id → g ≡ free → threshold_of mode (drop longer_level after) ≡ free
free_longer mode after level longer_level from id g e next all = ap (λ (k : ℕ). threshold_of mode (drop k after)) e ∙ (next ∙ ap (λ (x : Threshold). next_threshold from x id) all)

-- at the own place the join goes on with the own row
trail_own : (rows : List Row) (a : Row) (place : ℕ) (x : Head) (hs : List Head) (used : List ℕ) (k : ℕ) (m : Subst) (all : List Head) → all ≡ x ∷ hs → (k == place) ≡ true
    → trail rows a place all used k m ≡ after_each a (trail rows a place hs (a.0 ∷ used) (k + 1) m)
trail_own rows a place x hs used k m all is here = rw (is, here) refl

-- and elsewhere a partner is looked for
trail_here : (rows : List Row) (a : Row) (place : ℕ) (x : Head) (hs : List Head) (used : List ℕ) (k : ℕ) (m : Subst) (all : List Head) → all ≡ x ∷ hs → (k == place) ≡ false
    → trail rows a place all used k m ≡ None ∷ flat_map (λ c. trail_after rows a place hs used k m x.atom c) rows
trail_here rows a place x hs used k m all is other = rw (is, other) refl

trail_end : (rows : List Row) (a : Row) (place : ℕ) (hs : List Head) (used : List ℕ) (k : ℕ) (m : Subst) → hs ≡ [] → trail rows a place hs used k m ≡ Some ([], m) ∷ []
trail_end rows a place hs used k m e = rw e refl

-- whether the whole list can fire, by its guard and the history
pub can_enter : (h : History) (r : ℕ) (guard : List Test) (partners : List ℕ) (m : Subst) (b d : Bool) → all_entailed m guard ≡ b → fired_before h r partners ≡ d → (b && not d) ≡ entering h r guard partners ([], m)
can_enter h r guard partners m b d holds fired =
    sym (ap (λ (x : Bool). x && not (fired_before h r (partners ++ []))) holds ∙ (ap (λ (l : List ℕ). b && not (fired_before h r l)) (append-nil partners) ∙ ap (λ (x : Bool). b && not x) fired))

pub not_twice : (b : Bool) → false ≡ (b && not true)
not_twice true = refl
not_twice false = refl

module _ {A : Type 0} (rows : List Row) (h : History) (r : ℕ) (rule : Rule) (place own level : ℕ) (partners : List ℕ) (matching : Match A) where
  -- behind all heads
  pub end_counts : (b : Bool) (told : ℕ) → told < 2 ^ 64 → length rule.heads ≤ level → ((m : Subst) → AgreesWith matching m → b ≡ entering h r rule.guard partners ([], m)) → JoinCounts rows h r rule place own level partners matching b told told
  end_counts b told small past enters a used m owns known agrees =
      counts_same h r rule.guard partners (trail rows a place (drop level rule.heads) used level m) (Some ([], m) ∷ []) b told told (trail_end rows a place (drop level rule.heads) used level m (drop_all level rule.heads past))
      (counts_whole h r rule.guard partners ([], m) b told small (enters m agrees))

  module _ (x : Head) (at : slice_get rule.heads level ≡ Some x) where
    pub at_own : (longer : List ℕ) (b : Bool) (told now : ℕ) → longer ≡ partners ++ own ∷ [] → (level == place) ≡ true → JoinCounts rows h r rule place own (level + 1) longer matching b told now → JoinCounts rows h r rule place own level partners matching b told now
    at_own longer b told now next here j a used m owns known agrees =
        let hs : List Head = drop (level + 1) rule.heads in
        let longer_is : longer ≡ partners ++ a.0 ∷ [] = next ∙ ap (λ (i : ℕ). partners ++ i ∷ []) (sym owns) in
        let further : Trail = trail rows a place hs (a.0 ∷ used) (level + 1) m in
        counts_same h r rule.guard partners (trail rows a place (drop level rule.heads) used level m) (after_each a further) b told now (trail_own rows a place x hs used level m (drop level rule.heads) (drop_at rule.heads level x at) here)
        (counts_after h r rule.guard partners a longer further b told now longer_is (j a (a.0 ∷ used) m owns (used_next used partners longer a.0 longer_is known) agrees))

    -- the rows that some test keeps are enough
    pub from_walk : (keep : Row → Bool) (b : Bool) (told mid now : ℕ) → (level == place) ≡ false → mid ≡ capped (told + 1) → ((m : Subst) → AgreesWith matching m → (c : Row) → keep c ≡ false → fit_atom x.atom c.1 m ≡ None)
        → WalkCounts rows h r rule place own level partners matching x.atom (filter keep rows) b mid now → JoinCounts rows h r rule place own level partners matching b told now
    from_walk keep b told mid now other one enough w a used m owns known agrees =
        let hs : List Head = drop (level + 1) rule.heads in
        let f : Row → Trail = λ c. trail_after rows a place hs used level m x.atom c in
        counts_same h r rule.guard partners (trail rows a place (drop level rule.heads) used level m) (None ∷ flat_map f (filter keep rows)) b told now
        (trail_here rows a place x hs used level m (drop level rule.heads) (drop_at rule.heads level x at) other
        ∙ ap (λ (t : Trail). None ∷ t) (sym (flat_map-filter f keep rows (λ c out. after_misfit rows a place hs used level m x.atom c (enough m agrees c out)))))
        (counts_more h r rule.guard partners (flat_map f (filter keep rows)) b told mid now one (w a used m owns known agrees))

module _ (rows : List Row) (h : History) (r : ℕ) (rule : Rule) (place : ℕ) (own : Head) (a : Row) where
  -- after the match of the own head
  pub own_counts : (m : Subst) (b : Bool) (told now : ℕ) → fit_atom own.atom a.1 [] ≡ Some m → Counts h r rule.guard [] (trail rows a place rule.heads [] 0 m) b told now → Counts h r rule.guard [] (own_trail rows rule place own a) b told now
  own_counts m b told now fit f = counts_same h r rule.guard [] (own_trail rows rule place own a) (trail rows a place rule.heads [] 0 m) b told now (ap (after_own (trail rows a place rule.heads [] 0)) fit) f

  -- and where it does not match
  pub own_counts_none : (told : ℕ) → told < 2 ^ 64 → fit_atom own.atom a.1 [] ≡ None → Counts h r rule.guard [] (own_trail rows rule place own a) false told told
  own_counts_none told small fit = counts_same h r rule.guard [] (own_trail rows rule place own a) [] false told told (ap (after_own (trail rows a place rule.heads [] 0)) fit) (counts_none h r rule.guard [] told small)

  -- from the beginning, these are the partial lists of the definitions
  pub partial_counts : (b : Bool) (told now : ℕ) → slice_get rule.heads place ≡ Some own → Counts h r rule.guard [] (own_trail rows rule place own a) b told now → now ≡ capped (told + partial_lists rows h r rule place a)
  partial_counts b told now at f = f.partial ∙ ap (λ (o : Option Head). capped (told + partial_with rows h r rule place a o)) (sym at)
