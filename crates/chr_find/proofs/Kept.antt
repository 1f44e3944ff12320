-- Places where nothing was changed.
use Rattle.std.proofs.Common.{◌≡◌, ◌∙◌, ◌+◌, ◌<◌, ℕ, Bool, true, false, cond, List, [], ◌∷◌, ap, get_or, length, sym, refl, take, drop}
use Rattle.std.proofs.Math.Bool.{or-false, or-true}
use Rattle.std.proofs.Math.Seq.{take-suc}
use Rattle.std.specs.Prelude.{◌==◌, ◌&&◌, ◌||◌, Result, Ok, Err, OnErr, option_map}
use Rattle.std.specs.List.{list_any}
use Rattle.std.proofs.lemmas.List.{take-append-drop}
use Rattle.std.proofs.lemmas.List.Folds.{list_any-append}
use Rattle.chr_store.specs.Rows.{row_atom}
use Rattle.chr_store.specs.declared.row.Row.{Row}
use Rattle.chr_find.specs.declared.index.Index.{Index}
use Rattle.chr_find.specs.PlanView.{is_lookup}
use Rattle.chr_find.specs.IndexKeys.{IndexKey, AreKept, AreSet, AreSetAt, has_at, in_bucket, held, is_key_of, row_if}
use Rattle.chr_semantics.specs.Program.{Atom}
use Rattle.chr_semantics.specs.Keys.{arg_at, is_root, root_of}
use Rattle.chr_find.specs.RootView.{root_view}
use Rattle.chr_find.specs.declared.bucket.Bucket.{Bucket}
use Rattle.chr_find.specs.declared.bucket.Bucket.TheVariants.{All, Open, Symbol, At}
use Rattle.chr_find.specs.declared.plan.Lookup.{Lookup}
use Rattle.chr_find.proofs.Numbers.{next_is}
use Rattle.chr_find.specs.declared.plan.Lookup.TheVariants.{Position, Symbol as Alone}

-- with fewer tests that may hold
fewer : (x y t d z : Bool) → (x && (y && ((t || d) && z))) ≡ false → (x && (y && (t && z))) ≡ false
fewer x y true d z e = e
fewer true true false d z e = refl
fewer true false false d z e = refl
fewer false y false d z e = refl

fewer_alone : (x y t d : Bool) → (x && (y && (t || d))) ≡ false → (x && (y && t)) ≡ false
fewer_alone x y true d e = e
fewer_alone true true false d e = refl
fewer_alone true false false d e = refl
fewer_alone false y false d e = refl

-- an index among all is among the first or the others
among : (x : Lookup) (k : ℕ) (ps : List Lookup) → list_any (is_lookup x) ps ≡ (list_any (is_lookup x) (take k ps) || list_any (is_lookup x) (drop k ps))
among x k ps = ap (list_any (is_lookup x)) (sym (take-append-drop k ps)) ∙ list_any-append (is_lookup x) (take k ps) (drop k ps)

less_lists : (k : ℕ) (ps : List Lookup) (r : Atom) (x : Bool) (l : Bucket) → (x && in_bucket ps r l) ≡ false → (x && in_bucket (take k ps) r l) ≡ false
less_lists k ps r x All e = e
less_lists k ps r x Open e = e
less_lists k ps r x (Symbol f) e = fewer_alone x (f.0 == r.sym) _ _ (ap (λ (b : Bool). x && (f.0 == r.sym && b)) (sym (among Alone k ps)) ∙ e)
less_lists k ps r x (At f p m) e =
    let root = is_root (root_view m) (option_map root_of (arg_at r.args p)) in
    fewer x (f.0 == r.sym) _ _ root (ap (λ (b : Bool). x && (f.0 == r.sym && (b && root))) (sym (among (Position p) k ps)) ∙ e)

-- an index among one more is among those, or is that one
among_more : (x : Lookup) (ps : List Lookup) (k : ℕ) (d : Lookup) → k < length ps → list_any (is_lookup x) (take (k + 1) ps) ≡ (list_any (is_lookup x) (take k ps) || is_lookup x (get_or ps k d))
among_more x ps k d lt =
    ap (λ (j : ℕ). list_any (is_lookup x) (take j ps)) (next_is k)
    ∙ (ap (list_any (is_lookup x)) (take-suc ps k d lt)
    ∙ (list_any-append (is_lookup x) (take k ps) (get_or ps k d ∷ [])
    ∙ ap (λ (b : Bool). list_any (is_lookup x) (take k ps) || b) (or-false (is_lookup x (get_or ps k d)))))

-- a constraint is in a bucket by these lookups, or by one more
by_symbol : (s h t d : Bool) → h ≡ (t || d) → (s && h) ≡ ((s && t) || (s && d))
by_symbol true h t d e = e
by_symbol false h t d e = refl

by_root : (s h t d z : Bool) → h ≡ (t || d) → (s && (h && z)) ≡ ((s && (t && z)) || (s && (d && z)))
by_root true h true d z e = ap (λ (b : Bool). b && z) e ∙ sym (here z d)
  where
    here : (y b : Bool) → (y || (b && y)) ≡ y
    here true b = refl
    here false true = refl
    here false false = refl
by_root true h false d z e = ap (λ (b : Bool). b && z) e
by_root false h t d z e = refl

in_more : (ps : List Lookup) (k : ℕ) (d : Lookup) (a : Atom) → k < length ps → (l : Bucket) → in_bucket (take (k + 1) ps) a l ≡ (in_bucket (take k ps) a l || has_at (get_or ps k d) a l)
in_more ps k d a lt All = refl
in_more ps k d a lt Open = sym (or-false _)
in_more ps k d a lt (Symbol f) = by_symbol (f.0 == a.sym) _ _ _ (among_more Alone ps k d lt)
in_more ps k d a lt (At f p m) = by_root (f.0 == a.sym) _ _ _ (is_root (root_view m) (option_map root_of (arg_at a.args p))) (among_more (Position p) ps k d lt)

twice : {X : Type 0} (i h t d : Bool) (x o m : X) → h ≡ (t || d) → m ≡ cond (i && t) x o → cond (i && d) x m ≡ cond (i && h) x o
twice true h t true x o m e is = ap (λ (b : Bool). cond b x o) (sym (or-true t)) ∙ ap (λ (b : Bool). cond b x o) (sym e)
twice true h t false x o m e is = is ∙ ap (λ (b : Bool). cond b x o) (sym (or-false t)) ∙ ap (λ (b : Bool). cond b x o) (sym e)
twice false h t d x o m e is = is

module _ {A : Type 0} where
  less_places : (k : ℕ) (ps : List Lookup) (i : ℕ) (r : Row A) (q : IndexKey) → is_key_of ps i r q ≡ false → is_key_of (take k ps) i r q ≡ false
  less_places k ps i r q e = less_lists k ps (row_atom r) (q.id.0 == i) q.bucket e

  -- the lists by one more index are set
  pub set_more : (ps : List Lookup) (k : ℕ) (d : Lookup) (i : ℕ) (r : Row A) (b : Bool) (new mid old : Index A) → k < length ps → AreSet (take k ps) i r b mid old → AreSetAt (get_or ps k d) i r b new mid → AreSet (take (k + 1) ps) i r b new old
  set_more ps k d i r b new mid old lt so_far more q =
      more q ∙ twice (q.id.0 == i) (in_bucket (take (k + 1) ps) (row_atom r) q.bucket) (in_bucket (take k ps) (row_atom r) q.bucket) (has_at (get_or ps k d) (row_atom r) q.bucket) (row_if b r) (held old q) (held mid q)
      (in_more ps k d (row_atom r) lt q.bucket) (so_far q)

  -- where the lists of some of the positions are set
  pub kept_from : (k : ℕ) (ps : List Lookup) (i : ℕ) (r : Row A) (b : Bool) (new old : Index A) → AreSet (take k ps) i r b new old → AreKept ps i r new old
  kept_from k ps i r b new old h q e = h q ∙ ap (λ (t : Bool). cond t (row_if b r) (held old q)) (less_places k ps i r q e)

  pub kept_to : {X E : Type 0} (ps : List Lookup) (i : ℕ) (r : Row A) (new mid old : Index A) (a : Result X E) → new ≡ mid → AreKept ps i r mid old → OnErr a (AreKept ps i r new old)
  kept_to ps i r new mid old (Ok x) e h = tt
  kept_to ps i r new mid old (Err x) e h = λ q f. ap (λ (es : Index A). held es q) e ∙ h q f
