-- What a search finds that goes on at a bookmark.
use Rattle.std.proofs.Common.{◌≡◌, ◌∙◌, ◌==◌, ℕ, Bool, true, List, Option, Some, subst, sym}
use Rattle.std.proofs.lemmas.Bool.Decides.{Decides-eqb}
use Rattle.std.proofs.lemmas.List.Elements.{All-same}
use Rattle.std.specs.Prelude.{slice_get}
use Rattle.chr_semantics.proofs.Lists.{All-got}
use Rattle.chr_semantics.specs.Program.{Program}
use Rattle.chr_rules.specs.RuleView.{rule_view}
use Rattle.chr_find.specs.declared.active.Active.{Active}
use Rattle.chr_find.specs.declared.active.Cursor.{Cursor}
use Rattle.chr_store.specs.declared.id.Id.{Id}
use Rattle.chr_base.specs.Model.{BaseModel}
use Rattle.chr_base.specs.Searching.{FindsFirst, FindsNext}
use Rattle.chr_base.specs.Bookmarks.{AreAhead, IsAhead}
use Rattle.chr_base.specs.declared.bookmark.Bookmark.{Bookmark}

-- what a search finds that goes on at a bookmark is the first
pub found_on : {A : Type 0} (rules : Program) (b : BaseModel) (s : Active A) (c : Cursor) (found : Option (List ℕ)) → slice_get rules s.number ≡ Some (rule_view s.rule.now) → IsAhead rules b (record { id = s.id; number = s.number; place = s.place; cursor = c }) → FindsNext b s c found → FindsFirst b s found
found_on rules b s c found is ahead h = λ a e. h a e (ahead.ahead (rule_view s.rule.now) is a e)

-- a bookmark of a list
pub ahead_got : (rules : Program) (b : BaseModel) (m : Bookmark) (all bookmarks : List Bookmark) (k : ℕ) → all ≡ bookmarks → Some m ≡ slice_get all k → AreAhead rules b bookmarks → IsAhead rules b m
ahead_got rules b m all bookmarks k is at h = All-got (IsAhead rules b) all k m (sym at) (All-same (IsAhead rules b) all bookmarks is h)

-- the bookmark of a constraint at a head of a rule
pub ahead_at : (rules : Program) (b : BaseModel) (m : Bookmark) (id : Id) (number place : ℕ) (same : Bool) → same ≡ (m.id.0 == id.0) → same ≡ true → m.number ≡ number → m.place ≡ place → IsAhead rules b m → IsAhead rules b (record { id = id; number = number; place = place; cursor = m.cursor })
ahead_at rules b m id number place same test is_id is_number is_place h =
    let one : m.id.0 ≡ id.0 = (Decides-eqb m.id.0 id.0).0 (sym test ∙ is_id) in
    let whole : m ≡ record { id = id; number = number; place = place; cursor = m.cursor } = λ k. record { id = record { 0 = one k }; number = is_number k; place = is_place k; cursor = m.cursor } in
    subst (IsAhead rules b) whole h
