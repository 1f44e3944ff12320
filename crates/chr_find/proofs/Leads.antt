-- What a walk comes to, from what it comes to on the parts of its rows.
use Rattle.std.proofs.Common.{◌≡◌, ◌∙◌, ◌^◌, ◌<◌, Bool, true, false, List, [], ◌++◌, refl, subst}
use Rattle.chr_bind.specs.declared.matching.Match.{Match}
use Rattle.chr_semantics.specs.Match as semantics
use Rattle.chr_semantics.specs.Search.{History}
use Rattle.chr_find.specs.SearchIs.{WalkLeads}
use Rattle.chr_find.specs.declared.search.Prefix.{Prefix}
use Rattle.chr_find.specs.declared.search.Reached.{Reached}
use Rattle.chr_find.specs.declared.search.Search.{Search}
use Rattle.chr_find.proofs.TrailVisits.{fits_first, fits_nothing, fits_second}
use Rattle.chr_find.proofs.Visits.{finds_first, finds_nothing, finds_second}

module _ {P A : Type 0} (h : History) (s : Search P A) (p : Prefix) where
  -- without rows nothing is found
  pub leads_nothing : (m : Match A) (walked : List semantics.Row) (r : Reached) → walked ≡ [] → r.tried.lists < 2 ^ 64 → r.tried.partial < 2 ^ 64 → WalkLeads h s p walked m m r r false
  leads_nothing m walked r none lists partial = record {
    finds = finds_nothing h s p m walked r.tried.lists none lists;
    same = λ e x. refl;
    fits = fits_nothing h s p m walked r.tried.partial none partial;
  }

  -- what is found among the first rows is found
  pub leads_first : (walked xs ys : List semantics.Row) (old new : Match A) (a b : Reached) → walked ≡ xs ++ ys → WalkLeads h s p xs old new a b true → WalkLeads h s p walked old new a b true
  leads_first walked xs ys old new a b is w = record {
    finds = finds_first h s p old walked xs ys true b.partners a.tried.lists b.tried.lists is refl w.finds;
    same = λ none. absurd (let no : true ≡ false = none in cc);
    fits = fits_first h s p old walked xs ys true a.tried.partial b.tried.partial is refl w.fits;
  }

  -- where nothing is found among them, it is what is found among those after them
  pub leads_on : (walked xs ys : List semantics.Row) (old mid new : Match A) (a b c : Reached) (found : Bool) → walked ≡ xs ++ ys → WalkLeads h s p xs old mid a b false → WalkLeads h s p ys mid new b c found → WalkLeads h s p walked old new a c found
  leads_on walked xs ys old mid new a b c found is v w = record {
    finds = finds_second h s p old mid walked xs ys false b.partners _ a.tried.lists b.tried.lists c.tried.lists is refl v.finds (v.same refl) w.finds;
    same = λ none x. w.same none x ∙ v.same refl x;
    fits = fits_second h s p old mid walked xs ys false found a.tried.partial b.tried.partial c.tried.partial is refl v.fits (v.same refl) w.fits;
  }

  -- the same of equal rows, and of an equal answer
  pub leads_equal : (walked xs : List semantics.Row) (old new : Match A) (a b : Reached) (found : Bool) → walked ≡ xs → WalkLeads h s p xs old new a b found → WalkLeads h s p walked old new a b found
  leads_equal walked xs old new a b found is w = subst (λ (rows : List semantics.Row). WalkLeads h s p rows old new a b found) is' w
    where
      is' : xs ≡ walked
      is' = rw is refl

  pub leads_as : (walked : List semantics.Row) (old new : Match A) (a b : Reached) (found known : Bool) → found ≡ known → WalkLeads h s p walked old new a b found → WalkLeads h s p walked old new a b known
  leads_as walked old new a b found known is w = subst (λ (f : Bool). WalkLeads h s p walked old new a b f) is w
