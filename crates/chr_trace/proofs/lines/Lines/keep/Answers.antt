use Rattle.std.proofs.Common.{◌≡◌, ◌∙◌, ◌++◌, ◌∷◌, [], ap, is_some, length, subst, sym, true, true≢false}
use Rattle.chr_trace.specs.Lined.{IsLined, LinesValue, drafted}
use Rattle.chr_trace.proofs.Lined.{is_drafted, lined_kept, made_kept}
use Rattle.chr_trace.proofs.lines.Lines.keep.Goals as goal

pub invariant_of-self : goal.invariant_of-self
invariant_of-self g c =
    let lines = c.self.inside in
    let whole : lines.is_drafted ≡ true = is_drafted lines.is_drafted _ (ap (λ (v : LinesValue). is_some v.draft) c.self.view_is ∙ c.requires) in
    let ends = c.push_reserved.ensures.items ∙ ap (λ n. lines.ends.items ++ n ∷ []) (c.len.ensures ∙ lines.text.ok.0) in
    (subst (λ es. IsLined lines.text.items es) (sym ends) (lined_kept lines.text.items lines.ends.items c.self.invariant.0 (c.self.invariant.1 whole).0), λ is. absurd (true≢false (sym is)))

pub returns : goal.returns
returns g c line is =
    let lines = c.self.inside in
    let whole : lines.is_drafted ≡ true = is_drafted lines.is_drafted _ (ap (λ (v : LinesValue). is_some v.draft) c.self.view_is ∙ c.requires) in
    let ends = c.push_reserved.ensures.items ∙ ap (λ n. lines.ends.items ++ n ∷ []) (c.len.ensures ∙ lines.text.ok.0) in
    made_kept lines.text.items lines.ends.items c.push_reserved.new.self.items line lines.is_drafted c.self.invariant.0 (c.self.invariant.1 whole).0 whole (ap (λ (v : LinesValue). v.draft) c.self.view_is ∙ is) ends
    ∙ ap (λ (v : LinesValue). v.made ++ line ∷ []) c.self.view_is
