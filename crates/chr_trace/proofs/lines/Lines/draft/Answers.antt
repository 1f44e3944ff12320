use Rattle.std.proofs.Common.{◌∙◌, ap, refl, sym, true≢false}
use Rattle.chr_term.proofs.Extensions.{extended_on}
use Rattle.chr_trace.specs.Lined.{LinesValue}
use Rattle.chr_trace.proofs.Lined.{is_whole, line_drafted, lined_fed, lined_on, made_fed, made_on}
use Rattle.chr_trace.proofs.lines.Lines.draft.Goals as goal

pub invariant_of-self : goal.invariant_of-self
invariant_of-self g c =
    let lines = c.self.inside in
    (lined_on lines.text.items lines.ends.items c.drop_draft.new.text.items c.write.new.out.items lines.ends.items c.self.invariant.0 c.drop_draft.ensures c.in_err-write.ensures.kept refl, λ is. absurd (true≢false (sym is)))

pub returns-in_err-write-clause-made : goal.returns-in_err-write-clause-made
returns-in_err-write-clause-made g c =
    let lines = c.self.inside in
    made_on lines.text.items lines.ends.items c.drop_draft.new.text.items c.write.new.out.items lines.ends.items c.self.invariant.0 c.drop_draft.ensures c.in_err-write.ensures.kept refl ∙ ap (λ (v : LinesValue). v.made) c.self.view_is

pub invariant_of-self-in_err-end_draft : goal.invariant_of-self-in_err-end_draft
invariant_of-self-in_err-end_draft g c =
    let lines = c.self.inside in
    let on = extended_on _ _ _ c.in_ok-write.ensures.kept c.in_err-end_draft.ensures.kept in
    (lined_on lines.text.items lines.ends.items c.drop_draft.new.text.items c.end_draft.new.text.items c.end_draft.new.ends.items c.self.invariant.0 c.drop_draft.ensures on c.in_err-end_draft.ensures.ends, λ is. absurd (true≢false (sym is)))

pub returns-in_err-end_draft-clause-made : goal.returns-in_err-end_draft-clause-made
returns-in_err-end_draft-clause-made g c =
    let lines = c.self.inside in
    let on = extended_on _ _ _ c.in_ok-write.ensures.kept c.in_err-end_draft.ensures.kept in
    made_on lines.text.items lines.ends.items c.drop_draft.new.text.items c.end_draft.new.text.items c.end_draft.new.ends.items c.self.invariant.0 c.drop_draft.ensures on c.in_err-end_draft.ensures.ends ∙ ap (λ (v : LinesValue). v.made) c.self.view_is

pub invariant_of-self-2 : goal.invariant_of-self-2
invariant_of-self-2 g c =
    let lines = c.self.inside in (
      lined_fed lines.text.items lines.ends.items c.drop_draft.new.text.items c.write.new.out.items c.end_draft.new.text.items c.end_draft.new.ends.items c.self.invariant.0 c.drop_draft.ensures c.in_ok-write.ensures.kept c.in_ok-end_draft.ensures.ok c.in_ok-end_draft.ensures.ends,
      λ is. (is_whole lines.text.items lines.ends.items c.drop_draft.new.text.items c.write.new.out.items c.end_draft.new.text.items c.end_draft.new.ends.items c.self.invariant.0 c.drop_draft.ensures c.in_ok-write.ensures.kept c.in_ok-end_draft.ensures.ok c.in_ok-end_draft.ensures.ends, c.in_ok-end_draft.ensures.room),
    )

pub returns-clause-made : goal.returns-clause-made
returns-clause-made g c =
    let lines = c.self.inside in
    made_fed lines.text.items lines.ends.items c.drop_draft.new.text.items c.write.new.out.items c.end_draft.new.text.items c.end_draft.new.ends.items c.self.invariant.0 c.drop_draft.ensures c.in_ok-write.ensures.kept c.in_ok-end_draft.ensures.ok c.in_ok-end_draft.ensures.ends ∙ ap (λ (v : LinesValue). v.made) c.self.view_is

pub returns-clause-ok : goal.returns-clause-ok
returns-clause-ok g c names vars a i is =
    let lines = c.self.inside in
    line_drafted lines.text.items lines.ends.items c.drop_draft.new.text.items c.write.new.out.items c.end_draft.new.text.items c.end_draft.new.ends.items _ c.self.invariant.0 c.drop_draft.ensures (c.in_ok-write.ensures.ok names vars a i is) c.in_ok-end_draft.ensures.ok c.in_ok-end_draft.ensures.ends
