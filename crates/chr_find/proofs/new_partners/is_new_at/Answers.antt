use Rattle.std.proofs.Common.{◌≡◌, ◌∙◌, ◌==◌, ap, arith, filter, sym}
use Rattle.std.proofs.lemmas.Bool.Decides.{Decides-eqb}
use Rattle.chr_semantics.specs.Match as semantics
use Rattle.chr_semantics.specs.Program.{Atom}
use Rattle.chr_term.specs.TermView.{atom_view}
use Rattle.chr_find.specs.PlanView.{lookups_of}
use Rattle.chr_find.specs.Shown.{any_new}
use Rattle.chr_find.specs.declared.bucket.Bucket.TheVariants.{Symbol}
use Rattle.chr_find.proofs.NewRows.{old_rows, planned_rows}
use Rattle.chr_find.proofs.RuleHeads.{head_is}
use Rattle.chr_find.proofs.Walk.{walk_shown}
use Rattle.chr_find.proofs.new_partners.is_new_at.Goals as goal

pub returns : goal.returns
returns g c old rows shown x at =
    let ps = lookups_of c.args.plan.now in
    let f = c.index.result.now.0 in
    let head : x.atom ≡ atom_view f c.index.result.now.1.items = head_is c.args.rule.now.heads.items c.args.rule.now.passive.items c.args.level c.index.result.now x (omega (arith, c.requires)) c.index.ensures at in (
      (λ here. absurd (c.if-level-place.false ((Decides-eqb c.args.level c.args.place).0 here))),
      λ other. old_rows c.args.from x.atom.sym rows
          (ap (λ (a : Atom). any_new c.args.from (filter (λ (d : semantics.Row). a.sym == d.1.sym) rows)) head
          ∙ (sym (ap (any_new c.args.from) (c.rows.ensures.rows ∙ walk_shown ps (Symbol f) c.args.rows.now rows c.rows.ensures.ascending shown.rises shown.shows ∙ planned_rows ps f rows (sym c.has_by_symbol.ensures ∙ c.if-not-has_by_symbol.false)))
          ∙ (sym c.has_new.ensures ∙ old))),
    )
