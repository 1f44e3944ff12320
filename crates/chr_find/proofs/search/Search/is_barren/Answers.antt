use Rattle.std.proofs.Common.{◌≡◌, ◌∙◌, ap, arith, false, sym}
use Rattle.std.proofs.lemmas.Bool.{not-true}
use Rattle.chr_semantics.specs.Match as semantics
use Rattle.chr_semantics.specs.Match.{fit_atom}
use Rattle.chr_semantics.specs.Program.{Atom}
use Rattle.chr_term.specs.TermView.{atom_view}
use Rattle.chr_find.specs.PlanView.{lookups_of}
use Rattle.chr_find.specs.IndexKeys.{in_bucket}
use Rattle.chr_find.specs.Shown.{any_new, bucket_rows}
use Rattle.chr_find.proofs.Barren.{bare_misfits}
use Rattle.chr_find.proofs.RuleHeads.{head_is}
use Rattle.chr_find.proofs.Walk.{walk_shown}
use Rattle.chr_find.proofs.search.Search.is_barren.Goals as goal

pub returns : goal.returns
returns g c found x at rows shown m agrees =
    let s = c.args.self.now in
    let list = c.some_bucket_for-bucket.result in
    let head : x.atom ≡ atom_view c.index.result.now.0 c.index.result.now.1.items = head_is s.rule.now.heads.items s.rule.now.passive.items c.args.level c.index.result.now x (omega (arith, c.requires)) c.index.ensures at in
    let bare : any_new 0 (bucket_rows list (lookups_of s.plan.now) rows) ≡ false =
    sym (ap (any_new 0) (c.rows.ensures.rows ∙ walk_shown (lookups_of s.plan.now) list s.rows.now rows c.rows.ensures.ascending shown.rises shown.shows)) ∙ (sym c.has_new.ensures ∙ not-true c.has_new.result found) in
    bare_misfits (λ (row : semantics.Row). in_bucket (lookups_of s.plan.now row.1.sym) row.1 list) x.atom m rows bare
    (λ row out. ap (λ (h : Atom). fit_atom h row.1 m) (head ∙ ap (atom_view c.index.result.now.0) (sym c.as_slice.ensures.value)) ∙ c.some_bucket_for-bucket.ensures m agrees row out)
