use Rattle.std.proofs.Common.{◌∙◌, Option, ap, sym}
use Rattle.chr_semantics.specs.Program.{Atom}
use Rattle.chr_store.specs.KeyView.{keys_view}
use Rattle.chr_store.specs.Numbers.{numbers}
use Rattle.chr_find.specs.LentKeysView.{is_keyed_at}
use Rattle.chr_find.specs.TableView.{atom_at}
use Rattle.chr_find.proofs.KeyedRows.{rows_keyed_are}
use Rattle.chr_find.proofs.snapshot.Snapshot.rows_keyed.Goals as goal

pub returns : goal.returns
returns g c = λ q is.
    let t = c.args.self.now.table in
    rows_keyed_are c.args.sym.0 (keys_view c.args.key) q.rows is.rows.rises (numbers c.of.result.now) c.of.ensures.ascending
    (λ i. c.of.ensures.ids (atom_at t) t.listed i ∙ ap (λ (o : Option Atom). is_keyed_at o c.args.sym.0 (keys_view c.args.key)) (sym (is.rows.same i)))
