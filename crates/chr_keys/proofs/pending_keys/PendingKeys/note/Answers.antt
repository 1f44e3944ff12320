use Rattle.std.proofs.Common.{◌∙◌, refl}
use Rattle.chr_keys.specs.Keyed.{atom_in}
use Rattle.chr_keys.specs.Lists.{is_in_list}
use Rattle.chr_keys.specs.KeyChangeView.{changed_after}
use Rattle.chr_keys.specs.Changes.{after_all}
use Rattle.chr_keys.specs.PendingKeysView.{is_listed}
use Rattle.chr_keys.specs.SymbolKeys.{symbol_key_of}
use Rattle.chr_keys.specs.declared.key_change.KeyChange.{KeyChange}
use Rattle.chr_keys.proofs.Changes.{one_more}
use Rattle.chr_keys.proofs.KeyChanges.{change_alike, change_listed}
use Rattle.chr_keys.proofs.pending_keys.PendingKeys.note.Goals as goal

pub returns-clause-listed : goal.returns-clause-listed
returns-clause-listed g c = λ f k i.
    let s = c.args.self.now in
    let n : KeyChange = record { id = c.args.id; out = c.of_row-out.result; into = c.of_row-into.result } in
    one_more changed_after change_alike s.pending.left c.note.new.self.left n (is_in_list s.keys.lists) (symbol_key_of f k, i) c.note.ensures.left
    ∙ change_listed n (atom_in c.args.out) (atom_in c.args.into) (λ x. after_all changed_after s.pending.left (is_in_list s.keys.lists) x) (is_listed s) f k i c.of_row-out.ensures c.of_row-into.ensures refl
