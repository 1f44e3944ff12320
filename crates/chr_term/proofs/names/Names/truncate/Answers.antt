use Rattle.std.proofs.Common.{◌≡◌, ◌∙◌, ◌<◌, ◌≤◌, List, ap, arith, length, subst, sym, take, ℕ}
use Rattle.std.specs.Prelude.{All, string_bytes}
use Rattle.std.specs.declared.string.String.{String}
use Rattle.std.proofs.lemmas.List.{length-map, take-map}
use Rattle.chr_term.specs.Entries.{IsTable, entry_names}
use Rattle.chr_term.specs.Texts.{texts_of}
use Rattle.chr_term.specs.declared.names.StoredSymbol.{StoredSymbol}
use Rattle.chr_term.proofs.Tables.{IsTable-first, entry_names-first}
use Rattle.chr_term.proofs.names.Names.truncate.Goals as goal

-- what the texts and the entries are after both were cut
module _ {Z : Type 0} (keys cut_keys : List (String Z)) (entries cut_entries slice : List StoredSymbol) (is : IsTable (texts_of keys) entries) (len used : ℕ) (texts_are : cut_keys ≡ take used keys) (entries_are : cut_entries ≡ take len entries)
    (slice_is : slice ≡ cut_entries) (few : used ≤ length keys) (used_all : All (λ (e : StoredSymbol). e.text < used) slice) where
  within : used ≤ length (texts_of keys)
  within = omega (arith, few, length-map keys string_bytes)

  all : All (λ (e : StoredSymbol). e.text < used) (take len entries)
  all = subst (All (λ (e : StoredSymbol). e.text < used)) (slice_is ∙ entries_are) used_all

  texts_cut : take used (texts_of keys) ≡ texts_of cut_keys
  texts_cut = take-map string_bytes used keys ∙ ap texts_of (sym texts_are)

  pub table : IsTable (texts_of cut_keys) cut_entries
  table = subst (IsTable (texts_of cut_keys)) (sym entries_are) (subst (λ (ts : List (List ℕ)). IsTable ts (take len entries)) texts_cut (IsTable-first (texts_of keys) entries is len used within all))

  pub names : entry_names (texts_of cut_keys) cut_entries ≡ take len (entry_names (texts_of keys) entries)
  names = ap (entry_names (texts_of cut_keys)) entries_are ∙ (ap (λ (ts : List (List ℕ)). entry_names ts (take len entries)) (sym texts_cut) ∙ entry_names-first (texts_of keys) entries is len used within all)

pub invariant_of-self : goal.invariant_of-self
invariant_of-self g c =
    table c.self.inside.texts.keys c.truncate-2.new.self.keys c.self.inside.entries.keys c.truncate.new.self.keys c.as_slice.result.now c.self.invariant c.args.len c.texts_used-used.result c.truncate-2.ensures.keys c.truncate.ensures.keys c.as_slice.ensures.keys
    (omega (arith, c.texts_used-used.ensures.few, c.len.ensures.len)) c.texts_used-used.ensures.used

pub returns : goal.returns
returns g c =
    names c.self.inside.texts.keys c.truncate-2.new.self.keys c.self.inside.entries.keys c.truncate.new.self.keys c.as_slice.result.now c.self.invariant c.args.len c.texts_used-used.result c.truncate-2.ensures.keys c.truncate.ensures.keys c.as_slice.ensures.keys
    (omega (arith, c.texts_used-used.ensures.few, c.len.ensures.len)) c.texts_used-used.ensures.used
    ∙ ap (take c.args.len) c.self.view_is
