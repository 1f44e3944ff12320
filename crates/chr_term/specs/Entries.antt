-- The names that a table of texts and entries stands for.
use Rattle.std.specs.Prelude.{ℕ, ◌<◌, ◌≤◌, Bool, ◌==◌, ◌&&◌, List, [], map, length, All, bytes_eq}
use Rattle.std.specs.List.{slice_index_or, IsDistinct}
use Rattle.chr_semantics.specs.Names.{Names}
use Rattle.chr_term.specs.declared.names.StoredSymbol.{StoredSymbol}

abbrev pub entry_eq : StoredSymbol → StoredSymbol → Bool
entry_eq a b = a.text == b.text && a.arity == b.arity

abbrev pub entry_name : List (List ℕ) → StoredSymbol → List ℕ × ℕ
entry_name texts e = (slice_index_or texts e.text [], e.arity)

abbrev pub entry_names : List (List ℕ) → List StoredSymbol → Names
entry_names texts = map (entry_name texts)

-- texts and entries stand once each, every entry has a text, and the entries are few enough to be numbered
pub record IsTable (texts : List (List ℕ)) (entries : List StoredSymbol) : Type 0 where
  pub within : All (λ e. e.text < length texts) entries
  pub few : length entries ≤ 4294967295
  pub texts_once : IsDistinct bytes_eq texts
  pub entries_once : IsDistinct entry_eq entries
