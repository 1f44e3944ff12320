-- What a printer makes of terms.
use Rattle.std.specs.Prelude.{List, ℕ}
use Rattle.chr_semantics.specs.Names.{name_at}
use Rattle.chr_semantics.specs.Print.{Printing, node_printing, printing_of, printings_of}
use Rattle.chr_term.specs.TermView.{trees_view, view}
use Rattle.chr_term.specs.declared.printer.Printer.{Printer}
use Rattle.chr_term.specs.declared.term.Sym.{Sym}
use Rattle.chr_term.specs.declared.term.Term.{Term}

abbrev pub printing_by : {A : Type 0} → Printer A → Term A → Printing
printing_by p t = printing_of p.names.now p.vars.now (view t)

abbrev pub printings_by : {A : Type 0} → Printer A → List (Term A) → List Printing
printings_by p ts = printings_of p.names.now p.vars.now (trees_view ts)

abbrev pub node_text_by : {A : Type 0} → Printer A → Sym → List (Term A) → List ℕ
node_text_by p f ts = (node_printing p.names.now f.0 (printings_by p ts)).text

abbrev pub name_by : {A : Type 0} → Printer A → Sym → List ℕ
name_by p f = name_at p.names.now f.0
