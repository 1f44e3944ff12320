use Rattle.std.proofs.Common.{◌≡◌, take}
use Rattle.chr_term.specs.Texts.{texts_of}
use Rattle.chr_term.proofs.var_names.copy_texts.Given as goal

abbrev pub invariant-loop-text : goal.invariant-loop-text
invariant-loop-text g l = texts_of l.copied.items ≡ texts_of (take l.text-index l.texts)
