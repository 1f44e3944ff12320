use Rattle.std.proofs.Common.{Some, ◌∙◌, sym, ap}
use Rattle.chr_term.specs.Texts.{texts_of, with_text}
use Rattle.chr_term.proofs.Texts.{text_found, text_stands, with_text-found, texts_of-insert_key}
use Rattle.chr_term.proofs.names.place_of.Goals as goal

pub returns-in-Some-clause-ok : goal.returns-in-Some-clause-ok
returns-in-Some-clause-ok g c = sym (with_text-found _ _ _ (sym c.in-Some.ensures.index))

pub returns-in-Some-clause-place : goal.returns-in-Some-clause-place
returns-in-Some-clause-place g c = text_found _ _ _ (sym c.in-Some.ensures.index)

pub returns-in_ok-place-in-None-clause-ok : goal.returns-in_ok-place-in-None-clause-ok
returns-in_ok-place-in-None-clause-ok g c =
    ap texts_of c.in_ok-place-in-None.ensures.keys ∙ texts_of-insert_key c.args.texts.now.keys c.in_ok-from_str-in-None.field-0 ∙ ap (with_text (texts_of c.args.texts.now.keys)) c.in_ok-from_str-in-None.ensures.ok

pub returns-in_ok-place-in-None-clause-place : goal.returns-in_ok-place-in-None-clause-place
returns-in_ok-place-in-None-clause-place g c =
    let stored = c.in_ok-place-in-None.ensures.stored in
    text_stands c.insert_full.new.self.keys c.in_ok-from_str-in-None.field-0 stored.0 c.in_ok-place-in-None.place stored.1 stored.2 ∙ ap Some c.in_ok-from_str-in-None.ensures.ok
