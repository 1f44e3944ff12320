use Rattle.std.proofs.Common.{ap, ◌∙◌, arith}
use Rattle.chr_term.specs.Entries.{entry_names}
use Rattle.chr_term.specs.Texts.{texts_of}
use Rattle.chr_term.proofs.Tables.{entry_names-with_text, entry_names-interned, IsTable-with_text, IsTable-interned, length-entries, symbol_of-interned}
use Rattle.chr_term.proofs.Outcomes.{on_err}
use Rattle.chr_term.proofs.names.Names.intern.Goals as goal

pub invariant_of-self : goal.invariant_of-self
invariant_of-self g c = rw c.in_err-text.ensures.err c.self.invariant

pub returns-in_err-text-clause-err : goal.returns-in_err-text-clause-err
returns-in_err-text-clause-err g c = on_err _ _ (ap (λ keys. entry_names (texts_of keys) c.self.inside.entries.keys) c.in_err-text.ensures.err ∙ c.self.view_is)

pub invariant_of-self-in_err-place : goal.invariant_of-self-in_err-place
invariant_of-self-in_err-place g c = rw (c.in_ok-text.ensures.ok, c.in_err-place.ensures.err) (IsTable-with_text _ _ c.self.invariant c.args.name.now)

pub returns-in_err-place-clause-err : goal.returns-in_err-place-clause-err
returns-in_err-place-clause-err g c = on_err _ _
    (ap (entry_names (texts_of c.place_of.new.texts.keys)) c.in_err-place.ensures.err ∙ ap (λ texts. entry_names texts c.self.inside.entries.keys) c.in_ok-text.ensures.ok ∙ entry_names-with_text _ _ c.self.invariant c.args.name.now ∙ c.self.view_is)

pub invariant_of-self-2 : goal.invariant_of-self-2
invariant_of-self-2 g c = IsTable-interned _ _ c.self.invariant _ (record { text = c.in_ok-text.text; arity = c.args.arity }) _ _ c.in_ok-text.ensures.ok c.in_ok-place.ensures.keys c.in_ok-text.ensures.place (omega (arith, length-entries _ _ _ c.self.view_is, c.requires)) c.in_ok-place.ensures.unique

pub returns-clause-ok : goal.returns-clause-ok
returns-clause-ok g c = entry_names-interned _ _ c.self.invariant _ (record { text = c.in_ok-text.text; arity = c.args.arity }) _ _ c.in_ok-text.ensures.ok c.in_ok-place.ensures.keys c.in_ok-text.ensures.place _ c.self.view_is

pub returns-clause-place : goal.returns-clause-place
returns-clause-place g c =
    let stored = c.in_ok-place.ensures.stored in
    symbol_of-interned _ _ c.self.invariant _ (record { text = c.in_ok-text.text; arity = c.args.arity }) _ _ c.in_ok-text.ensures.ok c.in_ok-place.ensures.keys c.in_ok-text.ensures.place stored.0 c.in_ok-place.place stored.1 stored.2 (invariant_of-self-2 g c)
