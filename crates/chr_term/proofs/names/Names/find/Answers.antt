use Rattle.std.proofs.Common.{sym, ap, ◌∙◌, option_map}
use Rattle.chr_term.proofs.Tables.{find_absent, find_entry, find_at}
use Rattle.chr_term.proofs.Texts.{text_absent, text_found}
use Rattle.chr_term.proofs.names.Names.find.Goals as goal

pub returns-in_err-text-clause-symbol : goal.returns-in_err-text-clause-symbol
returns-in_err-text-clause-symbol g c =
    ap (option_map (λ sym'. sym'.0)) c.from_residual.ensures ∙ sym (find_absent _ _ c.self.invariant _ c.self.view_is _ _ (text_absent c.self.inside.texts.keys c.args.name.now (sym c.get_index_of.ensures.index ∙ c.in_err-text.was)))

pub returns-in_err-text-clause-once : goal.returns-in_err-text-clause-once
returns-in_err-text-clause-once g c = λ k at. returns-in_err-text-clause-symbol g c ∙ find_at _ _ c.self.invariant _ c.self.view_is k _ _ at

pub returns-in_err-place-clause-symbol : goal.returns-in_err-place-clause-symbol
returns-in_err-place-clause-symbol g c =
    ap (option_map (λ sym'. sym'.0)) c.from_residual-in_err-place.ensures ∙ sym c.in_err-place.was ∙ c.get_index_of-2.ensures.index ∙ find_entry _ _ c.self.invariant _ c.self.view_is _ _ (text_found _ _ _ (sym c.get_index_of.ensures.index ∙ c.in_ok-text.was))

pub returns-in_err-place-clause-once : goal.returns-in_err-place-clause-once
returns-in_err-place-clause-once g c = λ k at. returns-in_err-place-clause-symbol g c ∙ find_at _ _ c.self.invariant _ c.self.view_is k _ _ at

pub returns-clause-symbol : goal.returns-clause-symbol
returns-clause-symbol g c =
    sym c.in_ok-place.was ∙ c.get_index_of-2.ensures.index ∙ find_entry _ _ c.self.invariant _ c.self.view_is _ _ (text_found _ _ _ (sym c.get_index_of.ensures.index ∙ c.in_ok-text.was))

pub returns-clause-once : goal.returns-clause-once
returns-clause-once g c = λ k at. returns-clause-symbol g c ∙ find_at _ _ c.self.invariant _ c.self.view_is k _ _ at
