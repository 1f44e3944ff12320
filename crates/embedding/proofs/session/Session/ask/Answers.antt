use Rattle.std.proofs.Common.{◌≡◌, ◌∙◌, ◌≤◌, subst, arith}
use Rattle.chr_semantics.specs.Accepted.{IsAcceptedQuery}
use Rattle.chr_semantics.specs.Checked.{Checked}
use Rattle.chr_semantics.specs.Names.{Names}
use Rattle.chr_semantics.specs.Outcome.{outcome_after}
use Rattle.chr_semantics.specs.Program.{Program}
use Rattle.chr_semantics.specs.declared.limits.TheConstants.{MAX_TRANSITIONS}
use Rattle.chr_rules.proofs.Each.{err_answers}
use Rattle.chr_rules.specs.Grown.{Grows}
use Rattle.chr_rules.specs.ProgramView.{names_of}
use Rattle.chr_rules.specs.RuleView.{query_view}
use Rattle.chr_machine.specs.OutcomeView.{outcome_view}
use Rattle.embedding.specs.Refusals.{IsQueryRefusal, IsRefusal}
use Rattle.embedding.specs.SessionView.{session_view}
use Rattle.embedding.proofs.Asked.{forgotten, refused}
use Rattle.embedding.proofs.Kept.{kept}
use Rattle.embedding.proofs.session.Session.ask.Goals as goal

-- src/session.rt:107:21
pub returns-in_err-query-clause-refused : goal.returns-in_err-query-clause-refused
returns-in_err-query-clause-refused g c =
    let few : c.args.n ≤ MAX_TRANSITIONS = omega (arith, c.if-n-gt-MAX_TRANSITIONS.false) in
    let view = forgotten c.args.self.now.own c.args.self.now.program c.forget_names.new.self c.forget_names.ensures.names c.forget_names.ensures.declared c.forget_names.ensures.rules in
    let is = subst (λ (x : Checked). IsQueryRefusal x c.args.text.now c.in_err-query.field-0.0) view c.in_err-query.ensures.err in
    err_answers c.from_residual.result c.in_err-query.field-0.0 (IsRefusal (session_view c.args.self.now) c.args.text.now c.args.n) c.from_residual.ensures.1
    (refused (session_view c.args.self.now) c.args.text.now c.args.n c.in_err-query.field-0.0 few is)

-- src/session.rt:98:5
pub returns-in-Ok-clause-same : goal.returns-in-Ok-clause-same
returns-in-Ok-clause-same g c =
    let grown : Grows _ _ = subst (λ (names : Names). Grows names (names_of c.query_of.new.program)) c.forget_names.ensures.names c.query_of.ensures.grows in
    let names = kept c.args.self.now.own (names_of c.args.self.now.program) (names_of c.query_of.new.program) c.args.self.now.within grown in
    let declared = c.query_of.ensures.declared ∙ c.forget_names.ensures.declared in
    let rules = c.query_of.ensures.rules ∙ c.forget_names.ensures.rules in
    λ i. record { names = names i; declared = declared i; rules = rules i }

-- src/session.rt:98:5
pub returns-in-Ok-clause-answered : goal.returns-in-Ok-clause-answered
returns-in-Ok-clause-answered g c =
    let view = forgotten c.args.self.now.own c.args.self.now.program c.forget_names.new.self c.forget_names.ensures.names c.forget_names.ensures.declared c.forget_names.ensures.rules in
    let names : Names = names_of c.query_of.new.program in
    record {
      few = omega (arith, c.if-n-gt-MAX_TRANSITIONS.false);
      query = query_view c.in_ok-query.query;
      is_query = subst (λ (x : Checked). IsAcceptedQuery x c.args.text.now names (query_view c.in_ok-query.query)) view c.in_ok-query.ensures.ok;
      outcome_is = subst (λ (p : Program). outcome_view c.in-Ok.outcome ≡ outcome_after names p (query_view c.in_ok-query.query) c.args.n) (c.query_of.ensures.rules ∙ c.forget_names.ensures.rules) c.in-Ok.ensures;
    }
