use Rattle.std.proofs.Common.{rules, ◌≡◌, ◌∙◌, ap, arith, length, refl, sym}
use Rattle.std.proofs.lemmas.List.{length-map}
use Rattle.std.specs.Prelude.{bytes_eq}
use Rattle.std.specs.Map.{lookup}
use Rattle.indexmap.proofs.CallerLemmas.{insert_entry-new}
use Rattle.chr_semantics.specs.Meaning.{variable_of}
use Rattle.chr_rules.specs.Words.{words_of}
use Rattle.chr_rules.proofs.Numbered.{anonymous_changes_nothing, word_numbered, words_appended}
use Rattle.chr_rules.proofs.variables.Variables.append.Goals as goal

pub invariant_of-self-then-is_anonymous : goal.invariant_of-self-then-is_anonymous
invariant_of-self-then-is_anonymous g c = λ w.
    c.self.invariant w
    ∙ anonymous_changes_nothing (words_of c.self.inside.words.items) c.args.word.now w (sym c.if-is_anonymous.ensures)
    ∙ ap (λ ws. variable_of ws w) (sym (words_appended c.self.inside.words.items c.args.word))
    ∙ ap (λ ws. variable_of (words_of ws) w) (sym c.in_ok-push.ensures.items)

pub invariant_of-self-in-Ok : goal.invariant_of-self-in-Ok
invariant_of-self-in-Ok g c = λ w.
    let len : c.len-number.result ≡ length (words_of c.self.inside.words.items) = omega (arith, c.len-number.ensures, length-map c.self.inside.words.items (λ w. w.now), c.self.inside.words.ok.0) in
    ap (λ es. lookup (λ k. bytes_eq w k.now) es) (c.in-Ok.ensures.entries ∙ insert_entry-new _ c.self.inside.numbers c.args.word c.len-number.result (c.self.invariant c.args.word.now ∙ search rules))
    ∙ word_numbered (words_of c.self.inside.words.items) c.args.word.now w c.self.inside.numbers.entries c.args.word c.len-number.result refl len (sym c.if-is_anonymous.ensures) (c.self.invariant w)
    ∙ ap (λ ws. variable_of ws w) (sym (words_appended c.self.inside.words.items c.args.word))
    ∙ ap (λ ws. variable_of (words_of ws) w) (sym c.in_ok-push.ensures.items)
