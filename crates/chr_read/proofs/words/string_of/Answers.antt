use Rattle.std.proofs.Common.{◌≡◌, ◌∙◌, ◌+◌, ◌<◌, ◌++◌, ◌∷◌, List, add-one, ap, append_assoc, drop, drop-cons, get_or, length, refl, string_bytes, suc, sym, ℕ}
use Rattle.std.specs.Str.{encode_utf8_all}
use Rattle.chr_read.proofs.words.string_of.Goals as goal

drop_item : (s : List ℕ) (i x : ℕ) → i < length s → x ≡ get_or s i x → drop i s ≡ x ∷ drop (i + 1) s
drop_item s i x h e = rw add-one (drop-cons s i x h ∙ ap (λ y. y ∷ drop (suc i) s) (sym e))

pub loop-c-init : goal.loop-c-init
loop-c-init g c = rw c.new-name.ensures.bytes refl

pub loop-c-preserved : goal.loop-c-preserved
loop-c-preserved g c =
    let word = c.args.word.now in
    rw (c.in_ok-push.ensures.bytes, append_assoc)
    (ap (λ rest. string_bytes c.loop-c.name ++ encode_utf8_all rest) (sym (drop_item word c.loop-c.c-index c.c-item.result c.loop-c-test.true c.c-item.is)) ∙ c.loop-c.invariant)
