-- The parts of a text, put together.
use Rattle.std.proofs.Common.{◌≡◌, ◌∙◌, ℕ, ◌++◌, List, [], ◌∷◌, length, refl, ap, sym, append_assoc, Result, Ok, Err, OnOk}
use Rattle.std.proofs.lemmas.Grind.{flat_map-append}
use Rattle.std.specs.Fmt.{decimal}
use Rattle.chr_semantics.specs.Text.{lines_text, part}
use Rattle.chr_trace.specs.Texts.{body}

pub lines_text-append : (ls ms : List (List ℕ)) → lines_text (ls ++ ms) ≡ lines_text ls ++ lines_text ms
lines_text-append ls ms = flat_map-append (λ (l : List ℕ). l ++ 10 ∷ []) ls ms

pub body_is : (ls : List (List ℕ)) → body ls ≡ lines_text ls
unfolding body
body_is ls = refl

body-append : (ls ms : List (List ℕ)) → body ls ++ body ms ≡ body (ls ++ ms)
unfolding body
body-append ls ms = sym (lines_text-append ls ms)

-- a head with the lines after it is a part
part_joined : (x y z word : List ℕ) (ls : List (List ℕ)) (n : ℕ) → y ≡ x ++ body ((word ++ decimal n) ∷ []) → z ≡ y ++ lines_text ls → n ≡ length ls → z ≡ x ++ body (part word ls)
part_joined x y z word ls n head lines e =
    lines
    ∙ (ap (λ ys. ys ++ lines_text ls) head
    ∙ (ap (λ ys. (x ++ body ((word ++ decimal n) ∷ [])) ++ ys) (sym (body_is ls))
    ∙ (append_assoc x (body ((word ++ decimal n) ∷ [])) (body ls)
    ∙ (ap (λ ys. x ++ ys) (body-append ((word ++ decimal n) ∷ []) ls) ∙ ap (λ k. x ++ body ((word ++ decimal k) ∷ ls)) e))))

regrouped : (x a b c d e : List ℕ) → ((((x ++ a) ++ b) ++ c) ++ d) ++ e ≡ x ++ (a ++ (b ++ (c ++ (d ++ e))))
regrouped x a b c d e = simp append_assoc

-- a line and four parts are one text
parts_joined : (x e : List ℕ) (a b c d : List (List ℕ)) →
    ((((x ++ body (e ∷ [])) ++ body a) ++ body b) ++ body c) ++ body d ≡ x ++ lines_text (e ∷ (a ++ (b ++ (c ++ d))))
parts_joined x e a b c d =
    regrouped x (body (e ∷ [])) (body a) (body b) (body c) (body d)
    ∙ ap (λ ys. x ++ ys) (
    ap (λ ys. body (e ∷ []) ++ (body a ++ (body b ++ ys))) (body-append c d)
    ∙ (ap (λ ys. body (e ∷ []) ++ (body a ++ ys)) (body-append b (c ++ d))
    ∙ (ap (λ ys. body (e ∷ []) ++ ys) (body-append a (b ++ (c ++ d))) ∙ (body-append (e ∷ []) (a ++ (b ++ (c ++ d))) ∙ body_is (e ∷ (a ++ (b ++ (c ++ d)))))))
    )

-- what each call appends makes the whole
text_joined : (x e : List ℕ) (a b c d : List (List ℕ)) (y z u v w : List ℕ) →
    y ≡ x ++ body (e ∷ []) → z ≡ y ++ body a → u ≡ z ++ body b → v ≡ u ++ body c → w ≡ v ++ body d → w ≡ x ++ lines_text (e ∷ (a ++ (b ++ (c ++ d))))
text_joined x e a b c d y z u v w end stack store bindings history =
    history
    ∙ (ap (λ xs. xs ++ body d) (bindings ∙ ap (λ xs. xs ++ body c) (store ∙ ap (λ xs. xs ++ body b) (stack ∙ ap (λ xs. xs ++ body a) end)))
    ∙ parts_joined x e a b c d)

-- the lines that were written go from those that are left
pub lines_moved : (x y : List ℕ) (ls ms ns : List (List ℕ)) → ls ≡ ms ++ ns → y ≡ x ++ lines_text ms → x ++ lines_text ls ≡ y ++ lines_text ns
lines_moved x y ls ms ns split e =
    ap (λ ks. x ++ lines_text ks) split
    ∙ (ap (λ ys. x ++ ys) (lines_text-append ms ns)
    ∙ (sym (append_assoc x (lines_text ms) (lines_text ns)) ∙ ap (λ ys. ys ++ lines_text ns) (sym e)))

-- so does one line
pub line_moved : (x y l : List ℕ) (ls : List (List ℕ)) → y ≡ x ++ (l ++ 10 ∷ []) → x ++ lines_text (l ∷ ls) ≡ y ++ lines_text ls
line_moved x y l ls e = sym (append_assoc x (l ++ 10 ∷ []) (lines_text ls)) ∙ ap (λ ys. ys ++ lines_text ls) (sym e)

-- a head, and then the lines of its part
pub part_written : {T E : Type 0} (r : Result T E) (x y new word : List ℕ) (ls : List (List ℕ)) (n : ℕ) → y ≡ x ++ body ((word ++ decimal n) ∷ []) → OnOk r (new ≡ y ++ lines_text ls) → n ≡ length ls → OnOk r (new ≡ x ++ body (part word ls))
part_written (Ok v) x y new word ls n head lines e = part_joined x y new word ls n head lines e
part_written (Err v) x y new word ls n head lines e = tt

-- a line, three parts, and then the last one
pub text_written : {T E : Type 0} (r : Result T E) (x e : List ℕ) (a b c d : List (List ℕ)) (y z u v new : List ℕ) →
    y ≡ x ++ body (e ∷ []) → z ≡ y ++ body a → u ≡ z ++ body b → v ≡ u ++ body c → OnOk r (new ≡ v ++ body d) → OnOk r (new ≡ x ++ lines_text (e ∷ (a ++ (b ++ (c ++ d)))))
text_written (Ok w) x e a b c d y z u v new end stack store bindings history = text_joined x e a b c d y z u v new end stack store bindings history
text_written (Err w) x e a b c d y z u v new end stack store bindings history = tt
