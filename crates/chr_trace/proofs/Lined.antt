-- Lines in one text: what stands where.
use Rattle.std.proofs.Common.{◌≡◌, ◌∙◌, ℕ, zero, suc, MatchOption, ◌+◌, ◌-◌, ◌<◌, ◌≤◌, ◌++◌, Bool, true, false, List, [], ◌∷◌, Option, Some, None, add-one, ap, append-nil, append_assoc, arith, drop, drop-cons, get_or, length, is_some, length-append, refl, slice_get, subst, sym, take, true≢false}
use Rattle.std.proofs.Math.Seq.{take-append_seam, drop-append_seam, take-suc, take_all}
use Rattle.std.proofs.lemmas.List.{take-append-drop}
use Rattle.std.specs.Borrow.{Bor}
use Rattle.std.specs.Option.{option_copied}
use Rattle.std.proofs.lemmas.Option.{none-some, same_Some, slice_get-get_or}
use Rattle.chr_semantics.specs.Text.{lines_text}
use Rattle.chr_term.specs.Extension.{IsExtension}
use Rattle.chr_trace.specs.Lined.{IsLined, IsWhole, cut_at, drafted, end_from, ends_of}
use Rattle.chr_trace.proofs.Bodies.{lines_text-append}

-- a line with its feed is one longer
pub length_fed : (l : List ℕ) → length (l ++ 10 ∷ []) ≡ length l + 1
length_fed l = length-append l (10 ∷ [])

pub ends-append : (k : ℕ) (ls ms : List (List ℕ)) → ends_of k (ls ++ ms) ≡ ends_of k ls ++ ends_of (k + length (lines_text ls)) ms
ends-append k [] ms = ap (λ n. ends_of n ms) (omega arith)
ends-append k (l ∷ ls) ms =
    let whole = length-append (l ++ 10 ∷ []) (lines_text ls) in
    let feed = length_fed l in
    ap (λ es. (k + (length l + 1)) ∷ es) (ends-append (k + (length l + 1)) ls ms ∙ ap (λ n. ends_of (k + (length l + 1)) ls ++ ends_of n ms) (omega (arith, whole, feed)))

from_zero : (n : ℕ) → 0 + n ≡ n
from_zero n = omega arith

pub end_is : (k : ℕ) (ls : List (List ℕ)) → end_from k (ends_of k ls) ≡ k + length (lines_text ls)
end_is k [] = omega arith
end_is k (l ∷ ls) =
    let whole = length-append (l ++ 10 ∷ []) (lines_text ls) in
    let feed = length_fed l in
    end_is (k + (length l + 1)) ls ∙ omega (arith, whole, feed)

pub ends_count : (k : ℕ) (ls : List (List ℕ)) → length (ends_of k ls) ≡ length ls
ends_count k [] = refl
ends_count k (l ∷ ls) = ap suc (ends_count (k + (length l + 1)) ls)

-- the first ends are those of the first lines
pub ends_take : (k : ℕ) (ls : List (List ℕ)) (n : ℕ) → take n (ends_of k ls) ≡ ends_of k (take n ls)
ends_take k ls zero = refl
ends_take k [] (suc n) = refl
ends_take k (l ∷ ls) (suc n) = ap (λ es. (k + (length l + 1)) ∷ es) (ends_take (k + (length l + 1)) ls n)

-- the lines of a text with their ends
pub cut_is : (before : List ℕ) (ls : List (List ℕ)) (rest : List ℕ) → cut_at (before ++ (lines_text ls ++ rest)) (length before) (ends_of (length before) ls) ≡ ls
cut_is before [] rest = refl
cut_is before (l ∷ ls) rest =
    let k = length before in
    let e = k + (length l + 1) in
    let text = before ++ (lines_text (l ∷ ls) ++ rest) in
    let more = lines_text ls ++ rest in
    let joined : lines_text (l ∷ ls) ++ rest ≡ l ++ (10 ∷ more) = append_assoc (l ++ 10 ∷ []) (lines_text ls) rest ∙ append_assoc l (10 ∷ []) more in
    let count : e - (k + 1) ≡ length l = omega arith in
    let first : take (e - (k + 1)) (drop k text) ≡ l =
    ap (λ n. take n (drop k text)) count ∙ (ap (take (length l)) (drop-append_seam before (lines_text (l ∷ ls) ++ rest) ∙ joined) ∙ take-append_seam l (10 ∷ more))
    in
    let front = before ++ (l ++ 10 ∷ []) in
    let long : length front ≡ e = length-append before (l ++ 10 ∷ []) ∙ ap (λ n. k + n) (length_fed l) in
    let same : front ++ more ≡ text = append_assoc before (l ++ 10 ∷ []) more ∙ ap (λ xs. before ++ xs) (sym (append_assoc (l ++ 10 ∷ []) (lines_text ls) rest)) in
    let others : cut_at text e (ends_of e ls) ≡ ls = subst (λ (n : ℕ). cut_at text n (ends_of n ls) ≡ ls) long (subst (λ (xs : List ℕ). cut_at xs (length front) (ends_of (length front) ls) ≡ ls) same (cut_is front ls rest)) in
    λ i. first i ∷ others i

module _ (text ends : List ℕ) (h : IsLined text ends) where
  pub made_is : cut_at text 0 ends ≡ h.made
  made_is = (λ i. cut_at (h.text_is i) 0 (h.ends_are i)) ∙ cut_is [] h.made h.rest

  pub end_at : end_from 0 ends ≡ length (lines_text h.made)
  end_at = ap (end_from 0) h.ends_are ∙ (end_is 0 h.made ∙ from_zero _)

  pub rest_is : drop (end_from 0 ends) text ≡ h.rest
  rest_is = (λ i. drop (end_at i) (h.text_is i)) ∙ drop-append_seam (lines_text h.made) h.rest

  -- without what is drafted
  pub lines_alone : take (end_from 0 ends) text ≡ lines_text h.made
  lines_alone = (λ i. take (end_at i) (h.text_is i)) ∙ take-append_seam (lines_text h.made) h.rest

  -- where a line begins
  pub begins_at : (n : ℕ) → end_from 0 (take n ends) ≡ length (lines_text (take n h.made))
  begins_at n = ap (λ es. end_from 0 (take n es)) h.ends_are ∙ (ap (end_from 0) (ends_take 0 h.made n) ∙ (end_is 0 (take n h.made) ∙ from_zero _))

-- a text that goes on behind the lines alone
abbrev pub lined_more : (text ends before new : List ℕ) (h : IsLined text ends) → before ≡ take (end_from 0 ends) text → IsExtension before new → IsLined new ends
lined_more text ends before new h is on = record {
  made = h.made;
  rest = on.more;
  text_is = on.whole ∙ ap (λ xs. xs ++ on.more) (is ∙ lines_alone text ends h);
  ends_are = h.ends_are;
}

-- what is drafted, where it is whole
pub drafted_is : (rest line : List ℕ) → rest ≡ lines_text (line ∷ []) → drafted true rest ≡ Some line
drafted_is rest line is =
    let fed : rest ≡ line ++ 10 ∷ [] = is ∙ append-nil (line ++ 10 ∷ []) in
    let count : length rest - 1 ≡ length line = ap (λ (xs : List ℕ). length xs - 1) fed ∙ omega (arith, length_fed line) in
    ap Some ((λ i. take (count i) (fed i)) ∙ take-append_seam line (10 ∷ []))

-- a draft that is kept
abbrev pub lined_kept : (text ends : List ℕ) (h : IsLined text ends) (w : IsWhole (drop (end_from 0 ends) text)) → IsLined text (ends ++ length text ∷ [])
lined_kept text ends h w =
    let rest : h.rest ≡ lines_text (w.line ∷ []) = sym (rest_is text ends h) ∙ w.is in
    let whole : text ≡ lines_text (h.made ++ w.line ∷ []) = h.text_is ∙ (ap (λ xs. lines_text h.made ++ xs) rest ∙ sym (lines_text-append h.made (w.line ∷ []))) in
    let fed : lines_text (w.line ∷ []) ≡ w.line ++ 10 ∷ [] = append-nil (w.line ++ 10 ∷ []) in
    let long : length (lines_text h.made) + (length w.line + 1) ≡ length text =
    sym (ap length (h.text_is ∙ ap (λ xs. lines_text h.made ++ xs) (rest ∙ fed)) ∙ (length-append (lines_text h.made) (w.line ++ 10 ∷ []) ∙ ap (λ n. length (lines_text h.made) + n) (length_fed w.line)))
    in
    record {
      made = h.made ++ w.line ∷ [];
      rest = [];
      text_is = whole ∙ sym (append-nil _);
      ends_are = ap (λ es. es ++ length text ∷ []) h.ends_are ∙ (ap (λ n. ends_of 0 h.made ++ n ∷ []) (sym long) ∙ sym (ends-append 0 h.made (w.line ∷ []) ∙ ap (λ n. ends_of 0 h.made ++ ends_of n (w.line ∷ [])) (omega arith)));
    }

-- the end of the last of some lines stands behind them
pub end_before : (k : ℕ) (es : List ℕ) (n : ℕ) → 0 < n → n ≤ length es → get_or es (n - 1) 0 ≡ end_from k (take n es)
end_before k es zero some within = absurd (omega (arith, some))
end_before k [] (suc n) some within = absurd (omega (arith, within))
end_before k (e ∷ es) (suc zero) some within = refl
end_before k (e ∷ es) (suc (suc n)) some within =
    let back : suc (suc n) - 1 ≡ suc (suc n - 1) = omega arith in
    ap (λ i. get_or (e ∷ es) i 0) back ∙ end_before e es (suc n) (omega arith) (omega (arith, within))

regrouped : (a b c d e : List ℕ) → ((a ++ (b ++ c)) ++ d) ++ e ≡ a ++ (b ++ (c ++ (d ++ e)))
regrouped a b c d e = simp append_assoc

-- a line stands behind those before it
module _ (ls : List (List ℕ)) (n : ℕ) (lt : n < length ls) where
  abbrev pub line_at : List ℕ
  line_at = get_or ls n []

  lines_more : take (n + 1) ls ≡ take n ls ++ line_at ∷ []
  lines_more = rw (add-one, take-suc ls n [] lt)

  pub line_ends : length (lines_text (take (n + 1) ls)) ≡ length (lines_text (take n ls)) + (length line_at + 1)
  line_ends =
      ap (λ xs. length (lines_text xs)) lines_more
      ∙ (ap length (lines_text-append (take n ls) (line_at ∷ []) ∙ ap (λ xs. lines_text (take n ls) ++ xs) (append-nil (line_at ++ 10 ∷ [])))
      ∙ (length-append (lines_text (take n ls)) (line_at ++ 10 ∷ []) ∙ ap (λ m. length (lines_text (take n ls)) + m) (length_fed line_at)))

  pub line_cut : (rest : List ℕ) → take (length line_at) (drop (length (lines_text (take n ls))) (lines_text ls ++ rest)) ≡ line_at
  line_cut rest =
      let front = lines_text (take n ls) in
      let others = lines_text (drop (n + 1) ls) ++ rest in
      let split : ls ≡ (take n ls ++ line_at ∷ []) ++ drop (n + 1) ls = sym (take-append-drop (n + 1) ls) ∙ ap (λ xs. xs ++ drop (n + 1) ls) lines_more in
      let whole : lines_text ls ++ rest ≡ front ++ (line_at ++ (10 ∷ others)) =
      ap (λ xs. lines_text xs ++ rest) split
      ∙ (ap (λ xs. xs ++ rest) (lines_text-append (take n ls ++ line_at ∷ []) (drop (n + 1) ls) ∙ ap (λ xs. xs ++ lines_text (drop (n + 1) ls)) (lines_text-append (take n ls) (line_at ∷ []) ∙ ap (λ xs. front ++ xs) (append-nil (line_at ++ 10 ∷ []))))
      ∙ regrouped front line_at (10 ∷ []) (lines_text (drop (n + 1) ls)) rest)
      in
      ap (λ xs. take (length line_at) (drop (length front) xs)) whole ∙ (ap (take (length line_at)) (drop-append_seam front (line_at ++ (10 ∷ others))) ∙ take-append_seam line_at (10 ∷ others))

-- a line in its text
pub record IsLineAt (text ends : List ℕ) (n : ℕ) (line : List ℕ) : Type 0 where
  pub end : end_from 0 (take (n + 1) ends) ≡ end_from 0 (take n ends) + (length line + 1)
  pub within : end_from 0 (take (n + 1) ends) ≤ length text
  pub cut : take (length line) (drop (end_from 0 (take n ends)) text) ≡ line

-- the lines from the n-th on
pub record AreLinesFrom (text ends : List ℕ) (n : ℕ) (lines : List (List ℕ)) : Type 0 where
  pub order : end_from 0 (take n ends) ≤ end_from 0 (take (length ends) ends)
  pub within : end_from 0 (take (length ends) ends) ≤ length text
  pub cut : take (end_from 0 (take (length ends) ends) - end_from 0 (take n ends)) (drop (end_from 0 (take n ends)) text) ≡ lines_text lines

module _ (text ends : List ℕ) (h : IsLined text ends) where
  pub count_is : length ends ≡ length (cut_at text 0 ends)
  count_is = ap length h.ends_are ∙ (ends_count 0 h.made ∙ sym (ap length (made_is text ends h)))

  -- no end lies behind the text
  ends_within : (n : ℕ) → end_from 0 (take n ends) ≤ length text
  ends_within n =
      let begin = begins_at text ends h n in
      let parts = ap (λ ls. length (lines_text ls)) (sym (take-append-drop n h.made)) ∙ (ap length (lines_text-append (take n h.made) (drop n h.made)) ∙ length-append (lines_text (take n h.made)) (lines_text (drop n h.made))) in
      let whole = ap length h.text_is ∙ length-append (lines_text h.made) h.rest in
      omega (arith, begin, parts, whole)

  pub line_in : (n : ℕ) → n < length (cut_at text 0 ends) → IsLineAt text ends n (get_or (cut_at text 0 ends) n [])
  line_in n lt =
      let made = made_is text ends h in
      let inside : n < length h.made = subst (λ (ls : List (List ℕ)). n < length ls) made lt in
      let begin = begins_at text ends h n in
      subst (λ (ls : List (List ℕ)). IsLineAt text ends n (get_or ls n [])) (sym made) (record {
        end = begins_at text ends h (n + 1) ∙ (line_ends h.made n inside ∙ ap (λ m. m + (length (get_or h.made n []) + 1)) (sym begin));
        within = ends_within (n + 1);
        cut = (λ i. take (length (get_or h.made n [])) (drop (begin i) (h.text_is i))) ∙ line_cut h.made n inside h.rest;
      })

  pub lines_from : (n : ℕ) → n ≤ length (cut_at text 0 ends) → AreLinesFrom text ends n (drop n (cut_at text 0 ends))
  lines_from n le =
      let made = made_is text ends h in
      let begin = begins_at text ends h n in
      let first = lines_text (take n h.made) in
      let last = lines_text (drop n h.made) in
      let all : end_from 0 (take (length ends) ends) ≡ length (lines_text h.made) = ap (end_from 0) (take_all (length ends) ends (omega arith)) ∙ end_at text ends h in
      let split : lines_text h.made ≡ first ++ last = ap lines_text (sym (take-append-drop n h.made)) ∙ lines_text-append (take n h.made) (drop n h.made) in
      let sum : length (lines_text h.made) ≡ length first + length last = ap length split ∙ length-append first last in
      let whole : text ≡ first ++ (last ++ h.rest) = h.text_is ∙ (ap (λ xs. xs ++ h.rest) split ∙ append_assoc first last h.rest) in
      let count : end_from 0 (take (length ends) ends) - end_from 0 (take n ends) ≡ length last = omega (arith, all, begin, sum) in
      subst (λ (ls : List (List ℕ)). AreLinesFrom text ends n (drop n ls)) (sym made) (record {
        order = omega (arith, all, begin, sum);
        within = ends_within (length ends);
        cut = (λ i. take (count i) (drop (begin i) (whole i))) ∙ (ap (take (length last)) (drop-append_seam first (last ++ h.rest)) ∙ take-append_seam last h.rest);
      })

-- a text that was cut behind its lines and then written on
module _ (text ends cut new now : List ℕ) (h : IsLined text ends) (is : cut ≡ take (end_from 0 ends) text) (on : IsExtension cut new) (same : now ≡ ends) where
  pub lined_on : IsLined new now
  lined_on = subst (λ (es : List ℕ). IsLined new es) (sym same) (lined_more text ends cut new h is on)

  pub made_on : cut_at new 0 now ≡ cut_at text 0 ends
  made_on = ap (cut_at new 0) same ∙ (made_is new ends (lined_more text ends cut new h is on) ∙ sym (made_is text ends h))

  pub rest_on : drop (end_from 0 now) new ≡ on.more
  rest_on = ap (λ es. drop (end_from 0 es) new) same ∙ rest_is new ends (lined_more text ends cut new h is on)

-- where all lines end
pub cut_is_lines : (text ends cut es : List ℕ) (k n : ℕ) → cut ≡ take k text → k ≡ end_from 0 (take n es) → es ≡ ends → length ends ≤ n → cut ≡ take (end_from 0 ends) text
cut_is_lines text ends cut es k n is at same all = is ∙ ap (λ m. take m text) (at ∙ (ap (λ xs. end_from 0 (take n xs)) same ∙ ap (end_from 0) (take_all n ends all)))

-- a draft that was written behind the lines, and its line feed
module _ (text ends cut mid new now : List ℕ) (h : IsLined text ends) (is : cut ≡ take (end_from 0 ends) text) (on : IsExtension cut mid) (fed : new ≡ mid ++ 10 ∷ []) (same : now ≡ ends) where
  abbrev fed_on : IsExtension cut new
  fed_on = record { more = on.more ++ 10 ∷ []; whole = fed ∙ (ap (λ xs. xs ++ 10 ∷ []) on.whole ∙ append_assoc cut on.more (10 ∷ [])) }

  pub lined_fed : IsLined new now
  lined_fed = lined_on text ends cut new now h is fed_on same

  pub made_fed : cut_at new 0 now ≡ cut_at text 0 ends
  made_fed = made_on text ends cut new now h is fed_on same

  pub is_whole : IsWhole (drop (end_from 0 now) new)
  is_whole = record { line = on.more; is = rest_on text ends cut new now h is fed_on same ∙ sym (append-nil _) }

-- a line that was drafted
pub line_drafted : (text ends cut mid new now line : List ℕ) (h : IsLined text ends) → cut ≡ take (end_from 0 ends) text → mid ≡ cut ++ line → new ≡ mid ++ 10 ∷ [] → now ≡ ends → drafted true (drop (end_from 0 now) new) ≡ Some line
line_drafted text ends cut mid new now line h is written fed same =
    let on : IsExtension cut new = record { more = line ++ 10 ∷ []; whole = fed ∙ (ap (λ xs. xs ++ 10 ∷ []) written ∙ append_assoc cut line (10 ∷ [])) } in
    drafted_is (drop (end_from 0 now) new) line (rest_on text ends cut new now h is on same ∙ sym (append-nil _))

-- what is drafted
pub is_drafted : (b : Bool) (rest : List ℕ) → is_some (drafted b rest) ≡ true → b ≡ true
is_drafted true rest e = refl
is_drafted false rest e = absurd (true≢false (sym e))

-- a line that is kept
pub made_kept : (text ends now line : List ℕ) (b : Bool) (h : IsLined text ends) (w : IsWhole (drop (end_from 0 ends) text)) → b ≡ true → drafted b (drop (end_from 0 ends) text) ≡ Some line → now ≡ ends ++ length text ∷ [] → cut_at text 0 now ≡ cut_at text 0 ends ++ line ∷ []
made_kept text ends now line b h w whole is kept =
    let rest = drop (end_from 0 ends) text in
    let lines : w.line ≡ line = same_Some w.line line (sym (drafted_is rest w.line w.is) ∙ (ap (λ (x : Bool). drafted x rest) (sym whole) ∙ is)) in
    ap (cut_at text 0) kept ∙ (made_is text (ends ++ length text ∷ []) (lined_kept text ends h w) ∙ (λ i. sym (made_is text ends h) i ++ lines i ∷ []))

-- the next line of a walk
pub next_line : (ls : List (List ℕ)) (n : ℕ) (line : Option (Bor (List ℕ))) → n < length ls → option_copied line ≡ slice_get ls n → MatchOption line ((drop n ls ≡ []) × (drop (n + 1) ls ≡ [])) (λ l. drop n ls ≡ l.now ∷ drop (n + 1) ls)
next_line ls n None lt is = absurd (none-some (get_or ls n []) (is ∙ slice_get-get_or ls n [] lt))
next_line ls n (Some l) lt is =
    let first : drop n ls ≡ get_or ls n [] ∷ drop (n + 1) ls = rw (add-one, drop-cons ls n []) in
    first ∙ ap (λ x. x ∷ drop (n + 1) ls) (sym (same_Some l.now (get_or ls n []) (is ∙ slice_get-get_or ls n [] lt)))
