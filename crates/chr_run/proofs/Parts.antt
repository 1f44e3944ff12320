-- Bytes that go out in parts.
use Rattle.std.proofs.Common.{◌≡◌, ◌<◌, ◌+◌, ◌∙◌, ℕ, ◌++◌, List, [], Option, Some, None, refl, ap, sym, map, drop, get_or, length, add-one, append-nil, append_assoc, arith, drop-cons, length-append, subst}
use Rattle.std.specs.Prelude.{Err, IsErrAnd, Ok, OnOk, Result}
use Rattle.std.specs.Borrow.{Bor}
use Rattle.std.specs.List.{concat}
use Rattle.std.specs.Io.KnownBytes.{Appends, Keeps}
use Rattle.chr_run.specs.Output.{AppendsLess, AppendsPart, IsOut}

-- no bytes go out
pub appends-none : (old : Option (List ℕ)) → Appends old old []
appends-none None = tt
appends-none (Some xs) = sym (append-nil xs)

-- some bytes go out after others
pub appends-both : (old mid new : Option (List ℕ)) (a b : List ℕ) → Appends old mid a → Appends mid new b → Appends old new (a ++ b)
appends-both None mid new a b h k = tt
appends-both (Some xs) None new a b h k = absurd h
appends-both (Some xs) (Some ys) None a b h k = absurd k
appends-both (Some xs) (Some ys) (Some zs) a b h k = k ∙ (ap (λ ws. ws ++ b) h ∙ append_assoc xs a b)

-- nothing is out yet
pub out-none : (old : Option (List ℕ)) (bytes : List ℕ) → IsOut old old bytes bytes
out-none old bytes = record { out = []; whole = refl; appends = appends-none old }

-- one more part goes out
pub out-more : (old mid new : Option (List ℕ)) (bytes rest front back : List ℕ) → IsOut old mid bytes rest → rest ≡ front ++ back → Appends mid new front → IsOut old new bytes back
out-more old mid new bytes rest front back h split k = record {
  out = h.out ++ front;
  whole = h.whole ∙ (ap (λ xs. h.out ++ xs) split ∙ sym (append_assoc h.out front back));
  appends = appends-both old mid new h.out front h.appends k;
}

-- where nothing went out, the known bytes are as before
pub keeps_same : (old : Option (List ℕ)) → Keeps old old
keeps_same None = tt
keeps_same (Some xs) = refl

-- what holds of this error holds of an answer that is it
pub answered : {T E : Type 0} (P : Result T E → Type 0) (r : Result T E) (e : E) → IsErrAnd r (λ x. x ≡ e) → P (Err e) → P r
answered P (Ok t) e h p = absurd h
answered {T} {E} P (Err x) e h p = subst (λ (y : E). P (Err y)) (sym h) p

-- what an answer says, where it follows from what it said
pub on_ok : {T E X Y : Type 0} (r : Result T E) → (X → Y) → OnOk r X → OnOk r Y
on_ok (Ok t) f x = f x
on_ok (Err e) f x = tt

-- one more part, of which a first part goes out
pub part-more : (old mid new : Option (List ℕ)) (bytes rest front back : List ℕ) → IsOut old mid bytes rest → rest ≡ front ++ back → AppendsPart mid new front → AppendsPart old new bytes
part-more old mid new bytes rest front back h split p =
    let parts : rest ≡ p.is_out.out ++ (p.rest ++ back) = split ∙ (ap (λ xs. xs ++ back) p.is_out.whole ∙ append_assoc p.is_out.out p.rest back) in
    record { rest = p.rest ++ back; is_out = out-more old mid new bytes rest p.is_out.out (p.rest ++ back) h parts p.is_out.appends }

-- a first part of the front is one of the whole
pub part_front : (old new : Option (List ℕ)) (bytes front back : List ℕ) → bytes ≡ front ++ back → AppendsPart old new front → AppendsPart old new bytes
part_front old new bytes front back e p = part-more old old new bytes bytes front back (out-none old bytes) e p

-- the front, and a first part of the back
pub part_back : (old mid new : Option (List ℕ)) (front back : List ℕ) → Appends old mid front → AppendsPart mid new back → AppendsPart old new (front ++ back)
part_back old mid new front back h p = part-more old mid new (front ++ back) back back [] (record { out = front; whole = refl; appends = h }) (sym (append-nil back)) p

-- nothing is a first part of some bytes, and not all
pub less_none : (old : Option (List ℕ)) (bytes : List ℕ) → 0 < length bytes → AppendsLess old old bytes
less_none old bytes some = record { rest = bytes; is_out = out-none old bytes; left = some }

-- what is not all is a first part
pub as_part : (old new : Option (List ℕ)) (bytes : List ℕ) → AppendsLess old new bytes → AppendsPart old new bytes
as_part old new bytes p = record { rest = p.rest; is_out = p.is_out }

-- a first part of the front is not all, where something stands behind it
pub less_front : (old new : Option (List ℕ)) (bytes front back : List ℕ) → bytes ≡ front ++ back → 0 < length back → AppendsPart old new front → AppendsLess old new bytes
less_front old new bytes front back e some p = record {
  rest = p.rest ++ back;
  is_out = record { out = p.is_out.out; whole = e ∙ (ap (λ xs. xs ++ back) p.is_out.whole ∙ append_assoc p.is_out.out p.rest back); appends = p.is_out.appends };
  left = (let sum = length-append p.rest back in omega (arith, sum, some));
}

-- the front, and of the back a first part that is not all
pub less_back : (old mid new : Option (List ℕ)) (front back : List ℕ) → Appends old mid front → AppendsLess mid new back → AppendsLess old new (front ++ back)
less_back old mid new front back h p = record {
  rest = p.rest;
  is_out = out-more old mid new (front ++ back) back p.is_out.out p.rest (record { out = front; whole = refl; appends = h }) p.is_out.whole p.is_out.appends;
  left = p.left;
}

-- the texts from one on: it, and those after it
pub texts_from : (ts : List (Bor (List ℕ))) (k : ℕ) (d : Bor (List ℕ)) → k < length ts
    → concat (map (λ (t : Bor (List ℕ)). t.now) (drop k ts)) ≡ (get_or ts k d).now ++ concat (map (λ (t : Bor (List ℕ)). t.now) (drop (k + 1) ts))
texts_from ts k d h =
    ap (λ us. concat (map (λ (t : Bor (List ℕ)). t.now) us)) (drop-cons ts k d h)
    ∙ ap (λ n. (get_or ts k d).now ++ concat (map (λ (t : Bor (List ℕ)). t.now) (drop n ts))) (sym (add-one k))
