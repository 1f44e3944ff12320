-- A checked program has few rules with few heads.
use Rattle.std.proofs.Common.{◌≡◌, ◌<◌, ◌≤◌, ◌+◌, ◌*◌, ◌++◌, ℕ, List, [], ◌∷◌, Bool, false, Option, Some, None, Ok, length, nat_lt, nat_le, refl, arith}
use Rattle.std.proofs.lemmas.List.{length-append}
use Rattle.chr_semantics.specs.Names.{Names}
use Rattle.chr_semantics.specs.Program as semantics
use Rattle.chr_semantics.specs.Program.{Head, Program}
use Rattle.chr_semantics.specs.Syntax as syntax
use Rattle.chr_semantics.specs.Syntax.{Exprs, Item, Part, declares, ignored, rule, plain, related}
use Rattle.chr_semantics.specs.Meaning.{Scope, all_heads, atom_from, call_of, fresh_scope, head_from, head_of, in_turn, rule_from, with_turn}
use Rattle.chr_semantics.specs.Checked.{Checked, too_many_heads, too_many_rules, each, error_in_rule, rule_in, with_rule}
use Rattle.chr_rules.specs.Checks.{head_variables, too_many, wrong_items, wrong_rule}
use Rattle.chr_rules.specs.Index.{head_count}
use Rattle.chr_rules.proofs.Kept.{kept_in_all}
use Rattle.chr_rules.proofs.Mistakes.{none_each}

-- an accepted rule has few heads, and there are few rules before it
pub few_heads : (names : Names) (d : ℕ) (earlier : Program) (r : syntax.Rule) → error_in_rule names d earlier r ≡ None → (length (all_heads r) ≤ 8) × (length earlier < 1024)
few_heads names d earlier r h =
    let all = wrong_items names d r ++ (wrong_rule (head_variables names r) earlier r ++ too_many (rule_from names 0 r).1.vars) in
    (below (none_each all 7 (nat_lt 8 (length (all_heads r)), too_many_heads) h refl), above (none_each all 9 (nat_le 1024 (length earlier), too_many_rules) h refl))
  where
    below : {n : ℕ} → nat_lt 8 n ≡ false → n ≤ 8
    below e = grind (arith, e)

    above : {n : ℕ} → nat_le 1024 n ≡ false → n < 1024
    above e = grind (arith, e)

abbrev head_by : Scope → Bool → Option (List ℕ × Exprs) → Scope × List Head
head_by s p o = elim o [ None ↦ (s, []) | Some c ↦ (let r = atom_from s c.0 c.1 in (r.0, record { atom = r.1; passive = p } ∷ [])) ]

one_by : (s : Scope) (p : Bool) (o : Option (List ℕ × Exprs)) → length (head_by s p o).1 ≤ 1
one_by s p None = omega arith
one_by s p (Some c) = omega arith

one_head : (s : Scope) (p : Bool) (i : Item) → length (head_of s p i).1 ≤ 1
one_head s p (related r e f) = omega arith
one_head s p (plain e) = one_by s p (call_of e)

-- each head that is read makes one at most
pub heads_made : (q : Scope × List Head) (hs : List syntax.Head) → length (in_turn head_from q hs).1 ≤ length q.1 + length hs
heads_made q [] = omega arith
heads_made q (h ∷ hs) =
    let one = one_head q.0 h.passive h.item in
    let rest = heads_made (with_turn head_from q h) hs in
    omega (arith, one, rest, length-append q.1 (head_of q.0 h.passive h.item).1)

head_count_pushed : (p : Program) (r : semantics.Rule) → head_count (p ++ r ∷ []) ≡ head_count p + length r.heads
head_count_pushed [] r = omega arith
head_count_pushed (q ∷ p) r = omega (arith, head_count_pushed p r)

abbrev pub IsFew : Program → Type 0
IsFew p = (head_count p ≤ 8 * length p) × (length p ≤ 1024)

few_more : (c : Checked) (r : syntax.Rule) → error_in_rule c.names c.declared c.rules r ≡ None → IsFew c.rules → IsFew (with_rule c r).rules
few_more c r h few =
    let bounds = few_heads c.names c.declared c.rules r h in
    let made = (rule_from c.names (length c.rules + 1) r).1 in
    let heads = heads_made (fresh_scope c.names, []) (all_heads r) in
    let len = length-append c.rules (made ∷ []) in
    (omega (arith, head_count_pushed c.rules made, heads, bounds.0, few.0, len), omega (arith, len, bounds.1))

pub few_in_all : (c d : Checked) (ps : List Part) → each rule_in c ps ≡ Ok d → IsFew c.rules → IsFew d.rules
few_in_all = kept_in_all IsFew few_more
