-- Trees that are built one after the other.
use Rattle.std.proofs.Common.{◌≡◌, ◌∙◌, ◌<◌, ◌+◌, ℕ, List, [], ◌∷◌, ◌++◌, Some, length, drop, drop-cons, add-one, get_or, map, refl, ap, sym, append_assoc, append-nil, arith, ◌≤◌}
use Rattle.std.specs.Prelude.{unwrap_or}
use Rattle.std.proofs.lemmas.Grind.{common_steps}
use Rattle.std.specs.Prelude.{IfOk, Result, Ok, Err}
use Rattle.chr_semantics.specs.Tree.{Tree, trees_of, node, more}
use Rattle.chr_semantics.specs.Names.{Names, symbol_of, with_symbol}
use Rattle.chr_semantics.specs.Syntax as s
use Rattle.chr_semantics.specs.Syntax.{Expr, exprs_of, list}
use Rattle.chr_semantics.specs.Meaning.{Scope, atom_from, count, in_turn, node_of, operator_symbol, scope, symbol_in, tree_from, trees_from, with_name, with_turn}
use Rattle.chr_read.specs.SyntaxView.{chain, operand_views, operator_view, view}
use Rattle.chr_read.specs.declared.syntax.Operator.{Operator}
use Rattle.chr_read.specs.declared.syntax.Expr.{Expr as Code}
use Rattle.chr_rules.specs.Turns.{list_of, operands_from, tree_turn}

-- what is done before stays in front
turned_onto : (s : Scope) (done : List Tree) (es : List Expr) → in_turn tree_turn (s, done) es ≡ ((in_turn tree_turn (s, []) es).0, done ++ (in_turn tree_turn (s, []) es).1)
turned_onto s done [] = ap (λ ts. (s, ts)) (sym (append-nil done))
turned_onto s done (e ∷ es) =
    let r = tree_from s e in
    let rest = in_turn tree_turn (r.0, []) es in
    turned_onto r.0 (done ++ r.1 ∷ []) es
    ∙ ap (λ ts. (rest.0, ts)) (append_assoc done (r.1 ∷ []) rest.1)
    ∙ sym (ap (λ q. (q.0, done ++ q.1)) (turned_onto r.0 (r.1 ∷ []) es))

pub trees_turned : (s : Scope) (es : List Expr) → trees_from s (exprs_of es) ≡ ((in_turn tree_turn (s, []) es).0, trees_of (in_turn tree_turn (s, []) es).1)
trees_turned s [] = refl
trees_turned s (e ∷ es) =
    let r = tree_from s e in
    ap (λ q. (q.0, more r.1 q.1)) (trees_turned r.0 es)
    ∙ sym (ap (λ q. (q.0, trees_of q.1)) (turned_onto r.0 (r.1 ∷ []) es))

pub list_made : (s : Scope) (es : List Expr) (end : Expr) → tree_from s (list es end) ≡ ((tree_from (in_turn tree_turn (s, []) es).0 end).0, list_of (in_turn tree_turn (s, []) es).1 (tree_from (in_turn tree_turn (s, []) es).0 end).1)
list_made s [] end = refl
list_made s (e ∷ es) end =
    let r = tree_from s e in
    ap (λ q. (q.0, node_of 1 r.1 q.1)) (list_made r.0 es end)
    ∙ sym (ap (λ q. ((tree_from q.0 end).0, list_of q.1 (tree_from q.0 end).1)) (turned_onto r.0 (r.1 ∷ []) es))

-- a name, whose symbol is known, over trees that were built
pub atom_made : (names : Names) (vars : List (List ℕ)) (w : List ℕ) (es : List Expr) (n f : ℕ) (names' : Names) (q : Scope × List Tree) → n ≡ count (exprs_of es) → names' ≡ with_symbol names w n → symbol_of names' w n ≡ Some f
    → q ≡ in_turn tree_turn (scope names' vars, []) es → (q.0, record { sym = f; args = trees_of q.1 }) ≡ atom_from (scope names vars) w (exprs_of es)
atom_made names vars w es n f names' q a b c d =
    let behind = scope names' vars in
    let built = in_turn tree_turn (behind, []) es in
    let inner : with_name (scope names vars) w (count (exprs_of es)) ≡ behind = ap (λ m. scope (with_symbol names w m) vars) (sym a) ∙ ap (λ x. scope x vars) (sym b) in
    let number : symbol_in behind w (count (exprs_of es)) ≡ f = ap (λ m. unwrap_or (symbol_of names' w m) 0) (sym a) ∙ ap (λ o. unwrap_or o 0) c in
    ap (λ p. (p.0, record { sym = f; args = trees_of p.1 })) d
    ∙ ap (λ k. (built.0, record { sym = k; args = trees_of built.1 })) (sym number)
    ∙ ap (λ r. (r.0, record { sym = symbol_in behind w (count (exprs_of es)); args = r.1 })) (sym (trees_turned behind es))
    ∙ ap (λ t. ((trees_from t (exprs_of es)).0, record { sym = symbol_in t w (count (exprs_of es)); args = (trees_from t (exprs_of es)).1 })) (sym inner)

-- chains
pub chain_made : {A : Type 0} (here : Scope) (e : Expr) (xs : List (Operator × Code A)) → tree_from here (chain e (operand_views xs)) ≡ operands_from (tree_from here e) xs
chain_made here e [] = refl
chain_made here e (x ∷ xs) = chain_made here (s.operation (operator_view x.0) e (view x.1)) xs

pub one_dropped : {X : Type 0} (xs : List X) (k : ℕ) (x : X) → k < length xs → x ≡ get_or xs k x → drop k xs ≡ x ∷ drop (k + 1) xs
one_dropped xs k x h e = rw (add-one, drop-cons xs k x, ← e)

pub operand_done : {A : Type 0} (q : Scope × Tree) (xs : List (Operator × Code A)) (k : ℕ) (x : Operator × Code A) (next : Scope) (operand whole : Tree) (f : ℕ) → k < length xs → x ≡ get_or xs k x → (next, operand) ≡ tree_from q.0 (view x.1)
    → f ≡ operator_symbol (operator_view x.0) → whole ≡ node_of f q.1 operand → operands_from q (drop k xs) ≡ operands_from (next, whole) (drop (k + 1) xs)
operand_done q xs k x next operand whole f h e a b c =
    ap (operands_from q) (one_dropped xs k x h e)
    ∙ ap (λ r. operands_from (r.0, node_of (operator_symbol (operator_view x.0)) q.1 r.1) (drop (k + 1) xs)) (sym a)
    ∙ ap (λ g. operands_from (next, node_of g q.1 operand) (drop (k + 1) xs)) (sym b)
    ∙ ap (λ t. operands_from (next, t) (drop (k + 1) xs)) (sym c)

-- one element more, of any kind
pub turn_done : {X Y Z : Type 0} (f : Scope → X → Scope × List Y) (v : Z → X) (q r : Scope × List Y) (zs : List Z) (k : ℕ) (z : Z) → k < length zs → z ≡ get_or zs k z → r ≡ with_turn f q (v z) → in_turn f q (map v (drop k zs)) ≡ in_turn f r (map v (drop (k + 1) zs))
turn_done f v q r zs k z h e a = ap (λ xs. in_turn f q (map v xs)) (one_dropped zs k z h e) ∙ ap (λ p. in_turn f p (map v (drop (k + 1) zs))) (sym a)

pub all_dropped : {X : Type 0} (xs : List X) (k : ℕ) → length xs ≤ k → drop k xs ≡ []
all_dropped xs k h = grind (arith, common_steps)

pub ok_answers : {T E : Type 0} (P Q : T → Type 0) (r : Result T E) → ((x : T) → P x → Q x) → IfOk r P → IfOk r Q
ok_answers P Q (Ok x) f h = f x h
ok_answers P Q (Err e) f h = tt

pub in_turn_more : {X Y : Type 0} (f : Scope → X → Scope × List Y) (q : Scope × List Y) (xs ys : List X) → in_turn f q (xs ++ ys) ≡ in_turn f (in_turn f q xs) ys
in_turn_more f q [] ys = refl
in_turn_more f q (x ∷ xs) ys = in_turn_more f (with_turn f q x) xs ys
