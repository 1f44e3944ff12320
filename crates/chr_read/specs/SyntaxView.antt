-- The syntax trees that values of the code stand for.
use Rattle.std.specs.Prelude.{List, [], ◌∷◌, map, option_map, string_bytes, box_value}
use Rattle.chr_semantics.specs.Syntax as s
use Rattle.chr_tokens.specs.TokenView.{additive_view, multiplicative_view, relation_view}
use Rattle.chr_read.specs.declared.syntax.Expr.{Expr, fold-Expr}
use Rattle.chr_read.specs.declared.syntax.Expr.TheOpen.{Expr-F}
use Rattle.chr_read.specs.declared.syntax.Operator.{Operator}
use Rattle.chr_read.specs.declared.syntax.Operator.TheVariants.{Additive, Multiplicative}
use Rattle.chr_read.specs.declared.syntax.Item.{Item}
use Rattle.chr_read.specs.declared.syntax.Item.TheVariants.{Plain, Related}
use Rattle.chr_read.specs.declared.syntax.Head.{Head}
use Rattle.chr_read.specs.declared.syntax.Arrow.{Arrow}
use Rattle.chr_read.specs.declared.syntax.Arrow.TheVariants.{Simplification, Propagation}
use Rattle.chr_read.specs.declared.syntax.RuleSyntax.{RuleSyntax}
use Rattle.chr_read.specs.declared.syntax.Declaration.{Declaration}
use Rattle.chr_read.specs.declared.syntax.Part.{Part}
use Rattle.chr_read.specs.declared.syntax.Part.TheVariants.{Declares, Ignored, Rule}
use Rattle.chr_read.specs.declared.syntax.ProgramSyntax.{ProgramSyntax}
use Rattle.chr_read.specs.declared.syntax.QuerySyntax.{QuerySyntax}

abbrev pub operator_view : Operator → s.Operator
operator_view (Additive o) = s.adding (additive_view o)
operator_view (Multiplicative o) = s.multiplying (multiplicative_view o)

-- a chain of operators associates to the left
abbrev pub chain : s.Expr → List (Operator × s.Expr) → s.Expr
chain e [] = e
chain e (x ∷ xs) = chain (s.operation (operator_view x.0) e x.1) xs

-- one level, with each expression inside already seen as its tree
abbrev pub view_step : {A : Type 0} → Expr-F A s.Expr → s.Expr
view_step (Expr-F.Variable w) = s.variable (string_bytes w)
view_step (Expr-F.Number z) = s.number z
view_step (Expr-F.Call w es) = s.call (string_bytes w) (s.exprs_of es.items)
view_step (Expr-F.List es) = s.list es.items s.nil
view_step (Expr-F.ListWithEnd es e) = s.list es.items (box_value e)
view_step (Expr-F.Chain e es) = chain (box_value e) es.items

abbrev pub view : {A : Type 0} → Expr A → s.Expr
view {A} = fold-Expr A s.Expr view_step

-- the operators of a chain, each with the operand after it
abbrev pub operand_views : {A : Type 0} → List (Operator × Expr A) → List (Operator × s.Expr)
operand_views es = map (λ x. (x.0, view x.1)) es

abbrev pub views : {A : Type 0} → List (Expr A) → List s.Expr
views es = map view es

abbrev pub item_view : {A : Type 0} → Item A → s.Item
item_view (Plain e) = s.plain (view e)
item_view (Related r d e) = s.related (relation_view r) (view d) (view e)

abbrev pub item_views : {A : Type 0} → List (Item A) → List s.Item
item_views is = map item_view is

abbrev pub head_view : {A : Type 0} → Head A → s.Head
head_view h = record { item = item_view h.item; passive = h.passive }

abbrev pub head_views : {A : Type 0} → List (Head A) → List s.Head
head_views hs = map head_view hs

abbrev pub arrow_view : Arrow → s.Arrow
arrow_view Simplification = s.simplification
arrow_view Propagation = s.propagation

abbrev pub rule_view : {A : Type 0} → RuleSyntax A → s.Rule
rule_view r = record { label = option_map string_bytes r.label; heads = head_views r.heads.items; behind = head_views r.behind.items; arrow = arrow_view r.arrow; guard = item_views r.guard.items; body = item_views r.body.items }

abbrev pub declaration_view : {A : Type 0} → Declaration A → s.Declaration
declaration_view d = record { name = string_bytes d.name; arity = d.arity }

abbrev pub declaration_views : {A : Type 0} → List (Declaration A) → List s.Declaration
declaration_views ds = map declaration_view ds

abbrev pub part_view : {A : Type 0} → Part A → s.Part
part_view (Declares l ds) = s.declares l (declaration_views ds.items)
part_view (Ignored l) = s.ignored l
part_view (Rule l r) = s.rule l (rule_view r)

abbrev pub part_views : {A : Type 0} → List (Part A) → s.Program
part_views ps = map part_view ps

abbrev pub program_view : {A : Type 0} → ProgramSyntax A → s.Program
program_view p = part_views p.parts.items

abbrev pub query_view : {A : Type 0} → QuerySyntax A → s.Query
query_view q = record { line = q.line; items = item_views q.items.items }
