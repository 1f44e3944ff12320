-- Which types threads may share: terms, tests, goals, rules, programs; and what a closure may take along.
use denote.RattleType.{RattleType}
use denote.Param.Send.{IsSend, IsSync, Frees, sendable, recorded_send, recorded_sync, struct_send, enum_sync, struct_sync}
use denote.Enum.Declared as enum
use denote.Struct.Declared as struct
use Rattle.std.specs.declared.alloc.Allocator.{Ghosts}
use Rattle.std.proofs.CrossingOver.{crosses}
use Rattle.std.specs.contracts.vec.Vec as Vec
use Rattle.std.specs.contracts.string.String as String
use Rattle.chr_term.specs.contracts.term.Term as Term
use Rattle.chr_term.specs.contracts.names.Names as Names
use Rattle.chr_bind.specs.contracts.guard.Test as Test
use Rattle.chr_rules.specs.contracts.goal.Goal as Goal
use Rattle.chr_rules.specs.contracts.rule.Rule as Rule
use Rattle.chr_rules.specs.contracts.program.Program as Program
use Prim.Native.Nat.{ℕ}
use mathlib.Core.List.{List, [], ◌∷◌}
use denote.Struct.Tuple.{Tuple, TupleAt, tuple_type, type_at}
use Rattle.chr_term.specs.contracts.term.Sym as Sym
use Rattle.chr_term.proofs.term.Sym.TheSendSync as sym_laws
use Rattle.chr_rules.specs.contracts.index.Occurrence as Occurrence
use Rattle.chr_rules.proofs.index.Occurrence.TheSendSync as occurrence_laws
use Rattle.chr_term.proofs.names.Names.TheSendSync as names_laws
use Rattle.chr_term.specs.contracts.args.Args as Args
use Rattle.chr_term.proofs.args.Args.TheLaws.TheKnot.{both_send-Args, both_sync-Args, both_sync-Term}

-- a closure's captures
pub five_send : (ν : List ℕ) (T₁ T₂ T₃ T₄ T₅ : RattleType) → IsSend T₁ → IsSend T₂ → IsSend T₃ → IsSend T₄ → IsSend T₅ → IsSend (TupleAt ν (T₁ ∷ T₂ ∷ T₃ ∷ T₄ ∷ T₅ ∷ []))
five_send ν T₁ T₂ T₃ T₄ T₅ p q r s t =
    let T = type_at ν (T₁ ∷ T₂ ∷ T₃ ∷ T₄ ∷ T₅ ∷ []) in
    recorded_send _ _ _ T.to_one (struct_send (struct.shape T) (p, (q, (r, (s, (t, tt))))))

pub seven_send : (ν : List ℕ) (T₁ T₂ T₃ T₄ T₅ T₆ T₇ : RattleType) → IsSend T₁ → IsSend T₂ → IsSend T₃ → IsSend T₄ → IsSend T₅ → IsSend T₆ → IsSend T₇ → IsSend (TupleAt ν (T₁ ∷ T₂ ∷ T₃ ∷ T₄ ∷ T₅ ∷ T₆ ∷ T₇ ∷ []))
seven_send ν T₁ T₂ T₃ T₄ T₅ T₆ T₇ p q r s t u v =
    let T = type_at ν (T₁ ∷ T₂ ∷ T₃ ∷ T₄ ∷ T₅ ∷ T₆ ∷ T₇ ∷ []) in
    recorded_send _ _ _ T.to_one (struct_send (struct.shape T) (p, (q, (r, (s, (t, (u, (v, tt))))))))

module _ (A : RattleType) (g : Ghosts A.Denot) (s : IsSend A) (y : IsSync A) (f : Frees g g.dealloc_token) where
  pub args : IsSync (Args.the_field A g).row
  args = both_sync-Args A g (λ h hs hy. search (crosses, sendable) depth 20) (search sendable) (search sendable) (search sendable) (search (sym_laws.the_send, sym_laws.the_field_send, sendable) depth 20) (λ h hs hy. search (crosses, sendable) depth 20) (search sendable) (search sendable) (search sendable) (search (sym_laws.the_sync, sym_laws.the_field_sync, sendable) depth 20)

  pub args_send : IsSend (Args.the_field A g).row
  args_send = both_send-Args A g (λ h hs hy. search (crosses, sendable) depth 20) (search sendable) (search sendable) (search sendable) (search (sym_laws.the_send, sym_laws.the_field_send, sendable) depth 20) (λ h hs hy. search (crosses, sendable) depth 20) (search sendable) (search sendable) (search sendable) (search (sym_laws.the_sync, sym_laws.the_field_sync, sendable) depth 20)

  pub term : IsSync (Term.the_field A g).row
  term = both_sync-Term A g (search sendable) (search sendable) (search (sym_laws.the_field_sync, sendable) depth 20) args

  pub term_row : IsSync (Term.the_row A g)
  term_row = recorded_sync _ _ _ (Term.the_type A g).to_one term

  pub vec_of : (R : RattleType) → IsSync R → IsSync (Vec.the_field R A g).row
  vec_of R r = search (crosses, sendable) depth 20

  pub vec_row : (R : RattleType) → IsSync R → IsSync (Vec.the_row R A g)
  vec_row R r = search (crosses, sendable) depth 20

  pub string : IsSync (String.the_field A g).row
  string = struct_sync (struct.shape (String.the_type A g)) (search (vec_of, crosses, sendable) depth 20)

  pub test : IsSync (Test.the_field A g).row
  test = let t = term in enum_sync (enum.shape (Test.the_type A g)) (search (t, sendable) depth 20)

  pub test_row : IsSync (Test.the_row A g)
  test_row = recorded_sync _ _ _ (Test.the_type A g).to_one test

  pub goal_ : IsSync (Goal.the_field A g).row
  goal_ = let t = term in let a = args in enum_sync (enum.shape (Goal.the_type A g)) (search (t, a, sym_laws.the_field_sync, sendable) depth 20)

  pub goal_row : IsSync (Goal.the_row A g)
  goal_row = recorded_sync _ _ _ (Goal.the_type A g).to_one goal_

  pub head : IsSync (Tuple (Sym.the_row ∷ (Vec.the_row (Term.the_row A g) A g) ∷ []))
  head = let r = term_row in recorded_sync _ _ _ (tuple_type (Sym.the_row ∷ (Vec.the_row (Term.the_row A g) A g) ∷ [])).to_one (struct_sync (struct.shape (tuple_type (Sym.the_row ∷ (Vec.the_row (Term.the_row A g) A g) ∷ []))) (search (sym_laws.the_sync, sym_laws.the_field_sync, r, vec_of, vec_row, sendable) depth 20))

  pub rule : IsSync (Rule.the_field A g).row
  rule =
      let label = string in
      let heads = vec_of (Tuple (Sym.the_row ∷ (Vec.the_row (Term.the_row A g) A g) ∷ [])) head in
      let flags = vec_of denote.Builtin.bool (search sendable) in
      let guard = vec_of (Test.the_row A g) test_row in
      let body = vec_of (Goal.the_row A g) goal_row in
      struct_sync (struct.shape (Rule.the_type A g)) (search (label, heads, flags, guard, body, sendable) depth 20)

  pub rule_row : IsSync (Rule.the_row A g)
  rule_row = recorded_sync _ _ _ (Rule.the_type A g).to_one rule

  pub names : IsSync (Names.the_row A g)
  names = names_laws.the_sync A g y

  pub program : IsSync (Program.the_field A g).row
  program =
      let its_names : IsSync (Names.the_field A g).row = names in
      let rules = vec_of (Rule.the_row A g) rule_row in
      let index = vec_of (Vec.the_row Occurrence.the_row A g) (vec_row Occurrence.the_row occurrence_laws.the_sync) in
      struct_sync (struct.shape (Program.the_type A g)) (search (its_names, rules, index, sendable) depth 20)

  pub program_row : IsSync (Program.the_row A g)
  program_row = recorded_sync _ _ _ (Program.the_type A g).to_one program
