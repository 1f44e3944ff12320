use Rattle.std.proofs.Common.{◌≡◌, ◌∙◌, ◌<◌, ◌≤◌, ℕ, List, [], Bool, true, false, length, get_or, cond, slice_set, ap, refl, arith}
use Rattle.std.specs.Vec.{with_item}
use Rattle.chr_store.specs.declared.lists.Lists.{Lists}
use Rattle.chr_store.specs.declared.lists.OfSymbol.{OfSymbol}
use Rattle.chr_store.proofs.Ascending.{without}
use Rattle.chr_store.proofs.Looked.{look_each, look_missing}
use Rattle.chr_store.proofs.lists.Lists.take_out.Goals as goal
use Rattle.chr_store.proofs.lists.Lists.take_out.Goals.{then-at, else-at}

nothing : (x : ℕ) (b : Bool) → [] ≡ cond b (without x []) []
nothing x true = refl
nothing x false = refl

pub returns-in-Some : goal.returns-in-Some
returns-in-Some g c =
    let same : c.if-at.self.by_symbol.items ≡ c.args.self.now.by_symbol.items = elim c.if-at.branch [ then-at w ↦ ap (λ (l : Lists g.row.A.Denot). l.by_symbol.items) w.self-is | else-at w ↦ ap (λ (l : Lists g.row.A.Denot). l.by_symbol.items) w.self-is ] in
    let opened : c.if-at.self.«open».ids ≡ cond c.args.at.has_variables (without c.args.id.0 c.args.self.now.«open».ids) c.args.self.now.«open».ids = elim c.if-at.branch [
      | then-at w ↦ ap (λ (l : Lists g.row.A.Denot). l.«open».ids) w.self-is ∙ rw w.if-at.true w.take_out.ensures
      | else-at w ↦ ap (λ (l : Lists g.row.A.Denot). l.«open».ids) w.self-is ∙ rw w.if-at.false refl
    ] in
    let inside : c.args.at.sym.0 < length c.args.self.now.by_symbol.items = omega (arith, c.in-Some.ensures.variant.0 refl, c.if-at.self.by_symbol.ok.0, ap length same) in
    let is : c.in-Some.lists.now ≡ get_or c.args.self.now.by_symbol.items c.args.at.sym.0 c.in-Some.lists.now = c.in-Some.ensures.value ∙ ap (λ (l : List (OfSymbol g.row.A.Denot)). get_or l c.args.at.sym.0 c.in-Some.lists.now) same in
    look_each (λ b old new. new ≡ cond b (without c.args.id.0 old) old) c.args.self.now (record { by_symbol = with_item c.if-at.self.by_symbol c.args.at.sym.0 c.take_out-in-Some.new.self; «open» = c.if-at.self.«open»; alloc = c.if-at.self.alloc }) c.args.at c.in-Some.lists.now c.take_out-in-Some.new.self
    inside is (ap (λ (l : List (OfSymbol g.row.A.Denot)). slice_set l c.args.at.sym.0 c.take_out-in-Some.new.self) same) c.take_out-in-Some.ensures.all c.take_out-in-Some.ensures.keyed opened (λ ids. refl)

pub returns-in_default : goal.returns-in_default
returns-in_default g c =
    let same : c.if-at.self.by_symbol.items ≡ c.args.self.now.by_symbol.items = elim c.if-at.branch [ then-at w ↦ ap (λ (l : Lists g.row.A.Denot). l.by_symbol.items) w.self-is | else-at w ↦ ap (λ (l : Lists g.row.A.Denot). l.by_symbol.items) w.self-is ] in
    let opened : c.if-at.self.«open».ids ≡ cond c.args.at.has_variables (without c.args.id.0 c.args.self.now.«open».ids) c.args.self.now.«open».ids = elim c.if-at.branch [
      | then-at w ↦ ap (λ (l : Lists g.row.A.Denot). l.«open».ids) w.self-is ∙ rw w.if-at.true w.take_out.ensures
      | else-at w ↦ ap (λ (l : Lists g.row.A.Denot). l.«open».ids) w.self-is ∙ rw w.if-at.false refl
    ] in
    let past : length c.args.self.now.by_symbol.items ≤ c.args.at.sym.0 = grind (arith, c.in_default.ensures.variant.1, c.if-at.self.by_symbol.ok.0, ap length same) in
    look_missing (λ b old new. new ≡ cond b (without c.args.id.0 old) old) c.args.self.now (record { by_symbol = c.if-at.self.by_symbol; «open» = c.if-at.self.«open»; alloc = c.if-at.self.alloc }) c.args.at past same (nothing c.args.id.0) opened (λ ids. refl)
