use Rattle.std.proofs.Common.{◌∙◌, ap, subst, arith}
use Rattle.std.proofs.lemmas.Option.{slice_get_past}
use Rattle.chr_semantics.specs.Tree.{var}
use Rattle.chr_bind.specs.Chains.{IsLast, name_of, pairs_of}
use Rattle.chr_bind.proofs.Links.{bound_within, free_beyond, linked_at, pair_below, read_link, stands}
use Rattle.chr_bind.proofs.Roots.{root_of_written}
use Rattle.chr_bind.proofs.chains.Chains.value.Goals as goal

pub returns-then-place-self : goal.returns-then-place-self
returns-then-place-self g c =
    let links = c.args.self.now.links.now in
    (free_beyond links (pairs_of c.args.self.now) c.args.var c.requires (slice_get_past links c.args.var (omega arith)), (λ below. absurd (omega (arith, below))))

pub unreachable-requires : goal.unreachable-requires
unreachable-requires g c = subst IsLast (read_link _ _ _ _ c.end-end.ensures.known c.in-Follows.is) c.end-end.ensures.last

pub term-requires : goal.term-requires
term-requires g c = bound_within _ _ _ _ c.requires (read_link _ _ _ _ c.end-end.ensures.known c.in-Bound.is)

pub written_root-requires : goal.written_root-requires
written_root-requires g c = (stands _ _ _ _ _ c.requires (read_link _ _ _ _ c.end-end.ensures.known c.in-Bound.is) c.term.ensures).1

pub returns-in-Free : goal.returns-in-Free
returns-in-Free g c =
    let link = read_link _ _ _ _ c.end-end.ensures.known c.in-Free.is in
    (c.end-end.ensures.same ∙ (linked_at _ _ _ _ c.requires link).0, (λ below. ap name_of link))

pub returns-in-Bound : goal.returns-in-Bound
returns-in-Bound g c =
    let link = read_link _ _ _ _ c.end-end.ensures.known c.in-Bound.is in
    let s = stands _ _ _ _ _ c.requires link c.term.ensures in
    root_of_written c.args.self.now (var c.args.var) _ c.written_root.result (c.end-end.ensures.same ∙ s.0) (pair_below _ _ _ _ c.requires.below c.term.ensures) c.written_root.ensures
