use Rattle.std.proofs.Common.{◌≡◌, ◌≤◌, true, is_some, arith, refl}
use Rattle.chr_store.specs.Counts.{count_in, last_in}
use Rattle.chr_store.proofs.Places.{at_resized}
use Rattle.chr_store.proofs.Stamped.{within_stamp}
use Rattle.chr_store.proofs.stamps.Stamps.room.Goals as goal

pub returns-then-place-len-clause-room : goal.returns-then-place-len-clause-room
returns-then-place-len-clause-room g c = within_stamp c.args.self.now.stamps.items c.args.number (omega (arith, c.args.self.now.stamps.ok.0))

pub invariant_of-self : goal.invariant_of-self
invariant_of-self g c = record {
  counted = λ n. at_resized (λ x y. count_in x ≤ last_in x → count_in y ≤ last_in y) c.resize.result c.args.self.now.stamps.items c.resize.new.self.items _ _ n _ (omega (arith, c.args.self.now.stamps.ok.0)) c.resize.ensures.items (λ o less. less) (λ less. less)
      (c.args.self.now.counted n);
}

pub returns-in-Some-clause-counts : goal.returns-in-Some-clause-counts
returns-in-Some-clause-counts g c = λ n. at_resized (λ x y. count_in y ≡ count_in x) c.resize.result c.args.self.now.stamps.items c.resize.new.self.items _ _ n _ (omega (arith, c.args.self.now.stamps.ok.0)) c.resize.ensures.items (λ o. refl) refl

pub returns-in-Some-clause-lasts : goal.returns-in-Some-clause-lasts
returns-in-Some-clause-lasts g c = λ n. at_resized (λ x y. last_in y ≡ last_in x) c.resize.result c.args.self.now.stamps.items c.resize.new.self.items _ _ n _ (omega (arith, c.args.self.now.stamps.ok.0)) c.resize.ensures.items (λ o. refl) refl

pub returns-in-Some-clause-kept : goal.returns-in-Some-clause-kept
returns-in-Some-clause-kept g c = λ n. at_resized (λ x y. is_some x ≡ true → is_some y ≡ true) c.resize.result c.args.self.now.stamps.items c.resize.new.self.items _ _ n _ (omega (arith, c.args.self.now.stamps.ok.0)) c.resize.ensures.items (λ o has. has) (λ _. refl)
