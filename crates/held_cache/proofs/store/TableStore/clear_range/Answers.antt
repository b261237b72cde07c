use Rattle.std.proofs.Common.{◌≡◌, ℕ, arith, subst}
use Rattle.held_cache.specs.Stored.{ClearsRange}
use Rattle.held_cache.proofs.StoreLaws.{cleared-more, cleared-none}
use Rattle.held_cache.proofs.store.TableStore.clear_range.Goals as goal

pub loop-place-init : goal.loop-place-init
loop-place-init c = cleared-none c.args.self.now c.args.first

pub clear-requires : goal.clear-requires
clear-requires c = omega (arith, c.loop-place.invariant.long)

pub loop-place-preserved : goal.loop-place-preserved
loop-place-preserved c = cleared-more c.args.self.now c.loop-place.self c.clear.new.self c.args.first c.loop-place.place c.loop-place.invariant (omega arith) (omega arith) c.clear.ensures

pub returns : goal.returns
returns c =
    let last : c.loop-place.place ≡ c.args.end = omega arith in
    subst (λ (n : ℕ). ClearsRange c.args.self.now c.loop-place.self c.args.first n) last c.loop-place.invariant
