use Rattle.std.proofs.Common.{refl, subst, sym}
use Rattle.host_facts.specs.Calls.{SwapsPlace}
use Rattle.meta_world.proofs.HintWrites.{hint_kept, hint_swapped, swapped_hint_files}
use Rattle.meta_world.proofs.Puts.{may_put, others_kept}
use Rattle.meta_world.proofs.Sures.{hint_sure}
use Rattle.meta_world.proofs.world.MetaWorld.swap_hint.Goals as goal

pub swap-requires-clause-may : goal.swap-requires-clause-may
swap-requires-clause-may g c =
    may_put c.args.self.now.locks _ _ _ _ refl
    (hint_sure c.args.self.now.locks _ _ _ c.known.ensures.consistent c.hint-kind.ensures.hint c.hint-kind.ensures.has)

pub returns-clause-did : goal.returns-clause-did
returns-clause-did g c =
    subst (λ p. SwapsPlace c.args.self.now.locks c.args.host p c.args.old.now.0 c.args.new.now.0 c.swap.result c.swap.new.self.locks)
    (sym c.hint-kind.ensures.at) c.swap.ensures.did

pub returns-clause-others : goal.returns-clause-others
returns-clause-others g c =
    others_kept c.known.ensures.consistent c.swap.ensures.others c.swap.ensures.standing

pub returns-clause-swapped : goal.returns-clause-swapped
returns-clause-swapped g c =
    hint_swapped c.args.self.now c.swap.new.self _ _ c.known.ensures.consistent c.swap.ensures.others c.swap.ensures.standing
    c.requires.place _ _ c.swap.result
    (returns-clause-did g c)

pub returns-clause-kept : goal.returns-clause-kept
returns-clause-kept g c =
    hint_kept c.args.self.now c.swap.new.self _ _ _ _ c.swap.result c.swap.ensures.others c.swap.ensures.standing (returns-clause-did g c)

pub returns-clause-files : goal.returns-clause-files
returns-clause-files g c =
    swapped_hint_files c.args.self.now c.swap.new.self _ _ _ _ c.swap.result c.known.ensures.consistent c.requires.place
    (returns-clause-did g c) (returns-clause-swapped g c)
