use Rattle.std.proofs.Common.{◌≡◌, ◌∷◌, [], ◌∙◌, refl, ap, arith, Some}
use Rattle.atomic_table.specs.Table.{rest}
use Rattle.turn_lock.specs.Rule.{knows}
use Rattle.turn_lock.specs.Steps.{Sits}
use Rattle.turn_lock.specs.declared.knowledge.Turn.TheVariants.{Has}
use Rattle.turn_lock.proofs.Keeps.{may_raise, may_free}
use Rattle.turn_lock.proofs.steps.put_back.Goals as goal

pub store-requires : goal.store-requires
store-requires g c =
    let can = c.requires.can in (
      c.requires.table.same,
      (let two = c.requires.table.two in omega arith),
      may_raise g.T.Begun.began g.T.Counted.listed _ _ _ _ c.args.place.now.me.0 c.args.place.now.me.1 can.taken can.count c.args.entries (ap (λ m. m.0.turn) can.holds),
    )

pub swap-requires : goal.swap-requires
swap-requires g c =
    let can = c.requires.can in
    let raised = c.store.ensures.2 can.taken can.count (ap (λ m. m.0.turn) can.holds) in
    let put = c.exchange-emptied.ensures in
    let v = knows c.args.place.now.me.0.parts c.args.place.now.me.0.seen (Has can.taken c.args.entries) in
    let is : c.exchange-emptied.new.seat.me ≡ (v, (0, Some c.args.value) ∷ []) =
    put.3 ∙ ap (λ (m : Sits g.row.T.Denot). (m.0, (0, Some c.args.value) ∷ rest m.1)) raised ∙ ap (λ (m : Sits g.row.T.Denot). (v, (0, Some c.args.value) ∷ rest m.1)) can.holds in (
      put.0 ∙ (c.store.ensures.0 ∙ c.requires.table.same),
      (let two = c.requires.table.two in omega arith),
      rw is (may_free g.T.Begun.began g.T.Counted.listed _ _ _ _ v can.taken c.args.value c.args.entries refl can.entries_are can.later),
    )
