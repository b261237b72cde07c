use Rattle.std.proofs.Common.{◌≡◌, ◌∙◌, ap, subst, arith, true, false}
use Rattle.std.specs.Prelude.{IsSome}
use Rattle.turn_lock.specs.Steps.{GotTurn, Sits}
use Rattle.turn_lock.proofs.Keeps.{may_take}
use Rattle.turn_lock.proofs.steps.take_turn.Goals as goal
use Rattle.turn_lock.proofs.steps.take_turn.Goals.{in-None, in-Some+then-compare_exchange-eq0}

pub compare_exchange-requires : goal.compare_exchange-requires
compare_exchange-requires g c =
    let can = c.requires.can in
    let same = c.loop.invariant.same in (
      c.loop.invariant.table ∙ c.requires.table.same,
      (let two = c.requires.table.two in omega arith),
      may_take g.T.Begun.began g.T.Counted.listed _ _ _ _ c.loop.place.me.0 c.loop.place.me.1 (ap (λ m. m.0.turn) same ∙ can.waits) (let part = can.part in rw same (omega arith)),
    )

pub returns-clause-turn : goal.returns-clause-turn
returns-clause-turn g c = elim c.match-next.branch [
  | in-None w ↦ let never : false ≡ true = subst IsSome w.in-None.is c.next.ensures.steps in absurd (cc)
  | in-Some+then-compare_exchange-eq0 w ↦
      let turn = w.compare_exchange.ensures.2.0 w.if-compare_exchange-eq0.true in
      subst (λ (m : Sits g.row.T.Denot). GotTurn g.T.Begun.began g.T.Counted.listed m c.match-next.place.me) c.loop.invariant.same (rw w.place-is turn)
]

pub loop-preserved : goal.loop-preserved
loop-preserved g c =
    let went = c.compare_exchange.ensures in
    record { next = tt; ends = tt; table = went.0 ∙ c.loop.invariant.table; same = went.2.1 c.if-compare_exchange-eq0.false ∙ c.loop.invariant.same }
