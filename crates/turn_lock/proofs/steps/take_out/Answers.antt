use Rattle.std.proofs.Common.{◌∷◌, ◌∙◌, length, sym, ap, arith, Some}
use Rattle.atomic_table.specs.Table.{rest}
use Rattle.turn_lock.proofs.Keeps.{may_load}
use Rattle.turn_lock.proofs.steps.take_out.Goals as goal

pub load-count-requires : goal.load-count-requires
load-count-requires g c =
    let turn = c.requires.turn in (
      c.requires.table.same,
      (let two = c.requires.table.two in omega arith),
      may_load g.T.Begun.began g.T.Counted.listed _ _ _ _ c.args.place.now.me.0 c.args.place.now.me.1 turn.value (length (g.T.Counted.listed turn.value)) turn.turn,
    )

pub exchange-requires : goal.exchange-requires
exchange-requires g c =
    let turn = c.requires.turn in
    let went = c.load-count.ensures.2 turn.value (length (g.T.Counted.listed turn.value)) turn.turn in
    let slot = ap (λ m. m.1) went.1 ∙ turn.slot in (
      c.load-count.ensures.0 ∙ c.requires.table.same,
      (Some turn.value, slot ∙ ap (λ cs. (0, Some turn.value) ∷ rest cs) (sym slot)),
    )
