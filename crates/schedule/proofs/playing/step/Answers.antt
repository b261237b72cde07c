use Rattle.std.proofs.Common.{subst, ◌∙◌}
use Rattle.vol_base.specs.Turned.{Stays}
use Rattle.vol_base.specs.laws.ResultLaws.{on_err_of}
use Rattle.vol_base.specs.declared.answer.Turn.{Turn}
use Rattle.vol_base.specs.declared.block.Digest.{Digest}
use Rattle.cluster.specs.Agreements.{Supplied, Turned}
use Rattle.cluster.specs.Waits.{Tells}
use Rattle.schedule.specs.laws.PlayLaws.{gone_turn, gone_work, refused_turn, same_both}
use Rattle.schedule.proofs.playing.step.Goals as goal

pub returns-in-Work-clause-same : goal.returns-in-Work-clause-same
returns-in-Work-clause-same g c = same_both _ _ _ c.in_ok-block.ensures.same c.supply.ensures.same

pub returns-in-Work-clause-gone : goal.returns-in-Work-clause-gone
returns-in-Work-clause-gone g c =
    let turn = c.in_ok-block.ensures in
    let v = c.args.cluster.now in
    let u = c.turn.new.self in
    gone_work v u c.supply.new.self c.args.host c.in-Work.block c.requires.busy c.requires.live turn.same
    (subst (λ (t : Turn). Turned v.parts c.args.host t u.parts) c.in-Work.is turn.turned)
    (subst (λ (t : Turn). Stays t v u) c.in-Work.is turn.stays) (subst (λ (t : Turn). Tells v.parts c.args.host t) c.in-Work.is turn.tells)
    (subst (λ (d : Digest). Supplied u.parts c.args.host d c.supply.new.self.parts) c.digest_of.ensures (c.supply.ensures.noted turn.live))
    (c.supply.ensures.live ∙ turn.live) (c.supply.ensures.phase ∙ turn.phase) c.supply.ensures.lowers

pub returns-in_default : goal.returns-in_default
returns-in_default g c =
    let turn = c.in_ok-block.ensures in
    record {
      same = turn.same;
      gone =
          gone_turn c.args.cluster.now c.turn.new.self c.args.host c.in_ok-block.field-0 c.in_default.not-Work c.requires.busy turn.turned
          turn.live turn.phase turn.lowers turn.stays turn.tells;
      refused = tt;
      spent = tt;
    }

pub returns-in_err-block-clause-refused : goal.returns-in_err-block-clause-refused
returns-in_err-block-clause-refused g c =
    on_err_of c.from_residual.result
    (refused_turn c.args.cluster.now c.turn.new.self c.turn.result c.in_err-block.field-0.0 c.in_err-block.was c.requires.live c.turn.ensures.room
    c.in_err-block.ensures.err)
