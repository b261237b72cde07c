use Rattle.std.proofs.Common.{ap, arith, subst, sym, ◌∙◌}
use Rattle.std.specs.Prelude.{Err}
use Rattle.disk_locks.specs.Consistent.{Consistent}
use Rattle.lock_store.specs.Memories.{claim_of}
use Rattle.lock_store.specs.Views.{LocksView, host_at}
use Rattle.lock_store.specs.declared.host.HostState.{HostState}
use Rattle.plan_parts.specs.laws.CutCallLaws.{cut_read}
use Rattle.plan_parts.specs.laws.TakenLaws.{others_locks}
use Rattle.vol_base.specs.declared.command.Command.TheVariants.{Beat}
use Rattle.vol_layout.specs.declared.kind.Kind.TheVariants as kinds
use Rattle.recover_plan.specs.laws.LoneLaws.{claimed_on, read_came, refused_by}
use Rattle.recover_plan.specs.laws.StepLaws.{ready_key, shut_out}
use Rattle.recover_plan.proofs.lone.finds.Goals as goal

pub goes_on-requires : goal.goes_on-requires
goes_on-requires g c = record {
  at = claimed_on c.args.world.now c.args.host c.args.of (subst Consistent c.locks.ensures c.geometry-geometry.ensures.consistent)
      c.requires.at c.claim-claim.result (sym (c.claim-claim.ensures ∙ ap (λ (m : HostState). claim_of m c.args.of)
      (c.host.ensures ∙ ap (λ (l : LocksView). host_at l c.args.host) c.locks-2.ensures))) c.if-claim-ne0.true c.claim-claim.type_inv;
}

pub read-requires-clause-key : goal.read-requires-clause-key
read-requires-clause-key g c =
    ready_key c.args.world.now c.args.host (subst Consistent c.locks.ensures c.geometry-geometry.ensures.consistent) c.requires.at.3

pub returns-in-Ok-clause-came : goal.returns-in-Ok-clause-came
returns-in-Ok-clause-came g c =
    rw c.found_other.ensures
    (read_came c.args.world.now c.args.host c.args.of (subst Consistent c.locks.ensures c.geometry-geometry.ensures.consistent) c.requires.at c.read.new.world c.in-Ok.slot
    c.in-Ok.ensures.consistent c.in-Ok.ensures.others c.in-Ok.ensures.standing
    (sym (c.claim-claim.ensures ∙ ap (λ (m : HostState). claim_of m c.args.of)
    (c.host.ensures ∙ ap (λ (l : LocksView). host_at l c.args.host) c.locks-2.ensures)) ∙ omega (arith, c.if-claim-ne0.false))
    c.in-Ok.ensures.did)

pub returns-in-Err-clause-others : goal.returns-in-Err-clause-others
returns-in-Err-clause-others g c =
    others_locks c.args.world.now c.read.new.world c.args.host
    (subst Consistent c.locks.ensures c.geometry-geometry.ensures.consistent) c.in-Err.ensures.others c.in-Err.ensures.standing

pub returns-in-Err-clause-refused : goal.returns-in-Err-clause-refused
returns-in-Err-clause-refused g c =
    refused_by Beat c.args.host c.args.world.now c.read.new.world c.in-Err.why (λ n. Unit {0})
    (ready_key c.args.world.now c.args.host (subst Consistent c.locks.ensures c.geometry-geometry.ensures.consistent) c.requires.at.3)
    (shut_out c.args.world.now c.read.new.world c.args.host _ _ _ c.in-Err.why c.in-Err.ensures.did)
    (cut_read c.args.world.now c.read.new.world c.args.host (kinds.Slot c.args.of) _ c.in-Err.why (returns-in-Err-clause-others g c)
    c.in-Err.ensures.did (λ at is. c.in-Err.ensures.sound at (ap Err is)) Beat)

pub returns-in-Ok-clause-others : goal.returns-in-Ok-clause-others
returns-in-Ok-clause-others g c =
    others_locks c.args.world.now c.read.new.world c.args.host
    (subst Consistent c.locks.ensures c.geometry-geometry.ensures.consistent) c.in-Ok.ensures.others c.in-Ok.ensures.standing
