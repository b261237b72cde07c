use Rattle.std.proofs.Common.{Result, subst, sym}
use Rattle.std.specs.Prelude.{IfOk, IfSome}
use Rattle.settle.specs.Passes.{GoesOn}
use Rattle.settle.specs.declared.lone.LoneNo.{LoneNo}
use Rattle.settle.specs.declared.settling.Settled.{Settled}
use Rattle.settle.specs.laws.PassLaws.{goes_then}
use Rattle.solo.specs.Settlings.{HasSettled}
use Rattle.solo.specs.Views.{state_of, told, volume}
use Rattle.solo.specs.laws.SettlingLaws.{told_files, told_sound, told_volume, whole_given, whole_passes, whole_settled}
use Rattle.solo.proofs.whole.settle_volume.Goals as goal
use Rattle.solo.proofs.whole.settle_volume.Given.{Over}

-- the work and the leave behind it give no key
goes_whole : (g : Over) (c : goal.After-both g)
    → GoesOn (state_of c.in-Ok.solo).counter (g.D.Device.state c.close-disk.result.0).counter (told c.in-Ok.solo)
    (g.D.Device.state c.close-disk.result.0).told
goes_whole g c =
    goes_then (state_of c.in-Ok.solo).counter (state_of c.settle-settled.new.lone).counter (g.D.Device.state c.close-disk.result.0).counter
    (told c.in-Ok.solo) (told c.settle-settled.new.lone) (g.D.Device.state c.close-disk.result.0).told c.settle-settled.ensures.on
    c.close-disk.ensures.on

pub settle-settled-requires : goal.settle-settled-requires
settle-settled-requires g c = record { sound = told_sound (volume c.in-Ok.solo) _ (told c.in-Ok.solo) c.in-Ok.ensures.started.valid }

pub returns-clause-settled : goal.returns-clause-settled
returns-clause-settled g c =
    subst (λ (r : Result Settled LoneNo). IfOk r (λ counts. IfSome (g.D.Device.state c.close-disk.result.0).told (λ t. HasSettled counts t.image)))
    (sym c.both.ensures)
    (whole_settled (volume c.in-Ok.solo) (volume c.settle-settled.new.lone) (g.D.Device.state c.close-disk.result.0).counter (told c.in-Ok.solo)
    (told c.settle-settled.new.lone) (g.D.Device.state c.close-disk.result.0).told c.settle-settled.result c.close-disk.result.1
    (told_sound (volume c.in-Ok.solo) _ (told c.in-Ok.solo) c.in-Ok.ensures.started.valid) c.settle-settled.ensures.stays c.settle-settled.ensures.settled
    c.settle-settled.ensures.live c.settle-settled.ensures.distinct c.close-disk.ensures.kept c.close-disk.ensures.valid)

pub returns-clause-files : goal.returns-clause-files
returns-clause-files g c =
    told_files (g.D.Device.state c.args.disk).told (told c.in-Ok.solo) (told c.settle-settled.new.lone) (g.D.Device.state c.close-disk.result.0).told
    c.in-Ok.ensures.started.files c.settle-settled.ensures.files c.close-disk.ensures.files

pub returns-clause-volume : goal.returns-clause-volume
returns-clause-volume g c =
    told_volume (volume c.settle-settled.new.lone) (g.D.Device.state c.close-disk.result.0).counter (g.D.Device.state c.close-disk.result.0).told
    c.close-disk.ensures.valid

pub returns-clause-passes : goal.returns-clause-passes
returns-clause-passes g c =
    whole_passes (g.D.Device.state c.args.disk) (state_of c.in-Ok.solo) (g.D.Device.state c.close-disk.result.0) (goes_whole g c)
    c.in-Ok.ensures.started.passes

pub returns-clause-given : goal.returns-clause-given
returns-clause-given g c =
    whole_given (g.D.Device.state c.args.disk) (state_of c.in-Ok.solo) (g.D.Device.state c.close-disk.result.0) (goes_whole g c) 2
    c.in-Ok.ensures.started.given
