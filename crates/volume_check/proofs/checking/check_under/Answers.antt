use Rattle.std.proofs.Common.{◌≡◌, ◌≤◌, ◌∙◌, sym, ap, arith}
use Rattle.vol_layout.specs.Regions.{total}
use Rattle.shared_disk.specs.State.{State}
use Rattle.vol_base.specs.laws.ResultLaws.{if_ok_then, on_ok_of}
use Rattle.volume_check.proofs.ToldLaws.{bad_superblock, empty_device, empty_is_not_blank, short_device, whole_device}
use Rattle.volume_check.proofs.checking.check_under.Goals as goal

pub returns-then-blocks-eq0-clause-faults : goal.returns-then-blocks-eq0-clause-faults
returns-then-blocks-eq0-clause-faults g c =
    let s = g.D.Device.state c.args.disk.now in
    if_ok_then c.alone.result c.alone.ensures.fault
    (λ faults is. rw is (empty_device s s.counter (sym c.blocks-2.ensures ∙ c.if-blocks-eq0.true) (g.met.D.Device.whole_image c.args.disk.now)))

pub returns-then-blocks-eq0-clause-not_blank : goal.returns-then-blocks-eq0-clause-not_blank
returns-then-blocks-eq0-clause-not_blank g c =
    on_ok_of c.alone.result (empty_is_not_blank (g.D.Device.state c.args.disk.now) (sym c.blocks-2.ensures ∙ c.if-blocks-eq0.true) (g.met.D.Device.whole_image c.args.disk.now))

pub returns-in-Err-read-clause-faults : goal.returns-in-Err-read-clause-faults
returns-in-Err-read-clause-faults g c =
    let s = g.D.Device.state c.args.disk.now in
    if_ok_then c.alone-in-Err-read.result c.alone-in-Err-read.ensures.fault
    (λ faults is. rw is (bad_superblock s s.counter c.in-Ok.block.0 c.in-Ok.ensures.block c.in-Err-read.ensures.err))

pub returns-then-found-need-clause-faults : goal.returns-then-found-need-clause-faults
returns-then-found-need-clause-faults g c =
    let s = g.D.Device.state c.args.disk.now in
    let found_is : c.blocks-found.result ≡ s.blocks = c.blocks-found.ensures ∙ ap (λ (t : State). t.blocks) c.in-Ok.ensures.same in
    if_ok_then c.alone-then-found-need.result c.alone-then-found-need.ensures.fault
    (λ faults is. rw is (short_device s s.counter c.in-Ok.block.0 c.in-Ok-read.geometry c.total-need.result c.blocks-found.result
    c.in-Ok.ensures.block (g.met.D.Device.whole_image c.args.disk.now) c.in-Ok-read.ensures.ok c.total-need.ensures.blocks found_is c.if-found-need.true))

pub returns-clause-faults : goal.returns-clause-faults
returns-clause-faults g c =
    let s = g.D.Device.state c.args.disk.now in
    let found_is : c.blocks-found.result ≡ s.blocks = c.blocks-found.ensures ∙ ap (λ (t : State). t.blocks) c.in-Ok.ensures.same in
    let enough : total c.in-Ok-read.geometry ≤ s.blocks = omega (arith, c.if-found-need.false, found_is, c.total-need.ensures.blocks) in
    let are = rw c.in-Ok.ensures.same at c.check_tables.ensures.faults in
    if_ok_then c.check_tables.result are
    (λ faults of. whole_device s s.counter c.in-Ok.block.0 c.in-Ok-read.geometry faults.items c.in-Ok.ensures.block (g.met.D.Device.whole_image c.args.disk.now) c.in-Ok-read.ensures.ok enough of)
