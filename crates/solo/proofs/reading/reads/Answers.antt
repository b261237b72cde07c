use Rattle.std.proofs.Common.{◌<◌, subst, sym}
use Rattle.vol_layout.specs.declared.geometry.Geometry.{Geometry}
use Rattle.solo.specs.Reads.{HasSeen}
use Rattle.solo.specs.laws.AloneLaws.{untouched_then}
use Rattle.solo.specs.laws.ReadLaws.{looked_cause, looking_then, reads_few, seen_fewer, seen_last, seen_more, seen_reply, untouched_same}
use Rattle.solo.proofs.reading.reads.Goals as goal

pub loop-found-init : goal.loop-found-init
loop-found-init g c = record {
  looking = record { alone = c.requires.alone; cached = c.requires.cached; same = untouched_same c.args.world.now };
  few = reads_few c.args.world.now c.args.cache.now c.args.file c.args.index c.requires.alone c.requires.file;
}

pub looks-requires-clause-alone : goal.looks-requires-clause-alone
looks-requires-clause-alone g c = c.loop-found.invariant.looking.alone

pub looks-requires-clause-cached : goal.looks-requires-clause-cached
looks-requires-clause-cached g c = c.loop-found.invariant.looking.cached

pub looks-requires-clause-file : goal.looks-requires-clause-file
looks-requires-clause-file g c =
    subst (λ (x : Geometry). c.args.file < x.files) (sym c.loop-found.invariant.looking.same.geometry) c.requires.file

pub returns-in-Some-clause-reply : goal.returns-in-Some-clause-reply
returns-in-Some-clause-reply g c =
    seen_reply c.args.world.now c.loop-found.world c.looks.new.world c.loop-found.cache c.looks.new.cache c.args.file c.args.index
    c.loop-found.invariant.looking c.loop-found.invariant.few c.in-Some.reply
    (subst (HasSeen c.loop-found.world c.looks.new.world c.loop-found.cache c.looks.new.cache c.args.file c.args.index) c.in-Some.is
    c.in-Ok.ensures.seen)

pub returns-in-Some-clause-looking : goal.returns-in-Some-clause-looking
returns-in-Some-clause-looking g c =
    looking_then c.args.world.now c.loop-found.world c.looks.new.world c.loop-found.cache c.looks.new.cache c.args.file c.args.index
    c.loop-found.invariant.looking c.loop-found.invariant.few c.in-Ok.ensures.looking

pub returns-in-Some-clause-same : goal.returns-in-Some-clause-same
returns-in-Some-clause-same g c =
    untouched_then c.args.world.now c.loop-found.world c.looks.new.world c.loop-found.invariant.looking.same c.in-Ok.ensures.looking.same

pub returns-in-Some-clause-few : goal.returns-in-Some-clause-few
returns-in-Some-clause-few g c =
    seen_last c.args.world.now c.loop-found.world c.looks.new.world c.loop-found.cache c.looks.new.cache c.args.file c.args.index
    c.loop-found.invariant.looking c.loop-found.invariant.few
    (subst (HasSeen c.loop-found.world c.looks.new.world c.loop-found.cache c.looks.new.cache c.args.file c.args.index) c.in-Some.is
    c.in-Ok.ensures.seen).0

pub loop-found-smaller : goal.loop-found-smaller
loop-found-smaller g c =
    seen_more c.args.world.now c.loop-found.world c.looks.new.world c.loop-found.cache c.looks.new.cache c.args.file c.args.index
    c.loop-found.invariant.looking c.loop-found.invariant.few
    (subst (HasSeen c.loop-found.world c.looks.new.world c.loop-found.cache c.looks.new.cache c.args.file c.args.index) c.in-None.is
    c.in-Ok.ensures.seen)

pub loop-found-preserved : goal.loop-found-preserved
loop-found-preserved g c = record {
  looking = looking_then c.args.world.now c.loop-found.world c.looks.new.world c.loop-found.cache c.looks.new.cache c.args.file c.args.index
      c.loop-found.invariant.looking c.loop-found.invariant.few c.in-Ok.ensures.looking;
  few = seen_fewer c.args.world.now c.loop-found.world c.looks.new.world c.loop-found.cache c.looks.new.cache c.args.file c.args.index
      c.loop-found.invariant.looking c.loop-found.invariant.few
      (subst (HasSeen c.loop-found.world c.looks.new.world c.loop-found.cache c.looks.new.cache c.args.file c.args.index) c.in-None.is
      c.in-Ok.ensures.seen);
}

pub returns-in-Err-clause-same : goal.returns-in-Err-clause-same
returns-in-Err-clause-same g c =
    untouched_then c.args.world.now c.loop-found.world c.looks.new.world c.loop-found.invariant.looking.same c.in-Err.ensures.cut.untouched

pub returns-in-Err-clause-few : goal.returns-in-Err-clause-few
returns-in-Err-clause-few g c =
    seen_last c.args.world.now c.loop-found.world c.looks.new.world c.loop-found.cache c.looks.new.cache c.args.file c.args.index
    c.loop-found.invariant.looking c.loop-found.invariant.few c.in-Err.ensures.cut.few

pub returns-in-Err-clause-cause : goal.returns-in-Err-clause-cause
returns-in-Err-clause-cause g c =
    looked_cause c.args.world.now c.loop-found.world c.looks.new.world c.in-Err.why c.loop-found.invariant.looking.same c.in-Err.ensures.cut
