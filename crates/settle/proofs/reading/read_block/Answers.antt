use Rattle.settle.proofs.CompareLaws.{told-read}
use Rattle.settle.specs.laws.PassLaws.{goes_same}
use Rattle.settle.proofs.reading.read_block.Goals as goal

pub returns-in-Ok-clause-read : goal.returns-in-Ok-clause-read
returns-in-Ok-clause-read g c =
    told-read (g.L.Lone.volume c.args.lone.now) c.args.geometry (g.L.Lone.told c.args.lone.now) c.args.file c.args.index c.in-Ok.reply c.block_in.result c.requires.volume
    c.requires.file c.requires.sound c.in-Ok.ensures.reply c.block_in.ensures

pub returns-in-Ok-clause-on : goal.returns-in-Ok-clause-on
returns-in-Ok-clause-on g c = goes_same _ _ _ _ c.in-Ok.ensures.counter c.in-Ok.ensures.same

pub returns-in-Err-clause-on : goal.returns-in-Err-clause-on
returns-in-Err-clause-on g c = goes_same _ _ _ _ c.in-Err.ensures.counter c.in-Err.ensures.same
