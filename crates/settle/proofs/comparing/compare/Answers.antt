use Rattle.settle.proofs.CompareLaws.{told-came, told-compared, told-halted}
use Rattle.settle.proofs.comparing.compare.Goals as goal

pub returns-in-Ok-clause-compared : goal.returns-in-Ok-clause-compared
returns-in-Ok-clause-compared g c =
    told-compared (g.L.Lone.volume c.args.lone.now) c.args.geometry (g.L.Lone.told c.args.lone.now) (g.L.Lone.told c.compare_share.new.self) c.args.file c.args.index
    c.args.source c.in-Ok.shared c.compared_of.result c.requires.volume c.requires.pointer c.requires.source c.requires.sound c.in-Ok.ensures.came c.compared_of.ensures

pub returns-in-Ok-clause-moves : goal.returns-in-Ok-clause-moves
returns-in-Ok-clause-moves g c =
    told-came (g.L.Lone.volume c.args.lone.now) c.args.geometry (g.L.Lone.told c.args.lone.now) (g.L.Lone.told c.compare_share.new.self) c.args.file c.args.index
    c.args.source c.in-Ok.shared c.requires.volume c.requires.sound c.in-Ok.ensures.came

pub returns-in-Err-clause-moves : goal.returns-in-Err-clause-moves
returns-in-Err-clause-moves g c =
    told-halted (g.L.Lone.volume c.args.lone.now) c.args.geometry (g.L.Lone.told c.args.lone.now) (g.L.Lone.told c.compare_share.new.self) c.args.file c.args.index
    c.args.source c.requires.volume c.requires.sound c.in-Err.ensures.refused
