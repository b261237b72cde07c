use Rattle.std.proofs.Common.{None}
use Rattle.held_cache.proofs.PlaceLaws.{changed, file-table}
use Rattle.held_cache.proofs.cache.HeldCache.forget.Goals as goal

pub returns-in-File : goal.returns-in-File
returns-in-File c =
    let s = c.self.inside in
    changed c.args.self.now s.volume s.tables c.clear.new.self c.args.host c.place_of-place.result c.args.which None c.self.view_is
    c.clear.ensures c.place_of-place.ensures.place c.self.invariant.0 c.self.invariant.1
    (c.requires.host, file-table c.args.self.now.volume c.args.which c.requires.table c.in-File.is)
