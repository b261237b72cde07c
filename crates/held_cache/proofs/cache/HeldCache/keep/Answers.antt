use Rattle.std.proofs.Common.{Some, ap, ◌∙◌, set}
use Rattle.vol_base.specs.Packing.{Packing}
use Rattle.held_cache.proofs.PlaceLaws.{changed}
use Rattle.held_cache.proofs.cache.HeldCache.keep.Goals as goal

pub returns : goal.returns
returns c =
    let s = c.self.inside in
    changed c.args.self.now s.volume s.tables c.set.new.self c.args.host c.place_of-place.result c.args.which (Some c.args.kept.now) c.self.view_is
    (c.set.ensures ∙ ap (λ (t : Packing). set s.tables c.place_of-place.result (Some t)) c.copied.ensures)
    c.place_of-place.ensures.place c.self.invariant.0 c.self.invariant.1 (c.requires.host, c.requires.table)
