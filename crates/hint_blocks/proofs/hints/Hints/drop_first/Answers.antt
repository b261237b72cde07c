use Rattle.std.proofs.Common.{◌≤◌, ◌∙◌, ◌∷◌, [], ap, arith, drop, length, length-take-le, refl, take}
use Rattle.std.proofs.lemmas.List.{drop-append-le}
use Rattle.std.proofs.lemmas.Option.{slice_get_within}
use Rattle.hint_blocks.specs.laws.HintListLaws.{take_more_get}
use Rattle.hint_blocks.proofs.hints.Hints.drop_first.Goals as goal

pub loop-k-preserved : goal.loop-k-preserved
loop-k-preserved g c =
    let entries = c.args.self.now.entries in
    let within = slice_get_within entries c.loop-k.k c.get.result c.get.ensures.value in
    let some : 1 ≤ length (take c.loop-k.k entries) = omega (arith, length-take-le c.loop-k.k entries (omega arith)) in
    let more = ap (drop 1) (take_more_get entries c.loop-k.k c.get.result c.get.ensures.value) ∙ drop-append-le 1 (take c.loop-k.k entries) (c.get.result ∷ []) some in
    c.append.ensures ∙ rw (c.loop-k.invariant, more) refl
