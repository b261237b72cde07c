use Rattle.std.proofs.Common.{◌∙◌, ap, arith, length, refl, subst, sym, take}
use Rattle.std.specs.Prelude.{All}
use Rattle.std.specs.List.{filter_map}
use Rattle.std.proofs.lemmas.Bool.{false≢true}
use Rattle.std.proofs.lemmas.List.{length-take, take_all}
use Rattle.vol_base.specs.Packing.{IsPacked, Packing}
use Rattle.hint_blocks.specs.HintLists.{HintList}
use Rattle.hint_blocks.specs.laws.HintListLaws.{All-filter_map, filter_map-more, hints_in-other, hints_in-packed, length-filter_map-le}
use Rattle.hint_blocks.proofs.hints.Hints.of.Goals as goal

pub returns-in_default-clause-entries : goal.returns-in_default-clause-entries
returns-in_default-clause-entries g c =
    let other = hints_in-other g.T.Hint.MAGIC c.args.block.now.0 (g.T.Hint.read c.args.geometry.now) (λ h. false≢true (c.in_default.ensures.packed.1 (rw c.MAGIC.ensures h))) in
    ap (λ (hints : HintList g.row.T.Denot). hints.entries) c.empty-hints.ensures ∙ sym other

pub append_read-requires : goal.append_read-requires
append_read-requires g c =
    let kept = ap (λ (hints : HintList g.row.T.Denot). length hints.entries) c.loop-k.invariant in
    let few = length-filter_map-le (g.T.Hint.read c.args.geometry.now) (take c.loop-k.k c.in-Some.packed.entries) in
    omega (arith, c.count-k-end.ensures.packing.room, length-take c.loop-k.k c.in-Some.packed.entries)

pub loop-k-preserved : goal.loop-k-preserved
loop-k-preserved g c =
    let more = filter_map-more (g.T.Hint.read c.args.geometry.now) c.in-Some.packed.entries c.loop-k.k c.get.result c.get.ensures in
    c.append_read.ensures ∙ rw (c.loop-k.invariant, more) refl

pub returns-clause-entries : goal.returns-clause-entries
returns-clause-entries g c =
    let read = g.T.Hint.read c.args.geometry.now in
    let packed : IsPacked 32 g.T.Hint.MAGIC c.args.block.now.0 = rw c.MAGIC.ensures at (c.in-Some.ensures.packed.0 refl) in
    ap (λ (hints : HintList g.row.T.Denot). hints.entries) c.loop-k.invariant
    ∙ ap (filter_map read) (take_all c.loop-k.k c.in-Some.packed.entries (omega arith))
    ∙ ap (λ (p : Packing). filter_map read p.entries) c.in-Some.ensures.value
    ∙ sym (hints_in-packed g.T.Hint.MAGIC c.args.block.now.0 read packed)

pub returns-clause-range : goal.returns-clause-range
returns-clause-range g c =
    let read = g.T.Hint.read c.args.geometry.now in
    let range = g.T.Hint.IsInRange c.args.geometry.now in
    subst (λ (hints : HintList g.row.T.Denot). All range hints.entries) (sym c.loop-k.invariant)
    (All-filter_map read range (λ e. g.met.T.Hint.reads_in_range c.args.geometry.now e) (take c.loop-k.k c.in-Some.packed.entries))

pub returns-clause-room : goal.returns-clause-room
returns-clause-room g c =
    let kept = ap (λ (hints : HintList g.row.T.Denot). length hints.entries) c.loop-k.invariant in
    let few = length-filter_map-le (g.T.Hint.read c.args.geometry.now) (take c.loop-k.k c.in-Some.packed.entries) in
    omega (arith, c.count-k-end.ensures.packing.room, length-take c.loop-k.k c.in-Some.packed.entries)
