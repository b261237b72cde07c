use Rattle.std.proofs.Common.{◌*◌, refl, ap, ◌∙◌, arith}
use Rattle.std.specs.Prelude.{slice_index}
use Rattle.vol_layout.specs.declared.geometry.Geometry.{Geometry}
use Rattle.vol_layout.specs.declared.kind.Kind.TheVariants as kinds
use Rattle.vol_layout.specs.declared.kind.Table.TheVariants as tables
use Rattle.vol_layout.specs.Places.{place_of}
use Rattle.volume_check.proofs.CountLaws.{count_added, count_inside, counts_from, counts_to}
use Rattle.volume_check.proofs.SiteLaws.{all_entries, no_entry}
use Rattle.volume_check.proofs.counting.add_of_counts.Goals as goal

pub loop-number-init : goal.loop-number-init
loop-number-init c =
    let first = ap (λ n. 1008 * n) c.from-first.ensures in
    no_entry 4 c.args.metadata.now (kinds.Table (tables.Group c.args.group)) (1008 * c.from-first.result) c.args.faults.now.items (counts_from c.args.metadata.now c.args.group (1008 * c.from-first.result) first)

pub logical-found-requires-clause-what : goal.logical-found-requires-clause-what
logical-found-requires-clause-what c =
    let first = ap (λ n. 1008 * n) c.from-first.ensures in
    count_inside c.args.metadata.now c.args.group c.loop-number.number (1008 * c.from-first.result) first c.requires.group c.loop-number-test.true

pub bounds-uses-number : goal.bounds-uses-number
bounds-uses-number c =
    let first = ap (λ n. 1008 * n) c.from-first.ensures in
    let inside = count_inside c.args.metadata.now c.args.group c.loop-number.number (1008 * c.from-first.result) first c.requires.group c.loop-number-test.true in
    omega (arith, c.requires.uses.long)

pub loop-number-preserved : goal.loop-number-preserved
loop-number-preserved c =
    let first = ap (λ n. 1008 * n) c.from-first.ensures in
    let place = c.place-place.ensures.place ∙ ap (λ (g : Geometry). place_of g (kinds.Table (tables.Group c.args.group))) c.geometry.ensures.geometry in
    count_added c.args.metadata.now c.args.group c.loop-number.number (1008 * c.from-first.result) c.place-place.result c.logical-found.result (slice_index c.args.uses.now c.loop-number.number) c.args.uses.now
    c.args.faults.now.items c.loop-number.faults.items c.add_where.new.faults.items c.requires.uses first c.loop-number.auto.number c.loop-number-test.true c.requires.group
    place c.logical-found.ensures.number refl c.in_ok-add_where.ensures c.loop-number.invariant

pub returns : goal.returns
returns c =
    let first = ap (λ n. 1008 * n) c.from-first.ensures in
    all_entries 4 c.args.metadata.now (kinds.Table (tables.Group c.args.group)) c.loop-number.number c.args.faults.now.items c.loop-number.faults.items
    (counts_to c.args.metadata.now c.args.group (1008 * c.from-first.result) c.loop-number.number first c.loop-number-test.false) c.loop-number.invariant
