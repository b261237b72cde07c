use Rattle.std.proofs.Common.{◌∙◌, ap, arith, length, lit<, sym}
use Rattle.std.specs.Prelude.{slice_get}
use Rattle.hint_blocks.specs.HintLists.{HintList}
use Rattle.hint_blocks.specs.laws.HintListLaws.{length-filter_map, slice_get-filter_map, spelled_is_read}
use Rattle.hint_blocks.proofs.hints.Hints.get.Goals as goal

pub get-requires : goal.get-requires
get-requires g c =
    let fields = c.self.inside in
    let same = length-filter_map (g.T.Hint.read fields.geometry) g.T.Hint.entry_bytes fields.packed.entries c.self.invariant.3 in
    let seen = ap (λ (hints : HintList g.row.T.Denot). length hints.entries) c.self.view_is in
    (lit< tt, (lit< tt, omega arith))

pub unreachable-requires : goal.unreachable-requires
unreachable-requires g c =
    let fields = c.self.inside in
    spelled_is_read (g.T.Hint.read fields.geometry) g.T.Hint.entry_bytes fields.packed.entries c.args.k c.get.result c.self.invariant.3 c.get.ensures (sym c.from_entry.ensures ∙ c.in_default.is)

pub returns-clause-value : goal.returns-clause-value
returns-clause-value g c =
    let fields = c.self.inside in
    ap (λ (hints : HintList g.row.T.Denot). slice_get hints.entries c.args.k) (sym c.self.view_is)
    ∙ slice_get-filter_map (g.T.Hint.read fields.geometry) g.T.Hint.entry_bytes fields.packed.entries c.args.k c.get.result c.self.invariant.3 c.get.ensures
    ∙ sym c.from_entry.ensures
    ∙ c.in-Some.is
