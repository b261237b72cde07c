use Rattle.std.proofs.Common.{◌∙◌, ap, length, subst, sym}
use Rattle.std.specs.Prelude.{All}
use Rattle.hint_blocks.specs.HintLists.{HintList}
use Rattle.hint_blocks.specs.laws.HintListLaws.{All-filter_map, length-filter_map}
use Rattle.hint_blocks.proofs.hints.Hints.count.Goals as goal

pub returns-clause-value : goal.returns-clause-value
returns-clause-value g c =
    let fields = c.self.inside in
    c.count.ensures.value
    ∙ sym (length-filter_map (g.T.Hint.read fields.geometry) g.T.Hint.entry_bytes fields.packed.entries c.self.invariant.3)
    ∙ ap (λ (hints : HintList g.row.T.Denot). length hints.entries) c.self.view_is

pub returns-clause-range : goal.returns-clause-range
returns-clause-range g c =
    let fields = c.self.inside in
    subst (λ (hints : HintList g.row.T.Denot). All (g.T.Hint.IsInRange hints.geometry) hints.entries) c.self.view_is
    (All-filter_map (g.T.Hint.read fields.geometry) (g.T.Hint.IsInRange fields.geometry) (λ e. g.met.T.Hint.reads_in_range fields.geometry e) fields.packed.entries)
