use Rattle.std.proofs.Common.{◌≡◌, ◌≤◌, ◌++◌, true, length, sym, ap, ◌∙◌, arith, append-nil}
use Rattle.std.specs.Prelude.{is_ok}
use Rattle.std.proofs.lemmas.List.{take_all}
use Rattle.volume_check.proofs.JournalReads.{pushed_next}
use Rattle.volume_check.proofs.standing.push_record.Goals as goal

pub loop-index-init : goal.loop-index-init
loop-index-init c = sym (append-nil c.args.edits.now.items)

pub loop-index-preserved : goal.loop-index-preserved
loop-index-preserved c =
    let done : is_ok c.push.result ≡ true = sym c.map_err.ensures.variant ∙ ap is_ok c.in_ok-map_err.was in
    pushed_next c.args.entry.now.edits c.args.edits.now.items c.loop-index.edits.items c.push.new.self.items c.loop-index.index c.get.result c.get.ensures c.loop-index.invariant (rw done at c.push.ensures.items)

pub returns : goal.returns
returns c =
    let end : length c.args.entry.now.edits ≤ c.loop-index.index = omega (arith, c.count-index-end.ensures.value) in
    c.loop-index.invariant ∙ ap (λ es. c.args.edits.now.items ++ es) (take_all c.loop-index.index c.args.entry.now.edits end)
