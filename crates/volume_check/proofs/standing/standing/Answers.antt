use Rattle.std.proofs.Common.{◌≡◌, ◌++◌, ap, ◌∙◌, arith}
use Rattle.std.specs.List.{flat_map, range_with_len}
use Rattle.vol_layout.specs.declared.geometry.Geometry.{Geometry}
use Rattle.image_view.specs.Numbers.{journal, standing}
use Rattle.volume_check.proofs.JournalReads.{flat_map_more}
use Rattle.volume_check.proofs.standing.standing.Goals as goal

pub loop-host-preserved : goal.loop-host-preserved
loop-host-preserved c =
    flat_map_more (λ h. journal c.args.metadata.now.geometry c.args.metadata.now.image h) c.loop-host.host c.loop-host.edits.items c.push_edits.new.edits.items c.loop-host.invariant
    (c.in_ok-push_edits.ensures ∙ ap (λ es. c.loop-host.edits.items ++ es) c.record_of.ensures.edits)

pub record_of-requires-clause-host : goal.record_of-requires-clause-host
record_of-requires-clause-host c =
    let same : c.geometry-host-end.result.hosts ≡ c.args.metadata.now.geometry.hosts = ap (λ (g : Geometry). g.hosts) c.geometry-host-end.ensures.geometry in
    omega arith

pub returns : goal.returns
unfolding standing
returns c =
    let same : c.geometry-host-end.result.hosts ≡ c.args.metadata.now.geometry.hosts = ap (λ (g : Geometry). g.hosts) c.geometry-host-end.ensures.geometry in
    let end : c.loop-host.host ≡ c.args.metadata.now.geometry.hosts = omega arith in
    c.loop-host.invariant ∙ ap (λ n. flat_map (λ h. journal c.args.metadata.now.geometry c.args.metadata.now.image h) (range_with_len 0 n)) end
