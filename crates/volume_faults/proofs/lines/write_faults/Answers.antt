use Rattle.std.proofs.Common.{◌++◌, ℕ, List, get_or, take, sym, ap, ◌∙◌, string_bytes}
use Rattle.std.specs.List.{flat_map}
use Rattle.std.proofs.lemmas.List.{flat_map_more, take_more}
use Rattle.volume_faults.specs.declared.fault.Fault.{Fault}
use Rattle.volume_faults.specs.declared.fault.FaultKind.TheVariants.{Superblock}
use Rattle.volume_faults.specs.Texts.{fault_line}
use Rattle.volume_faults.proofs.lines.write_faults.Goals as goal

pub loop-fault-preserved : goal.loop-fault-preserved
loop-fault-preserved c =
    let none : Fault = record { place = 0; kind = Superblock } in
    let faults = c.args.faults.now in
    let i = c.loop-fault.fault-index in
    let text = string_bytes c.args.text.now in
    let fault = get_or faults i none in
    c.in_ok-write_fault.ensures
    ∙ ap (λ (xs : List ℕ). xs ++ fault_line fault) c.loop-fault.invariant
    ∙ flat_map_more fault_line text (take i faults) fault
    ∙ ap (λ (fs : List Fault). text ++ flat_map fault_line fs) (sym (take_more faults i none c.loop-fault-test.true))
