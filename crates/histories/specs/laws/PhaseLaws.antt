-- The lines of a workload stand by phase.
use Rattle.std.proofs.Common.{◌≡◌, ◌<◌, ◌≤◌, ◌+◌, ℕ, zero, suc, List, [], ◌∷◌, Option, Some, ap, arith}
use Rattle.std.specs.Option.{option_map_or}
use Rattle.workload.specs.declared.line.Line.{Line}
use Rattle.workload.specs.declared.line.Workload.{Workload}
use Rattle.workload.specs.Workloads.{IsNumbered, IsWorkload}
use Rattle.histories.specs.Lines.{IsLine}
use Rattle.histories.specs.Phases.{ArePhased, AreWithin}

first_phase : (line l : Line) → Some line ≡ Some l → line.phase ≡ l.phase
first_phase line l is = ap (λ (o : Option Line). option_map_or (λ (m : Line). m.phase) o 0) is

-- lines that are numbered from a phase on, of so many phases
below_last : (at phase : ℕ) (lines : List Line) (phases : ℕ) → IsNumbered at phase lines phases → phase < phases
below_last at phase [] phases is = is
below_last at phase (line ∷ lines) phases is =
    let later = below_last (line.at + 1) line.phase lines phases is.2 in
    let from = is.0 in
    omega (arith, from, later)

between : (at phase : ℕ) (lines : List Line) (phases k : ℕ) (l : Line) → IsNumbered at phase lines phases → IsLine lines k l
    → (phase ≤ l.phase) × (l.phase < phases)
between at phase [] phases k l is here = absurd cc
between at phase (line ∷ lines) phases zero l is here =
    let same = first_phase line l here in
    let from = is.0 in
    let later = below_last (line.at + 1) line.phase lines phases is.2 in
    (omega (arith, same, from), omega (arith, same, later))
between at phase (line ∷ lines) phases (suc k) l is here =
    let from = is.0 in
    let later = between (line.at + 1) line.phase lines phases k l is.2 here in
    (omega (arith, from, later.0), later.1)

in_order : (at phase : ℕ) (lines : List Line) (phases j k : ℕ) (l m : Line) → IsNumbered at phase lines phases → j < k → IsLine lines j l
    → IsLine lines k m → l.phase ≤ m.phase
in_order at phase [] phases j k l m is lt at_j at_k = absurd cc
in_order at phase (line ∷ lines) phases zero zero l m is lt at_j at_k = absurd (omega (arith, lt))
in_order at phase (line ∷ lines) phases (suc j) zero l m is lt at_j at_k = absurd (omega (arith, lt))
in_order at phase (line ∷ lines) phases zero (suc k) l m is lt at_j at_k =
    let same = first_phase line l at_j in
    let later = between (line.at + 1) line.phase lines phases k m is.2 at_k in
    omega (arith, same, later.0)
in_order at phase (line ∷ lines) phases (suc j) (suc k) l m is lt at_j at_k =
    in_order (line.at + 1) line.phase lines phases j k l m is.2 (omega (arith, lt)) at_j at_k

-- those of a workload, and each is of one of its phases; there is one
pub phased-workload : (w : Workload) → IsWorkload w → ArePhased w.lines
phased-workload w is j k l m lt at_j at_k = in_order 2 0 w.lines w.phases j k l m is.numbered lt at_j at_k

pub within-workload : (w : Workload) → IsWorkload w → AreWithin w.phases w.lines
within-workload w is p line at = (between 2 0 w.lines w.phases p line is.numbered at).1

pub phase-workload : (w : Workload) → IsWorkload w → 0 < w.phases
phase-workload w is = below_last 2 0 w.lines w.phases is.numbered
