-- The workload of a text, and how much of a source is read.
use Rattle.std.proofs.Common.{◌≡◌, ◌==◌, ◌+◌, ◌<◌, ℕ, All, false, List, Err, IsTrue, inr, refl, sym, length, get_or, arith}
use Rattle.std.specs.Prelude.{nat_le, not}
use Rattle.std.proofs.lemmas.Bool.{eq-eqb, false≢true}
use Rattle.std.proofs.lemmas.Bool.Decides.{nat_tests}
use Rattle.vol_base.specs.declared.command.Command.{Command}
use Rattle.vol_base.specs.declared.command.Command.TheVariants as commands
use Rattle.vol_layout.specs.declared.geometry.Geometry.{Geometry}
use Rattle.vol_io.specs.declared.reading.ReadNo.{ReadNo}
use Rattle.vol_io.specs.declared.reading.ReadNo.TheVariants as reads
use Rattle.vol_io.specs.Reads.{ReadsFront, ReadsToEnd}
use Rattle.workload.specs.declared.cause.WorkloadNo.TheVariants as causes
use Rattle.workload.specs.declared.line.Line.{Line}
use Rattle.workload.specs.Grammar.{most_bytes, workload_of}
use Rattle.workload.specs.Ranges.{is_own}
use Rattle.workload.specs.Workloads.{IsAllowed}
use Rattle.cluster.specs.Agreements.{IsKnownLine}
use Rattle.cluster.specs.Seats.{IsKnown}
use Rattle.jobs.specs.declared.outcome.Outcome.TheVariants as outcomes
use Rattle.jobs.specs.Sources.{SourceSeen, StopsReading, TakesAtMost}

is_foreign : (host of : ℕ) → IsTrue (not (host == of)) → host ≡ of → ⊥
is_foreign host of foreign own = let same = eq-eqb host of own in false≢true (rw same at foreign)

-- a cluster knows each command of the language
known_command : (host : ℕ) (c : Command) → IsTrue (not (is_own host c)) → IsKnown host c
known_command host (commands.Look of) foreign = λ own. is_foreign host of foreign (sym own)
known_command host (commands.Recover of) foreign = λ own. is_foreign host of foreign (sym own)
known_command host _ foreign = tt

-- and so each line of a workload
pub all_known : (g : Geometry) (lines : List Line) → All (IsAllowed g) lines → All IsKnownLine lines
all_known g lines allowed = λ k d below.
    let line = get_or lines k d in known_command line.host line.command (allowed k d below).foreign

-- a text that is too long is refused
pub too_long : (text : List ℕ) → most_bytes < length text → workload_of text ≡ Err (0, causes.Long)
unfolding workload_of most_bytes
too_long text long = let no : nat_le (length text) 1048576 ≡ false = grind (arith, nat_tests) in rw no refl

-- so is that of which one byte more was read than a text may have
pub stopped_long : (before after : SourceSeen) (refusal : ReadNo) → refusal ≡ reads.Long → ReadsFront 1048576 before.left after.left refusal
    → StopsReading before after (outcomes.Workload 0 causes.Long)
unfolding most_bytes
stopped_long before after refusal is front =
    let length_is = front.long.0 is in
    let long : most_bytes < length front.front = omega (arith, length_is) in
    record { text = front.front; consumed = front.consumed; whole = inr long; is = too_long front.front long }

-- whatever the answer, no more was taken
pub takes_whole : (before after : SourceSeen) (text : List ℕ) → ReadsToEnd 1048576 before.left after.left text → TakesAtMost (most_bytes + 1) before after
unfolding most_bytes
takes_whole before after text read = record { front = text; taken = read.consumed; bounded = omega (arith, read.within) }

pub takes_front : (before after : SourceSeen) (refusal : ReadNo) → ReadsFront 1048576 before.left after.left refusal → TakesAtMost (most_bytes + 1) before after
unfolding most_bytes
takes_front before after refusal read = record { front = read.front; taken = read.consumed; bounded = omega (arith, read.bounded) }
