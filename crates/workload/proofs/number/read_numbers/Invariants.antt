use Rattle.std.proofs.Common.{◌≡◌, ◌≤◌, ◌+◌, length}
use Rattle.std.specs.Option.{option_copied}
use Rattle.workload.specs.Texts.{words_left}
use Rattle.workload.specs.Numerals.{numbers_of}
use Rattle.workload.proofs.NumberLaws.{behind}
use Rattle.workload.proofs.number.read_numbers.Given as goal

abbrev pub invariant-loop-left : goal.invariant-loop-left
invariant-loop-left l =
    record {
      read : behind l.numbers (numbers_of (words_left (option_copied l.left))) ≡ numbers_of (words_left (option_copied l.initial.left));
      room : length l.numbers + length (words_left (option_copied l.left)) ≤ 7;
    }

abbrev pub decreases-loop-left : goal.decreases-loop-left
decreases-loop-left l = length (words_left (option_copied l.left))
