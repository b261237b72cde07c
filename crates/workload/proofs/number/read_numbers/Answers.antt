use Rattle.std.proofs.Common.{◌∷◌, [], ℕ, List, Option, Bor, length, sym, ap, ◌∙◌, arith, length-append}
use Rattle.std.specs.Option.{option_copied}
use Rattle.workload.specs.Numerals.{numbers_of}
use Rattle.workload.specs.Texts.{words_left}
use Rattle.workload.proofs.NumberLaws.{behind, numbers_of-first, numbers_of-fault, numbers_of-end}
use Rattle.workload.proofs.number.read_numbers.Goals as goal

pub returns-in_err-read_number : goal.returns-in_err-read_number
returns-in_err-read_number c =
    let words = ap (λ (left : Option (Bor (List ℕ))). words_left (option_copied left)) c.in-Some.is ∙ c.split_word.ensures.words in
    c.from_residual.ensures
    ∙ sym (sym c.loop-left.invariant.read ∙ ap (λ (ws : List (List ℕ)). behind c.loop-left.numbers (numbers_of ws)) words ∙ numbers_of-fault _ _ _ (sym c.read_number.ensures ∙ c.in_err-read_number.was))

pub loop-left-preserved : goal.loop-left-preserved
loop-left-preserved c =
    let words = ap (λ (left : Option (Bor (List ℕ))). words_left (option_copied left)) c.in-Some.is ∙ c.split_word.ensures.words in
    let rest = words_left (option_copied c.split_word.result.1) in
    let n = c.in_ok-read_number.field-0 in
    record {
      read =
          ap (λ (ns : List ℕ). behind ns (numbers_of rest)) c.push.ensures
          ∙ numbers_of-first _ rest c.loop-left.numbers n (sym c.read_number.ensures ∙ c.in_ok-read_number.was)
          ∙ sym (ap (λ (ws : List (List ℕ)). behind c.loop-left.numbers (numbers_of ws)) words)
          ∙ c.loop-left.invariant.read;
      room = omega (arith, ap length words, ap length c.push.ensures, length-append c.loop-left.numbers (n ∷ []), c.loop-left.invariant.room);
    }

pub returns : goal.returns
returns c =
    sym (numbers_of-end c.loop-left.numbers)
    ∙ sym (ap (λ (left : Option (Bor (List ℕ))). behind c.loop-left.numbers (numbers_of (words_left (option_copied left)))) c.in_default.is)
    ∙ c.loop-left.invariant.read
