use Rattle.std.proofs.Common.{◌+◌, ◌++◌, [], ℕ, List, sym, ap, ◌∙◌, arith, vec_len}
use Rattle.workload.specs.declared.line.Line.{Line}
use Rattle.workload.specs.Entries.{entry_of}
use Rattle.workload.specs.Grammar.{commands_in, entries_of, line_of}
use Rattle.workload.specs.Texts.{lines_of}
use Rattle.workload.proofs.Gathering.{gathered, gathered-begin, gathered-end, gathered-fault, gathered-more}
use Rattle.workload.proofs.parsing.read_lines.Goals as goal

pub loop-line-init : goal.loop-line-init
loop-line-init c =
    let g = c.args.geometry in
    let lines = lines_of c.args.text.now in
    record {
      read =
          ap (λ (done : List Line). gathered g done 2 0 (entries_of g 2 (vec_len c.new-lines.result) lines)) c.new-lines.ensures.items
          ∙ ap (λ (n : ℕ). gathered g [] 2 0 (entries_of g 2 n lines)) c.new-lines.ensures.len
          ∙ gathered-begin g lines;
      line = omega arith;
      ended = omega arith;
    }

pub returns-in-Err : goal.returns-in-Err
returns-in-Err c =
    let g = c.args.geometry in
    let l = c.loop-line in
    let said = ap (λ (n : ℕ). entry_of g n c.in-Some.line.now) (sym c.len.ensures) ∙ sym c.read_entry.ensures ∙ c.in-Err.is in
    rw c.refused.ensures
    (sym l.invariant.read
    ∙ ap (λ (ls : List (List ℕ)). gathered g l.lines.items l.at l.phase (entries_of g l.at (vec_len l.lines) ls)) c.in-Some.ensures.lines
    ∙ gathered-fault g l.lines.items l.at l.phase (vec_len l.lines) c.in-Some.line.now (lines_of c.in-Some.after.now) c.in-Err.cause said)

pub loop-line-preserved : goal.loop-line-preserved
loop-line-preserved c =
    let g = c.args.geometry in
    let l = c.loop-line in
    let rest = lines_of c.in-Some.after.now in
    let said = ap (λ (n : ℕ). entry_of g n c.in-Some.line.now) (sym c.len.ensures) ∙ sym c.read_entry.ensures ∙ c.in-Ok.is in
    let added = c.in-Ok-add.ensures in
    record {
      read =
          ap (λ (done : List Line). gathered g done (l.at + 1) c.in-Ok-add.next (entries_of g (l.at + 1) (vec_len c.add.new.lines) rest)) added.lines
          ∙ ap (λ (n : ℕ). gathered g (l.lines.items ++ line_of l.at l.phase c.in-Ok.entry) (l.at + 1) c.in-Ok-add.next (entries_of g (l.at + 1) n rest)) added.count
          ∙ ap (λ (phase : ℕ). gathered g (l.lines.items ++ line_of l.at l.phase c.in-Ok.entry) (l.at + 1) phase (entries_of g (l.at + 1) (vec_len l.lines + commands_in c.in-Ok.entry) rest)) added.phase
          ∙ sym (gathered-more g l.lines.items l.at l.phase (vec_len l.lines) c.in-Some.line.now rest c.in-Ok.entry said)
          ∙ sym (ap (λ (ls : List (List ℕ)). gathered g l.lines.items l.at l.phase (entries_of g l.at (vec_len l.lines) ls)) c.in-Some.ensures.lines)
          ∙ l.invariant.read;
      line = omega (arith, c.in-Some.ensures.shorter);
      ended = omega (arith, c.in-Some.ensures.shorter, added.bound);
    }

pub returns : goal.returns
returns c =
    let g = c.args.geometry in
    let l = c.loop-line in
    rw c.from_vec.ensures
    (sym l.invariant.read
    ∙ ap (λ (ls : List (List ℕ)). gathered g l.lines.items l.at l.phase (entries_of g l.at (vec_len l.lines) ls)) c.in_default.ensures.lines
    ∙ gathered-end g l.lines.items l.at l.phase (vec_len l.lines))
