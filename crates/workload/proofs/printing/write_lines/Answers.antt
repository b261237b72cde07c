use Rattle.std.proofs.Common.{◌≡◌, ◌<◌, ◌-◌, ◌∷◌, ◌++◌, [], ℕ, List, ◌+◌, refl, length, drop, get_or, ap, sym, ◌∙◌, arith, add-one, drop-cons, string_bytes}
use Rattle.std.proofs.lemmas.List.{drop_all}
use Rattle.std.proofs.lemmas.Result.{on_ok_weaker}
use Rattle.vol_base.specs.declared.command.Command.TheVariants.{Join}
use Rattle.workload.specs.declared.line.Line.{Line}
use Rattle.workload.specs.Printed.{barrier_lines, command_text, ended, later_lines}
use Rattle.workload.proofs.LineEnds.{later-end, later-more}
use Rattle.workload.proofs.printing.write_lines.Goals as goal

pub loop-line-preserved : goal.loop-line-preserved
loop-line-preserved c =
    let lines = c.args.lines.now in
    let i = c.loop-line.line-index in
    let first : Line = record { at = 0; phase = 0; host = 0; command = Join } in
    let line = get_or lines i first in
    let within : i < length lines = c.loop-line-test.true in
    let rest : drop i lines ≡ line ∷ drop (i + 1) lines = rw (add-one, drop-cons lines i first) refl in
    let old = string_bytes c.loop-line.text in
    ap (λ (xs : List ℕ). xs ++ ended (later_lines line.phase (drop (i + 1) lines) c.args.phases)) (c.in_ok-write_command.ensures ∙ ap (λ (xs : List ℕ). xs ++ (command_text line ++ 10 ∷ [])) c.in_ok-write_barriers.ensures)
    ∙ later-more old c.loop-line.phase line (drop (i + 1) lines) c.args.phases
    ∙ ap (λ (ls : List Line). old ++ ended (later_lines c.loop-line.phase ls c.args.phases)) (sym rest)
    ∙ c.loop-line.invariant

pub returns : goal.returns
returns c =
    let lines = c.args.lines.now in
    let i = c.loop-line.line-index in
    let none : drop i lines ≡ [] = drop_all i lines (omega arith) in
    let old = string_bytes c.loop-line.text in
    on_ok_weaker c.write_barriers-2.result
    (λ e. e
    ∙ ap (λ (n : ℕ). old ++ ended (barrier_lines (n - c.loop-line.phase))) c.saturating_sub.ensures
    ∙ ap (λ (xs : List ℕ). old ++ xs) (sym (later-end c.loop-line.phase c.args.phases))
    ∙ ap (λ (ls : List Line). old ++ ended (later_lines c.loop-line.phase ls c.args.phases)) (sym none)
    ∙ c.loop-line.invariant)
    c.write_barriers-2.ensures
