use Rattle.std.proofs.Common.{◌≡◌, ◌+◌, ◌∙◌, None, Some, refl, ap, sym, get_or, drop, arith}
use Rattle.std.proofs.lemmas.List.{drop_more}
use Rattle.vol_base.specs.declared.plain.PlainReply.TheVariants.{Done}
use Rattle.plain_files.specs.History.{call_at, state_after}
use Rattle.plain_files.specs.laws.CallLaws.{length-after}
use Rattle.plain_files.specs.laws.HistoryLaws.{IsLegal-placed, state_after-placed}
use Rattle.plain_files.proofs.history.replay.Goals as goal

pub loop-entry-preserved : goal.loop-entry-preserved
loop-entry-preserved c =
    let calls = c.args.workload_calls.now in
    let history = c.args.history.now in
    let i = c.loop-entry.entry-index in
    let entry = get_or history i (record { line = 0; reply = Done }) in
    let files = c.loop-entry.files in
    let call = c.in-Some-Some.call in
    let rest = drop (i + 1) history in
    let on_line : call_at calls entry.line ≡ Some call = sym (c.in-Some-Some.ensures.lookup.3.1 None) ∙ c.in-Some-Some.field-0-is in
    let same = sym (c.if-not-same_reply.ensures.0 refl) ∙ c.in_ok-reply.ensures.reply in
    let split = drop_more history i (record { line = 0; reply = Done }) (omega arith) in
    let placed = IsLegal-placed calls files entry rest call on_line same in
    let legal = rw split at c.loop-entry.invariant.legal in
    rw c.in_ok-reply.ensures.state (record {
      numbers = length-after files call ∙ c.loop-entry.invariant.numbers;
      legal = (λ l. placed.0 (legal.0 l), λ l. legal.1 (placed.1 l));
      state = c.loop-entry.invariant.state ∙ ap (state_after calls files) split ∙ state_after-placed calls files entry rest call on_line;
    })
