use Rattle.std.proofs.Common.{Global, map, string_bytes}
use Rattle.words.proofs.LineLaws.{is_taken, matches_are}
use Rattle.words.proofs.line.parsed.Goals as goal

pub returns-in-Ok-try_get_matches_from-clause-given : goal.returns-in-Ok-try_get_matches_from-clause-given
returns-in-Ok-try_get_matches_from-clause-given c = λ line.
    matches_are _ (map (string_bytes {Z = Global}) c.args.words.now) c.in-Ok.ensures line _ c.in-Ok-try_get_matches_from.ensures.matches

pub returns-in-Err-clause-memory : goal.returns-in-Err-clause-memory
returns-in-Err-clause-memory c = λ line.
    c.refusal.ensures (c.in-Err.ensures.passes (is_taken _ (map (string_bytes {Z = Global}) c.args.words.now) c.in-Ok.ensures line))
