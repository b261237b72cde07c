use Rattle.std.proofs.Common.{string_bytes, Global}
use Rattle.words.proofs.WordLaws.{is_schedule_short}
use Rattle.words.proofs.forms.is_schedule.Goals as goal

pub returns-then-words-le-MOST_HOSTS : goal.returns-then-words-le-MOST_HOSTS
returns-then-words-le-MOST_HOSTS c =
    is_schedule_short (string_bytes {Z = Global}) c.args.words.now c.are_hosts.result c.if-words-le-MOST_HOSTS.true c.are_hosts.ensures
