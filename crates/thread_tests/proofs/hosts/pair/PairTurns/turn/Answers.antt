use Rattle.thread_tests.proofs.hosts.pair.PairTurns.turn.Goals as goal

pub returns-in_ok-note-in-0-clause-work : goal.returns-in_ok-note-in-0-clause-work
returns-in_ok-note-in-0-clause-work c = rw c.in-0.is c.turn-turn.ensures.work

pub returns-in_ok-note-in-1-clause-work : goal.returns-in_ok-note-in-1-clause-work
returns-in_ok-note-in-1-clause-work c = rw c.in-1.is c.turn-turn-in-1.ensures.work
