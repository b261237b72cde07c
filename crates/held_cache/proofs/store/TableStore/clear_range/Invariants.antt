use Rattle.held_cache.specs.Stored.{ClearsRange}
use Rattle.held_cache.proofs.store.TableStore.clear_range.Given as goal

abbrev pub invariant-loop-place : goal.invariant-loop-place
invariant-loop-place l = ClearsRange l.initial.self l.self l.first l.place
