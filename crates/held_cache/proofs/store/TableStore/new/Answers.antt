use Rattle.std.proofs.Common.{rules}
use Rattle.held_cache.proofs.StoreLaws.{stored-made}
use Rattle.held_cache.proofs.store.TableStore.new.Goals as goal

pub returns : goal.returns
returns c = stored-made _ _ c.args.places (c.in_ok-vec.ensures.items_if_clones_equal (λ y clone. search rules)) c.in_ok-with_capacity.ensures.items
