use Rattle.std.proofs.Common.{◌≡◌, List, rules, subst}
use Rattle.std.proofs.lemmas.Fn.{always_returns_same}
use Rattle.merge_shelves.specs.Rooms.{IsOrdered, sort_key}
use Rattle.merge_shelves.specs.declared.room.Noted.{Noted}
use Rattle.merge_shelves.proofs.room.LogRoom.order.Goals as goal

pub returns : goal.returns
returns c =
    subst (λ (read : List Noted). IsOrdered c.args.shelves read c.sort_unstable_by_key.new.self.items) c.self.view_is
    (record {
      sorted = c.sort_unstable_by_key.ensures.sorted (sort_key c.args.shelves)
          (always_returns_same _ (λ a r. r ≡ sort_key c.args.shelves a.0.now) _ (λ a r q k. search rules));
      same = c.sort_unstable_by_key.ensures.permutation;
    })
