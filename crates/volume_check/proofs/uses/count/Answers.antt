use Rattle.std.proofs.Common.{◌<◌, ◌+◌, ◌-◌, ◌%◌, ◌^◌, length, set, ap, arith}
use Rattle.std.proofs.lemmas.List.{get_or_read}
use Rattle.volume_check.proofs.SumsOver.{Grew-none, Grew-one}
use Rattle.volume_check.proofs.uses.count.Goals as goal

pub overflow_add-index_mut : goal.overflow_add-index_mut
overflow_add-index_mut c =
    let some : 0 < c.args.number % 2 ^ 31 = omega (arith, c.if-name-ne0.true) in
    let inside : c.args.number % 2 ^ 31 - 1 < length c.args.uses.now.items = omega (arith, c.requires.names) in
    let is = get_or_read c.args.uses.now.items _ _ inside c.index_mut.ensures.value 0 in
    let room = c.requires.room (c.args.number % 2 ^ 31 - 1) in
    omega arith

pub returns-then-name-ne0 : goal.returns-then-name-ne0
returns-then-name-ne0 c =
    let some : 0 < c.args.number % 2 ^ 31 = omega (arith, c.if-name-ne0.true) in
    let inside : c.args.number % 2 ^ 31 - 1 < length c.args.uses.now.items = omega (arith, c.requires.names) in
    let is = get_or_read c.args.uses.now.items _ _ inside c.index_mut.ensures.value 0 in
    Grew-one c.args.number c.args.uses.now.items _ c.if-name-ne0.true c.requires.names (ap (λ n. set c.args.uses.now.items (c.args.number % 2 ^ 31 - 1) (n + 1)) is)

pub returns-else-name-ne0 : goal.returns-else-name-ne0
returns-else-name-ne0 c = Grew-none c.args.number c.args.uses.now.items c.if-name-ne0.false
