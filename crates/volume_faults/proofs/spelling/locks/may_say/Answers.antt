use Rattle.std.proofs.Common.{◌↔◌, refl, subst, sym}
use Rattle.std.specs.Prelude.{IsTrue, true}
use Rattle.slot_lock_blocks.specs.declared.lock.LockWord.{LockWord}
use Rattle.slot_lock_blocks.specs.LockWords.{IsLockWord}
use Rattle.volume_faults.specs.Spellings.{MaySay}
use Rattle.volume_faults.proofs.SpelledLaws.{free_says, held_says, read_says}
use Rattle.volume_faults.proofs.spelling.locks.may_say.Goals as goal

pub returns-in-Free : goal.returns-in-Free
returns-in-Free c =
    subst (λ (w : LockWord). IsTrue true ↔ MaySay c.args.geometry.now c.args.counter c.args.resource w) (sym c.in-Free.is)
    (λ _. free_says c.args.geometry.now c.args.counter c.args.resource, λ _. refl)

pub returns-in-Held : goal.returns-in-Held
returns-in-Held c =
    subst (λ (w : LockWord). IsTrue c.is_given.result ↔ MaySay c.args.geometry.now c.args.counter c.args.resource w) (sym c.in-Held.is)
    (held_says c.args.geometry.now c.args.counter c.args.resource c.in-Held.key c.is_given.result c.is_given.ensures)

pub returns-then-is_file : goal.returns-then-is_file
returns-then-is_file c =
    let range = subst IsLockWord c.in-Read.is c.requires in
    let says = read_says c.args.geometry.now c.args.counter c.args.resource c.in-Read.readers range.0 (c.is_file.ensures.0 c.if-is_file.true) in
    subst (λ (w : LockWord). IsTrue c.are_readers.result ↔ MaySay c.args.geometry.now c.args.counter c.args.resource w) (sym c.in-Read.is)
    (λ yes. says.0 (c.are_readers.ensures.0 yes), λ may. c.are_readers.ensures.1 (says.1 may))
