-- The write of a block that a file shows and nothing else names.
use Rattle.std.proofs.Common.{[], Err, ℕ, Ok, Result, Some}
use Rattle.std.specs.Prelude.{OnOk}
use Rattle.vol_base.specs.declared.block.Block.{Block}
use Rattle.vol_base.specs.declared.plain.PlainCall.TheVariants.{Write}
use Rattle.vol_base.specs.declared.plain.PlainReply.TheVariants.{Done}
use Rattle.vol_layout.specs.declared.kind.Kind.TheVariants as kinds
use Rattle.vol_layout.specs.declared.field.Field.TheVariants.{Count, Pointer}
use Rattle.vol_layout.specs.Fields.{HasField}
use Rattle.call_effects.specs.Places.{IsPlaced}
use Rattle.lock_store.specs.declared.answers.StepNo.{StepNo}
use Rattle.lock_store.specs.Views.{counter_of, told_of}
use Rattle.disk_locks.specs.Consistent.{Consistent}
use Rattle.disk_locks.specs.Sure.{BothTold, Sure}
use Rattle.host_facts.specs.OwnBlocks.{IsOwnBlock}
use Rattle.host_facts.specs.Views.{WorldView}
use Rattle.host_facts.specs.Wrote.{Wrote}
use Rattle.meta_world.proofs.Puts.{done_files}
use Rattle.host_facts.specs.laws.FileStays.{own_files}

-- it is the place of a plain write
pub own_placed : (v w : WorldView) (h f i d : ℕ) (block : Block) (result : Result Unit StepNo) → Consistent v.locks
    → HasField v.locks.geometry (Pointer f i) → HasField v.locks.geometry (Count d) → Sure v.locks h (IsOwnBlock v.locks.geometry f i d)
    → OnOk result (Wrote h (kinds.Number d) block.0 [] (Some (d, block.0)) v w)
    → OnOk result (BothTold (told_of v.locks) (told_of w.locks) (IsPlaced v.locks.geometry (Write f i block) Done))
own_placed v w h f i d block (Err why) is has there own wrote = tt
own_placed v w h f i d block (Ok done) is has there own wrote =
    done_files v w h (kinds.Number d) block.0 [] (Some (d, block.0)) is wrote (IsOwnBlock v.locks.geometry f i d)
    (IsPlaced v.locks.geometry (Write f i block) Done) own
    (λ old new finds shows writing.
    own_files v.locks.geometry (counter_of v.locks) old new f i d block finds.agrees.valid has there shows writing.changes)
