-- Writes of one block: from the step that a write is to what the call owes, and from what it did to what it leaves.
use Rattle.std.proofs.Common.{◌≡◌, ◌≢◌, ℕ, Err, List, [], Ok, Option, Result, None, ap, refl, slice_index_or, subst, sym}
use Rattle.std.specs.Prelude.{OnErr, OnOk}
use Rattle.vol_layout.specs.declared.kind.Kind.{Kind}
use Rattle.vol_layout.specs.declared.kind.Kind.TheVariants as kinds
use Rattle.vol_layout.specs.declared.field.Edit.{Edit}
use Rattle.shared_disk.specs.State.{State}
use Rattle.journal_block.specs.JournalRecord.{JournalRecord}
use Rattle.image_view.specs.Images.{Image, written}
use Rattle.image_view.specs.Valid.{IsValid}
use Rattle.call_effects.specs.Changes.{Data}
use Rattle.call_effects.specs.Places.{KeepsFiles}
use Rattle.lock_store.specs.declared.answers.StepNo.{StepNo}
use Rattle.lock_store.specs.declared.answers.StepNo.TheVariants as steps
use Rattle.shared_disk.specs.Events.{Call}
use Rattle.lock_store.specs.Calls.{AnyBlock, WritesBlock}
use Rattle.lock_store.specs.Events.{IsRefusal}
use Rattle.lock_store.specs.Views.{LocksView, counter_of, host_at, told_of}
use Rattle.disk_locks.specs.Consistent.{Consistent}
use Rattle.disk_locks.specs.MayWrite.{IsWritable, MayWrite}
use Rattle.disk_locks.specs.Others as locks'
use Rattle.disk_locks.specs.Sure.{BothTold, Sure}
use Rattle.host_facts.specs.Finds.{Finds}
use Rattle.host_facts.specs.Others.{Others}
use Rattle.host_facts.specs.Steps.{IsStep}
use Rattle.host_facts.specs.Views.{WorldView, standing_at}
use Rattle.host_facts.specs.Wrote.{FilesStay, Wrote, Writing}
use Rattle.host_facts.specs.laws.FileStays.{quiet_files}
use Rattle.host_facts.specs.laws.FindsLaws.{found}
use Rattle.host_facts.specs.laws.KeptLaws.{others_of}
use Rattle.host_facts.specs.laws.OwnLaws.{wrote_law}
use Rattle.host_facts.specs.laws.ToldLaws.{both_same, both_with, sure_all, sure_and, sure_of}
use Rattle.meta_world.specs.MayPut.{MayPut}

-- the host is sure that the write is a step
abbrev pub SureStep : LocksView → ℕ → Kind → List ℕ → List Edit → Data → Type 0
SureStep v h kind block es put = Sure v h (IsStep v.geometry (counter_of v) h (host_at v h) kind block es put)

-- then the block may be written, however it is made
pub may_put : (v : LocksView) (h : ℕ) (kind : Kind) {bytes block : List ℕ} (es : List Edit) (put : Data) → bytes ≡ block
    → SureStep v h kind block es put → MayPut v h kind bytes
may_put v h kind {block = block} es put same step =
    let Step = λ (image : Image). IsStep v.geometry (counter_of v) h (host_at v h) kind block es put image in
    subst (λ (b : List ℕ). MayPut v h kind b) (sym same) (
      sure_of v h Step (λ image. IsValid v.geometry (counter_of v) (written v.geometry image kind block)) (λ image s. s.valid) step,
      sure_of v h Step (λ image. MayWrite v.geometry h (host_at v h) image kind block) (λ image s. s.may) step,
    )

-- what follows of what a call leaves where it is done
pub then_ok : {A B : Type 0} (result : Result Unit StepNo) → (A → B) → OnOk result A → OnOk result B
then_ok (Ok done) f a = f a
then_ok (Err why) f a = tt

-- where all records in memory are as before, so is each
pub same_record : (v w : WorldView) → w.standing ≡ v.standing → (x : ℕ) → standing_at w x ≡ standing_at v x
same_record v w same x = ap (λ (rs : List (Option JournalRecord)). slice_index_or rs x None) same

pub others_kept : {v w : WorldView} {h : ℕ} → Consistent v.locks → locks'.Others h v.locks w.locks → w.standing ≡ v.standing → Others h v w
others_kept {v = v} {w = w} {h = h} is others same = others_of v w h is others (λ x ne. same_record v w same x)

-- what a write leaves to its own host, whose record in memory is as before unless its own journal was written
pub put_wrote : (v w : WorldView) {h : ℕ} {kind : Kind} {bytes block : List ℕ} (es : List Edit) (put : Data)
    (result : Result Unit StepNo) → Consistent v.locks → IsWritable v.locks.geometry kind → bytes ≡ block
    → WritesBlock v.locks h kind bytes (host_at v.locks h) result w.locks → locks'.Others h v.locks w.locks
    → (kinds.Journal h ≢ kind → standing_at w h ≡ standing_at v h) → SureStep v.locks h kind block es put
    → OnOk result (Wrote h kind block es put v w)
put_wrote v w {h = h} {kind = kind} {block = block} es put (Ok done) is writable same did others standing step =
    wrote_law v w h kind block es put is writable
    (subst (λ (b : List ℕ). WritesBlock v.locks h kind b (host_at v.locks h) (Ok done) w.locks) same did) others.lasts standing step
put_wrote v w es put (Err why) is writable same did others standing step = tt

-- a call that is refused changes no file
pub same_state : (v w : WorldView) → w.locks.disk.state ≡ v.locks.disk.state → FilesStay v w
same_state v w same =
    both_same (told_of v.locks) (told_of w.locks) KeepsFiles (ap (λ (s : State). s.told) same) (λ image file. refl)

pub refused_files : (v w : WorldView) (h place : ℕ) (call : Call) (why : StepNo) → IsRefusal v.locks h call place AnyBlock why w.locks
    → FilesStay v w
refused_files v w h place call steps.Fenced did = same_state v w did.acts.changes
refused_files v w h place call steps.Failed did = same_state v w did.acts.changes
refused_files v w h place call steps.NoMemory did = same_state v w did.acts.changes
refused_files v w h place call (steps.Bad at) did = absurd (did.1.2 tt)

pub put_refused : (v w : WorldView) (h : ℕ) (kind : Kind) (block : List ℕ) (result : Result Unit StepNo)
    → WritesBlock v.locks h kind block (host_at v.locks h) result w.locks → OnErr result (FilesStay v w)
put_refused v w h kind block (Ok done) did = tt
put_refused v w h kind block (Err why) did = refused_files v w h _ _ why did

-- what a write that is done does to a told image, of which the host was sure
pub done_files : (v w : WorldView) (h : ℕ) (kind : Kind) (block : List ℕ) (es : List Edit) (put : Data) → Consistent v.locks
    → Wrote h kind block es put v w → (P : Image → Type 0) (R : Image → Image → Type 0) → Sure v.locks h P
    → ((old new : Image) → Finds v.locks h old → P old → Writing v.locks.geometry kind block es put old new → R old new)
    → BothTold (told_of v.locks) (told_of w.locks) R
done_files v w h kind block es put is wrote P R sure f =
    both_with (told_of v.locks) (told_of w.locks) (λ image. Finds v.locks h image × P image) (Writing v.locks.geometry kind block es put) R
    (sure_and v.locks h (λ image. Finds v.locks h image) P (found v.locks h is) sure wrote.registered) wrote.images
    (λ old new was writing. f old new was.0 was.1 writing)

-- a write leaves all files, where it is refused, and where it is done to such an image
pub put_files : (v w : WorldView) {h : ℕ} {kind : Kind} {block : List ℕ} {es : List Edit} {put : Data} (result : Result Unit StepNo)
    → Consistent v.locks → OnErr result (FilesStay v w) → OnOk result (Wrote h kind block es put v w) → (P : Image → Type 0)
    → Sure v.locks h P
    → ((old new : Image) → Finds v.locks h old → P old → Writing v.locks.geometry kind block es put old new → KeepsFiles old new)
    → FilesStay v w
put_files v w (Err why) is refused wrote P sure f = refused
put_files v w {h = h} {kind = kind} {block = block} {es = es} {put = put} (Ok done) is refused wrote P sure f =
    done_files v w h kind block es put is wrote P KeepsFiles sure f

-- so does one that changes no logical number and no data block
pub put_quiet : (v w : WorldView) (h : ℕ) (kind : Kind) (block : List ℕ) (result : Result Unit StepNo) → Consistent v.locks
    → OnErr result (FilesStay v w) → OnOk result (Wrote h kind block [] None v w) → FilesStay v w
put_quiet v w h kind block result is refused wrote =
    put_files v w {h = h} {kind = kind} {block = block} {es = []} {put = None} result is refused wrote (λ image. Unit {0})
    (sure_all v.locks h (λ image. Unit {0}) (λ image. tt))
    (λ old new finds any writing. quiet_files v.locks.geometry (counter_of v.locks) old new finds.agrees.valid writing.changes)
