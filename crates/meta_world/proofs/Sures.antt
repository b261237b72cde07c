-- Each write is a step, by what its condition says.
use Rattle.std.proofs.Common.{◌≡◌, ◌≢◌, ◌<◌, ℕ, List, [], None, Some, true, ap, length, arith}
use Rattle.vol_layout.specs.declared.kind.Kind.{Kind}
use Rattle.vol_layout.specs.declared.kind.Kind.TheVariants as kinds
use Rattle.vol_layout.specs.declared.kind.Resource.TheVariants as resources
use Rattle.vol_layout.specs.declared.field.Field.TheVariants.{Count, Pointer}
use Rattle.vol_layout.specs.Fields.{HasField, resource_of}
use Rattle.vol_layout.specs.Journal.{journal_bytes}
use Rattle.vol_layout.specs.Ranges.{HasKind}
use Rattle.journal_block.specs.JournalRecord.{IsJournalRecord, JournalRecord}
use Rattle.image_view.specs.Images.{Image}
use Rattle.image_view.specs.Numbers.{logical}
use Rattle.image_view.specs.Records.{IsRecord}
use Rattle.lock_store.specs.Memories.{holds}
use Rattle.lock_store.specs.Views.{LocksView, counter_of, host_at, key_at}
use Rattle.disk_locks.specs.Consistent.{Consistent}
use Rattle.disk_locks.specs.Sure.{Sure}
use Rattle.host_facts.specs.Facts.{Tells}
use Rattle.host_facts.specs.Facts.Fact.{RecordIs}
use Rattle.host_facts.specs.Hints.{IsHint}
use Rattle.host_facts.specs.Knows.{Knows}
use Rattle.host_facts.specs.OwnBlocks.{IsOwnBlock}
use Rattle.host_facts.specs.Records.{IsApplied}
use Rattle.host_facts.specs.Steps.{IsStep}
use Rattle.meta_world.proofs.Puts.{SureStep}
use Rattle.host_facts.specs.Views.{WorldView}
use Rattle.host_facts.specs.laws.FindsLaws.{sure_found}
use Rattle.host_facts.specs.laws.ToldLaws.{sure_all, sure_and}
use Rattle.host_facts.specs.laws.JournalSteps.{MayClear, clear_step, commit_step}
use Rattle.host_facts.specs.laws.StepLaws.{fresh_step, hint_step, own_step}

pub hint_sure : (v : LocksView) (h : ℕ) (kind : Kind) (block : List ℕ) → Consistent v → IsHint kind → HasKind v.geometry kind
    → SureStep v h kind block [] None
hint_sure v h kind block is hint has =
    sure_found v h (λ image. Unit {0}) (IsStep v.geometry (counter_of v) h (host_at v h) kind block [] None) is
    (λ image finds any. hint_step v h kind block image finds hint has) (sure_all v h (λ image. Unit {0}) (λ image. tt))

pub fresh_sure : (v : LocksView) (h d : ℕ) (block : List ℕ) → Consistent v → HasField v.geometry (Count d)
    → holds (host_at v h) (resource_of (Count d)) ≡ true → Sure v h (λ image. logical v.geometry image (Count d) ≡ 0)
    → SureStep v h (kinds.Number d) block [] (Some (d, block))
fresh_sure v h d block is has held =
    sure_found v h (λ image. logical v.geometry image (Count d) ≡ 0)
    (IsStep v.geometry (counter_of v) h (host_at v h) (kinds.Number d) block [] (Some (d, block))) is
    (λ image finds free. fresh_step v h d block image finds has held free)

pub own_sure : (v : LocksView) (h f i d : ℕ) (block : List ℕ) → Consistent v → HasField v.geometry (Pointer f i)
    → HasField v.geometry (Count d) → holds (host_at v h) (resources.File f) ≡ true → Sure v h (IsOwnBlock v.geometry f i d)
    → SureStep v h (kinds.Number d) block [] (Some (d, block))
own_sure v h f i d block is has count held =
    sure_found v h (IsOwnBlock v.geometry f i d)
    (IsStep v.geometry (counter_of v) h (host_at v h) (kinds.Number d) block [] (Some (d, block))) is
    (λ image finds own. own_step v h f i d block image finds has count held own)

pub clear_sure : (v : LocksView) (h y : ℕ) → Consistent v → y < v.geometry.hosts → MayClear v h y → Sure v h (IsApplied v.geometry y)
    → SureStep v h (kinds.Journal y) (journal_bytes 0 []) [] None
clear_sure v h y is below may =
    sure_found v h (IsApplied v.geometry y)
    (IsStep v.geometry (counter_of v) h (host_at v h) (kinds.Journal y) (journal_bytes 0 []) [] None) is
    (λ image finds applied. clear_step v h y image finds below may applied)

some_edit : (r : JournalRecord) → IsJournalRecord r → r.edits ≢ []
some_edit r is e = absurd (let none : length r.edits ≡ 0 = ap length e in omega (arith, is.some, none))

pub commit_sure : (v : WorldView) (h : ℕ) (r : JournalRecord) → Consistent v.locks → r.key ≡ key_at v.locks h → IsJournalRecord r
    → Knows v h (RecordIs []) → Sure v.locks h (λ image. IsRecord v.locks.geometry image r.key r.edits)
    → SureStep v.locks h (kinds.Journal h) (journal_bytes r.key r.edits) r.edits None
commit_sure v h r is own well_formed known may =
    let Empty = λ (image : Image). Tells v.locks h image (RecordIs []) in
    let Right = λ (image : Image). IsRecord v.locks.geometry image r.key r.edits in
    sure_found v.locks h (λ image. Empty image × Right image)
    (IsStep v.locks.geometry (counter_of v.locks) h (host_at v.locks h) (kinds.Journal h) (journal_bytes r.key r.edits) r.edits None) is
    (λ image finds both.
    commit_step v.locks h r.key r.edits image finds known.guard.0 own (some_edit r well_formed) both.0 both.1)
    (sure_and v.locks h Empty Right known.sure may)
