-- The record that a commit leaves.
use Rattle.std.proofs.Common.{◌≡◌, ℕ, Err, List, None, Ok, Result, Some, true}
use Rattle.std.specs.Prelude.{OnOk}
use Rattle.vol_layout.specs.declared.kind.Kind.TheVariants as kinds
use Rattle.journal_block.specs.JournalRecord.{JournalRecord}
use Rattle.lock_store.specs.declared.answers.StepNo.{StepNo}
use Rattle.lock_store.specs.Views.{host_at, key_at}
use Rattle.host_facts.specs.Facts.Fact.{RecordIs}
use Rattle.host_facts.specs.Knows.{Knows}
use Rattle.host_facts.specs.Views.{WorldView, standing_at}
use Rattle.host_facts.specs.Wrote.{Wrote}
use Rattle.host_facts.specs.laws.WroteLaws.{wrote_record}
use Rattle.meta_world.proofs.Puts.{SureStep}

pub record_stands : (v w : WorldView) (h : ℕ) (block : List ℕ) (r : JournalRecord) (result : Result Unit StepNo)
    → SureStep v.locks h (kinds.Journal h) block r.edits None → (host_at v.locks h).joined ≡ true → r.key ≡ key_at v.locks h
    → OnOk result (standing_at w h ≡ Some r) → OnOk result (Wrote h (kinds.Journal h) block r.edits None v w)
    → OnOk result (Knows w h (RecordIs r.edits))
record_stands v w h block r (Ok done) step joined under standing wrote =
    wrote_record v w h block r wrote step joined under standing
record_stands v w h block r (Err why) step joined under standing wrote = tt
