-- A read or a write of a hint block that was refused cuts its command.
use Rattle.std.proofs.Common.{◌≡◌, ℕ, List, None, subst}
use Rattle.std.specs.Prelude.{Err}
use Rattle.vol_layout.specs.declared.kind.Kind.{Kind}
use Rattle.vol_layout.specs.Places.{place_of}
use Rattle.vol_layout.specs.Ranges.{HasKind}
use Rattle.lock_store.specs.declared.answers.StepNo.{StepNo}
use Rattle.lock_store.specs.declared.answers.StepNo.TheVariants as steps
use Rattle.lock_store.specs.Calls.{AnyBlock}
use Rattle.lock_store.specs.Views.{told_of}
use Rattle.host_facts.specs.Calls.{ReadsPlace, WritesPlace}
use Rattle.host_facts.specs.Hints.{IsHint}
use Rattle.host_facts.specs.Others.{Others}
use Rattle.host_facts.specs.Views.{WorldView}
use Rattle.host_notes.specs.lemmas.PlainKinds.{hint_writable}
use Rattle.plan_parts.specs.Cuts.{IsCut}
use Rattle.plan_parts.specs.laws.CutCallLaws.{cut_read, cut_write}

-- the block at the place of a kind
pub read_cut : (v w : WorldView) (h place : ℕ) (kind : Kind) (why : StepNo) → place ≡ place_of v.locks.geometry kind → Others h v w
    → ReadsPlace v.locks h place (Err why) w.locks → IsCut h v w why
read_cut v w h place kind why here others did =
    let refused : ReadsPlace v.locks h (place_of v.locks.geometry kind) (Err why) w.locks =
    subst (λ (p : ℕ). ReadsPlace v.locks h p (Err why) w.locks) here did in
    cut_read v w h kind AnyBlock why others refused (never why refused)
  where
    never : (why : StepNo) → ReadsPlace v.locks h (place_of v.locks.geometry kind) (Err why) w.locks → (at : ℕ) → why ≡ steps.Bad at
        → told_of v.locks ≡ None
    never (steps.Bad there) refused at is = absurd (refused.1.2 tt)
    never other refused at is = absurd cc

pub write_cut : (v w : WorldView) (h place : ℕ) (kind : Kind) (block : List ℕ) (why : StepNo) → place ≡ place_of v.locks.geometry kind
    → IsHint kind → HasKind v.locks.geometry kind → Others h v w → WritesPlace v.locks h place block (Err why) w.locks → IsCut h v w why
write_cut v w h place kind block why here hint has others did =
    cut_write v w h kind block why (hint_writable v.locks.geometry kind hint has) others
    (subst (λ (p : ℕ). WritesPlace v.locks h p block (Err why) w.locks) here did)
