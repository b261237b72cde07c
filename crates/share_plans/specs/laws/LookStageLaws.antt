-- What each step did by which a table of the files was read.
use Rattle.std.proofs.Common.{◌≡◌, ◌<◌, ◌≤◌, ◌+◌, ◌⊎◌, ℕ, Bool, true, false, List, [], ◌∷◌}
use Rattle.std.proofs.Common.{None, Some, refl, ap, sym, subst, ◌∙◌, arith, inl, inr, length}
use Rattle.std.proofs.lemmas.List.{length-append}
use Rattle.vol_layout.specs.declared.field.Field.TheVariants.{Pointer}
use Rattle.vol_layout.specs.declared.geometry.Geometry.{Geometry}
use Rattle.vol_layout.specs.declared.kind.Resource.{Resource}
use Rattle.vol_layout.specs.declared.kind.Table.{Table}
use Rattle.vol_layout.specs.declared.kind.Table.TheVariants as tables
use Rattle.vol_layout.specs.Fields.{table_of}
use Rattle.image_view.specs.Images.{Image}
use Rattle.disk_locks.specs.Consistent.{Consistent}
use Rattle.host_facts.specs.Facts.Fact.{RecordIs}
use Rattle.host_facts.specs.Views.{WorldView}
use Rattle.plan_parts.specs.Fetched.{Fetched}
use Rattle.plan_parts.specs.QuietCalls.{Noted, QuietCall}
use Rattle.plan_parts.specs.TableOrder.{same_table}
use Rattle.plan_parts.specs.declared.kept.Kept.{Kept}
use Rattle.plan_parts.specs.declared.outcome.Outcome.{Outcome}
use Rattle.plan_parts.specs.declared.outcome.Outcome.TheVariants as outcomes
use Rattle.plan_parts.specs.laws.TakenLaws.{taking_same}
use Rattle.vol_base.specs.declared.command.Command.{Command}
use Rattle.share_plans.specs.Causes.{HasNoSource, IsCause}
use Rattle.share_plans.specs.Lefts.{behind_lock, behind_tables, left, missing, missing_at, missing_of_source, one_missing}
use Rattle.share_plans.specs.Places.{HasBlock, shown_at}
use Rattle.share_plans.specs.ReadTables.{ArePacked, IsInserted, Known, kept_in}
use Rattle.share_plans.specs.Spots.{IsAnswerBy, IsPair, IsShown, IsSight, IsUnread, IsUnreadOfSource, Reads}
use Rattle.share_plans.specs.Stands.{At, IsArena, IsBase, known_of}
use Rattle.share_plans.specs.Went.{IsSame, MayShare, Went, answer_at, behind_look, ended_by}
use Rattle.share_plans.specs.declared.sharing.Place.{Place}
use Rattle.share_plans.specs.declared.sharing.Place.TheVariants.{Arena, File}
use Rattle.share_plans.specs.declared.sharing.Shared.{Shared}
use Rattle.share_plans.specs.declared.sharing.Shared.TheVariants as answers
use Rattle.share_plans.specs.declared.sight.Sight.{Sight}
use Rattle.share_plans.specs.declared.sight.Sight.TheVariants as sights
use Rattle.share_plans.specs.declared.stage.Came.TheVariants.{Answered, More}
use Rattle.share_plans.specs.declared.stage.Core.{Core}
use Rattle.share_plans.specs.declared.stage.Pair.{Pair}
use Rattle.share_plans.specs.declared.stage.Stage.{Stage}
use Rattle.share_plans.specs.declared.stage.Stage.TheVariants as stages
use Rattle.share_plans.specs.laws.KnownLaws.{are_packed, known_more, known_now, kept_more, own_table, place_shown, tables_read}
use Rattle.share_plans.specs.laws.SpareLaws.{spares_read}
use Rattle.share_plans.specs.laws.StepLaws.{IsPlain, looked_ended, looked_keeps, looked_nothing, same_image, went_on}
use Rattle.share_plans.specs.laws.StillLaws.{all_kept, places_on, still_looks}
use Rattle.plan_parts.specs.MadeCalls.{ReadSo, reading_of}
use Rattle.vol_layout.specs.Ranges.{HasTable}
use Rattle.share_plans.specs.HintSpares.{SparesHints}

-- the share with other tables
abbrev pub with_tables : Core → List Kept → Core
with_tables core more =
    record { host = core.host; file = core.file; index = core.index; source = core.source; taken = core.taken; tables = more }

-- a read of a table is quiet for the command of a share
pub quiet_fetched : (h : ℕ) (v w : WorldView) (kept : Kept) → ReadSo h v w kept → (command : Command) (outcome : Outcome)
    → MayShare command → QuietCall command h v w (reading_of v h kept) (Noted command h v outcome) (Noted command h w outcome)
quiet_fetched h v w kept so command outcome may = so command outcome (λ f i n r write. absurd (may.1 f i n write))

pub spares_fetched : (h : ℕ) (v w : WorldView) (t : Table) (kept : Kept) → Fetched h v w t kept
    → SparesHints v.locks.geometry (reading_of v h kept).call
spares_fetched h v w t kept did =
    spares_read v h kept (subst (λ (g : Geometry). HasTable g kept.which) did.looks.geometry did.is_kept.table)

-- fewer tables are missing once one was read
module _ (kept : Kept) (old new : List Kept) (inserted : IsInserted kept old new) where
  fewer_by : (u : Table) (b : Bool) → same_table kept.which u ≡ b → one_missing (kept_in new) u ≤ one_missing (kept_in old) u
  fewer_by u true is = let now = known_now kept old new inserted u is in rw (now.1) (omega arith)
  fewer_by u false is = let same = known_more kept old new inserted u is in rw same (omega arith)

  fewer_one : (u : Table) → one_missing (kept_in new) u ≤ one_missing (kept_in old) u
  fewer_one u = fewer_by u (same_table kept.which u) refl

  less_one : (t : Table) → kept.which ≡ t → kept_in old t ≡ None → one_missing (kept_in new) t < one_missing (kept_in old) t
  less_one t is unread =
      let now = known_now kept old new inserted t (subst (λ (u : Table). same_table u t ≡ true) (sym is) (own_table t)) in
      rw (now.1, unread) (omega arith)

  fewer_at : (f i : ℕ) → missing_at (kept_in new) f i ≤ missing_at (kept_in old) f i
  fewer_at f i =
      let a = fewer_one (tables.File f) in
      let b = fewer_one (table_of (Pointer f i)) in omega (arith, a, b)

  pub less_at : (g : Geometry) (f i : ℕ) (t : Table) → kept.which ≡ t → IsUnread g (kept_in old) f i t
      → missing_at (kept_in new) f i < missing_at (kept_in old) f i
  less_at g f i t is unread =
      let a = fewer_one (tables.File f) in
      let b = fewer_one (table_of (Pointer f i)) in
      let less = less_one t is unread.unread in
      elim unread.is [
        | inl head ↦
            let now = subst (λ (u : Table). one_missing (kept_in new) u < one_missing (kept_in old) u) head less in omega (arith, now, b)
        | inr pointer ↦
            let now = subst (λ (u : Table). one_missing (kept_in new) u < one_missing (kept_in old) u) pointer less in omega (arith, now, a)
      ]

  fewer_source : (source : Place) → missing_of_source (kept_in new) source ≤ missing_of_source (kept_in old) source
  fewer_source (File f i) = fewer_at f i
  fewer_source (Arena s) = omega arith

  less_source : (g : Geometry) (source : Place) (t : Table) → kept.which ≡ t → IsUnreadOfSource g (kept_in old) source t
      → missing_of_source (kept_in new) source < missing_of_source (kept_in old) source
  less_source g (File f i) t is unread = less_at g f i t is unread
  less_source g (Arena s) t is unread = absurd unread

  pub long_more : length new ≡ length old + 1
  long_more =
      let before = ap length inserted.2 ∙ length-append inserted.0 inserted.1 in
      let behind = ap length inserted.3 ∙ length-append inserted.0 (kept ∷ inserted.1) in
      omega (arith, before, behind)

pub one_less : (g : Geometry) (core : Core) (new : List Kept) (kept : Kept) (t : Table) → IsInserted kept core.tables new → kept.which ≡ t
    → (IsUnread g (known_of core) core.file core.index t ⊎ IsUnreadOfSource g (known_of core) core.source t)
    → missing (with_tables core new) < missing core
one_less g core new kept t inserted is unread =
    let a = fewer_at kept core.tables new inserted core.file core.index in
    let b = fewer_source kept core.tables new inserted core.source in
    elim unread [
      | inl own ↦ let less = less_at kept core.tables new inserted g core.file core.index t is own in omega (arith, less, b)
      | inr from ↦ let less = less_source kept core.tables new inserted g core.source t is from in omega (arith, less, a)
    ]

-- what is to be done next, by the source
peeks_arena : (g : Geometry) (known : Known) (f i own : ℕ) (source : Place) → IsSight g known f i source (sights.Peeks own)
    → IsShown g known f i own × IsArena source × (behind_tables source ≡ 16)
peeks_arena g known f i own (File e j) is = absurd is
peeks_arena g known f i own (Arena s) is = (is, tt, refl)

pairs_file : (g : Geometry) (known : Known) (f i : ℕ) (pair : Pair) (source : Place) → IsSight g known f i source (sights.Pairs pair)
    → IsPair g known f i source pair × (behind_tables source ≡ behind_lock source + 1)
pairs_file g known f i pair (File e j) is = (is, refl)
pairs_file g known f i pair (Arena s) is = absurd is

-- an answer that the tables give has its cause
answer_by : (g : Geometry) (known : Known) (core : Core) (t : Table) (source : Place) (answer : Shared) → core.source ≡ source
    → IsAnswerBy g known core.file core.index source answer → (image : Image) → Reads g known image
    → ((f i d : ℕ) → IsShown g known f i d → shown_at g image f i ≡ Some d)
    → IsCause g core (stages.Reads t) answer image image
answer_by g known core t source answers.Hole same is image reads shows = (is image reads, same_image g image)
answer_by g known core t (File f i) answers.NoSource same is image reads shows = (
  subst (λ (s : Place). HasNoSource g image core s (stages.Reads t)) (sym same)
      ((is.0, shows core.file core.index is.0 is.1), is.2 image reads),
  same_image g image,
)
answer_by g known core t (File f i) answers.Already same is image reads shows = (
  (is.0, shows core.file core.index is.0 is.1, subst (λ (s : Place). HasBlock g image s is.0) (sym same) (shows f i is.0 is.2)),
  same_image g image,
)
answer_by g known core t (File f i) answers.Linked same is image reads shows = absurd is
answer_by g known core t (File f i) (answers.Differs at) same is image reads shows = absurd is
answer_by g known core t (File f i) (answers.Busy key) same is image reads shows = absurd is
answer_by g known core t (Arena s) answers.NoSource same is image reads shows = absurd is
answer_by g known core t (Arena s) answers.Already same is image reads shows = absurd is
answer_by g known core t (Arena s) answers.Linked same is image reads shows = absurd is
answer_by g known core t (Arena s) (answers.Differs at) same is image reads shows = absurd is
answer_by g known core t (Arena s) (answers.Busy key) same is image reads shows = absurd is

-- it is no key
no_key : (g : Geometry) (known : Known) (f i : ℕ) (source : Place) (answer : Shared) → IsAnswerBy g known f i source answer → IsPlain answer
no_key g known f i source answers.Hole is = tt
no_key g known f i (File e j) answers.NoSource is = tt
no_key g known f i (File e j) answers.Already is = tt
no_key g known f i (File e j) answers.Linked is = absurd is
no_key g known f i (File e j) (answers.Differs at) is = absurd is
no_key g known f i (File e j) (answers.Busy key) is = absurd is
no_key g known f i (Arena s) answers.NoSource is = absurd is
no_key g known f i (Arena s) answers.Already is = absurd is
no_key g known f i (Arena s) answers.Linked is = absurd is
no_key g known f i (Arena s) (answers.Differs at) is = absurd is
no_key g known f i (Arena s) (answers.Busy key) is = absurd is

module _ (v w : WorldView) (later : Consistent w.locks) (core : Core) (t : Table) (at : At v core (stages.Reads t)) (kept : Kept)
    (did : Fetched core.host v w t kept) (so : ReadSo core.host v w kept) (more : List Kept) (inserted : IsInserted kept core.tables more) where
  abbrev new : Core
  new = with_tables core more

  same_now : IsSame core new
  same_now = record { host = refl; file = refl; index = refl; source = refl }

  base_now : IsBase w new
  base_now =
      let still = still_looks core.host v w did.looks in record {
        places = places_on core.host v w still core.file core.source at.0.places;
        empty = did.looks.facts (RecordIs []) at.0.empty;
        taking = taking_same v w core.host core.taken did.looks.geometry did.looks.memory at.0.taking;
        kept = kept_more kept core.tables more inserted w core.host did.is_kept (all_kept core.host v w still core.tables at.0.kept);
      }

  pub table_packed : ArePacked w.locks.geometry (kept_in more)
  table_packed = let base = base_now in are_packed w core.host more base.kept

  less_now : missing new < missing core
  less_now = one_less v.locks.geometry core more kept t inserted did.which at.2

  room_now : length more + missing new ≤ 4
  room_now = let long = long_more kept core.tables more inserted in let less = less_now in omega (arith, long, less, at.3)

  answered : (answer : Shared) → IsAnswerBy w.locks.geometry (kept_in more) core.file core.index core.source answer
      → Went v w core new (stages.Reads t) (Answered answer)
  answered answer is =
      let less = less_now in
      let none = ap length at.1 in
      let base = base_now in
      subst (λ (ts : List Resource). Went v w core new (stages.Reads t) (ended_by ts answer)) at.1
      (looked_ended v w core new (stages.Reads t) answer (no_key w.locks.geometry (kept_in more) core.file core.index core.source answer is)
      refl same_now did.looks base.places base.taking base.empty (Reads w.locks.geometry (kept_in more))
      (tables_read w core.host more later base.kept base.empty) (λ image reads.
      subst (λ (g : Geometry). IsCause g core (stages.Reads t) answer image image) did.looks.geometry
      (answer_by w.locks.geometry (kept_in more) core t core.source answer refl is image reads
      (λ f i d shown. place_shown w.locks.geometry (kept_in more) image later.geometry reads f i d shown)))
      (omega (arith, less, none)) (reading_of v core.host kept) (spares_fetched core.host v w t kept did)
      (λ command may. quiet_fetched core.host v w kept so command outcomes.Open may))

  goes : (after : Stage) → answer_at after ≡ None → At w new after → left new after < left core (stages.Reads t)
      → Went v w core new (stages.Reads t) (More after)
  goes after none stands less =
      went_on v w core new (stages.Reads t) after refl none same_now (looked_keeps core.host v w did.looks) stands
      (looked_nothing core.host v w did.looks) less (reading_of v core.host kept)
      (spares_fetched core.host v w t kept did) (λ command may. quiet_fetched core.host v w kept so command outcomes.Open may)

  pub table_read : (sight : Sight) → IsSight w.locks.geometry (kept_in more) core.file core.index core.source sight
      → Went v w core new (stages.Reads t) (behind_look sight)
  table_read (sights.Needs u) is =
      let less = less_now in goes (stages.Reads u) refl (base_now, at.1, is, room_now) (omega (arith, less))
  table_read (sights.Answers answer) is = answered answer is
  table_read (sights.Peeks own) is =
      let less = less_now in
      let next = peeks_arena w.locks.geometry (kept_in more) core.file core.index own core.source is in
      goes (stages.Peeks own) refl (base_now, at.1, next.0, next.1) (omega (arith, less, next.2))
  table_read (sights.Pairs pair) is =
      let less = less_now in
      let next = pairs_file w.locks.geometry (kept_in more) core.file core.index pair core.source is in
      goes (stages.Locks pair) refl (base_now, at.1, next.0) (omega (arith, less, next.1))
