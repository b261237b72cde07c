-- What the notes of a collection say behind each of its calls: how many slots its records emptied, and that the table of its part was read.
use Rattle.std.proofs.Common.{◌≡◌, ◌+◌, ◌++◌, ◌∷◌, ℕ, List, [], None, Option, Some, refl, ap, sym, subst, ◌∙◌, arith, length}
use Rattle.std.specs.Prelude.{filter, sum_by}
use Rattle.std.specs.Option.{option_map_or}
use Rattle.std.proofs.lemmas.Bool.{eq-eqb}
use Rattle.std.proofs.lemmas.List.Elements.{Contains-append_left, Contains-push}
use Rattle.std.proofs.lemmas.List.Sums.{sum_by-append, sum_by-cons}
use Rattle.vol_base.specs.Packing.{packed_bytes}
use Rattle.vol_base.specs.declared.block.Key.{Key}
use Rattle.vol_base.specs.declared.command.Command.TheVariants.{Collect}
use Rattle.vol_layout.specs.declared.field.Edit.{Edit}
use Rattle.vol_layout.specs.declared.geometry.Geometry.{Geometry}
use Rattle.vol_layout.specs.declared.kind.Kind.{Kind}
use Rattle.vol_layout.specs.declared.kind.Kind.TheVariants as kinds
use Rattle.vol_layout.specs.declared.kind.Resource.{Resource}
use Rattle.vol_layout.specs.declared.kind.Table.{Table}
use Rattle.vol_layout.specs.declared.kind.Table.TheVariants as tables
use Rattle.vol_layout.specs.Edits.{AreEdits}
use Rattle.vol_layout.specs.Journal.{journal_bytes}
use Rattle.vol_layout.specs.Places.{kind_at, place_of}
use Rattle.vol_layout.specs.Ranges.{HasKind, HasResource, HasTable, IsGeometry}
use Rattle.vol_layout.specs.laws.PlaceLaws.{kind_at-place}
use Rattle.shared_disk.specs.Events.{Event}
use Rattle.journal_block.specs.JournalRecord.{JournalRecord}
use Rattle.call_effects.specs.Collections.{collected, freed}
use Rattle.host_facts.specs.Views.{WorldView}
use Rattle.host_facts.specs.laws.EntryLaws.{edits_of-bytes, no_edits}
use Rattle.host_runs.specs.HintCauses.{empties_slot, slots_emptied}
use Rattle.host_runs.specs.NotedCalls.{ShowsKind, SomeCall, kind_written, sum_written}
use Rattle.host_runs.specs.Notes.{NotedCall, Notes, with_call}
use Rattle.plan_parts.specs.MadeCalls.{freeing_of, reading_of, step_of, try_of, writing_of}
use Rattle.plan_parts.specs.QuietCalls.{Noted, QuietCall}
use Rattle.plan_parts.specs.declared.applying.Applied.TheVariants.{Finished, Wrote}
use Rattle.plan_parts.specs.declared.kept.Kept.{Kept}
use Rattle.share_plans.specs.Gatherings.{HasRead, IsReadAt, NotedAt, outcome_at}
use Rattle.share_plans.specs.declared.collection.Collection.{Collection}
use Rattle.share_plans.specs.declared.collection.Gathering.{Gathering}

-- how many slots the record empties that a call wrote
abbrev pub emptied_by : Geometry → ℕ → Event → ℕ
emptied_by g h e = option_map_or (λ b. slots_emptied h b.0 b.1) (kind_written g e.call e.reply) 0

-- no try, no read and no freeing of a lock writes a record
pub try_empties : (v : WorldView) (h : ℕ) (r : Resource) (busy : Option Key) → emptied_by v.locks.geometry h (try_of v h r busy) ≡ 0
try_empties v h r None = refl
try_empties v h r (Some key) = refl

pub read_empties : (v : WorldView) (h : ℕ) (kept : Kept) → emptied_by v.locks.geometry h (reading_of v h kept) ≡ 0
read_empties v h kept = refl

write_empties : (v : WorldView) (h : ℕ) (kind : Kind) (block : List ℕ) → HasKind v.locks.geometry kind
    → emptied_by v.locks.geometry h (writing_of v h kind block) ≡ slots_emptied h (Some kind) block
write_empties v h kind block has =
    ap (λ (k : Option Kind). slots_emptied h k block) (kind_at-place v.locks.geometry kind has)

pub free_empties : (v : WorldView) (h : ℕ) (r : Resource) → HasResource v.locks.geometry r
    → emptied_by v.locks.geometry h (freeing_of v h r) ≡ 0
free_empties v h r has = write_empties v h (kinds.Lock r) _ has

pub table_empties : (v : WorldView) (h : ℕ) (kept : Kept) → HasTable v.locks.geometry kept.which
    → emptied_by v.locks.geometry h (step_of v h (Wrote kept)) ≡ 0
table_empties v h kept has = write_empties v h (kinds.Table kept.which) (packed_bytes 4 kept.table) has

-- a record is written into the own journal
record_empties : (v : WorldView) (h key : ℕ) (es : List Edit) → IsGeometry v.locks.geometry → HasKind v.locks.geometry (kinds.Journal h)
    → AreEdits v.locks.geometry es
    → emptied_by v.locks.geometry h (writing_of v h (kinds.Journal h) (journal_bytes key es)) ≡ length (filter empties_slot es)
record_empties v h key es range has edits =
    write_empties v h (kinds.Journal h) (journal_bytes key es) has
    ∙ (let own = eq-eqb h h refl in rw own
    (ap (λ (ds : List Edit). length (filter empties_slot ds)) (edits_of-bytes v.locks.geometry key es range edits)))

pub finish_empties : (v : WorldView) (h : ℕ) → IsGeometry v.locks.geometry → HasKind v.locks.geometry (kinds.Journal h)
    → emptied_by v.locks.geometry h (step_of v h Finished) ≡ 0
finish_empties v h range has = record_empties v h 0 [] range has (no_edits v.locks.geometry)

-- each slot of a collection's record is one
empties_none : (numbers : List ℕ) → length (filter empties_slot (freed numbers)) ≡ 0
empties_none [] = refl
empties_none (d ∷ numbers) = empties_none numbers

pub empties_slots : (slots : List (ℕ × ℕ)) (numbers : List ℕ) → length (filter empties_slot (collected slots numbers)) ≡ length slots
empties_slots [] numbers = empties_none numbers
empties_slots (s ∷ slots) numbers = let more = empties_slots slots numbers in omega (arith, more)

pub commit_empties : (v : WorldView) (h : ℕ) (entry : JournalRecord) (slots : List (ℕ × ℕ)) (numbers : List ℕ) → IsGeometry v.locks.geometry
    → HasKind v.locks.geometry (kinds.Journal h) → AreEdits v.locks.geometry (collected slots numbers) → entry.edits ≡ collected slots numbers
    → emptied_by v.locks.geometry h (writing_of v h (kinds.Journal h) (journal_bytes entry.key entry.edits)) ≡ length slots
commit_empties v h entry slots numbers range has edits is =
    record_empties v h entry.key entry.edits range has (subst (AreEdits v.locks.geometry) (sym is) edits)
    ∙ ap (λ (es : List Edit). length (filter empties_slot es)) is ∙ empties_slots slots numbers

-- one call more
sum_more : (g : Geometry) (h : ℕ) (calls : List NotedCall) (c : NotedCall)
    → sum_written g (slots_emptied h) (calls ++ c ∷ []) ≡ sum_written g (slots_emptied h) calls + emptied_by g h c.event
sum_more g h calls c =
    let number = λ (d : NotedCall). emptied_by g h d.event in
    sum_by-append number calls (c ∷ [])
    ∙ ap (λ (n : ℕ). sum_by number calls + n) (sum_by-cons number c [] ∙ omega arith)

pub some_more : (P : Option Event → Type 0) (calls : List NotedCall) (c : NotedCall) → SomeCall P calls → SomeCall P (calls ++ c ∷ [])
some_more P calls c (d, there, is) = (d, Contains-append_left calls (c ∷ []) d there, is)

pub some_here : (P : Option Event → Type 0) (calls : List NotedCall) (c : NotedCall) → P (Some c.event) → SomeCall P (calls ++ c ∷ [])
some_here P calls c is = (c, Contains-push calls c, is)

-- the calls of a collection with one more
abbrev pub noted_by : WorldView → Collection → Event → Notes → Notes
noted_by v core e n = with_call v.locks.geometry core.host (Collect core.part) v.locks.disk.state (Some e) n

-- the collection with other locks, groups, and another count
abbrev pub with_all : Collection → List Resource → List ℕ → ℕ → Collection
with_all core taken groups count = record { host = core.host; part = core.part; taken = taken; groups = groups; count = count }

-- the table of the part is read still, and behind the read of it
pub read_still : (v w : WorldView) (core new : Collection) (e : Event) (n : Notes) → w.locks.geometry ≡ v.locks.geometry → new.part ≡ core.part
    → HasRead v core n → HasRead w new (noted_by v core e n)
read_still v w core new e n geometry part (block, read) =
    subst (λ (q : ℕ). (b : List ℕ) × SomeCall (ShowsKind w.locks.geometry (kinds.Table (tables.Part q)) b) (noted_by v core e n).calls) (sym part)
    (subst (λ (g : Geometry). (b : List ℕ) × SomeCall (ShowsKind g (kinds.Table (tables.Part core.part)) b) (noted_by v core e n).calls) (sym geometry)
    (block, some_more (ShowsKind v.locks.geometry (kinds.Table (tables.Part core.part)) block) n.calls _ read))

pub read_now : (v w : WorldView) (core new : Collection) (kept : Kept) (n : Notes) → w.locks.geometry ≡ v.locks.geometry → new.part ≡ core.part
    → HasTable v.locks.geometry kept.which → kept.which ≡ tables.Part core.part
    → HasRead w new (noted_by v core (reading_of v core.host kept) n)
read_now v w core new kept n geometry part has which =
    let block = packed_bytes 4 kept.table in
    let e = reading_of v core.host kept in
    let place = place_of v.locks.geometry (kinds.Table kept.which) in
    let kind : kind_at v.locks.geometry place ≡ Some (kinds.Table (tables.Part core.part)) =
    kind_at-place v.locks.geometry (kinds.Table kept.which) has ∙ ap (λ (t : Table). Some (kinds.Table t)) which in
    subst (λ (q : ℕ). (b : List ℕ) × SomeCall (ShowsKind w.locks.geometry (kinds.Table (tables.Part q)) b) (noted_by v core e n).calls) (sym part)
    (subst (λ (g : Geometry). (b : List ℕ) × SomeCall (ShowsKind g (kinds.Table (tables.Part core.part)) b) (noted_by v core e n).calls) (sym geometry)
    (block, some_here (ShowsKind v.locks.geometry (kinds.Table (tables.Part core.part)) block) n.calls _ (place, kind, refl)))

-- a quiet call of the command, by which as many slots were emptied as the plan then counts more
pub noted_quiet : (v w : WorldView) (core : Collection) (taken : List Resource) (groups : List ℕ) (more count : ℕ) (stage after : Gathering)
    (e : Event) → w.locks.geometry ≡ v.locks.geometry
    → QuietCall (Collect core.part) core.host v w e (Noted (Collect core.part) core.host v (outcome_at stage))
    (Noted (Collect core.part) core.host w (outcome_at after))
    → emptied_by v.locks.geometry core.host e ≡ more → count ≡ core.count + more
    → ((n : Notes) → IsReadAt v core stage n → IsReadAt w (with_all core taken groups count) after (noted_by v core e n))
    → QuietCall (Collect core.part) core.host v w e (NotedAt v core stage) (NotedAt w (with_all core taken groups count) after)
noted_quiet v w core taken groups more count stage after e geometry quiet empties counted reads = record {
  acts = quiet.acts;
  answered = quiet.answered;
  geometry = quiet.geometry;
  others = quiet.others;
  valid = quiet.valid;
  files = quiet.files;
  allowed = λ m turn of before. quiet.allowed m turn of before.noted;
  noted = λ n was. record {
    noted = quiet.noted n was.noted;
    emptied = subst (λ (g : Geometry). sum_written g (slots_emptied core.host) (noted_by v core e n).calls ≡ count) (sym geometry)
        (sum_more v.locks.geometry core.host n.calls _
        ∙ ap (λ (k : ℕ). k + emptied_by v.locks.geometry core.host e) was.emptied ∙ ap (λ (k : ℕ). core.count + k) empties ∙ sym counted);
    read = reads n was.read;
  };
}
