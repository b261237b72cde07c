-- The pending hints that the notes have behind a step of a command that is none on hints, and what they say of a `write` under way.
use Rattle.std.proofs.Common.{◌≡◌, ◌<◌, ℕ, zero, suc, Bool, true, false, List, [], Option, Some, None, if◌then◌else◌, refl, ap, sym, subst, ◌∙◌}
use Rattle.std.specs.Option.{option_or}
use Rattle.vol_base.specs.declared.answer.Answer.{Answer}
use Rattle.vol_base.specs.declared.answer.Answer.TheVariants as answers
use Rattle.vol_base.specs.declared.answer.Next.{Next}
use Rattle.vol_base.specs.declared.answer.Next.TheVariants as nexts
use Rattle.vol_base.specs.declared.block.Digest.{Digest}
use Rattle.vol_base.specs.declared.command.Command.{Command}
use Rattle.vol_base.specs.declared.command.Command.TheVariants as commands
use Rattle.vol_base.specs.declared.plain.PlainCall.{PlainCall}
use Rattle.vol_base.specs.declared.plain.PlainReply.{PlainReply}
use Rattle.vol_base.specs.declared.plain.PlainReply.TheVariants as replies
use Rattle.vol_layout.specs.declared.geometry.Geometry.{Geometry}
use Rattle.vol_layout.specs.Ranges.{limit}
use Rattle.shared_disk.specs.Events.{Event}
use Rattle.shared_disk.specs.Seen.{DiskSeen}
use Rattle.shared_disk.specs.State.{State}
use Rattle.file_plans.specs.Calls.{Runs, file_of}
use Rattle.file_plans.specs.Sights.{MayPlace, MayReply}
use Rattle.file_plans.specs.declared.call.FileCall.{FileCall}
use Rattle.file_plans.specs.declared.call.FileCall.TheVariants.{Close, Plain}
use Rattle.hint_blocks.specs.declared.entry.LogEntry.{LogEntry}
use Rattle.hint_blocks.specs.HintLists.{HintList}
use Rattle.histories.specs.Answers.{MayGet}
use Rattle.host_notes.specs.Owes.{Owes, plan_moment}
use Rattle.host_runs.specs.Memories.{drops}
use Rattle.host_runs.specs.Moments.{Moment}
use Rattle.host_runs.specs.Notes.{Notes}
use Rattle.host_runs.specs.Rests.{HasPending, HasScanHints, HasWrittenHint, hint_pushed}
use Rattle.host_runs.specs.Steps.{notes_now}
use Rattle.host_runs.specs.lemmas.OrderlyPlaced.{some_same}
use Rattle.plan_parts.specs.Steps.{ended_of}
use Rattle.cluster.specs.Carries.{HasDigest, IsPlaceOf, IsWriteNoted, MayNote, carried_behind, emptied, hints_behind, looks_behind, loses, written}
use Rattle.cluster.specs.declared.carried.Carried.{Carried}

-- a command that neither logs hints nor scans
abbrev pub IsUnhinted : Command → Type 0
IsUnhinted commands.Log = ⊥
IsUnhinted (commands.Scan f i) = ⊥
IsUnhinted command = Unit {0}

-- nor writes
abbrev pub IsQuiet : Command → Type 0
IsQuiet (commands.Write f i n) = ⊥
IsQuiet command = IsUnhinted command

pub quiet_hints : (command : Command) → IsQuiet command → IsUnhinted command
quiet_hints (commands.Write f i n) quiet = absurd quiet
quiet_hints command quiet = quiet

pub quiet_digest : (command : Command) (digest : Option Digest) (digests : List Digest) → IsQuiet command → HasDigest command digest digests
quiet_digest (commands.Write f i n) digest digests quiet = absurd quiet
quiet_digest command digest digests quiet = tt

pub quiet_place : (g : Geometry) (command : Command) → IsQuiet command → IsPlaceOf g command
quiet_place g (commands.Write f i n) quiet = absurd quiet
quiet_place g command quiet = tt

pub may_note : (g : Geometry) (command : Command) (next : Next) → IsPlaceOf g command → MayNote g command next
may_note g command (nexts.Answered (answers.Plain replies.Done)) place = place
may_note g command next place = tt

-- a turn's call changes neither the pending hints of the notes nor their digests
now_pending : (g : Geometry) (h : ℕ) (command : Command) (before : State) (made : Option Event) (placed : Option PlainReply) (n : Notes)
    → (notes_now g h command before made placed n).pending ≡ n.pending
now_pending g h command before None placed n = refl
now_pending g h command before (Some e) placed n = refl

now_digests : (g : Geometry) (h : ℕ) (command : Command) (before : State) (made : Option Event) (placed : Option PlainReply) (n : Notes)
    → (notes_now g h command before made placed n).digests ≡ n.digests
now_digests g h command before None placed n = refl
now_digests g h command before (Some e) placed n = refl

now_placed : (g : Geometry) (h : ℕ) (command : Command) (before : State) (made : Option Event) (placed : Option PlainReply) (n : Notes)
    → (notes_now g h command before made placed n).placed ≡ option_or n.placed placed
now_placed g h command before None placed n = refl
now_placed g h command before (Some e) placed n = refl

-- behind an answer
if_emptied : (b : Bool) (old : List LogEntry) (p : HintList LogEntry) → old ≡ p.entries
    → (if b then [] else old) ≡ (if b then emptied p else p).entries
if_emptied true old p same = refl
if_emptied false old p same = same

scan_hints : (command : Command) (m : Moment) (later : List LogEntry) → IsUnhinted command → HasScanHints command m later → later ≡ m.old.pending
scan_hints (commands.Scan f i) m later un is = absurd un
scan_hints command m later un is = is

no_log : (command : Command) (n : ℕ) → IsUnhinted command → MayGet command (answers.Logged n) → ⊥
no_log commands.Log n un may = un
no_log command n un may = may

written_hints : (command : Command) (m : Moment) (later : List LogEntry) (digest : Option Digest) (p : HintList LogEntry)
    → HasWrittenHint command m later → m.old.pending ≡ p.entries → HasDigest command digest m.now.digests
    → later ≡ (written command digest p).entries
written_hints (commands.Write f i n) m later digest p is same (d, handed, noted) =
    is d noted ∙ ap (λ (xs : List LogEntry). hint_pushed f xs (d, i)) same
    ∙ ap (λ (o : Option Digest). (written (commands.Write f i n) o p).entries) (sym handed)
written_hints command m later digest p is same handed = is ∙ same

answer_hints : (answer : Answer) (m : Moment) (later : List LogEntry) (digest : Option Digest) (p : HintList LogEntry) → IsUnhinted m.command
    → HasPending answer m later → MayGet m.command answer → m.old.pending ≡ p.entries → HasDigest m.command digest m.now.digests
    → later ≡ (hints_behind m.command (nexts.Answered answer) digest p).entries
answer_hints (answers.Joined key) m later digest p un is may same handed = is
answer_hints (answers.Plain replies.Done) m later digest p un is may same handed = written_hints m.command m later digest p is same handed
answer_hints (answers.Logged zero) m later digest p un is may same handed = absurd (no_log m.command 0 un may)
answer_hints (answers.Logged (suc n)) m later digest p un is may same handed = absurd (no_log m.command (suc n) un may)
answer_hints (answers.Scanned n) m later digest p un is may same handed = scan_hints m.command m later un is ∙ same
answer_hints answer m later digest p un is may same handed = is ∙ if_emptied (drops answer m.command) m.old.pending p same

module _ (g : Geometry) (h : ℕ) (command : Command) (old new : DiskSeen) (made : Option Event) (placed : Option PlainReply) (n later : Notes)
    (digest : Option Digest) where
  abbrev moment : Moment
  moment = plan_moment g h command old new made placed n

  digest_now : HasDigest command digest n.digests → HasDigest command digest moment.now.digests
  digest_now handed =
      subst (λ (ds : List Digest). HasDigest command digest ds) (sym (now_digests g h command old.state made placed n)) handed

  -- the pending hints behind a step
  pub pending_step : (next : Next) (p : HintList LogEntry) → IsUnhinted command
      → Owes g h command old new made placed (ended_of next) n later → n.pending ≡ p.entries → HasDigest command digest n.digests
      → later.pending ≡ (hints_behind command next digest p).entries
  pending_step nexts.More p un owes same handed =
      ap (λ (x : Notes). x.pending) owes.noted.1 ∙ now_pending g h command old.state made placed n ∙ same
  pending_step (nexts.Work block) p un owes same handed =
      ap (λ (x : Notes). x.pending) owes.noted.1 ∙ now_pending g h command old.state made placed n ∙ same
  pending_step (nexts.Answered answer) p un owes same handed =
      answer_hints answer moment later.pending digest p un owes.noted.pending owes.own same (digest_now handed)

  -- a `write` that goes on is noted as before, where its place has the range of its call
  placed_before : (was : Option PlainReply) → option_or was placed ≡ Some replies.Done
      → (was ≡ Some replies.Done → IsPlaceOf g command) → (placed ≡ Some replies.Done → IsPlaceOf g command) → IsPlaceOf g command
  placed_before None is before now = now is
  placed_before (Some reply) is before now = before is

  pub range_now : IsWriteNoted g command digest n → (placed ≡ Some replies.Done → IsPlaceOf g command)
      → moment.now.placed ≡ Some replies.Done → IsPlaceOf g command
  range_now noted range is =
      placed_before n.placed (sym (now_placed g h command old.state made placed n) ∙ is) noted.range range

  pub write_on : IsWriteNoted g command digest n → (placed ≡ Some replies.Done → IsPlaceOf g command)
      → Owes g h command old new made placed None n later → IsWriteNoted g command digest later
  write_on noted range owes = record {
    handed = subst (λ (ds : List Digest). HasDigest command digest ds) (sym (ap (λ (x : Notes). x.digests) owes.noted.1)) (digest_now noted.handed);
    range = λ is. range_now noted range (sym (ap (λ (x : Notes). x.placed) owes.noted.1) ∙ is);
  }

  pub write_ends : IsWriteNoted g command digest n → (placed ≡ Some replies.Done → IsPlaceOf g command) → (next : Next)
      → Owes g h command old new made placed (ended_of next) n later → MayNote g command next
  write_ends noted range (nexts.Answered (answers.Plain replies.Done)) owes = range_now noted range (owes.plain replies.Done refl)
  write_ends noted range next owes = tt

-- by the call of a plan on a file
reply_place : (g : Geometry) (command : Command) (call : FileCall) → Runs command call → file_of call < g.files → MayReply g replies.Done call
    → IsPlaceOf g command
reply_place g (commands.Write f i n) (Plain call) runs file may =
    let same = some_same _ call runs in (
      subst (λ (k : PlainCall). file_of (Plain k) < g.files → f < g.files) same (λ below. below) file,
      subst (λ (k : PlainCall). MayReply g replies.Done (Plain k) → i < limit g) same (λ below. below) may,
    )
reply_place g (commands.Write f i n) (Close x) runs file may = absurd cc
reply_place g command call runs file may = tt

pub place_of_call : (g : Geometry) (command : Command) (call : FileCall) (placed : Option PlainReply) → Runs command call → file_of call < g.files
    → MayPlace g call placed → placed ≡ Some replies.Done → IsPlaceOf g command
place_of_call g command call None runs file may is = absurd cc
place_of_call g command call (Some reply) runs file may is =
    reply_place g command call runs file (subst (λ (r : PlainReply). MayReply g r call) (some_same reply replies.Done is) may)

-- the pending hints are of the same volume
written_volume : (command : Command) (digest : Option Digest) (p : HintList LogEntry) → (written command digest p).geometry ≡ p.geometry
written_volume (commands.Write f i n) None p = refl
written_volume (commands.Write f i n) (Some digest) p = refl
written_volume command digest p = refl

if_volume : (b : Bool) (p : HintList LogEntry) → (if b then emptied p else p).geometry ≡ p.geometry
if_volume true p = refl
if_volume false p = refl

pub hints_volume : (command : Command) (next : Next) (digest : Option Digest) (p : HintList LogEntry)
    → (hints_behind command next digest p).geometry ≡ p.geometry
hints_volume command nexts.More digest p = refl
hints_volume command (nexts.Work block) digest p = refl
hints_volume command (nexts.Answered (answers.Plain replies.Done)) digest p = written_volume command digest p
hints_volume command (nexts.Answered answer) digest p = if_volume (loses answer command) p

-- what the code makes of it, one part after the other
pub carried_is : (command : Command) (next : Next) (old mid new : Carried)
    → mid ≡ record old { pending = hints_behind command next old.digest old.pending }
    → new ≡ record mid { watch = looks_behind next mid.watch } → new ≡ carried_behind command next old
carried_is command next old mid new first second =
    second ∙ ap (λ (k : Carried). let x : Carried = record k { watch = looks_behind next k.watch } in x) first
