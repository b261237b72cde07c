-- What is left to show of a turn of a command on a file, for each way in which it goes on or is answered.
use Rattle.std.proofs.Common.{◌≡◌, Bool, false, ℕ, List, [], None, Option, Some, refl, ap, sym, ◌∙◌}
use Rattle.std.specs.Prelude.{IsSome, if◌then◌else◌}
use Rattle.vol_base.specs.declared.answer.Answer.{Answer}
use Rattle.vol_base.specs.declared.answer.Answer.TheVariants.{Busy, Fine, Full, Plain, Scanned}
use Rattle.vol_base.specs.declared.block.Block.{Block}
use Rattle.vol_base.specs.declared.block.Key.{Key}
use Rattle.vol_base.specs.declared.command.Command.{Command}
use Rattle.vol_base.specs.declared.command.Command.TheVariants.{Close, Scan, Write}
use Rattle.vol_base.specs.declared.plain.PlainReply.{PlainReply}
use Rattle.vol_layout.specs.declared.geometry.Geometry.{Geometry}
use Rattle.shared_disk.specs.Events.{Event}
use Rattle.shared_disk.specs.Seen.{DiskSeen}
use Rattle.hint_blocks.specs.declared.entry.LogEntry.{LogEntry}
use Rattle.histories.specs.Answers.{MayGet}
use Rattle.host_runs.specs.Awaited.{MayAskFor}
use Rattle.host_runs.specs.FullCauses.{HasMetFull}
use Rattle.host_runs.specs.HintCauses.{HasScanned}
use Rattle.host_runs.specs.Causes.{IsCause}
use Rattle.host_runs.specs.Memories.{HasFile, Memory, drops}
use Rattle.host_runs.specs.Moments.{Moment}
use Rattle.host_runs.specs.Notes.{Notes, at_rest}
use Rattle.host_runs.specs.Owed.{OwesAtEnd}
use Rattle.host_runs.specs.Rests.{HasScannedHints, IsAtRest}
use Rattle.host_runs.specs.lemmas.OrderlyPlaced.{some_same}
use Rattle.histories.specs.Fit.{IsPlaceless}
use Rattle.host_notes.specs.FileTurns.{FileTurn, IsResting, MeetsNoFull, asking, at_answer, going_on, pending_after}
use Rattle.host_notes.specs.Owes.{Owes, plan_moment}
use Rattle.host_notes.specs.laws.FileEndings.{busy_keeps, busy_looks, ends, file_busy, file_joined, goes_on, memory_kept, owes_full_volume, owes_key, owes_none, plain_pending}

module _ (g : Geometry) (h : ℕ) (old new : DiskSeen) (made : Option Event) (placed : Option PlainReply) (n : Notes) where
  abbrev moment : Command → Moment
  moment command = plan_moment g h command old new made placed n

  -- a turn in which the command is answered, and the host is not dropped
  owes_answered : (command : Command) (answer : Answer) (pending : List LogEntry) → FileTurn g h command old new made placed n
      → MayGet command answer → ((reply : PlainReply) → answer ≡ Plain reply → (moment command).now.placed ≡ Some reply)
      → (IsPlaceless answer → (moment command).now.placed ≡ None) → drops answer command ≡ false → IsCause (moment command) answer
      → OwesAtEnd (moment command) (Some answer) → IsResting (moment command)
      → IsAtRest (moment command) answer (at_answer (moment command) pending)
      → Owes g h command old new made placed (Some answer) n (at_answer (moment command) pending)
  owes_answered command answer pending turn own plain none keeps cause at_end rests noted = record {
    acts = turn.acts;
    moves = λ e. absurd cc;
    may = turn.may;
    marks = turn.marks;
    files = turn.files;
    valid = turn.valid;
    file = turn.file;
    once = turn.once;
    plain = λ reply e. plain reply (some_same answer (Plain reply) e);
    none = none;
    own = own;
    ending = ends (moment command) turn.on (file_joined command turn.on) turn.answered answer keeps cause at_end rests;
    noted = noted;
  }

  -- the command goes on behind a call, and a `scan` may ask for a digest
  pub owes_asks : (command : Command) (block : Option Block) → FileTurn g h command old new made placed n → IsSome made
      → MayAskFor g command made block → Owes g h command old new made placed None n (asking (moment command) block)
  owes_asks command block turn call asks = record {
    acts = turn.acts;
    moves = λ e. call;
    may = turn.may;
    marks = turn.marks;
    files = turn.files;
    valid = turn.valid;
    file = turn.file;
    once = turn.once;
    plain = λ reply e. absurd cc;
    none = tt;
    own = tt;
    ending = goes_on (moment command) turn.on (file_joined command turn.on) turn.answered;
    noted = (asks, refl);
  }

  pub owes_goes_on : (command : Command) → FileTurn g h command old new made placed n → IsSome made
      → Owes g h command old new made placed None n (going_on (moment command))
  owes_goes_on command turn call = owes_asks command None turn call tt

  -- a plain reply that has its place
  pub owes_plain : (command : Command) (reply : PlainReply) → FileTurn g h command old new made placed n → MayGet command (Plain reply)
      → (moment command).now.placed ≡ Some reply → (moment command).now.tries.shown ≡ None
      → MeetsNoFull g command (moment command).now.calls → IsResting (moment command)
      → Owes g h command old new made placed (Some (Plain reply)) n (at_answer (moment command) (pending_after reply (moment command)))
  owes_plain command reply turn own place shown full rests =
      owes_answered command (Plain reply) (pending_after reply (moment command)) turn own
      (λ other is. let same : reply ≡ other = cc in place ∙ ap Some same) (λ placeless. absurd placeless) refl place
      (owes_none (moment command) (Plain reply) shown full) rests
      (record { pending = plain_pending reply (moment command); watch = refl; rest = refl })

  -- the key that the tries showed
  pub owes_busy : (command : Command) (key : Key) → FileTurn g h command old new made placed n
      → (moment command).now.placed ≡ None → (moment command).now.tries.shown ≡ Some key.0
      → MeetsNoFull g command (moment command).now.calls → IsResting (moment command)
      → Owes g h command old new made placed (Some (Busy key)) n (at_answer (moment command) n.pending)
  owes_busy command key turn place shown full rests =
      let keeps = busy_keeps command key turn.on in
      owes_answered command (Busy key) n.pending turn (file_busy command key turn.on) (λ reply is. absurd cc) (λ placeless. place)
      keeps shown (owes_key (moment command) key shown full) rests
      (record {
        pending = ap (λ (b : Bool). if b then [] else n.pending) (sym keeps);
        watch = busy_looks command key (moment command) turn.on;
        rest = ap (λ (memory : Memory). at_rest memory (moment command).now.dying n.pending n.watch)
            (sym (memory_kept (Busy key) command (moment command).now.memory keeps));
      })

  -- a `write` that met the volume full
  pub owes_full : (f i k : ℕ) → FileTurn g h (Write f i k) old new made placed n
      → (moment (Write f i k)).now.placed ≡ None → (moment (Write f i k)).now.tries.shown ≡ None
      → HasMetFull g (moment (Write f i k)).now.calls → IsResting (moment (Write f i k))
      → Owes g h (Write f i k) old new made placed (Some Full) n (at_answer (moment (Write f i k)) n.pending)
  owes_full f i k turn place shown full rests =
      owes_answered (Write f i k) Full n.pending turn tt (λ reply is. absurd cc) (λ placeless. place) refl full
      (owes_full_volume (moment (Write f i k)) shown) rests (record { pending = refl; watch = refl; rest = refl })

  -- a `close` of a file that the host has no more
  pub owes_closed : (f : ℕ) → FileTurn g h (Close f) old new made placed n
      → (HasFile g (moment (Close f)).now.memory.holds f → ⊥) → (HasFile g (moment (Close f)).now.memory.reads f → ⊥)
      → (moment (Close f)).now.placed ≡ None → (moment (Close f)).now.tries.shown ≡ None → IsResting (moment (Close f))
      → Owes g h (Close f) old new made placed (Some Fine) n (at_answer (moment (Close f)) n.pending)
  owes_closed f turn holds reads place shown rests =
      owes_answered (Close f) Fine n.pending turn tt (λ reply is. absurd cc) (λ placeless. place) refl (holds, reads)
      (owes_none (moment (Close f)) Fine shown (λ g i k is. absurd cc)) rests (record { pending = refl; watch = refl; rest = refl })

  -- a `scan`, which leaves a hint for each block that it counted
  pub owes_scanned : (f i k : ℕ) (pending : List LogEntry) → FileTurn g h (Scan f i) old new made placed n
      → HasScanned (moment (Scan f i)) f i k → HasScannedHints (moment (Scan f i)) f i pending
      → (moment (Scan f i)).now.placed ≡ None → (moment (Scan f i)).now.tries.shown ≡ None → IsResting (moment (Scan f i))
      → Owes g h (Scan f i) old new made placed (Some (Scanned k)) n (at_answer (moment (Scan f i)) pending)
  owes_scanned f i k pending turn scanned hints place shown rests =
      owes_answered (Scan f i) (Scanned k) pending turn tt (λ reply is. absurd cc) (λ placeless. place) refl scanned
      (owes_none (moment (Scan f i)) (Scanned k) shown (λ g i k is. absurd cc)) rests
      (record { pending = hints; watch = refl; rest = refl })
