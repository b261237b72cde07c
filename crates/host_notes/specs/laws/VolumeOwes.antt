-- What is left to show of a turn of a command on the volume, for each way in which it goes on or is answered.
use Rattle.std.proofs.Common.{◌≡◌, ◌≢◌, Bool, false, ℕ, suc, List, [], None, Option, Some, refl, ap, sym, ◌∙◌}
use Rattle.std.specs.Prelude.{IsSome, if◌then◌else◌}
use Rattle.vol_base.specs.declared.answer.Answer.{Answer}
use Rattle.vol_base.specs.declared.answer.Answer.TheVariants.{Busy, Collected, Fine, Logged, Merged, Plain, Refused, Served}
use Rattle.vol_base.specs.declared.answer.MergeCounts.{MergeCounts}
use Rattle.vol_base.specs.declared.answer.ServeCounts.{ServeCounts}
use Rattle.vol_base.specs.declared.block.Block.{Block}
use Rattle.vol_base.specs.declared.block.Key.{Key}
use Rattle.vol_base.specs.declared.command.Command.{Command}
use Rattle.vol_base.specs.declared.command.Command.TheVariants.{Collect, Log, Merge, Scribble, Serve}
use Rattle.vol_base.specs.declared.plain.PlainReply.{PlainReply}
use Rattle.vol_layout.specs.declared.geometry.Geometry.{Geometry}
use Rattle.shared_disk.specs.Events.{Event, Writes}
use Rattle.shared_disk.specs.Seen.{DiskSeen}
use Rattle.hint_blocks.specs.declared.entry.LogEntry.{LogEntry}
use Rattle.histories.specs.Answers.{MayGet}
use Rattle.host_runs.specs.Awaited.{MayAskFor}
use Rattle.host_runs.specs.Causes.{IsCause}
use Rattle.host_runs.specs.DeviceCalls.{HasDone}
use Rattle.host_runs.specs.FileUses.{is_hint_place}
use Rattle.host_runs.specs.HintCauses.{HasCollected, HasLogged, HasMerged, HasServed}
use Rattle.host_runs.specs.Memories.{Memory, drops}
use Rattle.host_runs.specs.Moments.{Moment}
use Rattle.host_runs.specs.Notes.{Notes, at_rest}
use Rattle.host_runs.specs.Owed.{OwesAtEnd}
use Rattle.host_runs.specs.Rests.{HasPending, IsAtRest}
use Rattle.host_runs.specs.lemmas.OrderlyPlaced.{some_same}
use Rattle.host_notes.specs.FileTurns.{IsResting, asking, at_answer, going_on}
use Rattle.host_notes.specs.Owes.{Owes, plan_moment}
use Rattle.host_notes.specs.VolumeTurns.{OwesNoOther, OwesOther, VolumeTurn}
use Rattle.host_notes.specs.laws.FileEndings.{memory_kept}
use Rattle.host_notes.specs.laws.TurnLaws.{no_place, now_placed_here}
use Rattle.host_notes.specs.laws.VolumeEndings.{owes_no_other, volume_ends, volume_goes_on, volume_joined, volume_keeps, volume_key, volume_looks, volume_no_key}

module _ (g : Geometry) (h : ℕ) (old new : DiskSeen) (made : Option Event) (n : Notes) where
  abbrev moment : Command → Moment
  moment command = plan_moment g h command old new made None n

  -- a turn in which the command is answered, and the host is not dropped
  owes_ended : (command : Command) (answer : Answer) (pending : List LogEntry) → VolumeTurn g h command old new made n
      → MayGet command answer → ((reply : PlainReply) → answer ≢ Plain reply) → drops answer command ≡ false
      → IsCause (moment command) answer → OwesAtEnd (moment command) (Some answer) → OwesOther (moment command) (Some answer)
      → IsResting (moment command) → IsAtRest (moment command) answer (at_answer (moment command) pending)
      → Owes g h command old new made None (Some answer) n (at_answer (moment command) pending)
  owes_ended command answer pending turn own plain keeps cause at_end other rests noted = record {
    acts = turn.acts;
    moves = λ e. absurd cc;
    may = turn.may;
    marks = turn.marks;
    files = turn.files;
    valid = turn.valid;
    file = λ is. absurd (no_place is);
    once = λ is. absurd (no_place is);
    plain = λ reply e. absurd (plain reply (some_same answer (Plain reply) e));
    none = λ placeless. now_placed_here g h command old new None n made turn.unplaced;
    own = own;
    ending = volume_ends (moment command) turn.on (volume_joined command turn.on) turn.answered answer keeps cause at_end other rests;
    noted = noted;
  }

  -- the command goes on behind a call, and a `merge` may ask for a digest
  pub owes_asks_on : (command : Command) (block : Option Block) → VolumeTurn g h command old new made n → IsSome made
      → MayAskFor g command made block → OwesOther (moment command) None
      → Owes g h command old new made None None n (asking (moment command) block)
  owes_asks_on command block turn call asks other = record {
    acts = turn.acts;
    moves = λ e. call;
    may = turn.may;
    marks = turn.marks;
    files = turn.files;
    valid = turn.valid;
    file = λ is. absurd (no_place is);
    once = λ is. absurd (no_place is);
    plain = λ reply e. absurd cc;
    none = tt;
    own = tt;
    ending = volume_goes_on (moment command) turn.on (volume_joined command turn.on) turn.answered other;
    noted = (asks, refl);
  }

  pub owes_on : (command : Command) → VolumeTurn g h command old new made n → IsSome made → OwesOther (moment command) None
      → Owes g h command old new made None None n (going_on (moment command))
  owes_on command turn call other = owes_asks_on command None turn call tt other

  -- the key that the tries showed
  pub owes_busy_on : (command : Command) (key : Key) → VolumeTurn g h command old new made n → MayGet command (Busy key)
      → (moment command).now.tries.shown ≡ Some key.0 → OwesOther (moment command) (Some (Busy key)) → IsResting (moment command)
      → Owes g h command old new made None (Some (Busy key)) n (at_answer (moment command) n.pending)
  owes_busy_on command key turn own shown other rests =
      let keeps = volume_keeps command key turn.on in
      owes_ended command (Busy key) n.pending turn own (λ reply is. cc) keeps shown
      (volume_key (moment command) turn.on (volume_joined command turn.on) turn.answered key shown) other rests
      (record {
        pending = ap (λ (b : Bool). if b then [] else n.pending) (sym keeps);
        watch = volume_looks command key (moment command) turn.on;
        rest = ap (λ (memory : Memory). at_rest memory (moment command).now.dying n.pending n.watch)
            (sym (memory_kept (Busy key) command (moment command).now.memory keeps));
      })

  -- so many slots of a part were emptied
  pub owes_collected : (p k : ℕ) → VolumeTurn g h (Collect p) old new made n → HasCollected (moment (Collect p)) p k
      → (moment (Collect p)).now.tries.shown ≡ None → IsResting (moment (Collect p))
      → Owes g h (Collect p) old new made None (Some (Collected k)) n (at_answer (moment (Collect p)) n.pending)
  owes_collected p k turn collected shown rests =
      owes_ended (Collect p) (Collected k) n.pending turn tt (λ reply is. cc) refl collected
      (volume_no_key (moment (Collect p)) tt refl turn.answered (Collected k) shown)
      (owes_no_other (moment (Collect p)) (Some (Collected k)) tt) rests (record { pending = refl; watch = refl; rest = refl })

  -- the hints of the own logs were merged, and the requests of the held files served
  pub owes_merged : (counts : MergeCounts) → VolumeTurn g h Merge old new made n → HasMerged (moment Merge) counts
      → (moment Merge).now.tries.shown ≡ None → IsResting (moment Merge)
      → Owes g h Merge old new made None (Some (Merged counts)) n (at_answer (moment Merge) n.pending)
  owes_merged counts turn merged shown rests =
      owes_ended Merge (Merged counts) n.pending turn tt (λ reply is. cc) refl merged
      (volume_no_key (moment Merge) tt refl turn.answered (Merged counts) shown) (owes_no_other (moment Merge) (Some (Merged counts)) tt)
      rests (record { pending = refl; watch = refl; rest = refl })

  pub owes_served : (counts : ServeCounts) → VolumeTurn g h Serve old new made n → HasServed (moment Serve) counts
      → (moment Serve).now.tries.shown ≡ None → IsResting (moment Serve)
      → Owes g h Serve old new made None (Some (Served counts)) n (at_answer (moment Serve) n.pending)
  owes_served counts turn served shown rests =
      owes_ended Serve (Served counts) n.pending turn tt (λ reply is. cc) refl served
      (volume_no_key (moment Serve) tt refl turn.answered (Served counts) shown) (owes_no_other (moment Serve) (Some (Served counts)) tt)
      rests (record { pending = refl; watch = refl; rest = refl })

  -- the pending hints were logged, or none could be
  pub owes_logged : (k : ℕ) (pending : List LogEntry) → VolumeTurn g h Log old new made n → HasLogged (moment Log) k
      → HasPending (Logged k) (moment Log) pending → (moment Log).now.tries.shown ≡ None → OwesOther (moment Log) (Some (Logged k))
      → IsResting (moment Log) → Owes g h Log old new made None (Some (Logged k)) n (at_answer (moment Log) pending)
  owes_logged k pending turn logged left shown other rests =
      owes_ended Log (Logged k) pending turn tt (λ reply is. cc) refl logged
      (volume_no_key (moment Log) tt refl turn.answered (Logged k) shown) other rests
      (record { pending = left; watch = refl; rest = refl })

  -- the block was written at its place, or is refused there
  pub owes_scribbled : (place k seen : ℕ) (block : List ℕ) → VolumeTurn g h (Scribble place k seen) old new made n
      → HasDone (Writes place block) made → is_hint_place g place ≢ false → (moment (Scribble place k seen)).now.tries.shown ≡ None
      → IsResting (moment (Scribble place k seen))
      → Owes g h (Scribble place k seen) old new made None (Some Fine) n (at_answer (moment (Scribble place k seen)) n.pending)
  owes_scribbled place k seen block turn done hint shown rests =
      owes_ended (Scribble place k seen) Fine n.pending turn tt (λ reply is. cc) refl (block, done)
      (volume_no_key (moment (Scribble place k seen)) tt refl turn.answered Fine shown)
      (record {
        refused = λ at j s is here none. absurd (hint (ap (is_hint_place g) (let one : place ≡ at = cc in one) ∙ none));
        by_log = record { nothing = λ is. absurd cc; full = λ is. absurd cc };
      }) rests (record { pending = refl; watch = refl; rest = refl })

  pub owes_refused : (place k seen : ℕ) → VolumeTurn g h (Scribble place k seen) old new made n → made ≡ None
      → is_hint_place g place ≡ false → (moment (Scribble place k seen)).now.tries.shown ≡ None
      → IsResting (moment (Scribble place k seen))
      → Owes g h (Scribble place k seen) old new made None (Some Refused) n (at_answer (moment (Scribble place k seen)) n.pending)
  owes_refused place k seen turn none hint shown rests =
      owes_ended (Scribble place k seen) Refused n.pending turn tt (λ reply is. cc) refl (none, hint)
      (volume_no_key (moment (Scribble place k seen)) tt refl turn.answered Refused shown)
      (record { refused = λ at j s is here no. refl; by_log = record { nothing = λ is. absurd cc; full = λ is. absurd cc } }) rests
      (record { pending = refl; watch = refl; rest = refl })
