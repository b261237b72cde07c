-- Calls that may be a place: a quiet call is one that is none, and each is a turn of its command.
use Rattle.std.proofs.Common.{◌≡◌, ◌≢◌, ℕ, List, None, Option, Some, ap, refl, subst}
use Rattle.std.specs.Prelude.{IsSome, Ok}
use Rattle.std.specs.Option.{option_or}
use Rattle.vol_base.specs.declared.command.Command.{Command}
use Rattle.vol_base.specs.declared.plain.PlainReply.{PlainReply}
use Rattle.vol_base.specs.PlainCalls.{plain_call_of}
use Rattle.vol_layout.specs.declared.geometry.Geometry.{Geometry}
use Rattle.vol_layout.specs.declared.kind.Kind.{Kind}
use Rattle.shared_disk.specs.Events.{Event}
use Rattle.shared_disk.specs.State.{OnImages}
use Rattle.call_effects.specs.Places.{Places}
use Rattle.lock_store.specs.Calls.{WritesBlock}
use Rattle.lock_store.specs.Views.{counter_of, host_at, key_at, told_of}
use Rattle.disk_locks.specs.MayWrite.{IsWritable}
use Rattle.image_view.specs.Valid.{IsValid}
use Rattle.host_facts.specs.Others.{Others}
use Rattle.host_facts.specs.Views.{WorldView}
use Rattle.host_facts.specs.Wrote.{HasValidImage}
use Rattle.host_notes.specs.Remembered.{IsRemembered}
use Rattle.host_runs.specs.DeviceCalls.{OnImage}
use Rattle.host_runs.specs.Notes.{Notes, with_place}
use Rattle.host_notes.specs.FileTurns.{FileTurn, IsOnFile}
use Rattle.host_notes.specs.laws.FileEndings.{file_joined}
use Rattle.plan_parts.specs.PlacedCalls.{PlacedCall}
use Rattle.plan_parts.specs.QuietCalls.{Noted, QuietCall}
use Rattle.plan_parts.specs.declared.outcome.Outcome.{Outcome}
use Rattle.plan_parts.specs.declared.outcome.Outcome.TheVariants as outcomes
use Rattle.plan_parts.specs.laws.QuietCallLaws.{allowed_write, noted_write, write_event}
use Rattle.plan_parts.specs.laws.TurnLaws.{given_no_refusal, no_places, own_turn}

-- notes agree with the reply that is placed
pub noted_placed : (command : Command) (h : ℕ) (v : WorldView) (reply : PlainReply) (n : Notes) → Noted command h v outcomes.Open n
    → Noted command h v (outcomes.Placed reply) (with_place (Some reply) n)
noted_placed command h v reply n noted = record {
  remembered = noted.remembered;
  placed_is = ap (λ (o : Option PlainReply). option_or o (Some reply)) noted.placed_is;
  shown_is = noted.shown_is;
  full = noted.full;
  asks = noted.asks;
  wants = noted.wants;
}

module _ (command : Command) (h : ℕ) (v w : WorldView) (e : Event) (Before After : Notes → Type 0) where
  -- a quiet call is one by which nothing is placed
  pub quiet_placed : QuietCall command h v w e Before After → PlacedCall command h v w e None Before After
  quiet_placed quiet = record {
    acts = quiet.acts;
    answered = quiet.answered;
    geometry = quiet.geometry;
    others = quiet.others;
    valid = quiet.valid;
    files = no_places v.locks.geometry (plain_call_of command) (told_of v.locks) (told_of w.locks) quiet.files;
    file = λ is. absurd cc;
    allowed = quiet.allowed;
    noted = quiet.noted;
  }

  -- each is a turn of a command on a file, which places its reply once
  pub placed_turn : (placed : Option PlainReply) (n : Notes) → IsRemembered v.locks.geometry n.memory (host_at v.locks h) → Before n
      → key_at v.locks h ≢ 0 → IsOnFile command → (IsSome placed → n.placed ≡ None) → PlacedCall command h v w e placed Before After
      → FileTurn v.locks.geometry h command v.locks.disk w.locks.disk (Some e) placed n
  placed_turn placed n remembered before some on once call =
      let allowed = call.allowed _ (own_turn command h v w e n remembered some placed (file_joined command on)) refl before in record {
        on = on;
        acts = (call.acts, given_no_refusal e.reply call.answered);
        answered = call.answered;
        may = allowed.made;
        marks = allowed.marks;
        files = call.files;
        valid = subst (λ (g : Geometry). OnImage w.locks.disk.state (IsValid g (counter_of w.locks))) call.geometry call.valid;
        file = call.file;
        once = once;
      }

-- the write of a block that is no slot and no lock, which may be the place of a plain call
pub placed_write : (command : Command) (h : ℕ) (v w : WorldView) (kind : Kind) (block : List ℕ) (placed : Option PlainReply)
    (outcome : Outcome) (done : Unit) → IsWritable v.locks.geometry kind
    → WritesBlock v.locks h kind block (host_at v.locks h) (Ok done) w.locks → Others h v w → HasValidImage w
    → OnImages (Places v.locks.geometry (plain_call_of command) placed) (told_of v.locks) (told_of w.locks)
    → (IsSome placed → IsSome (plain_call_of command))
    → PlacedCall command h v w (write_event command v w h kind block) placed (Noted command h v outcome)
    (Noted command h w outcome)
placed_write command h v w kind block placed outcome done writable did others valid files file = record {
  acts = did.acts;
  answered = tt;
  geometry = did.geometry;
  others = others;
  valid = valid;
  files = files;
  file = file;
  allowed = allowed_write command v w h kind block _ writable;
  noted = noted_write command v w h kind block outcome done writable did;
}
