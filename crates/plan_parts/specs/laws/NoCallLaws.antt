-- A turn that makes no call: everything stays.
use Rattle.std.proofs.Common.{arith}
use Rattle.std.proofs.Common.{ℕ, None, Option, Some, refl}
use Rattle.shared_disk.specs.State.{Told}
use Rattle.vol_base.specs.declared.command.Command.{Command}
use Rattle.vol_layout.specs.declared.geometry.Geometry.{Geometry}
use Rattle.lock_store.specs.declared.host.HostState.{HostState}
use Rattle.disk_locks.specs.KeepsImage.{KeepsImage}
use Rattle.host_facts.specs.Others.{Others}
use Rattle.host_facts.specs.Views.{WorldView}
use Rattle.host_notes.specs.FileTurns.{FileTurn, IsOnFile}
use Rattle.host_runs.specs.Notes.{Notes}
use Rattle.image_view.specs.Images.{Image}
use Rattle.lock_store.specs.Views.{host_at, told_of}
use Rattle.disk_locks.specs.Consistent.{Consistent}
use Rattle.disk_locks.specs.Sure.{BothTold}
use Rattle.call_effects.specs.Places.{KeepsFiles}
use Rattle.vol_base.specs.PlainCalls.{plain_call_of}
use Rattle.host_notes.specs.laws.TurnLaws.{no_place}
use Rattle.plan_parts.specs.laws.QuietCallLaws.{valid_now}
use Rattle.plan_parts.specs.laws.TurnLaws.{no_places}

keeps_all : (g : Geometry) (h : ℕ) (m : HostState) (image : Image) → KeepsImage g h m image image
keeps_all g h m image = record {
  record_own = λ joined. refl;
  tables = λ t has may. refl;
  numbers = λ f has may. refl;
  content = λ f d has has' may share. refl;
  fresh = λ d has may none. refl;
  slots = λ s d has held is. (is, λ none. refl);
  left = λ gone free. free;
  dead = λ y below claim. refl;
  standing = λ y below claim. refl;
  replayed = λ y f has below claim touched. refl;
}

-- an image is in any relation with itself that all images are in
both_same : (told : Option Told) (R : Image → Image → Type 0) → ((image : Image) → R image image) → BothTold told told R
both_same None R same = tt
both_same (Some t) R same = same t.image

pub others_same : (v : WorldView) (h : ℕ) → Others h v v
others_same v h = record {
  locks = record {
    lasts = record {
      geometry = refl;
      counter = omega arith;
      off = λ key is. is;
      entered = λ key is. is;
      ended = λ key is. is;
      fades = both_same (told_of v.locks) _ (λ image r key has off held. held);
    };
    memories = λ x other. refl;
    keeps = λ x other some. record {
      memory = refl;
      registered = λ is. is;
      image = λ is. both_same (told_of v.locks) _ (λ image. keeps_all v.locks.geometry x (host_at v.locks x) image);
    };
  };
  standing = λ x other. refl;
  facts = λ x a other known. known;
}

-- a turn of a command on a file
pub uncalled_turn : (command : Command) (h : ℕ) (v : WorldView) (n : Notes) → Consistent v.locks → IsOnFile command
    → FileTurn v.locks.geometry h command v.locks.disk v.locks.disk None None n
uncalled_turn command h v n is on = record {
  on = on;
  acts = refl;
  answered = tt;
  may = tt;
  marks = tt;
  files = no_places v.locks.geometry (plain_call_of command) (told_of v.locks) (told_of v.locks)
      (both_same (told_of v.locks) KeepsFiles (λ image f. refl));
  valid = valid_now v is;
  file = λ is. absurd (no_place is);
  once = λ is. absurd (no_place is);
}
