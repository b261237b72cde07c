-- The parts stay sound where a seat and the world change, and the volume does not.
use Rattle.std.proofs.Common.{◌≡◌, ◌∙◌, ℕ, slice_set}
use Rattle.std.proofs.lemmas.List.{length-set}
use Rattle.held_cache.specs.Kept.{Cache}
use Rattle.host_facts.specs.Views.{WorldView}
use Rattle.cluster.specs.Agreements.{IsSound}
use Rattle.cluster.specs.Views.{PartsView}
use Rattle.cluster.specs.declared.seat.Seat.{Seat}

pub seat_sound : (v : PartsView) (h : ℕ) (seat : Seat) (w : WorldView) (d : Cache) → IsSound v → w.locks.geometry ≡ v.world.locks.geometry
    → IsSound (record v { world = w; cache = d; seats = slice_set v.seats h seat })
seat_sound v h seat w d sound geometry = record {
  phased = sound.phased;
  allowed = sound.allowed;
  known = sound.known;
  few = sound.few;
  phases = sound.phases;
  phase = sound.phase;
  geometry = geometry ∙ sound.geometry;
  volume = sound.volume;
  long = sound.long;
  seats = length-set v.seats h seat ∙ sound.seats;
  heads = sound.heads;
  head = sound.head;
  past = sound.past;
  events = sound.events;
}
