-- A host that is alone, over its own reads, and where a step was refused.
use Rattle.std.proofs.Common.{◌≡◌, ◌≢◌, ◌<◌, ℕ, [], true, refl, ap, sym, subst, ◌∙◌, arith, None, Option, Some}
use Rattle.std.specs.Prelude.{Contains}
use Rattle.vol_base.specs.declared.command.Command.TheVariants.{Merge}
use Rattle.vol_layout.specs.declared.geometry.Geometry.{Geometry}
use Rattle.vol_layout.specs.declared.kind.Resource.TheVariants.{File}
use Rattle.call_effects.specs.Places.{KeepsFiles}
use Rattle.disk_locks.specs.Consistent.{Consistent}
use Rattle.disk_locks.specs.Sure.{BothTold}
use Rattle.host_facts.specs.Facts.Fact.{RecordIs}
use Rattle.host_facts.specs.Looks.{Looks}
use Rattle.host_facts.specs.Views.{WorldView}
use Rattle.host_facts.specs.laws.FactLaws.{joined_key}
use Rattle.host_notes.specs.Remembered.{IsRemembered}
use Rattle.host_runs.specs.DeviceCalls.{OnImage}
use Rattle.host_runs.specs.Memories.{Memory}
use Rattle.host_runs.specs.Notes.{Notes, at_rest}
use Rattle.lock_store.specs.declared.answers.StepNo.{StepNo}
use Rattle.lock_store.specs.declared.answers.StepNo.TheVariants as steps
use Rattle.lock_store.specs.declared.host.HostState.{HostState}
use Rattle.lock_store.specs.Memories.{holds, key_of}
use Rattle.lock_store.specs.Views.{host_at, key_at, keys_of}
use Rattle.plan_parts.specs.Cuts.{CutCall, IsCut}
use Rattle.plan_parts.specs.Steps.{IsReady}
use Rattle.plan_parts.specs.laws.TakenLaws.{taking_same}
use Rattle.shared_disk.specs.Events.{Event}
use Rattle.shared_disk.specs.State.{State, Told}
use Rattle.image_view.specs.HostKeys.{slot_state_at}
use Rattle.watch.specs.Looks.{nothing}
use Rattle.file_plans.specs.Bases.{IsCached}
use Rattle.held_cache.specs.Kept.{Cache, ForgetsHost, IsFileTable}
use Rattle.solo.specs.Alone.{AreFree, IsAlone, IsNotable, LeavesDevice, KeepsNothing}
use Rattle.solo.specs.Stops.{IsCause, IsCutOff}
use Rattle.solo.specs.laws.OwnCalls.{count_one, merge_open}

-- notes of which nothing is known but the memory
abbrev pub resting_notes : Memory → Notes
resting_notes memory = at_rest memory 0 [] nothing

pub alone_key : (v : WorldView) (h : ℕ) → Consistent v.locks → (host_at v.locks h).joined ≡ true → key_at v.locks h ≢ 0
alone_key v h c joined = joined_key v.locks.geometry.hosts _ h (host_at v.locks h) (c.memories h) joined

-- it is one of the volume
pub alone_below : (v : WorldView) → Consistent v.locks → IsAlone v → 0 < v.locks.geometry.hosts
alone_below v c alone = ((c.memories 0).named (alone_key v 0 c alone.ready.joined)).0

-- a call that wrote nothing leaves it so
pub ready_looks : (v w : WorldView) (h : ℕ) → Looks h v w → IsReady v h → IsReady w h
ready_looks v w h looks ready = record {
  joined = ap (λ (m : HostState). m.joined) looks.memory ∙ ready.joined;
  empty = looks.facts (RecordIs []) ready.empty;
  taking = taking_same v w h [] looks.geometry looks.memory ready.taking;
}

pub notable_looks : (v w : WorldView) (h : ℕ) → Looks h v w → IsNotable v h → IsNotable w h
notable_looks v w h looks notable = (
  notable.0,
  subst (λ (g : Geometry). IsRemembered g notable.0 (host_at w.locks h)) (sym looks.geometry)
      (subst (IsRemembered v.locks.geometry notable.0) (sym looks.memory) notable.1),
)

pub free_looks : (v w : WorldView) → Looks 0 v w → AreFree v v.locks.geometry.hosts → AreFree w w.locks.geometry.hosts
free_looks v w looks free =
    subst (λ (g : Geometry). OnImage w.locks.disk.state (λ image. (y : ℕ) → y ≢ 0 → y < g.hosts → y < g.hosts → slot_state_at g image y ≡ 0))
    (sym looks.geometry)
    (subst (λ (s : State). OnImage s (λ image. (y : ℕ) → y ≢ 0 → y < v.locks.geometry.hosts → y < v.locks.geometry.hosts
    → slot_state_at v.locks.geometry image y ≡ 0)) (sym looks.state) free)

pub alone_looks : (v w : WorldView) → Looks 0 v w → IsAlone v → IsAlone w
alone_looks v w looks alone = record {
  ready = ready_looks v w 0 looks alone.ready;
  registered = subst (λ (m : HostState). Contains (keys_of w.locks) (key_of m)) (sym looks.memory)
      (subst (λ (s : State). Contains s.keys (key_at v.locks 0)) (sym looks.state) looks.registered);
  files = λ f below.
      ap (λ (m : HostState). holds m (File f)) looks.memory
      ∙ alone.files f (subst (λ (g : Geometry). f < g.files) looks.geometry below);
  free = free_looks v w looks alone.free;
  notes = notable_looks v w 0 looks alone.notes;
}

-- what is untouched over two stretches is so over both
pub untouched_then : (u v w : WorldView) → LeavesDevice u v → LeavesDevice v w → LeavesDevice u w
untouched_then u v w first last = record {
  state = last.state ∙ first.state;
  geometry = last.geometry ∙ first.geometry;
  later = let a = first.later in let b = last.later in omega (arith, a, b);
}

-- where no file changes, a device tells its content before and behind, or at neither time
pub none_before : (told now : Option Told) → BothTold told now KeepsFiles → now ≡ None → told ≡ None
none_before None now stay none = refl
none_before (Some t) None stay none = absurd stay
none_before (Some t) (Some u) stay none = let bad : Some u ≡ None = none in absurd cc

pub none_behind : (told now : Option Told) → BothTold told now KeepsFiles → told ≡ None → now ≡ None
none_behind None None stay none = refl
none_behind None (Some u) stay none = absurd stay
none_behind (Some t) now stay none = let bad : Some t ≡ None = none in absurd cc

-- a step that was refused has its cause
module _ (v w : WorldView) (h : ℕ) (is : Consistent v.locks) (joined : (host_at v.locks h).joined ≡ true) (notable : IsNotable v h)
    (registered : Contains (keys_of v.locks) (key_at v.locks h)) where
  cause_of : (why : StepNo) (e : Event) → CutCall Merge h v w e why (λ n. Unit {0}) → IsCause v w why
  cause_of steps.Fenced e cut =
      merge_open h v w e (resting_notes notable.0) notable.1 (alone_key v h is joined) (λ n. Unit {0}) tt cut.allowed cut.acts registered
      cut.cause
  cause_of steps.Failed e cut = cut.acts.failed cut.cause
  cause_of (steps.Bad place) e cut = cut.cause.0
  cause_of steps.NoMemory e cut = tt

  pub cut_off : (why : StepNo) → IsCut h v w why → IsCutOff v w why
  cut_off why cut =
      let (e, call) = cut Merge in record {
        untouched = record { state = call.state; geometry = call.geometry; later = call.acts.later };
        few = count_one v.locks.disk.calls w.locks.disk.calls call.acts.counted;
        cause = cause_of why e call;
      }

-- what keeps nothing is right in any world of the volume
pub nothing_cached : (v w : WorldView) (c : Cache) → w.locks.geometry ≡ v.locks.geometry → KeepsNothing v.locks.geometry c → IsCached w c 0
nothing_cached v w c same nothing = record {
  volume = nothing.volume ∙ sym same;
  known = λ t p there kept.
      let both : None ≡ Some p = sym (nothing.none t (subst (λ (g : Geometry). IsFileTable g t) same there)) ∙ kept in absurd cc;
}

pub forgets_nothing : (v : WorldView) (c d : Cache) → IsCached v c 0 → ForgetsHost c d 0 → KeepsNothing v.locks.geometry d
forgets_nothing v c d cached forgets = record {
  volume = forgets.volume ∙ cached.volume;
  none = λ t there. forgets.forgotten t (subst (λ (g : Geometry). IsFileTable g t) (sym cached.volume) there);
}
