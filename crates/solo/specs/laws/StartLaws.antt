-- A plan of a lone host that is driven to its end, and the host behind it.
use Rattle.std.proofs.Common.{◌≡◌, ◌≢◌, ◌≤◌, ◌<◌, ◌+◌, ◌∙◌, ℕ, None, Option, Some, false, true, true≢false, refl, ap, sym, subst, arith, inl, inr}
use Rattle.std.specs.Prelude.{IfErr, IfSome, OnOk}
use Rattle.std.proofs.lemmas.Bool.{cases_Bool, cases_eq}
use Rattle.vol_layout.specs.declared.geometry.Geometry.{Geometry}
use Rattle.vol_layout.specs.declared.kind.Kind.TheVariants as kinds
use Rattle.vol_layout.specs.declared.kind.Resource.{Resource}
use Rattle.vol_layout.specs.declared.kind.Resource.TheVariants.{File}
use Rattle.image_view.specs.HostKeys.{slot_state_at}
use Rattle.image_view.specs.Images.{Image, block_at}
use Rattle.image_view.specs.Valid.{IsValid}
use Rattle.lock_store.specs.declared.answers.StepNo.{StepNo}
use Rattle.lock_store.specs.declared.answers.StepNo.TheVariants as steps
use Rattle.lock_store.specs.declared.host.HostState.{HostState}
use Rattle.lock_store.specs.Memories as host
use Rattle.lock_store.specs.Memories.{dropped, may_read}
use Rattle.lock_store.specs.Views.{counter_of, host_at, told_of}
use Rattle.disk_locks.specs.Consistent.{Consistent}
use Rattle.disk_locks.specs.Sure.{BothTold}
use Rattle.host_facts.specs.Others.{Others}
use Rattle.host_facts.specs.Views.{WorldView}
use Rattle.host_facts.specs.laws.ToldLaws.{all_told, both_same, map_told}
use Rattle.plan_parts.specs.laws.QuietCallLaws.{valid_now}
use Rattle.recover_plan.specs.LoneSteps.{IsRefused, LoneStepped}
use Rattle.recover_plan.specs.Lones.{LoneAt, keys_left}
use Rattle.recover_plan.specs.Replays.{KeepsLocks, SlotsStay}
use Rattle.recover_plan.specs.declared.lone.Lone.{Lone}
use Rattle.recover_plan.specs.declared.lone.LoneEnd.{LoneEnd}
use Rattle.recover_plan.specs.declared.lone.LoneEnd.TheVariants as ends
use Rattle.shared_disk.specs.State.{State, Told}
use Rattle.solo.specs.Alone.{IsLater}
use Rattle.solo.specs.Starts.{HasStartCause, HoldsNone, IsDriven, IsJoined, IsKeyOpen, IsRecovered, IsTaking, ended_by}
use Rattle.solo.specs.Stops.{refusal_of}
use Rattle.solo.specs.laws.LaterLaws.{later_first, later_given, later_same, later_step, later_then}
use Rattle.solo.specs.laws.NotableLaws.{none_notable}
use Rattle.solo.specs.laws.OwnCalls.{risen}
use Rattle.solo.specs.laws.AloneLaws.{none_before}
use Rattle.solo.specs.laws.KeylessLaws.{state_kept}
use Rattle.solo.specs.laws.ShareLaws.{both_then}

abbrev Stay : ℕ → Geometry → Image → Image → Type 0
Stay of g i j = (y : ℕ) → y < g.hosts → y ≢ of → block_at g j (kinds.Slot y) ≡ block_at g i (kinds.Slot y)

slots_then : (v u w : WorldView) (of : ℕ) → Consistent v.locks → Consistent u.locks → u.locks.geometry ≡ v.locks.geometry
    → SlotsStay v u of → SlotsStay u w of → SlotsStay v w of
slots_then v u w of first here same a b =
    both_then (told_of v.locks) (told_of u.locks) (told_of w.locks) (IsValid v.locks.geometry (counter_of v.locks))
    (IsValid v.locks.geometry (counter_of u.locks)) (Stay of v.locks.geometry) (Stay of v.locks.geometry) (Stay of v.locks.geometry)
    (valid_now v first)
    (subst (λ (g : Geometry). IfSome (told_of u.locks) (λ t. IsValid g (counter_of u.locks) t.image)) same (valid_now u here)) a
    (subst (λ (g : Geometry). BothTold (told_of u.locks) (told_of w.locks) (Stay of g)) same b)
    (λ i j k p q x y h below ne. y h below ne ∙ x h below ne)

locks_then : (v u w : WorldView) → KeepsLocks 0 v u → KeepsLocks 0 u w → KeepsLocks 0 v w
locks_then v u w a b = record { held = λ r. b.held r ∙ a.held r; read = λ r. b.read r ∙ a.read r }

-- before its first step
pub driven_first : (v : WorldView) (of : ℕ) (stage : Lone) → LoneAt v 0 of stage → IsKeyOpen v 0
    → IsDriven (keys_left stage) v v of stage
driven_first v of stage at keyed = record {
  at = at;
  keyed = keyed;
  later = later_first (keys_left stage) v;
  keys = omega arith;
  locks = record { held = λ r. refl; read = λ r. refl };
  slots = both_same (told_of v.locks) (told_of v.locks) _ refl (λ image y below ne. refl);
}

module _ (n : ℕ) (v u w : WorldView) (of : ℕ) (stage : Lone) (first : Consistent v.locks) (here : Consistent u.locks)
    (driven : IsDriven n v u of stage) where
  -- a step
  module _ (later : Lone) (others : Others 0 u w) where
    keys_on : (end : Option LoneEnd) → LoneStepped 0 of u w stage later end
        → counter_of w.locks + keys_left later ≤ counter_of v.locks + n
    keys_on end step = let a = driven.keys in let b = step.keys in omega (arith, a, b)

    since : (end : Option LoneEnd) → LoneStepped 0 of u w stage later end → IsLater n v w
    since end step =
        later_given (n + keys_left stage) n v w (let keys = keys_on end step in omega (arith, keys))
        (later_then n (keys_left stage) v u w driven.later (later_step (keys_left stage) u w step.event step.acts
        others.locks.lasts.geometry step.files step.valid (let keys = step.keys in omega (arith, keys))))

    pub driven_on : LoneStepped 0 of u w stage later None → IsDriven n v w of later
    driven_on step = record {
      at = step.stands;
      keyed = λ some. step.registered;
      later = since None step;
      keys = keys_on None step;
      locks = locks_then v u w driven.locks step.locks;
      slots = slots_then v u w of first here driven.later.geometry driven.slots step.slots;
    }

    module _ (end : LoneEnd) (step : LoneStepped 0 of u w stage later (Some end)) where
      pub ended_later : IsLater n v w
      ended_later = since (Some end) step

      locks_now : KeepsLocks 0 v w
      locks_now = locks_then v u w driven.locks step.locks

      slots_now : SlotsStay v w of
      slots_now = slots_then v u w of first here driven.later.geometry driven.slots step.slots

      joined : (e : LoneEnd) → end ≡ e → LoneStepped 0 of u w stage later (Some e) → OnOk (ended_by e) (IsJoined v w of)
      joined (ends.Joined key) is step = record {
        inside = record { ready = step.stands.0; registered = step.registered };
        locks = locks_now;
        slots = slots_now;
        free = λ other. absurd (other step.stands.2);
      }
      joined ends.Recovered is step = record {
        inside = record { ready = step.stands.0; registered = step.registered };
        locks = locks_now;
        slots = slots_now;
        free = λ other. step.stands.1;
      }
      joined ends.Free is step = record {
        inside = record { ready = step.stands.0; registered = step.registered };
        locks = locks_now;
        slots = slots_now;
        free = λ other. step.stands.1;
      }
      joined (ends.Busy key) is step = tt
      joined ends.NoKeys is step = tt

      pub ended_joined : OnOk (ended_by end) (IsJoined v w of)
      ended_joined = joined end refl step

      caused : (e : LoneEnd) → LoneStepped 0 of u w stage later (Some e) → IfErr (ended_by e) (HasStartCause v.locks.disk w.locks.disk)
      caused (ends.Joined key) step = tt
      caused ends.Recovered step = tt
      caused ends.Free step = tt
      caused (ends.Busy key) step = none_before (told_of v.locks) (told_of w.locks) ended_later.files step.stands
      caused ends.NoKeys step = step.stands.1

      pub ended_cause : IfErr (ended_by end) (HasStartCause v.locks.disk w.locks.disk)
      ended_cause = caused end step

  -- a step that was refused
  module _ (why : StepNo) (refused : IsRefused 0 u w why) where
    pub never_fenced : why ≢ steps.Fenced
    never_fenced fenced = (refused.shut fenced).1 (driven.keyed (refused.shut fenced).0)

    pub refused_later : IsLater n v w
    refused_later =
        later_given (n + 0) n v w
        (let counter = ap (λ (s : State). s.counter) refused.state in let given = driven.later.given in omega (arith, counter, given))
        (later_then n 0 v u w driven.later (later_same 0 u w refused.state refused.geometry refused.acts.later))

    cause_of : (no : StepNo) → why ≡ no → IsRefused 0 u w no → HasStartCause v.locks.disk w.locks.disk (refusal_of no)
    cause_of steps.Fenced is refused' = absurd (never_fenced is)
    cause_of steps.Failed is refused' =
        risen v.locks.disk.faults u.locks.disk.faults w.locks.disk.faults driven.later.faults (refused'.acts.failed refused'.cause)
    cause_of (steps.Bad place) is refused' = none_before (told_of v.locks) (told_of u.locks) driven.later.files refused'.cause.0
    cause_of steps.NoMemory is refused' = tt

    pub refused_cause : HasStartCause v.locks.disk w.locks.disk (refusal_of why)
    refused_cause = cause_of why refl refused

-- a host without a key has none that is not registered
pub dropped_open : (v : WorldView) → host_at v.locks 0 ≡ dropped → IsKeyOpen v 0
unfolding dropped
dropped_open v out some = absurd (some (ap host.key_of out))

-- it holds nothing
none_either : (m : HostState) (r : Resource) → may_read m r ≡ false → (host.holds m r ≡ false) × (host.reads m r ≡ false)
none_either m r out = elim (cases_Bool (host.holds m r)) [
  | inl held ↦ let may : may_read m r ≡ true = rw held refl in absurd (true≢false (sym may ∙ out))
  | inr none ↦ (none, rw none at out)
]

pub dropped_none : (v : WorldView) → Consistent v.locks → host_at v.locks 0 ≡ dropped → HoldsNone v
unfolding dropped
dropped_none v is out r = none_either (host_at v.locks 0) r ((is.memories 0).out (ap (λ (m : HostState). m.joined) out) r)

-- what the host is once it is in
pub recovered_first : (v w : WorldView) (n : ℕ) → n ≤ 1 → HoldsNone v → IsLater 1 v w → IsJoined v w 0 → IsRecovered v w n
recovered_first v w n few none later done = record {
  later = later;
  inside = done.inside;
  none = λ r. (done.locks.held r ∙ (none r).0, done.locks.read r ∙ (none r).1);
  free = all_told (told_of w.locks) _ (λ t y other below small. absurd (other (omega (arith, below, few))));
}

-- and once one host more is recovered
pub recovered_on : (v u w : WorldView) (n : ℕ) → n ≢ 0 → IsRecovered v u n → IsLater 0 u w
    → IsJoined u w n → IsRecovered v w (n + 1)
recovered_on v u w n some before later done = record {
  later = later_then 1 0 v u w before.later later;
  inside = done.inside;
  none = λ r. (done.locks.held r ∙ (before.none r).0, done.locks.read r ∙ (before.none r).1);
  free = free_on (told_of u.locks) (told_of w.locks) w.locks.geometry later.geometry before.free done.slots (done.free some);
}
  where
    free_on : (old new : Option Told) (g : Geometry) → g ≡ u.locks.geometry
        → IfSome old (λ t. (y : ℕ) → y ≢ 0 → y < n → y < u.locks.geometry.hosts → slot_state_at u.locks.geometry t.image y ≡ 0)
        → BothTold old new (λ i j. (y : ℕ) → y < u.locks.geometry.hosts → y ≢ n
        → block_at u.locks.geometry j (kinds.Slot y) ≡ block_at u.locks.geometry i (kinds.Slot y))
        → IfSome new (λ t. slot_state_at g t.image n ≡ 0)
        → IfSome new (λ t. (y : ℕ) → y ≢ 0 → y < n + 1 → y < g.hosts → slot_state_at g t.image y ≡ 0)
    free_on None None g same was stay now = tt
    free_on None (Some t) g same was stay now = absurd stay
    free_on (Some t) None g same was stay now = tt
    free_on (Some t) (Some s) g same was stay now = λ y other below small. elim (cases_eq y n) [
      | inl last ↦ ap (slot_state_at g s.image) last ∙ now
      | inr before' ↦
          let small' = subst (λ (x : Geometry). y < x.hosts) same small in
          subst (λ (x : Geometry). slot_state_at x s.image y ≡ 0) (sym same)
          (state_kept u.locks.geometry t.image s.image y (stay y small' before') ∙ was y other (omega (arith, below, before')) small')
    ]

-- once all of them are recovered
pub taking_first : (v w : WorldView) (n : ℕ) → Consistent w.locks → w.locks.geometry.hosts ≤ n → IsRecovered v w n → IsTaking w 0
taking_first v w n is all before = record {
  inside = before.inside;
  notes = none_notable w is before.inside.ready.joined before.none;
  free = map_told (told_of w.locks) _ _ before.free (λ t free y other below small. free y other (omega (arith, below, all)) small);
  held = λ e below. absurd (omega (arith, below));
  out = λ e from below. (before.none (File e)).0;
}
