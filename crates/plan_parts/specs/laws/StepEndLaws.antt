-- A step by which a file is closed, and one that cuts its command.
use Rattle.std.proofs.Common.{◌≡◌, ◌≢◌, ℕ, true, false, None, Option, Some, refl, ap, sym, subst, ◌∙◌, inl, inr}
use Rattle.std.specs.Prelude.{Contains}
use Rattle.vol_base.specs.declared.answer.Answer.TheVariants as answers
use Rattle.vol_base.specs.declared.answer.CutBy.{CutBy}
use Rattle.vol_base.specs.declared.answer.Next.TheVariants as nexts
use Rattle.vol_base.specs.declared.command.Command.{Command}
use Rattle.vol_base.specs.declared.command.Command.TheVariants as commands
use Rattle.vol_layout.specs.declared.geometry.Geometry.{Geometry}
use Rattle.vol_layout.specs.declared.kind.Kind.TheVariants as kinds
use Rattle.vol_layout.specs.declared.kind.Resource.TheVariants as resources
use Rattle.vol_layout.specs.laws.KindLaws.{kind_at-backs}
use Rattle.shared_disk.specs.Events.{Event}
use Rattle.shared_disk.specs.Seen.{DiskSeen}
use Rattle.lock_store.specs.declared.host.HostState.{HostState}
use Rattle.lock_store.specs.declared.answers.StepNo.{StepNo}
use Rattle.lock_store.specs.declared.answers.StepNo.TheVariants as steps
use Rattle.lock_store.specs.Memories as host
use Rattle.lock_store.specs.Memories.{dropped}
use Rattle.lock_store.specs.Views.{host_at, key_at}
use Rattle.disk_locks.specs.Consistent.{Consistent}
use Rattle.host_facts.specs.Views.{WorldView}
use Rattle.host_facts.specs.Wrote.{HasValidImage}
use Rattle.host_notes.specs.CutTurns.{ComesToCall, dropped_at}
use Rattle.host_notes.specs.FileTurns.{FileTurn, IsOnFile, IsResting, at_answer}
use Rattle.host_notes.specs.Owes.{Owes, plan_moment}
use Rattle.host_notes.specs.Remembered.{IsRemembered}
use Rattle.host_notes.specs.laws.CutLaws.{owes_cut}
use Rattle.host_notes.specs.laws.OwesLaws.{owes_closed}
use Rattle.host_notes.specs.laws.QuietMemories.{remembered_drop}
use Rattle.host_runs.specs.Memories.{HasFile, Memory, no_memory}
use Rattle.host_notes.specs.laws.FileEndings.{file_joined}
use Rattle.host_runs.specs.Notes.{Notes}
use Rattle.plan_parts.specs.Cuts.{IsCutBy, cut_by}
use Rattle.plan_parts.specs.QuietCalls.{Noted, QuietCall}
use Rattle.plan_parts.specs.Steps.{IsAtRest, IsReady, OwesStep}
use Rattle.plan_parts.specs.declared.outcome.Outcome.{Outcome}
use Rattle.plan_parts.specs.declared.outcome.Outcome.TheVariants as outcomes
use Rattle.plan_parts.specs.laws.NoCallLaws.{others_same, uncalled_turn}
use Rattle.plan_parts.specs.laws.StepLaws.{ready_rests}
use Rattle.plan_parts.specs.laws.TurnLaws.{cut_turn, quiet_turn}
use Rattle.std.specs.Option.{option_or}
use Rattle.vol_base.specs.declared.plain.PlainReply.{PlainReply}

-- a file that the host does not hold, or does not read, is in none of its notes
pub not_held_noted : (g : Geometry) (memory : Memory) (m : HostState) (f : ℕ) → IsRemembered g memory m
    → host.holds m (resources.File f) ≡ false → HasFile g memory.holds f → ⊥
not_held_noted g memory m f is none (place, kind, has) =
    let backs = kind_at-backs g place (kinds.Lock (resources.File f)) kind in
    let held = is.holds (resources.File f) backs.0 (subst (Contains memory.holds) backs.1 has) in
    let both : true ≡ false = sym held ∙ none in absurd cc

pub not_read_noted : (g : Geometry) (memory : Memory) (m : HostState) (f : ℕ) → IsRemembered g memory m
    → host.reads m (resources.File f) ≡ false → HasFile g memory.reads f → ⊥
not_read_noted g memory m f is none (place, kind, has) =
    let backs = kind_at-backs g place (kinds.Lock (resources.File f)) kind in
    let held = is.reads (resources.File f) backs.0 (subst (Contains memory.reads) backs.1 has) in
    let both : true ≡ false = sym held ∙ none in absurd cc

-- a command on a file comes to a call
file_comes : (g : Geometry) (command : Command) (n : Notes) → IsOnFile command → ComesToCall g command n
file_comes g (commands.Scribble place k seen) n on = absurd cc
file_comes g (commands.Recover of) n on = absurd cc
file_comes g commands.Log n on = absurd cc
file_comes g (commands.Die calls) n on = absurd cc
file_comes g command n on = tt

-- a step that was refused, but for want of memory, cuts its command: the host is dropped
pub step_cut : (command : Command) (h : ℕ) (v w : WorldView) (why : StepNo) (by : CutBy) (was : Outcome) (Before : Notes → Type 0)
    → cut_by why ≡ Some by → IsOnFile command → key_at v.locks h ≢ 0 → HasValidImage v
    → ((n : Notes) → Before n → Noted command h v was n) → IsCutBy command h v w why Before
    → OwesStep command h v w (record { placed = None; called = true; next = nexts.Answered (answers.Cut by) }) Before (IsAtRest w h)
step_cut command h v w why by was Before is on some valid before (e, cut) = record {
  made = Some e;
  called = refl;
  others = cut.others;
  quiet = λ n was_so. (before n was_so).wants;
  owes = λ n was_so.
      let gone = cut.memory (heard why is) in (
        dropped_at (plan_moment v.locks.geometry h command v.locks.disk w.locks.disk (Some e) None n),
        owes_cut v.locks.geometry h command v.locks.disk w.locks.disk e n by
            (cut_turn command h v w e n (before n was_so).remembered some why by Before was_so is (file_joined command on)
            (file_comes v.locks.geometry command n on) valid cut),
        record {
          remembered = subst (λ (m : HostState). IsRemembered w.locks.geometry no_memory m) (sym gone) (remembered_drop w.locks.geometry);
          rests = inr gone;
          between = refl;
        },
      );
}
  where
    heard : (why : StepNo) → cut_by why ≡ Some by → why ≢ steps.NoMemory
    heard steps.NoMemory is none = absurd cc
    heard other is none = let both : cut_by steps.NoMemory ≡ Some by = subst (λ (n : StepNo). cut_by n ≡ Some by) none is in absurd cc

-- a `close` that is fine, by its command
closed_turn : (g : Geometry) (h : ℕ) (old new : DiskSeen) (made : Option Event) (n : Notes) (command : Command) (f : ℕ) → command ≡ commands.Close f
    → FileTurn g h command old new made None n
    → (HasFile g (plan_moment g h command old new made None n).now.memory.holds f → ⊥)
    → (HasFile g (plan_moment g h command old new made None n).now.memory.reads f → ⊥)
    → (plan_moment g h command old new made None n).now.placed ≡ None
    → (plan_moment g h command old new made None n).now.tries.shown ≡ None → IsResting (plan_moment g h command old new made None n)
    → Owes g h command old new made None (Some answers.Fine) n
    (at_answer (plan_moment g h command old new made None n) n.pending)
closed_turn g h old new made n command f is =
    subst (λ (c : Command). FileTurn g h c old new made None n
    → (HasFile g (plan_moment g h c old new made None n).now.memory.holds f → ⊥)
    → (HasFile g (plan_moment g h c old new made None n).now.memory.reads f → ⊥)
    → (plan_moment g h c old new made None n).now.placed ≡ None
    → (plan_moment g h c old new made None n).now.tries.shown ≡ None → IsResting (plan_moment g h c old new made None n)
    → Owes g h c old new made None (Some answers.Fine) n (at_answer (plan_moment g h c old new made None n) n.pending)) (sym is)
    (owes_closed g h old new made None n f)

-- a call by which a host has a file no more, neither to write nor to read, closes the file
pub step_closes : (command : Command) (h f : ℕ) (v w : WorldView) (e : Event) (Before : Notes → Type 0) → command ≡ commands.Close f
    → key_at v.locks h ≢ 0 → ((n : Notes) → Before n → Noted command h v outcomes.Open n)
    → QuietCall command h v w e Before (Noted command h w outcomes.Open) → Consistent w.locks → IsReady w h
    → host.holds (host_at w.locks h) (resources.File f) ≡ false
    → ((n : Notes) → Before n → host.reads (host_at w.locks h) (resources.File f) ≡ false)
    → OwesStep command h v w (record { placed = None; called = true; next = nexts.Answered answers.Fine }) Before (IsAtRest w h)
step_closes command h f v w e Before is some before quiet c ready unheld unread = record {
  made = Some e;
  called = refl;
  others = quiet.others;
  quiet = λ n was. (before n was).wants;
  owes = λ n was.
      let m = plan_moment v.locks.geometry h command v.locks.disk w.locks.disk (Some e) None n in
      let behind = quiet.noted n was in
      let there = subst (λ (g : Geometry). IsRemembered g m.now.memory (host_at w.locks h)) quiet.geometry behind.remembered in (
        at_answer m n.pending,
        closed_turn v.locks.geometry h v.locks.disk w.locks.disk (Some e) n command f is
            (quiet_turn command h v w e n (before n was).remembered some Before (Noted command h w outcomes.Open) was
            (subst IsOnFile (sym is) refl) quiet)
            (not_held_noted v.locks.geometry m.now.memory (host_at w.locks h) f there unheld)
            (not_read_noted v.locks.geometry m.now.memory (host_at w.locks h) f there (unread n was))
            (ap (λ (o : Option PlainReply). option_or o None) behind.placed_is) behind.shown_is
            (ready_rests w h m behind.remembered (sym quiet.geometry) c ready),
        record { remembered = behind.remembered; rests = inl ready; between = refl },
      );
}

-- a file that a host has neither to write nor to read is closed without a call
pub step_closed : (command : Command) (h f : ℕ) (v : WorldView) (Before : Notes → Type 0) → command ≡ commands.Close f
    → ((n : Notes) → Before n → Noted command h v outcomes.Open n) → Consistent v.locks → IsReady v h
    → host.holds (host_at v.locks h) (resources.File f) ≡ false → host.reads (host_at v.locks h) (resources.File f) ≡ false
    → OwesStep command h v v (record { placed = None; called = false; next = nexts.Answered answers.Fine }) Before (IsAtRest v h)
step_closed command h f v Before is before c ready unheld unread = record {
  made = None;
  called = refl;
  others = others_same v h;
  quiet = λ n was. (before n was).wants;
  owes = λ n was.
      let m = plan_moment v.locks.geometry h command v.locks.disk v.locks.disk None None n in
      let there = (before n was).remembered in (
        at_answer m n.pending,
        closed_turn v.locks.geometry h v.locks.disk v.locks.disk None n command f is
            (uncalled_turn command h v n c (subst IsOnFile (sym is) refl))
            (not_held_noted v.locks.geometry n.memory (host_at v.locks h) f there unheld)
            (not_read_noted v.locks.geometry n.memory (host_at v.locks h) f there unread)
            (ap (λ (o : Option PlainReply). option_or o None) (before n was).placed_is) (before n was).shown_is
            (ready_rests v h m there refl c ready),
        record { remembered = there; rests = inl ready; between = refl },
      );
}
