-- What a turn of a `recover` owes: nothing, where its call is granted and shows no block, and the host that it recovers was seen
-- three times.
use Rattle.std.proofs.Common.{◌≡◌, ◌≤◌, ℕ, true, false, true≢false, List, Option, Some, sym, ◌∙◌, subst, arith}
use Rattle.std.specs.Prelude.{IfSome}
use Rattle.vol_base.specs.declared.answer.Answer.{Answer}
use Rattle.vol_base.specs.declared.block.Key.{Key}
use Rattle.vol_base.specs.declared.command.Command.{Command}
use Rattle.vol_base.specs.declared.command.Command.TheVariants as commands
use Rattle.shared_disk.specs.declared.answers.DiskNo.{DiskNo}
use Rattle.watch.specs.Looks.{count_of, look_at}
use Rattle.host_runs.specs.Causes.{IsCause}
use Rattle.host_runs.specs.DeviceCalls.{HasShown, IsRefused}
use Rattle.host_runs.specs.Memories.{AreFileLocks, memory_after}
use Rattle.host_runs.specs.Moments.{Moment}
use Rattle.host_runs.specs.Steps.{IsEnding}

-- a `recover` of a joined host, with a call that is granted and shows no block, and with no key to answer with `busy`
pub record IsRecovering (m : Moment) (of : ℕ) : Type 0 where
  pub command : m.command ≡ commands.Recover of
  pub joined : m.joined ≡ true
  pub grants : (cause : DiskNo) → IsRefused cause m.event → ⊥
  pub shows : (place : ℕ) (block : List ℕ) → HasShown place block m.event → ⊥
  pub thrice : 3 ≤ count_of (look_at m.old.watch of)
  pub untried : (key : Key) → m.now.tries.shown ≡ Some key.0 → ⊥

same_target : (a b : ℕ) → commands.Recover a ≡ commands.Recover b → a ≡ b
same_target a b e = cc

not_few : (m : Moment) (of other : ℕ) → IsRecovering m of → m.command ≡ commands.Recover other → 3 ≤ count_of (look_at m.old.watch other)
not_few m of other is at = subst (λ (h : ℕ). 3 ≤ count_of (look_at m.old.watch h)) (same_target of other (sym is.command ∙ at)) is.thrice

pub recover_ending : (m : Moment) (of : ℕ) (ended : Option Answer) → IsRecovering m of → IfSome ended (IsCause m)
    → IfSome ended (λ answer. AreFileLocks m.geometry (memory_after answer m.command m.now.memory).holds)
    → IfSome ended (λ answer. (memory_after answer m.command m.now.memory).left ≡ false)
    → IsEnding m ended
recover_ending m of ended is cause rests stays =
    let no_other : (command : Command) → (commands.Recover of ≡ command → ⊥) → m.command ≡ command → ⊥ = λ command other at. other (sym is.command ∙ at) in
    record {
      cause = cause;
      at_once = record {
        fenced = λ r. absurd (is.grants _ r);
        failed = λ r. absurd (is.grants _ r);
        no_keys = λ r. absurd (is.grants _ r);
        up = λ at joined. absurd (no_other commands.Join (λ e. cc) at);
        down = λ other out. absurd (true≢false (sym is.joined ∙ out));
        refused = λ place n seen at joined none. absurd (no_other (commands.Scribble place n seen) (λ e. cc) at);
      };
      at_end = record {
        busy = λ key shown. absurd (is.untried key shown);
        full = λ f i n at met. absurd (no_other (commands.Write f i n) (λ e. cc) at);
      };
      by_slot = record {
        joined = λ key at entered. absurd (no_other commands.Join (λ e. cc) at);
        unseen = λ host at shown. absurd (no_other (commands.Look host) (λ e. cc) at);
        seen = λ host n at shown. absurd (no_other (commands.Look host) (λ e. cc) at);
        few = λ host at joined count. let thrice = not_few m of host is at in absurd (omega (arith, count, thrice));
        live = λ host at found. let shown = found.found.found in absurd (is.shows shown.1.0 shown.0 shown.1.2);
        free = λ host at found. let shown = found.found in absurd (is.shows shown.1.0 shown.0 shown.1.2);
      };
      by_log = record {
        nothing = λ at joined none. absurd (no_other commands.Log (λ e. cc) at);
        full = λ at full. absurd (no_other commands.Log (λ e. cc) at);
      };
      facts = record {
        rests = rests;
        stays = stays;
        last = λ own at done. absurd (no_other commands.Leave (λ e. cc) at);
        left = λ at e. absurd (no_other commands.Leave (λ e. cc) at);
      };
    }
