-- What is left to show of a turn in which a command is cut.
use Rattle.std.proofs.Common.{◌≡◌, ◌≢◌, ℕ, true, false, List, None, Some, ap, arith, refl, subst, sym, ◌∙◌}
use Rattle.vol_base.specs.declared.answer.Answer.TheVariants.{Cut}
use Rattle.vol_base.specs.declared.answer.CutBy.{CutBy}
use Rattle.vol_base.specs.declared.answer.CutBy.TheVariants as cuts
use Rattle.vol_base.specs.declared.command.Command.{Command}
use Rattle.vol_base.specs.declared.command.Command.TheVariants as commands
use Rattle.vol_base.specs.PlainCalls.{plain_call_of}
use Rattle.vol_layout.specs.declared.geometry.Geometry.{Geometry}
use Rattle.shared_disk.specs.Events.{Acts, Call, Done, Event, Reads, Refuses, Reply, Shows, Tests}
use Rattle.shared_disk.specs.Seen.{DiskSeen}
use Rattle.shared_disk.specs.declared.answers.DiskNo.TheVariants as refusals
use Rattle.histories.specs.Answers.{MakesCalls}
use Rattle.host_runs.specs.Causes.{IsCutBy}
use Rattle.host_runs.specs.DeviceCalls.{shown_at}
use Rattle.host_runs.specs.Moments.{Moment}
use Rattle.host_runs.specs.Notes.{Notes}
use Rattle.host_runs.specs.Owed.{OwesAtEnd, OwesAtOnce, OwesByLog, OwesBySlot}
use Rattle.host_runs.specs.TurnFacts.{AreAtEnd}
use Rattle.host_runs.specs.lemmas.OrderlyPlaced.{some_same}
use Rattle.host_notes.specs.CutTurns.{ComesToCall, CutTurn, dropped_at}
use Rattle.host_notes.specs.Owes.{Owes, joined_in, plan_moment}
use Rattle.host_notes.specs.laws.TurnLaws.{files_same, no_place, refused_same, shown_same, valid_same}

-- the reply by which a command is cut
IsCutReply : CutBy → Reply → Type 0
IsCutReply cuts.Fenced reply = reply ≡ Refuses refusals.Fenced
IsCutReply cuts.Fault reply = reply ≡ Refuses refusals.Failed
IsCutReply cuts.Died reply = ⊥
IsCutReply (cuts.Bad place) reply = (block : List ℕ) × (reply ≡ Shows block)

shown_by : (call : Call) (reply : Reply) (place : ℕ) (block : List ℕ) → shown_at call reply ≡ Some (place, block) → reply ≡ Shows block
shown_by (Reads at) (Shows there) place block is = ap (λ (x : ℕ × List ℕ). Shows x.1) (some_same (at, there) (place, block) is)
shown_by (Tests at old new) (Shows there) place block is = ap (λ (x : ℕ × List ℕ). Shows x.1) (some_same (at, there) (place, block) is)
shown_by call reply place block is = absurd cc

-- by such a reply the device stays, and it is no other one
cut_stays : (by : CutBy) (e : Event) (old new : DiskSeen) → IsCutReply by e.reply → Acts e old new → new.state ≡ old.state
unfolding IsCutReply
cut_stays cuts.Fenced e old new is acts = refused_same e old new refusals.Fenced acts is
cut_stays cuts.Fault e old new is acts = refused_same e old new refusals.Failed acts is
cut_stays cuts.Died e old new is acts = absurd is
cut_stays (cuts.Bad place) e old new is acts = shown_same e old new is.0 acts is.1

cut_fenced : (by : CutBy) (reply : Reply) → IsCutReply by reply → reply ≡ Refuses refusals.Fenced → by ≡ cuts.Fenced
unfolding IsCutReply
cut_fenced cuts.Fenced reply is refused = refl
cut_fenced cuts.Fault reply is refused = absurd cc
cut_fenced cuts.Died reply is refused = absurd is
cut_fenced (cuts.Bad place) reply is refused = let shown = is.1 in absurd cc

cut_failed : (by : CutBy) (reply : Reply) → IsCutReply by reply → reply ≡ Refuses refusals.Failed → by ≡ cuts.Fault
unfolding IsCutReply
cut_failed cuts.Fenced reply is refused = absurd cc
cut_failed cuts.Fault reply is refused = refl
cut_failed cuts.Died reply is refused = absurd is
cut_failed (cuts.Bad place) reply is refused = let shown = is.1 in absurd cc

cut_no_keys : (by : CutBy) (reply : Reply) → IsCutReply by reply → reply ≡ Refuses refusals.NoKeys → ⊥
unfolding IsCutReply
cut_no_keys cuts.Fenced reply is refused = cc
cut_no_keys cuts.Fault reply is refused = cc
cut_no_keys cuts.Died reply is refused = is
cut_no_keys (cuts.Bad place) reply is refused = let shown = is.1 in cc

cut_not_done : (by : CutBy) (reply : Reply) → IsCutReply by reply → reply ≡ Done → ⊥
unfolding IsCutReply
cut_not_done cuts.Fenced reply is done = cc
cut_not_done cuts.Fault reply is done = cc
cut_not_done cuts.Died reply is done = is
cut_not_done (cuts.Bad place) reply is done = let shown = is.1 in cc

-- a command that comes to a call makes calls; and the host of each command but a `join` is joined
makes_calls : (g : Geometry) (command : Command) (n : Notes) → ComesToCall g command n → MakesCalls command
makes_calls g (commands.Die calls) n comes = comes
makes_calls g command n comes = tt

joined_but : (command : Command) → command ≢ commands.Join → joined_in command ≡ true
joined_but commands.Join other = absurd (other refl)
joined_but command other = refl

module _ (g : Geometry) (h : ℕ) (command : Command) (old new : DiskSeen) (e : Event) (n : Notes) (by : CutBy)
    (turn : CutTurn g h command old new e n by) where
  abbrev moment : Moment
  moment = plan_moment g h command old new (Some e) None n

  replied : (given : CutBy) → IsCutBy moment given → IsCutReply given e.reply
  unfolding IsCutReply
  replied cuts.Fenced is = is
  replied cuts.Fault is = is
  replied cuts.Died is = absurd is
  replied (cuts.Bad place) is = (is.1, shown_by e.call e.reply place is.1 is.2)

  comes_as : (other : Command) → command ≡ other → ComesToCall g other n
  comes_as other is = subst (λ (c : Command). ComesToCall g c n) is turn.comes

  at_once : OwesAtOnce moment (Some (Cut by))
  at_once = record {
    fenced = λ is. ap (λ (given : CutBy). Some (Cut given)) (cut_fenced by e.reply (replied by turn.cut) is);
    failed = λ is. ap (λ (given : CutBy). Some (Cut given)) (cut_failed by e.reply (replied by turn.cut) is);
    no_keys = λ is. absurd (cut_no_keys by e.reply (replied by turn.cut) is);
    up = λ is here. let both : false ≡ true = ap joined_in (sym is) ∙ here in absurd cc;
    down = λ other down. let both : true ≡ false = sym (joined_but command other) ∙ down in absurd cc;
    refused = λ place k seen is here hint.
        let both : true ≡ false = sym (comes_as (commands.Scribble place k seen) is) ∙ hint in absurd cc;
  }

  -- what is owed by tries, slots and logs asks nothing of a cut, but that the command came to its call
  at_end : OwesAtEnd moment (Some (Cut by))
  at_end = record { busy = λ key shown no_cut. absurd no_cut; full = λ f i k is met no_cut. absurd no_cut }

  by_slot : OwesBySlot moment (Some (Cut by))
  by_slot = record {
    joined = λ key is entered no_cut. absurd no_cut;
    unseen = λ of is shown no_cut. absurd no_cut;
    seen = λ of k is seen no_cut. absurd no_cut;
    few = λ of is here few. let thrice = comes_as (commands.Recover of) is in absurd (omega (arith, thrice, few));
    live = λ of is live no_cut. absurd no_cut;
    free = λ of is free no_cut. absurd no_cut;
  }

  by_log : OwesByLog moment (Some (Cut by))
  by_log = record {
    nothing = λ is here none. absurd (comes_as commands.Log is none);
    full = λ is full no_cut. absurd no_cut;
  }

  -- the host holds nothing any more
  facts : AreAtEnd moment (Some (Cut by))
  facts = record {
    rests = λ place has. absurd (omega (arith, has.1));
    stays = refl;
    last = λ own is done. absurd (cut_not_done by e.reply (replied by turn.cut) done.1);
    left = λ is ended. absurd cc;
  }

  -- a command that is cut owes no more than its cause, and that it came to its call
  pub owes_cut : Owes g h command old new (Some e) None (Some (Cut by)) n (dropped_at moment)
  owes_cut =
      let stays = cut_stays by e old new (replied by turn.cut) turn.acts.0 in
      record {
        acts = turn.acts;
        moves = λ ended. absurd cc;
        may = turn.may;
        marks = turn.marks;
        files = files_same g (plain_call_of command) old.state new.state stays;
        valid = valid_same g old.state new.state stays turn.valid;
        file = λ is. absurd (no_place is);
        once = λ is. absurd (no_place is);
        plain = λ reply ended. absurd cc;
        none = λ placeless. absurd placeless;
        own = makes_calls g command n turn.comes;
        ending = record { cause = turn.cut; at_once = at_once; at_end = at_end; by_slot = by_slot; by_log = by_log; facts = facts };
        noted = record { pending = refl; watch = refl; rest = refl };
      }
