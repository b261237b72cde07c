-- The steps of a `scribble`.
use Rattle.std.proofs.Common.{◌≡◌, ◌≢◌, ◌∷◌, ◌/◌, ◌%◌, ◌∙◌, ℕ, Bool, List, [], None, Option, Some, false, true, ap, arith, refl, subst, sym, inl, true≢false}
use Rattle.std.specs.Prelude.{IfSome, Ok, codes, slice_set, if◌then◌else◌}
use Rattle.vol_base.specs.declared.answer.Answer.TheVariants.{Fine, Refused}
use Rattle.vol_base.specs.declared.block.Digest.{Digest}
use Rattle.vol_base.specs.declared.command.Command.TheVariants as commands
use Rattle.vol_base.specs.NumberBlock.{number_block}
use Rattle.vol_layout.specs.declared.geometry.Geometry.{Geometry}
use Rattle.vol_layout.specs.declared.kind.Kind.{Kind}
use Rattle.vol_layout.specs.declared.kind.Kind.TheVariants as kinds
use Rattle.vol_layout.specs.Places.{kind_at, place_of}
use Rattle.vol_layout.specs.Ranges.{HasKind, per_table}
use Rattle.shared_disk.specs.Events.{Done, Event, Writes, event}
use Rattle.hint_blocks.specs.declared.entry.LogEntry.{LogEntry}
use Rattle.hint_blocks.specs.Entries.{spelled}
use Rattle.hint_blocks.specs.HintLists.{HintList, hint_block}
use Rattle.lock_store.specs.Events.{Did}
use Rattle.lock_store.specs.Views.{host_at, key_at, told_of}
use Rattle.disk_locks.specs.Consistent.{Consistent}
use Rattle.disk_locks.specs.Sure.{BothTold}
use Rattle.host_facts.specs.Calls.{WritesPlace}
use Rattle.host_facts.specs.Facts.Fact.{TableIs}
use Rattle.host_facts.specs.Hints.{IsHint, WroteHint}
use Rattle.host_facts.specs.Others.{Others}
use Rattle.host_facts.specs.Views.{WorldView}
use Rattle.host_facts.specs.Wrote.{FilesStay, HasValidImage}
use Rattle.host_notes.specs.FileTurns.{at_answer}
use Rattle.host_notes.specs.Owes.{plan_moment}
use Rattle.host_notes.specs.laws.VolumeOwes.{owes_refused, owes_scribbled}
use Rattle.host_notes.specs.lemmas.PlainKinds.{hint_writable}
use Rattle.host_runs.specs.Awaited.{wanted}
use Rattle.host_runs.specs.FileUses.{is_hint_kind, is_hint_place}
use Rattle.host_runs.specs.Notes.{Notes}
use Rattle.plan_parts.specs.QuietCalls.{Noted, QuietCall}
use Rattle.plan_parts.specs.declared.outcome.Outcome.TheVariants.{Open}
use Rattle.plan_parts.specs.laws.NoCallLaws.{others_same}
use Rattle.plan_parts.specs.laws.QuietCallLaws.{quiet_write}
use Rattle.plan_parts.specs.laws.StepLaws.{ready_rests}
use Rattle.plan_parts.specs.laws.VolumeSteps.{volume_step_ends}
use Rattle.hint_plans.specs.Plans.{Agrees, Came, HasCome, IsHost, OpenNoted, PlanStands, RestsWith}
use Rattle.host_runs.specs.Moments.{Moment}
use Rattle.host_runs.specs.Memories.{drops}
use Rattle.host_runs.specs.Rests.{HasPending}
use Rattle.vol_base.specs.declared.command.Command.{Command}
use Rattle.hint_plans.specs.Scribbles.{first_step, scribbled}
use Rattle.hint_plans.specs.declared.plan.Come.TheVariants.{Answered, Uncalled, Works}
use Rattle.hint_plans.specs.declared.plan.Doing.TheVariants.{Asks, Puts}
use Rattle.hint_plans.specs.declared.plan.Scribble.{Scribble}
use Rattle.hint_plans.specs.laws.EndLaws.{ended_rests, uncalled_turn}
use Rattle.hint_plans.specs.laws.HostLaws.{host_on, ready_key}

-- the kind of a place of hints is one of hints
pub hint_of : (kind : Kind) → is_hint_kind (Some kind) ≡ true → IsHint kind
hint_of (kinds.Log h l) is = tt
hint_of (kinds.Shard s) is = tt
hint_of (kinds.Request f) is = tt
hint_of kind is = absurd cc

-- the kind of block at a place
pub record PlaceIs (g : Geometry) (place : ℕ) (kind : Kind) : Type 0 where
  pub at : kind_at g place ≡ Some kind
  pub here : place_of g kind ≡ place
  pub has : HasKind g kind

-- what was found there
pub place_found : (g x : Geometry) (place : ℕ) (found : Option Kind) (kind : Kind) → x ≡ g → found ≡ kind_at x place
    → IfSome found (λ k. HasKind x k × (place_of x k ≡ place)) → found ≡ Some kind → PlaceIs g place kind
place_found g x place found kind same at says some =
    let now : HasKind x kind × (place_of x kind ≡ place) =
    subst (λ (o : Option Kind). IfSome o (λ k. HasKind x k × (place_of x k ≡ place))) some says in record {
      at = ap (λ (y : Geometry). kind_at y place) (sym same) ∙ sym at ∙ some;
      here = ap (λ (y : Geometry). place_of y kind) (sym same) ∙ now.1;
      has = subst (λ (y : Geometry). HasKind y kind) same now.0;
    }

-- a block of requests, where the kind is neither a log nor a shard
pub scribbled_other : (kind : Kind) (digest : Digest) (seen : ℕ) → ((h l : ℕ) → kind ≢ kinds.Log h l) → ((s : ℕ) → kind ≢ kinds.Shard s)
    → scribbled (Some kind) digest seen ≡ hint_block (codes "DEDEREQS") (spelled digest (seen % per_table ∷ seen / per_table ∷ 0 ∷ []) ∷ [])
scribbled_other (kinds.Log h l) digest seen log shard = absurd (log h l refl)
scribbled_other (kinds.Shard s) digest seen log shard = absurd (shard s refl)
scribbled_other kind digest seen log shard = refl

-- the first step, by whether the place is one of hints
module _ (v : WorldView) (h : ℕ) (s : Scribble) (pending : HintList LogEntry) (c : Consistent v.locks)
    (is : PlanStands v h pending (Asks s)) where
  -- what the command waits for
  wants : (b : Bool) → is_hint_place v.locks.geometry s.place ≡ b → (n : Notes) → RestsWith h v pending.entries n
      → wanted v.locks.geometry (commands.Scribble s.place s.number s.seen) n.calls n.digests n.asks
      ≡ (if b then Some (number_block s.number) else None)
  wants b here n noted =
      ap (λ (m : Notes). wanted v.locks.geometry (commands.Scribble s.place s.number s.seen) m.calls m.digests m.asks) noted.rests.between
      ∙ ap (λ (x : Bool). if x then Some (number_block s.number) else None) here

  refused_came : is_hint_place v.locks.geometry s.place ≡ false → Came h v v pending pending (Asks s) (Uncalled Refused)
  refused_came none = record {
    owes = record {
      made = None;
      called = refl;
      others = others_same v h;
      quiet = λ n noted. wants false none n noted;
      owes = λ n noted.
          let m = plan_moment v.locks.geometry h (commands.Scribble s.place s.number s.seen) v.locks.disk v.locks.disk None None n in
          let remembered = noted.rests.remembered in (
            at_answer m n.pending,
            owes_refused v.locks.geometry h v.locks.disk v.locks.disk None n s.place s.number s.seen
                (uncalled_turn (commands.Scribble s.place s.number s.seen) h v n c tt
                (ap (λ (x : Notes). x.placed) noted.rests.between)) refl none (ap (λ (x : Notes). x.tries.shown) noted.rests.between)
                (ready_rests v h m remembered refl c is.is_host.ready),
            record {
              rests = record { remembered = remembered; rests = inl is.is_host.ready; between = refl };
              pending_is = noted.pending_is;
            },
          );
    };
    stands = is.is_host.volume;
    tables = λ uncut t p known. known;
    writes = λ uncut. refl;
    fewer = omega arith;
  }

  pub first_came : HasCome h v v pending pending (Asks s) (first_step v.locks.geometry s)
  first_came = by (is_hint_place v.locks.geometry s.place) refl
    where
      by : (b : Bool) → is_hint_place v.locks.geometry s.place ≡ b
          → HasCome h v v pending pending (Asks s) (if b then Works (Asks s) (number_block s.number) else Uncalled Refused)
      by true here = record { same = refl; kept = refl; stays = refl; asks = tt; wants = wants true here }
      by false none = refused_came none

-- the block is written
module _ (v w : WorldView) (h : ℕ) (s : Scribble) (digest : Digest) (pending : HintList LogEntry) (kind : Kind) (block : List ℕ) (done : Unit)
    (c : Consistent v.locks) (later : Consistent w.locks) (is : PlanStands v h pending (Puts s digest))
    (found : PlaceIs v.locks.geometry s.place kind) (block_is : block ≡ scribbled (Some kind) digest s.seen)
    (wrote : WroteHint h s.place block v w) (did : WritesPlace v.locks h s.place block (Ok done) w.locks) (others : Others h v w)
    (valid : HasValidImage w) (files : FilesStay v w) where
  abbrev e : Event
  e = event (key_at v.locks h) (Writes s.place block) Done

  abbrev Before : Notes → Type 0
  Before n = Agrees h v pending.entries (Puts s digest) n

  abbrev Between : Notes → Type 0
  Between n = OpenNoted (commands.Scribble s.place s.number s.seen) h w pending.entries n

  quiet : QuietCall (commands.Scribble s.place s.number s.seen) h v w e Before Between
  quiet =
      let call : QuietCall (commands.Scribble s.place s.number s.seen) h v w e (Noted (commands.Scribble s.place s.number s.seen) h v Open)
      (Noted (commands.Scribble s.place s.number s.seen) h w Open) =
      subst (λ (p : ℕ). QuietCall (commands.Scribble s.place s.number s.seen) h v w (event (key_at v.locks h) (Writes p block) Done)
      (Noted (commands.Scribble s.place s.number s.seen) h v Open) (Noted (commands.Scribble s.place s.number s.seen) h w Open)) found.here
      (quiet_write (commands.Scribble s.place s.number s.seen) v w h kind block Open done
      (hint_writable v.locks.geometry kind (hint_of kind (ap is_hint_kind (sym found.at) ∙ is.at)) found.has)
      (subst (λ (p : ℕ). Did v.locks h (Writes p block) Done (host_at v.locks h) w.locks) (sym found.here) did) others valid files) in record {
        acts = call.acts;
        answered = call.answered;
        geometry = call.geometry;
        others = call.others;
        valid = call.valid;
        files = call.files;
        allowed = λ m turn of noted. call.allowed m turn of noted.0.noted;
        noted = λ n noted. record { noted = call.noted n noted.0.noted; pending_is = noted.0.pending_is };
      }

  pub put_came : Came h v w pending pending (Puts s digest) (Answered Fine)
  put_came = record {
    owes = ended_rests (commands.Scribble s.place s.number s.seen) h v w Fine Before pending.entries
        (λ n m rest noted old same kept. fine m rest same kept ∙ ap (λ (x : Notes). x.pending) old ∙ noted.0.pending_is)
        (volume_step_ends (commands.Scribble s.place s.number s.seen) h v w e tt (ready_key v h c is.is_host.ready) Open refl Before Between
        (λ n noted. noted.0.noted) quiet later behind.ready (λ n noted. noted.noted.remembered) Fine (λ n. n.pending)
        (λ n noted turn now rests.
        owes_scribbled v.locks.geometry h v.locks.disk w.locks.disk (Some e) n s.place s.number s.seen block turn (refl, refl)
        (λ none. true≢false (sym is.at ∙ none)) now.noted.shown_is rests));
    stands = behind.volume;
    tables = λ uncut t p known. wrote.facts (TableIs t p) known;
    writes = λ uncut.
        subst (λ (b : List ℕ). BothTold (told_of v.locks) (told_of w.locks) (λ old new. new ≡ slice_set old s.place b))
        (block_is ∙ ap (λ (k : Option Kind). scribbled k digest s.seen) (sym found.at)) wrote.images;
    fewer = omega arith;
  }
    where
      behind : IsHost w h pending
      behind = host_on v w h pending wrote.geometry wrote.memory wrote.facts is.is_host

      fine : (m : Moment) (rest : List LogEntry) → m.command ≡ commands.Scribble s.place s.number s.seen → HasPending Fine m rest
          → rest ≡ m.old.pending
      fine m rest same kept = kept ∙ ap (λ (k : Command). if drops Fine k then [] else m.old.pending) same
