-- The run that the cluster keeps, over each of its calls, and what follows of it.
use Rattle.std.proofs.Common.{◌≡◌, ◌++◌, ◌∷◌, ℕ, true, false, List, [], refl, sym, subst, ◌∙◌, arith}
use Rattle.plain_files.specs.Plain.{Plain}
use Rattle.workload.specs.declared.line.Workload.{Workload}
use Rattle.shared_disk.specs.Seen.{DiskSeen}
use Rattle.shared_disk.specs.State.{State}
use Rattle.image_view.specs.Files.{HasFiles}
use Rattle.image_view.specs.Valid.{IsValid}
use Rattle.histories.specs.Fronts.{AreFrontsUpTo}
use Rattle.histories.specs.LineCalls.{calls_of}
use Rattle.host_runs.specs.DeviceCalls.{OnImage}
use Rattle.host_runs.specs.Notes.{Notes}
use Rattle.host_runs.specs.RunStates.{RunState, opening}
use Rattle.host_runs.specs.Runs.{Run, RunCall}
use Rattle.host_runs.specs.laws.EventLaws.{IsListed, listed-run}
use Rattle.host_runs.specs.laws.FilesLaws.{IsLed, IsLedTo, IsPlainOf, led-run}
use Rattle.host_runs.specs.laws.FitLaws.{fits-run, orderly-run}
use Rattle.host_runs.specs.laws.RunLaws.{run-more}
use Rattle.host_runs.specs.laws.SeatedLaws.{seated-run}
use Rattle.cluster.specs.Agreements.{IsSound, IsStanding, IsSteady, IsUnmoved}
use Rattle.cluster.specs.Runs.{Facts, Goes, GoesOn, Inv, IsStill, LeadsTo, SameStart, present, showing}
use Rattle.cluster.specs.Views.{ClusterView, LedgerView, PartsView, disk_of, state_of}

module _ (v : ClusterView) (inv : Inv v) where
  abbrev w : Workload
  w = v.parts.workload

  -- the state to which the kept run leads
  abbrev reached : RunState
  reached = state_of (showing inv.run.last v.parts) inv.run.notes

  led_now : (p : Plain) → IsPlainOf w.geometry p → OnImage v.began.state (λ image. HasFiles image p)
      → IsLed w p v.began.state.told (present v.parts)
  led_now p plain files =
      let led = led-run w v.began inv.run.calls reached p inv.sound.allowed plain inv.valid files inv.run.leads in
      record {
        last = subst (λ (s : State). OnImage s (IsLedTo w p s.counter v.parts.ledger.history)) inv.run.shown led.last;
        fronts = subst (λ (s : State). AreFrontsUpTo s.counter (calls_of w.lines) p v.began.state.told s.told v.parts.ledger.history) inv.run.shown
            led.fronts;
      }

  listed_now : IsListed w (present v.parts)
  listed_now =
      let listed = listed-run w v.began inv.run.calls reached inv.sound.phased (let few = inv.sound.few in omega (arith, few)) inv.run.leads in
      record {
        entries = listed.entries;
        given = listed.given;
        fronted = record { plain = listed.fronted.plain; placeless = listed.fronted.placeless };
      }

  -- what the public clauses say
  pub facts_of : Facts v
  facts_of = record {
    run = inv.run;
    live = λ live. (inv.live live).0;
    fits = fits-run w v.began inv.run.calls reached inv.sound.phased inv.run.leads;
    led = led_now;
    listed = listed_now;
  }

  module _ (live : v.spent ≡ false) where
    -- the kept run leads to the present state
    leads_now : LeadsTo v inv.run.calls (state_of v.parts inv.run.notes)
    leads_now = subst (λ (d : DiskSeen). LeadsTo v inv.run.calls (state_of (showing d v.parts) inv.run.notes)) (inv.live live).0 inv.run.leads

    -- what a turn of the parts asks for
    pub steady_of : IsSteady v.parts
    steady_of = record {
      notes = inv.run.notes;
      agree = (inv.live live).1;
      orderly = orderly-run w v.began inv.run.calls (state_of v.parts inv.run.notes) inv.sound.phased leads_now;
      seated = seated-run w v.began inv.run.calls (state_of v.parts inv.run.notes) inv.sound.phased leads_now;
    }

-- what a turn that was refused memory leaves
pub still_of : (v u : PartsView) → IsUnmoved v u → IsStill v u
still_of v u unmoved = record { workload = unmoved.workload; phase = unmoved.phase; ledger = unmoved.ledger; state = unmoved.state }

module _ (v u : ClusterView) (same : SameStart v u) where
  -- a run from the same start
  from_there : (calls : List RunCall) (s : RunState) → LeadsTo v calls s → LeadsTo u calls s
  from_there calls s leads =
      subst (λ (b : DiskSeen). Run u.parts.workload (opening u.parts.workload b) calls s) (sym same.began)
      (subst (λ (x : Workload). Run x (opening x v.began) calls s) (sym same.workload) leads)

  valid_there : OnImage v.began.state (IsValid v.parts.workload.geometry v.began.state.counter)
      → OnImage u.began.state (IsValid u.parts.workload.geometry u.began.state.counter)
  valid_there valid =
      subst (λ (b : DiskSeen). OnImage b.state (IsValid u.parts.workload.geometry b.state.counter)) (sym same.began)
      (subst (λ (x : Workload). OnImage v.began.state (IsValid x.geometry v.began.state.counter)) (sym same.workload) valid)

  -- with one call more
  pub goes_on : (call : RunCall) → Goes v.parts call u.parts → GoesOn v call u
  goes_on call goes calls (notes, leads, agree) =
      let (later, is, behind) = goes notes agree in
      let start = opening v.parts.workload v.began in (
        later,
        from_there (calls ++ call ∷ []) (state_of u.parts later)
            (run-more v.parts.workload start calls (state_of v.parts notes) call (state_of u.parts later) leads is),
        behind,
      )

  pub inv_call : (call : RunCall) (inv : Inv v) → v.spent ≡ false → Goes v.parts call u.parts → IsSound u.parts → IsStanding u.parts → Inv u
  inv_call call inv live goes sound standing =
      let (later, leads, agree) = goes_on call goes inv.run.calls (inv.run.notes, leads_now v inv live, (inv.live live).1) in
      record {
        sound = sound;
        valid = valid_there inv.valid;
        run = record { last = disk_of u.parts; shown = refl; calls = inv.run.calls ++ call ∷ []; notes = later; leads = leads };
        live = λ still. (refl, agree, standing);
      }

  -- behind a refusal of memory the run is the one before
  abbrev state_at : DiskSeen → (ℕ → Notes) → ℕ → LedgerView → RunState
  state_at device notes phase ledger =
      record {
        device = device;
        phase = phase;
        answers = ledger.answers;
        history = ledger.history;
        events = ledger.events;
        notes = notes;
      }

  pub inv_spent : (inv : Inv v) → v.spent ≡ false → IsStill v.parts u.parts → IsSound u.parts → u.spent ≡ true → Inv u
  inv_spent inv live still sound spent =
      let there = from_there inv.run.calls (state_of v.parts inv.run.notes) (leads_now v inv live) in
      record {
        sound = sound;
        valid = valid_there inv.valid;
        run = record {
          last = disk_of v.parts;
          shown = sym still.state;
          calls = inv.run.calls;
          notes = inv.run.notes;
          leads =
              subst (λ (l : LedgerView). LeadsTo u inv.run.calls (state_at (disk_of v.parts) inv.run.notes u.parts.phase l)) (sym still.ledger)
              (subst (λ (k : ℕ). LeadsTo u inv.run.calls (state_at (disk_of v.parts) inv.run.notes k v.parts.ledger)) (sym still.phase) there);
        };
        live = λ not. let both : true ≡ false = sym spent ∙ not in absurd cc;
      }
