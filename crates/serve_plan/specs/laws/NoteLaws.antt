-- What the notes of a `serve` say behind each of its calls.
use Rattle.std.proofs.Common.{◌≡◌, ◌⊎◌, ◌+◌, ◌++◌, ◌∷◌, ◌<◌, ◌≤◌, ℕ, false, List, []}
use Rattle.std.proofs.Common.{Option, Some, Contains, refl, ap, sym, subst, ◌∙◌, arith, length, inl, inr}
use Rattle.std.specs.Option.{option_map_or}
use Rattle.std.proofs.lemmas.List.Sums.{sum_by-append, sum_by-cons}
use Rattle.vol_base.specs.declared.answer.ServeCounts.{ServeCounts}
use Rattle.vol_base.specs.declared.command.Command.TheVariants.{Serve}
use Rattle.vol_layout.specs.declared.geometry.Geometry.{Geometry}
use Rattle.vol_layout.specs.declared.kind.Kind.{Kind}
use Rattle.vol_layout.specs.declared.kind.Kind.TheVariants as kinds
use Rattle.vol_layout.specs.declared.kind.Resource.TheVariants.{File}
use Rattle.vol_layout.specs.Places.{place_of}
use Rattle.vol_layout.specs.laws.KindLaws.{kind_at-backs}
use Rattle.vol_layout.specs.laws.PlaceLaws.{kind_at-place}
use Rattle.shared_disk.specs.Events.{Event, Reads, Shows, event}
use Rattle.host_facts.specs.Views.{WorldView}
use Rattle.host_runs.specs.Awaited.{wanted}
use Rattle.host_runs.specs.FileUses.{is_hint_kind}
use Rattle.host_runs.specs.HintCauses.{HasServed, hints_of_requests, requested_hints}
use Rattle.host_runs.specs.Memories as noted
use Rattle.host_runs.specs.Moments.{Moment}
use Rattle.host_runs.specs.NotedCalls.{ShowsKind, SomeCall, kind_read, sum_read}
use Rattle.host_runs.specs.Notes.{NotedCall, Notes}
use Rattle.plan_parts.specs.QuietCalls.{Noted, QuietCall}
use Rattle.plan_parts.specs.Steps.{IsAtRest}
use Rattle.plan_parts.specs.declared.outcome.Outcome.{Outcome}
use Rattle.plan_parts.specs.declared.outcome.Outcome.TheVariants as outcomes
use Rattle.share_plans.specs.Closings.{KeepsHolds}
use Rattle.share_plans.specs.HintSpares.{SparesHints}
use Rattle.share_plans.specs.laws.GatheringNotes.{some_here, some_more}
use Rattle.share_plans.specs.laws.SpareLaws.{sum_spared}
use Rattle.serve_plan.specs.Files.{HasNone, IsHeld}
use Rattle.serve_plan.specs.Plans.{ServeNoted}
use Rattle.serve_plan.specs.Requests.{total}

-- only blocks of requests have requests
only_requests : (g : Geometry) (kind : Option Kind) (block : List ℕ) → is_hint_kind kind ≡ false → hints_of_requests g kind block ≡ 0
only_requests g (Some (kinds.Request f)) block plain = absurd cc
only_requests g kind block plain = refl

abbrev pub SumGrows : Geometry → NotedCall → ℕ → Type 0
SumGrows g c k =
    (calls : List NotedCall) → sum_read g (hints_of_requests g) (calls ++ c ∷ []) ≡ sum_read g (hints_of_requests g) calls + k

pub sum_by_share : (g : Geometry) (c : NotedCall) → SparesHints g c.event.call → SumGrows g c 0
sum_by_share g c spares calls =
    let same = sum_spared g (hints_of_requests g) (only_requests g) calls c spares in omega (arith, same)

-- the requests that a call read
abbrev read_by : Geometry → Event → ℕ
read_by g e = option_map_or (λ (b : Option Kind × List ℕ). hints_of_requests g b.0 b.1) (kind_read g e.call e.reply) 0

pub sum_by_call : (g : Geometry) (c : NotedCall) (k : ℕ) → read_by g c.event ≡ k → SumGrows g c k
sum_by_call g c k here calls =
    let each = λ (d : NotedCall). read_by g d.event in
    let joined = sum_by-append each calls (c ∷ []) in
    let last = sum_by-cons each c [] in omega (arith, here, joined, last)

pub read_requests : (g : Geometry) (f key : ℕ) (block : List ℕ) → f < g.files
    → read_by g (event key (Reads (place_of g (kinds.Request f))) (Shows block)) ≡ length (requested_hints g block)
read_requests g f key block has = ap (λ (k : Option Kind). hints_of_requests g k block) (kind_at-place g (kinds.Request f) has)

-- a quiet call of the command, by which requests were read, or counted, and blocks of held files read
module _ (v w : WorldView) (h : ℕ) (e : Event) (was now : Outcome)
    (quiet : QuietCall Serve h v w e (Noted Serve h v was) (Noted Serve h w now)) (keeps : KeepsHolds h v w) where
  abbrev noted_call : NotedCall
  noted_call = record { event = e; before = v.locks.disk.state }

  abbrev ShownBy : ℕ → Type 0
  ShownBy f = (block : List ℕ) × ShowsKind v.locks.geometry (kinds.Request f) block (Some e)

  pub noted_quiet : (Before : Notes → Type 0) (old new : ServeCounts) (more later first end k : ℕ)
      → ((n : Notes) → Before n → ServeNoted h v was old more first n) → SumGrows v.locks.geometry noted_call k
      → total old + more + k ≡ total new + later → end ≤ v.locks.geometry.files
      → ((f : ℕ) → f < end → IsHeld w h f → (f < first) ⊎ ShownBy f)
      → QuietCall Serve h v w e Before (ServeNoted h w now new later end)
  noted_quiet Before old new more later first end k says grows counted inside reads = record {
    acts = quiet.acts;
    answered = quiet.answered;
    geometry = quiet.geometry;
    others = quiet.others;
    valid = quiet.valid;
    files = quiet.files;
    allowed = λ m turn of before. quiet.allowed m turn of (says m.old before).noted;
    noted = λ n before.
        let said = says n before in record {
          noted = quiet.noted n said.noted;
          sum = subst (λ (g : Geometry). sum_read g (hints_of_requests g) (n.calls ++ noted_call ∷ []) ≡ total new + later) (sym keeps.geometry)
              (let grown = grows n.calls in let sum = said.sum in omega (arith, grown, sum, counted));
          read = λ f below held.
              subst (λ (g : Geometry). (block : List ℕ) × SomeCall (ShowsKind g (kinds.Request f) block) (n.calls ++ noted_call ∷ []))
              (sym keeps.geometry) (shown n said f below held);
        };
  }
    where
      shown : (n : Notes) → ServeNoted h v was old more first n → (f : ℕ) → f < end → IsHeld w h f
          → (block : List ℕ) × SomeCall (ShowsKind v.locks.geometry (kinds.Request f) block) (n.calls ++ noted_call ∷ [])
      shown n said f below held = elim (reads f below held) [
        | inl earlier ↦
            let seen = said.read f earlier (sym (keeps.held f (omega (arith, below, inside))) ∙ held) in
            (seen.0, some_more (ShowsKind v.locks.geometry (kinds.Request f) seen.0) n.calls noted_call seen.1)
        | inr here ↦ (here.0, some_here (ShowsKind v.locks.geometry (kinds.Request f) here.0) n.calls noted_call here.1)
      ]

-- a host between two commands
pub rest_noted : (v : WorldView) (h f : ℕ) (counts : ServeCounts) (n : Notes) → IsAtRest v h n → total counts ≡ 0 → HasNone v h 0 f
    → ServeNoted h v outcomes.Open counts 0 f n
rest_noted v h f counts n rest zero none = record {
  noted = record {
    remembered = rest.remembered;
    placed_is = ap (λ (m : Notes). m.placed) rest.between;
    shown_is = ap (λ (m : Notes). m.tries.shown) rest.between;
    full = λ g i k is met. cc;
    asks = ap (λ (m : Notes). m.asks) rest.between;
    wants = ap (λ (m : Notes). wanted v.locks.geometry Serve m.calls m.digests m.asks) rest.between;
  };
  sum = ap (λ (m : Notes). sum_read v.locks.geometry (hints_of_requests v.locks.geometry) m.calls) rest.between ∙ omega (arith, zero);
  read = λ k below held. absurd (none k (omega arith) below held);
}

-- all held files were served
pub has_served : (w : WorldView) (h : ℕ) (counts : ServeCounts) (m : Moment) → m.geometry ≡ w.locks.geometry
    → ServeNoted h w outcomes.Open counts 0 w.locks.geometry.files m.now → HasServed m counts
has_served w h counts m geometry now = record {
  read = subst (λ (g : Geometry). (f : ℕ) → noted.HasFile g m.now.memory.holds f
      → (block : List ℕ) × SomeCall (ShowsKind g (kinds.Request f) block) m.now.calls) (sym geometry) read;
  counted = subst (λ (g : Geometry). total counts ≡ sum_read g (hints_of_requests g) m.now.calls) (sym geometry)
      (let sum = now.sum in omega (arith, sum));
}
  where
    read : (f : ℕ) → noted.HasFile w.locks.geometry m.now.memory.holds f
        → (block : List ℕ) × SomeCall (ShowsKind w.locks.geometry (kinds.Request f) block) m.now.calls
    read f (place, kind, there) =
        let backs = kind_at-backs w.locks.geometry place (kinds.Lock (File f)) kind in
        now.read f backs.0
        (now.noted.remembered.holds (File f) backs.0 (subst (Contains m.now.memory.holds) backs.1 there))
