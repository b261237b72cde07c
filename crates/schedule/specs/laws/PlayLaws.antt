-- A schedule that is played move by move.
use Rattle.std.proofs.Common.{◌≡◌, ◌-◌, ◌≢◌, ◌<◌, ◌⊎◌, ◌++◌, ◌∷◌, ℕ, Bool, true, false, List, [], Option, Some, None, Result, Ok, Err, drop, get_or, length, inl, inr, ◌+◌, ◌==◌, ◌≤◌, refl, ap, sym, subst, ◌∙◌, arith}
use Rattle.std.proofs.lemmas.List.{drop_all, drop_more}
use Rattle.std.proofs.lemmas.Bool.{cases_eq, cases_lt, eq-eqb, ne_eqb}
use Rattle.std.specs.Prelude.{IfSome, IsOk, if◌then◌else◌}
use Rattle.vol_base.specs.Turned.{Lowers, Stays}
use Rattle.vol_base.specs.declared.answer.Turn.{Turn}
use Rattle.vol_base.specs.declared.answer.Turn.TheVariants.{Answered, Idle, Moved, Work}
use Rattle.vol_base.specs.declared.block.Block.{Block}
use Rattle.workload.specs.declared.line.Workload.{Workload}
use Rattle.fingerprint.specs.DigestOf.{digest_of}
use Rattle.host_runs.specs.Awaited.{awaited}
use Rattle.host_runs.specs.RunStates.{RunState}
use Rattle.host_runs.specs.Runs.{AreIdle, IsTurn, NextPhase, Run, RunCall, supplied}
use Rattle.host_runs.specs.laws.RunLaws.{run-joined}
use Rattle.cluster.specs.Agreements.{Supplied, Turned}
use Rattle.cluster.specs.Parts.{asked_of}
use Rattle.cluster.specs.Runs.{Goes, IsIdle, IsStill, SameStart}
use Rattle.cluster.specs.Views.{ClusterView, PartsView, disk_of, state_of}
use Rattle.cluster.specs.Waits.{Tells, has_line, waited_for}
use Rattle.cluster.specs.laws.MeasureLaws.{none_is}
use Rattle.schedule.specs.Plays.{Begins, IsGone, IsRefused, IsStopped, HasPlayed, PlaysPhase, PlaysRound, PlaysRounds, PlaysRoundsTo, PlaysUpTo, PlaysUpToWord, PlaysWords, at_word, calls_by, in_round, wrapped, IsMade, IsMove, IsPlayed, Made, Makes, Move, Place, Plays, named, place_behind, turned}

-- the moves are those of a run
pub played-run : (w : Workload) (p : Place) (s : RunState) (moves : List Move) (q : Place) (t : RunState) → IsPlayed w p s moves q t
    → (calls : List RunCall) × Run w s calls t
played-run w p s [] q t played = ([], played.1)
played-run w p s (Begins ∷ moves) q t (middle, begins, rest) =
    let (calls, run) = played-run w (place_behind w.geometry.hosts p Begins) middle moves q t rest in
    (NextPhase ∷ calls, (middle, begins, run))
played-run w p s (Makes h turn ∷ moves) q t (middle, made, rest) =
    let (calls, run) = played-run w (place_behind w.geometry.hosts p (Makes h turn)) middle moves q t rest in
    (calls_by h turn ++ calls, run-joined w s (calls_by h turn) middle calls t made.1.run run)

-- one move more
played_more : (w : Workload) (p : Place) (s : RunState) (moves : List Move) (q : Place) (m : RunState) (move : Move) (t : RunState)
    → IsPlayed w p s moves q m → IsMove w q m move t → IsPlayed w p s (moves ++ move ∷ []) (place_behind w.geometry.hosts q move) t
played_more w p s [] q m move t (place, same) is = (
  t,
  subst (λ (x : Place). IsMove w x s move t) place (subst (λ (x : RunState). IsMove w q x move t) same is),
  (ap (λ (x : Place). place_behind w.geometry.hosts x move) place, refl),
)
played_more w p s (first ∷ moves) q m move t (middle, made, rest) is =
    (middle, made, played_more w (place_behind w.geometry.hosts p first) middle moves q m move t rest is)

pub plays_none : (v : PartsView) (p : Place) → Plays v p v p
plays_none v p notes agree = ([], notes, (refl, refl), agree)

module _ (v : PartsView) (p : Place) (u : PartsView) (q : Place) (x : PartsView) (same : u.workload ≡ v.workload) (plays : Plays v p u q) where
  pub plays_made : Made u (named q) x → Plays v p x (turned v.workload.geometry.hosts q.words q.next)
  plays_made made notes agree =
      let (moves, later, played, there) = plays notes agree in
      let (turn, behind, is, here) = made later there in (
        moves ++ Makes (named q) turn ∷ [],
        behind,
        played_more v.workload p (state_of v notes) moves q (state_of u later) (Makes (named q) turn) (state_of x behind) played
            (refl, subst (λ (w : Workload). IsMade w (named q) turn (state_of u later) (state_of x behind)) same is),
        here,
      )

  pub plays_begun : Goes u NextPhase x → Plays v p x (record q { next = 0 })
  plays_begun goes notes agree =
      let (moves, later, played, there) = plays notes agree in
      let (behind, is, here) = goes later there in (
        moves ++ Begins ∷ [],
        behind,
        played_more v.workload p (state_of v notes) moves q (state_of u later) Begins (state_of x behind) played
            (subst (λ (w : Workload). IsMove w q (state_of u later) Begins (state_of x behind)) same is),
        here,
      )

-- a turn that asks for no digest
made_one : (v : PartsView) (h : ℕ) (turn : Turn) (s t : RunState) → ((block : Block) → turn ≢ Work block) → (AreIdle v.workload s → ⊥)
    → IsTurn v.workload h turn s t → IsMade v.workload h turn s t
made_one v h (Work block) s t other busy is = absurd (other block refl)
made_one v h Moved s t other busy is = record { busy = busy; run = (t, is, refl) }
made_one v h (Answered answer) s t other busy is = record { busy = busy; run = (t, is, refl) }
made_one v h Idle s t other busy is = record { busy = busy; run = (t, is, refl) }

pub made_turn : (v : PartsView) (h : ℕ) (turn : Turn) (u : PartsView) → ((block : Block) → turn ≢ Work block) → (IsIdle v → ⊥)
    → Turned v h turn u → Made v h u
made_turn v h turn u other busy turned notes agree =
    let (later, is, here) = turned notes agree in
    (turn, later, made_one v h turn (state_of v notes) (state_of u later) other busy is, here)

-- one that does, with the digest
pub made_work : (v : PartsView) (h : ℕ) (block : Block) (u x : PartsView) → (IsIdle v → ⊥) → u.workload ≡ v.workload
    → Turned v h (Work block) u → Supplied u h (digest_of block) x → Made v h x
made_work v h block u x busy same turned supplies notes agree =
    let (later, is, there) = turned notes agree in
    let (behind, noted, here) = supplies later there in (
      Work block,
      behind,
      record {
        busy = busy;
        run = (
          state_of u later,
          is,
          (
            state_of x behind,
            subst (λ (w : Workload). state_of x behind ≡ supplied h (digest_of block) (awaited w (state_of u later) h) (state_of u later)) same noted,
            refl,
          ),
        );
      },
      here,
    )

-- a turn and its digest leave fewer turns, or the host has no command and nothing changes
lowers_turn : (v u : ClusterView) (h : ℕ) (turn : Turn) → ((block : Block) → turn ≢ Work block) → Lowers turn v.budget.left u.budget.left
    → Stays turn v u → Tells v.parts h turn → (u.budget.left < v.budget.left) ⊎ ((u ≡ v) × (has_line v.parts h ≡ false))
lowers_turn v u h Moved other lowers stays tells = inl lowers
lowers_turn v u h (Answered answer) other lowers stays tells = inl lowers
lowers_turn v u h (Work block) other lowers stays tells = absurd (other block refl)
lowers_turn v u h Idle other lowers stays tells = inr (stays, (none_is v.parts h).1 tells)

lowers_work : (v u x : ClusterView) (h : ℕ) (block : Block) → u ≡ v → v.spent ≡ false → asked_of v.parts h ≡ Some block
    → IfSome (waited_for u h) (λ b. x.budget.left < u.budget.left) → x.budget.left < v.budget.left
lowers_work v u x h block same live asks lowers =
    let at : waited_for u h ≡ Some block =
    ap (λ (y : ClusterView). waited_for y h) same ∙ ap (λ (b : Bool). if b then None else asked_of v.parts h) live ∙ asks in
    subst (λ (y : ClusterView). x.budget.left < y.budget.left) same
    (subst (λ (o : Option Block). IfSome o (λ b. x.budget.left < u.budget.left)) at lowers)

pub gone_turn : (v u : ClusterView) (h : ℕ) (turn : Turn) → ((block : Block) → turn ≢ Work block) → (IsIdle v.parts → ⊥)
    → Turned v.parts h turn u.parts → u.spent ≡ false → u.parts.phase ≡ v.parts.phase → Lowers turn v.budget.left u.budget.left → Stays turn v u
    → Tells v.parts h turn → IsGone h v u
gone_turn v u h turn other busy turned live phase lowers stays tells = record {
  made = made_turn v.parts h turn u.parts other busy turned;
  live = live;
  phase = phase;
  lowers = lowers_turn v u h turn other lowers stays tells;
}

pub gone_work : (v u x : ClusterView) (h : ℕ) (block : Block) → (IsIdle v.parts → ⊥) → v.spent ≡ false → SameStart v u
    → Turned v.parts h (Work block) u.parts → u ≡ v → asked_of v.parts h ≡ Some block → Supplied u.parts h (digest_of block) x.parts
    → x.spent ≡ false → x.parts.phase ≡ v.parts.phase → IfSome (waited_for u h) (λ b. x.budget.left < u.budget.left) → IsGone h v x
gone_work v u x h block busy before start turned same asks supplies live phase lowers = record {
  made = made_work v.parts h block u.parts x.parts busy start.workload turned supplies;
  live = live;
  phase = phase;
  lowers = inl (lowers_work v u x h block same before asks lowers);
}

pub same_both : (v u x : ClusterView) → SameStart v u → SameStart u x → SameStart v x
same_both v u x first second = record { began = second.began ∙ first.began; workload = second.workload ∙ first.workload }

-- rounds
wrapped_none : (hosts : ℕ) → wrapped hosts 0 ≡ 0
wrapped_none hosts = by (0 == hosts)
  where
    by : (b : Bool) → ◌≡◌ {A = ℕ} (if b then 0 else 0) 0
    by true = refl
    by false = refl

wrapped_here : (hosts host : ℕ) → host < hosts → wrapped hosts host ≡ host
wrapped_here hosts host below = ap {B = ℕ} (λ (b : Bool). if b then 0 else host) (ne_eqb host hosts (λ same. absurd (omega (arith, below, same))))

wrapped_end : (hosts : ℕ) → wrapped hosts hosts ≡ 0
wrapped_end hosts = ap {B = ℕ} (λ (b : Bool). if b then 0 else hosts) (eq-eqb hosts hosts refl)

pub up_first : (hosts : ℕ) (v : ClusterView) → v.spent ≡ false → PlaysUpTo hosts v v 0
up_first hosts v live = record {
  plays = subst (λ (next : ℕ). Plays v.parts (in_round 0) v.parts (in_round next)) (sym (wrapped_none hosts)) (plays_none v.parts (in_round 0));
  live = live;
  phase = refl;
  lowers = inr (refl, λ h below. absurd (omega (arith, below)));
}

pub up_more : (v u x : ClusterView) (host : ℕ) → host < v.parts.workload.geometry.hosts → SameStart v u
    → PlaysUpTo v.parts.workload.geometry.hosts v u host → IsGone host u x → PlaysUpTo v.parts.workload.geometry.hosts v x (host + 1)
up_more v u x host below start up gone = record {
  plays =
      plays_made v.parts (in_round 0) u.parts (in_round host) x.parts start.workload
      (subst (λ (next : ℕ). Plays v.parts (in_round 0) u.parts (in_round next)) (wrapped_here v.parts.workload.geometry.hosts host below) up.plays)
      gone.made;
  live = gone.live;
  phase = gone.phase ∙ up.phase;
  lowers = elim up.lowers [
    | inl fewer ↦
        inl (elim gone.lowers [
          | inl less ↦ omega (arith, fewer, less)
          | inr same ↦ let left = ap (λ (y : ClusterView). y.budget.left) same.0 in omega (arith, fewer, left)
        ])
    | inr still ↦
        elim gone.lowers [
          | inl less ↦ inl (let left = ap (λ (y : ClusterView). y.budget.left) still.0 in omega (arith, less, left))
          | inr same ↦
              inr (
                same.0 ∙ still.0,
                λ h few.
                    elim (cases_eq h host) [
                      | inl here ↦
                          subst (λ (n : ℕ). has_line v.parts n ≡ false) (sym here)
                          (subst (λ (y : ClusterView). has_line y.parts host ≡ false) still.0 same.1)
                      | inr other ↦ still.1 h (omega (arith, few, other))
                    ],
              )
        ]
  ];
}

pub round_idle : (hosts host : ℕ) (v u : ClusterView) → PlaysUpTo hosts v u host → IsIdle u.parts → PlaysRound v u
round_idle hosts host v u up idle = record {
  to = record { next = wrapped hosts host; plays = up.plays; live = up.live; phase = up.phase; ends = inr idle };
  lowers = λ busy.
      elim up.lowers [
        | inl fewer ↦ fewer
        | inr still ↦ absurd (busy (subst (λ (y : ClusterView). IsIdle y.parts) still.0 idle))
      ];
}

pub round_end : (hosts : ℕ) (v u : ClusterView) → PlaysUpTo hosts v u hosts → ((h : ℕ) → hosts ≤ h → has_line v.parts h ≡ false) → PlaysRound v u
round_end hosts v u up nobody = record {
  to = record { next = wrapped hosts hosts; plays = up.plays; live = up.live; phase = up.phase; ends = inl (wrapped_end hosts) };
  lowers = λ busy.
      elim up.lowers [
        | inl fewer ↦ fewer
        | inr still ↦
            absurd (busy (λ h.
            (none_is v.parts h).0 (elim (cases_lt h hosts) [
              | inl below ↦ still.1 h below
              | inr past ↦ nobody h past
            ])))
      ];
}

-- two plays, one behind the other
played_joined : (w : Workload) (p : Place) (s : RunState) (moves : List Move) (q : Place) (m : RunState) (rest : List Move) (r : Place) (t : RunState)
    → IsPlayed w p s moves q m → IsPlayed w q m rest r t → IsPlayed w p s (moves ++ rest) r t
played_joined w p s [] q m rest r t (place, same) is =
    subst (λ (x : Place). IsPlayed w x s rest r t) place (subst (λ (x : RunState). IsPlayed w q x rest r t) same is)
played_joined w p s (first ∷ moves) q m rest r t (middle, made, more) is =
    (middle, made, played_joined w (place_behind w.geometry.hosts p first) middle moves q m rest r t more is)

pub plays_joined : (v : PartsView) (p : Place) (u : PartsView) (q : Place) (x : PartsView) (r : Place) → u.workload ≡ v.workload → Plays v p u q
    → Plays u q x r → Plays v p x r
plays_joined v p u q x r same first second notes agree =
    let (moves, later, played, there) = first notes agree in
    let (rest, behind, more, here) = second later there in (
      moves ++ rest,
      behind,
      played_joined v.workload p (state_of v notes) moves q (state_of u later) rest r (state_of x behind) played
          (subst (λ (w : Workload). IsPlayed w q (state_of u later) rest r (state_of x behind)) same more),
      here,
    )

pub rounds_first : (v : ClusterView) → v.spent ≡ false → PlaysRoundsTo v v
rounds_first v live = record { next = 0; plays = plays_none v.parts (in_round 0); live = live; phase = refl; ends = inl refl }

pub rounds_more : (v u x : ClusterView) → SameStart v u → PlaysRoundsTo v u → (IsIdle u.parts → ⊥) → PlaysRound u x → PlaysRoundsTo v x
rounds_more v u x start to busy round = record {
  next = round.to.next;
  plays =
      plays_joined v.parts (in_round 0) u.parts (in_round 0) x.parts (in_round round.to.next) start.workload
      (subst (λ (next : ℕ). Plays v.parts (in_round 0) u.parts (in_round next)) anew to.plays) round.to.plays;
  live = round.to.live;
  phase = round.to.phase ∙ to.phase;
  ends = round.to.ends;
}
  where
    anew : to.next ≡ 0
    anew = elim to.ends [
      | inl first ↦ first
      | inr idle ↦ absurd (busy idle)
    ]

-- words
pub words_first : (words : List ℕ) (from : ℕ) (v : ClusterView) → from ≤ length words → v.spent ≡ false → PlaysUpToWord words from v v from
words_first words from v within live = record { plays = plays_none v.parts (at_word words from); within = within; live = live }

pub words_more : (words : List ℕ) (from at : ℕ) (v u x : ClusterView) → at < length words → SameStart v u → PlaysUpToWord words from v u at
    → IsGone (get_or words at 0) u x → PlaysUpToWord words from v x (at + 1)
words_more words from at v u x below start up gone =
    let rest = drop_more words at 0 below in
    record {
      plays =
          subst (λ (ws : List ℕ). Plays v.parts (at_word words from) x.parts (turned v.parts.workload.geometry.hosts ws 0)) rest
          (plays_made v.parts (at_word words from) u.parts (at_word words at) x.parts start.workload up.plays
          (subst (λ (ws : List ℕ). Made u.parts (named (record { words = ws; next = 0 })) x.parts) (sym rest) gone.made));
      within = omega (arith, below);
      live = gone.live;
    }

pub phase_words : (words : List ℕ) (from at : ℕ) (v u : ClusterView) → at < length words → PlaysWords words from v u at → PlaysPhase words from v u at
phase_words words from at v u below played = record {
  next = 0;
  plays = played.up_to.plays;
  within = played.up_to.within;
  live = played.up_to.live;
  phase = played.phase;
  idle = played.ends below;
}

pub phase_rounds : (words : List ℕ) (from at : ℕ) (v u x : ClusterView) → length words ≤ at → SameStart v u → PlaysWords words from v u at
    → PlaysRounds u x → PlaysPhase words from v x at
phase_rounds words from at v u x past start played rounds = record {
  next = rounds.to.next;
  plays =
      subst (λ (ws : List ℕ). Plays v.parts (at_word words from) x.parts (record { words = ws; next = rounds.to.next })) (sym none)
      (plays_joined v.parts (at_word words from) u.parts (in_round 0) x.parts (in_round rounds.to.next) start.workload
      (subst (λ (ws : List ℕ). Plays v.parts (at_word words from) u.parts (record { words = ws; next = 0 })) none played.up_to.plays)
      rounds.to.plays);
  within = played.up_to.within;
  live = rounds.to.live;
  phase = rounds.to.phase ∙ played.phase;
  idle = rounds.idle;
}
  where
    none : drop at words ≡ []
    none = drop_all at words past

-- phases
pub phases_more : (words : List ℕ) (from at : ℕ) (v u x y : ClusterView) → SameStart v u → SameStart v x → PlaysUpToWord words 0 v u from
    → PlaysPhase words from u x at → Goes x.parts NextPhase y.parts → y.spent ≡ false → PlaysUpToWord words 0 v y at
phases_more words from at v u x y start later up phase goes live = record {
  plays =
      plays_begun v.parts (at_word words 0) x.parts (record { words = drop at words; next = phase.next }) y.parts later.workload
      (plays_joined v.parts (at_word words 0) u.parts (at_word words from) x.parts (record { words = drop at words; next = phase.next })
      start.workload up.plays phase.plays)
      goes;
  within = phase.within;
  live = live;
}

pub phases_end : (words : List ℕ) (from at : ℕ) (v u x : ClusterView) → SameStart v u → PlaysUpToWord words 0 v u from
    → PlaysPhase words from u x at → x.parts.workload.phases ≤ x.parts.phase + 1 → HasPlayed words v.parts x.parts
phases_end words from at v u x start up phase last = record {
  end = record { words = drop at words; next = phase.next };
  plays =
      plays_joined v.parts (at_word words 0) u.parts (at_word words from) x.parts (record { words = drop at words; next = phase.next })
      start.workload up.plays phase.plays;
  idle = phase.idle;
  last = last;
}

-- fewer phases are left
pub phases_less : (u x y : ClusterView) → SameStart u x → x.parts.phase ≡ u.parts.phase → y.parts ≡ record (x.parts) { phase = x.parts.phase + 1 }
    → x.parts.phase + 1 < x.parts.workload.phases
    → y.parts.workload.phases - y.parts.phase < u.parts.workload.phases - u.parts.phase
phases_less u x y start same begun more =
    let all = ap (λ (w : Workload). w.phases) start.workload in
    let phases = ap (λ (p : PartsView). p.workload.phases) begun in
    let phase = ap (λ (p : PartsView). p.phase) begun in
    omega (arith, same, all, phases, phase, more)

-- a schedule that is stopped
no_room : {T E : Type 0} (room : ℕ) (result : Result T E) (refusal : E) → result ≡ Err refusal → (0 < room → IsOk result) → room ≡ 0
no_room room (Ok x) refusal is has = absurd cc
no_room room (Err other) refusal is has =
    elim (cases_lt 0 room) [
      | inl some ↦ let both = has some in absurd cc
      | inr none ↦ omega (arith, none)
    ]

pub refused_turn : {T E : Type 0} (v u : ClusterView) (result : Result T E) (refusal : E) → result ≡ Err refusal → v.spent ≡ false
    → (0 < (disk_of v.parts).room → v.spent ≡ false → IsOk result) → IsStill v.parts u.parts → IsRefused v.parts u.parts
refused_turn v u result refusal is live has still = record {
  room = no_room (disk_of v.parts).room result refusal is (λ some. has some live);
  still = still;
}

module _ (v : PartsView) (p : Place) (u : PartsView) (q : Place) (x : PartsView) (plays : Plays v p u q) where
  pub stopped_here : IsRefused u x → IsStopped p v x
  stopped_here refused = record { at = u; end = q; plays = plays; refused = refused }

  pub stopped_later : u.workload ≡ v.workload → IsStopped q u x → IsStopped p v x
  stopped_later same stopped = record {
    at = stopped.at;
    end = stopped.end;
    plays = plays_joined v p u q stopped.at stopped.end same plays stopped.plays;
    refused = stopped.refused;
  }

pub stopped_round : (v u x : ClusterView) → SameStart v u → PlaysRoundsTo v u → (IsIdle u.parts → ⊥) → IsStopped (in_round 0) u.parts x.parts
    → IsStopped (in_round 0) v.parts x.parts
stopped_round v u x start to busy stopped =
    elim to.ends [
      | inl first ↦
          stopped_later v.parts (in_round 0) u.parts (in_round 0) x.parts
          (subst (λ (next : ℕ). Plays v.parts (in_round 0) u.parts (in_round next)) first to.plays) start.workload stopped
      | inr idle ↦ absurd (busy idle)
    ]

pub stopped_rounds : (words : List ℕ) (from at : ℕ) (v u x : ClusterView) → length words ≤ at → SameStart v u → PlaysWords words from v u at
    → IsStopped (in_round 0) u.parts x.parts → IsStopped (at_word words from) v.parts x.parts
stopped_rounds words from at v u x past start played stopped =
    stopped_later v.parts (at_word words from) u.parts (in_round 0) x.parts
    (subst (λ (ws : List ℕ). Plays v.parts (at_word words from) u.parts (record { words = ws; next = 0 })) (drop_all at words past) played.up_to.plays)
    start.workload stopped
