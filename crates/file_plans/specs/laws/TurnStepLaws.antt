-- Fewer turns are left behind a step of a plan.
use Rattle.std.proofs.Common.{arith, Bool, true, false, ◌≡◌, ◌<◌, ◌≤◌, ◌+◌, ◌-◌, ◌*◌, ℕ, zero, suc, List, [], ◌∷◌, length, None, Option, Some, refl, ap, sym, subst, ◌∙◌}
use Rattle.std.specs.Prelude.{Err, IfOk, Ok, Result, if◌then◌else◌, map}
use Rattle.std.proofs.Math.Nat.{mul-le-mul_right, suc-mul}
use Rattle.vol_base.specs.declared.answer.Next.{Next}
use Rattle.vol_base.specs.declared.answer.Next.TheVariants.{Answered, More}
use Rattle.vol_base.specs.declared.answer.Step.{Step}
use Rattle.vol_base.specs.declared.plain.PlainReply.{PlainReply}
use Rattle.vol_layout.specs.declared.geometry.Geometry.{Geometry}
use Rattle.vol_layout.specs.declared.kind.Resource.{Resource}
use Rattle.lock_store.specs.declared.answers.StepNo.{StepNo}
use Rattle.lock_store.specs.declared.host.HostState.{HostState}
use Rattle.lock_store.specs.Views.{host_at}
use Rattle.held_cache.specs.Kept.{Cache, kept_at}
use Rattle.host_facts.specs.Views.{WorldView}
use Rattle.plan_parts.specs.TableOrder.{tables_of}
use Rattle.plan_parts.specs.declared.applying.Applying.{Applying}
use Rattle.plan_parts.specs.declared.kept.Kept.{Kept}
use Rattle.plan_parts.specs.declared.outcome.Outcome.{Outcome}
use Rattle.plan_parts.specs.declared.outcome.Outcome.TheVariants as outcomes
use Rattle.plan_parts.specs.Steps.{answer_of}
use Rattle.plan_parts.specs.declared.searching.Search.{Search}
use Rattle.file_plans.specs.Says.{Known}
use Rattle.file_plans.specs.Turns.{IsSooner, known_behind, records_for, round_most, round_turns, turns_at, turns_behind, turns_left, turns_rested, turns_seeing, unknown_for}
use Rattle.file_plans.specs.Stands.{At}
use Rattle.file_plans.specs.Went.{IsRest}
use Rattle.file_plans.specs.Writes.{behind_found, behind_other, has_count, puts_for, steps_left}
use Rattle.file_plans.specs.declared.old.Old.TheVariants.{Same}
use Rattle.file_plans.specs.declared.call.FileCall.{FileCall}
use Rattle.file_plans.specs.declared.stage.Stage.{Stage}
use Rattle.file_plans.specs.declared.stage.Stage.TheVariants as stages
use Rattle.file_plans.specs.declared.state.Core.{Core}
use Rattle.file_plans.specs.laws.FewerLaws.{few_tables}
use Rattle.file_plans.specs.laws.RoundLaws.{taken_few}
use Rattle.file_plans.specs.laws.BaseLaws.{coming}

-- numbers
sum_right : (a b x : ℕ) → a + b < x → b < x
sum_right a b x less = omega (arith, less)

pub rounds_fall : (k m s n : ℕ) → m < s → (m + 1) * (k + 1) + n < (s + 1) * (k + 1) + n
rounds_fall k m s n less =
    let times = mul-le-mul_right (k + 1) (let more : suc (m + 1) ≤ s + 1 = omega (arith, less) in more) in
    let one = suc-mul (m + 1) (k + 1) in omega (arith, times, one)

pub rounds_most : (k m s : ℕ) → m ≤ s → (m + 1) * (k + 1) ≤ (s + 1) * (k + 1)
rounds_most k m s few = mul-le-mul_right (k + 1) (let more : m + 1 ≤ s + 1 = omega (arith, few) in more)

times_less : (r m : ℕ) → 1 ≤ r → (r - 1) * m + m ≡ r * m
times_less zero m some = absurd (omega (arith, some))
times_less (suc n) m some =
    let one : n ≡ suc n - 1 = omega arith in subst (λ k. k * m + m ≡ suc n * m) one (sym (suc-mul n m))

sum_less : (u r m : ℕ) → 1 ≤ r → m + (u + 1 + (r - 1) * m) ≡ u + 1 + r * m
sum_less u r m some = let times = times_less r m some in omega (arith, times)

-- a record more takes the turns of a round
pub seeing_round : (g : Geometry) (known : Known) (call : FileCall) → 1 ≤ records_for g known call
    → round_most g + turns_behind g known call ≡ turns_seeing g known call
seeing_round g known call some = sum_less (unknown_for g known call) (records_for g known call) (round_most g) some

pub seeing_some : (g : Geometry) (known : Known) (call : FileCall) → 0 < turns_seeing g known call
seeing_some g known call = some (unknown_for g known call) (records_for g known call * round_most g)
  where
    some : (u m : ℕ) → 0 < u + 1 + m
    some u m = omega arith

-- behind a step that leaves a record to be written still
pub round_sooner : (v w : WorldView) (c : Cache) (old new : Core) (before after : Stage) (next : Next) (known : Known) (call : FileCall)
    → w.locks.geometry ≡ v.locks.geometry
    → turns_at v c old before ≡ round_turns v.locks.geometry (steps_left v.locks.geometry before) + turns_behind v.locks.geometry known call
    → turns_at w c new after ≡ round_turns w.locks.geometry (steps_left w.locks.geometry after) + turns_behind w.locks.geometry known call
    → steps_left v.locks.geometry after < steps_left v.locks.geometry before → IsSooner v c old before w c new next after
round_sooner v w c old new before after next known call geometry was is less more =
    let g = v.locks.geometry in
    let now = subst (λ (h : Geometry). turns_at w c new after ≡ round_turns h (steps_left h after) + turns_behind h known call) geometry is in
    subst (λ n. n < turns_at v c old before) (sym now)
    (subst (λ n. round_turns g (steps_left g after) + turns_behind g known call < n) (sym was)
    (rounds_fall (g.groups + g.parts) (steps_left g after) (steps_left g before) (turns_behind g known call) less))

-- behind one by which no record stands
pub rest_sooner : (v w : WorldView) (c d : Cache) (old new : Core) (before : Stage) (next : Next) (stage : Stage)
    → w.locks.geometry ≡ v.locks.geometry
    → length new.taken + turns_rested v.locks.geometry (kept_at d new.host) new.call new.outcome < turns_at v c old before
    → IsRest new.taken new.outcome next stage → IsSooner v c old before w d new next stage
rest_sooner v w c d old new before next stage geometry less rest more = cases new.taken refl new.outcome refl rest
  where
    g : Geometry
    g = v.locks.geometry

    known : Known
    known = kept_at d new.host

    fewer : (n : Geometry → ℕ) → n v.locks.geometry < turns_at v c old before → n w.locks.geometry < turns_at v c old before
    fewer n few = subst (λ (h : Geometry). n h < turns_at v c old before) (sym geometry) few

    answered : (answer : Outcome) → next ≡ Answered (answer_of answer) → {A : Type 0} → A
    answered answer is = absurd (let both : More ≡ Answered (answer_of answer) = sym more ∙ is in cc)

    cases : (taken : List Resource) → new.taken ≡ taken → (outcome : Outcome) → new.outcome ≡ outcome → IsRest taken outcome next stage
        → turns_at w d new stage < turns_at v c old before
    cases (r ∷ locks) taken outcome comes is =
        subst (λ (s : Stage). turns_at w d new s < turns_at v c old before) (sym is.1)
        (fewer (λ h. length new.taken + turns_rested h (kept_at d new.host) new.call new.outcome) less)
    cases [] taken outcomes.Open comes is =
        subst (λ (s : Stage). turns_at w d new s < turns_at v c old before) (sym is.1)
        (fewer (λ h. turns_seeing h (kept_at d new.host) new.call)
        (subst (λ (o : Outcome). turns_rested v.locks.geometry (kept_at d new.host) new.call o < turns_at v c old before) comes
        (sum_right (length new.taken) _ _ less)))
    cases [] taken (outcomes.Placed reply) comes is = answered (outcomes.Placed reply) is.0
    cases [] taken (outcomes.Busy key) comes is = answered (outcomes.Busy key) is.0
    cases [] taken outcomes.Full comes is = answered outcomes.Full is.0

-- behind the commit of a record by which the call is to look again, or to end
pub record_sooner : (v w : WorldView) (c : Cache) (old new : Core) (before : Stage) (next : Next) (after : Stage) (a : Applying) (n : ℕ)
    → w.locks.geometry ≡ v.locks.geometry → map (λ (k : Kept). k.which) a.left ≡ tables_of a.entry.edits → length a.entry.edits ≤ 8
    → after ≡ stages.Applies a
    → turns_rested v.locks.geometry (known_behind (kept_at c new.host) a.entry.edits a.left) new.call new.outcome ≤ n
    → round_turns v.locks.geometry 10 + n ≤ turns_at v c old before → IsSooner v c old before w c new next after
record_sooner v w c old new before next after a n geometry order few is rested most more =
    let g = v.locks.geometry in
    subst (λ (s : Stage). turns_at w c new s < turns_at v c old before) (sym is)
    (subst (λ (h : Geometry). round_turns h (length a.left + 1) + turns_rested h (known_behind
    (kept_at c new.host) a.entry.edits a.left) new.call new.outcome < turns_at v c old before)
    (sym geometry)
    (last _ _ n _ _ (rounds_fall (g.groups + g.parts) (length a.left + 1) 10 0
    (let tables = few_tables a.left a.entry.edits order few in omega (arith, tables))) rested most))
  where
    last : (a b n c x : ℕ) → a + 0 < c + 0 → b ≤ n → c + n ≤ x → a + b < x
    last a b n c x less rested most = omega (arith, less, rested, most)

-- the record by which the call has its place
pub placed_sooner : (v w : WorldView) (c : Cache) (old new : Core) (before : Stage) (next : Next) (after : Stage) (a : Applying)
    (reply : PlainReply) → w.locks.geometry ≡ v.locks.geometry → map (λ (k : Kept). k.which) a.left ≡ tables_of a.entry.edits
    → length a.entry.edits ≤ 8 → after ≡ stages.Applies a → new ≡ record old { outcome = outcomes.Placed reply }
    → round_turns v.locks.geometry 10 ≤ turns_at v c old before → IsSooner v c old before w c new next after
placed_sooner v w c old new before next after a reply geometry order few is comes most =
    record_sooner v w c old new before next after a 0 geometry order few is
    (subst (λ (k : Core). turns_rested v.locks.geometry (known_behind (kept_at c k.host) a.entry.edits a.left) k.call k.outcome ≤ 0) (sym comes)
    (omega arith))
    (zero_more _ _ most)
  where
    zero_more : (a x : ℕ) → a ≤ x → a + 0 ≤ x
    zero_more a x less = omega (arith, less)

pub record_first : (v : WorldView) (c : Cache) (core : Core) (stage : Stage)
    → turns_at v c core stage ≡ round_turns v.locks.geometry 10 + turns_behind v.locks.geometry (kept_at c core.host) core.call
    → round_turns v.locks.geometry 10 ≤ turns_at v c core stage
record_first v c core stage is = more _ _ _ is
  where
    more : (a n x : ℕ) → x ≡ a + n → a ≤ x
    more a n x is = omega (arith, is)

pub record_round : (g : Geometry) (known : Known) (call : FileCall) → 1 ≤ records_for g known call
    → round_turns g 10 ≤ turns_seeing g known call
record_round g known call some =
    subst (λ n. round_turns g 10 ≤ n) (seeing_round g known call some)
    (more _ _ (turns_behind g known call) (rounds_most (g.groups + g.parts) 10 (2 * g.groups + 14) (omega arith)))
  where
    more : (a b n : ℕ) → a ≤ b → a ≤ b + n
    more a b n few = omega (arith, few)

-- what a step did is told from another stage from which no more turns are left
pub oks_sooner : (v w : WorldView) (c e d : Cache) (old new : Core) (before from : Stage) (result : Result (Step × Stage) StepNo)
    → turns_at v e old from ≤ turns_at v c old before → IfOk result (λ r. IsSooner v e old from w d new r.0.next r.1)
    → IfOk result (λ r. IsSooner v c old before w d new r.0.next r.1)
oks_sooner v w c e d old new before from (Ok r) few sooner = λ more. let less = sooner more in omega (arith, few, less)
oks_sooner v w c e d old new before from (Err why) few sooner = tt

-- a call that has come to its end before its record stands
pub ends_sooner : (v w : WorldView) (c : Cache) (old new : Core) (before : Stage) (next : Next) (stage : Stage) (taken : List Resource)
    (outcome : Outcome) → w.locks.geometry ≡ v.locks.geometry → At v c old before
    → turns_at v c old before
    ≡ round_turns v.locks.geometry (steps_left v.locks.geometry before) + turns_behind v.locks.geometry (kept_at c old.host) old.call
    → taken ≡ old.taken
    → turns_rested v.locks.geometry (kept_at c old.host) old.call outcome ≡ 0
    → new ≡ coming old taken outcome → IsRest taken outcome next stage → IsSooner v c old before w c new next stage
ends_sooner v w c old new before next stage taken outcome geometry at turns same none comes rest =
    let g = v.locks.geometry in
    subst (λ (k : Core). IsSooner v c old before w c k next stage) (sym comes)
    (rest_sooner v w c c old (coming old taken outcome) before next stage geometry
    (subst (λ m. length taken + turns_rested g (kept_at c old.host) old.call outcome < m) (sym turns)
    (few (length taken) (length old.taken) (g.groups + g.parts) (steps_left g before) (turns_behind g (kept_at c old.host) old.call) _
    (ap length same) (taken_few v c old before at) none)) rest)
  where
    few : (l m k s n z : ℕ) → l ≡ m → m ≤ k → z ≡ 0 → l + z < (s + 1) * (k + 1) + n
    few l m k s n z same below none =
        let times = mul-le-mul_right (k + 1) (let one : 1 ≤ s + 1 = omega arith in one) in omega (arith, same, below, none, times)

-- a stage behind a found block
found_round : (g : Geometry) (m : HostState) (known : Known) (core : Core) (old : Option ℕ) (shared : Option Kept) (d : ℕ) (group : Kept)
    → turns_left g m known core (behind_found old shared d group)
    ≡ round_turns g (steps_left g (behind_found old shared d group)) + turns_behind g known core.call
found_round g m known core None shared d group = refl
found_round g m known core (Some left) shared d group = pick (has_count group.which left) (others shared)
  where
    others : (kept : Option Kept) → turns_left g m known core (behind_other kept left d group)
        ≡ round_turns g (steps_left g (behind_other kept left d group)) + turns_behind g known core.call
    others None = refl
    others (Some kept) = refl

    pick : (b : Bool) → turns_left g m known core (behind_other shared left d group)
        ≡ round_turns g (steps_left g (behind_other shared left d group)) + turns_behind g known core.call
        → turns_left g m known core (if b then puts_for d group (Same left) else behind_other shared left d group)
        ≡ round_turns g (steps_left g (if b then puts_for d group (Same left) else behind_other shared left d group)) + turns_behind g known core.call
    pick true other = refl
    pick false other = other

found_few : (g : Geometry) (old : Option ℕ) (shared : Option Kept) (d : ℕ) (group : Kept) → steps_left g (behind_found old shared d group) ≤ 13
found_few g None shared d group = omega arith
found_few g (Some left) shared d group = pick (has_count group.which left) (others shared)
  where
    others : (kept : Option Kept) → steps_left g (behind_other kept left d group) ≤ 13
    others None = omega arith
    others (Some kept) = omega arith

    pick : (b : Bool) → steps_left g (behind_other shared left d group) ≤ 13
        → steps_left g (if b then puts_for d group (Same left) else behind_other shared left d group) ≤ 13
    pick true other = omega arith
    pick false other = other

-- a free block was found
pub found_sooner : (v w : WorldView) (c : Cache) (old new : Core) (left : Option ℕ) (shared : Option Kept) (search : Search) (d : ℕ)
    (group : Kept) (next : Next) (after : Stage) → w.locks.geometry ≡ v.locks.geometry → new.host ≡ old.host → new.call ≡ old.call
    → after ≡ behind_found left shared d group → IsSooner v c old (stages.Searches left shared search) w c new next after
found_sooner v w c old new left shared search d group next after geometry host call goes =
    subst (λ (s : Stage). IsSooner v c old (stages.Searches left shared search) w c new next s) (sym goes)
    (round_sooner v w c old new (stages.Searches left shared search) (behind_found left shared d group) next (kept_at c old.host) old.call
    geometry refl
    (subst (λ (k : Known). turns_at w c new (behind_found left shared d group) ≡ round_turns w.locks.geometry (steps_left w.locks.geometry
    (behind_found left shared d group)) + turns_behind w.locks.geometry k old.call) (ap (kept_at c) host)
    (subst (λ (k : FileCall). turns_at w c new (behind_found left shared d group) ≡ round_turns w.locks.geometry (steps_left w.locks.geometry
    (behind_found left shared d group)) + turns_behind w.locks.geometry (kept_at c new.host) k) call
    (found_round w.locks.geometry (host_at w.locks new.host) (kept_at c new.host) new left shared d group)))
    (let few = found_few v.locks.geometry left shared d group in omega (arith, few)))

-- the stage as the code has it
pub sooners_at : (v w : WorldView) (c d : Cache) (old new : Core) (before at : Stage) (result : Result (Step × Stage) StepNo) → before ≡ at
    → IfOk result (λ r. IsSooner v c old at w d new r.0.next r.1) → IfOk result (λ r. IsSooner v c old before w d new r.0.next r.1)
sooners_at v w c d old new before at result is sooner =
    subst (λ (s : Stage). IfOk result (λ r. IsSooner v c old s w d new r.0.next r.1)) (sym is) sooner
