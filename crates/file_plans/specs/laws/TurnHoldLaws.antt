-- Fewer turns are left behind the steps towards a hold, and from the first step on.
use Rattle.std.proofs.Common.{arith, ◌≡◌, ◌<◌, ◌≤◌, ◌+◌, ◌-◌, ℕ, zero, suc, Bool, true, false, None, Some, refl, ap, sym, subst, ◌∙◌}
use Rattle.std.specs.Prelude.{if◌then◌else◌}
use Rattle.vol_base.specs.declared.answer.Answer.{Answer}
use Rattle.vol_base.specs.declared.answer.Next.{Next}
use Rattle.vol_base.specs.declared.answer.Next.TheVariants.{Answered, More}
use Rattle.vol_base.specs.declared.answer.Step.{Step}
use Rattle.vol_base.specs.declared.answer.Answer.TheVariants as answers
use Rattle.vol_base.specs.declared.plain.PlainCall.TheVariants as calls
use Rattle.vol_layout.specs.declared.geometry.Geometry.{Geometry}
use Rattle.vol_layout.specs.Ranges.{IsGeometry}
use Rattle.lock_store.specs.Views.{host_at}
use Rattle.held_cache.specs.Kept.{Cache, kept_at}
use Rattle.host_facts.specs.Views.{WorldView}
use Rattle.plan_parts.specs.Holds.{IsAtWrite, TakesRead, TakesWrite, calls_left}
use Rattle.plan_parts.specs.declared.read_try.ReadTry.{ReadTry}
use Rattle.plan_parts.specs.declared.take_write.TakeWrite.{TakeWrite}
use Rattle.plan_parts.specs.declared.take_write.TakeWrite.TheVariants as writes
use Rattle.plan_parts.specs.declared.taking.Taking.{Taking}
use Rattle.plan_parts.specs.declared.taking.Taking.TheVariants as taking
use Rattle.plan_parts.specs.laws.HoldStarts.{first_try, first_write}
use Rattle.file_plans.specs.Begins.{has_hold}
use Rattle.file_plans.specs.Calls.{file_of, is_read, wants_write}
use Rattle.file_plans.specs.Says.{Known}
use Rattle.file_plans.specs.Stands.{At}
use Rattle.file_plans.specs.Turns.{IsSooner, nothing, turns_at, turns_seeing, turns_trying}
use Rattle.file_plans.specs.Went.{IsHeldBehind, IsReadBehind}
use Rattle.file_plans.specs.declared.call.FileCall.{FileCall}
use Rattle.file_plans.specs.declared.call.FileCall.TheVariants.{Close, Plain}
use Rattle.file_plans.specs.declared.stage.Stage.{Stage}
use Rattle.file_plans.specs.declared.stage.Stage.TheVariants as stages
use Rattle.file_plans.specs.declared.state.Core.{Core}
use Rattle.file_plans.specs.laws.TurnCountLaws.{seeing_still}

-- most turns are left where nothing is known
pub seeing_most : (g : Geometry) (known : Known) (call : FileCall) → IsGeometry g → file_of call < g.files
    → turns_seeing g known call ≤ turns_seeing g nothing call
seeing_most g known call range file = seeing_still g nothing known call range file (λ t p is none. absurd (let both : None ≡ Some p = none in cc))

-- at each stage towards a hold one try is left
pub tries_some : (v : WorldView) (h f : ℕ) (t : TakeWrite) → IsAtWrite v h f t → 0 < calls_left v.locks.geometry.hosts t
tries_some v h f (writes.Try from zero) at = omega arith
tries_some v h f (writes.Try from (suc tries)) at = let few = at.few in omega (arith, few)
tries_some v h f (writes.Check readers place) at = omega arith

answered_more : (step : Step) (answer : Answer) → step ≡ record { placed = None; called = true; next = Answered answer } → step.next ≡ More
    → {A : Type 0} → A
answered_more step answer made more =
    absurd (let both : More ≡ Answered answer = sym more ∙ ap (λ (s : Step). s.next) made in cc)

module _ (v w : WorldView) (c : Cache) (core new : Core) (step : Step) (stage : Stage) (range : IsGeometry v.locks.geometry)
    (geometry : w.locks.geometry ≡ v.locks.geometry) where
  -- the stage, the core and the geometry behind the step
  behind : (before after : Stage) → new ≡ core → stage ≡ after
      → turns_at w c core after < turns_at v c core before → turns_at w c new stage < turns_at v c core before
  behind before after same goes less =
      subst (λ (s : Stage). turns_at w c new s < turns_at v c core before) (sym goes)
      (subst (λ (k : Core). turns_at w c k after < turns_at v c core before) (sym same) less)

  -- the hold was had
  had : (before : Stage) (n : ℕ) → file_of core.call < v.locks.geometry.files → 0 < n
      → turns_at v c core before ≡ n + turns_seeing v.locks.geometry nothing core.call → turns_at w c core stages.Sees < turns_at v c core before
  had before n file some is =
      subst (λ (h : Geometry). turns_seeing h (kept_at c core.host) core.call < turns_at v c core before) (sym geometry)
      (last _ _ n _ (seeing_most v.locks.geometry (kept_at c core.host) core.call range file) some is)
    where
      last : (a b n x : ℕ) → a ≤ b → 0 < n → x ≡ n + b → a < x
      last a b n x few some is = omega (arith, few, some, is)

  pub writes_sooner : (t : TakeWrite) (taken : Taking TakeWrite) → At v c core (stages.Writes t)
      → TakesWrite core.host (file_of core.call) v w t taken → IsHeldBehind core new taken step stage
      → IsSooner v c core (stages.Writes t) w c new step.next stage
  writes_sooner t (taking.More u) at did (same, made, goes) more =
      behind (stages.Writes t) (stages.Writes u) same goes
      (subst (λ (h : Geometry). calls_left h.hosts u + turns_seeing h nothing core.call < turns_at v c core (stages.Writes t)) (sym geometry)
      (fewer _ _ (turns_seeing v.locks.geometry nothing core.call) did.0))
    where
      fewer : (a b n : ℕ) → a < b → a + n < b + n
      fewer a b n less = omega (arith, less)
  writes_sooner t taking.Taken at did (same, made, goes) more =
      behind (stages.Writes t) stages.Sees same goes
      (had (stages.Writes t) (calls_left v.locks.geometry.hosts t) at.0.file
      (tries_some v core.host (file_of core.call) t at.1.at) refl)
  writes_sooner t (taking.Busy key) at did (same, made, goes) more = answered_more step (answers.Busy key) made more

  pub reads_sooner : (t : ReadTry) (taken : Taking ReadTry) → At v c core (stages.Reads t)
      → TakesRead core.host (file_of core.call) v w t taken → IsReadBehind core new taken step stage
      → IsSooner v c core (stages.Reads t) w c new step.next stage
  reads_sooner t (taking.More u) at did (same, made, goes) more =
      behind (stages.Reads t) (stages.Reads u) same goes
      (subst (λ (h : Geometry). 3 - u.tries + turns_seeing h nothing core.call < turns_at v c core (stages.Reads t)) (sym geometry)
      (fewer t.tries u.tries (turns_seeing v.locks.geometry nothing core.call) did.0 at.1.trying.tries))
    where
      fewer : (a b n : ℕ) → b ≡ a + 1 → a ≤ 2 → 3 - b + n < 3 - a + n
      fewer a b n one few = omega (arith, one, few)
  reads_sooner t taking.Taken at did (same, made, goes) more =
      behind (stages.Reads t) stages.Sees same goes
      (had (stages.Reads t) (3 - t.tries) at.0.file (let few = at.1.trying.tries in omega (arith, few)) refl)
  reads_sooner t (taking.Busy key) at did (same, made, goes) more = answered_more step (answers.Busy key) made more

-- a read hold is given back
pub gives_sooner : (v w : WorldView) (c : Cache) (core : Core) (t u : ReadTry) (next : Next) → At v c core (stages.GivesBack t)
    → u.tries ≡ t.tries + 1 → IsSooner v c core (stages.GivesBack t) w c core next (stages.GivesBack u)
gives_sooner v w c core t u next at one more = let few = at.1.trying.tries in omega (arith, one, few)

-- a host that has its hold looks at its tables at once
pub begins_sees : (v : WorldView) (c : Cache) (core : Core) → has_hold core.call (host_at v.locks core.host) ≡ true
    → turns_at v c core stages.Sees ≤ turns_at v c core stages.Begins
begins_sees v c core has =
    let seeing = turns_seeing v.locks.geometry (kept_at c core.host) core.call in
    subst (λ (b : Bool). seeing ≤ (if b then seeing else turns_trying v.locks.geometry core.call)) (sym has) (omega arith)

module _ (v : WorldView) (c : Cache) (core : Core) (out : has_hold core.call (host_at v.locks core.host) ≡ false) where
  -- and one that lacks it has the turns of a try, whatever is kept
  trying_is : turns_at v c core stages.Begins ≡ turns_trying v.locks.geometry core.call
  trying_is =
      let seeing = turns_seeing v.locks.geometry (kept_at c core.host) core.call in
      ap (λ (b : Bool). if b then seeing else turns_trying v.locks.geometry core.call) out

  pub begins_reads : (t : ReadTry) → is_read core.call ≡ true → t ≡ first_try v core.host (file_of core.call)
      → turns_at v c core (stages.Reads t) ≤ turns_at v c core stages.Begins
  begins_reads t reads first =
      subst (λ (u : ReadTry). turns_at v c core (stages.Reads u) ≤ turns_at v c core stages.Begins) (sym first)
      (subst (λ n. 3 - 0 + turns_seeing v.locks.geometry nothing core.call ≤ n) (sym trying_is) (cases core.call reads))
    where
      cases : (call : FileCall) → is_read call ≡ true
          → 3 - 0 + turns_seeing v.locks.geometry nothing call ≤ turns_trying v.locks.geometry call
      cases (Plain (calls.Read f i)) is = same (turns_seeing v.locks.geometry nothing (Plain (calls.Read f i)))
        where
          same : (n : ℕ) → 3 - 0 + n ≤ 3 + n
          same n = omega arith
      cases call is = absurd cc

  pub begins_writes : (t : TakeWrite) → wants_write core.call ≡ true → t ≡ first_write v core.host (file_of core.call)
      → turns_at v c core (stages.Writes t) ≤ turns_at v c core stages.Begins
  begins_writes t wants first =
      subst (λ (u : TakeWrite). turns_at v c core (stages.Writes u) ≤ turns_at v c core stages.Begins) (sym first)
      (subst (λ n. 3 + v.locks.geometry.hosts + turns_seeing v.locks.geometry nothing core.call ≤ n) (sym trying_is) (cases core.call wants))
    where
      cases : (call : FileCall) → wants_write call ≡ true
          → 3 + v.locks.geometry.hosts + turns_seeing v.locks.geometry nothing call ≤ turns_trying v.locks.geometry call
      cases (Plain (calls.Create f)) is = omega arith
      cases (Plain (calls.Remove f)) is = omega arith
      cases (Plain (calls.Size f k)) is = omega arith
      cases (Plain (calls.Write f i block)) is = omega arith
      cases (Plain (calls.Punch f i)) is = omega arith
      cases (Plain (calls.Read f i)) is = absurd cc
      cases (Close f) is = absurd cc

  pub begins_gives : (t : ReadTry) → core.call ≡ Close (file_of core.call) → t ≡ first_try v core.host (file_of core.call)
      → turns_at v c core (stages.GivesBack t) ≤ turns_at v c core stages.Begins
  begins_gives t closes first =
      subst (λ (u : ReadTry). 2 - u.tries ≤ turns_at v c core stages.Begins) (sym first)
      (subst (λ n. 2 - 0 ≤ n) (sym (trying_is ∙ ap (turns_trying v.locks.geometry) closes)) (omega arith))

-- the tables that were forgotten before a try take no turns more
pub begins_forgets : (v : WorldView) (c e : Cache) (core : Core) → has_hold core.call (host_at v.locks core.host) ≡ false
    → turns_at v e core stages.Begins ≤ turns_at v c core stages.Begins
begins_forgets v c e core out =
    subst (λ n. turns_at v e core stages.Begins ≤ n) (trying_is v e core out ∙ sym (trying_is v c core out)) (omega arith)
