-- The steps by which the blocks of requests are read and made empty.
use Rattle.std.proofs.Common.{◌≡◌, ◌⊎◌, ◌+◌, ◌-◌, ◌<◌, ◌≤◌, ℕ, Bool, true, false, List}
use Rattle.std.proofs.Common.{None, Option, Some, refl, ap, sym, subst, ◌∙◌, arith, length, inl, inr}
use Rattle.std.specs.Option.{option_or}
use Rattle.std.specs.Prelude.{Err, IfOk, Ok, Result}
use Rattle.vol_base.specs.declared.plain.PlainReply.{PlainReply}
use Rattle.std.proofs.lemmas.Bool.{cases_lt}
use Rattle.vol_base.specs.declared.answer.Answer.TheVariants.{Served}
use Rattle.vol_base.specs.declared.answer.ServeCounts.{ServeCounts}
use Rattle.vol_base.specs.declared.block.Block.{Block}
use Rattle.vol_base.specs.declared.command.Command.TheVariants.{Serve}
use Rattle.vol_layout.specs.declared.geometry.Geometry.{Geometry}
use Rattle.vol_layout.specs.declared.kind.Kind.TheVariants as kinds
use Rattle.vol_layout.specs.Places.{place_of}
use Rattle.vol_layout.specs.laws.PlaceLaws.{kind_at-place}
use Rattle.shared_disk.specs.Events.{Call, Done, Event, Reply, Shows, Tests, event}
use Rattle.lock_store.specs.declared.answers.StepNo.{StepNo}
use Rattle.lock_store.specs.declared.answers.StepNo.TheVariants as steps
use Rattle.lock_store.specs.Calls.{AnyBlock}
use Rattle.lock_store.specs.Events.{Did, read_of}
use Rattle.lock_store.specs.Views.{host_at, key_at, told_of}
use Rattle.disk_locks.specs.Consistent.{Consistent}
use Rattle.host_facts.specs.Calls.{SwapsPlace}
use Rattle.host_facts.specs.Facts.{Fact}
use Rattle.host_facts.specs.Hints.{WroteHint}
use Rattle.host_facts.specs.Knows.{Knows}
use Rattle.host_facts.specs.Looks.{Looks}
use Rattle.host_facts.specs.Others.{Others}
use Rattle.host_facts.specs.Views.{WorldView}
use Rattle.host_facts.specs.Wrote.{FilesStay, HasValidImage}
use Rattle.host_notes.specs.Asked.{IsPlainPlace}
use Rattle.host_notes.specs.laws.BlockMemories.{remembered_place_found, remembered_place_swap}
use Rattle.host_notes.specs.laws.OtherRights.{allowed_plain}
use Rattle.host_notes.specs.laws.TryLaws.{BySwap, tried_plain}
use Rattle.host_notes.specs.laws.VolumeOwes.{owes_served}
use Rattle.host_notes.specs.lemmas.PlainKinds.{hint_writable}
use Rattle.host_runs.specs.HintCauses.{requested_hints}
use Rattle.host_notes.specs.Owes.{plan_moment}
use Rattle.host_runs.specs.NotedCalls.{ShowsKind}
use Rattle.host_notes.specs.FileTurns.{at_answer}
use Rattle.host_runs.specs.Tries.{Tries}
use Rattle.plan_parts.specs.Cuts.{IsCut}
use Rattle.plan_parts.specs.QuietCalls.{Noted, QuietCall}
use Rattle.plan_parts.specs.Steps.{IsReady}
use Rattle.plan_parts.specs.declared.outcome.Outcome.TheVariants as outcomes
use Rattle.plan_parts.specs.laws.CutCallLaws.{cut_of}
use Rattle.plan_parts.specs.laws.NoCallLaws.{others_same}
use Rattle.plan_parts.specs.laws.QuietCallLaws.{full_more, noting, quiet_call, quiet_read, valid_now}
use Rattle.plan_parts.specs.laws.StepLaws.{ready_rests}
use Rattle.hint_plans.specs.laws.EndLaws.{uncalled_turn}
use Rattle.hint_plans.specs.laws.HostLaws.{ready_key, ready_on}
use Rattle.share_plans.specs.Closings.{KeepsHolds}
use Rattle.share_plans.specs.laws.ClosingLaws.{keeps_memory}
use Rattle.serve_plan.specs.Files.{IsHeld, IsNextHeld, behind_file, next_file}
use Rattle.serve_plan.specs.Plans.{Agrees, HasFile, PlanStands}
use Rattle.serve_plan.specs.Requests.{IsReadOf, empty_requests}
use Rattle.serve_plan.specs.Steps.{HasRead, Went}
use Rattle.serve_plan.specs.declared.plan.Come.{Come}
use Rattle.serve_plan.specs.declared.plan.Come.TheVariants.{Uncalled}
use Rattle.serve_plan.specs.declared.plan.Doing.TheVariants as doings
use Rattle.serve_plan.specs.laws.NoteLaws.{SumGrows, has_served, noted_quiet, read_requests, rest_noted, sum_by_call}
use Rattle.serve_plan.specs.laws.StepLaws.{went_file, went_request}

-- where the host holds its file still
file_on : (v w : WorldView) (h f : ℕ) → KeepsHolds h v w → HasFile v h f → HasFile w h f
file_on v w h f keeps has =
    record { below = subst (λ (g : Geometry). f < g.files) (sym keeps.geometry) has.below; held = keeps.held f has.below ∙ has.held }

-- what is behind the file that comes next is held by none
behind_next : (w : WorldView) (h first k : ℕ) (next : Option ℕ) → IsNextHeld w h first next → first ≤ k → k < next_file w.locks.geometry next
    → IsHeld w h k → ⊥
behind_next w h first k (Some f) is after below held = is.none k after below held
behind_next w h first k None is after below held = is k after below held

next_inside : (w : WorldView) (h first : ℕ) (next : Option ℕ) → IsNextHeld w h first next → next_file w.locks.geometry next ≤ w.locks.geometry.files
next_inside w h first (Some f) is = let below = is.below in omega (arith, below)
next_inside w h first None is = omega arith

-- the block of a held file is read
module _ (v w : WorldView) (h f : ℕ) (counts : ServeCounts) (block : Block) (c : Consistent v.locks) (later : Consistent w.locks)
    (is : PlanStands v h counts (doings.Reads f))
    (did : Did v.locks h (read_of v.locks (kinds.Request f)) (Shows block.0) (host_at v.locks h) w.locks) (looks : Looks h v w)
    (others : Others h v w) (next : Option ℕ) (next_is : IsNextHeld w h (f + 1) next) where
  abbrev g : Geometry
  g = v.locks.geometry

  abbrev e : Event
  e = event (key_at v.locks h) (read_of v.locks (kinds.Request f)) (Shows block.0)

  quiet : QuietCall Serve h v w e (Noted Serve h v outcomes.Open) (Noted Serve h w outcomes.Open)
  quiet =
      quiet_read Serve v w h (kinds.Request f) block.0 outcomes.Open is.at.1.below (λ of same. cc) did others (valid_now v c)
      (λ i k n r same. absurd cc)

  keeps : KeepsHolds h v w
  keeps = keeps_memory h v w looks.geometry looks.memory

  ready : IsReady w h
  ready = ready_on v w h looks.geometry looks.memory looks.facts is.at.0

  shows : ShowsKind g (kinds.Request f) block.0 (Some e)
  shows = (place_of g (kinds.Request f), kind_at-place g (kinds.Request f) is.at.1.below, refl)

  grows : SumGrows g (record { event = e; before = v.locks.disk.state }) (length (requested_hints g block.0))
  grows =
      sum_by_call g _ (length (requested_hints g block.0)) (read_requests g f (key_at v.locks h) block.0 is.at.1.below)

  -- each held file up to this one was read
  reads : (end : ℕ) → ((k : ℕ) → f + 1 ≤ k → k < end → IsHeld w h k → ⊥) → (k : ℕ) → k < end → IsHeld w h k
      → (k < f) ⊎ ((shown : List ℕ) × ShowsKind g (kinds.Request k) shown (Some e))
  reads end none k below held = elim (cases_lt k f) [
    | inl less ↦ inl less
    | inr more ↦ elim (cases_lt f k) [
      | inl after ↦ absurd (none k (omega (arith, after)) below held)
      | inr before ↦
          let same : f ≡ k = omega (arith, more, before) in
          inr (subst (λ (x : ℕ). (shown : List ℕ) × ShowsKind g (kinds.Request x) shown (Some e)) same (block.0, shows))
    ]
  ]

  has_read : (come : Come) → IsReadOf g h f block next counts come → HasRead h v w counts f come
  has_read come of = (e, block, next, did.acts, shows, next_is, of)

  pub read_went : (come : Come) → IsReadOf g h f block next counts come → Went h v w counts counts (doings.Reads f) come
  read_went come (inl (none, of)) =
      subst (Went h v w counts counts (doings.Reads f)) (sym of)
      (went_file v w h counts counts (doings.Reads f) e (ready_key v h c is.at.0) outcomes.Open refl (λ n noted. noted.noted) later ready keeps
      is.host (f + 1) next next_is
      (noted_quiet v w h e outcomes.Open outcomes.Open quiet keeps (Agrees h v counts (doings.Reads f)) counts counts 0 0 f
      (next_file g next) (length (requested_hints g block.0)) (λ n noted. noted) grows
      (let long = ap length none in omega (arith, long))
      (subst (λ (x : Geometry). next_file x next ≤ x.files) looks.geometry (next_inside w h (f + 1) next next_is))
      (reads (next_file g next) (λ k after below held.
      behind_next w h (f + 1) k next next_is after (subst (λ (x : Geometry). k < next_file x next) (sym looks.geometry) below) held)))
      (refl, has_read (behind_file next counts) (inl (none, refl))) (let few = is.few in omega (arith, few))
      (let below = is.at.1.below in omega (arith, below)))
  read_went come (inr (s, opened, of)) =
      let few_hints : length (requested_hints g block.0) ≤ 126 = subst (λ (hints : List _). length hints ≤ 126) opened.entries opened.few in
      let long : length s.requests.entries ≡ length (requested_hints g block.0) = ap length opened.entries in
      let file = opened.file in
      let first = opened.first in
      went_request v w h counts counts (doings.Reads f) e (ready_key v h c is.at.0) outcomes.Open refl (λ n noted. noted.noted) later ready keeps
      is.host s come
      (subst (HasFile w h) (sym opened.file) (file_on v w h f keeps is.at.1))
      (opened.entries ∙ ap (λ (b : Block). requested_hints g b.0) (sym opened.bytes)
      ∙ ap (λ (x : Geometry). requested_hints x s.block.0) (sym looks.geometry))
      (opened.volume ∙ sym looks.geometry) opened.few of
      (noted_quiet v w h e outcomes.Open outcomes.Open quiet keeps (Agrees h v counts (doings.Reads f)) counts counts 0
      (length s.requests.entries - s.done) f (s.file + 1) (length (requested_hints g block.0)) (λ n noted. noted) grows
      (omega (arith, long, first)) (let below = is.at.1.below in omega (arith, below, file))
      (reads (s.file + 1) (λ k after below held. absurd (omega (arith, after, below, file)))))
      (refl, has_read come (inr (s, opened, of)))
      (let few = is.few in omega (arith, few, file, first, long, few_hints))
      (let below = is.at.1.below in omega (arith, below, file, first, long, few_hints))

-- the plan begins with the first held file
module _ (v w : WorldView) (h : ℕ) (counts : ServeCounts) (is : PlanStands v h counts doings.Begins) where
  pub begun_stands : (f : ℕ) → IsNextHeld v h 0 (Some f) → PlanStands v h counts (doings.Reads f)
  begun_stands f next = record {
    host = is.host;
    at = (is.at.0, record { below = next.below; held = next.held });
    few = let zero = is.at.1 in omega (arith, zero);
  }

  pub begun_went : (f : ℕ) (come : Come) → IsNextHeld v h 0 (Some f) → Went h v w counts counts (doings.Reads f) come
      → Went h v w counts counts doings.Begins come
  begun_went f come next went = record {
    owes = record {
      made = went.owes.made;
      called = went.owes.called;
      others = went.owes.others;
      quiet = λ n rest. went.owes.quiet n (rest_noted v h f counts n rest is.at.1 next.none);
      owes = λ n rest. went.owes.owes n (rest_noted v h f counts n rest is.at.1 next.none);
    };
    does = (refl, inr (f, next, went.does.1));
    stands = went.stands;
    keeps = went.keeps;
    fewer = let fewer = went.fewer in omega (arith, fewer);
  }

  pub begun_by : (f : ℕ) → IsNextHeld v h 0 (Some f) → (came : Result Come StepNo) → IfOk came (Went h v w counts counts (doings.Reads f))
      → IfOk came (Went h v w counts counts doings.Begins)
  begun_by f next (Ok come) went = begun_went f come next went
  begun_by f next (Err why) went = tt

-- no file is held
pub unheld_went : (v : WorldView) (h : ℕ) (counts : ServeCounts) → Consistent v.locks → PlanStands v h counts doings.Begins
    → IsNextHeld v h 0 None → Went h v v counts counts doings.Begins (Uncalled (Served counts))
unheld_went v h counts c is none = record {
  owes = record {
    made = None;
    called = refl;
    others = others_same v h;
    quiet = λ n rest. (rest_noted v h v.locks.geometry.files counts n rest is.at.1 none).noted.wants;
    owes = λ n rest.
        let m = plan_moment v.locks.geometry h Serve v.locks.disk v.locks.disk None None n in
        let noted = rest_noted v h v.locks.geometry.files counts n rest is.at.1 none in (
          at_answer m n.pending,
          owes_served v.locks.geometry h v.locks.disk v.locks.disk None n counts
              (uncalled_turn Serve h v n c tt noted.noted.placed_is)
              (has_served v h counts m refl (record {
                noted = record {
                  remembered = noted.noted.remembered;
                  placed_is = ap (λ (o : Option PlainReply). option_or o None) noted.noted.placed_is;
                  shown_is = noted.noted.shown_is;
                  full = noted.noted.full;
                  asks = noted.noted.asks;
                  wants = noted.noted.wants;
                };
                sum = noted.sum;
                read = noted.read;
              }))
              noted.noted.shown_is
              (ready_rests v h m noted.noted.remembered refl c is.at.0),
          record { remembered = noted.noted.remembered; rests = inl is.at.0; between = refl },
        );
  };
  does = (refl, inl (none, refl));
  stands = is.at.0;
  keeps = record { geometry = refl; joined = refl; held = λ f below. refl; read = λ f below. refl };
  fewer = omega arith;
}

-- the block of a file is made empty
module _ (v w : WorldView) (h f : ℕ) (counts : ServeCounts) (block : Block) (c : Consistent v.locks) (later : Consistent w.locks)
    (is : PlanStands v h counts (doings.Empties f block)) (others : Others h v w) where
  abbrev place : ℕ
  place = place_of v.locks.geometry (kinds.Request f)

  abbrev call : Call
  call = Tests place block.0 empty_requests

  plain : IsPlainPlace v.locks.geometry place
  plain = record { kind = kinds.Request f; writable = hint_writable v.locks.geometry (kinds.Request f) tt is.at.1.below; at = refl }

  swap_quiet : (swapped : Bool) → SwapsPlace v.locks h place block.0 empty_requests (Ok swapped) w.locks → HasValidImage w → FilesStay v w
      → (reply : Reply) × Did v.locks h call reply (host_at v.locks h) w.locks
      × QuietCall Serve h v w (event (key_at v.locks h) call reply) (Noted Serve h v outcomes.Open) (Noted Serve h w outcomes.Open)
  swap_quiet true did valid files = (
    Done,
    did,
    quiet_call Serve v w h call Done (host_at v.locks h) _ _ did tt others valid files
        (λ t turn of before. allowed_plain v.locks h t turn call Done plain)
        (noting Serve v w h call Done outcomes.Open outcomes.Open did.geometry refl
        (λ memory noted. remembered_place_swap v.locks w.locks h memory noted place block.0 empty_requests plain did)
        (λ claims tries shown.
        ap (λ (u : Tries). u.shown)
        (tried_plain v.locks.geometry h Serve claims (key_at v.locks h) tries place (BySwap block.0 empty_requests) Done plain) ∙ shown)
        (full_more v.locks.geometry Serve outcomes.Open _ (λ i k n same reads full. cc))),
  )
  swap_quiet false did valid files = (
    Shows did.0,
    did.1,
    quiet_call Serve v w h call (Shows did.0) (host_at v.locks h) _ _ did.1 tt others valid files
        (λ t turn of before. allowed_plain v.locks h t turn call (Shows did.0) plain)
        (noting Serve v w h call (Shows did.0) outcomes.Open outcomes.Open did.1.geometry refl
        (λ memory noted. remembered_place_found v.locks w.locks h memory noted place block.0 empty_requests did)
        (λ claims tries shown.
        ap (λ (u : Tries). u.shown)
        (tried_plain v.locks.geometry h Serve claims (key_at v.locks h) tries place (BySwap block.0 empty_requests) (Shows did.0) plain) ∙ shown)
        (full_more v.locks.geometry Serve outcomes.Open _ (λ i k n same reads full. cc))),
  )

  read_none : (reply : Reply) → SumGrows v.locks.geometry (record { event = event (key_at v.locks h) call reply; before = v.locks.disk.state }) 0
  read_none reply = sum_by_call v.locks.geometry _ 0 refl

  module _ (memory : host_at w.locks h ≡ host_at v.locks h) (geometry : w.locks.geometry ≡ v.locks.geometry)
      (facts : (a : Fact) → Knows v h a → Knows w h a) where
    pub empty_went : (swapped : Bool) → SwapsPlace v.locks h place block.0 empty_requests (Ok swapped) w.locks → HasValidImage w → FilesStay v w
        → (next : Option ℕ) → IsNextHeld w h (f + 1) next → Went h v w counts counts (doings.Empties f block) (behind_file next counts)
    empty_went swapped did valid files next next_is =
        let made = swap_quiet swapped did valid files in
        let e = event (key_at v.locks h) call made.0 in
        let keeps = keeps_memory h v w geometry memory in
        went_file v w h counts counts (doings.Empties f block) e (ready_key v h c is.at.0) outcomes.Open refl (λ n noted. noted.noted) later
        (ready_on v w h geometry memory facts is.at.0) keeps is.host (f + 1) next next_is
        (noted_quiet v w h e outcomes.Open outcomes.Open made.2 keeps (Agrees h v counts (doings.Empties f block)) counts counts 0 0 (f + 1)
        (next_file v.locks.geometry next) 0 (λ n noted. noted) (read_none made.0) (omega arith)
        (subst (λ (x : Geometry). next_file x next ≤ x.files) geometry (next_inside w h (f + 1) next next_is))
        (reads made.0 next next_is))
        (refl, e, next, made.1.acts, refl, next_is, refl) (let few = is.few in omega (arith, few))
        (let below = is.at.1.below in omega (arith, below))
      where
        reads : (reply : Reply) (next : Option ℕ) → IsNextHeld w h (f + 1) next → (k : ℕ) → k < next_file v.locks.geometry next → IsHeld w h k
            → (k < f + 1) ⊎ ((shown : List ℕ) × ShowsKind v.locks.geometry (kinds.Request k) shown (Some (event (key_at v.locks h) call reply)))
        reads reply next next_is k below held = elim (cases_lt k (f + 1)) [
          | inl less ↦ inl less
          | inr more ↦
              absurd (behind_next w h (f + 1) k next next_is (omega (arith, more))
              (subst (λ (x : Geometry). k < next_file x next) (sym geometry) below) held)
        ]

  pub empty_done : (swapped : Bool) → (swapped ≡ true → WroteHint h place empty_requests v w) → (swapped ≡ false → Looks h v w)
      → SwapsPlace v.locks h place block.0 empty_requests (Ok swapped) w.locks → HasValidImage w → FilesStay v w → (next : Option ℕ)
      → IsNextHeld w h (f + 1) next → Went h v w counts counts (doings.Empties f block) (behind_file next counts)
  empty_done true wrote looks = let done = wrote refl in empty_went done.memory done.geometry done.facts true
  empty_done false wrote looks = let done = looks refl in empty_went done.memory done.geometry done.facts false

  -- or it was refused
  pub empty_cut : (why : StepNo) → SwapsPlace v.locks h place block.0 empty_requests (Err why) w.locks → IsCut h v w why
  empty_cut why refused command =
      cut_of command v w h call place refl others _ (λ reply t turn of before. allowed_plain v.locks h t turn call reply plain) AnyBlock why refused
      (never why refused)
    where
      never : (why : StepNo) → SwapsPlace v.locks h place block.0 empty_requests (Err why) w.locks → (at : ℕ) → why ≡ steps.Bad at
          → told_of v.locks ≡ None
      never (steps.Bad there) refused at same = absurd (refused.1.2 tt)
      never other refused at same = absurd cc
