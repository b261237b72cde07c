-- The turns that are left behind the steps by which more is known of a file, or its tables are written.
use Rattle.std.proofs.Common.{arith, ◌≡◌, ◌≢◌, ◌<◌, ◌≤◌, ◌+◌, ◌*◌, ℕ, Bool, true, false, List, [], ◌∷◌, inl, inr, length, None, Option, Some, refl, ap, sym, subst, ◌∙◌}
use Rattle.std.specs.Prelude.{if◌then◌else◌}
use Rattle.std.proofs.lemmas.Bool.{cases_Bool}
use Rattle.vol_base.specs.Packing.{Packing}
use Rattle.vol_base.specs.declared.answer.Next.{Next}
use Rattle.vol_base.specs.declared.answer.Step.{Step}
use Rattle.vol_base.specs.declared.plain.PlainReply.{PlainReply}
use Rattle.vol_layout.specs.declared.field.Edit.{Edit}
use Rattle.vol_layout.specs.declared.geometry.Geometry.{Geometry}
use Rattle.vol_layout.specs.declared.kind.Resource.{Resource}
use Rattle.vol_layout.specs.declared.kind.Table.{Table}
use Rattle.vol_layout.specs.Ranges.{IsGeometry}
use Rattle.table_blocks.specs.Made.{made}
use Rattle.held_cache.specs.Kept.{Cache, ChangesOnly, IsFileTable, kept_at}
use Rattle.host_facts.specs.Views.{WorldView}
use Rattle.plan_parts.specs.Applies.{TableWritten}
use Rattle.plan_parts.specs.KeptTables.{AreTwo, IsLeft}
use Rattle.plan_parts.specs.TableOrder.{same_table}
use Rattle.plan_parts.specs.TakenLocks.{Frees}
use Rattle.plan_parts.specs.declared.applying.Applying.{Applying}
use Rattle.plan_parts.specs.declared.kept.Kept.{Kept}
use Rattle.plan_parts.specs.declared.outcome.Outcome.{Outcome}
use Rattle.plan_parts.specs.declared.outcome.Outcome.TheVariants as outcomes
use Rattle.plan_parts.specs.laws.ApplyingLaws.{one_table_less}
use Rattle.plan_parts.specs.laws.TableOrderLaws.{same_table-is, same_table-self}
use Rattle.plan_parts.specs.laws.TakenLaws.{one_lock_less}
use Rattle.journal_block.specs.JournalRecord.{JournalRecord}
use Rattle.file_plans.specs.Calls.{file_of}
use Rattle.file_plans.specs.Keeps.{KeepsWritten}
use Rattle.file_plans.specs.Says.{Known}
use Rattle.file_plans.specs.Sights.{IsSight}
use Rattle.file_plans.specs.Stands.{At}
use Rattle.file_plans.specs.Turns.{IsSooner, known_behind, round_turns, turns_at, turns_rested, turns_seeing}
use Rattle.file_plans.specs.Went.{IsRest, IsSeen}
use Rattle.file_plans.specs.declared.call.FileCall.{FileCall}
use Rattle.file_plans.specs.declared.sight.Sight.TheVariants as sights
use Rattle.file_plans.specs.declared.stage.Stage.{Stage}
use Rattle.file_plans.specs.declared.stage.Stage.TheVariants as stages
use Rattle.file_plans.specs.declared.state.Core.{Core}
use Rattle.file_plans.specs.laws.RoundLaws.{taken_few}
use Rattle.file_plans.specs.laws.TurnCountLaws.{IsKnownStill, seeing_read, seeing_still}
use Rattle.file_plans.specs.laws.TurnStepLaws.{rest_sooner, rounds_fall, seeing_some}
use Rattle.file_plans.specs.laws.BaseLaws.{coming}

-- a table that none of the record's is, and one that is known as before
behind_else : (known : Known) (es : List Edit) (left : List Kept) (t : Table) → (IsLeft left t → ⊥)
    → known_behind known es left t ≡ known t
behind_else known es [] t none = refl
behind_else known es (k ∷ more) t none = elim (cases_Bool (same_table k.which t)) [
  | inl same ↦ absurd (none (inl (same_table-is k.which t same)))
  | inr other ↦ rw other (behind_else known es more t (λ later. none (inr later)))
]

behind_on : (known later : Known) (es : List Edit) (left : List Kept) (t : Table) → later t ≡ known t
    → known_behind later es left t ≡ known_behind known es left t
behind_on known later es [] t same = same
behind_on known later es (k ∷ more) t same =
    ap (λ (o : Option Packing). if same_table k.which t then Some (made k.which es k.table) else o)
    (behind_on known later es more t same)

-- what is known of a record's tables stays behind the write of one, which is kept as it was written
written_behind : (c d : Cache) (h : ℕ) (es : List Edit) (after : List Kept) (kept : Kept) (before : Packing) (t : Table)
    → KeepsWritten c d h kept → kept.table ≡ made kept.which es before → (IsLeft after kept.which → ⊥) → h < c.volume.hosts
    → IsFileTable c.volume t
    → known_behind (kept_at d h) es after t ≡ known_behind (kept_at c h) es (record { which = kept.which; table = before } ∷ after) t
written_behind c d h es after kept before t keeps made_is two host is =
    elim (cases_Bool (same_table kept.which t)) [
      | inl same ↦
          let one = same_table-is kept.which t same in
          rw same (subst (λ (u : Table). known_behind (kept_at d h) es after u ≡ Some (made kept.which es before)) one
          (behind_else (kept_at d h) es after kept.which two
          ∙ keeps.changed (subst (IsFileTable c.volume) (sym one) is) ∙ ap Some made_is))
      | inr other ↦
          rw other (behind_on (kept_at c h) (kept_at d h) es after t (keeps.others h t (host, is) (λ here same.
          let there = subst (λ (u : Table). same_table kept.which u ≡ false) same other in
          let both : true ≡ false = sym (same_table-self kept.which) ∙ there in cc)))
    ]

pub rested_still : (g : Geometry) (known later : Known) (call : FileCall) (outcome : Outcome) → IsGeometry g → file_of call < g.files
    → IsKnownStill g known later → turns_rested g later call outcome ≤ turns_rested g known call outcome
rested_still g known later call outcomes.Open range file still = seeing_still g known later call range file still
rested_still g known later call (outcomes.Placed reply) range file still = omega arith
rested_still g known later call (outcomes.Busy key) range file still = omega arith
rested_still g known later call outcomes.Full range file still = omega arith

-- a table of the record was written
pub written_sooner : (v w : WorldView) (c d : Cache) (core : Core) (a b : Applying) (kept : Kept) (next : Next)
    → IsGeometry v.locks.geometry → At v c core (stages.Applies a) → b.entry ≡ a.entry
    → TableWritten core.host v w a.entry.edits a.left b.left kept → KeepsWritten c d core.host kept
    → IsSooner v c core (stages.Applies a) w d core next (stages.Applies b)
written_sooner v w c d core a b kept next range at entry did keeps more =
    let g = v.locks.geometry in
    let es = a.entry.edits in
    let less = one_table_less core.host v w es a.left b.left kept did in
    let two = (subst AreTwo did.first at.1.two).0 in
    let still : IsKnownStill g (known_behind (kept_at c core.host) es a.left) (known_behind (kept_at d core.host) es b.left) = λ t p is known.
    written_behind c d core.host es b.left kept did.before t keeps did.is_made two
    (subst (λ (h : Geometry). core.host < h.hosts) (sym at.0.cached.volume) at.0.host)
    (subst (λ (h : Geometry). IsFileTable h t) (sym at.0.cached.volume) is)
    ∙ subst (λ (left : List Kept). known_behind (kept_at c core.host) es left t ≡ Some p) did.first known in
    let rested = rested_still g _ _ core.call core.outcome range at.0.file still in
    subst (λ (h : Geometry). round_turns h (length b.left + 1) + turns_rested h (known_behind
    (kept_at d core.host) b.entry.edits b.left) core.call core.outcome < turns_at v c core (stages.Applies a))
    (sym did.wrote.geometry)
    (subst (λ (r : JournalRecord). round_turns g (length b.left + 1) + turns_rested g (known_behind
    (kept_at d core.host) r.edits b.left) core.call core.outcome < turns_at v c core (stages.Applies a))
    (sym entry)
    (both _ _ _ _ (rounds_fall (g.groups + g.parts) (length b.left + 1) (length a.left + 1) 0 (omega (arith, less))) rested))
  where
    both : (a b c d : ℕ) → a + 0 < b + 0 → c ≤ d → a + c < b + d
    both a b c d less few = omega (arith, less, few)

-- the empty journal was written
pub finished_sooner : (v w : WorldView) (c : Cache) (core new : Core) (a : Applying) (next : Next) (after : Stage)
    → w.locks.geometry ≡ v.locks.geometry → At v c core (stages.Applies a) → a.left ≡ [] → new ≡ core
    → IsRest core.taken core.outcome next after → IsSooner v c core (stages.Applies a) w c new next after
finished_sooner v w c core new a next after geometry at none same rest =
    subst (λ (k : Core). IsSooner v c core (stages.Applies a) w c k next after) (sym same)
    (rest_sooner v w c c core core (stages.Applies a) next after geometry
    (subst (λ (left : List Kept). length core.taken + turns_rested v.locks.geometry (kept_at c core.host) core.call core.outcome
    < round_turns v.locks.geometry (length left + 1) + turns_rested v.locks.geometry (known_behind
    (kept_at c core.host) a.entry.edits left) core.call core.outcome)
    (sym none) (few _ _ (turns_rested v.locks.geometry (kept_at c core.host) core.call core.outcome) (taken_few v c core
    (stages.Applies a) at))) rest)
  where
    few : (l k n : ℕ) → l ≤ k → l + n < (0 + 1 + 1) * (k + 1) + n
    few l k n less = omega (arith, less)

-- a lock was freed
pub freed_sooner : (v w : WorldView) (c : Cache) (core new : Core) (after : List Resource) (freed : Bool) (next : Next) (stage : Stage)
    → w.locks.geometry ≡ v.locks.geometry → core.taken ≢ [] → Frees core.host v w core.taken after freed
    → new ≡ coming core after core.outcome → IsRest after core.outcome next stage → IsSooner v c core stages.Frees w c new next stage
freed_sooner v w c core new after true next stage geometry some freed same rest =
    let less = one_lock_less core.host v w core.taken after freed in
    subst (λ (k : Core). IsSooner v c core stages.Frees w c k next stage) (sym same)
    (rest_sooner v w c c core (coming core after core.outcome) stages.Frees next stage geometry
    (few _ _ (turns_rested v.locks.geometry (kept_at c core.host) core.call core.outcome) less) rest)
  where
    few : (l k n : ℕ) → k ≡ l + 1 → l + n < k + n
    few l k n less = omega (arith, less)
freed_sooner v w c core new after false next stage geometry some freed same rest = absurd (some freed.0)

-- the lock of the file was looked at, or its block was read or written: the call has come to its end
pub placed_rests : (v w : WorldView) (c d : Cache) (core new : Core) (reply : PlainReply) (next : Next) (stage : Stage)
    → w.locks.geometry ≡ v.locks.geometry → core.taken ≡ [] → new ≡ record core { outcome = outcomes.Placed reply }
    → IsRest new.taken new.outcome next stage → IsSooner v c core stages.Sees w d new next stage
placed_rests v w c d core new reply next stage geometry none same rest =
    rest_sooner v w c d core new stages.Sees next stage geometry
    (subst (λ (k : Core). length k.taken + turns_rested v.locks.geometry (kept_at d k.host) k.call k.outcome < turns_at v c core stages.Sees)
    (sym same)
    (some _ _ (ap length none) (seeing_some v.locks.geometry (kept_at c core.host) core.call))) rest
  where
    some : (l n : ℕ) → l ≡ 0 → 0 < n → l + 0 < n
    some l n none less = omega (arith, none, less)

-- a table of the file was read, and is kept
pub needs_sooner : (v w : WorldView) (c d : Cache) (core new : Core) (which : Table) (table : Packing) (step : Step) (stage : Stage)
    → IsGeometry v.locks.geometry → w.locks.geometry ≡ v.locks.geometry → At v c core stages.Sees
    → IsSight v.locks.geometry (kept_at c core.host) core.call (sights.Needs which)
    → ChangesOnly c d core.host which (Some table) → IsSeen w.locks.geometry (kept_at d core.host) core new step stage
    → IsSooner v c core stages.Sees w d new step.next stage
needs_sooner v w c d core new which table step stage range geometry at sight keeps (None, (same, made_is, goes)) = λ more.
    let g = v.locks.geometry in
    let base = at.0.base in
    let volume = sym base.cached.volume in
    let still : IsKnownStill g (kept_at c core.host) (kept_at d core.host) = λ t p is known.
    keeps.others core.host t (
      subst (λ (h : Geometry). core.host < h.hosts) volume base.host,
      subst (λ (h : Geometry). IsFileTable h t) volume is,
    ) (λ here same.
    let both : None ≡ Some p = sym sight.2 ∙ ap (kept_at c core.host) (sym same) ∙ known in cc) ∙ known in
    subst (λ (s : Stage). turns_at w d new s < turns_at v c core stages.Sees) (sym goes)
    (subst (λ (k : Core). turns_at w d k stages.Sees < turns_at v c core stages.Sees) (sym same)
    (subst (λ (h : Geometry). turns_seeing h (kept_at d core.host) core.call < turns_at v c core stages.Sees) (sym geometry)
    (seeing_read g (kept_at c core.host) (kept_at d core.host) core.call range base.file still which table sight.0 sight.1 sight.3 sight.2
    keeps.changed)))
needs_sooner v w c d core new which table step stage range geometry at sight keeps (Some reply, (settles, same, placed, called, rest)) =
    placed_rests v w c d core new reply step.next stage geometry at.1 same rest
