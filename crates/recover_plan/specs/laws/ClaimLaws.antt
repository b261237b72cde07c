-- What follows of a claim, and of an edit of the record of a host whose slot is claimed.
use Rattle.std.proofs.Common.{◌≡◌, ◌+◌, ◌≢◌, ◌<◌, ◌≤◌, ◌∙◌, ℕ, zero, suc, List, [], ◌∷◌, Some, ap, sym, subst, arith, inl, inr}
use Rattle.std.proofs.lemmas.Bool.{cases_eq}
use Rattle.std.proofs.lemmas.Option.{slice_get-get_or}
use Rattle.std.proofs.lemmas.List.Elements.{All-head, All-tail}
use Rattle.host_runs.specs.lemmas.OrderlyPlaced.{some_same}
use Rattle.std.specs.Prelude.{All, length, slice_get, slice_index_or}
use Rattle.vol_base.specs.Packing.{Packing}
use Rattle.vol_layout.specs.declared.field.Edit.{Edit}
use Rattle.vol_layout.specs.declared.field.Field.TheVariants.{Head}
use Rattle.vol_layout.specs.declared.geometry.Geometry.{Geometry}
use Rattle.vol_layout.specs.declared.kind.Table.{Table}
use Rattle.vol_layout.specs.Fields.{table_of}
use Rattle.table_blocks.specs.Made.{made}
use Rattle.table_blocks.specs.Tables.{IsPackingOf}
use Rattle.lock_store.specs.Memories.{claim_of, key_of}
use Rattle.lock_store.specs.declared.host.HostState.{HostState}
use Rattle.lock_store.specs.Views.{host_at}
use Rattle.disk_locks.specs.Consistent.{Consistent}
use Rattle.host_facts.specs.Facts.{Claims, locks_of}
use Rattle.host_facts.specs.Facts.Fact.{DeadRecord, Swept}
use Rattle.host_facts.specs.Knows.{Knows}
use Rattle.host_facts.specs.Replays.{IsReplay}
use Rattle.host_facts.specs.Views.{WorldView}
use Rattle.host_facts.specs.laws.ToldLaws.{sure_all}
use Rattle.recover_plan.specs.Replaying.{HasClaim, IsDue, IsDueAt, IsNamedBefore, IsReplaying}
use Rattle.recover_plan.specs.laws.StageLaws.{recoverer_on}

-- an edit of a list, by its number
abbrev pub edit_at : List Edit → ℕ → Edit
edit_at es k = slice_index_or es k (record { field = Head 0; number = 0 })

pub edit_get : (es : List Edit) (k : ℕ) → k < length es → slice_get es k ≡ Some (edit_at es k)
edit_get es k lt = slice_get-get_or es k (record { field = Head 0; number = 0 }) lt

-- what holds of all edits of a list holds of edit k
pub all_get : (P : Edit → Type 0) (es : List Edit) (k : ℕ) (e : Edit) → All P es → slice_get es k ≡ Some e → P e
all_get P [] k e each here = absurd cc
all_get P (x ∷ es) zero e each here = subst P (some_same x e here) (All-head P x es each)
all_get P (x ∷ es) (suc k) e each here = all_get P es k e (All-tail P x es each) here

-- the claim, as the facts ask for it
pub claims_slot : (v : WorldView) (h of dead : ℕ) → HasClaim v h of dead → Claims v.locks.geometry (host_at v.locks h) of
claims_slot v h of dead is = (is.base.below, λ none. is.some.0 (sym is.claim ∙ none))

pub claimed_some : (v : WorldView) (h of dead : ℕ) → HasClaim v h of dead → claim_of (host_at v.locks h) of ≢ 0
claimed_some v h of dead is = (claims_slot v h of dead is).1

-- none of the locks is swept yet
pub swept_none : (v : WorldView) (h of dead : ℕ) → HasClaim v h of dead → Knows v h (Swept of 0)
swept_none v h of dead is = record {
  guard = claims_slot v h of dead is;
  sure = sure_all v.locks h _ (λ image r has lt. absurd (omega (arith, lt)));
}

-- a volume has locks
pub some_locks : (v w : WorldView) → Consistent v.locks → w.locks.geometry ≡ v.locks.geometry → 0 < locks_of w.locks.geometry
some_locks v w is geometry =
    let range = is.geometry in subst (λ (g : Geometry). 0 < locks_of g) (sym geometry) (omega (arith, range.files))

-- it stays where the host has what it had in memory
pub claim_kept : (v w : WorldView) (h of dead : ℕ) → w.locks.geometry ≡ v.locks.geometry → host_at w.locks h ≡ host_at v.locks h
    → HasClaim v h of dead → HasClaim w h of dead
claim_kept v w h of dead geometry memory is = record {
  base = recoverer_on v w h of geometry (ap key_of memory) (ap (λ (m : HostState). m.joined) memory)
      (ap (λ (m : HostState). m.freed) memory) is.base;
  some = is.some;
  claim = ap (λ (m : HostState). claim_of m of) memory ∙ is.claim;
}

-- the table that is due may be written
abbrev pub due_replay : (v : WorldView) (h of : ℕ) (es : List Edit) (e : Edit) (which : Table) (kept : Packing)
    → Knows v h (DeadRecord of es) → which ≡ table_of e.field
    → IsDue v h of es e kept → IsReplay v h of which kept
due_replay v h of es e which kept known at due = record {
  field = e.field;
  here = sym at;
  edits = es;
  known = known;
  before = due.before;
  packing = subst (λ (t : Table). IsPackingOf v.locks.geometry t due.before) (sym at) due.packing;
  table = due.table;
  made_is = due.made_is ∙ ap (λ (t : Table). made t es due.before) (sym at);
}

pub due_at : (v : WorldView) (h of dead : ℕ) (es : List Edit) (k : ℕ) (which : Table) (kept : Packing) → IsReplaying v h of dead es k
    → ((e : Edit) → slice_get es k ≡ Some e → which ≡ table_of e.field) → IsDueAt v h of es k kept → IsReplay v h of which kept
due_at v h of dead es k which kept replaying at due =
    let here = edit_get es k replaying.more in
    due_replay v h of es (edit_at es k) which kept replaying.known (at (edit_at es k) here) (due (edit_at es k) here)

-- an earlier edit is of the table of edit k
pub named_before : (es : List Edit) (k i : ℕ) (which there : Table) → i < k → k < length es
    → ((e : Edit) → slice_get es k ≡ Some e → which ≡ table_of e.field) → ((e : Edit) → slice_get es i ≡ Some e → there ≡ table_of e.field)
    → there ≡ which → IsNamedBefore es k
named_before es k i which there lt more at before same e here =
    let one = edit_get es i (omega (arith, lt, more)) in (i, edit_at es i, lt, one, sym (at e here) ∙ sym same ∙ before (edit_at es i) one)

-- the table of edit k is that of none of the first n edits
abbrev pub AreOthers : List Edit → ℕ → ℕ → Type 0
AreOthers es k n =
    (i : ℕ) (e one : Edit) → i < n → slice_get es k ≡ Some e → slice_get es i ≡ Some one → table_of e.field ≢ table_of one.field

pub others_more : (es : List Edit) (k n : ℕ) (which there : Table) → ((e : Edit) → slice_get es k ≡ Some e → which ≡ table_of e.field)
    → ((e : Edit) → slice_get es n ≡ Some e → there ≡ table_of e.field) → there ≢ which → AreOthers es k n → AreOthers es k (n + 1)
others_more es k n which there at last other apart i e one lt here before same = elim (cases_eq i n) [
  | inl now ↦ other (last one (sym (ap (slice_get es) now) ∙ before) ∙ sym same ∙ sym (at e here))
  | inr earlier ↦ apart i e one (omega (arith, lt, earlier)) here before same
]

pub none_named : (es : List Edit) (k n : ℕ) → k < length es → k ≤ n → AreOthers es k n → IsNamedBefore es k → ⊥
none_named es k n more all apart named =
    let e = edit_get es k more in
    let one = named (edit_at es k) e in apart one.0 (edit_at es k) one.1 (omega (arith, one.2, all)) e one.3 one.4
