-- The edits of a purge, added one by one.
use Rattle.std.proofs.Common.{◌≡◌, ◌<◌, ◌≤◌, ◌+◌, ◌-◌, ◌++◌, ◌∷◌, [], ℕ, zero, suc, false, List, None, Option, Some, refl, ap, sym, subst, ◌∙◌, arith, drop, length, take}
use Rattle.std.specs.Prelude.{slice_get}
use Rattle.std.specs.Option.{option_to_list}
use Rattle.std.proofs.lemmas.Bool.{or_parts}
use Rattle.std.proofs.lemmas.List.{append-nil, append_assoc, length-append, length-map}
use Rattle.vol_base.specs.Packing.{Packing}
use Rattle.vol_layout.specs.declared.field.Edit.{Edit}
use Rattle.vol_layout.specs.declared.field.Field.TheVariants.{Count, Pointer}
use Rattle.vol_layout.specs.Edits.{AreApart, touches}
use Rattle.vol_layout.specs.laws.EditLaws.{other_field-is, other_field-sym, touches-append}
use Rattle.image_view.specs.Balances.{edit}
use Rattle.table_blocks.specs.Tables.{number_in}
use Rattle.journal_block.specs.JournalRecord.{JournalRecord}
use Rattle.call_effects.specs.Purges.{counted, emptied, purged}
use Rattle.file_plans.specs.Commits.{blocks_from, bound_behind, counts_of, indexes_of, lowered_in, lowest_from, named_in}
use Rattle.file_plans.specs.declared.remains.Remain.{Remain}
use Rattle.file_plans.specs.laws.BlocksLaws.{IsFirst, first_is}
use Rattle.file_plans.specs.laws.PutLaws.{added_other}

-- from one remain on they are left to add
pub record IsEmptying (f : ℕ) (rs : List Remain) (k : ℕ) (start now : JournalRecord) : Type 0 where
  pub key : now.key ≡ start.key
  pub rest : now.edits ++ emptied f (indexes_of (drop k rs)) ≡ emptied f (indexes_of rs)

pub emptying_first : (f : ℕ) (rs : List Remain) (start : JournalRecord) → 1 ≤ length rs → start.edits ≡ emptied f (indexes_of (take 1 rs))
    → IsEmptying f rs 1 start start
emptying_first f [] start some first = absurd (omega (arith, some))
emptying_first f (r ∷ rs) start some first = record {
  key = refl;
  rest = ap (λ (es : List Edit). es ++ emptied f (indexes_of rs)) first;
}

drop_next : (rs : List Remain) (k : ℕ) (r : Remain) → slice_get rs k ≡ Some r → drop k rs ≡ r ∷ drop (suc k) rs
drop_next [] k r is = absurd cc
drop_next (s ∷ rs) zero r is = let same : s ≡ r = cc in ap (λ (q : Remain). q ∷ rs) same
drop_next (s ∷ rs) (suc k) r is = drop_next rs k r is

module _ (f : ℕ) (rs : List Remain) (k m : ℕ) (start now : JournalRecord) (r : Remain) (e : Edit) (emptying : IsEmptying f rs k start now)
    (get : slice_get rs k ≡ Some r) (hole : e ≡ edit (Pointer f r.index) 0) (last : m ≡ k + 1) where
  whole : now.edits ++ edit (Pointer f r.index) 0 ∷ emptied f (indexes_of (drop m rs)) ≡ emptied f (indexes_of rs)
  whole =
      let next : suc k ≡ m = omega (arith, last) in
      ap (λ (n : ℕ). now.edits ++ edit (Pointer f r.index) 0 ∷ emptied f (indexes_of (drop n rs))) (sym next)
      ∙ ap (λ (qs : List Remain). now.edits ++ emptied f (indexes_of qs)) (sym (drop_next rs k r get)) ∙ emptying.rest

  pub emptying_next : (then' : JournalRecord) → then' ≡ record now { edits = now.edits ++ e ∷ [] } → IsEmptying f rs m start then'
  emptying_next then' added =
      let added' : then' ≡ record { key = now.key; edits = now.edits ++ edit (Pointer f r.index) 0 ∷ [] } =
      added ∙ ap (λ (d : Edit). let s : JournalRecord = record { key = now.key; edits = now.edits ++ d ∷ [] } in s) hole in record {
        key = ap (λ (s : JournalRecord). s.key) added' ∙ emptying.key;
        rest = ap (λ (s : JournalRecord). s.edits ++ emptied f (indexes_of (drop m rs))) added'
            ∙ append_assoc now.edits (edit (Pointer f r.index) 0 ∷ []) (emptied f (indexes_of (drop m rs))) ∙ whole;
      }

  -- the edits are apart, so the next one is of no field of theirs
  pub emptying_other : AreApart (emptied f (indexes_of rs)) → touches now.edits e.field ≡ false
  emptying_other apart =
      subst (λ (d : Edit). touches now.edits d.field ≡ false) (sym hole)
      (ahead now.edits (edit (Pointer f r.index) 0) (emptied f (indexes_of (drop m rs))) (subst AreApart (sym whole) apart))
    where
      ahead : (es : List Edit) (d : Edit) (more : List Edit) → AreApart (es ++ d ∷ more) → touches es d.field ≡ false
      ahead [] d more apart = refl
      ahead (c ∷ es) d more apart =
          let all = touches-append es (d ∷ more) c.field in
          let none = or_parts (touches es c.field) (touches (d ∷ more) c.field) (sym all ∙ apart.0) in
          let here = or_parts _ (touches more c.field) none.1 in
          let other = other_field-sym d.field c.field here.0 in
          let later = ahead es d more apart.1 in rw (other, later) refl

  -- and there is room
  pub emptying_room : length rs ≤ 4 → length now.edits < 8
  emptying_room few =
      let all = ap (λ (es : List Edit). length es) whole in
      let parts = length-append now.edits (edit (Pointer f r.index) 0 ∷ emptied f (indexes_of (drop m rs))) in
      let one = length-map (indexes_of rs) (λ (i : ℕ). edit (Pointer f i) 0) in
      let two = length-map rs (λ (r : Remain). r.index) in
      omega (arith, all, parts, one, two, few)

pub emptying_last : (f : ℕ) (rs : List Remain) (start now : JournalRecord) (k : ℕ) → IsEmptying f rs k start now → drop k rs ≡ []
    → now ≡ record start { edits = emptied f (indexes_of rs) }
emptying_last f rs start now k emptying none =
    let all : now.edits ≡ emptied f (indexes_of rs) =
    sym (append-nil now.edits) ∙ ap (λ (qs : List Remain). now.edits ++ emptied f (indexes_of qs)) (sym none) ∙ emptying.rest in
    ap (λ (n : ℕ). let s : JournalRecord = record { key = n; edits = now.edits } in s) emptying.key
    ∙ ap (λ (es : List Edit). let s : JournalRecord = record start { edits = es } in s) all

-- counts of blocks from a bound upwards are left to add
pub record IsCounting (table : Packing) (rs : List Remain) (k from : ℕ) (start now : JournalRecord) : Type 0 where
  pub key : now.key ≡ start.key
  pub rest : now.edits ++ counted (lowered_in table rs (blocks_from k from rs)) ≡ start.edits ++ counted (counts_of table rs)
  pub room : length now.edits + k ≤ 8
  pub other : (d : ℕ) → from ≤ d → touches now.edits (Count d) ≡ false

pub counting_first : (table : Packing) (rs : List Remain) (start : JournalRecord) (k : ℕ) → k ≡ length rs → length rs ≤ 4
    → length start.edits ≤ 4 → ((d : ℕ) → touches start.edits (Count d) ≡ false) → IsCounting table rs k 0 start start
counting_first table rs start k all few room none = record {
  key = refl;
  rest = ap (λ (n : ℕ). start.edits ++ counted (lowered_in table rs (blocks_from n 0 rs))) all;
  room = omega (arith, all, few, room);
  other = λ d past. none d;
}

module _ (table : Packing) (rs : List Remain) (start now then' : JournalRecord) (k m from : ℕ) (last : m ≡ suc k)
    (counting : IsCounting table rs m from start now) where
  abbrev lowered : List ℕ → List Edit
  lowered bs = counted (lowered_in table rs bs)

  counting_by : (o : Option ℕ) → IsFirst from rs o
      → now.edits ++ lowered (option_to_list o ++ blocks_from k (bound_behind from o) rs) ≡ start.edits ++ counted (counts_of table rs)
      → then' ≡ record now { edits = now.edits ++ lowered (option_to_list o) } → IsCounting table rs k (bound_behind from o) start then'
  counting_by None is rest added =
      let same : then' ≡ now = added ∙ ap (λ (es : List Edit). let s : JournalRecord = record now { edits = es } in
      s) (append-nil now.edits) in
      let room = counting.room in
      subst (IsCounting table rs k from start) (sym same) (record {
        key = counting.key;
        rest = rest;
        room = omega (arith, room, last);
        other = counting.other;
      })
  counting_by (Some b) is rest added =
      let one = edit (Count b) (number_in table (Count b) - named_in rs b) in
      let long = length-append now.edits (one ∷ []) in
      let room = counting.room in
      subst (IsCounting table rs k (b + 1) start) (sym added) (record {
        key = counting.key;
        rest = append_assoc now.edits (one ∷ []) (lowered (blocks_from k (b + 1) rs)) ∙ rest;
        room = omega (arith, long, room, last);
        other = λ d past. added_other now.edits one (Count d) (counting.other d (let low = is.low in omega (arith, past, low)))
            (λ same. let field : b ≡ d = cc in absurd (omega (arith, field, past)));
      })

  pub counting_next : (behind : ℕ)
      → then' ≡ record now { edits = now.edits ++ counted (lowered_in table rs (option_to_list (lowest_from from rs))) }
      → behind ≡ bound_behind from (lowest_from from rs) → IsCounting table rs k behind start then'
  counting_next behind added at =
      subst (λ (b : ℕ). IsCounting table rs k b start then') (sym at)
      (counting_by (lowest_from from rs) (first_is from rs)
      (subst (λ (n : ℕ). now.edits ++ counted (lowered_in table rs (blocks_from n from rs)) ≡ start.edits ++ counted (counts_of table rs))
      last counting.rest) added)

pub counting_last : (table : Packing) (rs : List Remain) (from : ℕ) (start now : JournalRecord) → IsCounting table rs 0 from start now
    → now ≡ record start { edits = start.edits ++ counted (counts_of table rs) }
counting_last table rs from start now counting =
    let all : now.edits ≡ start.edits ++ counted (counts_of table rs) = sym (append-nil now.edits) ∙ counting.rest in
    ap (λ (n : ℕ). let s : JournalRecord = record { key = n; edits = now.edits } in s) counting.key
    ∙ ap (λ (es : List Edit). let s : JournalRecord = record start { edits = es } in s) all

-- all edits of a purge
pub purge_entry : (key file f : ℕ) (a : List Edit) (first holes all : JournalRecord) (rs : List Remain) (table : Packing)
    → first ≡ record { key = key; edits = a } → holes ≡ record first { edits = emptied file (indexes_of rs) }
    → all ≡ record holes { edits = holes.edits ++ counted (counts_of table rs) } → file ≡ f
    → all ≡ record { key = key; edits = purged f (indexes_of rs) (counts_of table rs) }
purge_entry key file f a first holes all rs table first_is holes_is all_is same =
    let holes' : holes ≡ record { key = key; edits = emptied f (indexes_of rs) } =
    holes_is ∙ ap (λ (r : JournalRecord). let s : JournalRecord = record { key = r.key; edits = emptied file (indexes_of rs) } in
    s) first_is
    ∙ ap (λ (n : ℕ). let s : JournalRecord = record { key = key; edits = emptied n (indexes_of rs) } in s) same in
    all_is
    ∙ ap (λ (r : JournalRecord). let s : JournalRecord = record r { edits = r.edits ++ counted (counts_of table rs) } in s) holes'

-- remains are edited ahead of all counts
holes_untouched : (f d : ℕ) (is : List ℕ) → touches (emptied f is) (Count d) ≡ false
holes_untouched f d [] = refl
holes_untouched f d (i ∷ is) =
    let other = other_field-is (Pointer f i) (Count d) (λ e. cc) in let later = holes_untouched f d is in rw (other, later) refl

pub holes_other : (f : ℕ) (rs : List Remain) (first holes : JournalRecord) → holes ≡ record first { edits = emptied f (indexes_of rs) }
    → (d : ℕ) → touches holes.edits (Count d) ≡ false
holes_other f rs first holes is d = ap (λ (r : JournalRecord). touches r.edits (Count d)) is ∙ holes_untouched f d (indexes_of rs)
