-- The records of a clone are right; all files stay but by the head, by which the clone is there.
use Rattle.std.proofs.Common.{◌≡◌, ◌≢◌, ◌≤◌, ◌<◌, ◌+◌, ◌^◌, ◌||◌, ◌⊎◌, ℕ, Bool, false, true, List, [], ◌∷◌, ◌++◌, length, None, refl, sym, ap, ◌∙◌, subst, inl, inr, arith, if◌then◌else◌}
use Rattle.std.specs.Prelude.{All, nat_lt}
use Rattle.std.proofs.lemmas.Bool.{cases_Bool, eq-eqb, ne_eqb}
use Rattle.std.proofs.lemmas.List.{length-append, length-map}
use Rattle.std.proofs.lemmas.List.Elements.{All-cons, All-head, All-tail}
use Rattle.std.proofs.lemmas.List.Sums.{sum_by-append, sum_by-cons}
use Rattle.vol_layout.specs.declared.geometry.Geometry.{Geometry}
use Rattle.vol_layout.specs.declared.field.Field.{Field}
use Rattle.vol_layout.specs.declared.field.Field.TheVariants.{Count, Pointer}
use Rattle.vol_layout.specs.declared.field.Edit.{Edit}
use Rattle.vol_layout.specs.Edits.{AreApart, IsEdit, edited, same_field, touches}
use Rattle.vol_layout.specs.Fields.{greatest_count}
use Rattle.vol_layout.specs.laws.EditLaws.{other_field-is, same_field-refl, touches-append}
use Rattle.image_view.specs.Balances.{Balances, edit, gained, lost, share_of}
use Rattle.image_view.specs.Held.{HoldsField}
use Rattle.image_view.specs.Images.{Image}
use Rattle.image_view.specs.Links.{marked}
use Rattle.image_view.specs.Numbers.{logical}
use Rattle.image_view.specs.Pointers.{IsUnmarked, named}
use Rattle.image_view.specs.Records.{IsRecord}
use Rattle.image_view.specs.Valid.{IsValid}
use Rattle.image_view.specs.laws.BalanceLaws.{HaveNoCount, balances-parts, one, share_named, share_none}
use Rattle.image_view.specs.laws.EditLaws.{edited_untouched}
use Rattle.image_view.specs.laws.UseLaws.{AreOf}
use Rattle.call_effects.specs.Changes.{Changes}
use Rattle.call_effects.specs.Clones.{IsClonable, IsCopied, IsRaised, IsSourceOf, cloned, given_by, marking, shared_pointers}
use Rattle.call_effects.specs.Places.{KeepsFiles}
use Rattle.call_effects.specs.Purges.{counted}
use Rattle.call_effects.specs.Shares.{CountsSlot, IsShared, LeavesShown, MayName}
use Rattle.call_effects.specs.laws.CountLaws.{apart-append}
use Rattle.call_effects.specs.laws.EachEdit.{all-append, all-both, all-none, all-weaker, the-edit}
use Rattle.call_effects.specs.laws.LinkLaws.{may-name-marked}
use Rattle.call_effects.specs.laws.PointerLaws.{content-named, fresh-unmarked, marked-range, named-marked}
use Rattle.call_effects.specs.laws.PurgeLaws.{counts-all, counted-counts}
use Rattle.call_effects.specs.laws.RecordLaws.{record-of}
use Rattle.call_effects.specs.laws.RoomLaws.{room-for}
use Rattle.call_effects.specs.laws.StayLaws.{stays-edited}

-- what holds of each marked pointer
marking_all : (P : Edit → Type 0) (Q : ℕ × ℕ → Type 0) (f : ℕ) (blocks : List (ℕ × ℕ))
    → ((p : ℕ × ℕ) → Q p → P (edit (Pointer f p.0) (marked p.1))) → All Q blocks → All P (marking f blocks)
marking_all P Q f [] give all = all-none P
marking_all P Q f (p ∷ blocks) give all =
    All-cons P (edit (Pointer f p.0) (marked p.1)) (marking f blocks) (give p (All-head Q p blocks all)) (marking_all P Q f blocks give (All-tail Q p blocks all))

-- what holds of two lists in a row, in both orders
either_order : (P : List Edit → Type 0) (first : Bool) (a b : List Edit) → P (a ++ b) → P (b ++ a) → P (if first then a ++ b else b ++ a)
either_order P true a b ab ba = ab
either_order P false a b ab ba = ba

pointers_all : (P : Edit → Type 0) (from to : ℕ) (blocks lone : List (ℕ × ℕ)) → All P (marking from lone) → All P (marking to blocks)
    → All P (shared_pointers from to blocks lone)
pointers_all P from to blocks lone marks copies =
    either_order (All P) (nat_lt from to) (marking from lone) (marking to blocks)
    (all-append P (marking from lone) (marking to blocks) marks copies) (all-append P (marking to blocks) (marking from lone) copies marks)

-- pointers of one file are no counts and no pointers of another file
marking_no_count : (f : ℕ) (blocks : List (ℕ × ℕ)) → HaveNoCount (marking f blocks)
marking_no_count f [] d = refl
marking_no_count f (p ∷ blocks) d = rw (other_field-is (Pointer f p.0) (Count d) (λ e. cc)) (marking_no_count f blocks d)

marking_other : (f h i : ℕ) (blocks : List (ℕ × ℕ)) → f ≢ h → touches (marking f blocks) (Pointer h i) ≡ false
marking_other f h i [] other = refl
marking_other f h i (p ∷ blocks) other = rw (other_field-is (Pointer f p.0) (Pointer h i) (λ e. other cc)) (marking_other f h i blocks other)

files_apart : (f h : ℕ) (mine theirs : List (ℕ × ℕ)) → f ≢ h → AreApart (marking f mine) → AreApart (marking h theirs)
    → AreApart (marking f mine ++ marking h theirs)
files_apart f h [] theirs other apart rest = rest
files_apart f h (p ∷ mine) theirs other apart rest = (
  touches-append (marking f mine) (marking h theirs) (Pointer f p.0) ∙ (let a = apart.0 in let b = marking_other h f p.0 theirs (λ e. other (sym e)) in rw (a, b) refl),
  files_apart f h mine theirs other apart.1 rest,
)

both_no_count : (from to : ℕ) (blocks lone : List (ℕ × ℕ)) → HaveNoCount (shared_pointers from to blocks lone)
both_no_count from to blocks lone d =
    let a = marking_no_count from lone d in
    let b = marking_no_count to blocks d in
    either_order (λ es. touches es (Count d) ≡ false) (nat_lt from to) (marking from lone) (marking to blocks)
    (touches-append (marking from lone) (marking to blocks) (Count d) ∙ rw (a, b) refl) (touches-append (marking to blocks) (marking from lone) (Count d) ∙ rw (b, a) refl)

-- a mark takes what it gives
marks_even : (g : Geometry) (image : Image) (key from : ℕ) (lone : List (ℕ × ℕ)) (d : ℕ) → All (IsSourceOf g image key from) lone
    → ((p : ℕ × ℕ) → IsSourceOf g image key from p → p.1 + 1 < 2 ^ 31)
    → lost (λ x. logical g image x) (marking from lone) d ≡ gained (marking from lone) d
marks_even g image key from [] d all small = refl
marks_even g image key from (p ∷ lone) d all small =
    let is = All-head (IsSourceOf g image key from) p lone all in
    let rest = marks_even g image key from lone d (All-tail (IsSourceOf g image key from) p lone all) small in
    let first : Edit = edit (Pointer from p.0) (marked p.1) in
    let taken = sum_by-cons (λ (e : Edit). share_of e.field (logical g image e.field) d) first (marking from lone) in
    let given = sum_by-cons (λ (e : Edit). share_of e.field e.number d) first (marking from lone) in
    let a = share_named (logical g image (Pointer from p.0)) p.1 d is.names in
    let b = share_named (marked p.1) p.1 d (named-marked p.1 (small p is)) in
    omega (arith, rest, taken, given, a, b)

-- the clone's pointers take nothing, and give what they name
copies_take : (g : Geometry) (image : Image) (to : ℕ) (blocks : List (ℕ × ℕ)) (d : ℕ)
    → All (λ p. logical g image (Pointer to p.0) ≡ 0) blocks → lost (λ x. logical g image x) (marking to blocks) d ≡ 0
copies_take g image to [] d all = refl
copies_take g image to (p ∷ blocks) d all =
    let rest = copies_take g image to blocks d (All-tail (λ (p : ℕ × ℕ). logical g image (Pointer to p.0) ≡ 0) p blocks all) in
    let none = share_none (logical g image (Pointer to p.0)) d (ap named (All-head (λ (p : ℕ × ℕ). logical g image (Pointer to p.0) ≡ 0) p blocks all)) in
    let taken = sum_by-cons (λ (e : Edit). share_of e.field (logical g image e.field) d) (edit (Pointer to p.0) (marked p.1)) (marking to blocks) in
    omega (arith, rest, none, taken)

copies_give : (to : ℕ) (blocks : List (ℕ × ℕ)) (d : ℕ) → All (λ p. p.1 + 1 < 2 ^ 31) blocks
    → gained (marking to blocks) d ≡ given_by blocks d
copies_give to [] d all = refl
copies_give to (p ∷ blocks) d all =
    let rest = copies_give to blocks d (All-tail (λ (p : ℕ × ℕ). p.1 + 1 < 2 ^ 31) p blocks all) in
    let given = sum_by-cons (λ (e : Edit). share_of e.field e.number d) (edit (Pointer to p.0) (marked p.1)) (marking to blocks) in
    let here = share_named (marked p.1) p.1 d (named-marked p.1 (All-head (λ (p : ℕ × ℕ). p.1 + 1 < 2 ^ 31) p blocks all)) in
    let sum = sum_by-cons (λ (p : ℕ × ℕ). one p.1 d) p blocks in
    omega (arith, rest, given, here, sum)

-- a data block whose count is not edited is given to none of them
none_given : (g : Geometry) (image : Image) (key from to : ℕ) (lone counts blocks : List (ℕ × ℕ)) (d : ℕ)
    → All (IsCopied g image key from to lone counts) blocks → touches (counted counts) (Count d) ≡ false → given_by blocks d ≡ 0
none_given g image key from to lone counts [] d all kept = refl
none_given g image key from to lone counts (p ∷ blocks) d all kept =
    let is = All-head (IsCopied g image key from to lone counts) p blocks all in
    let rest = none_given g image key from to lone counts blocks d (All-tail (IsCopied g image key from to lone counts) p blocks all) kept in
    let apart : p.1 ≢ d = λ e. absurd (let touched = is.is_counted in let same : touches (counted counts) (Count d) ≡ true = ap (λ (k : ℕ). touches (counted counts) (Count k)) (sym e) ∙ touched in cc) in
    let test = ne_eqb p.1 d apart in
    let none : one p.1 d ≡ 0 = rw test refl in
    let sum = sum_by-cons (λ (p : ℕ × ℕ). one p.1 d) p blocks in
    omega (arith, rest, none, sum)

-- an edit of a count that is raised by as many as the clone's pointers give it
abbrev Raises : Geometry → Image → List (ℕ × ℕ) → Edit → Type 0
Raises g image blocks e = (d : ℕ) → e.field ≡ Count d → e.number ≡ logical g image (Count d) + given_by blocks d

count_after : (g : Geometry) (image : Image) (key from to : ℕ) (blocks lone counts : List (ℕ × ℕ)) (d : ℕ)
    → IsClonable g image key from to blocks lone counts
    → edited (counted counts) (Count d) (logical g image (Count d)) ≡ logical g image (Count d) + given_by blocks d
count_after g image key from to blocks lone counts d is =
    elim (cases_Bool (touches (counted counts) (Count d))) [
      | inl touched ↦
          let each = counts-all (Raises g image blocks) (IsRaised g image key blocks) counts
          (λ p up k same. let number : p.0 ≡ k = cc in subst (λ (n : ℕ). p.1 ≡ logical g image (Count n) + given_by blocks n) number up.raised) is.raised in
          let the = the-edit (Raises g image blocks) (counted counts) (Count d) each touched in
          the.gives (logical g image (Count d)) ∙ the.holds d the.of
      | inr kept ↦
          let none = none_given g image key from to lone counts blocks d is.copied kept in
          let same = edited_untouched (counted counts) (Count d) (logical g image (Count d)) kept in
          omega (arith, none, same)
    ]

-- each data number of a clone is small enough for the mark
small_number : (g : Geometry) (counter : ℕ) (image : Image) (key from : ℕ) (p : ℕ × ℕ) → IsValid g counter image
    → IsSourceOf g image key from p → p.1 + 1 < 2 ^ 31
small_number g counter image key from p valid is = (fresh-unmarked g p.1 valid.geometry.0 is.there).1

balanced : (g : Geometry) (counter : ℕ) (image : Image) (key from to : ℕ) (blocks lone counts : List (ℕ × ℕ)) → IsValid g counter image
    → IsClonable g image key from to blocks lone counts → Balances g (λ x. logical g image x) (cloned from to blocks lone counts)
balanced g counter image key from to blocks lone counts valid is =
    let numbers = λ (x : Field). logical g image x in
    let marks = marking from lone in
    let copies = marking to blocks in
    balances-parts g numbers (shared_pointers from to blocks lone) (counted counts) (both_no_count from to blocks lone) (counted-counts counts)
    (λ d has.
    let taken = λ (e : Edit). share_of e.field (numbers e.field) d in
    let gives = λ (e : Edit). share_of e.field e.number d in
    let lost_is : lost numbers (shared_pointers from to blocks lone) d ≡ lost numbers marks d + lost numbers copies d =
    either_order (λ es. lost numbers es d ≡ lost numbers marks d + lost numbers copies d) (nat_lt from to) marks copies
    (sum_by-append taken marks copies) (let sum = sum_by-append taken copies marks in omega (arith, sum)) in
    let gained_is : gained (shared_pointers from to blocks lone) d ≡ gained marks d + gained copies d =
    either_order (λ es. gained es d ≡ gained marks d + gained copies d) (nat_lt from to) marks copies
    (sum_by-append gives marks copies) (let sum = sum_by-append gives copies marks in omega (arith, sum)) in
    let even = marks_even g image key from lone d is.sources (λ p source. small_number g counter image key from p valid source) in
    let none = copies_take g image to blocks d (all-weaker (IsCopied g image key from to lone counts) (λ p. logical g image (Pointer to p.0) ≡ 0) blocks (λ p c. c.hole) is.copied) in
    let given = copies_give to blocks d (all-weaker (IsCopied g image key from to lone counts) (λ p. p.1 + 1 < 2 ^ 31) blocks (λ p c. small_number g counter image key from p valid c.source) is.copied) in
    let after = count_after g image key from to blocks lone counts d is in
    omega (arith, lost_is, gained_is, even, none, given, after))

-- a mark of the source stands in the record
in_record : (from to : ℕ) (blocks lone counts : List (ℕ × ℕ)) (x : Field) → touches (marking from lone) x ≡ true
    → touches (cloned from to blocks lone counts) x ≡ true
in_record from to blocks lone counts x touched =
    let pointers : touches (shared_pointers from to blocks lone) x ≡ true =
    either_order (λ es. touches es x ≡ true) (nat_lt from to) (marking from lone) (marking to blocks)
    (touches-append (marking from lone) (marking to blocks) x ∙ rw touched refl)
    (touches-append (marking to blocks) (marking from lone) x ∙ rw touched (or_true (touches (marking to blocks) x))) in
    touches-append (shared_pointers from to blocks lone) (counted counts) x ∙ rw pointers refl
  where
    or_true : (b : Bool) → (b || true) ≡ true
    or_true true = refl
    or_true false = refl

-- a pointer of the source shares its data block, where it has the mark or gets it
shared_by : (g : Geometry) (image : Image) (key from to : ℕ) (blocks lone counts : List (ℕ × ℕ)) (p : ℕ × ℕ) → IsSourceOf g image key from p
    → (touches (marking from lone) (Pointer from p.0) ≡ true) ⊎ (IsUnmarked (logical g image (Pointer from p.0)) → ⊥)
    → IsShared g image (cloned from to blocks lone counts) p.1
shared_by g image key from to blocks lone counts p source mark =
    record {
      by = Pointer from p.0;
      has = source.held.0;
      names = share_named (logical g image (Pointer from p.0)) p.1 p.1 source.names ∙ (let same = eq-eqb p.1 p.1 refl in rw same refl);
      shown = elim mark [
        | inl touched ↦ inl (in_record from to blocks lone counts (Pointer from p.0) touched)
        | inr marked' ↦ inr marked'
      ];
    }

-- each mark touches its pointer
members : (f : ℕ) (all blocks : List (ℕ × ℕ))
    → ((i : ℕ) → touches (marking f blocks) (Pointer f i) ≡ true → touches (marking f all) (Pointer f i) ≡ true)
    → All (λ p. touches (marking f all) (Pointer f p.0) ≡ true) blocks
members f all [] within = all-none (λ (p : ℕ × ℕ). touches (marking f all) (Pointer f p.0) ≡ true)
members f all (p ∷ blocks) within =
    let here = same_field-refl (Pointer f p.0) in
    All-cons (λ (p : ℕ × ℕ). touches (marking f all) (Pointer f p.0) ≡ true) p blocks (within p.0 (rw here refl))
    (members f all blocks (λ i touched. within i (or_right (same_field (Pointer f p.0) (Pointer f i)) touched)))
  where
    or_right : {b : Bool} (a : Bool) → b ≡ true → (a || b) ≡ true
    or_right true is = refl
    or_right false is = is

copies_of : (g : Geometry) (image : Image) (key from to : ℕ) (lone counts blocks : List (ℕ × ℕ))
    → All (IsCopied g image key from to lone counts) blocks → AreOf g (marking to blocks)
copies_of g image key from to lone counts [] all = tt
copies_of g image key from to lone counts (p ∷ blocks) all =
    ((All-head (IsCopied g image key from to lone counts) p blocks all).held.0, copies_of g image key from to lone counts blocks (All-tail (IsCopied g image key from to lone counts) p blocks all))

-- a raised count has room
raised_fits : (g : Geometry) (counter : ℕ) (image : Image) (key from to : ℕ) (blocks lone counts : List (ℕ × ℕ)) (p : ℕ × ℕ)
    → IsValid g counter image → IsClonable g image key from to blocks lone counts → IsRaised g image key blocks p → p.1 ≤ greatest_count g
raised_fits g counter image key from to blocks lone counts p valid is up =
    let d = p.0 in
    let room = room-for g image (marking to blocks) d valid.geometry.0 is.blocks_apart (copies_of g image key from to lone counts blocks is.copied) in
    let none = copies_take g image to blocks d (all-weaker (IsCopied g image key from to lone counts) (λ p. logical g image (Pointer to p.0) ≡ 0) blocks (λ p c. c.hole) is.copied) in
    let given = copies_give to blocks d (all-weaker (IsCopied g image key from to lone counts) (λ p. p.1 + 1 < 2 ^ 31) blocks (λ p c. small_number g counter image key from p valid c.source) is.copied) in
    let count = valid.counted.counts d up.held.0 in
    omega (arith, room, none, given, count, up.raised)

pub record-clone : (g : Geometry) (counter : ℕ) (image : Image) (key from to : ℕ) (blocks lone counts : List (ℕ × ℕ))
    → IsValid g counter image → IsClonable g image key from to blocks lone counts → IsRecord g image key (cloned from to blocks lone counts)
record-clone g counter image key from to blocks lone counts valid is =
    let es = cloned from to blocks lone counts in
    let pointers = shared_pointers from to blocks lone in
    let last = counted counts in
    let Holds = λ (e : Edit). HoldsField g image key e.field in
    let Copied = IsCopied g image key from to lone counts in
    let Source = IsSourceOf g image key from in
    let Raised = IsRaised g image key blocks in
    let geometry = valid.geometry.0 in
    let small = λ (p : ℕ × ℕ) (source : Source p). small_number g counter image key from p valid source in
    let each = λ (P : Edit → Type 0) (copy : (p : ℕ × ℕ) → Copied p → P (edit (Pointer to p.0) (marked p.1))) (mark : (p : ℕ × ℕ) → Source p → P (edit (Pointer from p.0) (marked p.1))) (up : (p : ℕ × ℕ) → Raised p → P (edit (Count p.0) p.1)).
    all-append P pointers last
    (pointers_all P from to blocks lone (marking_all P Source from lone mark is.sources) (marking_all P Copied to blocks copy is.copied))
    (counts-all P Raised counts up is.raised) in
    let long = length-append pointers last in
    let marks_long = length-map lone (λ (p : ℕ × ℕ). edit (Pointer from p.0) (marked p.1)) in
    let copies_long = length-map blocks (λ (p : ℕ × ℕ). edit (Pointer to p.0) (marked p.1)) in
    let last_long = length-map counts (λ (p : ℕ × ℕ). edit (Count p.0) p.1) in
    let pointers_long : length pointers ≤ 4 =
    either_order (λ es. length es ≤ 4) (nat_lt from to) (marking from lone) (marking to blocks)
    (let sum = length-append (marking from lone) (marking to blocks) in omega (arith, sum, marks_long, copies_long, is.few, is.few_lone))
    (let sum = length-append (marking to blocks) (marking from lone) in omega (arith, sum, marks_long, copies_long, is.few, is.few_lone)) in
    let named' = marking_all (MayName g image es) (λ p. Source p × (touches (marking from lone) (Pointer from p.0) ≡ true)) from lone
    (λ p both. may-name-marked g image es from p.0 p.1 (small p both.0) (shared_by g image key from to blocks lone counts p both.0 (inl both.1)))
    (all-both Source (λ p. touches (marking from lone) (Pointer from p.0) ≡ true) lone is.sources (members from lone lone (λ i touched. touched))) in
    record-of g image key es valid.counted
    (record {
      few = omega (arith, long, pointers_long, last_long, is.as_many);
      each = each (IsEdit g) (λ p c. (c.held.0, marked-range g p.1 geometry c.source.there)) (λ p s. (s.held.0, marked-range g p.1 geometry s.there))
          (λ p up. (up.held.0, raised_fits g counter image key from to blocks lone counts p valid is up));
      apart = apart-append pointers last
          (either_order AreApart (nat_lt from to) (marking from lone) (marking to blocks) (files_apart from to lone blocks is.other is.lone_apart is.blocks_apart)
          (files_apart to from blocks lone (λ e. is.other (sym e)) is.blocks_apart is.lone_apart))
          (both_no_count from to blocks lone) (counted-counts counts) is.counts_apart;
    })
    (each Holds (λ p c. c.held) (λ p s. s.held) (λ p up. up.held))
    (balanced g counter image key from to blocks lone counts valid is)
    (all-append (MayName g image es) pointers last
    (pointers_all (MayName g image es) from to blocks lone named'
    (marking_all (MayName g image es) Copied to blocks
    (λ p c. may-name-marked g image es to p.0 p.1 (small p c.source) (shared_by g image key from to blocks lone counts p c.source c.mark)) is.copied))
    (counts-all (MayName g image es) Raised counts (λ p up k some. absurd (some refl)) is.raised))
    (each (CountsSlot g image es) (λ p c s k same names. absurd cc) (λ p s t k same names. absurd cc) (λ p up s k same names. absurd cc))

-- a file that is not there shows nothing, and the source shows what it showed
pub stays-clone : (g : Geometry) (counter : ℕ) (old new : Image) (key from to : ℕ) (blocks lone counts : List (ℕ × ℕ))
    → IsValid g counter old → IsClonable g old key from to blocks lone counts → Changes g (cloned from to blocks lone counts) None old new
    → KeepsFiles old new
stays-clone g counter old new key from to blocks lone counts valid is step =
    let Leaves = λ (e : Edit). LeavesShown g old e.field e.number in
    stays-edited g counter (cloned from to blocks lone counts) old new valid (record-clone g counter old key from to blocks lone counts valid is).edits.each
    (all-append Leaves (shared_pointers from to blocks lone) (counted counts)
    (pointers_all Leaves from to blocks lone
    (marking_all Leaves (IsSourceOf g old key from) from lone
    (λ p s. inr (content-named g old (marked p.1) p.1 (named-marked p.1 (small_number g counter old key from p valid s)) ∙ sym (content-named g old (logical g old (Pointer from p.0)) p.1 s.names))) is.sources)
    (marking_all Leaves (IsCopied g old key from to lone counts) to blocks (λ p c. inl (let none = is.absent in omega (arith, none))) is.copied))
    (counts-all Leaves (IsRaised g old key blocks) counts (λ p up. tt) is.raised)) step
