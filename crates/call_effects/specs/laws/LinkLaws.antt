-- The record of a link is right, all files stay by it, and it is the step by which two equal blocks come to be one.
use Rattle.std.proofs.Common.{◌≡◌, ◌≢◌, ◌≤◌, ◌<◌, ◌+◌, ◌^◌, ℕ, false, List, ◌∷◌, length, None, Some, refl, sym, ap, ◌∙◌, subst, inl, inr, arith}
use Rattle.std.specs.Prelude.{All}
use Rattle.std.proofs.lemmas.Bool.{cases_eq, ne_eqb}
use Rattle.std.proofs.lemmas.List.Elements.{All-cons}
use Rattle.vol_base.specs.declared.block.Block.{Block}
use Rattle.vol_layout.specs.declared.geometry.Geometry.{Geometry}
use Rattle.vol_layout.specs.declared.kind.Kind.TheVariants as kinds
use Rattle.vol_layout.specs.declared.field.Field.{Field}
use Rattle.vol_layout.specs.declared.field.Field.TheVariants.{Count, Head, Pointer, Slot}
use Rattle.vol_layout.specs.declared.field.Edit.{Edit}
use Rattle.vol_layout.specs.Edits.{AreApart, IsEdit, edited, touches}
use Rattle.vol_layout.specs.Fields.{greatest_count}
use Rattle.vol_layout.specs.laws.EditLaws.{other_field-is, same_field-refl, touches-at}
use Rattle.image_view.specs.Balances.{Balances, edit, share}
use Rattle.image_view.specs.Held.{HoldsField}
use Rattle.image_view.specs.Images.{Image, block_at}
use Rattle.image_view.specs.Links.{IsLink, SourceAfter, marked}
use Rattle.image_view.specs.Numbers.{logical}
use Rattle.image_view.specs.Pointers.{named}
use Rattle.image_view.specs.Records.{IsRecord}
use Rattle.image_view.specs.Valid.{IsValid}
use Rattle.image_view.specs.laws.BalanceLaws.{balances-link, balances-move, share_named}
use Rattle.image_view.specs.laws.EditLaws.{edited_untouched}
use Rattle.image_view.specs.laws.FileLaws.{logical_in_range, used_once}
use Rattle.call_effects.specs.Changes.{Changes}
use Rattle.call_effects.specs.Counts.{counts_moved}
use Rattle.call_effects.specs.Links.{IsLinkable, IsSource, Unmarked, linked}
use Rattle.call_effects.specs.Places.{KeepsFiles}
use Rattle.call_effects.specs.Shares.{CountsSlot, IsShared, LeavesShown, MayName}
use Rattle.call_effects.specs.laws.CountLaws.{counts-untouched, moved-all, moved-apart, moved-are-counts, moved-from, moved-length, moved-moves, moved-others, moved-to}
use Rattle.call_effects.specs.laws.PointerLaws.{content-named, named-share, fresh-unmarked, marked-is, marked-not_lone, marked-range, named-marked}
use Rattle.call_effects.specs.laws.RecordLaws.{record-of}
use Rattle.call_effects.specs.laws.RoomLaws.{room-for-one}
use Rattle.call_effects.specs.laws.StayLaws.{stays-edited}

-- what holds of each edit of a link
linked_all : (P : Edit → Type 0) (f i to : ℕ) (unmarked : Unmarked) (counts : List Edit) → P (edit (Pointer f i) (marked to))
    → ((at : ℕ × ℕ) → unmarked ≡ Some at → P (edit (Pointer at.0 at.1) (marked to))) → All P counts → All P (linked f i to unmarked counts)
linked_all P f i to None counts pointer source rest = All-cons P (edit (Pointer f i) (marked to)) counts pointer rest
linked_all P f i to (Some at) counts pointer source rest =
    All-cons P (edit (Pointer f i) (marked to)) (edit (Pointer at.0 at.1) (marked to) ∷ counts) pointer
    (All-cons P (edit (Pointer at.0 at.1) (marked to)) counts (source at refl) rest)

-- the source of a link: it shares its data block with the pointer that is linked
shared_by : (g : Geometry) (image : Image) (key f i from to n m : ℕ) (source : Field) (unmarked : Unmarked) (counts : List Edit)
    → IsLinkable g image key f i from to n m source unmarked → IsShared g image (linked f i to unmarked counts) to
shared_by g image key f i from to n m source None counts is = record { by = source; has = is.has; names = is.source_names; shown = inr is.is_source }
shared_by g image key f i from to n m source (Some at) counts is =
    record {
      by = source;
      has = is.has;
      names = is.source_names;
      shown = inl (ap (touches (linked f i to (Some at) counts)) is.is_source.0 ∙ touches-at (linked f i to (Some at) counts) 1 (edit (Pointer at.0 at.1) (marked to)) refl);
    }

-- an edit that marks a pointer to the shared data block may name it
pub may-name-marked : (g : Geometry) (image : Image) (es : List Edit) (f i to : ℕ) → to + 1 < 2 ^ 31 → IsShared g image es to
    → MayName g image es (edit (Pointer f i) (marked to))
may-name-marked g image es f i to small shared e some =
    elim (cases_eq to e) [
      | inl here ↦ inr (subst (IsShared g image es) here shared, marked-not_lone to)
      | inr other ↦ absurd (some (share_named (marked to) to e (named-marked to small) ∙ (let apart = ne_eqb to e other in rw apart refl)))
    ]

balanced : (g : Geometry) (image : Image) (key f i from to n m : ℕ) (source : Field) (unmarked : Unmarked) → to + 1 < 2 ^ 31 → 1 ≤ n
    → IsLinkable g image key f i from to n m source unmarked
    → Balances g (λ x. logical g image x) (linked f i to unmarked (counts_moved from to n m))
balanced g image key f i from to n m source None small some is =
    balances-move g (λ x. logical g image x) f i (marked to) from to (counts_moved from to n m) is.names (named-marked to small)
    (moved-moves (λ x. logical g image x) from to n m is.other (sym is.left_is) (sym is.taken_is) some)
balanced g image key f i from to n m source (Some at) small some is =
    let source_is : named (logical g image (Pointer at.0 at.1)) ≡ Some to =
    ap (λ (x : Field). named (logical g image x)) (sym is.is_source.0) ∙ named-share source (logical g image source) to is.source_names in
    balances-link g (λ x. logical g image x) f i (marked to) at.0 at.1 (marked to) from to (counts_moved from to n m) is.names (named-marked to small) source_is (named-marked to small)
    (moved-moves (λ x. logical g image x) from to n m is.other (sym is.left_is) (sym is.taken_is) some)

-- a source without the mark is another pointer
source_apart : (g : Geometry) (image : Image) (key f i from to n m : ℕ) (source : Field) (at : ℕ × ℕ)
    → IsLinkable g image key f i from to n m source (Some at) → Pointer at.0 at.1 ≢ Pointer f i
source_apart g image key f i from to n m source at is same =
    let names : named (logical g image (Pointer f i)) ≡ Some to =
    ap (λ (x : Field). named (logical g image x)) (sym same ∙ sym is.is_source.0) ∙ named-share source (logical g image source) to is.source_names in
    let first = is.names in
    is.other cc

few_apart : (g : Geometry) (image : Image) (key f i from to n m : ℕ) (source : Field) (unmarked : Unmarked)
    → IsLinkable g image key f i from to n m source unmarked
    → (length (linked f i to unmarked (counts_moved from to n m)) ≤ 8) × AreApart (linked f i to unmarked (counts_moved from to n m))
few_apart g image key f i from to n m source None is =
    let long = moved-length from to n m in
    (omega (arith, long), (counts-untouched (counts_moved from to n m) (Pointer f i) (moved-are-counts from to n m) (λ k e. cc), moved-apart from to n m is.other))
few_apart g image key f i from to n m source (Some at) is =
    let long = moved-length from to n m in
    let are = moved-are-counts from to n m in
    let other = other_field-is (Pointer at.0 at.1) (Pointer f i) (source_apart g image key f i from to n m source at is) in (
      omega (arith, long),
      (
        rw other (counts-untouched (counts_moved from to n m) (Pointer f i) are (λ k e. cc)),
        (counts-untouched (counts_moved from to n m) (Pointer at.0 at.1) are (λ k e. cc), moved-apart from to n m is.other),
      ),
    )

held_source : (g : Geometry) (image : Image) (key : ℕ) (source : Field) (unmarked : Unmarked) → IsSource g image key source unmarked
    → (at : ℕ × ℕ) → unmarked ≡ Some at → HoldsField g image key (Pointer at.0 at.1)
held_source g image key source None is at same = absurd cc
held_source g image key source (Some found) is at same =
    let here : found ≡ at = cc in
    subst (λ (p : ℕ × ℕ). HoldsField g image key (Pointer p.0 p.1)) here is.1

pub record-link : (g : Geometry) (counter : ℕ) (image : Image) (key f i from to n m : ℕ) (source : Field) (unmarked : Unmarked)
    → IsValid g counter image → IsLinkable g image key f i from to n m source unmarked
    → IsRecord g image key (linked f i to unmarked (counts_moved from to n m))
record-link g counter image key f i from to n m source unmarked valid is =
    let counts = counts_moved from to n m in
    let es = linked f i to unmarked counts in
    let geometry = valid.geometry.0 in
    let small = (fresh-unmarked g to geometry is.taken.0).1 in
    let used = used_once g image f i from is.pointer.0 is.names in
    let counted = valid.counted.counts from is.left.0 in
    let some : 1 ≤ n = omega (arith, used, counted, is.left_is) in
    let away : share (logical g image (Pointer f i)) to ≡ 0 =
    share_named (logical g image (Pointer f i)) from to is.names ∙ (let apart = ne_eqb from to is.other in rw apart refl) in
    let room = room-for-one g image f i to geometry is.pointer.0 is.taken.0 away in
    let uses_is = valid.counted.counts to is.taken.0 in
    let range : logical g image (Count from) ≤ greatest_count g = logical_in_range g counter image (Count from) valid is.left.0 in
    let apart = few_apart g image key f i from to n m source unmarked is in
    let shared = shared_by g image key f i from to n m source unmarked counts is in
    let held = held_source g image key source unmarked is.is_source in
    record-of g image key es valid.counted
    (record {
      few = apart.0;
      each = linked_all (IsEdit g) f i to unmarked counts (is.pointer.0, marked-range g to geometry is.taken.0)
          (λ at same. ((held at same).0, marked-range g to geometry is.taken.0))
          (moved-all (IsEdit g) from to n m (is.left.0, omega (arith, range, is.left_is)) (is.taken.0, omega (arith, room, uses_is, is.taken_is)));
      apart = apart.1;
    })
    (linked_all (λ (e : Edit). HoldsField g image key e.field) f i to unmarked counts is.pointer held
    (moved-all (λ (e : Edit). HoldsField g image key e.field) from to n m is.left is.taken))
    (balanced g image key f i from to n m source unmarked small some is)
    (linked_all (MayName g image es) f i to unmarked counts (may-name-marked g image es f i to small shared) (λ at same. may-name-marked g image es at.0 at.1 to small shared)
    (moved-all (MayName g image es) from to n m (λ e given. absurd (given refl)) (λ e given. absurd (given refl))))
    (linked_all (CountsSlot g image es) f i to unmarked counts (λ s k of given. absurd cc) (λ at same s k of given. absurd cc)
    (moved-all (CountsSlot g image es) from to n m (λ s k of given. absurd cc) (λ s k of given. absurd cc)))

-- the pointer shows the same bytes as before, and so does the source
pub stays-link : (g : Geometry) (counter : ℕ) (old new : Image) (key f i from to n m : ℕ) (source : Field) (unmarked : Unmarked)
    → IsValid g counter old → IsLinkable g old key f i from to n m source unmarked
    → block_at g old (kinds.Number from) ≡ block_at g old (kinds.Number to)
    → Changes g (linked f i to unmarked (counts_moved from to n m)) None old new → KeepsFiles old new
stays-link g counter old new key f i from to n m source unmarked valid is same step =
    let counts = counts_moved from to n m in
    let es = linked f i to unmarked counts in
    let small = (fresh-unmarked g to valid.geometry.0 is.taken.0).1 in
    let shows = content-named g old (marked to) to (named-marked to small) in
    let block = λ (bytes : List ℕ). let b : Block = record { 0 = bytes } in b in
    stays-edited g counter es old new valid (record-link g counter old key f i from to n m source unmarked valid is).edits.each
    (linked_all (λ (e : Edit). LeavesShown g old e.field e.number) f i to unmarked counts
    (inr (shows ∙ ap block (sym same) ∙ sym (content-named g old (logical g old (Pointer f i)) from is.names)))
    (λ at here. inr (shows ∙ sym (content-named g old (logical g old (Pointer at.0 at.1)) to (source_is at here))))
    (moved-all (λ (e : Edit). LeavesShown g old e.field e.number) from to n m tt tt)) step
  where
    source_is : (at : ℕ × ℕ) → unmarked ≡ Some at → named (logical g old (Pointer at.0 at.1)) ≡ Some to
    source_is at here =
        let is_source = subst (IsSource g old key source) here is.is_source in
        ap (λ (x : Field). named (logical g old x)) (sym is_source.0) ∙ named-share source (logical g old source) to is.source_names

-- the pointer of the link, its source and the two counts are edited, and no other field
not_touched : (f i from to n m : ℕ) (unmarked : Unmarked) (x : Field) → Pointer f i ≢ x
    → ((at : ℕ × ℕ) → unmarked ≡ Some at → Pointer at.0 at.1 ≢ x) → x ≢ Count from → x ≢ Count to
    → touches (linked f i to unmarked (counts_moved from to n m)) x ≡ false
not_touched f i from to n m None x pointer source not_from not_to = rw (other_field-is (Pointer f i) x pointer) (moved-others from to n m x not_from not_to)
not_touched f i from to n m (Some at) x pointer source not_from not_to =
    rw (other_field-is (Pointer f i) x pointer, other_field-is (Pointer at.0 at.1) x (source at refl)) (moved-others from to n m x not_from not_to)

-- a count is edited as the counts say
count_is : (f i to : ℕ) (unmarked : Unmarked) (counts : List Edit) (d k : ℕ)
    → edited (linked f i to unmarked counts) (Count d) k ≡ edited counts (Count d) k
count_is f i to None counts d k = rw (other_field-is (Pointer f i) (Count d) (λ e. cc)) refl
count_is f i to (Some at) counts d k = rw (other_field-is (Pointer f i) (Count d) (λ e. cc), other_field-is (Pointer at.0 at.1) (Count d) (λ e. cc)) refl

pointer_is : (f i to : ℕ) (unmarked : Unmarked) (counts : List Edit) (k : ℕ)
    → edited (linked f i to unmarked counts) (Pointer f i) k ≡ marked to
pointer_is f i to None counts k = let here = same_field-refl (Pointer f i) in rw here refl
pointer_is f i to (Some at) counts k = let here = same_field-refl (Pointer f i) in rw here refl

source_is : (g : Geometry) (counter : ℕ) (old new : Image) (key f i from to n m : ℕ) (source : Field) (unmarked : Unmarked)
    → IsValid g counter old → IsLinkable g old key f i from to n m source unmarked
    → Changes g (linked f i to unmarked (counts_moved from to n m)) None old new
    → SourceAfter source to (logical g old source) (logical g new source)
source_is g counter old new key f i from to n m (Pointer h j) None valid is step =
    let names = named-share (Pointer h j) (logical g old (Pointer h j)) to is.source_names in
    let apart : Pointer f i ≢ Pointer h j = λ e. (let first = is.names in let same : named (logical g old (Pointer f i)) ≡ Some to = ap (λ (x : Field). named (logical g old x)) e ∙ names in is.other cc) in
    step.numbers (Pointer h j) is.has
    ∙ edited_untouched (linked f i to None (counts_moved from to n m)) (Pointer h j) (logical g old (Pointer h j))
    (not_touched f i from to n m None (Pointer h j) apart (λ at e. absurd cc) (λ e. cc) (λ e. cc))
    ∙ marked-is g (logical g old (Pointer h j)) to (logical_in_range g counter old (Pointer h j) valid is.has) names is.is_source
source_is g counter old new key f i from to n m (Pointer h j) (Some at) valid is step =
    let here : Pointer h j ≡ Pointer at.0 at.1 = is.is_source.0 in
    let other = other_field-is (Pointer f i) (Pointer at.0 at.1) (λ e. source_apart g old key f i from to n m (Pointer h j) at is (sym e)) in
    let self = same_field-refl (Pointer at.0 at.1) in
    let given : edited (linked f i to (Some at) (counts_moved from to n m)) (Pointer at.0 at.1) (logical g old (Pointer h j)) ≡ marked to = rw (other, self) refl in
    step.numbers (Pointer h j) is.has
    ∙ ap (λ (x : Field). edited (linked f i to (Some at) (counts_moved from to n m)) x (logical g old (Pointer h j))) here ∙ given
source_is g counter old new key f i from to n m (Slot s) None valid is step =
    step.numbers (Slot s) is.has
    ∙ edited_untouched (linked f i to None (counts_moved from to n m)) (Slot s) (logical g old (Slot s))
    (not_touched f i from to n m None (Slot s) (λ e. cc) (λ at e. absurd cc) (λ e. cc) (λ e. cc))
source_is g counter old new key f i from to n m (Slot s) (Some at) valid is step = absurd (let here : Slot s ≡ Pointer at.0 at.1 = is.is_source.0 in cc)
source_is g counter old new key f i from to n m (Head h) unmarked valid is step = absurd (omega (arith, is.source_names))
source_is g counter old new key f i from to n m (Count d) unmarked valid is step = absurd (omega (arith, is.source_names))

-- two equal blocks come to be one
pub link-is : (g : Geometry) (counter : ℕ) (old new : Image) (key f i from to n m : ℕ) (source : Field) (unmarked : Unmarked)
    → IsValid g counter old → IsLinkable g old key f i from to n m source unmarked
    → block_at g old (kinds.Number from) ≡ block_at g old (kinds.Number to)
    → Changes g (linked f i to unmarked (counts_moved from to n m)) None old new → IsLink g old new f i source
link-is g counter old new key f i from to n m source unmarked valid is same step =
    let numbers = λ (x : Field). logical g old x in
    let counts = counts_moved from to n m in
    let used = used_once g old f i from is.pointer.0 is.names in
    let counted = valid.counted.counts from is.left.0 in
    let some : 1 ≤ n = omega (arith, used, counted, is.left_is) in
    let lowered = moved-from numbers from to n m is.other (sym is.left_is) (sym is.taken_is) some in
    let raised = moved-to numbers from to n m is.other (sym is.left_is) (sym is.taken_is) some in
    let low = step.numbers (Count from) is.left.0 ∙ count_is f i to unmarked counts from (logical g old (Count from)) in
    let high = step.numbers (Count to) is.taken.0 ∙ count_is f i to unmarked counts to (logical g old (Count to)) in
    record {
      from = from;
      to = to;
      pointer = (is.pointer.0, is.names);
      source_names = (is.has, named-share source (logical g old source) to is.source_names);
      other = is.other;
      same = same;
      linked = step.numbers (Pointer f i) is.pointer.0 ∙ pointer_is f i to unmarked counts (logical g old (Pointer f i));
      source_after = source_is g counter old new key f i from to n m source unmarked valid is step;
      lowered = omega (arith, lowered, low);
      raised = high ∙ raised;
      others = λ x has pointer not_source not_from not_to.
          step.numbers x has
          ∙ edited_untouched (linked f i to unmarked counts) x (logical g old x)
          (not_touched f i from to n m unmarked x (λ e. pointer (sym e)) (λ at here e. not_source (sym (source_at at here ∙ e))) not_from not_to);
    }
  where
    source_at : (at : ℕ × ℕ) → unmarked ≡ Some at → source ≡ Pointer at.0 at.1
    source_at at here = (subst (IsSource g old key source) here is.is_source).0
