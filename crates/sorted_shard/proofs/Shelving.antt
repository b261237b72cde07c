-- What the edits of a shelf leave, over plain lists.
use Rattle.std.proofs.Common.{◌≡◌, ◌<◌, ◌≤◌, ◌+◌, ◌*◌, ℕ, List, [], ◌∷◌, ◌++◌, true, false, ap, arith, drop, get_or, length, refl, sym, take, ◌∙◌}
use Rattle.std.specs.Prelude.{codes, insert, not}
use Rattle.std.specs.List.{AllWithin}
use Rattle.std.specs.Ordering.{is_le}
use Rattle.std.specs.Str.{bytes_eq}
use Rattle.std.proofs.lemmas.List.{append-nil, length-drop, length-take, take_more}
use Rattle.std.proofs.lemmas.List.Concat.{flat_map-append}
use Rattle.std.proofs.lemmas.List.Edits.{length-insert}
use Rattle.std.proofs.lemmas.List.Elements.{All-append, All-cons, All-drop, All-filter, All-take}
use Rattle.vol_base.specs.declared.block.Block.{Block}
use Rattle.vol_layout.specs.declared.geometry.Geometry.{Geometry}
use Rattle.hint_blocks.specs.declared.entry.IndexEntry.{IndexEntry}
use Rattle.hint_blocks.specs.Entries.{IsIndexEntry, index_entry_of}
use Rattle.hint_blocks.specs.laws.HintListLaws.{length-without, pushed_over-room}
use Rattle.hint_blocks.specs.HintLists.{HintList, hints_in, pushed_over}
use Rattle.sorted_shard.specs.Shelves.{Gains, IsShelf, IsSortedFrom, ShelfList, digest_of, entries_in, order, without_digest}
use Rattle.sorted_shard.proofs.Sorting.{inserted, sorted_behind, sorted_without}

-- other entries on the same shelf
abbrev pub with_entries : ShelfList → List IndexEntry → ShelfList
with_entries s es = record { geometry = s.geometry; blocks = s.blocks; entries = es }

pub shelf_without : (s : ShelfList) (digest : List ℕ) → IsShelf s → IsShelf (with_entries s (without_digest digest s.entries))
shelf_without s digest h = record {
  geometry = h.geometry;
  some = h.some;
  few = h.few;
  room = omega (arith, h.room, length-without digest_of digest s.entries);
  sorted = sorted_without s.entries digest h.sorted;
  range = All-filter (λ e. not (bytes_eq (digest_of e) digest)) (IsIndexEntry s.geometry) s.entries h.range;
}

pub shelf_behind : (s : ShelfList) (n : ℕ) → IsShelf s → IsShelf (with_entries s (drop n s.entries))
shelf_behind s n h = record {
  geometry = h.geometry;
  some = h.some;
  few = h.few;
  room = omega (arith, h.room, length-drop n s.entries);
  sorted = sorted_behind s.entries n h.sorted;
  range = All-drop (IsIndexEntry s.geometry) n s.entries h.range;
}

module _ (s : ShelfList) (place : ℕ) (e : IndexEntry) (h : IsShelf s) (room : length s.entries < 126 * s.blocks) (range : IsIndexEntry s.geometry e) (within : place ≤ length s.entries)
    (up_to : AllWithin (λ x. is_le (order x (digest_of e)) ≡ true) s.entries 0 place) (above : AllWithin (λ x. is_le (order x (digest_of e)) ≡ false) s.entries place (length s.entries)) where
  sorted : IsSortedFrom (s.entries ++ e ∷ []) (insert s.entries place e)
  sorted = inserted s.entries place e h.sorted within up_to above

  pub shelf_inserted : IsShelf (with_entries s (insert s.entries place e))
  shelf_inserted = record {
    geometry = h.geometry;
    some = h.some;
    few = h.few;
    room = omega (arith, length-insert s.entries place e within);
    sorted = sorted.sorted;
    range =
        let P : IndexEntry → Type 0 = IsIndexEntry s.geometry in
        All-append P (take place s.entries) (e ∷ drop place s.entries) (All-take P place s.entries h.range) (All-cons P e (drop place s.entries) range (All-drop P place s.entries h.range));
  }

  pub gains_inserted : Gains s (with_entries s (insert s.entries place e)) (e ∷ [])
  gains_inserted = record { geometry = refl; blocks = refl; long = length-insert s.entries place e within; entries = sorted }

-- nothing is gained at the start, and a block's entries with each block
sorted_nothing : IsSortedFrom [] []
sorted_nothing = record { sorted = λ k d z h. absurd (omega arith); stable = λ _. refl }

pub gains_nothing : (g : Geometry) (s : ShelfList) → s.entries ≡ [] → Gains s s (entries_in g [])
unfolding entries_in
gains_nothing g s e = record { geometry = refl; blocks = refl; long = omega arith; entries = rw e sorted_nothing }

pub entries_in-more : (g : Geometry) (blocks : List Block) (i : ℕ) (d : Block) (es : List IndexEntry) → i < length blocks
    → es ≡ hints_in (codes "DEDEINDX") (index_entry_of g) (get_or blocks i d).0
    → entries_in g (take (i + 1) blocks) ≡ entries_in g (take i blocks) ++ es
unfolding entries_in
entries_in-more g blocks i d es h e =
    let read : Block → List IndexEntry = λ block. hints_in (codes "DEDEINDX") (index_entry_of g) block.0 in
    ap (entries_in g) (take_more blocks i d h)
    ∙ flat_map-append read (take i blocks) (get_or blocks i d ∷ [])
    ∙ ap (λ (xs : List IndexEntry). entries_in g (take i blocks) ++ xs) (append-nil (read (get_or blocks i d)) ∙ sym e)

-- one entry more of a block
pub block_step : (g : Geometry) (old new : HintList IndexEntry) (items : List IndexEntry) (i : ℕ) (d : IndexEntry) → i < length items
    → length items ≤ 126
    → (let before : HintList IndexEntry = record { geometry = g; entries = take i items } in old ≡ before)
    → (let after : HintList IndexEntry = record { geometry = old.geometry; entries = pushed_over 126 old.entries (get_or items i d) } in new ≡ after)
    → (let after : HintList IndexEntry = record { geometry = g; entries = take (i + 1) items } in new ≡ after)
block_step g old new items i d h few was pushed =
    let room : length (take i items) < 126 = omega (arith, length-take i items) in
    pushed ∙ rw (was, pushed_over-room 126 (take i items) (get_or items i d) room, take_more items i d h) refl
