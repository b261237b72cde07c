-- Where a digest stands in a sorted list, and what stays sorted.
use Rattle.std.proofs.Common.{◌≡◌, ◌≤◌, ◌+◌, ◌-◌, ℕ, List, [], ◌∷◌, ◌++◌, Bool, true, false, ap, append_assoc, arith, cond, drop, get_or, inl, inr, length, length-drop, refl, sym, take, zero-le, ◌∙◌}
use Rattle.std.specs.Prelude.{All, filter, insert, not}
use Rattle.std.specs.List.{AllWithin}
use Rattle.std.specs.List.Sorted.{IsPartitionedBy, IsSortedBy}
use Rattle.std.specs.Ordering.{is_le, is_lt, ordering_index}
use Rattle.std.specs.Str.{bytes_eq}
use Rattle.std.proofs.lemmas.Bool.{cases_lt, not_from_false, not_from_true, true≢false}
use Rattle.std.proofs.lemmas.Cmp.{nat_list_cmp_total}
use Rattle.std.proofs.lemmas.List.{append-nil, get_or-drop, take-append-drop}
use Rattle.std.proofs.lemmas.List.Edits.{get_or-insert_above, get_or-insert_at, get_or-insert_below, length-insert}
use Rattle.std.proofs.lemmas.List.Elements.{All-weaker, filter-append}
use Rattle.std.proofs.lemmas.List.Kept.{IsSortedBy-filter}
use Rattle.std.proofs.lemmas.List.Sorted.{IsPartitionedBy-leb, IsPartitionedBy-ltb, ranks_by, searchable_from_sorted}
use Rattle.std.proofs.lemmas.Slice.Eq.{bytes_eq-Decides}
use Rattle.hint_blocks.specs.declared.entry.IndexEntry.{IndexEntry}
use Rattle.sorted_shard.specs.Shelves.{IsSortedByDigest, IsSortedFrom, digest_of, order, with_digest, without_digest}
use Rattle.sorted_shard.specs.laws.DigestLaws.{above_is_other, below_is_other, between_is_same, is_le-index, is_lt-index, le_from_lt, lt_from_above, not_below}
use Rattle.sorted_shard.proofs.Parts.{All-behind, All-between, All-front, filter_ends, filter_middle, filter_none, three_parts}

-- an element between what is no higher and what is no lower
sorted_insert : {X : Type 0} (lt : X → X → Bool) (xs : List X) (i : ℕ) (y : X) → IsSortedBy lt xs → i ≤ length xs
    → AllWithin (λ x. lt y x ≡ false) xs 0 i
    → AllWithin (λ x. lt x y ≡ false) xs i (length xs) → IsSortedBy lt (insert xs i y)
sorted_insert lt xs i y s within below above k d z h =
    let long = length-insert xs i y within in
    elim (cases_lt (k + 1) i) [
      | inl p ↦
          let one : get_or (insert xs i y) (k + 1) d ≡ get_or xs (k + 1) d = get_or-insert_below xs i y d (k + 1) p within in
          let other : get_or (insert xs i y) k d ≡ get_or xs k d = get_or-insert_below xs i y d k (omega arith) within in
          ap (λ a. lt a (get_or (insert xs i y) k d)) one ∙ ap (λ a. lt (get_or xs (k + 1) d) a) other ∙ s k d z (omega arith)
      | inr p ↦ elim (cases_lt k i) [
        | inl q ↦
            let here : k + 1 ≡ i = omega arith in
            let one : get_or (insert xs i y) (k + 1) d ≡ y = ap (λ n. get_or (insert xs i y) n d) here ∙ get_or-insert_at xs i y d within in
            let other : get_or (insert xs i y) k d ≡ get_or xs k d = get_or-insert_below xs i y d k q within in
            ap (λ a. lt a (get_or (insert xs i y) k d)) one ∙ ap (λ a. lt y a) other ∙ below k d zero-le q
        | inr q ↦
            let one : get_or (insert xs i y) (k + 1) d ≡ get_or xs k d = get_or-insert_above xs i y d k q within in
            elim (cases_lt i k) [
              | inl r ↦
                  let back : k ≡ k - 1 + 1 = omega arith in
                  let other : get_or (insert xs i y) k d ≡ get_or xs (k - 1) d =
                  ap (λ n. get_or (insert xs i y) n d) back ∙ get_or-insert_above xs i y d (k - 1) (omega arith) within in
                  ap (λ a. lt a (get_or (insert xs i y) k d)) one
                  ∙ ap (λ a. lt (get_or xs k d) a) other
                  ∙ ap (λ n. lt (get_or xs n d) (get_or xs (k - 1) d)) back
                  ∙ s (k - 1) d zero-le (omega arith)
              | inr r ↦
                  let here : k ≡ i = omega arith in
                  let other : get_or (insert xs i y) k d ≡ y = ap (λ n. get_or (insert xs i y) n d) here ∙ get_or-insert_at xs i y d within in
                  ap (λ a. lt a (get_or (insert xs i y) k d)) one ∙ ap (λ a. lt (get_or xs k d) a) other ∙ above k d q (omega arith)
            ]
      ]
    ]

sorted_drop : {X : Type 0} (lt : X → X → Bool) (xs : List X) (n : ℕ) → IsSortedBy lt xs → IsSortedBy lt (drop n xs)
sorted_drop lt xs n s k d z h =
    let one : get_or (drop n xs) (k + 1) d ≡ get_or xs (n + k + 1) d = get_or-drop n xs (k + 1) d ∙ ap (λ m. get_or xs m d) (omega arith) in
    ap (λ a. lt a (get_or (drop n xs) k d)) one
    ∙ ap (λ a. lt (get_or xs (n + k + 1) d) a) (get_or-drop n xs k d)
    ∙ s (n + k) d zero-le (omega (arith, length-drop n xs))

-- a filter does not see where an element went that stands behind all others that pass
cond_behind : {X : Type 0} (b : Bool) (y : X) (zs : List X) → (b ≡ true → zs ≡ []) → cond b (y ∷ zs) zs ≡ zs ++ cond b (y ∷ []) []
cond_behind true y zs h = rw (h refl) refl
cond_behind false y zs h = sym (append-nil zs)

filter-insert : {X : Type 0} (p : X → Bool) (xs : List X) (i : ℕ) (y : X) → (p y ≡ true → All (λ x. p x ≡ false) (drop i xs))
    → filter p (insert xs i y) ≡ filter p (xs ++ y ∷ [])
filter-insert p xs i y h =
    filter-append p (take i xs) (y ∷ drop i xs)
    ∙ ap (λ zs. filter p (take i xs) ++ zs) (cond_behind (p y) y (filter p (drop i xs)) (λ e. filter_none p (drop i xs) (h e)))
    ∙ sym (append_assoc (filter p (take i xs)) (filter p (drop i xs)) (filter p (y ∷ [])))
    ∙ ap (λ zs. zs ++ filter p (y ∷ [])) (sym (filter-append p (take i xs) (drop i xs)) ∙ ap (filter p) (take-append-drop i xs))
    ∙ sym (filter-append p xs (y ∷ []))

-- halving: the entries that are below a digest, and those that are no higher, stand in front
pub parted_below : (es : List IndexEntry) (digest : List ℕ) → IsSortedByDigest es → IsPartitionedBy (λ e. is_lt (order e digest)) es
parted_below es digest s i j d p q h =
    let rank : IndexEntry → ℕ = λ e. ordering_index (order e digest) in
    let parted = IsPartitionedBy-ltb rank es 1 (searchable_from_sorted nat_list_cmp_total digest_of es digest s) in
    is_lt-index (order (get_or es i d) digest) ∙ parted i j d p q (sym (is_lt-index (order (get_or es j d) digest)) ∙ h)

pub parted_up_to : (es : List IndexEntry) (digest : List ℕ) → IsSortedByDigest es → IsPartitionedBy (λ e. is_le (order e digest)) es
parted_up_to es digest s i j d p q h =
    let rank : IndexEntry → ℕ = λ e. ordering_index (order e digest) in
    let parted = IsPartitionedBy-leb rank es 1 (searchable_from_sorted nat_list_cmp_total digest_of es digest s) in
    is_le-index (order (get_or es i d) digest) ∙ parted i j d p q (sym (is_le-index (order (get_or es j d) digest)) ∙ h)

-- the two places of a digest
pub record Places (es : List IndexEntry) (digest : List ℕ) (start end : ℕ) : Type 0 where
  pub start_within : start ≤ length es
  pub end_within : end ≤ length es
  pub below : AllWithin (λ e. is_lt (order e digest) ≡ true) es 0 start
  pub not_below : AllWithin (λ e. is_lt (order e digest) ≡ false) es start (length es)
  pub up_to : AllWithin (λ e. is_le (order e digest) ≡ true) es 0 end
  pub above : AllWithin (λ e. is_le (order e digest) ≡ false) es end (length es)

pub places_in_order : (es : List IndexEntry) (digest : List ℕ) (start end : ℕ) → Places es digest start end → start ≤ end
places_in_order [] digest start end h = omega (arith, h.start_within)
places_in_order (e ∷ es) digest start end h =
    elim (cases_lt end start) [
      | inl p ↦
          let low = le_from_lt (order (get_or (e ∷ es) end e) digest) (h.below end e zero-le p) in
          let high = h.above end e (omega arith) (omega (arith, h.start_within)) in
          absurd (true≢false (sym low ∙ high))
      | inr p ↦ p
    ]

module _ (es : List IndexEntry) (digest : List ℕ) (start end : ℕ) (h : Places es digest start end) where
  front : All (λ e. bytes_eq (digest_of e) digest ≡ false) (take start es)
  front =
      All-weaker (λ e. is_lt (order e digest) ≡ true) (λ e. bytes_eq (digest_of e) digest ≡ false) (λ e k. below_is_other (digest_of e) digest k) (take start es)
      (All-front (λ e. is_lt (order e digest) ≡ true) es start h.below)

  middle : All (λ e. bytes_eq (digest_of e) digest ≡ true) (take (end - start) (drop start es))
  middle =
      let both : AllWithin (λ e. (is_lt (order e digest) ≡ false) × (is_le (order e digest) ≡ true)) es start end =
      λ k d low high. (h.not_below k d low (omega (arith, h.end_within)), h.up_to k d zero-le high) in
      All-weaker (λ e. (is_lt (order e digest) ≡ false) × (is_le (order e digest) ≡ true)) (λ e. bytes_eq (digest_of e) digest ≡ true) (λ e k. between_is_same (digest_of e) digest k.0 k.1)
      (take (end - start) (drop start es)) (All-between (λ e. (is_lt (order e digest) ≡ false) × (is_le (order e digest) ≡ true)) es start end both)

  last : All (λ e. bytes_eq (digest_of e) digest ≡ false) (drop end es)
  last =
      All-weaker (λ e. is_le (order e digest) ≡ false) (λ e. bytes_eq (digest_of e) digest ≡ false) (λ e k. above_is_other (digest_of e) digest k) (drop end es)
      (All-behind (λ e. is_le (order e digest) ≡ false) es end h.above)

  pub inside : take (end - start) (drop start es) ≡ with_digest digest es
  inside =
      sym
      (ap (with_digest digest) (three_parts es start end (places_in_order es digest start end h))
      ∙ filter_middle (λ e. bytes_eq (digest_of e) digest) (take start es) (take (end - start) (drop start es)) (drop end es) front middle last)

  others : (xs : List IndexEntry) → All (λ e. bytes_eq (digest_of e) digest ≡ false) xs → All (λ e. not (bytes_eq (digest_of e) digest) ≡ true) xs
  others xs all =
      All-weaker (λ e. bytes_eq (digest_of e) digest ≡ false) (λ e. not (bytes_eq (digest_of e) digest) ≡ true) (λ e k. not_from_false (bytes_eq (digest_of e) digest) k) xs all

  pub outside : take start es ++ drop end es ≡ without_digest digest es
  outside =
      let gone : All (λ e. not (bytes_eq (digest_of e) digest) ≡ false) (take (end - start) (drop start es)) =
      All-weaker (λ e. bytes_eq (digest_of e) digest ≡ true) (λ e. not (bytes_eq (digest_of e) digest) ≡ false) (λ e k. not_from_true (bytes_eq (digest_of e) digest) k)
      (take (end - start) (drop start es)) middle in
      sym
      (ap (without_digest digest) (three_parts es start end (places_in_order es digest start end h))
      ∙ filter_ends (λ e. not (bytes_eq (digest_of e) digest)) (take start es) (take (end - start) (drop start es)) (drop end es) (others (take start es) front) gone (others (drop end es) last))

-- what stays sorted
pub sorted_without : (es : List IndexEntry) (digest : List ℕ) → IsSortedByDigest es → IsSortedByDigest (without_digest digest es)
sorted_without es digest s = IsSortedBy-filter _ (ranks_by nat_list_cmp_total digest_of) (λ e. not (bytes_eq (digest_of e) digest)) es s

pub sorted_behind : (es : List IndexEntry) (n : ℕ) → IsSortedByDigest es → IsSortedByDigest (drop n es)
sorted_behind es n s = sorted_drop (λ x y. is_lt (order x (digest_of y))) es n s

-- an entry behind those of its digest
pub inserted : (es : List IndexEntry) (place : ℕ) (e : IndexEntry) → IsSortedByDigest es → place ≤ length es
    → AllWithin (λ x. is_le (order x (digest_of e)) ≡ true) es 0 place
    → AllWithin (λ x. is_le (order x (digest_of e)) ≡ false) es place (length es) → IsSortedFrom (es ++ e ∷ []) (insert es place e)
inserted es place e s within up_to above =
    let lt : IndexEntry → IndexEntry → Bool = λ x y. is_lt (order x (digest_of y)) in
    record {
      sorted =
          sorted_insert lt es place e s within (λ k d z h. not_below (digest_of (get_or es k d)) (digest_of e) (up_to k d z h))
          (λ k d z h. lt_from_above (order (get_or es k d) (digest_of e)) (above k d z h));
      stable = λ digest. filter-insert (λ x. bytes_eq (digest_of x) digest) es place e
          (λ same.
          All-weaker (λ x. is_le (order x (digest_of e)) ≡ false) (λ x. bytes_eq (digest_of x) digest ≡ false)
          (λ x k. ap (bytes_eq (digest_of x)) (sym ((bytes_eq-Decides (digest_of e) digest).0 same)) ∙ above_is_other (digest_of x) (digest_of e) k) (drop place es)
          (All-behind (λ x. is_le (order x (digest_of e)) ≡ false) es place above));
    }
