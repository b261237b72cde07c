-- A list is sorted from another in one way.
use Rattle.std.proofs.Common.{◌≡◌, ◌+◌, ℕ, suc, List, [], ◌∷◌, Bool, true, false, ap, arith, cond, get_or, refl, sym, zero-le, ◌∙◌}
use Rattle.std.specs.Prelude.{All, filter}
use Rattle.std.specs.Ordering.{is_lt, ordering_reverse}
use Rattle.std.specs.declared.cmp.Ordering.{Ordering}
use Rattle.std.specs.declared.cmp.Ordering.TheVariants.{Less, Equal, Greater}
use Rattle.std.specs.Str.{bytes_eq}
use Rattle.std.proofs.lemmas.Bool.{false_from_ne_true, false≢true}
use Rattle.std.proofs.lemmas.List.Elements.{All-head, All-tail}
use Rattle.std.proofs.lemmas.Cmp.{nat_list_cmp_total}
use Rattle.std.proofs.lemmas.List.Sorted.{ranks_by, sorted_far}
use Rattle.std.proofs.lemmas.Map.Lookups.{exact_bytes}
use Rattle.std.proofs.lemmas.Slice.Eq.{bytes_eq-Decides}
use Rattle.hint_blocks.specs.declared.entry.IndexEntry.{IndexEntry}
use Rattle.sorted_shard.specs.laws.DigestLaws.{compared}
use Rattle.sorted_shard.specs.Shelves.{IsSortedByDigest, IsSortedFrom, digest_of, with_digest}

filter_none : {X : Type 0} (p : X → Bool) (xs : List X) → All (λ x. p x ≡ false) xs → filter p xs ≡ []
filter_none p [] all = refl
filter_none p (x ∷ xs) all = rw (All-head (λ y. p y ≡ false) x xs all) (filter_none p xs (All-tail (λ y. p y ≡ false) x xs all))

cancel : {X : Type 0} (b : Bool) (x : X) (xs ys : List X) → cond b (x ∷ xs) xs ≡ cond b (x ∷ ys) ys → xs ≡ ys
cancel true x xs ys h = cc
cancel false x xs ys h = h

-- digests of which neither is below the other
tied : (o : Ordering) → (is_lt o ≡ true → ⊥) → (is_lt (ordering_reverse o) ≡ true → ⊥) → o ≡ Equal
tied Less low high = absurd (low refl)
tied Equal low high = refl
tied Greater low high = absurd (high refl)

neither : (one other : List ℕ) → (is_lt (compared one other) ≡ true → ⊥) → (is_lt (compared other one) ≡ true → ⊥)
    → compared one other ≡ Equal
neither one other low high = tied (compared one other) low (λ h. high (ap is_lt (nat_list_cmp_total.antisymm other one) ∙ h))

itself : (digest : List ℕ) → bytes_eq digest digest ≡ true
itself digest = (bytes_eq-Decides digest digest).1 refl

-- the first entry is the first of its digest
first : (e : IndexEntry) (es : List IndexEntry) → with_digest (digest_of e) (e ∷ es) ≡ e ∷ with_digest (digest_of e) es
first e es = rw (itself (digest_of e)) refl

-- a digest that is below the first one is not there
none_below : (e : IndexEntry) (es : List IndexEntry) (digest : List ℕ) → IsSortedByDigest (e ∷ es)
    → is_lt (compared digest (digest_of e)) ≡ true
    → All (λ x. bytes_eq (digest_of x) digest ≡ false) (e ∷ es)
none_below e es digest s low k d h =
    let x = get_or (e ∷ es) k d in
    let up : is_lt (compared (digest_of x) (digest_of e)) ≡ false =
    sorted_far (λ a b. is_lt (compared (digest_of a) (digest_of b))) (ranks_by nat_list_cmp_total digest_of) (e ∷ es) s 0 k d zero-le h in
    false_from_ne_true (bytes_eq (digest_of x) digest)
    (λ same. false≢true (sym up ∙ ap (λ (xs : List ℕ). is_lt (compared xs (digest_of e))) ((bytes_eq-Decides (digest_of x) digest).0 same) ∙ low))

-- the first digest of one list is not below that of another with the same entries of each digest
not_below_first : (y z : IndexEntry) (ys zs : List IndexEntry) → IsSortedByDigest (z ∷ zs)
    → with_digest (digest_of y) (y ∷ ys) ≡ with_digest (digest_of y) (z ∷ zs)
    → is_lt (compared (digest_of y) (digest_of z)) ≡ true → ⊥
not_below_first y z ys zs s same low =
    let nothing = filter_none (λ x. bytes_eq (digest_of x) (digest_of y)) (z ∷ zs) (none_below z zs (digest_of y) s low) in
    let some : y ∷ with_digest (digest_of y) ys ≡ [] = sym (first y ys) ∙ same ∙ nothing in
    cc

-- the entries behind the first
behind : (d : List ℕ) (y : IndexEntry) (ys zs : List IndexEntry) → with_digest d (y ∷ ys) ≡ with_digest d (y ∷ zs)
    → with_digest d ys ≡ with_digest d zs
behind d y ys zs same = cancel (bytes_eq (digest_of y) d) y (with_digest d ys) (with_digest d zs) same

sorted_rest : (e : IndexEntry) (es : List IndexEntry) → IsSortedByDigest (e ∷ es) → IsSortedByDigest es
sorted_rest e es s k d z h =
    let next : suc (k + 1) ≡ suc k + 1 = omega arith in
    ap (λ (n : ℕ). is_lt (compared (digest_of (get_or (e ∷ es) n d)) (digest_of (get_or es k d)))) next ∙ s (suc k) d zero-le (omega arith)

-- two sorted lists with the same entries of each digest are one
pub same_sorted : (ys zs : List IndexEntry) → IsSortedByDigest ys → IsSortedByDigest zs
    → ((d : List ℕ) → with_digest d ys ≡ with_digest d zs) → ys ≡ zs
same_sorted [] [] s t same = refl
same_sorted [] (z ∷ zs) s t same = let some : [] ≡ z ∷ with_digest (digest_of z) zs = same (digest_of z) ∙ first z zs in cc
same_sorted (y ∷ ys) [] s t same = let some : y ∷ with_digest (digest_of y) ys ≡ [] = sym (first y ys) ∙ same (digest_of y) in cc
same_sorted (y ∷ ys) (z ∷ zs) s t same =
    let low = not_below_first y z ys zs t (same (digest_of y)) in
    let high = not_below_first z y zs ys s (sym (same (digest_of z))) in
    let equal : digest_of y ≡ digest_of z = exact_bytes (digest_of y) (digest_of z) (neither (digest_of y) (digest_of z) low high) in
    let heads : y ∷ with_digest (digest_of y) ys ≡ z ∷ with_digest (digest_of z) zs =
    sym (first y ys) ∙ same (digest_of y) ∙ ap (λ (d : List ℕ). with_digest d (z ∷ zs)) equal ∙ first z zs in
    let head : y ≡ z = cc in
    let rest : (d : List ℕ) → with_digest d ys ≡ with_digest d zs = λ d. behind d y ys zs (same d ∙ ap (λ (e : IndexEntry). with_digest d (e ∷ zs)) (sym head)) in
    let tails = same_sorted ys zs (sorted_rest y ys s) (sorted_rest z zs t) rest in
    cc

pub sorted_once : (before one other : List IndexEntry) → IsSortedFrom before one → IsSortedFrom before other → one ≡ other
sorted_once before one other first second = same_sorted one other first.sorted second.sorted (λ d. first.stable d ∙ sym (second.stable d))
