-- The representatives, from one place to the next.
use Rattle.std.proofs.Common.{◌≡◌, ◌≢◌, ◌<◌, ◌≤◌, ◌+◌, ◌⊎◌, ℕ, Option, Some, None, refl, sym, ap, subst, ◌∙◌, inl, inr, arith}
use Rattle.std.proofs.lemmas.Bool.{cases_eq, cases_lt, ltb-true}
use Rattle.vol_base.specs.declared.block.Block.{Block}
use Rattle.vol_base.specs.declared.block.Digest.{Digest}
use Rattle.vol_layout.specs.declared.field.Field.TheVariants.{Head, Pointer}
use Rattle.vol_layout.specs.declared.geometry.Geometry.{Geometry}
use Rattle.vol_layout.specs.Fields.{HasField}
use Rattle.fingerprint.specs.DigestOf.{digest_of}
use Rattle.image_view.specs.Images.{Image}
use Rattle.image_view.specs.Numbers.{logical}
use Rattle.share_plans.specs.Places.{shown_at}
use Rattle.settle.specs.Added.{Adds}
use Rattle.settle.specs.Contents.{NoClash, held, places_in}
use Rattle.settle.specs.Gathered.{Before, Found, IsGathered, IsNamed, IsNext, IsRep, IsTable}
use Rattle.settle.specs.Moves.{Moves}
use Rattle.settle.specs.Reads.{IsApart, IsJoined}
use Rattle.settle.specs.Sound.{IsSound}
use Rattle.settle.specs.declared.candidates.Spot.{Spot}
use Rattle.settle.proofs.MoveLaws.{held-alike, held-shown, shown-names}

-- the order of places
before-other : (f i h j : ℕ) → Before f i h j → Pointer h j ≢ Pointer f i
before-other f i h j before same =
    let file : h ≡ f = cc in
    let index : j ≡ i = cc in
    elim before [
      | inl below ↦ absurd (omega arith)
      | inr here ↦ let lt = here.1 in absurd (omega arith)
    ]

before-later : (f i h j : ℕ) → Before f i h j → Before f (i + 1) h j
before-later f i h j before =
    elim before [
      | inl below ↦ inl below
      | inr here ↦ let lt = here.1 in inr (here.0, omega arith)
    ]

before-next : (f i h j : ℕ) → Before f (i + 1) h j → Before f i h j ⊎ ((h ≡ f) × (j ≡ i))
before-next f i h j before =
    elim before [
      | inl below ↦ inl (inl below)
      | inr here ↦
          let lt = here.1 in
          elim (cases_lt j i) [
            | inl less ↦ inl (inr (here.0, less))
            | inr more ↦ inr (here.0, omega arith)
          ]
    ]

rep_at : (g : Geometry) (image : Image) (f i f' i' : ℕ) (x : Digest) (s : Spot) → IsRep g image f i x s → Before f' i' s.file s.index
    → IsRep g image f' i' x s
rep_at g image f i f' i' x s rep before = record { has = rep.has; before = before; block = rep.block; holds = rep.holds; digest = rep.digest }

-- a step that moves one place alone leaves what is known of those before it
pub gathered-moves : (g : Geometry) (old new : Image) (found : Found) (f i : ℕ) → Moves g f i old new → IsGathered g old found f i
    → IsGathered g new found f i
gathered-moves g old new found f i moves is = record {
  sound = moves.stays.sound;
  reps = λ x n s there. let rep = is.reps x n s there in record {
    has = rep.has;
    before = rep.before;
    block = rep.block;
    holds = moves.stays.kept s.file s.index rep.has ∙ rep.holds;
    digest = rep.digest;
  };
  apart = λ x n m s t one other same.
      let has = (is.reps x n s one).has in
      let has' = (is.reps x m t other).has in
      is.apart x n m s t one other (sym (moves.stays.kept s.file s.index has) ∙ same ∙ moves.stays.kept t.file t.index has');
  named = λ h j block has before holds.
      let named = is.named h j block has before (sym (moves.stays.kept h j has) ∙ holds) in
      let rep = is.reps (digest_of block) named.number named.rep named.there in
      record {
        number = named.number;
        rep = named.rep;
        there = named.there;
        same =
            moves.others h j has (before-other f i h j before)
            ∙ named.same
            ∙ sym (moves.others named.rep.file named.rep.index rep.has (before-other f i named.rep.file named.rep.index rep.before));
      };
}

-- before the first place
pub gathered-none : (g : Geometry) (image : Image) (found : Found) → IsSound g image → ((x : Digest) (n : ℕ) → found x n ≡ None)
    → IsGathered g image found 0 0
gathered-none g image found sound none = record {
  sound = sound;
  reps = λ x n s there. let e = none x n in absurd cc;
  apart = λ x n m s t one other same. let e = none x n in absurd cc;
  named = λ h j block has before holds. elim before [
    | inl below ↦ absurd (omega arith)
    | inr here ↦ let lt = here.1 in absurd (omega arith)
  ];
}

-- one place more, which is known to be named
gathered_more : (g : Geometry) (image : Image) (found : Found) (f i : ℕ) → IsGathered g image found f i
    → ((block : Block) → held g image f i ≡ Some block → IsNamed g image found f i block) → IsGathered g image found f (i + 1)
gathered_more g image found f i is here = record {
  sound = is.sound;
  reps = λ x n s there. let rep = is.reps x n s there in rep_at g image f i f (i + 1) x s rep (before-later f i s.file s.index rep.before);
  apart = is.apart;
  named = λ h j block has before holds. elim (before-next f i h j before) [
    | inl earlier ↦ is.named h j block has earlier holds
    | inr same ↦
        subst (λ (a : ℕ). IsNamed g image found a j block) (sym same.0)
        (subst (λ (b : ℕ). IsNamed g image found f b block) (sym same.1)
        (here block
        (subst (λ (a : ℕ). held g image a i ≡ Some block) same.0 (subst (λ (b : ℕ). held g image h b ≡ Some block) same.1 holds))))
  ];
}

-- a hole
pub hole-next : (g : Geometry) (image : Image) (found : Found) (f i : ℕ) → IsGathered g image found f i → held g image f i ≡ None
    → IsGathered g image found f (i + 1)
hole-next g image found f i is none = gathered_more g image found f i is (λ block holds. absurd cc)

-- a place that shows the data block of a representative
pub joined-next : (g : Geometry) (image : Image) (found : Found) (f i : ℕ) (x : Digest) → IsGathered g image found f i
    → IsJoined g image found f i x → IsGathered g image found f (i + 1)
joined-next g image found f i x is joined =
    let s = joined.rep in
    let rep = is.reps x joined.number s joined.there in
    let same : shown_at g image f i ≡ shown_at g image s.file s.index = joined.show.own ∙ sym joined.show.from in
    gathered_more g image found f i is
    (λ block holds.
    let e : Some block ≡ Some rep.block = sym holds ∙ held-alike g image f i s.file s.index same ∙ rep.holds in
    let is_block : rep.block ≡ block = cc in
    let digest : x ≡ digest_of block = sym rep.digest ∙ ap digest_of is_block in
    record {
      number = joined.number;
      rep = s;
      there = subst (λ (y : Digest). found y joined.number ≡ Some s) digest joined.there;
      same = same;
    })

-- a representative more: what is known of a name that it may have
in_table : (found more : Found) (x y : Digest) (n m : ℕ) (s t : Spot) → Adds found more x n s → more y m ≡ Some t
    → ((y ≡ x) × (m ≡ n) × (t ≡ s)) ⊎ (found y m ≡ Some t)
in_table found more x y n m s t adds there =
    elim (adds.from y m t there) [
      | inl new ↦
          let here : more y m ≡ Some s = subst (λ (z : Digest). more z m ≡ Some s) (sym new.0) (subst (λ (k : ℕ). more x k ≡ Some s) (sym new.1) adds.here) in
          inl (new.0, new.1, cc)
      | inr old ↦ inr old
    ]

-- a place that is a new representative: no other one of its digest holds its block
new_apart : (g : Geometry) (image : Image) (found : Found) (x : Digest) (n m : ℕ) (s t : Spot) → IsTable g found → IsNext found x n
    → IsApart g image found s.file s.index x n → found x m ≡ Some t → held g image s.file s.index ≡ held g image t.file t.index → ⊥
new_apart g image found x n m s t table next apart there same =
    elim (cases_lt m n) [
      | inl below ↦ apart m t below there same
      | inr past ↦ let none = table.dense x n m past next.free in absurd cc
    ]

pub fresh-next : (g : Geometry) (image : Image) (found more : Found) (n : ℕ) (s : Spot) (block : Block) → HasField g (Pointer s.file s.index)
    → IsTable g found → IsNext found (digest_of block) n → Adds found more (digest_of block) n s
    → IsGathered g image found s.file s.index → held g image s.file s.index ≡ Some block → IsApart g image found s.file s.index (digest_of block) n
    → IsGathered g image more s.file (s.index + 1)
fresh-next g image found more n s block has table next adds is holds apart = record {
  sound = is.sound;
  reps = λ y m t there. elim (in_table found more (digest_of block) y n m s t adds there) [
    | inl new ↦
        subst (λ (u : Spot). IsRep g image s.file (s.index + 1) y u) (sym new.2)
        (record { has = has; before = inr (refl, omega arith); block = block; holds = holds; digest = sym new.0 })
    | inr old ↦ let rep = is.reps y m t old in rep_at g image s.file s.index s.file (s.index + 1) y t rep (before-later s.file s.index t.file t.index rep.before)
  ];
  apart = λ y a b t u one other same.
      elim (in_table found more (digest_of block) y n a s t adds one) [
        | inl new ↦ elim (in_table found more (digest_of block) y n b s u adds other) [
          | inl new' ↦ new.1 ∙ sym new'.1
          | inr old' ↦ absurd (new_apart g image found (digest_of block) n b s u table next apart
              (subst (λ (z : Digest). found z b ≡ Some u) new.0 old')
              (subst (λ (v : Spot). held g image v.file v.index ≡ held g image u.file u.index) new.2 same))
        ]
        | inr old ↦ elim (in_table found more (digest_of block) y n b s u adds other) [
          | inl new' ↦ absurd (new_apart g image found (digest_of block) n a s t table next apart
              (subst (λ (z : Digest). found z a ≡ Some t) new'.0 old)
              (subst (λ (v : Spot). held g image v.file v.index ≡ held g image t.file t.index) new'.2 (sym same)))
          | inr old' ↦ is.apart y a b t u old old' same
        ]
      ];
  named = λ h j other has' before holds'. elim (before-next s.file s.index h j before) [
    | inl earlier ↦
        let named = is.named h j other has' earlier holds' in
        record { number = named.number; rep = named.rep; there = adds.kept (digest_of other) named.number named.rep named.there; same = named.same }
    | inr here ↦
        let holds'' : held g image s.file s.index ≡ Some other =
        subst (λ (a : ℕ). held g image a s.index ≡ Some other) here.0 (subst (λ (b : ℕ). held g image h b ≡ Some other) here.1 holds')
        in
        let is_block : block ≡ other = cc in
        subst (λ (a : ℕ). IsNamed g image more a j other) (sym here.0)
        (subst (λ (b : ℕ). IsNamed g image more s.file b other) (sym here.1)
        (record { number = n; rep = s; there = subst (λ (b : Block). more (digest_of b) n ≡ Some s) is_block adds.here; same = refl }))
  ];
}

none_or : {A : Type 0} (o : Option A) → (o ≡ None) ⊎ ((x : A) × (o ≡ Some x))
none_or None = inl refl
none_or (Some x) = inr (x, refl)

-- the table of one representative more
pub table-more : (g : Geometry) (found more : Found) (x : Digest) (n : ℕ) (s : Spot) → IsTable g found → IsNext found x n
    → HasField g (Pointer s.file s.index) → Adds found more x n s → IsTable g more
table-more g found more x n s table next has adds = record {
  dense = λ y a b le none. elim (none_or (more y b)) [
    | inl free ↦ free
    | inr there ↦
        let old_none : found y a ≡ None = was_free y a none in
        elim (in_table found more x y n b s there.0 adds there.1) [
          | inl new ↦
              elim (cases_eq a n) [
                | inl here ↦
                    let is : more y a ≡ Some s = subst (λ (z : Digest). more z a ≡ Some s) (sym new.0) (subst (λ (k : ℕ). more x k ≡ Some s) (sym here) adds.here) in
                    absurd cc
                | inr other ↦
                    let b_is = new.1 in
                    let less : a < n = omega (arith, other) in
                    absurd (next.below a less (subst (λ (z : Digest). found z a ≡ None) new.0 old_none))
              ]
          | inr old ↦ let e = table.dense y a b le old_none in absurd cc
        ]
  ];
  fields = λ y m t there. elim (in_table found more x y n m s t adds there) [
    | inl new ↦ subst (λ (u : Spot). HasField g (Pointer u.file u.index)) (sym new.2) has
    | inr old ↦ table.fields y m t old
  ];
}
  where
    was_free : (y : Digest) (a : ℕ) → more y a ≡ None → found y a ≡ None
    was_free y a none = elim (none_or (found y a)) [
      | inl free ↦ free
      | inr there ↦ let e = adds.kept y a there.0 there.1 in absurd cc
    ]

-- a file has no place at or past its length
pub row-next : (g : Geometry) (image : Image) (found : Found) (f i : ℕ) → IsGathered g image found f i → places_in g image f ≤ i
    → IsGathered g image found (f + 1) 0
row-next g image found f i is past = record {
  sound = is.sound;
  reps = λ x n s there. let rep = is.reps x n s there in rep_at g image f i (f + 1) 0 x s rep (later s.file s.index rep.before);
  apart = is.apart;
  named = λ h j block has before holds. is.named h j block has (back h j before block holds) holds;
}
  where
    later : (h j : ℕ) → Before f i h j → Before (f + 1) 0 h j
    later h j before = elim before [
      | inl below ↦ inl (omega arith)
      | inr here ↦ let file = here.0 in inl (omega arith)
    ]

    inside : (j : ℕ) (block : Block) → held g image f j ≡ Some block → j < i
    inside j block holds =
        let shown = held-shown g image f j block holds in
        let below = ltb-true (j + 1) (logical g image (Head f)) (shown-names g image f j shown.0 shown.1).0 in
        omega arith

    back : (h j : ℕ) → Before (f + 1) 0 h j → (block : Block) → held g image h j ≡ Some block → Before f i h j
    back h j before block holds = elim before [
      | inl below ↦ elim (cases_eq h f) [
        | inl here ↦ inr (here, inside j block (subst (λ (a : ℕ). held g image a j ≡ Some block) here holds))
        | inr other ↦ inl (omega (arith, other))
      ]
      | inr here ↦ let lt = here.1 in absurd (omega arith)
    ]

-- where no two different blocks have one digest, each digest has one representative
pub alone : (g : Geometry) (image : Image) (found : Found) (f i : ℕ) (x : Digest) → IsTable g found → IsGathered g image found f i → NoClash g image
    → found x 1 ≡ None
alone g image found f i x table is clash = elim (none_or (found x 1)) [
  | inl free ↦ free
  | inr there ↦ elim (none_or (found x 0)) [
    | inl free ↦ table.dense x 0 1 (omega arith) free
    | inr first ↦
        let s = first.0 in
        let t = there.0 in
        let one = is.reps x 0 s first.1 in
        let other = is.reps x 1 t there.1 in
        let same : one.block ≡ other.block =
        clash s.file s.index t.file t.index one.block other.block one.has other.has one.holds other.holds (one.digest ∙ sym other.digest)
        in
        let e = is.apart x 0 1 s t first.1 there.1 (one.holds ∙ ap (λ (b : Block). Some b) same ∙ sym other.holds) in
        absurd (omega (arith, e))
  ]
]
