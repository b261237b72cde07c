-- Laws of prefix images: how a stretch of a device's writes begins, grows by one call, and is joined to the next stretch.
use Rattle.std.proofs.Common.{◌≡◌, ℕ, ◌+◌, ◌-◌, ◌<◌, ◌≤◌, List, [], ◌∷◌, ◌++◌, cond, Option, Some, None, length, take, refl, sym, ap, subst, ◌∙◌, append_assoc, length-append, arith, inl, inr, option_map, zero, suc}
use Rattle.std.specs.Prelude.{slice_set, nat_lt, IfOk, IfSome, OnErr, OnOk, Result, Ok, Err}
use Rattle.shared_disk.specs.declared.answers.Tested.{Tested}
use Rattle.shared_disk.specs.declared.answers.Tested.TheVariants.{Swapped, Found}
use Rattle.std.proofs.Math.Seq.{take-append-add}
use Rattle.std.proofs.lemmas.List.{append-nil, length-set, take_all, take-append-le}
use Rattle.std.proofs.lemmas.Bool.{cases_lt}
use Rattle.std.proofs.lemmas.Bool.Decides.{nat_tests}
use Rattle.shared_disk.specs.State.{Told, State}
use Rattle.shared_disk.specs.Calls.{told_after, after_write, Swaps, WritesAtMost}
use Rattle.shared_disk.specs.Prefixes.{image_after, EachFront, Prefixes, EachImage, After}

-- writes in two parts
pub image_after-append : (earlier later : List (ℕ × List ℕ)) (image : List (List ℕ))
    → image_after (earlier ++ later) image ≡ image_after later (image_after earlier image)
unfolding image_after
image_after-append [] later image = refl
image_after-append (w ∷ earlier) later image = image_after-append earlier later (slice_set image w.0 w.1)

-- writes leave the number of blocks
pub length-image_after : (writes : List (ℕ × List ℕ)) (image : List (List ℕ)) → length (image_after writes image) ≡ length image
unfolding image_after
length-image_after [] image = refl
length-image_after (w ∷ writes) image = length-image_after writes (slice_set image w.0 w.1) ∙ length-set image w.0 w.1

-- a stretch ends where its image stands for the whole history
pub EachFront-ends : {E : Type 0} (StandsFor : List (List ℕ) → List E → Type 0) (image : List (List ℕ)) (writes : List (ℕ × List ℕ))
    (history : List E) → EachFront StandsFor image writes history → StandsFor (image_after writes image) history
EachFront-ends {E} StandsFor image writes history fronts =
    let all : take (length writes) writes ≡ writes = take_all (length writes) writes (omega arith) in
    let whole : take (fronts.front (length writes)) history ≡ history = rw fronts.last (take_all (length history) history (omega arith)) in
    subst (λ (ws : List (ℕ × List ℕ)). StandsFor (image_after ws image) history) all
    (subst (λ (h : List E). StandsFor (image_after (take (length writes) writes) image) h) whole
    (fronts.each (length writes) (omega arith)))

-- a stretch without a write
pub EachFront-empty : {E : Type 0} (StandsFor : List (List ℕ) → List E → Type 0) (image : List (List ℕ)) (history : List E)
    → StandsFor image history → EachFront StandsFor image [] history
unfolding image_after
EachFront-empty {E} StandsFor image history stands = record {
  front = λ _. length history;
  rising = λ j k _ _. omega arith;
  last = refl;
  each = λ k h. rw (take_all {A = ℕ × List ℕ} k [] (omega arith), take_all (length history) history (omega arith)) stands;
}

-- the front at a write that the history's entries come with
abbrev written_front : ℕ → ℕ → ℕ
written_front entries zero = 0
written_front entries (suc k) = entries

-- one write, with all entries of the history
pub EachFront-one : {E : Type 0} (StandsFor : List (List ℕ) → List E → Type 0) (image : List (List ℕ)) (place : ℕ) (block : List ℕ)
    (history : List E) → StandsFor image [] → StandsFor (slice_set image place block) history → EachFront StandsFor image
    ((place, block) ∷ []) history
unfolding image_after
EachFront-one {E} StandsFor image place block history before after = record {
  front = written_front (length history);
  rising = rising;
  last = refl;
  each = each;
}
  where
    rising : (j k : ℕ) → j ≤ k → k ≤ 1 → written_front (length history) j ≤ written_front (length history) k
    rising zero k order within = omega arith
    rising (suc j) zero order within = absurd (omega arith)
    rising (suc j) (suc k) order within = omega arith

    each : (k : ℕ) → k ≤ 1 → StandsFor (image_after (take k ((place, block) ∷ [])) image) (take (written_front (length history) k) history)
    each zero within = before
    each (suc k) within = rw (take_all {A = ℕ × List ℕ} k [] (omega arith), take_all (length history) history (omega arith)) after

-- what each image stands for, said of no entries
pub EachFront-forgets : {E F : Type 0} (StandsFor : List (List ℕ) → List E → Type 0) (Weaker : List (List ℕ) → List F → Type 0)
    (image : List (List ℕ)) (writes : List (ℕ × List ℕ)) (history : List E) →
    ((i : List (List ℕ)) (h : List E) → StandsFor i h → Weaker i []) → EachFront StandsFor image writes history
    → EachFront Weaker image writes []
EachFront-forgets StandsFor Weaker image writes history weaken fronts = record {
  front = λ _. 0;
  rising = λ j k _ _. omega arith;
  last = refl;
  each = λ k within. weaken _ _ (fronts.each k within);
}

-- what each image stands for, said more weakly
pub EachFront-weaker : {E : Type 0} (StandsFor Weaker : List (List ℕ) → List E → Type 0) (image : List (List ℕ))
    (writes : List (ℕ × List ℕ)) (history : List E) → ((i : List (List ℕ)) (h : List E) → StandsFor i h → Weaker i h)
    → EachFront StandsFor image writes history → EachFront Weaker image writes history
EachFront-weaker StandsFor Weaker image writes history weaken fronts = record { front = fronts.front; rising = fronts.rising; last = fronts.last; each = λ k within. weaken _ _ (fronts.each k within) }

-- the front in the first stretch, and from its end on that of the second
abbrev joined_front : (ℕ → ℕ) → (ℕ → ℕ) → ℕ → ℕ → ℕ → ℕ
joined_front first second writes entries k = cond (nat_lt k writes) (first k) (entries + second (k - writes))

joined-first : (first second : ℕ → ℕ) (writes entries k : ℕ) → k < writes → joined_front first second writes entries k ≡ first k
joined-first first second writes entries k below = grind (arith, nat_tests)

joined-second : (first second : ℕ → ℕ) (writes entries k : ℕ) → writes ≤ k
    → joined_front first second writes entries k ≡ entries + second (k - writes)
joined-second first second writes entries k above = grind (arith, nat_tests)

joined-rising : (first second : ℕ → ℕ) (writes more entries : ℕ) → ((j k : ℕ) → j ≤ k → k ≤ writes → first j ≤ first k)
    → first writes ≡ entries → ((j k : ℕ) → j ≤ k → k ≤ more → second j ≤ second k) → (j k : ℕ) → j ≤ k → k ≤ writes + more
    → joined_front first second writes entries j ≤ joined_front first second writes entries k
joined-rising first second writes more entries first_rises ends second_rises j k order within =
    elim (cases_lt j writes) [
      | inl j_below ↦ elim (cases_lt k writes) [
        | inl k_below ↦ rw (joined-first first second writes entries j j_below, joined-first first second writes entries k k_below)
            (first_rises j k order (omega arith))
        | inr k_above ↦ rw (joined-first first second writes entries j j_below, joined-second first second writes entries k k_above)
            (let to_end : first j ≤ first writes = first_rises j writes (omega arith) (omega arith) in omega arith)
      ]
      | inr j_above ↦
          let k_above : writes ≤ k = omega arith in
          let rises : second (j - writes) ≤ second (k - writes) = second_rises (j - writes) (k - writes) (omega arith) (omega arith) in
          rw (joined-second first second writes entries j j_above, joined-second first second writes entries k k_above) (omega arith)
    ]

-- two stretches, where the second one's entries come after the first one's
pub EachFront-joined : {E : Type 0} (StandsFor : List (List ℕ) → List E → Type 0) (image : List (List ℕ))
    (earlier later : List (ℕ × List ℕ)) (before more : List E) → EachFront StandsFor image earlier before → EachFront
    (After StandsFor before) (image_after earlier image) later more → EachFront StandsFor image (earlier ++ later) (before ++ more)
EachFront-joined {E} StandsFor image earlier later before more first second = record {
  front = front;
  rising = λ j k order within. joined-rising first.front second.front (length earlier) (length later) (length before) first.rising first.last second.rising j k order (omega (arith, length-append {A = ℕ × List ℕ}));
  last = last;
  each = λ k within. elim (cases_lt k (length earlier)) [ inl below ↦ in_first k below | inr above ↦ in_second k above within ];
}
  where
    front : ℕ → ℕ
    front k = joined_front first.front second.front (length earlier) (length before) k

    last : front (length (earlier ++ later)) ≡ length (before ++ more)
    last =
        let at_end : length earlier + length later - length earlier ≡ length later = omega arith in
        rw (length-append earlier later, length-append before more, joined-second first.front second.front (length earlier) (length before) (length earlier + length later) (omega arith), at_end, second.last) refl

    in_first : (k : ℕ) → k < length earlier → StandsFor (image_after (take k (earlier ++ later)) image) (take (front k) (before ++ more))
    in_first k below =
        let to_end : first.front k ≤ first.front (length earlier) = first.rising k (length earlier) (omega arith) (omega arith) in
        let within : first.front k ≤ length before = rw first.last at to_end in
        rw (take-append-le k earlier later (omega arith), joined-first first.front second.front (length earlier) (length before) k below, take-append-le (first.front k) before more within) (first.each k (omega arith))

    later_on : (m : ℕ) → m ≤ length later → StandsFor (image_after (take (length earlier + m) (earlier ++ later)) image) (take (length before + second.front m) (before ++ more))
    later_on m within = rw (take-append-add earlier later m, image_after-append earlier (take m later) image, take-append-add before more (second.front m)) (second.each m within)

    in_second : (k : ℕ) → length earlier ≤ k → k ≤ length (earlier ++ later) → StandsFor (image_after (take k (earlier ++ later)) image) (take (front k) (before ++ more))
    in_second k above within =
        let split : length earlier + (k - length earlier) ≡ k = omega arith in
        rw (joined-second first.front second.front (length earlier) (length before) k above)
        (subst (λ (n : ℕ). StandsFor (image_after (take n (earlier ++ later)) image) (take (length before + second.front (k - length earlier)) (before ++ more))) split
        (later_on (k - length earlier) (omega (arith, length-append {A = ℕ × List ℕ}))))

-- a stretch without a write, with any entries
pub Prefixes-begun : {E : Type 0} (StandsFor : List (List ℕ) → List E → Type 0) (told : Option Told) (history : List E)
    → IfSome told (λ t. StandsFor t.image history) → Prefixes StandsFor told told history
unfolding Prefixes image_after
Prefixes-begun StandsFor None history stands = tt
Prefixes-begun StandsFor (Some t) history stands = record {
  made = [];
  writes = sym (append-nil t.writes);
  image = refl;
  fronts = EachFront-empty StandsFor t.image history stands;
}

-- one write, with any entries
pub Prefixes-one : {E : Type 0} (StandsFor : List (List ℕ) → List E → Type 0) (told : Option Told) (place : ℕ) (block : List ℕ)
    (history : List E) → IfSome told (λ t. StandsFor t.image []) → IfSome told (λ t. StandsFor (slice_set t.image place block) history)
    → Prefixes StandsFor told (option_map (told_after place block) told) history
unfolding Prefixes image_after
Prefixes-one StandsFor None place block history before after = tt
Prefixes-one StandsFor (Some t) place block history before after = record {
  made = (place, block) ∷ [];
  writes = refl;
  image = refl;
  fronts = EachFront-one StandsFor t.image place block history before after;
}

-- two stretches, where the second one's entries come after the first one's
pub Prefixes-joined : {E : Type 0} (StandsFor : List (List ℕ) → List E → Type 0) (first middle last : Option Told) (before more : List E)
    → Prefixes StandsFor first middle before → Prefixes (After StandsFor before) middle last more
    → Prefixes StandsFor first last (before ++ more)
unfolding Prefixes
Prefixes-joined StandsFor None None None before more earlier later = tt
Prefixes-joined StandsFor None None (Some l) before more earlier later = absurd later
Prefixes-joined StandsFor None (Some m) last before more earlier later = absurd earlier
Prefixes-joined StandsFor (Some f) None last before more earlier later = absurd earlier
Prefixes-joined StandsFor (Some f) (Some m) None before more earlier later = absurd later
Prefixes-joined StandsFor (Some f) (Some m) (Some l) before more earlier later = record {
  made = earlier.made ++ later.made;
  writes = rw (later.writes, earlier.writes) (append_assoc f.writes earlier.made later.made);
  image = rw (later.image, earlier.image) (sym (image_after-append earlier.made later.made f.image));
  fronts = EachFront-joined StandsFor f.image earlier.made later.made before more earlier.fronts
      (subst (λ (i : List (List ℕ)). EachFront (After StandsFor before) i later.made more) earlier.image later.fronts);
}

-- a stretch ends where its image stands for the whole history
pub Prefixes-ends : {E : Type 0} (StandsFor : List (List ℕ) → List E → Type 0) (first last : Option Told) (history : List E)
    → Prefixes StandsFor first last history → IfSome last (λ t. StandsFor t.image history)
unfolding Prefixes
Prefixes-ends StandsFor None None history stretch = tt
Prefixes-ends StandsFor None (Some l) history stretch = absurd stretch
Prefixes-ends StandsFor (Some f) None history stretch = absurd stretch
Prefixes-ends StandsFor (Some f) (Some l) history stretch =
    rw stretch.image (EachFront-ends StandsFor f.image stretch.made history stretch.fronts)

-- a stretch begins where its image stands for some front of the history
pub Prefixes-starts : {E : Type 0} (StandsFor : List (List ℕ) → List E → Type 0) (first last : Option Told) (history : List E)
    → Prefixes StandsFor first last history → IfSome first (λ t. (n : ℕ) × StandsFor t.image (take n history))
unfolding Prefixes image_after
Prefixes-starts StandsFor None last history stretch = tt
Prefixes-starts StandsFor (Some f) None history stretch = absurd stretch
Prefixes-starts StandsFor (Some f) (Some l) history stretch = (stretch.fronts.front 0, stretch.fronts.each 0 (omega arith))

-- what each image stands for, said of no entries
pub Prefixes-forgets : {E F : Type 0} (StandsFor : List (List ℕ) → List E → Type 0) (Weaker : List (List ℕ) → List F → Type 0)
    (first last : Option Told) (history : List E) → ((i : List (List ℕ)) (h : List E) → StandsFor i h → Weaker i [])
    → Prefixes StandsFor first last history → Prefixes Weaker first last []
unfolding Prefixes
Prefixes-forgets StandsFor Weaker None None history weaken stretch = tt
Prefixes-forgets StandsFor Weaker None (Some l) history weaken stretch = absurd stretch
Prefixes-forgets StandsFor Weaker (Some f) None history weaken stretch = absurd stretch
Prefixes-forgets StandsFor Weaker (Some f) (Some l) history weaken stretch = record {
  made = stretch.made;
  writes = stretch.writes;
  image = stretch.image;
  fronts = EachFront-forgets StandsFor Weaker f.image stretch.made history weaken stretch.fronts;
}

-- what each image stands for, said more weakly
pub Prefixes-weaker : {E : Type 0} (StandsFor Weaker : List (List ℕ) → List E → Type 0) (first last : Option Told) (history : List E)
    → ((i : List (List ℕ)) (h : List E) → StandsFor i h → Weaker i h) → Prefixes StandsFor first last history
    → Prefixes Weaker first last history
unfolding Prefixes
Prefixes-weaker StandsFor Weaker None None history weaken stretch = tt
Prefixes-weaker StandsFor Weaker None (Some l) history weaken stretch = absurd stretch
Prefixes-weaker StandsFor Weaker (Some f) None history weaken stretch = absurd stretch
Prefixes-weaker StandsFor Weaker (Some f) (Some l) history weaken stretch = record {
  made = stretch.made;
  writes = stretch.writes;
  image = stretch.image;
  fronts = EachFront-weaker StandsFor Weaker f.image stretch.made history weaken stretch.fronts;
}

-- what is told after a write, said of what was told before it
pub IfSome-told_after : (P : List (List ℕ) → Type 0) (told : Option Told) (place : ℕ) (block : List ℕ)
    → IfSome (option_map (told_after place block) told) (λ t. P t.image) → IfSome told (λ t. P (slice_set t.image place block))
IfSome-told_after P None place block holds = tt
IfSome-told_after P (Some t) place block holds = holds

-- a stretch, and then entries without a write
pub Prefixes-noted : {E : Type 0} (StandsFor : List (List ℕ) → List E → Type 0) (first last : Option Told) (before more : List E)
    → Prefixes StandsFor first last before → IfSome last (λ t. StandsFor t.image (before ++ more))
    → Prefixes StandsFor first last (before ++ more)
Prefixes-noted StandsFor first last before more stretch stands =
    Prefixes-joined StandsFor first last last before more stretch (Prefixes-begun (After StandsFor before) last more stands)

-- a stretch, and then one write with any entries
pub Prefixes-wrote : {E : Type 0} (StandsFor : List (List ℕ) → List E → Type 0) (first last : Option Told) (place : ℕ) (block : List ℕ)
    (before more : List E) → Prefixes StandsFor first last before → IfSome last
    (λ t. StandsFor (slice_set t.image place block) (before ++ more)) → Prefixes StandsFor first
    (option_map (told_after place block) last) (before ++ more)
Prefixes-wrote {E} StandsFor first last place block before more stretch stands =
    Prefixes-joined StandsFor first last (option_map (told_after place block) last) before more stretch
    (Prefixes-one (After StandsFor before) last place block more
    (subst (λ (h : List E). IfSome last (λ t. StandsFor t.image h)) (sym (append-nil before)) (Prefixes-ends StandsFor first last before stretch))
    stands)

-- a stretch, and then one write without an entry
pub Prefixes-wrote_unnoted : {E : Type 0} (StandsFor : List (List ℕ) → List E → Type 0) (first last : Option Told) (place : ℕ)
    (block : List ℕ) (history : List E) → Prefixes StandsFor first last history → IfSome last
    (λ t. StandsFor (slice_set t.image place block) history) → Prefixes StandsFor first (option_map (told_after place block) last) history
Prefixes-wrote_unnoted {E} StandsFor first last place block history stretch stands =
    subst (λ (h : List E). Prefixes StandsFor first (option_map (told_after place block) last) h) (append-nil history)
    (Prefixes-wrote StandsFor first last place block history [] stretch
    (subst (λ (h : List E). IfSome last (λ t. StandsFor (slice_set t.image place block) h)) (sym (append-nil history)) stands))

-- a write, whatever it answers
pub WritesAtMost-write : {T E : Type 0} (s t : State) (place : ℕ) (block : List ℕ) (result : Result T E)
    → OnOk result (t ≡ after_write place block s) → OnErr result (t ≡ s) → WritesAtMost place block s t
WritesAtMost-write s t place block (Ok x) done same = inr done
WritesAtMost-write s t place block (Err e) done same = inl same

-- a test-and-set, whatever it answers
pub WritesAtMost-swap : {E : Type 0} (s t : State) (place : ℕ) (old new : List ℕ) (result : Result Tested E)
    → IfOk result (Swaps place old new s t) → OnErr result (t ≡ s) → WritesAtMost place new s t
WritesAtMost-swap s t place old new (Ok Swapped) done same = inr done.1
WritesAtMost-swap s t place old new (Ok (Found block)) done same = inl done.2
WritesAtMost-swap s t place old new (Err e) done same = inl same

-- a stretch, and then one call, which wrote one block at most, with any entries
pub Prefixes-called : {E : Type 0} (StandsFor : List (List ℕ) → List E → Type 0) (first : Option Told) (s t : State) (place : ℕ)
    (block : List ℕ) (before more : List E) → Prefixes StandsFor first s.told before → WritesAtMost place block s t → IfSome t.told
    (λ told. StandsFor told.image (before ++ more)) → Prefixes StandsFor first t.told (before ++ more)
Prefixes-called StandsFor first s t place block before more stretch (inl same) stands =
    rw (ap (λ (u : State). u.told) same) (Prefixes-noted StandsFor first s.told before more stretch
    (rw (ap (λ (u : State). u.told) same) at stands))
Prefixes-called StandsFor first s t place block before more stretch (inr wrote) stands =
    rw (ap (λ (u : State). u.told) wrote) (Prefixes-wrote StandsFor first s.told place block before more stretch
    (IfSome-told_after (λ i. StandsFor i (before ++ more)) s.told place block (rw (ap (λ (u : State). u.told) wrote) at stands)))

-- a stretch, and then images that all stand for the whole history
pub Prefixes-joined_images : {E : Type 0} (StandsFor : List (List ℕ) → List E → Type 0) (first middle last : Option Told)
    (history : List E) → Prefixes StandsFor first middle history → EachImage (λ i. StandsFor i history) middle last
    → Prefixes StandsFor first last history
unfolding EachImage
Prefixes-joined_images {E} StandsFor first middle last history earlier later =
    let unnoted : Prefixes (After StandsFor history) middle last [] = Prefixes-forgets {E = ℕ} {F = E} (λ i _. StandsFor i history) (After StandsFor history) middle last [] (λ i h stands. rw append-nil stands) later in
    subst (λ (h : List E). Prefixes StandsFor first last h) (append-nil history) (Prefixes-joined StandsFor first middle last history [] earlier unnoted)

-- no write
pub EachImage-begun : (P : List (List ℕ) → Type 0) (told : Option Told) → IfSome told (λ t. P t.image) → EachImage P told told
unfolding EachImage
EachImage-begun P told holds = Prefixes-begun {E = ℕ} (λ i _. P i) told [] holds

-- a stretch, and then one write
pub EachImage-wrote : (P : List (List ℕ) → Type 0) (first last : Option Told) (place : ℕ) (block : List ℕ) → EachImage P first last
    → IfSome last (λ t. P (slice_set t.image place block)) → EachImage P first (option_map (told_after place block) last)
unfolding EachImage
EachImage-wrote P first last place block stretch holds = Prefixes-wrote {E = ℕ} (λ i _. P i) first last place block [] [] stretch holds

-- a stretch, and then one call, which wrote one block at most
pub EachImage-called : (P : List (List ℕ) → Type 0) (first : Option Told) (s t : State) (place : ℕ) (block : List ℕ)
    → EachImage P first s.told → WritesAtMost place block s t → IfSome t.told (λ told. P told.image) → EachImage P first t.told
unfolding EachImage
EachImage-called P first s t place block stretch call holds = Prefixes-called {E = ℕ} (λ i _. P i) first s t place block [] [] stretch call holds

-- two stretches
pub EachImage-joined : (P : List (List ℕ) → Type 0) (first middle last : Option Told) → EachImage P first middle → EachImage P middle last
    → EachImage P first last
unfolding EachImage
EachImage-joined P first middle last earlier later = Prefixes-joined {E = ℕ} (λ i _. P i) first middle last [] [] earlier later

-- the last image is one of them
pub EachImage-ends : (P : List (List ℕ) → Type 0) (first last : Option Told) → EachImage P first last → IfSome last (λ t. P t.image)
unfolding EachImage
EachImage-ends P first last stretch = Prefixes-ends {E = ℕ} (λ i _. P i) first last [] stretch

-- the first image is one of them
pub EachImage-starts : (P : List (List ℕ) → Type 0) (first last : Option Told) → EachImage P first last → IfSome first (λ t. P t.image)
unfolding EachImage
EachImage-starts P None last stretch = tt
EachImage-starts P (Some f) last stretch =
    let start : (n : ℕ) × P f.image = Prefixes-starts {E = ℕ} (λ i _. P i) (Some f) last [] stretch in start.1

-- each image meets a weaker fact
pub EachImage-weaker : (P Q : List (List ℕ) → Type 0) (first last : Option Told) → ((i : List (List ℕ)) → P i → Q i)
    → EachImage P first last → EachImage Q first last
unfolding EachImage
EachImage-weaker P Q first last weaken stretch = Prefixes-weaker {E = ℕ} (λ i _. P i) (λ i _. Q i) first last [] (λ i _. weaken i) stretch

-- each image of a stretch meets what follows from standing for some front
pub EachImage-from_prefixes : {E : Type 0} (StandsFor : List (List ℕ) → List E → Type 0) (P : List (List ℕ) → Type 0)
    (first last : Option Told) (history : List E) → ((i : List (List ℕ)) (h : List E) → StandsFor i h → P i)
    → Prefixes StandsFor first last history → EachImage P first last
unfolding EachImage
EachImage-from_prefixes {E} StandsFor P first last history weaken stretch = Prefixes-forgets {E = E} {F = ℕ} StandsFor (λ i _. P i) first last history weaken stretch
