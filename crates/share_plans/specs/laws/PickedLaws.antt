-- Numbers that are picked from a row: those of the data blocks that are freed.
use Rattle.std.proofs.Common.{◌≡◌, ◌<◌, ◌≤◌, ◌+◌, ◌==◌, ◌||◌, ◌++◌, ◌∷◌, ℕ, zero, suc, Bool, true, false, List, [], refl, ap, sym, subst, ◌∙◌, arith, inl, inr, length}
use Rattle.std.proofs.lemmas.Bool.{cases_Bool, cases_eq, eqb-true}
use Rattle.std.specs.Prelude.{All}
use Rattle.std.proofs.lemmas.List.{length-append}
use Rattle.std.proofs.lemmas.List.Elements.{All-cons}
use Rattle.vol_base.specs.Packing.{Packing}
use Rattle.vol_layout.specs.declared.field.Edit.{Edit}
use Rattle.vol_layout.specs.declared.field.Field.TheVariants.{Count}
use Rattle.vol_layout.specs.Edits.{AreApart, same_field, touches}
use Rattle.vol_layout.specs.laws.EditLaws.{AreApart-push, other_field-is, same_field-refl, touches-append}
use Rattle.image_view.specs.Balances.{edit}
use Rattle.call_effects.specs.Collections.{freed}
use Rattle.call_effects.specs.laws.EachEdit.{all-none}
use Rattle.table_blocks.specs.Tables.{number_in}
use Rattle.share_plans.specs.Spents.{frees, picked}

-- one number more
pub freed_push : (ds : List ℕ) (d : ℕ) → freed (ds ++ d ∷ []) ≡ freed ds ++ edit (Count d) 0 ∷ []
freed_push [] d = refl
freed_push (e ∷ ds) d = ap (λ (es : List Edit). edit (Count e) 0 ∷ es) (freed_push ds d)

pub long_push : {X : Type 0} (xs : List X) (x : X) → length (xs ++ x ∷ []) ≡ length xs + 1
long_push xs x = length-append xs (x ∷ []) ∙ omega arith

touches_push : (es : List Edit) (e : Edit) (d : ℕ) → touches (es ++ e ∷ []) (Count d) ≡ (touches es (Count d) || touches (e ∷ []) (Count d))
touches_push es e d = touches-append es (e ∷ []) (Count d)

module _ (p : ℕ → Bool) (base : ℕ) where
  -- it is picked behind those before it, or none is
  pub picked_yes : (k : ℕ) → p (base + k) ≡ true → picked p base (suc k) ≡ picked p base k ++ (base + k) ∷ []
  picked_yes k hit = rw hit refl

  picked_no : (k : ℕ) → p (base + k) ≡ false → picked p base (suc k) ≡ picked p base k
  picked_no k miss = rw miss refl

  pub freed_yes : (k : ℕ) → p (base + k) ≡ true → freed (picked p base (suc k)) ≡ freed (picked p base k) ++ edit (Count (base + k)) 0 ∷ []
  freed_yes k hit = ap (λ (ds : List ℕ). freed ds) (picked_yes k hit) ∙ freed_push (picked p base k) (base + k)

  touches_yes : (k d : ℕ) → p (base + k) ≡ true
      → touches (freed (picked p base (suc k))) (Count d) ≡ (touches (freed (picked p base k)) (Count d) || touches (edit (Count (base + k)) 0 ∷ []) (Count d))
  touches_yes k d hit =
      ap (λ (es : List Edit). touches es (Count d)) (freed_yes k hit)
      ∙ touches_push (freed (picked p base k)) (edit (Count (base + k)) 0) d

  touches_no : (k d : ℕ) → p (base + k) ≡ false → touches (freed (picked p base (suc k))) (Count d) ≡ touches (freed (picked p base k)) (Count d)
  touches_no k d miss = ap (λ (ds : List ℕ). touches (freed ds) (Count d)) (picked_no k miss)

  -- none is at or past the end of the row
  pub picked_late : (k d : ℕ) → base + k ≤ d → touches (freed (picked p base k)) (Count d) ≡ false
  picked_late zero d late = refl
  picked_late (suc k) d late =
      let early = picked_late k d (omega (arith, late)) in
      elim (cases_Bool (p (base + k))) [
        | inl hit ↦
            let other = other_field-is (Count (base + k)) (Count d) (λ e. let same : base + k ≡ d = cc in omega (arith, same, late)) in
            touches_yes k d hit ∙ rw (early, other) refl
        | inr miss ↦ touches_no k d miss ∙ early
      ]

  -- each is picked, and each that is picked is one of the row
  pub picked_is : (k d : ℕ) → touches (freed (picked p base k)) (Count d) ≡ true → p d ≡ true
  picked_is zero d touched = absurd cc
  picked_is (suc k) d touched =
      elim (cases_Bool (p (base + k))) [
        | inl hit ↦ elim (cases_eq (base + k) d) [
          | inl same ↦ ap p (sym same) ∙ hit
          | inr ne ↦
              let other = other_field-is (Count (base + k)) (Count d) (λ e. ne cc) in
              picked_is k d (last (touches (freed (picked p base k)) (Count d)) (sym (rw other refl) ∙ sym (touches_yes k d hit) ∙ touched))
        ]
        | inr miss ↦ picked_is k d (sym (touches_no k d miss) ∙ touched)
      ]
    where
      last : (b : Bool) → (b || false) ≡ true → b ≡ true
      last true is = refl
      last false is = is

  pub picked_found : (k d : ℕ) → p d ≡ true → base ≤ d → d < base + k → touches (freed (picked p base k)) (Count d) ≡ true
  picked_found zero d hit from below = absurd (omega (arith, from, below))
  picked_found (suc k) d hit from below =
      elim (cases_eq (base + k) d) [
        | inl same ↦
            let here = ap p same ∙ hit in
            let own : touches (edit (Count (base + k)) 0 ∷ []) (Count d) ≡ true = own_count (base + k) d same in
            touches_yes k d here ∙ rw own (last (touches (freed (picked p base k)) (Count d)))
        | inr ne ↦
            let early = picked_found k d hit from (omega (arith, below, ne)) in
            elim (cases_Bool (p (base + k))) [
              | inl here ↦ touches_yes k d here ∙ rw early refl
              | inr miss ↦ touches_no k d miss ∙ early
            ]
      ]
    where
      last : (b : Bool) → (b || true) ≡ true
      last true = refl
      last false = refl

      own_count : (n d : ℕ) → n ≡ d → touches (edit (Count n) 0 ∷ []) (Count d) ≡ true
      own_count n d same =
          let own = same_field-refl (Count d) in subst (λ (m : ℕ). touches (edit (Count m) 0 ∷ []) (Count d) ≡ true) (sym same) (rw own refl)

  pub picked_apart : (k : ℕ) → AreApart (freed (picked p base k))
  picked_apart zero = tt
  picked_apart (suc k) =
      elim (cases_Bool (p (base + k))) [
        | inl hit ↦
            subst AreApart (sym (freed_yes k hit))
            (AreApart-push (freed (picked p base k)) (edit (Count (base + k)) 0) (picked_apart k) (picked_late k (base + k) (omega arith)))
        | inr miss ↦ subst (λ (ds : List ℕ). AreApart (freed ds)) (sym (picked_no k miss)) (picked_apart k)
      ]

-- what is picked by two tests are no more than what each picks
picked_or : (a b c : ℕ → Bool) (base : ℕ) → ((d : ℕ) → c d ≡ (a d || b d)) → (k : ℕ)
    → length (picked c base k) ≤ length (picked a base k) + length (picked b base k)
picked_or a b c base either zero = omega arith
picked_or a b c base either (suc k) =
    let early = picked_or a b c base either k in
    let here = either (base + k) in
    let long_a = long_push (picked a base k) (base + k) in
    let long_b = long_push (picked b base k) (base + k) in
    let long_c = long_push (picked c base k) (base + k) in
    elim (cases_Bool (a (base + k))) [
      | inl hit ↦ elim (cases_Bool (b (base + k))) [
        | inl too ↦ let both : c (base + k) ≡ true = here ∙ rw hit refl in rw (hit, too, both) (omega (arith, early, long_a, long_b, long_c))
        | inr miss ↦ let both : c (base + k) ≡ true = here ∙ rw hit refl in rw (hit, miss, both) (omega (arith, early, long_a, long_c))
      ]
      | inr miss ↦ elim (cases_Bool (b (base + k))) [
        | inl too ↦ let both : c (base + k) ≡ true = here ∙ rw (miss, too) refl in rw (miss, too, both) (omega (arith, early, long_b, long_c))
        | inr neither ↦ let both : c (base + k) ≡ false = here ∙ rw (miss, neither) refl in rw (miss, neither, both) early
      ]
    ]

-- one number is picked once at most
picked_before : (n base k : ℕ) → base + k < n → picked (λ d. n == d + 1) base k ≡ []
picked_before n base zero before = refl
picked_before n base (suc k) before =
    elim (cases_Bool (n == base + k + 1)) [
      | inl is ↦ absurd (let same = eqb-true n (base + k + 1) is in omega (arith, before, same))
      | inr miss ↦ rw miss (picked_before n base k (omega (arith, before)))
    ]

picked_once : (n base k : ℕ) → length (picked (λ d. n == d + 1) base k) ≤ 1
picked_once n base zero = omega arith
picked_once n base (suc k) =
    elim (cases_Bool (n == base + k + 1)) [
      | inl is ↦
          let same = eqb-true n (base + k + 1) is in
          let none = picked_before n base k (omega (arith, same)) in
          rw (is, none) (omega arith)
      | inr miss ↦ rw miss (picked_once n base k)
    ]

picked_never : (part : Packing) (base k : ℕ) → length (picked (frees part []) base k) ≤ 0
picked_never part base zero = omega arith
picked_never part base (suc k) = picked_never part base k

-- no more data blocks are freed than there are edits
pub picked_few : (part : Packing) (es : List Edit) (base k : ℕ) → length (picked (frees part es) base k) ≤ length es
picked_few part [] base k = picked_never part base k
picked_few part (e ∷ es) base k =
    let once = picked_once (number_in part e.field) base k in
    let more = picked_few part es base k in
    let both = picked_or (λ d. number_in part e.field == d + 1) (frees part es) (frees part (e ∷ es)) base (λ d. refl) k in
    omega (arith, once, more, both)

-- what holds of each freed count
pub freed_all : (P : Edit → Type 0) (ds : List ℕ) → ((d : ℕ) → touches (freed ds) (Count d) ≡ true → P (edit (Count d) 0)) → All P (freed ds)
freed_all P [] give = all-none P
freed_all P (d ∷ ds) give =
    let here = same_field-refl (Count d) in
    All-cons P (edit (Count d) 0) (freed ds) (give d (rw here refl))
    (freed_all P ds (λ e touched. give e (or_last (same_field (Count d) (Count e)) (touches (freed ds) (Count e)) touched)))
  where
    or_last : (a b : Bool) → b ≡ true → (a || b) ≡ true
    or_last true b is = refl
    or_last false b is = is
