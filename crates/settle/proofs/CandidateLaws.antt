-- The names of representatives, and a map with one more.
use Rattle.std.proofs.Common.{◌≡◌, ℕ, Bool, true, false, cond, List, Some, None, refl, sym, ap, subst, ◌∙◌, inl, inr}
use Rattle.std.specs.Prelude.{nat_eq}
use Rattle.std.specs.Cmp.{IsEquivalence}
use Rattle.std.specs.Str.{bytes_eq}
use Rattle.std.proofs.lemmas.Bool.{and_from, and_parts, cases_Bool, eq-eqb, eqb-true}
use Rattle.std.proofs.lemmas.Slice.Eq.{bytes_eq-Decides}
use Rattle.indexmap.specs.IndexMap.{IndexMap, get}
use Rattle.vol_base.specs.declared.block.Digest.{Digest}
use Rattle.settle.specs.Added.{Adds}
use Rattle.settle.specs.Gathered.{same_candidate, spot_at}
use Rattle.settle.specs.declared.candidates.Candidate.{Candidate}
use Rattle.settle.specs.declared.candidates.Spot.{Spot}

-- the name of a representative
abbrev pub name_of : Digest → ℕ → Candidate
name_of x n = record { digest = x; number = n }

-- the test of names tells them apart
pub same-is : (a b : Candidate) → same_candidate a b ≡ true → (a.digest ≡ b.digest) × (a.number ≡ b.number)
same-is a b same =
    let parts = and_parts (bytes_eq a.digest.0 b.digest.0) (nat_eq a.number b.number) same in
    let bytes = (bytes_eq-Decides a.digest.0 b.digest.0).0 parts.0 in
    (ap (λ (xs : List ℕ). let x : Digest = record { 0 = xs } in x) bytes, eqb-true a.number b.number parts.1)

pub same-self : (a b : Candidate) → a.digest ≡ b.digest → a.number ≡ b.number → same_candidate a b ≡ true
same-self a b digest number =
    and_from (bytes_eq a.digest.0 b.digest.0) (nat_eq a.number b.number)
    ((bytes_eq-Decides a.digest.0 b.digest.0).1 (ap (λ (x : Digest). x.0) digest)) (eq-eqb a.number b.number number)

pub candidates-equiv : IsEquivalence same_candidate
candidates-equiv = record {
  refl = λ a. same-self a a refl refl;
  symm = λ a b. both (same_candidate a b) (same_candidate b a)
      (λ e. let is = same-is a b e in same-self b a (sym is.0) (sym is.1))
      (λ e. let is = same-is b a e in same-self a b (sym is.0) (sym is.1));
  congr = λ a b c e. let is = same-is a b e in both (same_candidate a c) (same_candidate b c)
      (λ y. let same = same-is a c y in same-self b c (sym is.0 ∙ same.0) (sym is.1 ∙ same.1))
      (λ y. let same = same-is b c y in same-self a c (is.0 ∙ same.0) (is.1 ∙ same.1));
}
  where
    both : (s t : Bool) → (s ≡ true → t ≡ true) → (t ≡ true → s ≡ true) → s ≡ t
    both true t f h = sym (f refl)
    both false true f h = h refl
    both false false f h = refl

-- a map with one more
pub adds-inserted : {S : Type 0} (old new : IndexMap Candidate Spot S) (x : Digest) (n : ℕ) (s : Spot)
    → ((q : Candidate) → get same_candidate new q ≡ cond (same_candidate (name_of x n) q) (Some s) (get same_candidate old q))
    → spot_at old x n ≡ None → Adds (spot_at old) (spot_at new) x n s
adds-inserted old new x n s updates free = record {
  here = updates (name_of x n) ∙ ap (λ b. cond b (Some s) (spot_at old x n)) (same-self (name_of x n) (name_of x n) refl refl);
  kept = λ y m t there. elim (cases_Bool (same_candidate (name_of x n) (name_of y m))) [
    | inl same ↦
        let is = same-is (name_of x n) (name_of y m) same in
        let none : spot_at old y m ≡ None =
        subst (λ (z : Digest). spot_at old z m ≡ None) is.0 (subst (λ (k : ℕ). spot_at old x k ≡ None) is.1 free)
        in
        absurd cc
    | inr other ↦ updates (name_of y m) ∙ ap (λ b. cond b (Some s) (spot_at old y m)) other ∙ there
  ];
  from = λ y m t there. elim (cases_Bool (same_candidate (name_of x n) (name_of y m))) [
    | inl same ↦ let is = same-is (name_of x n) (name_of y m) same in inl (sym is.0, sym is.1)
    | inr other ↦ inr (sym (ap (λ b. cond b (Some s) (spot_at old y m)) other) ∙ sym (updates (name_of y m)) ∙ there)
  ];
}
