-- What the calls of a `log` have shown, with one more.
use Rattle.std.proofs.Common.{◌≡◌, ◌≢◌, ◌++◌, ◌∷◌, ◌+◌, ◌<◌, ◌≤◌, ◌∙◌, ℕ, List, [], Option, Some, ap, arith, refl, subst, sym, inl, inr}
use Rattle.std.proofs.lemmas.Bool.{cases_eq}
use Rattle.std.proofs.lemmas.List.Elements.{Contains-append_left, Contains-push, Contains-push_cases}
use Rattle.std.specs.Prelude.{Contains}
use Rattle.vol_layout.specs.declared.geometry.Geometry.{Geometry}
use Rattle.vol_layout.specs.declared.kind.Kind.{Kind}
use Rattle.vol_layout.specs.declared.kind.Kind.TheVariants as kinds
use Rattle.vol_layout.specs.Places.{kind_at, place_of}
use Rattle.vol_layout.specs.Ranges.{HasKind}
use Rattle.vol_layout.specs.laws.PlaceLaws.{kind_at-place}
use Rattle.shared_disk.specs.Events.{Event, Reads, Shows, event}
use Rattle.host_runs.specs.HintCauses.{AreLogsFull, logged_hints}
use Rattle.host_runs.specs.NotedCalls.{ShowsKind, SomeCall}
use Rattle.host_runs.specs.Notes.{NotedCall}
use Rattle.host_runs.specs.lemmas.OrderlyPlaced.{some_same}
use Rattle.hint_plans.specs.Logs.{AreRead, HasSeenLog, IsSeenEmpty}

-- a call that is one of the earlier ones, or the last
pub some_more : (P : Option Event → Type 0) (calls : List NotedCall) (c : NotedCall) → SomeCall P calls → SomeCall P (calls ++ c ∷ [])
some_more P calls c (d, there, is) = (d, Contains-append_left calls (c ∷ []) d there, is)

pub some_last : (P : Option Event → Type 0) (calls : List NotedCall) (c : NotedCall) → P (Some c.event) → SomeCall P (calls ++ c ∷ [])
some_last P calls c is = (c, Contains-push calls c, is)

pub earlier_call : (P : Option Event → Type 0) (calls : List NotedCall) (c : NotedCall) → (P (Some c.event) → ⊥) → SomeCall P (calls ++ c ∷ [])
    → SomeCall P calls
earlier_call P calls c other some =
    elim (Contains-push_cases calls c some.0 some.1) [
      | inl earlier ↦ (some.0, earlier, some.2)
      | inr last ↦ absurd (other (subst (λ (d : NotedCall). P (Some d.event)) (sym last) some.2))
    ]

-- the read of a block shows that one, of its kind
pub shows_one : (g : Geometry) (kind other : Kind) (block shown : List ℕ) (key : ℕ) → HasKind g kind
    → ShowsKind g other shown (Some (event key (Reads (place_of g kind)) (Shows block))) → (kind ≡ other) × (shown ≡ block)
shows_one g kind other block shown key has (place, at, is) =
    let same : (let here : ℕ × List ℕ = (place_of g kind, block) in here) ≡ (place, shown) =
    some_same (place_of g kind, block) (place, shown) is in (
      some_same kind other
          (sym (kind_at-place g kind has) ∙ ap (λ (x : ℕ × List ℕ). kind_at g x.0) same ∙ at),
      sym (ap (λ (x : ℕ × List ℕ). x.1) same),
    )

same_log : (h k l : ℕ) → kinds.Log h l ≡ kinds.Log h k → l ≡ k
same_log h k l is = cc

module _ (g : Geometry) (h l : ℕ) (calls : List NotedCall) (c : NotedCall) where
  -- a call that showed no log block
  pub empty_more : ((block : List ℕ) → ShowsKind g (kinds.Log h l) block (Some c.event) → ⊥) → IsSeenEmpty g h l calls
      → IsSeenEmpty g h l (calls ++ c ∷ [])
  empty_more other empty block seen = empty block (earlier_call (ShowsKind g (kinds.Log h l) block) calls c (other block) seen)

  module _ (key : ℕ) (block : List ℕ) (has : HasKind g (kinds.Log h l))
      (reads : c.event ≡ event key (Reads (place_of g (kinds.Log h l))) (Shows block)) where
    shows : (k : ℕ) (shown : List ℕ) → ShowsKind g (kinds.Log h k) shown (Some c.event) → (l ≡ k) × (shown ≡ block)
    shows k shown is =
        let one = shows_one g (kinds.Log h l) (kinds.Log h k) block shown key has
        (subst (λ (e : Event). ShowsKind g (kinds.Log h k) shown (Some e)) reads is) in (same_log h k l one.0, one.1)

    here : ShowsKind g (kinds.Log h l) block (Some c.event)
    here =
        subst (λ (e : Event). ShowsKind g (kinds.Log h l) block (Some e)) (sym reads)
        (place_of g (kinds.Log h l), kind_at-place g (kinds.Log h l) has, refl)

    -- the next own log block was read, which has a hint, or none
    pub read_full : logged_hints g block ≢ [] → AreRead g h l calls → AreRead g h (l + 1) (calls ++ c ∷ [])
    read_full some are = record { full = full; unread = unread }
      where
        full : (k : ℕ) → k < l + 1 → (shown : List ℕ) × HasSeenLog g h k shown (calls ++ c ∷ []) × (logged_hints g shown ≢ [])
        full k lt = elim (cases_eq k l) [
          | inl same ↦
              subst (λ (x : ℕ). (shown : List ℕ) × HasSeenLog g h x shown (calls ++ c ∷ []) × (logged_hints g shown ≢ [])) (sym same)
              (block, some_last (ShowsKind g (kinds.Log h l) block) calls c here, some)
          | inr other ↦
              let (shown, seen, has_some) = are.full k (omega (arith, lt, other)) in
              (shown, some_more (ShowsKind g (kinds.Log h k) shown) calls c seen, has_some)
        ]

        unread : (k : ℕ) (shown : List ℕ) → l + 1 ≤ k → HasSeenLog g h k shown (calls ++ c ∷ []) → ⊥
        unread k shown le seen =
            are.unread k shown (omega (arith, le))
            (earlier_call (ShowsKind g (kinds.Log h k) shown) calls c
            (λ is. let same = (shows k shown is).0 in omega (arith, le, same)) seen)

    pub read_empty : logged_hints g block ≡ [] → AreRead g h l calls → IsSeenEmpty g h l (calls ++ c ∷ [])
    read_empty none are shown seen =
        elim (Contains-push_cases calls c seen.0 seen.1) [
          | inl earlier ↦ absurd (are.unread l shown (omega arith) (seen.0, earlier, seen.2))
          | inr last ↦
              let one = shows l shown (subst (λ (d : NotedCall). ShowsKind g (kinds.Log h l) shown (Some d.event)) (sym last) seen.2) in
              ap (logged_hints g) one.1 ∙ none
        ]

-- whether all own log blocks have a hint
pub all_full : (g : Geometry) (h l : ℕ) (calls : List NotedCall) → g.logs ≤ l → AreRead g h l calls → AreLogsFull g h calls
all_full g h l calls le are k lt = are.full k (omega (arith, lt, le))

pub one_unread : (g : Geometry) (h l : ℕ) (calls : List NotedCall) → l < g.logs → AreRead g h l calls → AreLogsFull g h calls → ⊥
one_unread g h l calls lt are full = let (block, seen, some) = full l lt in are.unread l block (omega arith) seen

pub one_empty : (g : Geometry) (h l : ℕ) (calls : List NotedCall) → l < g.logs → IsSeenEmpty g h l calls → AreLogsFull g h calls → ⊥
one_empty g h l calls lt empty full = let (block, seen, some) = full l lt in some (empty block seen)

-- before the first call none was read
pub none_read : (g : Geometry) (h : ℕ) (calls : List NotedCall) → calls ≡ [] → AreRead g h 0 calls
none_read g h calls none = record {
  full = λ k lt. absurd (omega (arith, lt));
  unread = λ k block le seen.
      let has : Contains [] seen.0 = subst (λ (cs : List NotedCall). Contains cs seen.0) none seen.1 in omega (arith, has.1);
}
