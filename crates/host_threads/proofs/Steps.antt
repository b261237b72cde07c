-- What a turn, and a round of turns, does to the steps that are left.
use Rattle.std.proofs.Common.{◌≡◌, ◌≤◌, ◌<◌, ◌⊎◌, ◌+◌, ◌↔◌, ℕ, Bool, false, Option, Some, refl, sym, ap, ◌∙◌, subst, inl, inr, ⊎_elim, arith}
use Rattle.std.specs.Prelude.{IfSome}
use Rattle.std.proofs.lemmas.Bool.{cases_lt}
use Rattle.vol_base.specs.Turned.{Lowers, Stays}
use Rattle.vol_base.specs.declared.block.Block.{Block}
use Rattle.vol_base.specs.declared.answer.Turn.{Turn}
use Rattle.vol_base.specs.declared.answer.Turn.TheVariants.{Moved, Work, Answered, Idle}

module _ {T : Type 0} (left : T → ℕ) where
  -- fewer steps are left, or nothing changed and the host had no command
  pub moves : (turn : Turn) (had : Bool) (old new : T) → ((block : Block) → turn ≡ Work block → ⊥) → Lowers turn (left old) (left new) → Stays turn old new → ((turn ≡ Idle) ↔ (had ≡ false))
      → (left new < left old) ⊎ ((new ≡ old) × (had ≡ false))
  moves Moved had old new else_ lowers stays idle = inl lowers
  moves (Answered answer) had old new else_ lowers stays idle = inl lowers
  moves (Work block) had old new else_ lowers stays idle = absurd (else_ block refl)
  moves Idle had old new else_ lowers stays idle = inr (stays, idle.0 refl)

  pub hands : (awaited : T → Option Block) (turn : Turn) (old mid new : T) (block : Block) → turn ≡ Work block → Stays turn old mid → awaited old ≡ Some block
      → IfSome (awaited mid) (λ _. left new < left mid) → left new < left old
  hands awaited turn old mid new block is stays waits lowers =
      let same : mid ≡ old = subst (λ t. Stays t old mid) is stays in
      let M : T → Type 0 = λ m. left new < left m in
      let O : Option Block → Type 0 = λ o. IfSome o (λ _. left new < left mid) in
      subst M same (subst O (ap awaited same ∙ waits) lowers)

  module _ (has : T → ℕ → Bool) where
    -- the turns of the hosts below this one left fewer steps, or they changed nothing and no host that was asked, and none past the last, had a command
    abbrev pub Rounds : ℕ → T → T → ℕ → Type 0
    Rounds hosts first value host = (left value < left first)
        ⊎ ((value ≡ first) × ((h : ℕ) → h < host → has first h ≡ false) × (0 < host → (h : ℕ) → hosts ≤ h → has first h ≡ false))

    pub rounds_on : (first value next : T) (host hosts now : ℕ) → now ≡ hosts → Rounds hosts first value host → (left next < left value) ⊎ ((next ≡ value) × (has value host ≡ false))
        → ((h : ℕ) → now ≤ h → has value h ≡ false) → Rounds hosts first next (host + 1)
    rounds_on first value next host hosts now is (inl less) (inl lower) past = inl (omega arith)
    rounds_on first value next host hosts now is (inl less) (inr still) past = inl (let e = ap left still.0 in omega arith)
    rounds_on first value next host hosts now is (inr before) (inl lower) past = inl (let e = ap left before.0 in omega arith)
    rounds_on first value next host hosts now is (inr before) (inr still) past =
        let had : (h : ℕ) → has value h ≡ false → has first h ≡ false = λ h e. ap (λ v. has v h) (sym before.0) ∙ e in inr (
          still.0 ∙ before.0,
          (λ h within. ⊎_elim (before.1 h) (λ (t : host ≤ h). had h (ap (has value) (let e : h ≡ host = omega arith in e) ∙ still.1)) (cases_lt h host)),
          (λ _ h beyond. had h (past h (omega arith))),
        )

    pub rounds_end : (first value : T) (hosts last : ℕ) → 1 ≤ last → hosts ≤ last → Rounds hosts first value last → (left value < left first) ⊎ ((h : ℕ) → has first h ≡ false)
    rounds_end first value hosts last some few (inl less) = inl less
    rounds_end first value hosts last some few (inr before) = inr (λ h. ⊎_elim (before.1 h) (λ (t : last ≤ h). before.2 (omega arith) h (omega arith)) (cases_lt h last))
