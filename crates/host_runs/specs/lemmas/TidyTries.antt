-- In a tidy run the tries of a command show no key of another host.
use Rattle.std.proofs.Common.{◌≡◌, ◌≢◌, ◌%◌, ◌==◌, ◌&&◌, ℕ, Bool, true, false, not, List, Option, Some, None, refl, ap, sym, ◌∙◌, inl, inr, arith, true≢false}
use Rattle.std.specs.Prelude.{Contains}
use Rattle.std.specs.Option.{option_or}
use Rattle.std.proofs.lemmas.Bool.{cases_Bool, cases_eq, eq-eqb, eqb-true, ne_eqb}
use Rattle.vol_layout.specs.declared.geometry.Geometry.{Geometry}
use Rattle.vol_layout.specs.declared.kind.Kind.TheVariants as kinds
use Rattle.host_runs.specs.FileUses.{Try, ToRead, ToRelease, ToWrite}
use Rattle.host_runs.specs.Memories.{Memory}
use Rattle.host_runs.specs.lemmas.TidyStates.{IsHolder, IsReadAlone, WordSays}
use Rattle.host_runs.specs.Tries.{Tries, file_shows, holder_in, join_shows, not_own, reader_shows, showing}
use Rattle.host_runs.specs.Words.{key_in, reader_in, state_in}
use Rattle.host_runs.specs.lemmas.OrderlyPlaced.{some_same}

-- the own key is shown to nobody
own_hidden : (own key : ℕ) → key ≡ own → not_own own (Some key) ≡ None
own_hidden own key same = rw (eq-eqb key own same) refl

or_none : (o : Option ℕ) → option_or o None ≡ o
or_none None = refl
or_none (Some n) = refl

both : (a b : Bool) → (a && b) ≡ true → (a ≡ true) × (b ≡ true)
both true b h = (refl, h)
both false b h = absurd cc

-- one more showing of nothing
pub showing_none : (own : ℕ) (key : Option ℕ) (tries : Tries) → tries.shown ≡ None → not_own own key ≡ None
    → (showing own key tries).shown ≡ None
showing_none own key tries none hidden = ap (λ o. option_or o (not_own own key)) none ∙ hidden

module _ (g : Geometry) (host own : ℕ) (memories : ℕ → Memory) (key : (memories host).key ≡ Some own) where
  -- a holder in a word, where no other host holds the place
  pub holder_hidden : (place : ℕ) (word : List ℕ) → (state_in word ≡ 1 → IsHolder memories place (key_in word))
      → ((k : ℕ) → k ≢ host → Contains (memories k).holds place → ⊥)
      → not_own own (holder_in word) ≡ None
  holder_hidden place word says none =
      elim (cases_Bool (state_in word == 1)) [
        | inl held ↦
            let holder = says (eqb-true (state_in word) 1 held) in
            elim (cases_eq holder.0 host) [
              | inl self ↦
                  let mine : key_in word ≡ own = some_same (key_in word) own (sym holder.1 ∙ ap (λ (n : ℕ). (memories n).key) self ∙ key) in
                  rw held (own_hidden own (key_in word) mine)
              | inr other ↦ absurd (none holder.0 other holder.2)
            ]
        | inr free ↦ rw free refl
      ]

  hidden_or_none : (word : List ℕ) → not_own own (holder_in word) ≡ None → not_own own (option_or (holder_in word) None) ≡ None
  hidden_or_none word hidden = ap (not_own own) (or_none (holder_in word)) ∙ hidden

  -- a first try of a file's lock
  pub file_hidden : (try : Try) (place : ℕ) (tries : Tries) (word : List ℕ) → tries.count ≡ 0
      → (try ≢ ToRelease → not_own own (holder_in word) ≡ None)
      → not_own own (file_shows try own tries word) ≡ None
  file_hidden ToRead place tries word first hidden = rw first (hidden_or_none word (hidden (λ e. cc)))
  file_hidden ToWrite place tries word first hidden = rw first (hidden_or_none word (hidden (λ e. cc)))
  file_hidden ToRelease place tries word first hidden = rw first refl

  -- the slot of a host that a `join` finds
  pub slot_hidden : (place : ℕ) (slot : List ℕ) (tries : Tries) → WordSays memories place (Some (kinds.Slot host)) slot
      → not_own own (join_shows host tries slot) ≡ None
  slot_hidden place slot tries (inl free) = rw (ne_eqb (state_in slot) 1 (λ e. absurd (omega (arith, free, e))), ne_eqb (state_in slot) 2 (λ e. absurd (omega (arith, free, e)))) refl
  slot_hidden place slot tries (inr live) =
      let mine : key_in slot ≡ own = some_same (key_in slot) own (sym live.1 ∙ key) in
      rw (eq-eqb (state_in slot) 1 live.0)
      (elim (cases_Bool (tries.count == 0)) [
        | inl first ↦ rw first refl
        | inr later ↦ rw later (own_hidden own (key_in slot) mine)
      ])

  -- the slot of a host that is looked at behind a try
  pub reader_hidden : (of place : ℕ) (found : Option (List ℕ)) (slot : List ℕ) → WordSays memories place (Some (kinds.Slot of)) slot
      → ((h k : ℕ) → (memories h).key ≡ Some k → k % 16 ≡ h) → ((word : List ℕ) → found ≡ Some word → IsReadAlone memories host word)
      → not_own own (reader_shows of found slot) ≡ None
  reader_hidden of place None slot says own_of alone = refl
  reader_hidden of place (Some word) slot says own_of alone =
      elim (cases_Bool (not (state_in slot == 0) && key_in slot == reader_in word of)) [
        | inl shown ↦
            let parts = both (not (state_in slot == 0)) (key_in slot == reader_in word of) shown in
            let reader = eqb-true (key_in slot) (reader_in word of) parts.1 in
            elim says [
              | inl free ↦ let empty : not (state_in slot == 0) ≡ false = rw (eq-eqb (state_in slot) 0 free) refl in absurd (true≢false (sym parts.0 ∙ empty))
              | inr live ↦ elim (cases_eq of host) [
                | inl self ↦
                    let mine : key_in slot ≡ own = some_same (key_in slot) own (sym live.1 ∙ ap (λ (n : ℕ). (memories n).key) self ∙ key) in
                    rw shown (own_hidden own (key_in slot) mine)
                | inr other ↦
                    let residue = own_of of (key_in slot) live.1 in
                    absurd (alone word refl of (key_in slot) (omega (arith, residue)) other live.1 (sym reader))
              ]
            ]
        | inr hidden ↦ rw hidden refl
      ]
