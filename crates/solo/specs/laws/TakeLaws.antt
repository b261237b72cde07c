-- What the call of a step is that takes a file, where the slots of all other hosts are free: no key of another host is shown.
use Rattle.std.proofs.Common.{◌≡◌, ◌≢◌, ◌==◌, ◌∙◌, ℕ, List, None, Option, Some, false, true, refl, ap, sym, subst, inl, inr, Bool}
use Rattle.std.specs.Prelude.{IfSome, IsSome, slice_get, if◌then◌else◌}
use Rattle.std.specs.List.{list_any}
use Rattle.std.specs.Option.{option_or}
use Rattle.std.proofs.lemmas.Bool.{cases_Bool, eq-eqb}
use Rattle.vol_base.specs.declared.command.Command.{Command}
use Rattle.vol_base.specs.declared.command.Command.TheVariants as commands
use Rattle.vol_layout.specs.declared.geometry.Geometry.{Geometry}
use Rattle.vol_layout.specs.declared.kind.Kind.{Kind}
use Rattle.vol_layout.specs.declared.kind.Kind.TheVariants as kinds
use Rattle.vol_layout.specs.declared.kind.Resource.TheVariants.{File, Group, Part}
use Rattle.vol_layout.specs.Places.{kind_at}
use Rattle.vol_layout.specs.Ranges.{HasResource}
use Rattle.shared_disk.specs.Events.{Call, Done, Reads, Reply, Shows, Tests, Writes}
use Rattle.image_view.specs.Images.{Image, block_at}
use Rattle.host_runs.specs.FileUses.{ToWrite, file_tried, try_of}
use Rattle.host_runs.specs.lemmas.OrderlyPlaced.{some_same}
use Rattle.host_runs.specs.Moments.{Moment}
use Rattle.host_runs.specs.Tries.{Tries, file_shows, not_own, tried_by, with_changed, with_file, with_found, with_read, with_slot}
use Rattle.host_runs.specs.TurnFacts.{MayMark, MayTest}
use Rattle.host_runs.specs.Words.{state_in}
use Rattle.solo.specs.laws.KeylessLaws.{IsAloneIn, StandsIn, holder_hidden, lock_word, shows_none}

-- a command that is to have a file alone
abbrev pub taker : ℕ → Command
taker f = commands.Create f

module _ (g : Geometry) (counter own : ℕ) (image : Image) (alone : IsAloneIn g counter own image) where
  module _ (f : ℕ) (m : Moment) (command : m.command ≡ taker f) (claims : List ℕ) (tries : Tries) (old_tries : m.old.tries ≡ tries)
      (none : tries.shown ≡ None) (met : tries.count ≢ 0 → (word : List ℕ) × (tries.found ≡ Some word))
      (stands : (word : List ℕ) → tries.found ≡ Some word → block_at g image (kinds.Lock (File f)) ≡ word) where
    -- the lock of the file itself
    tried_file' : (e : ℕ) (old new word : List ℕ) (k : ℕ) → MayTest m k (Some (kinds.Lock (File e))) old new
        → (e ≡ f) × ((last : List ℕ) → tries.found ≡ Some last → old ≡ last)
    tried_file' e old new word k marks =
        let right = marks.again e refl (subst (λ (c : Command). IsSome (try_of c)) (sym command) refl) in
        let one : Some f ≡ Some e = ap file_tried (sym command) ∙ right.0 in (
          sym (some_same f e one),
          λ last is. found_last m.old.tries.found last (ap (λ (t : Tries). t.found) old_tries ∙ is) right.1,
        )
      where
        words_same : (a b : List ℕ) → Some a ≡ Some b → a ≡ b
        words_same a b is = cc

        found_last : (found : Option (List ℕ)) (last : List ℕ) → found ≡ Some last → IfSome found (λ word. old ≡ word) → old ≡ last
        found_last None last is same = let bad : None ≡ Some last = is in absurd cc
        found_last (Some word') last is same = same ∙ words_same word' last is

    file_hidden : (e : ℕ) (old new word : List ℕ) (k : ℕ) → HasResource g (File e) → MayTest m k (Some (kinds.Lock (File e))) old new
        → block_at g image (kinds.Lock (File e)) ≡ word → word ≢ old → not_own own (file_shows ToWrite own tries word) ≡ None
    file_hidden e old new word k has marks at apart = elim (cases_Bool (state_in word == 1)) [
      | inl held ↦ let hidden = holder_hidden g counter own image alone (File e) word has at in rw held (rw held at hidden)
      | inr other ↦ elim (cases_Bool (tries.count == 0)) [
        | inl first ↦ rw (other, first) refl
        | inr later ↦
            let (last, is) = met (λ zero_. let both : (tries.count == 0) ≡ true = eq-eqb tries.count 0 zero_ in
            let bad : true ≡ false = sym both ∙ later in absurd (let no' : ⊥ = cc in no')) in
            let right = tried_file' e old new word k marks in
            absurd (apart (sym (ap (λ x. block_at g image (kinds.Lock (File x))) (sym right.0) ∙ at) ∙ stands last is ∙ sym (right.1 last is)))
      ]
    ]

    file_none : (e : ℕ) (old new word : List ℕ) (k : ℕ) → HasResource g (File e) → MayTest m k (Some (kinds.Lock (File e))) old new
        → block_at g image (kinds.Lock (File e)) ≡ word → word ≢ old → (with_file (Some ToWrite) own word tries).shown ≡ None
    file_none e old new word k has marks at apart =
        ap (λ o. option_or o (not_own own (file_shows ToWrite own tries word))) none ∙ file_hidden e old new word k has marks at apart

    changed_found : (kind : Option Kind) (word : List ℕ) → (with_changed kind tries).found ≡ Some word
        → block_at g image (kinds.Lock (File f)) ≡ word
    changed_found (Some (kinds.Lock (File e))) word found = let bad : None ≡ Some word = found in absurd cc
    changed_found kind word found = stands word found

    read_found : (kind : Option Kind) (slot word : List ℕ) → (with_read kind (Some ToWrite) own slot tries).found ≡ Some word
        → block_at g image (kinds.Lock (File f)) ≡ word
    read_found (Some (kinds.Slot y)) slot word found = stands word found
    read_found kind slot word found = stands word found

    test_found : (kind : Option Kind) (place k : ℕ) (old new shown word : List ℕ) → kind_at g place ≡ kind → MayTest m k kind old new
        → slice_get image place ≡ Some shown → (with_found kind (taker f) 0 own claims shown tries).found ≡ Some word
        → block_at g image (kinds.Lock (File f)) ≡ word
    test_found (Some (kinds.Lock (File e))) place k old new shown word kind marks is found =
        let right = tried_file' e old new shown k marks in
        ap (λ x. block_at g image (kinds.Lock (File x))) (sym right.0)
        ∙ (lock_word g counter own image alone (File e) place shown kind is).1 ∙ words_are shown word found
      where
        words_are : (a b : List ℕ) → Some a ≡ Some b → a ≡ b
        words_are a b is = cc
    test_found (Some (kinds.Lock (Part p))) place k old new shown word kind marks is found = stands word found
    test_found (Some (kinds.Lock (Group q))) place k old new shown word kind marks is found = stands word found
    test_found (Some (kinds.Slot y)) place k old new shown word kind marks is found = by_claim (list_any (λ claimed. claimed == y) claims) found
      where
        by_claim : (b : Bool) → (if b then tries else with_slot (taker f) 0 own shown tries).found ≡ Some word
            → block_at g image (kinds.Lock (File f)) ≡ word
        by_claim true found = stands word found
        by_claim false found = stands word found
    test_found kind place k old new shown word at marks is found = stands word found

    -- no call shows a key that the command has to answer
    pub no_show : (k : ℕ) (call : Call) (reply : Reply) → m.geometry ≡ g → MayMark m k call reply → StandsIn image call reply
        → (tried_by g 0 (taker f) claims own call reply tries).shown ≡ None
    no_show = shows_none g counter own image alone 0 m (taker f) tt claims tries none file_none

    -- and the word that was found last stands there
    pub still_found : (k : ℕ) (call : Call) (reply : Reply) (word : List ℕ) → m.geometry ≡ g → MayMark m k call reply → StandsIn image call reply
        → (tried_by g 0 (taker f) claims own call reply tries).found ≡ Some word → block_at g image (kinds.Lock (File f)) ≡ word
    still_found k (Tests at old new) (Shows shown) word same marks is found =
        test_found (kind_at g at) at k old new shown word refl (subst (λ (x : Geometry). MayTest m k (kind_at x at) old new) same marks) is.0 found
    still_found k (Tests at old new) Done word same marks is found = changed_found (kind_at g at) word found
    still_found k (Writes at block) Done word same marks is found = changed_found (kind_at g at) word found
    still_found k (Reads at) (Shows block) word same marks is found = read_found (kind_at g at) block word found
    still_found k call reply word same marks is found = stands word found
