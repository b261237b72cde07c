-- One call of one host, as a step: what it owes, so that all stays consistent and the others keep theirs.
use Rattle.std.proofs.Common.{◌≡◌, ◌≢◌, ◌⊎◌, ◌<◌, ◌≤◌, ◌/◌, ◌%◌, ℕ, List, Option, Some, None, true, sym, ap, ◌∙◌, subst, arith, inl, inr}
use Rattle.std.specs.Prelude.{Contains, IfSome}
use Rattle.std.proofs.lemmas.Bool.{cases_eq}
use Rattle.vol_layout.specs.declared.geometry.Geometry.{Geometry}
use Rattle.shared_disk.specs.State.{State, Told}
use Rattle.image_view.specs.Images.{Image}
use Rattle.image_view.specs.Valid.{IsValid}
use Rattle.lock_store.specs.declared.host.HostState.{HostState}
use Rattle.lock_store.specs.Devices.{IsDevice}
use Rattle.lock_store.specs.Memories.{key_of}
use Rattle.lock_store.specs.Views.{LocksView, at, counter_of, host_at, key_at, keys_of, told_of}
use Rattle.disk_locks.specs.Agreement.{Agrees, HostAgrees}
use Rattle.disk_locks.specs.Consistent.{Consistent}
use Rattle.disk_locks.specs.KeepsImage.{KeepsImage}
use Rattle.disk_locks.specs.Keys.{HasEnded, HasEntered}
use Rattle.disk_locks.specs.Memories.{IsMemory}
use Rattle.disk_locks.specs.Others.{Fades, Keeps, Lasts, Others}
use Rattle.disk_locks.specs.Sure.{BothTold}

-- the counter never falls, and no key that was given comes to be registered
pub record Later (s t : State) : Type 0 where
  pub counter : s.counter ≤ t.counter
  pub blocks : t.blocks ≡ s.blocks
  pub fewer : (key : ℕ) → key / 16 ≤ s.counter → Contains t.keys key → Contains s.keys key

-- a host under the same key stays joined, or has left, and what left stays so; another key is none, or a new one
pub record Moves (counter : ℕ) (m n : HostState) : Type 0 where
  pub joined : key_of n ≡ key_of m → key_of m ≢ 0 → m.joined ≡ true → (n.joined ≡ true) ⊎ (n.freed ≡ true)
  pub freed : key_of n ≡ key_of m → key_of m ≢ 0 → m.freed ≡ true → n.freed ≡ true
  pub fresh : key_of n ≢ key_of m → (key_of n ≡ 0) ⊎ (counter < key_of n / 16)

-- the image after a step of host h, whose memory is then m
pub record StepImage (g : Geometry) (s : State) (counter : ℕ) (keys : List ℕ) (hosts : List HostState) (h : ℕ) (m : HostState)
    (old new : Image) : Type 0 where
  pub valid : IsValid g counter new
  pub own : key_of m ≢ 0 → HostAgrees g keys new h m
  pub agree : (x : ℕ) → x ≢ h → key_of (at hosts x) ≢ 0 → HostAgrees g keys new x (at hosts x)
  pub keeps : (x : ℕ) → x ≢ h → key_of (at hosts x) ≢ 0 → Contains keys (key_of (at hosts x)) → KeepsImage g x (at hosts x) old new
  pub fades : Fades g s old new

-- the whole step
pub record Steps (v : LocksView) (h : ℕ) (m : HostState) (w : LocksView) : Type 0 where
  pub geometry : w.geometry ≡ v.geometry
  pub mine : host_at w h ≡ m
  pub others : (x : ℕ) → x ≢ h → host_at w x ≡ host_at v x
  pub device : IsDevice w.disk.state
  pub later : Later v.disk.state w.disk.state
  pub memory : IsMemory v.geometry.hosts (counter_of w) h m
  pub moves : Moves (counter_of v) (host_at v h) m
  pub image : BothTold (told_of v) (told_of w) (StepImage v.geometry v.disk.state (counter_of w) (keys_of w) v.hosts h m)

-- a relation that both images are in implies another one
pub both_map : (old new : Option Told) (R S : Image → Image → Type 0) → BothTold old new R → ((i j : Image) → R i j → S i j) → BothTold old new S
both_map None None R S h f = tt
both_map None (Some t) R S h f = h
both_map (Some t) None R S h f = h
both_map (Some t) (Some u) R S h f = f t.image u.image h

-- what holds of the later image
pub both_later : (old new : Option Told) (R : Image → Image → Type 0) (P : Image → Type 0) → BothTold old new R → ((i j : Image) → R i j → P j)
    → IfSome new (λ t. P t.image)
both_later None None R P h f = tt
both_later None (Some t) R P h f = absurd h
both_later (Some t) None R P h f = tt
both_later (Some t) (Some u) R P h f = f t.image u.image h

-- a memory stays in order under a later counter
pub memory_later : (hosts counter later h : ℕ) (m : HostState) → counter ≤ later → IsMemory hosts counter h m → IsMemory hosts later h m
memory_later hosts counter later h m le was = record {
  held = was.held;
  reading = was.reading;
  claims = was.claims;
  named = λ some. let n = was.named some in (n.0, n.1, omega (arith, n.2));
  none = was.none;
  keyless = was.keyless;
  unclaimed = was.unclaimed;
  out = was.out;
  own = was.own;
  gone = was.gone;
}

module _ (v : LocksView) (h : ℕ) (m : HostState) (w : LocksView) (is : Consistent v) (step : Steps v h m w) where
  -- each memory is in order
  memories : (x : ℕ) → IsMemory w.geometry.hosts (counter_of w) x (at w.hosts x)
  memories x =
      subst (λ (g : Geometry). IsMemory g.hosts (counter_of w) x (at w.hosts x)) (sym step.geometry)
      (elim (cases_eq x h) [
        | inl e ↦
            let mine : at w.hosts x ≡ m = ap (at w.hosts) e ∙ step.mine in
            subst (λ (n : HostState). IsMemory v.geometry.hosts (counter_of w) x n) (sym mine)
            (subst (λ y. IsMemory v.geometry.hosts (counter_of w) y m) (sym e) step.memory)
        | inr ne ↦
            subst (λ (n : HostState). IsMemory v.geometry.hosts (counter_of w) x n) (sym (step.others x ne))
            (memory_later v.geometry.hosts (counter_of v) (counter_of w) x (at v.hosts x) step.later.counter (is.memories x))
      ])

  agrees : (i j : Image) → StepImage v.geometry v.disk.state (counter_of w) (keys_of w) v.hosts h m i j
      → Agrees w.geometry (counter_of w) (keys_of w) w.hosts j
  agrees i j s = subst (λ (g : Geometry). Agrees g (counter_of w) (keys_of w) w.hosts j) (sym step.geometry) (record {
    valid = s.valid;
    agree = λ x some. elim (cases_eq x h) [
      | inl e ↦
          let mine : at w.hosts x ≡ m = ap (at w.hosts) e ∙ step.mine in
          subst (λ (n : HostState). HostAgrees v.geometry (keys_of w) j x n) (sym mine)
          (subst (λ y. HostAgrees v.geometry (keys_of w) j y m) (sym e) (s.own (λ none. some (ap key_of mine ∙ none))))
      | inr ne ↦
          let same = step.others x ne in
          subst (λ (n : HostState). HostAgrees v.geometry (keys_of w) j x n) (sym same) (s.agree x ne (λ none. some (ap key_of same ∙ none)))
    ];
  })

  -- all stays consistent
  consistent : Consistent w
  consistent = record {
    geometry = rw step.geometry is.geometry;
    long = rw (step.geometry, step.later.blocks) is.long;
    device = step.device;
    memories = memories;
    told = both_later (told_of v) (told_of w) (StepImage v.geometry v.disk.state (counter_of w) (keys_of w) v.hosts h m)
        (λ j. Agrees w.geometry (counter_of w) (keys_of w) w.hosts j) step.image agrees;
  }

  -- a key is still its host's only where it was
  entered_later : (key : ℕ) → HasEntered v key → HasEntered w key
  entered_later key was = record {
    some = was.some;
    given = omega (arith, was.given, step.later.counter);
    entered = λ now. elim (cases_eq (key % 16) h) [
      | inl e ↦
          let mine : host_at w (key % 16) ≡ m = ap (at w.hosts) e ∙ step.mine in
          let its : key_of m ≡ key = ap key_of (sym mine) ∙ now in
          rw mine (elim (cases_eq (key_of m) (key_of (host_at v h))) [
            | inl same ↦
                elim (was.entered (ap (λ x. key_at v x) e ∙ sym same ∙ its)) [
                  | inl joined ↦ step.moves.joined same (λ z. was.some (sym its ∙ same ∙ z)) (ap (λ x. (host_at v x).joined) (sym e) ∙ joined)
                  | inr freed ↦ inr (step.moves.freed same (λ z. was.some (sym its ∙ same ∙ z)) (ap (λ x. (host_at v x).freed) (sym e) ∙ freed))
                ]
            | inr other ↦ elim (step.moves.fresh other) [
              | inl none ↦ absurd (was.some (sym its ∙ none))
              | inr new ↦ let big : counter_of v < key / 16 = subst (λ k. counter_of v < k / 16) its new in absurd (omega (arith, big, was.given))
            ]
          ])
      | inr ne ↦ let same = step.others (key % 16) ne in rw same (was.entered (ap key_of (sym same) ∙ now))
    ];
  }

  ended_later : (key : ℕ) → HasEnded v key → HasEnded w key
  ended_later key was =
      let off : (Contains (keys_of v) key → ⊥) → Contains (keys_of w) key → ⊥ = λ out now. out (step.later.fewer key was.given now) in
      record {
        some = was.some;
        given = omega (arith, was.given, step.later.counter);
        ended = λ now. elim (cases_eq (key % 16) h) [
          | inl e ↦
              let mine : host_at w (key % 16) ≡ m = ap (at w.hosts) e ∙ step.mine in
              let its : key_of m ≡ key = ap key_of (sym mine) ∙ now in
              rw mine (elim (cases_eq (key_of m) (key_of (host_at v h))) [
                | inl same ↦
                    elim (was.ended (ap (λ x. key_at v x) e ∙ sym same ∙ its)) [
                      | inl freed ↦ inl (step.moves.freed same (λ z. was.some (sym its ∙ same ∙ z)) (ap (λ x. (host_at v x).freed) (sym e) ∙ freed))
                      | inr out ↦ inr (off out)
                    ]
                | inr other ↦ elim (step.moves.fresh other) [
                  | inl none ↦ absurd (was.some (sym its ∙ none))
                  | inr new ↦ let big : counter_of v < key / 16 = subst (λ k. counter_of v < k / 16) its new in absurd (omega (arith, big, was.given))
                ]
              ])
          | inr ne ↦
              let same = step.others (key % 16) ne in
              rw same (elim (was.ended (ap key_of (sym same) ∙ now)) [ inl freed ↦ inl freed | inr out ↦ inr (off out) ])
        ];
      }

  lasts : Lasts v w
  lasts = record {
    geometry = step.geometry;
    counter = step.later.counter;
    off = λ key was. record {
      some = was.some;
      given = omega (arith, was.given, step.later.counter);
      off = λ now. was.off (step.later.fewer key was.given now);
    };
    entered = entered_later;
    ended = ended_later;
    fades = both_map (told_of v) (told_of w) (StepImage v.geometry v.disk.state (counter_of w) (keys_of w) v.hosts h m)
        (Fades v.geometry v.disk.state) step.image (λ i j s. s.fades);
  }

  keeps : (x : ℕ) → x ≢ h → key_at v x ≢ 0 → Keeps x v w
  keeps x ne some = record {
    memory = step.others x ne;
    registered = step.later.fewer (key_at v x) ((is.memories x).named some).2;
    image = λ now. both_map (told_of v) (told_of w) (StepImage v.geometry v.disk.state (counter_of w) (keys_of w) v.hosts h m)
        (KeepsImage v.geometry x (host_at v x)) step.image (λ i j s. s.keeps x ne some now);
  }

  -- the law of all calls
  pub step_law : Consistent w × Others h v w
  step_law = (consistent, record { lasts = lasts; memories = step.others; keeps = keeps })
