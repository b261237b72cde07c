-- A call at no block of hints: which calls are so, and what the sums over a command's calls owe to them.
use Rattle.std.proofs.Common.{◌≡◌, ◌++◌, ◌∷◌, ℕ, true, false, List, [], None, Option, Some, refl, ap, sym, subst, ◌∙◌, arith}
use Rattle.std.specs.Option.{option_map_or}
use Rattle.std.proofs.lemmas.List.Sums.{sum_by-append, sum_by-cons}
use Rattle.vol_layout.specs.declared.geometry.Geometry.{Geometry}
use Rattle.vol_layout.specs.declared.kind.Kind.{Kind}
use Rattle.vol_layout.specs.declared.kind.Kind.TheVariants as kinds
use Rattle.vol_layout.specs.declared.kind.Resource.{Resource}
use Rattle.vol_layout.specs.Places.{kind_at, place_of}
use Rattle.vol_layout.specs.Ranges.{HasKind, HasResource, HasTable}
use Rattle.vol_layout.specs.laws.PlaceLaws.{kind_at-place}
use Rattle.vol_base.specs.declared.block.Key.{Key}
use Rattle.shared_disk.specs.Events.{Call, Event, Reply, Reads, Shows, Tests}
use Rattle.host_runs.specs.FileUses.{is_hint_kind, is_hint_place}
use Rattle.host_runs.specs.DeviceCalls.{shown_at}
use Rattle.host_runs.specs.Notes.{NotedCall}
use Rattle.host_runs.specs.NotedCalls.{ShowsKind, WritesKind, kind_read, sum_read}
use Rattle.host_facts.specs.Views.{WorldView}
use Rattle.plan_parts.specs.MadeCalls.{freeing_of, reading_of, try_of}
use Rattle.plan_parts.specs.declared.kept.Kept.{Kept}
use Rattle.share_plans.specs.HintSpares.{SparesHints}

-- the place of a block that is not one of hints
pub spares_place : (g : Geometry) (kind : Kind) → HasKind g kind → is_hint_kind (Some kind) ≡ false → is_hint_place g (place_of g kind) ≡ false
spares_place g kind has plain = ap is_hint_kind (kind_at-place g kind has) ∙ plain

module _ (v : WorldView) (h : ℕ) where
  pub spares_read : (kept : Kept) → HasTable v.locks.geometry kept.which → SparesHints v.locks.geometry (reading_of v h kept).call
  spares_read kept has = spares_place v.locks.geometry (kinds.Table kept.which) has refl

  pub spares_try : (r : Resource) (busy : Option Key) → HasResource v.locks.geometry r → SparesHints v.locks.geometry (try_of v h r busy).call
  spares_try r None has = spares_place v.locks.geometry (kinds.Lock r) has refl
  spares_try r (Some key) has = spares_place v.locks.geometry (kinds.Lock r) has refl

  pub spares_freeing : (r : Resource) → HasResource v.locks.geometry r → SparesHints v.locks.geometry (freeing_of v h r).call
  spares_freeing r has = spares_place v.locks.geometry (kinds.Lock r) has refl

-- no block of hints is shown by it, nor written
module _ (g : Geometry) (kind : Kind) (hints : is_hint_kind (Some kind) ≡ true) where
  at_hints : (place : ℕ) → kind_at g place ≡ Some kind → is_hint_place g place ≡ false → ⊥
  at_hints place at spares = let both : true ≡ false = sym hints ∙ ap is_hint_kind (sym at) ∙ spares in cc

  shows_at : (call : Call) (reply : Reply) (place : ℕ) (block : List ℕ) → kind_at g place ≡ Some kind → SparesHints g call
      → shown_at call reply ≡ Some (place, block) → ⊥
  shows_at (Reads p) (Shows b) place block at spares is =
      at_hints p (ap (λ (x : ℕ × List ℕ). kind_at g x.0) (one (p, b) (place, block) is) ∙ at) spares
    where
      one : (x y : ℕ × List ℕ) → Some x ≡ Some y → x ≡ y
      one x y same = cc
  shows_at (Tests p o n) (Shows b) place block at spares is =
      at_hints p (ap (λ (x : ℕ × List ℕ). kind_at g x.0) (one (p, b) (place, block) is) ∙ at) spares
    where
      one : (x y : ℕ × List ℕ) → Some x ≡ Some y → x ≡ y
      one x y same = cc
  shows_at call reply place block at spares is = absurd cc

  pub shows_no_hints : (e : Event) (block : List ℕ) → SparesHints g e.call → ShowsKind g kind block (Some e) → ⊥
  shows_no_hints e block spares shows = shows_at e.call e.reply shows.0 block shows.1 spares shows.2

  pub writes_no_hints : (e : Event) (block : List ℕ) → SparesHints g e.call → WritesKind g kind block (Some e) → ⊥
  writes_no_hints e block spares writes =
      at_hints writes.0 writes.1 (subst (SparesHints g) writes.2.0 spares)

-- a number that only blocks of hints have does not grow by it
module _ (g : Geometry) (number : Option Kind → List ℕ → ℕ) (only : (kind : Option Kind) (block : List ℕ) → is_hint_kind kind ≡ false → number kind block ≡ 0)
  where
    read_at : (call : Call) (reply : Reply) → SparesHints g call
        → option_map_or (λ (b : Option Kind × List ℕ). number b.0 b.1) (kind_read g call reply) 0 ≡ 0
    read_at (Reads place) (Shows block) spares = only (kind_at g place) block spares
    read_at call reply spares = refl

    pub sum_spared : (calls : List NotedCall) (c : NotedCall) → SparesHints g c.event.call
        → sum_read g number (calls ++ c ∷ []) ≡ sum_read g number calls
    sum_spared calls c spares =
        let here = read_at c.event.call c.event.reply spares in
        let each = λ (d : NotedCall). option_map_or (λ (b : Option Kind × List ℕ). number b.0 b.1) (kind_read g d.event.call d.event.reply) 0 in
        let joined = sum_by-append each calls (c ∷ []) in
        let last = sum_by-cons each c [] in omega (arith, here, joined, last)
