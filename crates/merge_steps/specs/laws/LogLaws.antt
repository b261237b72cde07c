-- What the calls of a merge did with the own log blocks, with one call more.
use Rattle.std.proofs.Common.{◌≡◌, ◌≢◌, ◌++◌, ◌∷◌, ◌+◌, ◌<◌, ◌∙◌, ℕ, Bool, List, [], Option, Some, ap, arith, eq-eqb, false, get_or-set_other, get_or-set_same, length, refl, subst, sym, true, inl, inr}
use Rattle.std.specs.Prelude.{◌==◌, Contains, if◌then◌else◌, slice_get, slice_set}
use Rattle.std.proofs.lemmas.List.{length-set}
use Rattle.std.proofs.lemmas.Option.{get_or_from_slice_get, slice_get-get_or, slice_get_within}
use Rattle.std.specs.Option.{option_map_or}
use Rattle.std.proofs.lemmas.Bool.{cases_eq, eqb-true}
use Rattle.std.proofs.lemmas.List.Elements.{Contains-push_cases}
use Rattle.std.proofs.lemmas.List.Sums.{sum_by_push}
use Rattle.vol_layout.specs.declared.geometry.Geometry.{Geometry}
use Rattle.vol_layout.specs.declared.kind.Kind.{Kind}
use Rattle.vol_layout.specs.declared.kind.Kind.TheVariants as kinds
use Rattle.vol_layout.specs.Places.{kind_at, place_of}
use Rattle.vol_layout.specs.Ranges.{HasKind}
use Rattle.vol_layout.specs.laws.PlaceLaws.{kind_at-place}
use Rattle.shared_disk.specs.Events.{Call, Done, Event, Reads, Reply, Shows, Tests, Writes, event}
use Rattle.hint_blocks.specs.declared.entry.LogEntry.{LogEntry}
use Rattle.host_runs.specs.DeviceCalls.{shown_at}
use Rattle.host_runs.specs.HintCauses.{empty_log, hints_of_log, logged_hints}
use Rattle.host_runs.specs.Notes.{NotedCall}
use Rattle.host_runs.specs.NotedCalls.{ShowsKind, SomeCall, WritesKind, kind_read, sum_read}
use Rattle.host_runs.specs.lemmas.OrderlyPlaced.{some_same}
use Rattle.hint_plans.specs.laws.SeenLogs.{earlier_call, shows_one, some_last, some_more}
use Rattle.merge_steps.specs.Logs.{AreLogs, LogsRead, SparesLogs, are_some, emptied_more, read_more, unread}

abbrev at_place : ℕ → List ℕ → Option (ℕ × List ℕ)
at_place place block = Some (place, block)

-- an element of a list that was set
set_here : (xs : List Bool) (k : ℕ) (x : Bool) → k < length xs → slice_get (slice_set xs k x) k ≡ Some x
set_here xs k x lt =
    let long = length-set xs k x in
    slice_get-get_or (slice_set xs k x) k x (omega (arith, long, lt)) ∙ ap (λ (y : Bool). Some y) (get_or-set_same xs k x x lt)

set_other : (xs : List Bool) (k j : ℕ) (x y : Bool) → j ≢ k → slice_get xs j ≡ Some y → slice_get (slice_set xs k x) j ≡ Some y
set_other xs k j x y apart is =
    let long = length-set xs k x in
    let lt = slice_get_within xs j y is in
    slice_get-get_or (slice_set xs k x) j y (omega (arith, long, lt))
    ∙ ap (λ (z : Bool). Some z) (get_or-set_other xs k j x y apart ∙ get_or_from_slice_get xs j y y is)

some_hints : (hints : List LogEntry) → hints ≢ [] → are_some hints ≡ true
some_hints [] some = absurd (some refl)
some_hints (hint ∷ hints) some = refl

-- how many hints of the own log the call read
abbrev read_by : Geometry → ℕ → Event → ℕ
read_by g h e = option_map_or (λ b. hints_of_log g h b.0 b.1) (kind_read g e.call e.reply) 0

sum_more : (g : Geometry) (h : ℕ) (calls : List NotedCall) (c : NotedCall)
    → sum_read g (hints_of_log g h) (calls ++ c ∷ []) ≡ sum_read g (hints_of_log g h) calls + read_by g h c.event
sum_more g h calls c = sum_by_push (λ (d : NotedCall). read_by g h d.event) calls c

-- a block of another kind has none
none_there : (g : Geometry) (h : ℕ) (kind : Option Kind) (block : List ℕ) → ((l : ℕ) → kind ≢ Some (kinds.Log h l)) → hints_of_log g h kind block ≡ 0
none_there g h (Some (kinds.Log of l)) block other = by (of == h) refl
  where
    by : (b : Bool) → (of == h) ≡ b → (if b then length (logged_hints g block) else 0) ≡ 0
    by true same = absurd (other l (ap (λ (x : ℕ). Some (kinds.Log x l)) (eqb-true of h same)))
    by false apart = refl
none_there g h kind block other = refl

-- a call that spares the log blocks shows none of them
shows_none : (g : Geometry) (h l : ℕ) (block : List ℕ) (e : Event) → SparesLogs g h e.call → ShowsKind g (kinds.Log h l) block (Some e) → ⊥
shows_none g h l block e spares (place, is, shown) = by e.call e.reply spares shown
  where
    here : (at : ℕ) (other : List ℕ) → ((k : ℕ) → kind_at g at ≢ Some (kinds.Log h k)) → at_place at other ≡ at_place place block → ⊥
    here at other apart same = apart l (ap (kind_at g) (ap (λ (x : ℕ × List ℕ). x.0) (some_same (at, other) (place, block) same)) ∙ is)

    by : (call : Call) (reply : Reply) → SparesLogs g h call → shown_at call reply ≡ Some (place, block) → ⊥
    by (Reads at) (Shows other) apart same = here at other apart same
    by (Tests at old new) (Shows other) apart same = here at other apart same
    by call reply apart same = cc

reads_none : (g : Geometry) (h : ℕ) (e : Event) → SparesLogs g h e.call → read_by g h e ≡ 0
reads_none g h e spares = by e.call e.reply spares
  where
    by : (call : Call) (reply : Reply) → SparesLogs g h call
        → option_map_or (λ b. hints_of_log g h b.0 b.1) (kind_read g call reply) 0 ≡ 0
    by (Reads at) (Shows block) apart = none_there g h (kind_at g at) block apart
    by call reply apart = refl

module _ (g : Geometry) (h : ℕ) (r : LogsRead) (calls : List NotedCall) (c : NotedCall) (are : AreLogs g h r calls) where
  -- a call that spares them
  pub logs_spared : SparesLogs g h c.event.call → AreLogs g h r (calls ++ c ∷ [])
  logs_spared spares = record {
    read = λ l lt. let (block, seen) = are.read l lt in (block, some_more (ShowsKind g (kinds.Log h l) block) calls c seen);
    unread = λ l block le seen. are.unread l block le (earlier_call (ShowsKind g (kinds.Log h l) block) calls c (shows_none g h l block c.event spares) seen);
    filled = λ l block seen some.
        are.filled l block (earlier_call (ShowsKind g (kinds.Log h l) block) calls c (shows_none g h l block c.event spares) seen) some;
    emptied = λ l lt is. some_more (WritesKind g (kinds.Log h l) empty_log) calls c (are.emptied l lt is);
    many = let none = reads_none g h c.event spares in let more = sum_more g h calls c in let was = are.many in omega (arith, none, more, was);
    room = are.room;
  }

  -- the next one is written empty
  pub logs_emptied : (key : ℕ) → HasKind g (kinds.Log h r.emptied)
      → c.event ≡ event key (Writes (place_of g (kinds.Log h r.emptied)) empty_log) Done → AreLogs g h (emptied_more r) (calls ++ c ∷ [])
  logs_emptied key has is =
      let spared = logs_spared (subst (λ (e : Event). SparesLogs g h e.call) (sym is) tt) in record {
        read = spared.read;
        unread = spared.unread;
        filled = spared.filled;
        emptied = λ l lt there. elim (cases_eq l r.emptied) [
          | inl same ↦
              subst (λ (k : ℕ). SomeCall (WritesKind g (kinds.Log h k) empty_log) (calls ++ c ∷ [])) (sym same)
              (some_last (WritesKind g (kinds.Log h r.emptied) empty_log) calls c
              (subst (λ (e : Event). WritesKind g (kinds.Log h r.emptied) empty_log (Some e)) (sym is)
              (place_of g (kinds.Log h r.emptied), kind_at-place g (kinds.Log h r.emptied) has, (refl, refl))))
          | inr other ↦ spared.emptied l (omega (arith, lt, other)) there
        ];
        many = spared.many;
        room = spared.room;
      }

  -- the next one is read
  module _ (key : ℕ) (block : List ℕ) (few : r.read < 16) (early : 0 < r.emptied → ⊥) (has : HasKind g (kinds.Log h r.read))
      (is : c.event ≡ event key (Reads (place_of g (kinds.Log h r.read))) (Shows block)) where
    shows : (l : ℕ) (shown : List ℕ) → ShowsKind g (kinds.Log h l) shown (Some c.event) → (r.read ≡ l) × (shown ≡ block)
    shows l shown there =
        let one = shows_one g (kinds.Log h r.read) (kinds.Log h l) block shown key has
        (subst (λ (e : Event). ShowsKind g (kinds.Log h l) shown (Some e)) is there) in (same_log h l r.read one.0, one.1)
      where
        same_log : (h k l : ℕ) → kinds.Log h l ≡ kinds.Log h k → l ≡ k
        same_log h k l same = cc

    here : ShowsKind g (kinds.Log h r.read) block (Some c.event)
    here =
        subst (λ (e : Event). ShowsKind g (kinds.Log h r.read) block (Some e)) (sym is)
        (place_of g (kinds.Log h r.read), kind_at-place g (kinds.Log h r.read) has, refl)

    pub logs_read : AreLogs g h (read_more g block r) (calls ++ c ∷ [])
    logs_read = record {
      read = λ l lt. elim (cases_eq l r.read) [
        | inl same ↦
            subst (λ (k : ℕ). (b : List ℕ) × SomeCall (ShowsKind g (kinds.Log h k) b) (calls ++ c ∷ [])) (sym same)
            (block, some_last (ShowsKind g (kinds.Log h r.read) block) calls c here)
        | inr other ↦
            let (b, seen) = are.read l (omega (arith, lt, other)) in (b, some_more (ShowsKind g (kinds.Log h l) b) calls c seen)
      ];
      unread = λ l shown le seen.
          are.unread l shown (omega (arith, le))
          (earlier_call (ShowsKind g (kinds.Log h l) shown) calls c (λ at. let same = (shows l shown at).0 in omega (arith, le, same)) seen);
      filled = λ l shown seen some. elim (Contains-push_cases calls c seen.0 seen.1) [
        | inl earlier ↦ before l shown (seen.0, earlier, seen.2) some
        | inr last ↦
            now l shown (shows l shown (subst (λ (d : NotedCall). ShowsKind g (kinds.Log h l) shown (Some d.event)) (sym last) seen.2)) some
      ];
      emptied = λ l lt there. some_more (WritesKind g (kinds.Log h l) empty_log) calls c (written l lt there);
      many = sum_more g h calls c ∙ ap (λ (n : ℕ). n + read_by g h c.event) are.many ∙ ap (λ (n : ℕ). r.hints + n) counted;
      room = (omega (arith, few), length-set r.filled r.read _ ∙ are.room.1);
    }
      where
        place : ℕ
        place = place_of g (kinds.Log h r.read)

        own : (if h == h then length (logged_hints g block) else 0) ≡ length (logged_hints g block)
        own = let same = eq-eqb h h refl in rw same refl

        counted : read_by g h c.event ≡ length (logged_hints g block)
        counted =
            ap (read_by g h) is ∙ ap (λ (k : Option Kind). hints_of_log g h k block) (kind_at-place g (kinds.Log h r.read) has) ∙ own

        before : (l : ℕ) (shown : List ℕ) → SomeCall (ShowsKind g (kinds.Log h l) shown) calls → logged_hints g shown ≢ []
            → slice_get (read_more g block r).filled l ≡ Some true
        before l shown seen some =
            set_other r.filled r.read l (are_some (logged_hints g block)) true
            (λ same. are.unread l shown (omega (arith, same)) seen) (are.filled l shown seen some)

        now : (l : ℕ) (shown : List ℕ) → (r.read ≡ l) × (shown ≡ block) → logged_hints g shown ≢ []
            → slice_get (read_more g block r).filled l ≡ Some true
        now l shown (same, one) some =
            let long = are.room.1 in
            subst (λ (k : ℕ). slice_get (read_more g block r).filled k ≡ Some true) same
            (set_here r.filled r.read (are_some (logged_hints g block)) (omega (arith, long, few))
            ∙ ap (λ (b : Bool). Some b) (some_hints (logged_hints g block) (λ none. some (ap (logged_hints g) one ∙ none))))

        written : (l : ℕ) → l < r.emptied → slice_get (read_more g block r).filled l ≡ Some true
            → SomeCall (WritesKind g (kinds.Log h l) empty_log) calls
        written l lt there = absurd (early (omega (arith, lt)))

-- before the first call
pub logs_unread : (g : Geometry) (h : ℕ) (calls : List NotedCall) → calls ≡ [] → AreLogs g h unread calls
logs_unread g h calls none = record {
  read = λ l lt. absurd (omega (arith, lt));
  unread = λ l block le seen. nothing (ShowsKind g (kinds.Log h l) block) seen;
  filled = λ l block seen some. absurd (nothing (ShowsKind g (kinds.Log h l) block) seen);
  emptied = λ l lt there. absurd (omega (arith, lt));
  many = ap (sum_read g (hints_of_log g h)) none;
  room = (omega arith, refl);
}
  where
    nothing : (P : Option Event → Type 0) → SomeCall P calls → ⊥
    nothing P seen =
        let has : Contains [] seen.0 = subst (λ (cs : List NotedCall). Contains cs seen.0) none seen.1 in omega (arith, has.1)

-- the next one had no hint, and is not written
pub logs_passed : (g : Geometry) (h : ℕ) (r : LogsRead) (calls : List NotedCall) → AreLogs g h r calls → slice_get r.filled r.emptied ≢ Some true
    → AreLogs g h (emptied_more r) calls
logs_passed g h r calls are none = record {
  read = are.read;
  unread = are.unread;
  filled = are.filled;
  emptied = λ l lt there. elim (cases_eq l r.emptied) [
    | inl same ↦ absurd (none (subst (λ (k : ℕ). slice_get r.filled k ≡ Some true) same there))
    | inr other ↦ are.emptied l (omega (arith, lt, other)) there
  ];
  many = are.many;
  room = are.room;
}
