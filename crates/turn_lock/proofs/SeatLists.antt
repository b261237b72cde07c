-- Lists of seats.
use Rattle.std.proofs.Common.{◌≡◌, ◌⊎◌, ◌+◌, ℕ, zero, suc, List, [], ◌∷◌, ◌++◌, get_or, length, refl, sym, ap, ◌∙◌, subst, ⊎_elim, inl, inr, Some, false, arith, length-append}
use Rattle.std.specs.Prelude.{slice_get, All, Contains}
use Rattle.std.proofs.lemmas.List.Elements.{All-contains_itself, All-from_get_or, All-nil, All-pop, All-weaker, Contains-append_left, Contains-push_cases, Contains-push, at_from_Contains}
use Rattle.std.proofs.lemmas.Option.{slice_get-get_or}
use Rattle.atomic_table.specs.Seated.{TableId}
use Rattle.turn_lock.specs.Rule.{knows}
use Rattle.turn_lock.specs.Steps.{Sits, Merged, sits, together}
use Rattle.turn_lock.specs.declared.knowledge.Turn.TheVariants.{Waits}
use Rattle.turn_lock.specs.Views.{LockView, SeatView, IsSeatOf, AreNew, new_seat}

-- an element of a list that was pushed to stood there before, or is the last
get_push : {X : Type 0} (xs : List X) (y : X) (k : ℕ) (x : X) → slice_get (xs ++ y ∷ []) k ≡ Some x
    → (slice_get xs k ≡ Some x) ⊎ ((k ≡ length xs) × (y ≡ x))
get_push [] y zero x e = inr (refl, cc)
get_push [] y (suc k) x e = absurd (cc)
get_push (z ∷ xs) y zero x e = inl e
get_push (z ∷ xs) y (suc k) x e = ⊎_elim inl (λ (t : (k ≡ length xs) × (y ≡ x)). inr (ap suc t.0, t.1)) (get_push xs y k x e)

module _ {T : Type 0} where
  pub new_push : (lock table : TableId) (first : T) (seats : List (SeatView T)) (seat : SeatView T) (n : ℕ) → AreNew lock first seats → seat ≡ new_seat table first n
      → table ≡ lock → n ≡ length seats → AreNew lock first (seats ++ seat ∷ [])
  new_push lock table first seats seat n new is same last =
      let here : seat ≡ new_seat lock first (length seats) = is ∙ ap (λ (p : TableId × ℕ). new_seat p.0 first p.1) (λ i. (same i, last i)) in record {
        each = λ k s at. ⊎_elim (new.each k s) (λ (t : (k ≡ length seats) × (seat ≡ s)). sym t.1 ∙ (here ∙ ap (new_seat lock first) (sym t.0))) (get_push seats seat k s at);
      }

  -- what holds of each new seat holds of all in the list
  all_new : (lock : TableId) (first : T) (P : SeatView T → Type 0) (seats : List (SeatView T)) → AreNew lock first seats → ((k : ℕ) → P (new_seat lock first k)) → All P seats
  all_new lock first P [] new each = All-nil P
  all_new lock first P (s ∷ ss) new each = All-from_get_or P (s ∷ ss) s
      (λ k within. subst P (sym (new.each k (get_or (s ∷ ss) k s) (slice_get-get_or (s ∷ ss) k s within))) (each k))

  pub new_mine : {O : Type 0} (began : T → O) (lock : LockView T) (table : TableId) (first : T) (seats : List (SeatView T)) → AreNew table first seats → table ≡ lock.id → lock.first ≡ first
      → All (IsSeatOf began lock) seats
  new_mine began lock table first seats new same is = all_new table first (IsSeatOf began lock) seats new (λ k. record { same = same; start = ap began (sym is) })

  pub new_free : (table : TableId) (first : T) (seats : List (SeatView T)) → AreNew table first seats → All (λ seat. seat.has ≡ false) seats
  new_free table first seats new = all_new table first (λ seat. seat.has ≡ false) seats new (λ k. refl)

  -- the seats in `rest` are to be merged, and the others of `all` are
  pub record Merging (lock : TableId) (all rest : List (SeatView T)) (table : TableId) (me : Sits T) : Type 0 where
    pub same : table ≡ lock
    pub bare : me.1 ≡ []
    pub waits : me.0.turn ≡ Waits
    pub parts : me.0.parts + length rest ≡ length all
    pub mine : All (λ seat. seat.lock ≡ lock) rest
    pub free : All (λ seat. seat.has ≡ false) rest
    pub seen : (seat : SeatView T) → Contains all seat → Contains rest seat ⊎ Contains me.0.seen seat.seen

  pub merging_starts : (lock : TableId) (all rest : List (SeatView T)) (last : SeatView T) (table : TableId) (me : Sits T) → all ≡ rest ++ last ∷ []
      → All (λ seat. seat.lock ≡ lock) all → All (λ seat. seat.has ≡ false) all → table ≡ last.lock → (last.has ≡ false → me ≡ sits false last.seen 0) → Merging lock all rest table me
  merging_starts lock all rest last table me is mine free same waits =
      let locks = All-pop (λ (seat : SeatView T). seat.lock ≡ lock) all rest (Some last) is mine in
      let calm = All-pop (λ (seat : SeatView T). seat.has ≡ false) all rest (Some last) is free in
      let me_is = waits calm.1 in record {
        same = same ∙ locks.1;
        bare = ap (λ (m : Sits T). m.1) me_is;
        waits = ap (λ (m : Sits T). m.0.turn) me_is;
        parts = ap (λ (m : Sits T). m.0.parts + length rest) me_is ∙ (let long = ap length is ∙ length-append rest (last ∷ []) in omega arith);
        mine = locks.0;
        free = calm.0;
        seen = λ seat inside. ⊎_elim inl
            (λ (t : last ≡ seat). inr (rw me_is (subst (λ (s : SeatView T). Contains (last.seen ∷ []) s.seen) t (Contains-push [] last.seen))))
            (Contains-push_cases rest last seat (subst (λ (l : List (SeatView T)). Contains l seat) is inside));
      }

  pub merging_goes_on : (lock : TableId) (all old rest : List (SeatView T)) (next : SeatView T) (table later : TableId) (me other new : Sits T) → Merging lock all old table me → old ≡ rest ++ next ∷ []
      → (next.has ≡ false → other ≡ sits false next.seen 0) → later ≡ table → new ≡ (together me.0 other.0, me.1) → Merging lock all rest later new
  merging_goes_on lock all old rest next table later me other new m is waits same new_is =
      let locks = All-pop (λ (seat : SeatView T). seat.lock ≡ lock) old rest (Some next) is m.mine in
      let calm = All-pop (λ (seat : SeatView T). seat.has ≡ false) old rest (Some next) is m.free in
      let joined : new ≡ (together me.0 (knows 1 (next.seen ∷ []) Waits), me.1) = new_is ∙ ap (λ (o : Sits T). (together me.0 o.0, me.1)) (waits calm.1) in record {
        same = same ∙ m.same;
        bare = ap (λ (k : Sits T). k.1) joined ∙ m.bare;
        waits = ap (λ (k : Sits T). k.0.turn) joined;
        parts = ap (λ (k : Sits T). k.0.parts + length rest) joined ∙ (let long = ap length is ∙ length-append rest (next ∷ []) in let before = m.parts in omega arith);
        mine = locks.0;
        free = calm.0;
        seen = λ seat inside. rw joined (⊎_elim
            (λ (t : Contains old seat). ⊎_elim inl
            (λ (e : next ≡ seat). inr (subst (λ (s : SeatView T). Contains (me.0.seen ++ next.seen ∷ []) s.seen) e (Contains-push me.0.seen next.seen)))
            (Contains-push_cases rest next seat (subst (λ (l : List (SeatView T)). Contains l seat) is t)))
            (λ (t : Contains me.0.seen seat.seen). inr (Contains-append_left me.0.seen (next.seen ∷ []) seat.seen t))
            (m.seen seat inside));
      }

  pub merging_ends : (lock : TableId) (all rest : List (SeatView T)) (table : TableId) (me : Sits T) → Merging lock all rest table me → length rest ≡ 0 → Merged all me
  merging_ends lock all rest table me m none = record {
    bare = m.bare;
    waits = m.waits;
    all = (let parts = m.parts in omega arith);
    seen = All-weaker (Contains all) (λ seat. Contains me.0.seen seat.seen)
        (λ seat inside. ⊎_elim
        (λ (t : Contains rest seat). let there = (at_from_Contains rest seat t).1 in absurd (omega arith))
        (λ t. t)
        (m.seen seat inside))
        all (All-contains_itself all);
  }
