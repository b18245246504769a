-- What is held back after a harvest.
use Rattle.std.proofs.Common.{◌≡◌, ◌≢◌, ℕ, suc, ◌-◌, ◌*◌, ◌≤◌, true, false, List, [], ◌++◌, slice_get, slice_set, Some, None, ap, sym, subst, ◌∙◌, ⊎_elim, arith}
use Rattle.std.proofs.lemmas.Bool.{cases_eq, false≢true}
use Rattle.std.proofs.lemmas.Option.{same_Some}
use Rattle.law_queues.proofs.Common.{set_which}
use Rattle.law_common.proofs.Lists.{set_here, set_there}
use Rattle.law_structures.specs.lent_structures.Structures.{StructureSets}
use Rattle.law_ring.specs.Hand.{Hand}
use Rattle.claims_report.specs.Streams.{has_stream}
use Rattle.drv_table.specs.declared.content.Endpoint.{Endpoint}
use Rattle.drv_table.specs.declared.content.Transfer.{Transfer}
use Rattle.drv_table.specs.declared.content.QtdNote.{QtdNote}
use Rattle.drv_table.specs.DriverContent.{DriverContent}
use Rattle.drv_table.specs.Harvests.{note_at}
use Rattle.law_driver.specs.endpoint_lives.Lives.{told_end}
use Rattle.claims_driver.specs.Owners.{note_in}
use Rattle.law_driver.specs.chained_transfers.Turns.{IsAtPlace}
use Rattle.law_queues.specs.told_endpoints.Steps.{Grows, Clears}
use Rattle.law_driver_ring.specs.told_harvests.Held.{IsDone, AreHeld, none_held, AreUnmoved, told_of, IsOneFrom, NotesMoved}
use Rattle.law_driver_ring.proofs.lemmas.told_harvests.Holding.{held_more, held_noted}
use Rattle.law_queues.specs.harvest_laws.Holds.{IsUnderWay, IsToCome, IsNextOf, HoldsEach}
use Rattle.law_queues.specs.harvest_laws.Harvest.{Harvests}
use Rattle.law_queues.proofs.lemmas.harvest_laws.Places.{one_sooner, one_later, unmoved_noted, told_noted}

-- ---- what it depends on

pub holds_the_same : (d new : DriverContent) (hand : Hand) (parts : StructureSets) (held : ℕ → List ℕ) → new.endpoints ≡ d.endpoints → new.transfers ≡ d.transfers → new.notes ≡ d.notes → HoldsEach d hand parts held → HoldsEach new hand parts held
holds_the_same d new hand parts held ends transfers notes k = record {
  next = λ e t x y is on.
      subst (λ (ns : List QtdNote). IsUnderWay hand parts (32 * x.queue) (note_at ns) y (held e)) (sym notes)
      (k.next e t x y (record { endpoint = ap (λ (xs : List Endpoint). slice_get xs e) (sym ends) ∙ is.endpoint; going = is.going; next = is.next; transfer = ap (λ (ts : List Transfer). slice_get ts t) (sym transfers) ∙ is.transfer }) on);
  none = λ e x here last on. k.none e x (ap (λ (xs : List Endpoint). slice_get xs e) (sym ends) ∙ here) last on;
  to_come = λ t y here waits kept other.
      subst (λ (ns : List QtdNote). IsToCome (note_at ns) y) (sym notes)
      (k.to_come t y (ap (λ (ts : List Transfer). slice_get ts t) (sym transfers) ∙ here) waits kept (λ x there is. other x (ap (λ (xs : List Endpoint). slice_get xs y.endpoint) ends ∙ there) is));
  within = λ t y here held_still.
      subst (λ (ns : List QtdNote). told_of (note_at ns) y.first y.qtds ≤ y.most) (sym notes) (k.within t y (ap (λ (ts : List Transfer). slice_get ts t) (sym transfers) ∙ here) held_still);
}

-- ---- the notes of one qTD change

-- those of the transfers beside it stay
module _ (d : DriverContent) (t place k : ℕ) (hand : Hand) (parts : StructureSets) (places : (u : ℕ) (z : Transfer) → slice_get d.transfers u ≡ Some z → z.reported ≡ false → z.released ≡ false → IsAtPlace (note_in d.notes) z)
    (others : (u : ℕ) (z : Transfer) → slice_get d.transfers u ≡ Some z → z.reported ≡ false → z.released ≡ false → u ≢ t → IsOneFrom (note_at d.notes) z.first z.qtds place → ⊥)
    (notes : List QtdNote) (moved : NotesMoved (note_at d.notes) (note_at notes) place k) where
  other_same : (u : ℕ) (z : Transfer) → slice_get d.transfers u ≡ Some z → z.reported ≡ false → z.released ≡ false → u ≢ t → (a : ℕ) → IsOneFrom (note_at d.notes) z.first z.qtds a → note_at notes a ≡ note_at d.notes a
  other_same u z there waits kept differs a one = moved.beside a (λ is. others u z there waits kept differs (subst (IsOneFrom (note_at d.notes) z.first z.qtds) is one))

  pub under_way_beside : (u n : ℕ) (z : Transfer) (xs : List ℕ) → slice_get d.transfers u ≡ Some z → z.reported ≡ false → z.released ≡ false → u ≢ t → IsUnderWay hand parts n (note_at d.notes) z xs → IsUnderWay hand parts n (note_at notes) z xs
  under_way_beside u n z xs there waits kept differs w =
      let at : IsAtPlace (note_in d.notes) z = places u z there waits kept in
      let most = at.most in
      record {
        done = held_noted hand parts n (note_at d.notes) (note_at notes) z.first (z.qtds - z.left) z.place xs (λ a one. other_same u z there waits kept differs a (one_sooner (note_at d.notes) z.first (z.qtds - z.left) z.qtds a (omega arith) one)) w.done;
        rest = unmoved_noted (note_at d.notes) (note_at notes) z.place z.left
            (λ a one. other_same u z there waits kept differs a
            (one_later d.notes z.first (z.qtds - z.left) z.left z.qtds a (omega (arith, most)) (subst (λ (b : ℕ). IsOneFrom (note_at d.notes) b z.left a) at.place one))) w.rest;
      }

  pub to_come_beside : (u : ℕ) (z : Transfer) → slice_get d.transfers u ≡ Some z → z.reported ≡ false → z.released ≡ false → u ≢ t → IsToCome (note_at d.notes) z → IsToCome (note_at notes) z
  to_come_beside u z there waits kept differs w = record {
    place = w.place;
    left = w.left;
    rest = unmoved_noted (note_at d.notes) (note_at notes) z.first z.qtds (λ a one. other_same u z there waits kept differs a one) w.rest;
  }

module _ (d : DriverContent) (e t : ℕ) (x : Endpoint) (y : Transfer) (h : Harvests d e t x y) (k : ℕ) (bytes : List ℕ) (hand : Hand) (parts : StructureSets) (held : ℕ → List ℕ) (holds : HoldsEach d hand parts held) (found : IsDone hand parts (32 * x.queue) y.place k bytes) (notes : List QtdNote) (moved : NotesMoved (note_at d.notes) (note_at notes) y.place k) where
  other_under_way : (u n : ℕ) (z : Transfer) (xs : List ℕ) → slice_get d.transfers u ≡ Some z → z.reported ≡ false → z.released ≡ false → u ≢ t → IsUnderWay hand parts n (note_at d.notes) z xs → IsUnderWay hand parts n (note_at notes) z xs
  other_under_way = under_way_beside d t y.place k hand parts h.places h.others notes moved

  other_to_come : (u : ℕ) (z : Transfer) → slice_get d.transfers u ≡ Some z → z.reported ≡ false → z.released ≡ false → u ≢ t → IsToCome (note_at d.notes) z → IsToCome (note_at notes) z
  other_to_come = to_come_beside d t y.place k hand parts h.places h.others notes moved

  still_within : (u : ℕ) (z : Transfer) → slice_get d.transfers u ≡ Some z → z.released ≡ false → told_of (note_at notes) z.first z.qtds ≤ z.most
  still_within u z there kept = let same = told_noted (note_at d.notes) (note_at notes) y.place k moved z.first z.qtds in let most = holds.within u z there kept in omega (arith, same, most)

  it : IsUnderWay hand parts (32 * x.queue) (note_at d.notes) y (held e)
  it = holds.next e t x y h.next h.stream

  own : (y.endpoint ≡ e) × (y.reported ≡ false)
  own = h.waits e t x y h.next

  -- its qTDs up to the one that was read, and those after it
  pub done_more : AreHeld hand parts (32 * x.queue) (note_at notes) y.first (suc (y.qtds - y.left)) (note_at d.notes y.place).next (held e ++ bytes)
  done_more = held_more hand parts (32 * x.queue) (note_at d.notes) (note_at notes) k y.first (y.qtds - y.left) y.place (held e) bytes found moved it.done

  unmoved_next : (l : ℕ) → y.left ≡ suc l → AreUnmoved (note_at d.notes) y.place y.left → AreUnmoved (note_at d.notes) (note_at d.notes y.place).next l
  unmoved_next l is w = (subst (AreUnmoved (note_at d.notes) y.place) is w).1

  pub rest_less : AreUnmoved (note_at notes) (note_at d.notes y.place).next (y.left - 1)
  rest_less =
      unmoved_noted (note_at d.notes) (note_at notes) (note_at d.notes y.place).next (y.left - 1) (λ a one. moved.beside a (λ is. h.once (subst (IsOneFrom (note_at d.notes) (note_at d.notes y.place).next (y.left - 1)) is one)))
      (unmoved_next (y.left - 1) (let some = h.some in omega (arith, some)) it.rest)

  -- ---- it doesn't end its transfer

  abbrev pub moved_y : Transfer
  moved_y = record y { place = (note_at d.notes y.place).next; left = y.left - 1 }

  abbrev pub moved_d : DriverContent
  moved_d = record d { notes = notes; transfers = slice_set d.transfers t moved_y }

  moved_way : (later : ℕ → List ℕ) → 2 ≤ y.left → Grows e bytes held later → IsUnderWay hand parts (32 * x.queue) (note_at notes) moved_y (later e)
  moved_way later more grows = record {
    done = subst (AreHeld hand parts (32 * x.queue) (note_at notes) y.first (y.qtds - (y.left - 1)) (note_at d.notes y.place).next) (sym grows.here)
        (subst (λ (i : ℕ). AreHeld hand parts (32 * x.queue) (note_at notes) y.first i (note_at d.notes y.place).next (held e ++ bytes)) (let some = h.some in let most = h.most in let same : suc (y.qtds - y.left) ≡ y.qtds - (y.left - 1) = omega (arith, some, most, more) in same) done_more);
    rest = rest_less;
  }

  -- the next transfer of another endpoint
  beside_next : (f u : ℕ) (w : Endpoint) (z : Transfer) → f ≢ e → IsNextOf d f u w z → has_stream w.desc.kind ≡ true → IsUnderWay hand parts (32 * w.queue) (note_at notes) z (held f)
  beside_next f u w z differs is on =
      let own_z = h.waits f u w z is in
      let kept = h.unreleased u z w is.transfer (ap (slice_get d.endpoints) own_z.0 ∙ is.endpoint) is.going own_z.1 in
      other_under_way u (32 * w.queue) z (held f) is.transfer own_z.1 kept (λ same. differs (sym own_z.0 ∙ ap (λ (v : Transfer). v.endpoint) (same_Some z y (sym is.transfer ∙ ap (slice_get d.transfers) same ∙ h.next.transfer)) ∙ own.0)) (holds.next f u w z is on)

  none_next : (i : ℕ) → None ≡ Some i → ⊥
  none_next i is = cc

  pub moved_holds : (later : ℕ → List ℕ) → 2 ≤ y.left → Grows e bytes held later → HoldsEach moved_d hand parts later
  moved_holds later more grows = record {
    next = λ f u w z is on.
        ⊎_elim (λ (here : f ≡ e).
        let w_is : w ≡ x = same_Some w x (sym is.endpoint ∙ ap (slice_get d.endpoints) here ∙ h.next.endpoint) in
        let u_is : u ≡ t = same_Some u t (sym is.next ∙ ap (λ (v : Endpoint). v.next) w_is ∙ h.next.next) in
        let z_is : z ≡ moved_y = same_Some z moved_y (sym is.transfer ∙ ap (slice_get (slice_set d.transfers t moved_y)) u_is ∙ set_here d.transfers t y moved_y h.next.transfer) in
        subst (λ (v : Transfer). IsUnderWay hand parts (32 * w.queue) (note_at notes) v (later f)) (sym z_is)
        (subst (λ (v : Endpoint). IsUnderWay hand parts (32 * v.queue) (note_at notes) moved_y (later f)) (sym w_is)
        (subst (λ (g : ℕ). IsUnderWay hand parts (32 * x.queue) (note_at notes) moved_y (later g)) (sym here) (moved_way later more grows))))
        (λ (differs : f ≢ e).
        subst (IsUnderWay hand parts (32 * w.queue) (note_at notes) z) (sym (grows.beside f differs))
        (⊎_elim (λ (one : (u ≡ t) × (z ≡ moved_y)). absurd (differs (not_mine f u w z is one)))
        (λ (other : (u ≢ t) × (slice_get d.transfers u ≡ Some z)). beside_next f u w z differs (record { endpoint = is.endpoint; going = is.going; next = is.next; transfer = other.1 }) on)
        (set_which d.transfers t u y moved_y z h.next.transfer is.transfer))) (cases_eq f e);
    none = λ f w here last on.
        ⊎_elim (λ (same : f ≡ e). absurd (none_next t (sym last ∙ ap (λ (v : Endpoint). v.next) (same_Some w x (sym here ∙ ap (slice_get d.endpoints) same ∙ h.next.endpoint)) ∙ h.next.next)))
        (λ (differs : f ≢ e). grows.beside f differs ∙ holds.none f w here last on) (cases_eq f e);
    to_come = λ u z here waits kept other.
        ⊎_elim (λ (one : (u ≡ t) × (z ≡ moved_y)). absurd (other x (ap (slice_get d.endpoints) (ap (λ (v : Transfer). v.endpoint) one.1 ∙ own.0) ∙ h.next.endpoint) (h.next.next ∙ ap Some (sym one.0))))
        (λ (old : (u ≢ t) × (slice_get d.transfers u ≡ Some z)). other_to_come u z old.1 waits kept old.0 (holds.to_come u z old.1 waits kept other)) (set_which d.transfers t u y moved_y z h.next.transfer here);
    within = λ u z here kept.
        ⊎_elim (λ (one : (u ≡ t) × (z ≡ moved_y)).
        subst (λ (v : Transfer). told_of (note_at notes) v.first v.qtds ≤ v.most) (sym one.1) (still_within t y h.next.transfer (ap (λ (v : Transfer). v.released) (sym one.1) ∙ kept)))
        (λ (old : (u ≢ t) × (slice_get d.transfers u ≡ Some z)). still_within u z old.1 kept) (set_which d.transfers t u y moved_y z h.next.transfer here);
  }
    where
      -- the next transfer of another endpoint isn't this one
      not_mine : (f u : ℕ) (w : Endpoint) (z : Transfer) → IsNextOf moved_d f u w z → (u ≡ t) × (z ≡ moved_y) → f ≡ e
      not_mine f u w z is one = sym (h.waits f t w y (record { endpoint = is.endpoint; going = is.going; next = is.next ∙ ap Some one.0; transfer = h.next.transfer })).0 ∙ own.0

  -- ---- it ends its transfer

  abbrev pub ended_y : Transfer
  ended_y = record y { reported = true }

  abbrev pub ended_d : Endpoint → DriverContent
  ended_d w = record d { notes = notes; transfers = slice_set d.transfers t ended_y; endpoints = slice_set d.endpoints e w }

  -- of what is next then nothing is harvested
  begins_next : (u n : ℕ) (z : Transfer) → u ≢ t → slice_get d.transfers u ≡ Some z → (z.endpoint ≡ e) × (z.reported ≡ false) → IsUnderWay hand parts n (note_at notes) z []
  begins_next u n z differs there waits =
      let kept = h.unreleased u z x there (ap (slice_get d.endpoints) waits.0 ∙ h.next.endpoint) h.next.going waits.1 in
      let c : IsToCome (note_at notes) z =
      other_to_come u z there waits.1 kept differs (holds.to_come u z there waits.1 kept (λ v at is.
      differs (same_Some u t (sym is ∙ ap (λ (a : Endpoint). a.next) (same_Some v x (sym at ∙ ap (slice_get d.endpoints) waits.0 ∙ h.next.endpoint)) ∙ h.next.next)))) in
      let none : z.qtds - z.left ≡ 0 = let same = c.left in omega (arith, same) in
      record {
        done = subst (λ (i : ℕ). AreHeld hand parts n (note_at notes) z.first i z.place []) (sym none) (subst (λ (b : ℕ). AreHeld hand parts n (note_at notes) z.first 0 b []) (sym c.place) (none_held z.first));
        rest = subst (λ (b : ℕ). AreUnmoved (note_at notes) b z.left) (sym c.place) (subst (AreUnmoved (note_at notes) z.first) (sym c.left) c.rest);
      }

  pub ended_holds : (w : Endpoint) (later : ℕ → List ℕ) → Clears e held later
      → ((u : ℕ) (z : Transfer) → told_end w ≡ None → w.next ≡ Some u → slice_get (slice_set d.transfers t ended_y) u ≡ Some z → (z.endpoint ≡ e) × (z.reported ≡ false)) → HoldsEach (ended_d w) hand parts later
  ended_holds w later clears waits_next = record {
    next = λ f u v z is on.
        ⊎_elim (λ (end : (f ≡ e) × (v ≡ w)).
        subst (IsUnderWay hand parts (32 * v.queue) (note_at notes) z) (sym (ap later end.0 ∙ clears.here))
        (⊎_elim (λ (one : (u ≡ t) × (z ≡ ended_y)). absurd (not_reported z one.1 (waits_next u z (ap told_end (sym end.1) ∙ is.going) (ap (λ (a : Endpoint). a.next) (sym end.1) ∙ is.next) is.transfer).1))
        (λ (old : (u ≢ t) × (slice_get d.transfers u ≡ Some z)).
        begins_next u (32 * v.queue) z old.0 old.1 (waits_next u z (ap told_end (sym end.1) ∙ is.going) (ap (λ (a : Endpoint). a.next) (sym end.1) ∙ is.next) is.transfer))
        (set_which d.transfers t u y ended_y z h.next.transfer is.transfer)))
        (λ (other : (f ≢ e) × (slice_get d.endpoints f ≡ Some v)).
        subst (IsUnderWay hand parts (32 * v.queue) (note_at notes) z) (sym (clears.beside f other.0))
        (⊎_elim (λ (one : (u ≡ t) × (z ≡ ended_y)).
        absurd (other.0 (sym (h.waits f t v y (record { endpoint = other.1; going = is.going; next = is.next ∙ ap Some one.0; transfer = h.next.transfer })).0 ∙ own.0)))
        (λ (old : (u ≢ t) × (slice_get d.transfers u ≡ Some z)). beside_next f u v z other.0 (record { endpoint = other.1; going = is.going; next = is.next; transfer = old.1 }) on)
        (set_which d.transfers t u y ended_y z h.next.transfer is.transfer))) (set_which d.endpoints e f x w v h.next.endpoint is.endpoint);
    none = λ f v here last on.
        ⊎_elim (λ (end : (f ≡ e) × (v ≡ w)). ap later end.0 ∙ clears.here) (λ (other : (f ≢ e) × (slice_get d.endpoints f ≡ Some v)). clears.beside f other.0 ∙ holds.none f v other.1 last on)
        (set_which d.endpoints e f x w v h.next.endpoint here);
    to_come = λ u z here waits kept other.
        ⊎_elim (λ (one : (u ≡ t) × (z ≡ ended_y)). absurd (not_reported z one.1 waits))
        (λ (old : (u ≢ t) × (slice_get d.transfers u ≡ Some z)). other_to_come u z old.1 waits kept old.0 (holds.to_come u z old.1 waits kept (λ v at is. not_next u z old.0 other v at is)))
        (set_which d.transfers t u y ended_y z h.next.transfer here);
    within = λ u z here kept.
        ⊎_elim (λ (one : (u ≡ t) × (z ≡ ended_y)).
        subst (λ (v : Transfer). told_of (note_at notes) v.first v.qtds ≤ v.most) (sym one.1) (still_within t y h.next.transfer (ap (λ (v : Transfer). v.released) (sym one.1) ∙ kept)))
        (λ (old : (u ≢ t) × (slice_get d.transfers u ≡ Some z)). still_within u z old.1 kept) (set_which d.transfers t u y ended_y z h.next.transfer here);
  }
    where
      not_reported : (z : Transfer) → z ≡ ended_y → z.reported ≡ false → ⊥
      not_reported z is waits = false≢true (sym waits ∙ ap (λ (v : Transfer). v.reported) is)

      not_next : (u : ℕ) (z : Transfer) → u ≢ t → ((v : Endpoint) → slice_get (slice_set d.endpoints e w) z.endpoint ≡ Some v → v.next ≡ Some u → ⊥) → (v : Endpoint) → slice_get d.endpoints z.endpoint ≡ Some v → v.next ≡ Some u → ⊥
      not_next u z differs other v at is =
          ⊎_elim (λ (here : z.endpoint ≡ e). differs (same_Some u t (sym is ∙ ap (λ (a : Endpoint). a.next) (same_Some v x (sym at ∙ ap (slice_get d.endpoints) here ∙ h.next.endpoint)) ∙ h.next.next)))
          (λ (apart : z.endpoint ≢ e). other v (set_there d.endpoints e z.endpoint w apart ∙ at) is) (cases_eq z.endpoint e)
