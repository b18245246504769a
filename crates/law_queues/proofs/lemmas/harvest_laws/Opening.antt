-- What is held back where an endpoint is opened, and where a transfer is given back.
use Rattle.std.proofs.Common.{◌≡◌, ◌≢◌, ℕ, ◌*◌, ◌≤◌, true, List, [], ◌∷◌, ◌++◌, length, slice_get, slice_set, slice_index, Some, None, ap, refl, sym, subst, ◌∙◌, ⊎_elim, arith}
use Rattle.std.specs.Prelude.{◌⊎◌}
use Rattle.std.proofs.lemmas.Bool.{false≢true}
use Rattle.std.proofs.lemmas.Option.{same_Some, slice_get_within}
use Rattle.law_common.proofs.Lists.{nothing_at, push_which, push_there}
use Rattle.law_queues.proofs.Common.{set_which}
use Rattle.word_mem.specs.Memory.{Mem}
use Rattle.law_structures.specs.lent_structures.Structures.{StructureSets}
use Rattle.law_ring.specs.Hand.{Hand}
use Rattle.drv_table.specs.declared.content.Endpoint.{Endpoint}
use Rattle.drv_table.specs.declared.content.Transfer.{Transfer}
use Rattle.drv_table.specs.declared.content.QtdNote.{QtdNote}
use Rattle.drv_table.specs.DriverContent.{DriverContent}
use Rattle.drv_table.specs.Harvests.{note_at}
use Rattle.drv_table.specs.declared.content.Reserve.{Reserve}
use Rattle.drv_table.specs.Opening.{opening}
use Rattle.drv_table.specs.Accepting.{Offered, new_runs}
use Rattle.drv_table.specs.Offers.{new_endpoint}
use Rattle.law_driver.specs.run_owners.Accepts.{Opens}
use Rattle.law_queues.specs.told_endpoints.Steps.{Clears}
use Rattle.law_driver_ring.specs.told_harvests.Held.{told_of}
use Rattle.law_queues.specs.harvest_laws.Holds.{IsUnderWay, IsToCome, HoldsEach}
use Rattle.law_queues.specs.harvest_laws.HeldLaws.{AreThere}

-- ---- an endpoint is opened

module _ (d new : DriverContent) (x : Endpoint) (hand : Hand) (parts : StructureSets) (held later : ℕ → List ℕ) (fresh : x.next ≡ None) (ends : new.endpoints ≡ d.endpoints ++ x ∷ []) (transfers : new.transfers ≡ d.transfers) (notes : new.notes ≡ d.notes) (clears : Clears (length d.endpoints) held later) (k : HoldsEach d hand parts held) where
  none_next : (i : ℕ) → None ≡ Some i → ⊥
  none_next i is = cc

  older : (e : ℕ) (w : Endpoint) → slice_get d.endpoints e ≡ Some w → later e ≡ held e
  older e w here = clears.beside e (λ same. let less = slice_get_within d.endpoints e w here in omega (arith, less, same))

  end_which : (e : ℕ) (w : Endpoint) → slice_get new.endpoints e ≡ Some w → (slice_get d.endpoints e ≡ Some w) ⊎ ((e ≡ length d.endpoints) × (w ≡ x))
  end_which e w here = push_which d.endpoints x e w (ap (λ (xs : List Endpoint). slice_get xs e) (sym ends) ∙ here)

  pub opened_holds : HoldsEach new hand parts later
  opened_holds = record {
    next = λ e t w y is on.
        ⊎_elim (λ (old : slice_get d.endpoints e ≡ Some w).
        subst (IsUnderWay hand parts (32 * w.queue) (note_at new.notes) y) (sym (older e w old))
        (subst (λ (ns : List QtdNote). IsUnderWay hand parts (32 * w.queue) (note_at ns) y (held e)) (sym notes)
        (k.next e t w y (record { endpoint = old; going = is.going; next = is.next; transfer = ap (λ (ts : List Transfer). slice_get ts t) (sym transfers) ∙ is.transfer }) on)))
        (λ (one : (e ≡ length d.endpoints) × (w ≡ x)). absurd (none_next t (sym fresh ∙ ap (λ (v : Endpoint). v.next) (sym one.1) ∙ is.next))) (end_which e w is.endpoint);
    none = λ e w here last on.
        ⊎_elim (λ (old : slice_get d.endpoints e ≡ Some w). older e w old ∙ k.none e w old last on) (λ (one : (e ≡ length d.endpoints) × (w ≡ x)). ap later one.0 ∙ clears.here) (end_which e w here);
    to_come = λ t y here waits kept other.
        subst (λ (ns : List QtdNote). IsToCome (note_at ns) y) (sym notes)
        (k.to_come t y (ap (λ (ts : List Transfer). slice_get ts t) (sym transfers) ∙ here) waits kept
        (λ w there is. other w (ap (λ (xs : List Endpoint). slice_get xs y.endpoint) ends ∙ push_there d.endpoints x y.endpoint w there) is));
    within = λ t y here kept.
        subst (λ (ns : List QtdNote). told_of (note_at ns) y.first y.qtds ≤ y.most) (sym notes) (k.within t y (ap (λ (ts : List Transfer). slice_get ts t) (sym transfers) ∙ here) kept);
  }

pub open_holds : (d : DriverContent) (m : Mem) (o : Offered) (hand : Hand) (parts : StructureSets) (held later : ℕ → List ℕ) → Opens d m o → Clears (length d.endpoints) held later → HoldsEach d hand parts held → HoldsEach o.driver hand parts later
open_holds d m o hand parts held later why clears k =
    let x : Endpoint = new_endpoint why.desc (slice_index (new_runs d why.holding_after) 0) (slice_index (new_runs d why.holding_after) 1) in
    opened_holds d o.driver x hand parts held later refl (ap (λ (g : Offered). g.driver.endpoints) why.is) (ap (λ (g : Offered). g.driver.transfers) why.is) (ap (λ (g : Offered). g.driver.notes) why.is) clears k

-- ---- a transfer is given back

pub return_holds : (d new : DriverContent) (t : ℕ) (y : Transfer) (hand : Hand) (parts : StructureSets) (held : ℕ → List ℕ) → slice_get d.transfers t ≡ Some y → y.reported ≡ true → AreThere d
    → new.endpoints ≡ d.endpoints → new.transfers ≡ slice_set d.transfers t (record y { released = true }) → new.notes ≡ d.notes → HoldsEach d hand parts held → HoldsEach new hand parts held
return_holds d new t y hand parts held here told there ends transfers notes k = record {
  next = λ e u w z is on.
      let end : slice_get d.endpoints e ≡ Some w = ap (λ (xs : List Endpoint). slice_get xs e) (sym ends) ∙ is.endpoint in
      ⊎_elim (λ (one : (u ≡ t) × (z ≡ record y { released = true })).
      let next_one = there e u w end is.going is.next in
      absurd (false≢true (sym next_one.2 ∙ ap (λ (v : Transfer). v.reported) (same_Some next_one.0 y (sym next_one.1 ∙ ap (slice_get d.transfers) one.0 ∙ here)) ∙ told)))
      (λ (old : (u ≢ t) × (slice_get d.transfers u ≡ Some z)).
      subst (λ (ns : List QtdNote). IsUnderWay hand parts (32 * w.queue) (note_at ns) z (held e)) (sym notes) (k.next e u w z (record { endpoint = end; going = is.going; next = is.next; transfer = old.1 }) on))
      (which u z is.transfer);
  none = λ e w at last on. k.none e w (ap (λ (xs : List Endpoint). slice_get xs e) (sym ends) ∙ at) last on;
  to_come = λ u z at waits kept other.
      ⊎_elim (λ (one : (u ≡ t) × (z ≡ record y { released = true })). absurd (false≢true (sym waits ∙ ap (λ (v : Transfer). v.reported) one.1 ∙ told)))
      (λ (old : (u ≢ t) × (slice_get d.transfers u ≡ Some z)).
      subst (λ (ns : List QtdNote). IsToCome (note_at ns) z) (sym notes) (k.to_come u z old.1 waits kept (λ w end is. other w (ap (λ (xs : List Endpoint). slice_get xs z.endpoint) ends ∙ end) is))) (which u z at);
  within = λ u z at kept.
      ⊎_elim (λ (one : (u ≡ t) × (z ≡ record y { released = true })). absurd (false≢true (sym kept ∙ ap (λ (v : Transfer). v.released) one.1)))
      (λ (old : (u ≢ t) × (slice_get d.transfers u ≡ Some z)). subst (λ (ns : List QtdNote). told_of (note_at ns) z.first z.qtds ≤ z.most) (sym notes) (k.within u z old.1 kept)) (which u z at);
}
  where
    which : (u : ℕ) (z : Transfer) → slice_get new.transfers u ≡ Some z → ((u ≡ t) × (z ≡ record y { released = true })) ⊎ ((u ≢ t) × (slice_get d.transfers u ≡ Some z))
    which u z at = set_which d.transfers t u y (record y { released = true }) z here (ap (λ (ts : List Transfer). slice_get ts u) (sym transfers) ∙ at)

-- ---- a driver that was just built

pub opening_there : (n : ℕ) (room : Reserve) → AreThere (opening n room).driver
opening_there n room = λ e t x here going next. absurd (nothing_at e x here)
