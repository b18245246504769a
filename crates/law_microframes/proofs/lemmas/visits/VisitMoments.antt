-- What was visited is in its frame, none of it twice.
use Rattle.std.proofs.Common.{◌≡◌, ℕ, ◌*◌, ◌⊎◌, inl, inr, true, false, List, [], ◌∷◌, slice_get, Option, Some, None, ⊎_elim, ap, sym, ◌∙◌, refl}
use Rattle.std.specs.List.{AllByRecursion}
use Rattle.drv_chains.specs.declared.members.Member.{Member}
use Rattle.drv_chains.specs.Chains.{stands_in}
use Rattle.drv_periodic_table.specs.declared.content.Removal.{Removal}
use Rattle.drv_periodic_table.specs.declared.content.Removed.{Removed}
use Rattle.drv_periodic_table.specs.declared.content.Removed.TheVariants as removed
use Rattle.drv_table.specs.declared.content.Command.TheVariants as unfinished
use Rattle.drv_table.specs.declared.content.Endpoint.{Endpoint}
use Rattle.drv_table.specs.declared.content.Transfer.{Transfer}
use Rattle.drv_table.specs.DriverContent.{DriverContent, waits_for}
use Rattle.drv_table.specs.Kinds.{is_iso}
use Rattle.drv_periodic_table.specs.Periodic.{is_periodic}
use Rattle.claims_driver.specs.Leaving.{HasOwners}
use Rattle.claims_driver.specs.Owners.{is_descriptor}
use Rattle.claims_driver.specs.Unlinked.{led, IsOpenAt}
use Rattle.law_descriptors.specs.Removed.{IsRemovedAt, a_descriptor, a_queue, a_waiting, IsRemovedSince, IsUnchainedNow}
use Rattle.law_descriptors.specs.Meeting.{or_recent, standing}
use Rattle.law_descriptors.proofs.Finding.{IsMemberAt, member_at}
use Rattle.law_frames.specs.Met.{Kind}
use Rattle.bus_world.specs.World.{World}
use Rattle.law_world.specs.memory.Mixed.{Standing, IsMixedAt}
use Rattle.claims_world.specs.Visits.{begins, frame_in, WasOfFrame, of_descriptor, of_queue_head, of_waiting, IsUnlinkedNow, since, by_command, IsInItsFrame, VisitsApart}
use Rattle.law_microframes.specs.visits.Belonging as belonging
use Rattle.law_microframes.specs.visits.Belonging.{IsQueueAt}
use Rattle.law_microframes.specs.visits.Visited.{WasVisited, IsActiveAs, IsFramedAs, VisitsGoOn, IsVisiting}
use Rattle.law_microframes.proofs.lemmas.visits.BelongQueues.{interrupt_kind, HasPlacement, its_placement, belongs_by, alive, removed_kept, removed_frames, unchained_in, waiting_held, removed_held, endpoint_same}

module _ (s : Standing) (w : World) (k : IsMixedAt s w) (v frame : ℕ) (x : Member) (stands : stands_in frame x ≡ true)
    (active : IsActiveAs w.driver v x) (framed : IsFramedAs w.driver v x) where
  abbrev d : DriverContent
  d = w.driver

  has : HasOwners w.driver
  has = k.now.framed.place.sound.owners

  abbrev Was : Removed → Type 0
  Was what = WasOfFrame w.driver frame v what

  queue_was : (e : ℕ) (z : Endpoint) → slice_get w.driver.endpoints e ≡ Some z → z.gone ≡ false → is_periodic z.desc.kind ≡ true
      → is_iso z.desc.kind ≡ false → v ≡ 32 * z.queue → Was (removed.Endpoint e)
  queue_was e z here kept frames queue name =
      let kind = interrupt_kind z.desc.kind frames queue in
      let p : HasPlacement z = its_placement w.driver has k.now.planned v e z here kept frames in
      let b : IsQueueAt w.driver v = record {
        belongs = belongs_by w.driver has k.now.planned v e z here kept frames (belonging.a_queue kind name);
        kind = kind;
        name = name;
      } in
      of_queue_head e z p.placement here kind p.is name (active b frame stands)

  waiting_was : (e t : ℕ) (z : Endpoint) (y : Transfer) → slice_get w.driver.endpoints e ≡ Some z → z.gone ≡ false
      → slice_get w.driver.transfers t ≡ Some y → is_descriptor y.sort ≡ true
      → waits_for e y ≡ true → v ≡ 32 * y.first → Was (removed.Endpoint e)
  waiting_was e t z y here kept there sort waits name =
      of_waiting e t y there sort waits name
      (sym (framed t y there sort (waiting_held w.driver has e t z y here kept there waits) name frame stands))

  removed_was : (i : ℕ) (r : Removal) (what : Removed) → slice_get w.driver.periodic.removals i ≡ Some r → r.what ≡ what
      → IsRemovedAt w.driver.endpoints w.driver.transfers v what → Was what
  removed_was i r _ at is (a_descriptor t y there name) =
      let h = removed_held w.driver has t y i r there at is in
      of_descriptor t y there h.1.1 name (sym (framed t y there h.1.1 h.1.0 name frame stands))
  removed_was i r _ at is (a_queue e z there queue name) =
      queue_was e z there (removed_kept w.driver has e z i r there at is) (removed_frames w.driver has e z i r there at is) queue name
  removed_was i r _ at is (a_waiting e t z y here iso there sort waits name) =
      waiting_was e t z y here (removed_kept w.driver has e z i r here at is) there sort waits name

  unchained_was : (e : ℕ) (what : Removed) → w.driver.command ≡ Some (unfinished.Unchain e) → what ≡ removed.Endpoint e
      → IsRemovedAt w.driver.endpoints w.driver.transfers v what → Was what
  unchained_was e _ is same (a_descriptor t y there name) = absurd (cc)
  unchained_was e _ is same (a_queue f z there queue name) =
      let own : f ≡ e = endpoint_same f e same in
      let chained = unchained_in w.driver has k.now.framed.place.queues f z there
      (is ∙ ap (λ (i : ℕ). Some (unfinished.Unchain i)) (sym own)) in
      queue_was f z there (alive w.driver has f z there chained) ((has.orderly.steady f z there).frames chained) queue name
  unchained_was e _ is same (a_waiting f t z y here iso there sort waits name) =
      let own : f ≡ e = endpoint_same f e same in
      let chained = unchained_in w.driver has k.now.framed.place.queues f z here
      (is ∙ ap (λ (i : ℕ). Some (unfinished.Unchain i)) (sym own)) in
      waiting_was f t z y here (alive w.driver has f z here chained) there sort waits name

  abbrev Its : Type 0
  Its = IsInItsFrame w.driver w.registers.frame_index frame v

  left_in_frame : IsRemovedSince w.driver.endpoints w.driver.transfers w.driver.periodic.removals w.registers.frame_index v
      ⊎ IsUnchainedNow w.driver.endpoints w.driver.transfers w.driver.command v → Its
  left_in_frame =
      ⊎_elim {C = IsInItsFrame w.driver w.registers.frame_index frame v}
      (λ (r : IsRemovedSince w.driver.endpoints w.driver.transfers w.driver.periodic.removals w.registers.frame_index v).
      inr (r.removal.what, (removed_was r.place r.removal r.removal.what r.here refl r.what, since r.place r.removal r.here r.within)))
      (λ (u : IsUnchainedNow w.driver.endpoints w.driver.transfers w.driver.command v).
      inr (
        removed.Endpoint
            u.endpoint,
        (unchained_was u.endpoint (removed.Endpoint u.endpoint) u.command refl u.what, by_command u.endpoint u.command),
      ))

module _ (start w : World) (vs : List ℕ) (h : IsVisiting start w vs) where
  abbrev g : VisitsGoOn start w vs
  g = h.visits

  abbrev frame : ℕ
  frame = frame_in w.control.frame.index

  in_frame_by : (v : ℕ) (o : Option Kind) → standing w.driver v ≡ o
      → WasVisited w.driver h.visits.left h.visits.who (frame_in w.control.frame.index) v → IsActiveAs w.driver v (h.visits.who v)
      → IsFramedAs w.driver v (h.visits.who v) → IsInItsFrame w.driver w.registers.frame_index (frame_in w.control.frame.index) v
  in_frame_by v (Some kind) is was active framed =
      let y : IsMemberAt (led w.driver) v = member_at w.driver.periodic (led w.driver) v kind is in
      let who_is : h.visits.who v ≡ y.member = ap h.visits.who (sym y.begins) ∙ h.visits.ranked.stand y.member y.linked in
      inl (record {
        member = y.member;
        at = y.begins;
        linked = y.linked;
        in_frame = ap (stands_in (frame_in w.control.frame.index))
            (sym who_is) ∙ was.stands;
      })
  in_frame_by v None is was active framed =
      left_in_frame h.mixed.standing w h.mixed.mixed v (frame_in w.control.frame.index) (h.visits.who v) was.stands active framed
      (h.visits.left_are v was.kind (ap (λ (o : Option Kind). or_recent o (h.visits.left v)) (sym is) ∙ was.is_met))

  all_in_frame : (us : List ℕ) → AllByRecursion (WasVisited w.driver h.visits.left h.visits.who (frame_in w.control.frame.index)) us
      → AllByRecursion (λ v. IsActiveAs w.driver v (h.visits.who v)) us
      → AllByRecursion (λ v. IsFramedAs w.driver v (h.visits.who v)) us
      → AllByRecursion (IsInItsFrame w.driver w.registers.frame_index (frame_in w.control.frame.index)) us
  all_in_frame [] were active framed = tt
  all_in_frame (v ∷ us) were active
      framed = (in_frame_by v (standing w.driver v) refl were.0 active.0 framed.0, all_in_frame us were.1 active.1 framed.1)

  pub visits_apart : VisitsApart w vs
  visits_apart = record
      { once = h.visits.behind.once; in_frame = all_in_frame vs h.visits.behind.were h.visits.were_active h.visits.were_framed }
