-- The isochronous endpoint of a descriptor that is met and waits isn't given back as long as FRINDEX has the frame number that it has now, whatever becomes of the descriptor and of the
-- endpoint (EHCI 1.0, 2.3.4, 4.6 and 4.7).
use Rattle.std.proofs.Common.{◌≡◌, ℕ, zero, suc, ◌*◌, ◌/◌, ◌≤◌, Bool, true, false, not, ◌||◌, cond, if◌then◌else◌, List, [], ◌∷◌, slice_get, Option, Some, None, Result, Ok, Err, option_map, ap, refl, sym, subst, ◌∙◌, ⊎_elim, arith}
use Rattle.std.specs.Prelude.{◌==◌}
use Rattle.std.proofs.lemmas.Bool.{true≢false, eq-eqb, and_parts}
use Rattle.std.proofs.lemmas.Option.{same_Some}
use Rattle.law_common.proofs.Booleans.{out_owed}
use Rattle.law_descriptors.proofs.Common.{unlink_registers}
use Rattle.law_world.proofs.Common.{descriptor_index, placed_index}
use Rattle.law_driver.proofs.Common.{waits_is}
use Rattle.law_frame_list.proofs.Common.{same_number, no_descriptor}
use Rattle.law_common.proofs.Numbers.{same_blocks}
use Rattle.usb_base.specs.declared.commands.Cmd.{Cmd}
use Rattle.usb_base.specs.declared.commands.Cmd.TheVariants as commands
use Rattle.usb_base.specs.declared.endpoints.EpDesc.{EpDesc}
use Rattle.usb_base.specs.declared.reports.OfferError.{OfferError}
use Rattle.bandwidth.specs.declared.placements.Placed.{Placed}
use Rattle.op_registers.specs.RegisterFile.{RegisterFile}
use Rattle.mem_runs.specs.Book.{Holding}
use Rattle.drv_chains.specs.declared.members.Member.{Member}
use Rattle.drv_chains.specs.declared.members.Member.TheVariants.{Once, Each}
use Rattle.drv_chains.specs.Chains.{id_of}
use Rattle.drv_members.specs.Members.{is_linked}
use Rattle.drv_periodic_table.specs.Periodic.{is_periodic}
use Rattle.drv_periodic_table.specs.declared.content.Removal.{Removal}
use Rattle.drv_periodic_table.specs.declared.content.Removed.{Removed}
use Rattle.drv_periodic_table.specs.declared.content.Removed.TheVariants as removed
use Rattle.drv_table.specs.declared.content.Endpoint.{Endpoint}
use Rattle.drv_table.specs.declared.content.Transfer.{Transfer}
use Rattle.drv_table.specs.declared.content.Command.TheVariants as unfinished
use Rattle.drv_table.specs.declared.rows.DriverRow.{DriverRow}
use Rattle.drv_table.specs.declared.rows.DriverRow.TheVariants as rows
use Rattle.drv_table.specs.DriverContent.{DriverContent}
use Rattle.drv_table.specs.Accepting.{Offered}
use Rattle.drv_table.specs.Offers.{offered}
use Rattle.drv_table.specs.CancelOffers.{with_cancel, endpoint_members}
use Rattle.drv_table.specs.Parts.{Parts}
use Rattle.drv_table.specs.Kinds.{is_iso}
use Rattle.drv_table.specs.Rows.{driver_row, after_driver_row}
use Rattle.drv_table.specs.Releases.{after_transfer, after_endpoint}
use Rattle.drv_table.specs.Removals.{after_removed}
use Rattle.claims_driver.specs.Owners.{Described, is_descriptor, runs_of_transfer, runs_of_endpoint, views_of}
use Rattle.claims_driver.specs.Leaving.{times, endpoints_in, endpoint_before, leaves_frames, HasOwners}
use Rattle.law_driver.specs.run_owners.Accepts.{Accepts, opens, chains, places, transfers, describes, cancels, unchains}
use Rattle.law_driver.proofs.lemmas.run_owners.Reasons.{each_event_is_due}
use Rattle.law_driver.proofs.lemmas.run_owners.Commands.{each_command_has_its_reason}
use Rattle.law_driver.proofs.lemmas.run_owners.Orders.{endpoint_first}
use Rattle.claims_driver.specs.FrameListMembers.{framed_in, is_chained, is_among}
use Rattle.law_driver.specs.listed_members.Members.{IsStanding, IsListed}
use Rattle.law_driver.proofs.lemmas.listed_members.Standing.{IsSeen, seen, IsIn, in_frames, IsReported, unlinks_reported, standing_block, why_stands}
use Rattle.law_driver.proofs.lemmas.listed_members.Owned.{queue_owned}
use Rattle.law_admission.proofs.Commands.{commands_place_the_best}
use Rattle.law_frame_list.proofs.lemmas.list_spread.Spreading.{queue_there, standing_there}
use Rattle.law_driver.proofs.lemmas.queued_drivers.CommandReasons.{IsReasonOf, reason_of}
use Rattle.law_frames.specs.Met.{Kind}
use Rattle.claims_driver.specs.Unlinked.{led_by, IsOpenAt}
use Rattle.law_descriptors.specs.Removed.{IsRemovedAt, a_descriptor, a_queue, a_waiting, IsRemovedSince, IsUnchainedNow}
use Rattle.law_descriptors.specs.Meeting.{standing, or_recent, met}
use Rattle.law_descriptors.proofs.Finding.{begins_at, member_at}
use Rattle.law_descriptors.proofs.Leading.{led_linked}
use Rattle.law_descriptors.proofs.GivenRow.{row_gives_back_passed}
use Rattle.law_descriptors.proofs.Returning.{one_of, endpoint_counts, not_open}
use Rattle.law_descriptors.proofs.Waiting.{frames_most}
use Rattle.law_budgets.specs.visit_prices.Spent.{IsAmong, placed_as}
use Rattle.bus_world.specs.World.{World, driver_parts, driver_next, name_in, commanded, commanded_by}
use Rattle.law_world.specs.memory.Mixed.{Standing, IsMixedAt}
use Rattle.law_microframes.specs.visits.Belonging.{placed_of, IsDescriptorAt}
use Rattle.law_microframes.proofs.lemmas.visits.BelongQueues.{endpoint_same, alive, removed_kept, unchained_in, waiting_held, removed_held, waits_by}
use Rattle.law_microframes.proofs.lemmas.visits.BelongSeen.{Seen, seen_in, IsSeenIn, seen_there, row_seen}
use Rattle.law_microframes.proofs.lemmas.visits.BelongPlan.{row_more}
use Rattle.law_microframes.proofs.lemmas.visits.BelongCommands.{taken_same, described_same, left_same, opened_new, same_plan, open_plan, pushed_seen}
use Rattle.law_microframes.specs.time.PaymentLaws.{IsOfIsochronous}
use Rattle.law_microframes.proofs.lemmas.time.PaymentRemovals.{AreOpen, or_done, begun, row_open}

-- ---- an endpoint is removed once

fewer : (e : ℕ) (w : Removed) (ms : List Removal) → times e (endpoints_in ms) ≤ times e (endpoint_before w (endpoints_in ms))
fewer e (removed.Descriptor t) ms = omega arith
fewer e (removed.Endpoint f) ms = omega arith

pub one_removal : (e : ℕ) (rs : List Removal) (i j : ℕ) (r q : Removal) → slice_get rs i ≡ Some r → slice_get rs j ≡ Some q → r.what ≡ removed.Endpoint e → q.what ≡ removed.Endpoint e
    → times e (endpoints_in rs) ≤ 1 → r ≡ q
one_removal e [] i j r q here there one two most = absurd (cc)
one_removal e (m ∷ ms) zero zero r q here there one two most = sym (same_Some m r here) ∙ same_Some m q there
one_removal e (m ∷ ms) zero (suc j) r q here there one two most =
    let first = endpoint_first e e (m ∷ ms) r here one in
    let counts : ◌≡◌ {A = ℕ} (cond (e == e) 1 0) 1 = one_of (e == e) (eq-eqb e e refl) in
    let later = endpoint_counts e ms j q there two in
    absurd (omega (arith, first, counts, later, most))
one_removal e (m ∷ ms) (suc i) zero r q here there one two most =
    let first = endpoint_first e e (m ∷ ms) q there two in
    let counts : ◌≡◌ {A = ℕ} (cond (e == e) 1 0) 1 = one_of (e == e) (eq-eqb e e refl) in
    let later = endpoint_counts e ms i r here one in
    absurd (omega (arith, first, counts, later, most))
one_removal e (m ∷ ms) (suc i) (suc j) r q here there one two most = let less = fewer e m.what ms in one_removal e ms i j r q here there one two (omega (arith, less, most))

-- ---- a descriptor that is met and waits

module _ (s : Standing) (w : World) (n : ℕ) (k : IsMixedAt s w) (b : IsDescriptorAt w.driver n) where
  abbrev d : DriverContent
  d = w.driver

  abbrev e : ℕ
  e = b.belongs.number

  abbrev x : Endpoint
  x = b.belongs.endpoint

  abbrev y : Transfer
  y = b.transfer

  has : HasOwners w.driver
  has = k.now.framed.place.sound.owners

  listed : IsListed w.driver
  listed = k.now.framed.place.sound.listed

  told : (b.transfer.endpoint ≡ b.belongs.number) × (b.transfer.reported ≡ false)
  told = waits_is e y b.waits

  record IsMine (u : ℕ) (z : Transfer) : Type 0 where
    split : Bool
    owned : has.owner z.first ≡ Described split u

  owned_by : (u : ℕ) (z : Transfer) → slice_get w.driver.transfers u ≡ Some z → is_descriptor z.sort ≡ true → z.released ≡ false → IsMine u z
  owned_by u z there sort held =
      let o = has.owned.each.described u (runs_of_transfer z) (ap (option_map runs_of_transfer) there) sort held in
      record { split = ((views_of d).descriptor z.first).split; owned = o.descriptor.owned }

  mine : IsMine b.number b.transfer
  mine = owned_by b.number y b.there b.sort b.held

  -- one that isn't given back and begins there is it
  pub one_transfer : (u : ℕ) (z : Transfer) → slice_get w.driver.transfers u ≡ Some z → is_descriptor z.sort ≡ true → z.released ≡ false → n ≡ 32 * z.first → z ≡ b.transfer
  one_transfer u z there sort held at =
      let o : IsMine u z = owned_by u z there sort held in
      let same : u ≡ b.number = same_number o.split mine.split u b.number (sym o.owned ∙ ap has.owner (same_blocks z.first y.first (sym at ∙ b.name)) ∙ mine.owned) in
      same_Some z y (sym there ∙ ap (slice_get d.transfers) same ∙ b.there)

  no_queue : (f : ℕ) (v : Endpoint) → slice_get w.driver.endpoints f ≡ Some v → is_iso v.desc.kind ≡ false → v.gone ≡ false → n ≡ 32 * v.queue → ⊥
  no_queue f v there queue kept at =
      let o = has.owned.each.queue f (runs_of_endpoint v) (ap (option_map runs_of_endpoint) there) (ap (λ (c : Bool). c || v.gone) queue ∙ kept) in
      no_descriptor f b.number mine.split (sym o.owned ∙ ap has.owner (same_blocks v.queue y.first (sym at ∙ b.name)) ∙ mine.owned)

  module _ (i : ℕ) (r : Removal) (at : slice_get w.driver.periodic.removals i ≡ Some r) (what : r.what ≡ removed.Endpoint b.belongs.number) where
    abbrev now : ℕ
    now = w.registers.frame_index

    most : times b.belongs.number (endpoints_in w.driver.periodic.removals) ≤ (if b.belongs.endpoint.chained || b.belongs.endpoint.gone || not (is_periodic b.belongs.endpoint.desc.kind) then 0 else 1)
    most =
        let m = has.orderly.removed e in
        let owes_it : leaves_frames (slice_get d.endpoints e) ≡ (if x.chained || x.gone || not (is_periodic x.desc.kind) then 0 else 1) = ap leaves_frames b.belongs.here in
        omega (arith, m, owes_it)

    out : b.belongs.endpoint.chained ≡ false
    out =
        let counts = endpoint_counts e d.periodic.removals i r at what in
        let m = most in
        out_owed x.chained x.gone (is_periodic x.desc.kind) (omega (arith, counts, m))

    -- nobody of its endpoint is in the frames
    not_in : (f : ℕ) (v : Endpoint) → slice_get w.driver.endpoints f ≡ Some v → f ≡ b.belongs.number → v.chained ≡ true → ⊥
    not_in f v there same on =
        true≢false (sym on ∙ ap (λ (z : Endpoint). z.chained) (same_Some v x (sym there ∙ ap (slice_get d.endpoints) same ∙ b.belongs.here)) ∙ out)

    by_member : (m : Member) → is_linked (led_by w.driver.periodic.list.members.schedule w.driver.periodic.list.work) m ≡ true → begins_at m ≡ n → ⊥
    by_member (Each q) on begins =
        let q_is = queue_there d q listed (led_linked d.periodic.list.members.schedule d.periodic.list.work (Each q) on) in
        no_descriptor q_is.number b.number mine.split (sym (queue_owned d q has q_is).owned ∙ ap has.owner (same_blocks (id_of (Each q) / 32) y.first (begins ∙ b.name)) ∙ mine.owned)
    by_member (Once c) on begins =
        let m : IsStanding d (Once c) = standing_there d c listed (led_linked d.periodic.list.members.schedule d.periodic.list.work (Once c) on) in
        let v : IsSeen d.endpoints d.transfers m.number m.placed = seen d.endpoints d.transfers m.number m.placed m.here in
        let z : Transfer = v.transfer in
        let name : n ≡ 32 * z.first = sym begins ∙ ap (λ (c : ℕ). 32 * c) (standing_block d (Once c) m ∙ v.block) in
        ⊎_elim
        (λ (unlinks : is_among m.number d.periodic.unlinks ≡ true).
        let t : IsReported d.transfers m.number = unlinks_reported d m.number has.orderly unlinks in
        let same : t.transfer ≡ z = same_Some t.transfer z (sym t.there ∙ v.there) in
        let is_y : z ≡ y = one_transfer m.number z v.there v.sort (ap (λ (c : Transfer). c.released) (sym same) ∙ t.released) name in
        true≢false (sym t.reported ∙ ap (λ (c : Transfer). c.reported) (same ∙ is_y) ∙ told.1))
        (λ (waits : m.placed.waits ≡ true).
        let both_are = and_parts (not z.reported) (is_chained (framed_in d.endpoints z.endpoint)) (sym v.waits ∙ waits) in
        let i : IsIn d.endpoints z.endpoint = in_frames d.endpoints z.endpoint both_are.1 in
        let held = waiting_held d has z.endpoint m.number i.endpoint z i.here (alive d has z.endpoint i.endpoint i.here i.chained) v.there (waits_by z both_are.0) in
        let is_y : z ≡ y = one_transfer m.number z v.there v.sort held name in
        not_in z.endpoint i.endpoint i.here (ap (λ (c : Transfer). c.endpoint) is_y ∙ told.0) i.chained)
        (why_stands d (Once c) m)

    removed_by : (j : ℕ) (q : Removal) (u : Removed) → slice_get w.driver.periodic.removals j ≡ Some q → q.what ≡ u → IsRemovedAt w.driver.endpoints w.driver.transfers n u
        → IsOpenAt w.registers.frame_index q.boundary → IsOpenAt w.registers.frame_index r.boundary
    removed_by j q _ there is (a_descriptor t z in_list name) still =
        let h = removed_held d has t z j q in_list there is in
        absurd (true≢false (sym h.0 ∙ ap (λ (c : Transfer). c.reported) (one_transfer t z in_list h.1.1 h.1.0 name) ∙ told.1))
    removed_by j q _ there is (a_queue f v in_list queue name) still = absurd (no_queue f v in_list queue (removed_kept d has f v j q in_list there is) name)
    removed_by j q _ there is (a_waiting f t v z in_endpoints iso in_list sort waits name) still =
        let held = waiting_held d has f t v z in_endpoints (removed_kept d has f v j q in_endpoints there is) in_list waits in
        let own : f ≡ e = sym (waits_is f z waits).0 ∙ ap (λ (c : Transfer). c.endpoint) (one_transfer t z in_list sort held name) ∙ told.0 in
        let m = most in
        let least = frames_most (x.chained || x.gone || not (is_periodic x.desc.kind)) in
        subst (λ (c : Removal). IsOpenAt now c.boundary) (one_removal e d.periodic.removals j i q r there at (is ∙ ap removed.Endpoint own) what (omega (arith, m, least))) still

    unchained_by : (f : ℕ) (u : Removed) → w.driver.command ≡ Some (unfinished.Unchain f) → u ≡ removed.Endpoint f → IsRemovedAt w.driver.endpoints w.driver.transfers n u → ⊥
    unchained_by f _ is same (a_descriptor t z in_list name) = absurd (cc)
    unchained_by f _ is same (a_queue g v in_list queue name) =
        let own : g ≡ f = endpoint_same g f same in
        let chained = unchained_in d has k.now.framed.place.queues g v in_list (is ∙ ap (λ (c : ℕ). Some (unfinished.Unchain c)) (sym own)) in
        no_queue g v in_list queue (alive d has g v in_list chained) name
    unchained_by f _ is same (a_waiting g t v z in_endpoints iso in_list sort waits name) =
        let own : g ≡ f = endpoint_same g f same in
        let chained = unchained_in d has k.now.framed.place.queues g v in_endpoints (is ∙ ap (λ (c : ℕ). Some (unfinished.Unchain c)) (sym own)) in
        let held = waiting_held d has g t v z in_endpoints (alive d has g v in_endpoints chained) in_list waits in
        not_in g v in_endpoints (sym (waits_is g z waits).0 ∙ ap (λ (c : Transfer). c.endpoint) (one_transfer t z in_list sort held name) ∙ told.0) chained

    of_recent : (kind : Kind) → s.recent n ≡ Some kind → IsOpenAt w.registers.frame_index r.boundary
    of_recent kind is =
        ⊎_elim {C = IsOpenAt w.registers.frame_index r.boundary}
        (λ (since : IsRemovedSince w.driver.endpoints w.driver.transfers w.driver.periodic.removals w.registers.frame_index n).
        removed_by since.place since.removal since.removal.what since.here refl since.what since.within)
        (λ (past : IsUnchainedNow w.driver.endpoints w.driver.transfers w.driver.command n). absurd (unchained_by past.endpoint (removed.Endpoint past.endpoint) past.command refl past.what))
        (k.now.recent_are n kind is)

    by_standing : (o : Option Kind) (kind : Kind) → standing w.driver n ≡ o → or_recent o (s.recent n) ≡ Some kind → IsOpenAt w.registers.frame_index r.boundary
    by_standing (Some other) kind stands is =
        let m = member_at d.periodic (led_by d.periodic.list.members.schedule d.periodic.list.work) n other stands in
        absurd (by_member m.member m.linked m.begins)
    by_standing None kind stands is = of_recent kind is

  pub record IsIsochronousNow : Type 0 where
    pub its : IsOfIsochronous w.driver w.registers.frame_index b.belongs.number
    pub same : placed_as b.belongs.number its.endpoint.desc its.placement ≡ placed_of b.belongs

  pub iso_now : (kind : Kind) → met w.driver s.recent n ≡ Some kind → IsIsochronousNow
  iso_now kind is = record {
    its = record {
      endpoint = x;
      placement = b.belongs.placement;
      here = b.belongs.here;
      kind = b.kind;
      planned = b.belongs.planned;
      still_open = λ i r at what. by_standing i r at what (standing w.driver n) kind refl is;
    };
    same = refl;
  }

-- ---- it stays

pub record StaysOf {d : DriverContent} {now e : ℕ} (i : IsOfIsochronous d now e) (later : DriverContent) (index : ℕ) : Type 0 where
  pub still : IsOfIsochronous later index e
  pub same : placed_as e still.endpoint.desc still.placement ≡ placed_as e i.endpoint.desc i.placement

iso_stays : (d later : DriverContent) (before index e : ℕ) (i : IsOfIsochronous d before e) → seen_in later.endpoints e ≡ seen_in d.endpoints e
    → IsAmong later.periodic.plan.placed (placed_as e i.endpoint.desc i.placement) → AreOpen index e later.periodic.removals → StaysOf i later index
iso_stays d later before index e i same among all_open =
    let of : IsSeenIn later.endpoints e i.endpoint = seen_there d.endpoints later.endpoints e i.endpoint same i.here in
    let desc : of.endpoint.desc ≡ i.endpoint.desc = ap (λ (z : Seen). z.desc) of.same in
    record {
      still = record {
        endpoint = of.endpoint;
        placement = i.placement;
        here = of.here;
        kind = ap (λ (z : EpDesc). z.kind) desc ∙ i.kind;
        planned = subst (λ (z : EpDesc). IsAmong later.periodic.plan.placed (placed_as e z i.placement)) (sym desc) among;
        still_open = all_open;
      };
      same = ap (λ (z : EpDesc). placed_as e z i.placement) desc;
    }

-- ---- an event of the driver

transfer_index : (p : Parts) (t : ℕ) (o : Option Transfer) (h : Holding) → (after_transfer p t o h).registers ≡ p.registers
transfer_index p t None h = refl
transfer_index p t (Some z) h = refl

endpoint_index : (p : Parts) (f : ℕ) (o : Option Endpoint) → (after_endpoint p f o).registers ≡ p.registers
endpoint_index p f None = refl
endpoint_index p f (Some z) = refl

removed_index : (p : Parts) (what : Removed) → (after_removed p what).registers ≡ p.registers
removed_index p (removed.Descriptor t) = descriptor_index p t (slice_get p.driver.transfers t)
removed_index p (removed.Endpoint f) = placed_index p f (slice_get p.driver.endpoints f)

abbrev index_of : RegisterFile → ℕ
index_of r = r.frame_index

row_index : (row : DriverRow) (p : Parts) → (after_driver_row row p).registers.frame_index ≡ p.registers.frame_index
row_index (rows.ReleaseTransfer t) p = ap index_of (transfer_index p t (slice_get p.driver.transfers t) _)
row_index (rows.ReleaseEndpoint f) p = ap index_of (endpoint_index p f (slice_get p.driver.endpoints f))
row_index (rows.Unlink t) p = ap index_of (unlink_registers p t (slice_get p.driver.transfers t))
row_index (rows.ReleaseRemoved what) p = ap index_of (removed_index p what)
row_index _ p = refl

pub driver_index : (w : World) → (driver_next w).registers.frame_index ≡ w.registers.frame_index
driver_index w = row_index (driver_row (driver_parts w)) (driver_parts w)

pub driver_iso : (w : World) (e : ℕ) (i : IsOfIsochronous w.driver w.registers.frame_index e) → StaysOf i (driver_next w).driver w.registers.frame_index
driver_iso w e i =
    let parts = driver_parts w in
    let row = driver_row parts in
    iso_stays w.driver (driver_next w).driver w.registers.frame_index w.registers.frame_index e i (row_seen e row parts)
    (row_more row parts (placed_as e i.endpoint.desc i.placement)
    (λ given.
    let g = row_gives_back_passed parts (removed.Endpoint e) given in
    not_open w.registers.frame_index g.due.removal.boundary g.seen (i.still_open 0 g.due.removal g.due.first g.due.is)) i.planned)
    (row_open row parts e (each_event_is_due parts) i.still_open)

-- ---- a command

-- it is seen as it was, and what was placed is
pub record IsSeenAndPlaced (d : DriverContent) (o : Offered) (e : ℕ) (y : Placed) : Type 0 where
  pub seen_too : seen_in o.driver.endpoints e ≡ seen_in d.endpoints e
  pub placed_too : IsAmong o.driver.periodic.plan.placed y

module _ (w : World) (o : Offered) (e : ℕ) (x : Endpoint) (y : Placed) (here : slice_get w.driver.endpoints e ≡ Some x) (planned : IsAmong w.driver.periodic.plan.placed y) where
  pub accepted_sees : (cmd : Cmd) → offered w.driver w.memory cmd ≡ Ok o → IsReasonOf w.driver w.memory o cmd → IsSeenAndPlaced w.driver o e y
  accepted_sees (commands.OpenEp v) is why = record {
    seen_too = pushed_seen w.driver o e x (opened_new w.driver w.memory o v why) here;
    placed_too = open_plan w.driver v o (is_periodic v.kind) (commands_place_the_best w.driver w.memory (commands.OpenEp v) o is) y planned;
  }
  accepted_sees (commands.Get name len by) is why =
      record { seen_too = taken_same w.driver w.memory o name _ _ why e; placed_too = same_plan w.driver o (commands_place_the_best w.driver w.memory (commands.Get name len by) o is) y planned }
  accepted_sees (commands.Put name bytes by) is why =
      record { seen_too = taken_same w.driver w.memory o name _ _ why e; placed_too = same_plan w.driver o (commands_place_the_best w.driver w.memory (commands.Put name bytes by) o is) y planned }
  accepted_sees (commands.Control name setup bytes) is why =
      record { seen_too = taken_same w.driver w.memory o name _ _ why e; placed_too = same_plan w.driver o (commands_place_the_best w.driver w.memory (commands.Control name setup bytes) o is) y planned }
  accepted_sees (commands.Iso name count len seed) is why =
      record { seen_too = described_same w.driver w.memory o why e; placed_too = same_plan w.driver o (commands_place_the_best w.driver w.memory (commands.Iso name count len seed) o is) y planned }
  accepted_sees (commands.Cancel name) is why =
      record { seen_too = left_same w.driver w.memory o name why e; placed_too = same_plan w.driver o (commands_place_the_best w.driver w.memory (commands.Cancel name) o is) y planned }
  accepted_sees _ is why = absurd why

pub accepted_open : (w : World) (o : Offered) (now e : ℕ) → Accepts w.driver w.memory o → AreOpen now e w.driver.periodic.removals → AreOpen now e o.driver.periodic.removals
accepted_open w o now e (opens why) all = subst (λ (f : Offered). AreOpen now e f.driver.periodic.removals) (sym why.is) all
accepted_open w o now e (chains why) all = subst (λ (f : Offered). AreOpen now e f.driver.periodic.removals) (sym why.is) all
accepted_open w o now e (places why) all = subst (λ (f : Offered). AreOpen now e f.driver.periodic.removals) (sym why.is) all
accepted_open w o now e (transfers why) all = subst (λ (f : Offered). AreOpen now e f.driver.periodic.removals) (sym why.is) all
accepted_open w o now e (describes why) all = subst (λ (f : Offered). AreOpen now e f.driver.periodic.removals) (sym why.is) all
accepted_open w o now e (cancels why) all = subst (λ (f : Offered). AreOpen now e f.driver.periodic.removals) (sym why.is) all
accepted_open w o now e (unchains why) all =
    let members = endpoint_members w.driver why.number why.endpoint why.placement in
    subst (λ (f : Offered). AreOpen now e f.driver.periodic.removals) (sym why.is)
    (or_done now e (with_cancel w.driver why.number why.endpoint members) (unfinished.Unchain why.number) (begun now e true (record w.driver.periodic { queued = members }) all))

pub command_iso : (w : World) (line : ℕ) (cmd : Cmd) (e : ℕ) (i : IsOfIsochronous w.driver w.registers.frame_index e) → StaysOf i (commanded w line cmd).driver w.registers.frame_index
command_iso w line cmd e i = by (offered w.driver w.memory cmd) refl
  where
    by : (r : Result Offered OfferError) → offered w.driver w.memory cmd ≡ r → StaysOf i (commanded_by w line (name_in cmd) r).driver w.registers.frame_index
    by (Err why) is = iso_stays w.driver (commanded_by w line (name_in cmd) (Err why)).driver w.registers.frame_index w.registers.frame_index e i refl i.planned i.still_open
    by (Ok o) is =
        let s = accepted_sees w o e i.endpoint (placed_as e i.endpoint.desc i.placement) i.here i.planned cmd is (reason_of w.driver w.memory cmd o is) in
        iso_stays w.driver o.driver w.registers.frame_index w.registers.frame_index e i s.seen_too s.placed_too
        (accepted_open w o w.registers.frame_index e (each_command_has_its_reason w.driver w.memory cmd o is) i.still_open)
