-- An iTD, or a siTD, that is stored for a frame, of an endpoint that isn't cancelled, is linked in that frame; so its slot is due where it
-- is active, or its transaction where one comes (EHCI 1.0, 3.1, 4.6, 4.7.1 and 4.12.3).
use Rattle.std.proofs.Common.{◌≡◌, ◌≢◌, ℕ, ◌*◌, ◌/◌, ◌<◌, Bool, true, false, not, ◌&&◌, ◌==◌, slice_get, Option, Some, None}
use Rattle.std.proofs.Common.{nat_lt, option_map, inr, ap, refl, sym, ◌∙◌}
use Rattle.std.proofs.lemmas.Bool.{true≢false, false≢true, lt-ltb, ne_eqb, or_left}
use Rattle.usb_base.specs.declared.packets.EpKind.{EpKind}
use Rattle.usb_base.specs.declared.packets.EpKind.TheVariants as kinds
use Rattle.drv_chains.specs.declared.members.Descriptor.{Descriptor}
use Rattle.drv_chains.specs.declared.members.Member.TheVariants.{Once}
use Rattle.drv_members.specs.Members.{is_linked}
use Rattle.drv_periodic_table.specs.Periodic.{is_periodic, note_at, descriptor_name}
use Rattle.drv_table.specs.declared.content.Command.{Command}
use Rattle.drv_table.specs.declared.content.Command.TheVariants as unfinished
use Rattle.drv_table.specs.declared.content.Endpoint.{Endpoint}
use Rattle.drv_table.specs.declared.content.Transfer.{Transfer}
use Rattle.drv_table.specs.DriverContent.{DriverContent}
use Rattle.drv_table.specs.Kinds.{is_iso}
use Rattle.claims_base.specs.Controller.{opening_base}
use Rattle.claims_driver.specs.FrameListMembers.{Placed, framed_of, framed_in, is_chained}
use Rattle.law_driver.specs.listed_members.Members.{is_linked_by, IsListed, IsUnderWay}
use Rattle.claims_driver.specs.Leaving.{HasOwners}
use Rattle.hc_interrupt.specs.Turns.{microframe_of}
use Rattle.hc_iso.specs.declared.held.SitdTurn.TheVariants.{Work}
use Rattle.hc_iso.specs.Sitd.{sitd_turn}
use Rattle.itd_sitd.specs.declared.itd.Itd.{Itd}
use Rattle.itd_sitd.specs.Itd.{slot_of}
use Rattle.itd_sitd.specs.declared.sitd.Sitd.{Sitd}
use Rattle.mem_descriptors.specs.Descriptors.{itd_at_address, sitd_at_address}
use Rattle.bus_world.specs.Budgets.{moment}
use Rattle.bus_world.specs.World.{World, controller_parts}
use Rattle.claims_world.specs.DueAtBegin.{IsUncancelled}
use Rattle.claims_world.specs.SitdsAtBegin.{IsSitdDueAtBegin}
use Rattle.claims_world.specs.SlotsAtBegin.{IsLinkedAs, IsSlotDueAtBegin}
use Rattle.claims_world.specs.Visits.{frame_in}
use Rattle.law_driver.proofs.lemmas.listed_members.Standing.{descriptor_block}
use Rattle.law_driver.proofs.lemmas.listed_members.Unlinks.{placed_here}
use Rattle.law_descriptors.specs.RowLaws.{HasFrames}
use Rattle.law_world.specs.memory.Mixed.{Standing, IsMixedWorld}
use Rattle.law_world.proofs.lemmas.memory.Together.{texts_stay_mixed}
use Rattle.law_world.proofs.lemmas.memory.lemmas.framed_memory.Now.{now_has_frames}
use Rattle.law_microframes.proofs.lemmas.due.Linked.{is_led_to}
use Rattle.law_reports.specs.due_at_begin.Stored.{IsStoredFor, TextsHaveStoredSlotsDue, TextsHaveStoredSitdsDue}
use Rattle.law_reports.proofs.lemmas.due_at_begin.DescriptorThere.{IsItsMember, linked_there}
use Rattle.law_reports.proofs.lemmas.due_at_begin.BegunMoments.{so_as_begun}
use Rattle.law_reports.proofs.lemmas.due_at_begin.Reached.{structure_at}

iso_periodic : (kind : EpKind) → is_iso kind ≡ true → is_periodic kind ≡ true
iso_periodic kinds.Iso is = refl
iso_periodic kinds.Control is = absurd (false≢true is)
iso_periodic kinds.Bulk is = absurd (false≢true is)
iso_periodic kinds.Interrupt is = absurd (false≢true is)

module _ (split : Bool) (w : World) (k : IsMixedWorld w) (e n : ℕ) (st : IsStoredFor split w.driver e n (frame_in w.control.frame.index))
    (off : IsUncancelled w.driver e) where
  abbrev d : DriverContent
  d = w.driver

  abbrev y : Transfer
  y = st.of.transfer

  abbrev c : Descriptor
  c = record {
    id = descriptor_name (note_at w.driver.periodic.notes st.of.transfer.first) st.of.transfer.first;
    frame = (note_at w.driver.periodic.notes st.of.transfer.first).frame;
  }

  has : HasOwners w.driver
  has = k.mixed.now.framed.place.sound.owners

  listed : IsListed w.driver
  listed = k.mixed.now.framed.place.sound.listed

  -- ---- it waits in its frame

  at_endpoint : slice_get w.driver.endpoints st.of.transfer.endpoint ≡ Some st.endpoint
  at_endpoint = ap (slice_get w.driver.endpoints) st.of.endpoint ∙ st.here

  chained : st.endpoint.chained ≡ true
  chained =
      listed.list.kept e st.endpoint st.here
      (iso_periodic st.endpoint.desc.kind (sym (has.orderly.sorts st.of.number y st.endpoint st.of.here at_endpoint) ∙ st.of.sort))
      (off st.endpoint st.here)

  abbrev placed : Placed
  placed = record {
    endpoint = st.of.transfer.endpoint;
    block = st.of.transfer.first;
    waits = not st.of.transfer.reported && is_chained (framed_in w.driver.endpoints st.of.transfer.endpoint);
  }

  waits : (not st.of.transfer.reported && is_chained (framed_in w.driver.endpoints st.of.transfer.endpoint)) ≡ true
  waits =
      ap (λ (b : Bool). not b && is_chained (framed_in d.endpoints y.endpoint)) st.untold
      ∙ ap (λ (o : Option Endpoint). is_chained (option_map framed_of o)) at_endpoint ∙ chained

  other : (i : ℕ) → IsUnderWay w.driver (Some (unfinished.Unchain i)) → st.of.transfer.endpoint ≢ i
  other i way same =
      true≢false (sym way.cancelled ∙ off way.endpoint (ap (slice_get d.endpoints) (sym st.of.endpoint ∙ same) ∙ way.here))

  linked_by : (o : Option Command) → IsUnderWay w.driver o
      → ((i first count : ℕ) → o ≡ Some (unfinished.Iso i first count) → st.of.number < first)
      → is_linked_by o w.driver.made w.driver.periodic st.of.number placed ≡ true
  linked_by None way older = refl
  linked_by (Some (unfinished.Open b)) way older = refl
  linked_by (Some (unfinished.Publish b words)) way older = refl
  linked_by (Some (unfinished.Unlink i b link)) way older = refl
  linked_by (Some unfinished.Chain) way older = refl
  linked_by (Some (unfinished.Iso i first count)) way older =
      or_left (nat_lt st.of.number first) _ (lt-ltb st.of.number first (older i first count refl))
  linked_by (Some (unfinished.Unchain i)) way older =
      or_left (not (y.endpoint == i)) _ (ap not (ne_eqb y.endpoint i (other i way)))

  linked : is_linked w.driver.periodic.list.members.schedule (Once c) ≡ true
  linked =
      listed.list.members.each (Once c)
      (record {
        number = st.of.number;
        placed = placed;
        here = placed_here d.endpoints d.transfers st.of.number y st.of.here st.of.sort;
        stands = inr (waits, linked_by d.command listed.way st.older);
        is = refl;
      })

  -- ---- so it is linked

  frames : HasFrames w.memory w.driver
  frames =
      let s : Standing = k.standing in
      now_has_frames opening_base s.member s.recent s.descs s.parts s.hand s.frame (controller_parts w) w.driver k.mixed.now

  block : c.id / 32 ≡ st.of.transfer.first
  block = descriptor_block d.periodic y.first

  member : IsItsMember split w n
  member = record {
    descriptor = c;
    on = is_led_to w.memory w.driver frames (Once c) linked st.idle;
    at = ap (λ (b : ℕ). 32 * b) block ∙ sym st.of.at;
    frame = st.frame;
    its_split = ap (λ (b : ℕ). (note_at d.periodic.notes b).split) block ∙ st.sort;
  }

  pub stored_is_linked : IsLinkedAs (structure_at split) w n
  stored_is_linked = linked_there split w k n member e st.of off

-- ---- as each microframe begins

abbrev HaveStoredDue : World → Type 0
HaveStoredDue w = (e n : ℕ) (v : Itd) → IsUncancelled w.driver e → IsStoredFor false w.driver e n (frame_in w.control.frame.index)
    → itd_at_address w.memory n ≡ Some v → (slot_of (microframe_of w.control.frame.index) v).active ≡ true → IsSlotDueAtBegin w n

pub texts_have_stored_slots_due : TextsHaveStoredSlotsDue
texts_have_stored_slots_due text s spelled k e n v =
    so_as_begun HaveStoredDue s (λ i a x off st read active. let none = st.here in absurd cc)
    (λ j i a x off st read active. record {
      linked = stored_is_linked false (moment s j).world (texts_stay_mixed text s spelled j) i a st off;
      itd = x;
      read = read;
      active = active;
    }) k e n v

abbrev HaveStoredSitdsDue : World → Type 0
HaveStoredSitdsDue w = (e n : ℕ) (v : Sitd) → IsUncancelled w.driver e → IsStoredFor true w.driver e n (frame_in w.control.frame.index)
    → sitd_at_address w.memory n ≡ Some v → sitd_turn (microframe_of w.control.frame.index) v ≡ Work → IsSitdDueAtBegin w n

pub texts_have_stored_sitds_due : TextsHaveStoredSitdsDue
texts_have_stored_sitds_due text s spelled k e n v =
    so_as_begun HaveStoredSitdsDue s (λ i a x off st read comes. let none = st.here in absurd cc)
    (λ j i a x off st read comes. record {
      linked = stored_is_linked true (moment s j).world (texts_stay_mixed text s spelled j) i a st off;
      sitd = x;
      read = read;
      comes = comes;
    }) k e n v
