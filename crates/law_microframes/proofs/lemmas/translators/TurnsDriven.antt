-- Each event of the driver goes on with what is told of the isochronous OUTs below hubs: of the words of a siTD that it has after the event
-- only the link was stored, and a frame that it had stays (EHCI 1.0, 3.4, 4.6 and 4.12.3).
use Rattle.std.proofs.Common.{◌≡◌, ◌⊎◌, ℕ, ◌*◌, ◌<◌, ◌≤◌, List, length, slice_get, Some, refl, ap, sym, subst, ◌∙◌, ⊎_elim, inl, inr}
use Rattle.std.proofs.lemmas.Bool.{cases_lt}
use Rattle.usb_base.specs.declared.endpoints.EpDesc.{EpDesc}
use Rattle.hub_keys.specs.declared.key.Key.{Key}
use Rattle.drv_periodic_table.specs.Descriptors.{sitd_in}
use Rattle.drv_periodic_table.specs.Periodic.{note_at}
use Rattle.drv_table.specs.declared.content.Endpoint.{Endpoint}
use Rattle.drv_table.specs.DriverContent.{DriverContent}
use Rattle.drv_table.specs.Rows.{driver_row}
use Rattle.tt_pipeline.specs.declared.entry.Entry.{Entry}
use Rattle.hc_core.specs.Controller.{Control}
use Rattle.bus_wire.specs.Bus.{Bus}
use Rattle.claims_driver.specs.DueMembers.{framed_to}
use Rattle.bus_world.specs.World.{World, driver_parts, driver_next}
use Rattle.claims_world.specs.Visits.{frame_in}
use Rattle.law_world.specs.memory.Mixed.{IsMixedWorld}
use Rattle.law_microframes.specs.time.SitdFields.{SplitTransfer, SitdsStand}
use Rattle.law_microframes.specs.visits.OneDescriptor.{IsActiveDescriptor}
use Rattle.law_microframes.specs.translators.Keeping.{key_for}
use Rattle.law_microframes.specs.translators.Parts.{EachOf, Lacks, IsEven, key_asked}
use Rattle.law_microframes.specs.translators.Turns.{pipeline_for, EntriesAre, IsInHand, IsUnasked, IsInFrame, IsOfKey, BroughtPart, IsReadFor, DriverKeepsOuts}
use Rattle.law_microframes.proofs.lemmas.visits.BelongSeen.{Seen, seen_in, IsSeenIn, seen_there, row_seen}
use Rattle.law_microframes.proofs.lemmas.time.PaymentIsochronous.{driver_index}
use Rattle.law_microframes.proofs.lemmas.time.SitdDriven.{follows, before, was_first, was_number, was_word}
use Rattle.law_microframes.proofs.lemmas.translators.Turns.{words_stay}
use Rattle.law_microframes.proofs.lemmas.translators.TurnsNew.{none_sent, unframed_is_new}

module _ (w : World) (mixed : IsMixedWorld w) (old : SitdsStand w.driver w.memory w.control) (j : SplitTransfer (driver_next w).driver) where
  abbrev was : SplitTransfer w.driver
  was = before w mixed old j

  -- it had this frame, if it had one
  frame_was : IsInFrame (driver_next w) j → j.number < framed_to w.driver.command w.driver.made (length w.driver.transfers)
      → IsInFrame w was
  frame_was now low =
      ap (λ (b : ℕ). (note_at w.driver.periodic.notes b).frame) (was_first w mixed old j)
      ∙ sym ((follows w mixed old j).kept j.number j.transfer j.there j.sort j.held low) ∙ now
      ∙ ap frame_in (driver_index w)

  stored : (P : Entry → Type 0) → EntriesAre P w.bus.hubs (sitd_in w.memory was.transfer.first)
      → EntriesAre P w.bus.hubs (sitd_in (driver_next w).memory j.transfer.first)
  stored P k =
      subst (λ (b : ℕ). EntriesAre P w.bus.hubs (sitd_in (driver_next w).memory b)) (was_first w mixed old j)
      (words_stay P w.bus.hubs w.memory (driver_next w).memory was.transfer.first (was_word w mixed old j) k)

  goes_on : (P : Entry → Type 0) → IsInFrame (driver_next w) j
      → (IsInFrame w was → EntriesAre P w.bus.hubs (sitd_in w.memory was.transfer.first))
      → EntriesAre P w.bus.hubs (sitd_in (driver_next w).memory j.transfer.first)
  goes_on P now k =
      ⊎_elim {C = EntriesAre P w.bus.hubs (sitd_in (driver_next w).memory j.transfer.first)}
      (λ (low : j.number < framed_to w.driver.command w.driver.made (length w.driver.transfers)). stored P (k (frame_was now low)))
      (λ (high : framed_to w.driver.command w.driver.made (length w.driver.transfers) ≤ j.number).
      stored P (none_sent P w.bus.hubs (sitd_in w.memory was.transfer.first) (unframed_is_new w mixed was
      (subst (λ (n : ℕ). framed_to w.driver.command w.driver.made (length w.driver.transfers) ≤ n) (sym (was_number w mixed old j)) high))))
      (cases_lt j.number (framed_to w.driver.command w.driver.made (length w.driver.transfers)))

-- an endpoint is as it was seen
of_key : (start : World) (d later : DriverContent) (f g n : ℕ) (k : Key) → f ≡ g
    → ((e : ℕ) (x : Endpoint) → slice_get d.endpoints e ≡ Some x → seen_in later.endpoints e ≡ seen_in d.endpoints e)
    → IsOfKey start d f n k → IsOfKey start later g n k
of_key start d later f g n k frame seen o =
    let there : IsSeenIn later.endpoints o.number o.endpoint =
    seen_there d.endpoints later.endpoints o.number o.endpoint (seen o.number o.endpoint o.here) o.here in
    let desc : there.endpoint.desc ≡ o.endpoint.desc = ap (λ (z : Seen). z.desc) there.same in
    record {
      number = o.number;
      endpoint = there.endpoint;
      here = there.here;
      way = ap (λ (z : EpDesc). z.name.way) desc ∙ o.way;
      key = ap key_for desc ∙ o.key;
      was = subst (λ (h : ℕ). IsActiveDescriptor start.driver start.memory o.number h n) frame o.was;
    }

-- what came, and what was read, is told of worlds with the same hubs and the same hand
pub came_then : (start w new : World) (vs : List ℕ) → new.control ≡ w.control → new.bus ≡ w.bus
    → new.registers.frame_index ≡ w.registers.frame_index
    → ((e : ℕ) (x : Endpoint) → slice_get w.driver.endpoints e ≡ Some x → seen_in new.driver.endpoints e ≡ seen_in w.driver.endpoints e)
    → (k : Key) (hub port : ℕ) → EachOf IsEven k (pipeline_for w.bus.hubs hub port) ⊎ BroughtPart start w vs k
    → EachOf IsEven k (pipeline_for new.bus.hubs hub port) ⊎ BroughtPart start new vs k
came_then start w new vs control bus index seen k hub port was =
    ⊎_elim {C = EachOf IsEven k (pipeline_for new.bus.hubs hub port) ⊎ BroughtPart start new vs k}
    (λ (even : EachOf IsEven k (pipeline_for w.bus.hubs hub port)).
    inl (subst (λ (b : Bus). EachOf IsEven k (pipeline_for b.hubs hub port)) (sym bus) even))
    (λ (m : BroughtPart start w vs k).
    inr (record {
      at = m.at;
      of = of_key start w.driver new.driver _ _ m.at k (ap frame_in (sym index)) seen m.of;
      seen = m.seen;
      asked = λ u. m.asked (subst (λ (c : Control). IsUnasked c m.at) control u);
    })) was

pub read_then : (start w new : World) (vs : List ℕ) → new.control ≡ w.control → new.registers.frame_index ≡ w.registers.frame_index
    → ((e : ℕ) (x : Endpoint) → slice_get w.driver.endpoints e ≡ Some x → seen_in new.driver.endpoints e ≡ seen_in w.driver.endpoints e)
    → IsReadFor start w vs w.control → IsReadFor start new vs new.control
read_then start w new vs control index seen k =
    subst (IsReadFor start new vs) (sym control)
    (λ n u on way.
    let was = k n u on way in
    (of_key start w.driver new.driver _ _ n (key_asked u.hand.copy.sitd) (ap frame_in (sym index)) seen was.0, was.1))

driver_seen : (w : World) (e : ℕ) (x : Endpoint) → slice_get w.driver.endpoints e ≡ Some x
    → seen_in (driver_next w).driver.endpoints e ≡ seen_in w.driver.endpoints e
driver_seen w e x here = row_seen e (driver_row (driver_parts w)) (driver_parts w)

pub driver_keeps_outs : DriverKeepsOuts
driver_keeps_outs start w vs mixed old k = record {
  there = λ j now not.
      goes_on w mixed old j Lacks now (λ was. k.there (before w mixed old j) was
      (λ hand. not (subst (λ (b : ℕ). IsInHand w.control (32 * b)) (was_first w mixed old j) hand)));
  held = λ h on is. k.held h on is;
  came = λ j hub port kind dir.
      came_then start w (driver_next w) vs refl refl (driver_index w) (driver_seen w) j hub port (k.came j hub port kind dir);
  read = read_then start w (driver_next w) vs refl (driver_index w) (driver_seen w) k.read;
}
