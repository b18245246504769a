-- Between the lend and the store.
use Rattle.std.proofs.Common.{◌≡◌, ℕ, ◌*◌, Bool, false, List, Option, Some, option_map, ap, refl, ◌∙◌}
use Rattle.usb_base.specs.declared.packets.Ask.{Ask}
use Rattle.usb_base.specs.declared.packets.Reply.{Reply}
use Rattle.hc_core.specs.Controller.{Content, walk_place}
use Rattle.law_structures.specs.lent_structures.Structures.{Structure, QueueHead, Structures, StructureSets}
use Rattle.law_ring.specs.Hand.{Hand}
use Rattle.claims_base.specs.Controller.{Base}
use Rattle.law_controller.specs.controlled_streams.Control.{IsControlled, ControlEffect, a_microframe, a_step}
use Rattle.law_driver_ring.specs.Inventory.{OfQueueHead, sort_of}
use Rattle.law_driver_ring.specs.Linked.{head_at}
use Rattle.law_driver_ring.proofs.Beside.{stranger_stays}
use Rattle.law_queues.specs.open_laws.Lends.{OpenLentStays, HasHeadQueue, HeadIsThere}

unmet_stays : {W : Type 0} (begins : W → ℕ → Bool → W → Type 0) (transacts : W → Ask → List ℕ → Reply → W → Type 0) (base : Base) (member : ℕ → Bool) (parts : StructureSets) (hand : Hand) (c : Content) (wire after : W) (now : StructureSets) (later : Hand) (n : ℕ) → IsControlled base member parts hand c → ControlEffect begins transacts parts hand wire after now later → member n ≡ false → now n ≡ parts n
unmet_stays begins transacts base member parts hand c wire after now later n k (a_microframe b) off = ap (λ (ps : StructureSets). ps n) b.parts_stay
unmet_stays begins transacts base member parts hand c wire after now later n k (a_step w) off = stranger_stays transacts base member parts hand (walk_place c) wire after now later w.kind n k.ring w.effect off

pub open_lent_stays : {W : Type 0} (begins : W → ℕ → Bool → W → Type 0) (transacts : W → Ask → List ℕ → Reply → W → Type 0) → OpenLentStays begins transacts
open_lent_stays begins transacts base member parts hand c wire after now later d controlled effect k = record {
  number = k.number;
  endpoint = k.endpoint;
  here = k.here;
  command = k.command;
  made = k.made;
  fresh = k.fresh;
  unmet = k.unmet;
  none = k.none;
  link = k.link;
  part = λ b. ap (λ (part : Structures). part b) (unmet_stays begins transacts base member parts hand c wire after now later (32 * k.endpoint.queue) controlled effect k.unmet) ∙ k.part b;
}

head_of : (parts : StructureSets) (o : Option Structure) → parts head_at head_at ≡ o → option_map sort_of o ≡ Some OfQueueHead → HasHeadQueue parts
head_of parts (Some (QueueHead q)) at is = record { queue = q; here = at }
head_of parts _ at is = absurd cc

pub head_is_there : HeadIsThere
head_is_there v parts k = head_of parts (parts head_at head_at) refl k.head
