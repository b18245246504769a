-- A hub keeps its address and its translators at each event of the controller.
use Rattle.std.proofs.Common.{ℕ, Bool, List, ap, sym, subst, ◌∙◌}
use Rattle.usb_base.specs.declared.packets.Ask.{Ask}
use Rattle.bus_wire.specs.Bus.{Wired, floor_of, asked_of}
use Rattle.hub_class.specs.HubContent.{HubContent}
use Rattle.multi_tt.specs.Translators.{place_of}
use Rattle.transactions.specs.Calls.{Call}
use Rattle.hc_copy.specs.Planning.{transaction_of}
use Rattle.hc_copy.specs.Transacting.{call_in}
use Rattle.law_structures.specs.lent_structures.Structures.{StructureSets}
use Rattle.law_ring.specs.Hand.{Hand}
use Rattle.law_ring.specs.Streams.StreamEffect.{same, aside, grows}
use Rattle.law_controller.specs.frame_control.Joined.{BothStreamEffect, begun, moved}
use Rattle.law_below_hubs.specs.Splits.{IsAtHub}
use Rattle.law_world.specs.steps.Streaming.{begins_by, transacts_by}
use Rattle.law_microframes.proofs.lemmas.due.lemmas.repeats.Alike.{AreAlike, worked_alike, asks_alike_at, at_alike, found_alike}

keeps_hub : (hs ks : List HubContent) (hub port i place : ℕ) → AreAlike hs ks → IsAtHub hs hub port i place → IsAtHub ks hub port i place
keeps_hub hs ks hub port i place all at =
    let k = at_alike hs ks i at.content all at.there in
    record {
      found = found_alike hub hs ks all ∙ at.found;
      content = k.0;
      there = k.1;
      place_is = ap (λ (m : Bool). place_of m port) k.2.multi ∙ at.place_is;
    }

pub event_keeps_hub : {Beside : Ask → Type 0} (parts : StructureSets) (hand : Hand) (wire after : Wired) (now : StructureSets)
    (later : Hand) (hub port i place : ℕ) → BothStreamEffect begins_by Beside transacts_by parts hand wire after now later
    → IsAtHub wire.bus.hubs hub port i place → IsAtHub after.bus.hubs hub port i place
event_keeps_hub parts hand wire after now later hub port i place (begun index allowed begins told) at =
    subst (λ (v : Wired). IsAtHub v.bus.hubs hub port i place) (sym begins.1)
    (keeps_hub wire.bus.hubs _ hub port i place (worked_alike wire.fixed index wire.bus.hubs (floor_of wire.bus)) at)
event_keeps_hub parts hand wire after now later hub port i place (moved (same told quiet)) at =
    subst (λ (v : Wired). IsAtHub v.bus.hubs hub port i place) (sym quiet) at
event_keeps_hub parts hand wire after now later hub port i place (moved (aside told ask out reply is made)) at =
    subst (λ (v : Wired). IsAtHub v.bus.hubs hub port i place) (sym made.1)
    (keeps_hub wire.bus.hubs _ hub port i place (asks_alike_at wire.fixed wire.bus ask out (asked_of wire.fixed wire.bus ask)) at)
event_keeps_hub parts hand wire after now later hub port i place (moved (grows m all g)) at =
    let call : Call = call_in (transaction_of m.kind m.copy.queue) m.out m.last in
    subst (λ (v : Wired). IsAtHub v.bus.hubs hub port i place) (sym m.made.1)
    (keeps_hub wire.bus.hubs _ hub port i place
    (asks_alike_at wire.fixed wire.bus call.ask call.out (asked_of wire.fixed wire.bus call.ask)) at)
