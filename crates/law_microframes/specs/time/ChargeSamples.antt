-- Placed endpoints of worked rows, in hand in a microframe.
--     interrupt_in            a high-speed interrupt IN endpoint with packets of 64 bytes, up to three a microframe, in the microframes 0 and 4 of each frame
--     iso_in                  a high-speed isochronous IN endpoint with packets of 1,024 bytes, three a microframe, in microframe 2 of each frame
--     head_at u made o        the queue head of the one in hand in microframe u, with so many transactions made, of which the last came to this
--     itd_at u                a descriptor of the other, just fetched in microframe u
--     at_link l m u           with nothing in hand the cursor leads on by this link, over this memory, in microframe u
--     head_fetch u            the queue head stands at the cursor
--     itd_fetch u             the descriptor does
use Rattle.std.specs.Prelude.{ℕ, true, [], Option, None}
use Rattle.usb_base.specs.declared.packets.Dir.TheVariants as directions
use Rattle.usb_base.specs.declared.packets.EpKind.TheVariants as kinds
use Rattle.usb_base.specs.declared.packets.Speed.TheVariants.{High}
use Rattle.toggle_error.specs.declared.host.Outcome.{Outcome}
use Rattle.hc_interrupt.specs.Samples.{high_in}
use Rattle.hc_iso.specs.Itd.{fetched_itd}
use Rattle.hc_iso.specs.Samples.{itd}
use Rattle.bandwidth.specs.declared.placements.Placed.{Placed}
use Rattle.periodic_walk.specs.declared.state.Hand.TheVariants.{Queue, Itd}
use Rattle.periodic_walk.specs.Place.{FramePlace}
use Rattle.usb_base.specs.declared.packets.Reply.TheVariants.{Silent}
use Rattle.word_mem.specs.Memory.{Mem}
use Rattle.word_mem.specs.declared.blocks.BlockState.TheVariants.{Lent}
use Rattle.link_words.specs.declared.kinds.Link.{Link}
use Rattle.link_words.specs.declared.kinds.Link.TheVariants as links
use Rattle.op_registers.specs.RegisterFile.{reset_file}
use Rattle.qh_qtd.specs.QueueHead.{qh_words}
use Rattle.itd_sitd.specs.Itd.{itd_words}
use Rattle.mem_queues.specs.Samples.{head_memory}
use Rattle.mem_descriptors.specs.Samples.{itd_memory}
use Rattle.periodic_walk.specs.Samples.{at_hand, queue}

abbrev pub interrupt_in : Placed
interrupt_in = record {
  want = record { id = 1; speed = High; kind = kinds.Interrupt; dir = directions.In; max = 64; multi = 3; period = 4; hub = None; tt = 0 };
  placement = record { period = 4; phase = 0; smask = 0x11; cmask = 0 };
}

abbrev pub iso_in : Placed
iso_in = record {
  want = record { id = 2; speed = High; kind = kinds.Iso; dir = directions.In; max = 1024; multi = 3; period = 8; hub = None; tt = 0 };
  placement = record { period = 8; phase = 0; smask = 0x04; cmask = 0 };
}

abbrev pub head_at : ℕ → ℕ → Option Outcome → FramePlace
head_at u made o = at_hand (Queue (queue high_in made o)) u 125000000

abbrev pub itd_at : ℕ → FramePlace
itd_at u = at_hand (Itd (fetched_itd 0x1000 u (itd true 3072))) u 125000000

abbrev pub at_link : Link → Mem → ℕ → FramePlace
at_link l m u = record {
  walk = record { cursor = l; index = u; hand = None; reply = Silent; got = []; left = 125000000 };
  registers = reset_file;
  memory = m;
}

abbrev pub head_fetch : ℕ → FramePlace
head_fetch u = at_link (links.Qh 32) (head_memory (qh_words high_in) Lent Lent) u

abbrev pub itd_fetch : ℕ → FramePlace
itd_fetch u = at_link (links.Itd 32) (itd_memory (itd_words (itd true 3072)) Lent Lent) u
