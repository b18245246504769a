-- Places of worked rows; memory is empty in each.
--     at_hand hand index left   this copy is in hand in the microframe of FRINDEX, with this time left
--     queue q made settled      the copy of a queue head, after so many transactions of its visit
--     failed                    the copy of a queue head whose complete-split was met with silence
--     held_sitd w settled       the copy of an IN siTD of 200 bytes, in Do-Complete where w is true
use Rattle.std.specs.Prelude.{ℕ, [], Bool, true, Some, Option}
use Rattle.usb_base.specs.declared.packets.Reply.TheVariants.{Silent}
use Rattle.link_words.specs.declared.kinds.Link.TheVariants as links
use Rattle.op_registers.specs.RegisterFile.{reset_file}
use Rattle.qh_qtd.specs.declared.queue_head.Qh.{Qh}
use Rattle.toggle_error.specs.declared.host.Outcome.{Outcome}
use Rattle.toggle_error.specs.declared.host.Outcome.TheVariants.{Error}
use Rattle.word_mem.specs.Memory.{Mem}
use Rattle.hc_interrupt.specs.Samples.{split_in}
use Rattle.hc_iso.specs.declared.held.HeldSitd.{HeldSitd}
use Rattle.hc_iso.specs.declared.held.SplitOutcome.{SplitOutcome}
use Rattle.hc_iso.specs.Samples.{split_in as sitd_in}
use Rattle.periodic_walk.specs.declared.state.HeldQueue.{HeldQueue}
use Rattle.periodic_walk.specs.declared.state.Hand.{Hand}
use Rattle.periodic_walk.specs.Place.{FramePlace}

abbrev pub no_memory : Mem
no_memory = record { words = []; states = []; foreign = 0 }

abbrev pub at_hand : Hand → ℕ → ℕ → FramePlace
at_hand hand index left = record {
  walk = record { cursor = links.Qh 0x2000; index = index; hand = Some hand; reply = Silent; got = []; left = left };
  registers = reset_file;
  memory = no_memory;
}

abbrev pub queue : Qh → ℕ → Option Outcome → HeldQueue
queue q made settled = record { copy = record { at = 0x2000; queue_head = q; settled = settled }; made = made }

abbrev pub failed : HeldQueue
failed = queue (split_in true 4) 1 (Some Error)

abbrev pub held_sitd : Bool → Option SplitOutcome → HeldSitd
held_sitd w settled = record { at = 0x2000; sitd = sitd_in w 200; settled = settled }
