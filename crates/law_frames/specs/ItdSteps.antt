-- A transaction of the iTD that the walk of the frames has in hand (EHCI 1.0, 4.7.1).
--     AreBytes bs              these are bytes
--     HeardKeepsCopy           what one of its transactions heard leaves a copy that goes on telling what stands in memory, with the bytes received
use Rattle.std.specs.Prelude.{◌≡◌, ℕ, ◌<◌, true, List, slice_index, Option, None}
use Rattle.usb_base.specs.declared.packets.Reply.{Reply}
use Rattle.hc_iso.specs.Itd.{itd_after}
use Rattle.hc_iso.specs.WriteBack.{bytes_of}
use Rattle.periodic_walk.specs.Itd.{got_after}
use Rattle.law_structures.specs.lent_structures.Structures.{StructureSets}
use Rattle.law_frames.specs.Met.{Kind}
use Rattle.law_frames.specs.FrameHand.{ItdCopy}
use Rattle.law_frames.specs.Frame.{IsCopiedItd}

abbrev pub AreBytes : List ℕ → Type 0
AreBytes bs = (i : ℕ) → slice_index bs i < 256

-- its microframe is active, and wasn't ended
abbrev pub HeardKeepsCopy : Type 0
HeardKeepsCopy = (met : ℕ → Option Kind) (parts : StructureSets) (got : List ℕ) (reply : Reply) (c : ItdCopy) → IsCopiedItd met parts got c
    → c.held.ended ≡ None → c.held.slot.active ≡ true → AreBytes (bytes_of reply)
    → IsCopiedItd met parts (got_after c.held reply got) (record c { held = itd_after reply c.held })
