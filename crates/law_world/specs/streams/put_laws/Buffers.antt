-- What is still to be sent of an OUT endpoint stands in the buffers of the qTDs that are out, which aren't harvested yet (EHCI 1.0, 3.5.4 and 4.10).
--     IsPublishingTo d e b       the driver publishes a transfer of endpoint e, whose first qTD stands in block b
--     BuffersAreRest             while it publishes none, the buffers of those that are out hold what is still to be sent
--     BuffersBeforeLend          before the transfer is lent they do, and its own behind them
--     IsRestAround d m parts e n b
--                                once it is lent the qTDs of the others stand before its first one, and its further ones behind that
--     BuffersAround              so it is until its first qTD is stored
use Rattle.std.specs.Prelude.{◌≡◌, ℕ, suc, ◌*◌, ◌≤◌, false, List, ◌∷◌, ◌++◌, length, slice_get, Some, None}
use Rattle.word_mem.specs.Memory.{Mem}
use Rattle.drv_table.specs.declared.content.Command.TheVariants as unfinished
use Rattle.drv_table.specs.declared.content.Endpoint.{Endpoint}
use Rattle.drv_table.specs.declared.content.Transfer.{Transfer}
use Rattle.drv_table.specs.DriverContent.{DriverContent}
use Rattle.drv_table.specs.Harvests.{note_at, buffer_bytes}
use Rattle.claims_driver.specs.Scripts.{receives}
use Rattle.law_driver.specs.chained_transfers.AsynchronousTurns.{AsynchronousTakesTurns}
use Rattle.law_driver.specs.chained_transfers.Out.{out_now, out_all}
use Rattle.law_structures.specs.lent_structures.Structures.{StructureSets, Tells}
use Rattle.law_queues.specs.whole_sends.Whole.{buffers_of}
use Rattle.law_driver_ring.specs.fed_queues.Fed.{AreFed}
use Rattle.law_world.specs.streams.put_laws.Held.{held_bytes}
use Rattle.law_world.specs.streams.put_laws.Owed.{rest_of, AreReadToEnd}
use Rattle.law_driver.specs.endpoint_lives.Lives.{told_end}

pub record IsPublishingTo (d : DriverContent) (e b : ℕ) : Type 0 where
  pub words : List ℕ
  pub command : d.command ≡ Some (unfinished.Publish b words)
  pub number : ℕ
  pub transfer : Transfer
  pub newest : suc number ≡ length d.transfers
  pub there : slice_get d.transfers number ≡ Some transfer
  pub its_endpoint : transfer.endpoint ≡ e

-- of an OUT endpoint that goes on
abbrev pub BuffersAreRest : Type 0
BuffersAreRest = (d : DriverContent) (m : Mem) (parts : StructureSets) (e : ℕ) (x : Endpoint) → AsynchronousTakesTurns d → Tells m parts → AreFed d parts → AreReadToEnd d
    → slice_get d.endpoints e ≡ Some x → receives x.desc.name.way ≡ false → told_end x ≡ None → ((b : ℕ) → IsPublishingTo d e b → ⊥)
    → rest_of d m e ≡ buffers_of (parts (32 * x.queue)) (out_now d e)

abbrev pub BuffersBeforeLend : Type 0
BuffersBeforeLend = (d : DriverContent) (m : Mem) (parts : StructureSets) (e b : ℕ) (x : Endpoint) → AsynchronousTakesTurns d → Tells m parts → AreFed d parts → AreReadToEnd d
    → slice_get d.endpoints e ≡ Some x → receives x.desc.name.way ≡ false → told_end x ≡ None → (k : IsPublishingTo d e b) → d.made ≡ 0
    → rest_of d m e ≡ buffers_of (parts (32 * x.queue)) (out_now d e) ++ held_bytes m d.notes b k.transfer.qtds

pub record IsRestAround (d : DriverContent) (m : Mem) (parts : StructureSets) (e n b : ℕ) : Type 0 where
  pub ahead : List ℕ
  pub behind : List ℕ
  pub out_are : out_now d e ≡ ahead ++ behind
  pub all_are : out_all d e ≡ ahead ++ 32 * b ∷ behind
  pub rest_is : rest_of d m e ≡ buffers_of (parts n) ahead ++ (buffer_bytes m (note_at d.notes b) (note_at d.notes b).told ++ buffers_of (parts n) behind)

abbrev pub BuffersAround : Type 0
BuffersAround = (d : DriverContent) (m : Mem) (parts : StructureSets) (e b : ℕ) (x : Endpoint) → AsynchronousTakesTurns d → Tells m parts → AreFed d parts → AreReadToEnd d
    → slice_get d.endpoints e ≡ Some x → receives x.desc.name.way ≡ false → told_end x ≡ None → IsPublishingTo d e b → 1 ≤ d.made → IsRestAround d m parts e (32 * x.queue) b
