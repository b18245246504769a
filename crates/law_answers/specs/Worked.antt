-- Worked rows of refusals: a driver that was just built, over three blocks of memory, is to open a bulk endpoint.
--     OpensWithRoom           with three Free blocks in a row there is no cause against it
--     NoBlocksIsWrong         .. so a driver that says that no blocks are Free breaks the definition
--     LacksARun               where the second block is taken, no run of two is there, and the longest has one
--     GetIsNoEndpoint         a get of it has no endpoint before
--     BusyComesFirst          .. and where a command is unfinished, that is the cause, and no other
use Rattle.std.specs.Prelude.{◌≡◌, ℕ, List, [], ◌∷◌, Some, None}
use Rattle.usb_base.specs.declared.commands.Cmd.{Cmd}
use Rattle.usb_base.specs.declared.commands.Cmd.TheVariants as commands
use Rattle.usb_base.specs.declared.endpoints.EpDesc.{EpDesc}
use Rattle.usb_base.specs.declared.packets.EpKind.TheVariants.{Bulk}
use Rattle.usb_base.specs.declared.packets.Speed.TheVariants.{High}
use Rattle.usb_base.specs.declared.packets.Way.TheVariants.{In}
use Rattle.usb_base.specs.declared.reports.OfferError.{OfferError}
use Rattle.usb_base.specs.declared.reports.OfferError.TheVariants as errors
use Rattle.word_mem.specs.declared.blocks.BlockState.{BlockState}
use Rattle.word_mem.specs.declared.blocks.BlockState.TheVariants.{Free, Kept}
use Rattle.word_mem.specs.Memory.{Mem}
use Rattle.drv_table.specs.declared.content.Command.TheVariants as unfinished
use Rattle.drv_table.specs.declared.content.Reserve.{Reserve}
use Rattle.drv_table.specs.DriverContent.{DriverContent, new_driver}
use Rattle.claims_answers.specs.Refusals.{IsFirstCause, HasNoCause}

abbrev pub stick : EpDesc
stick = record {
  name = record { addr = 5; num = 1; way = In };
  speed = High;
  kind = Bulk;
  max = 512;
  period = 1;
  multi = 1;
  hub = None;
  port = 0;
  tt = 0;
}

abbrev pub new : Reserve → DriverContent
new room = new_driver (record { slots = []; taken = [] }) 3 room

-- a command is unfinished
abbrev pub opening_another : Reserve → DriverContent
opening_another room = record (new room) { command = Some (unfinished.Open 130) }

abbrev pub blocks : List BlockState → Mem
blocks states = record { words = []; states = states; foreign = 0 }

abbrev pub roomy : Mem
roomy = blocks (Free ∷ Free ∷ Free ∷ [])

abbrev pub cut_up : Mem
cut_up = blocks (Free ∷ Kept ∷ Free ∷ [])

abbrev pub a_get : Cmd
a_get = commands.Get stick.name 512 512

abbrev pub OpensWithRoom : Type 0
OpensWithRoom = (room : Reserve) → HasNoCause (new room) roomy (commands.OpenEp stick)

abbrev pub NoBlocksIsWrong : Type 0
NoBlocksIsWrong =
    (room : Reserve) (need largest : ℕ) → IsFirstCause (new room) roomy (commands.OpenEp stick) (errors.NoBlocks need largest) → ⊥

abbrev pub LacksARun : Type 0
LacksARun = (room : Reserve) → IsFirstCause (new room) cut_up (commands.OpenEp stick) (errors.NoBlocks 2 1)

abbrev pub GetIsNoEndpoint : Type 0
GetIsNoEndpoint = (room : Reserve) → IsFirstCause (new room) roomy a_get errors.NoEndpoint

abbrev pub BusyComesFirst : Type 0
BusyComesFirst = (room : Reserve) (why : OfferError) → IsFirstCause (opening_another room) roomy a_get why → why ≡ errors.Busy
