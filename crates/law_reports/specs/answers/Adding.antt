-- An accepted command adds what it asks for.
--     CommandsAddWhatTheyAsk  so it does, whatever the driver has, where its runs of blocks have their owners
--     AGetAddsItsBytes        a get of 512 bytes in one qTD adds a transfer of as many
--     NoBytesAddedIsWrong     one of which no byte may be told doesn't do
--     NothingAddedIsWrong     .. nor does a driver that stays as it was
use Rattle.std.specs.Prelude.{◌≡◌, ℕ, [], ◌∷◌, ◌++◌, Ok}
use Rattle.usb_base.specs.declared.commands.Cmd.{Cmd}
use Rattle.usb_base.specs.declared.commands.Cmd.TheVariants as commands
use Rattle.word_mem.specs.Memory.{Mem}
use Rattle.mem_runs.specs.Book.{holding, Stands}
use Rattle.drv_table.specs.declared.content.Reserve.{Reserve}
use Rattle.drv_table.specs.Accepting.{Offered}
use Rattle.drv_table.specs.DriverContent.{DriverContent, no_note}
use Rattle.drv_table.specs.Offers.{offered}
use Rattle.script_fits.specs.Fits.{IsFitCommand}
use Rattle.claims_driver.specs.Leaving.{HasOwners}
use Rattle.claims_answers.specs.Adding.{IsAdded}
use Rattle.law_footprints.specs.Worked.{a_get, working, idle}

abbrev pub CommandsAddWhatTheyAsk : Type 0
CommandsAddWhatTheyAsk = (d : DriverContent) (m : Mem) (cmd : Cmd) (o : Offered) → HasOwners d → Stands (holding d.book m)
    → IsFitCommand cmd → offered d m cmd ≡ Ok o → IsAdded d cmd o.driver

-- ---- worked rows

abbrev pub another_get : Cmd
another_get = commands.Get working.desc.name 512 512

-- the qTD in block 0 has so many bytes, and the transfer may move so many
abbrev pub added_with : Reserve → ℕ → ℕ → DriverContent
added_with room told most = record (idle room) {
  transfers = (idle room).transfers ++ record a_get { first = 0; place = 0; most = most } ∷ [];
  notes = record no_note { told = told } ∷ [];
}

abbrev pub AGetAddsItsBytes : Type 0
AGetAddsItsBytes = (room : Reserve) → IsAdded (idle room) another_get (added_with room 512 512)

abbrev pub NoBytesAddedIsWrong : Type 0
NoBytesAddedIsWrong = (room : Reserve) (most : ℕ) → IsAdded (idle room) another_get (added_with room 0 most) → ⊥

abbrev pub NothingAddedIsWrong : Type 0
NothingAddedIsWrong = (room : Reserve) → IsAdded (idle room) another_get (idle room) → ⊥
