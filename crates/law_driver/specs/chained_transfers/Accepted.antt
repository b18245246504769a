-- What a command of a script of bulk endpoints becomes where it is accepted (EHCI 1.0, 4.8 and 4.10): an endpoint more, or a get or put of an endpoint.
--     move_of way most by bytes      what a get of so many bytes asks for, or a put of these bytes, in qTDs of `by` bytes
--     IsOpened, IsAsked              the one and the other
use Rattle.std.specs.Prelude.{◌≡◌, ℕ, ◌⊎◌, List, length, map}
use Rattle.usb_base.specs.declared.packets.Way.{Way}
use Rattle.usb_base.specs.declared.packets.Way.TheVariants as ways
use Rattle.word_mem.specs.Memory.{Mem}
use Rattle.drv_table.specs.DriverContent.{DriverContent}
use Rattle.drv_table.specs.Words.{cut}
use Rattle.drv_table.specs.Accepting.{Offered}
use Rattle.drv_table.specs.Offers.{Asked}
use Rattle.law_driver.specs.run_owners.Accepts.{Opens, Transfers}
use Rattle.law_driver.specs.chained_transfers.Bulk.{IsDataWay, IsBulk, sort_by, stage_by}

abbrev pub move_of : Way → ℕ → ℕ → List ℕ → Asked
move_of way most by bytes = record { sort = sort_by way; stages = map (stage_by way) (cut most by); most = most; bytes = bytes }

pub record IsOpened (d : DriverContent) (m : Mem) (o : Offered) : Type 0 where
  pub opens : Opens d m o
  pub bulk : IsBulk opens.desc

pub record IsAsked (d : DriverContent) (m : Mem) (o : Offered) : Type 0 where
  pub most : ℕ
  pub by : ℕ
  pub bytes : List ℕ
  pub transfers : Transfers d m o
  pub way : IsDataWay transfers.endpoint.desc.name.way
  pub asked : transfers.asked ≡ move_of transfers.endpoint.desc.name.way most by bytes
  -- all bytes of a put are to be moved
  pub whole : transfers.endpoint.desc.name.way ≡ ways.Out → length bytes ≡ most

abbrev pub IsAccepted : DriverContent → Mem → Offered → Type 0
IsAccepted d m o = IsOpened d m o ⊎ IsAsked d m o
