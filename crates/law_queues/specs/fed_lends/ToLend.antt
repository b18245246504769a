-- The get, put or request that is to be lent next, as the driver's content tells it (EHCI 1.0, 3.5 and 4.10): its command is unfinished, and none of its events
-- is made.
--     AreStagesBy way ss     the stages are those of a get or a put, or of a control endpoint's request (USB 2.0, 8.5.3)
--     IsToBeLent d m b words the newest transfer is such a one, whose first qTD is to stand in block b with these words, and all else of it is written
--     lent_now d m           the content once it is lent
use Rattle.std.specs.Prelude.{◌≡◌, ℕ, suc, false, List, ◌∷◌, length, slice_get, Some, None}
use Rattle.std.specs.List.{AllByRecursion}
use Rattle.usb_base.specs.declared.packets.Way.{Way}
use Rattle.usb_base.specs.declared.packets.Way.TheVariants as ways
use Rattle.word_mem.specs.Memory.{Mem}
use Rattle.qh_qtd.specs.Qtd.{qtd_words}
use Rattle.drv_table.specs.declared.content.Endpoint.{Endpoint}
use Rattle.drv_table.specs.declared.content.Transfer.{Transfer}
use Rattle.drv_table.specs.declared.content.Stage.{Stage}
use Rattle.drv_table.specs.declared.content.Command.TheVariants as unfinished
use Rattle.drv_table.specs.DriverContent.{DriverContent}
use Rattle.drv_table.specs.Words.{request_stages}
use Rattle.drv_table.specs.Offers.{is_last}
use Rattle.claims_driver.specs.Owners.{runs_of_endpoint, runs_of_transfer}
use Rattle.law_driver_ring.specs.Written.{AwaitsLend}
use Rattle.law_driver_ring.specs.Pieces.{stage_qtd}
use Rattle.law_driver_ring.specs.TransferLaws.{lent_driver}
use Rattle.law_driver.specs.chained_transfers.Bulk.{sort_by, stage_by}

abbrev pub AreStagesBy : Way → List Stage → Type 0
AreStagesBy ways.In ss = AllByRecursion (λ s. s ≡ stage_by ways.In s.long) ss
AreStagesBy ways.Out ss = AllByRecursion (λ s. s ≡ stage_by ways.Out s.long) ss
AreStagesBy ways.Ctl ss = (setup : List ℕ) × (ss ≡ request_stages setup)

pub record IsToBeLent (d : DriverContent) (m : Mem) (b : ℕ) (words : List ℕ) : Type 0 where
  pub number : ℕ
  pub transfer : Transfer
  pub endpoint : Endpoint
  pub stage : Stage
  pub further : List Stage
  pub command : d.command ≡ Some (unfinished.Publish b words)
  pub made : d.made ≡ 0
  pub newest : suc number ≡ length d.transfers
  pub there : slice_get d.transfers number ≡ Some transfer
  pub here : slice_get d.endpoints transfer.endpoint ≡ Some endpoint
  pub going : endpoint.ended ≡ None
  pub first : transfer.first ≡ b
  pub place : transfer.place ≡ transfer.first
  pub left : transfer.left ≡ transfer.qtds
  pub fresh : transfer.reported ≡ false
  pub awaits : AwaitsLend d m number (runs_of_transfer transfer) (runs_of_endpoint endpoint) stage further
  pub stages : AreStagesBy endpoint.desc.name.way (stage ∷ further)
  pub sort : transfer.sort ≡ sort_by endpoint.desc.name.way
  pub are : words ≡ qtd_words (stage_qtd d.notes stage transfer.first endpoint.dummy (is_last further))

-- one event of the command is made
abbrev pub lent_now : DriverContent → Mem → DriverContent
lent_now d m = record (lent_driver d m) { made = 1 }
