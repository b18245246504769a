-- Drivers whose endpoints are those of the asynchronous schedule (EHCI 1.0, 4.8): high-speed bulk endpoints, IN or OUT, and high-speed control endpoints
-- (USB 2.0, 5.5 and 5.8).
--     StandsAsynchronous x     the endpoint is in the ring, or was cancelled; one that ended otherwise and one that was cancelled stay apart
--     OnlyAsynchronous d       each endpoint of the driver is one of them, and each transfer is one that its endpoint takes; nothing is in the frame list
--     IsOpenedAsynchronous, IsRequested     what an accepted command comes to: an endpoint more, a request
--     AcceptsAsynchronous d m o cmd         .. by the command; a get or a put is asked of a bulk endpoint
use Rattle.std.specs.Prelude.{◌≡◌, ◌≢◌, ℕ, true, false, List, [], ◌++◌, slice_get, Some, None}
use Rattle.usb_base.specs.declared.commands.Cmd.{Cmd}
use Rattle.usb_base.specs.declared.commands.Cmd.TheVariants as commands
use Rattle.usb_base.specs.declared.packets.Way.TheVariants as ways
use Rattle.word_mem.specs.Memory.{Mem}
use Rattle.drv_table.specs.declared.content.Endpoint.{Endpoint}
use Rattle.drv_table.specs.declared.content.Transfer.{Transfer}
use Rattle.drv_table.specs.declared.content.Sort.TheVariants as sorts
use Rattle.drv_table.specs.DriverContent.{DriverContent}
use Rattle.drv_table.specs.Words.{request_length, request_stages}
use Rattle.drv_table.specs.Releases.{ended_by_cancel}
use Rattle.drv_table.specs.Accepting.{Offered}
use Rattle.claims_driver.specs.Leaving.{leaver}
use Rattle.law_driver.specs.run_owners.Accepts.{Opens, Transfers, Cancels}
use Rattle.law_driver.specs.chained_transfers.Bulk.{MovesAs, IsBulkCommand, IsToUnlink}
use Rattle.law_driver.specs.chained_transfers.Accepted.{IsAsked}
use Rattle.law_driver.specs.AsynchronousScripts.{IsAsynchronous}

-- ---- drivers

-- one that was cancelled leaves the ring, and is then given back (EHCI 1.0, 4.8.2)
pub record StandsAsynchronous (x : Endpoint) : Type 0 where
  pub asynchronous : IsAsynchronous x.desc
  pub placement : x.placement ≡ None
  pub chained : x.chained ≡ false
  pub unlinked : x.linked ≡ false → x.cancelled ≡ true
  pub ended : x.cancelled ≡ true → x.ended ≢ None
  pub cancel : ended_by_cancel x.ended ≡ true → x.cancelled ≡ true
  pub gone : x.gone ≡ true → x.linked ≡ false

pub record OnlyAsynchronous (d : DriverContent) : Type 0 where
  pub endpoints : (e : ℕ) (x : Endpoint) → slice_get d.endpoints e ≡ Some x → StandsAsynchronous x
  pub moves : (t : ℕ) (y : Transfer) → slice_get d.transfers t ≡ Some y → MovesAs d y
  pub command : IsBulkCommand d.command
  pub leaver : (e : ℕ) (x : Endpoint) → leaver d.command ≡ Some e → slice_get d.endpoints e ≡ Some x → IsToUnlink x
  pub unlinks : d.periodic.unlinks ≡ []
  pub removals : d.periodic.removals ≡ []

-- ---- accepted commands

pub record IsOpenedAsynchronous (d : DriverContent) (m : Mem) (o : Offered) : Type 0 where
  pub opens : Opens d m o
  pub asynchronous : IsAsynchronous opens.desc

-- a request to a control endpoint (USB 2.0, 8.5.3): its setup bytes, and behind them those that it sends
pub record IsRequested (d : DriverContent) (m : Mem) (o : Offered) : Type 0 where
  pub setup : List ℕ
  pub bytes : List ℕ
  pub transfers : Transfers d m o
  pub way : transfers.endpoint.desc.name.way ≡ ways.Ctl
  pub asked : transfers.asked ≡ record { sort = sorts.Request; stages = request_stages setup; most = request_length setup; bytes = setup ++ bytes }

-- none of these endpoints takes isochronous data
abbrev pub AcceptsAsynchronous : DriverContent → Mem → Offered → Cmd → Type 0
AcceptsAsynchronous d m o (commands.OpenEp x) = IsOpenedAsynchronous d m o
AcceptsAsynchronous d m o (commands.Get name len by) = IsAsked d m o
AcceptsAsynchronous d m o (commands.Put name bytes by) = IsAsked d m o
AcceptsAsynchronous d m o (commands.Control name setup bytes) = IsRequested d m o
AcceptsAsynchronous d m o (commands.Iso name count len seed) = ⊥
AcceptsAsynchronous d m o (commands.Cancel name) = Cancels d m o
AcceptsAsynchronous d m o _ = ⊥
