-- Drivers whose endpoints are all high-speed bulk ones, IN or OUT (EHCI 1.0, 4.10; USB 2.0, 5.8).
--     IsBulk x                 the endpoint is one
--     OpensBulk cmd            the command opens such an endpoint, if any, and is no cancel; other commands may be refused
--     OpensOrCancelsBulk cmd   .. or it is a cancel
--     BulkOnly s               each command of the script opens a high-speed bulk endpoint, if any; others, cancels too, may be accepted or refused
--     sort_by way, pid_by way  the transfers of an endpoint of this way, and the packets that the first qTD of one asks for
--     stage_by way n           a qTD of n bytes of a get or a put
--     IsStanding x             the endpoint is in the ring, or was cancelled; one that ended otherwise and one that was cancelled stay apart
--     IsBulkCommand command    the unfinished command opens an endpoint, publishes a transfer or unlinks an endpoint
--     OnlyBulk d               each endpoint of the driver is one, and each transfer a get or a put, as its endpoint takes; nothing is in the frame list
use Rattle.std.specs.Prelude.{◌≡◌, ◌≢◌, ℕ, true, false, [], slice_get, Option, Some, None}
use Rattle.std.specs.List.{AllByRecursion}
use Rattle.usb_base.specs.declared.commands.Cmd.{Cmd}
use Rattle.usb_base.specs.declared.commands.Cmd.TheVariants as commands
use Rattle.usb_base.specs.declared.endpoints.EpDesc.{EpDesc}
use Rattle.usb_base.specs.declared.packets.EpKind.TheVariants as kinds
use Rattle.usb_base.specs.declared.packets.Speed.TheVariants as speeds
use Rattle.usb_base.specs.declared.packets.Way.{Way}
use Rattle.usb_base.specs.declared.packets.Way.TheVariants as ways
use Rattle.script_types.specs.declared.scripts.Line.{Line}
use Rattle.script_types.specs.declared.scripts.Line.TheVariants as lines
use Rattle.script_types.specs.declared.scripts.Script.{Script}
use Rattle.drv_table.specs.declared.content.Endpoint.{Endpoint}
use Rattle.drv_table.specs.declared.content.Transfer.{Transfer}
use Rattle.drv_table.specs.declared.content.Sort.{Sort}
use Rattle.drv_table.specs.declared.content.Sort.TheVariants as sorts
use Rattle.drv_table.specs.declared.content.Stage.{Stage}
use Rattle.drv_table.specs.declared.content.Command.{Command}
use Rattle.drv_table.specs.declared.content.Command.TheVariants as unfinished
use Rattle.drv_table.specs.DriverContent.{DriverContent}
use Rattle.drv_table.specs.Words.{in_stage, out_stage}
use Rattle.drv_table.specs.Releases.{ended_by_cancel}
use Rattle.claims_driver.specs.Leaving.{leaver}

-- data go one way
abbrev pub IsDataWay : Way → Type 0
IsDataWay ways.In = Unit {0}
IsDataWay ways.Out = Unit {0}
IsDataWay ways.Ctl = ⊥

pub record IsBulk (x : EpDesc) : Type 0 where
  pub kind : x.kind ≡ kinds.Bulk
  pub speed : x.speed ≡ speeds.High
  pub way : IsDataWay x.name.way

-- ---- scripts

abbrev pub OpensBulk : Cmd → Type 0
OpensBulk (commands.OpenEp x) = IsBulk x
OpensBulk (commands.Cancel name) = ⊥
OpensBulk _ = Unit {0}

abbrev pub OpensOrCancelsBulk : Cmd → Type 0
OpensOrCancelsBulk (commands.OpenEp x) = IsBulk x
OpensOrCancelsBulk _ = Unit {0}

abbrev pub BulkLine : Line → Type 0
BulkLine (lines.Command cmd) = OpensOrCancelsBulk cmd
BulkLine _ = Unit {0}

abbrev pub BulkOnly : Script → Type 0
BulkOnly s = AllByRecursion (λ line. BulkLine line.1) s.lines

-- ---- gets and puts

-- of a control endpoint they are requests
abbrev pub sort_by : Way → Sort
sort_by ways.Out = sorts.Put
sort_by ways.In = sorts.Get
sort_by ways.Ctl = sorts.Request

abbrev pub stage_by : Way → ℕ → Stage
stage_by ways.Out n = out_stage n
stage_by _ n = in_stage n

-- the PID code of a qTD's token (3.5.3): 0 for OUT, 1 for IN, 2 for SETUP, with which a request begins (USB 2.0, 8.5.3)
abbrev pub pid_by : Way → ℕ
pid_by ways.Out = 0
pid_by ways.In = 1
pid_by ways.Ctl = 2

-- ---- drivers

-- one that was cancelled leaves the ring, and is then given back (EHCI 1.0, 4.8.2)
pub record IsStanding (x : Endpoint) : Type 0 where
  pub bulk : IsBulk x.desc
  pub placement : x.placement ≡ None
  pub chained : x.chained ≡ false
  pub unlinked : x.linked ≡ false → x.cancelled ≡ true
  pub ended : x.cancelled ≡ true → x.ended ≢ None
  pub cancel : ended_by_cancel x.ended ≡ true → x.cancelled ≡ true
  pub gone : x.gone ≡ true → x.linked ≡ false

-- the transfer is one that its endpoint takes
pub record MovesAs (d : DriverContent) (y : Transfer) : Type 0 where
  pub endpoint : Endpoint
  pub here : slice_get d.endpoints y.endpoint ≡ Some endpoint
  pub sort : y.sort ≡ sort_by endpoint.desc.name.way

abbrev pub IsBulkCommand : Option Command → Type 0
IsBulkCommand None = Unit {0}
IsBulkCommand (Some (unfinished.Open queue)) = Unit {0}
IsBulkCommand (Some (unfinished.Publish b words)) = Unit {0}
IsBulkCommand (Some (unfinished.Unlink e b link)) = Unit {0}
IsBulkCommand _ = ⊥

-- the command that is unfinished unlinks it
pub record IsToUnlink (x : Endpoint) : Type 0 where
  pub cancelled : x.cancelled ≡ true
  pub linked : x.linked ≡ true

pub record OnlyBulk (d : DriverContent) : Type 0 where
  pub endpoints : (e : ℕ) (x : Endpoint) → slice_get d.endpoints e ≡ Some x → IsStanding x
  pub moves : (t : ℕ) (y : Transfer) → slice_get d.transfers t ≡ Some y → MovesAs d y
  pub command : IsBulkCommand d.command
  pub leaver : (e : ℕ) (x : Endpoint) → leaver d.command ≡ Some e → slice_get d.endpoints e ≡ Some x → IsToUnlink x
  pub mends : d.mends ≡ []
  pub unlinks : d.periodic.unlinks ≡ []
  pub removals : d.periodic.removals ≡ []
