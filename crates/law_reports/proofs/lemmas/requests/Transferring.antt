-- Requests stand as they must where a get, a put or a request is accepted, and where an endpoint is cancelled.
use Rattle.std.proofs.Common.{◌≡◌, ℕ, ◌<◌, Bool, Ok, true, false, List, ◌++◌, refl}
use Rattle.law_common.proofs.Lists.{all_joined}
use Rattle.usb_base.specs.declared.commands.Cmd.{Cmd}
use Rattle.usb_base.specs.declared.endpoints.EpName.{EpName}
use Rattle.bus_wire.specs.Bus.{Fixed}
use Rattle.law_scripts.specs.byte_answers.Bytes.{IsByteCommand}
use Rattle.drv_table.specs.Accepting.{Offered}
use Rattle.drv_table.specs.Offers.{offered}
use Rattle.law_driver.specs.chained_transfers.Accepted.{IsAsked}
use Rattle.law_driver.proofs.lemmas.chained_transfers.Accepting.{asynchronous_command_is_accepted}
use Rattle.claims_report.specs.Requests.{Request}
use Rattle.bus_world.specs.World.{World, name_in, commanded_by}
use Rattle.law_world.specs.steps.Streaming.{Streams, Standing}
use Rattle.claims_world.specs.Requests.{Windows, asks_then, wired}
use Rattle.law_reports.specs.requests.Asking.{Sides, Asking, IsAskingWorld}
use Rattle.law_reports.specs.requests.Commanding.{IsTransferCommand}
use Rattle.law_reports.proofs.lemmas.requests.Commanding.{moved_asks, later, requested_asks, other_asks}
use Rattle.law_reports.proofs.lemmas.requests.Requested.{TakesRequest, request_taken}
use Rattle.std.specs.List.{AllByRecursion}
use Rattle.claims_driver.specs.LentRuns.{AreLent}
use Rattle.law_request.specs.Windows.{IsRequest}
use Rattle.law_reports.specs.requests.Footing.{IsFooting}
use Rattle.usb_base.specs.declared.commands.Cmd.TheVariants as commands

pub record AsksThen (g : Sides) (fixed : Fixed) (member : ℕ → Bool) (s : Standing) (v : Windows) (now : ℕ → Request) (w : World) : Type 0 where
  pub asking : Asking
  pub world : IsAskingWorld g fixed member s asking v now w

module _ (g : Sides) (fixed : Fixed) (member : ℕ → Bool) (x : Streams) (s : Standing) (a : Asking) (v : Windows) (asks : ℕ → Request)
    (w : World) (line : ℕ) (o : Offered) (k : IsFooting member x s w)
    (lent : AreLent w.driver) (q : IsAskingWorld g fixed member s a v asks w) where
  moves : (name : EpName) → IsAsked w.driver w.memory o → AsksThen g fixed member s v asks (commanded_by w line name (Ok o))
  moves name asked = record {
    asking = a;
    world = moved_asks g member s.parts s.hand a v asks w.driver w.memory (wired fixed w) q k.owners k.stands k.turns.asynchronous k.turns.turns.places o name asked;
  }

  -- a request, of one of these or of another one
  requests : (name : EpName) (setup more : List ℕ) → IsRequest (record { setup = setup; bytes = more })
      → AllByRecursion (λ (b : ℕ). b < 256) (setup ++ more) → (t : TakesRequest w.driver w.memory o setup more)
      → (b : Bool) → g.asks t.transfers.endpoint.desc ≡ b
      → AsksThen g fixed member s v (asks_then w.driver (commands.Control name setup more) asks) (commanded_by w line name (Ok o))
  requests name setup more fits all t true on = record {
    asking = record {
      courses = a.courses;
      numbers = later g member s.parts s.hand a v asks w.driver w.memory (wired fixed w) q k.owners k.stands k.turns.asynchronous k.turns.turns.places o name setup more lent k.tells.shape fits all t on;
    };
    world = requested_asks g member s.parts s.hand a v asks w.driver w.memory (wired fixed w) q k.owners k.stands k.turns.asynchronous k.turns.turns.places o name setup more lent k.tells.shape fits all t on;
  }
  requests name setup more fits all t false off = record {
    asking = a;
    world = other_asks g member s.parts s.hand a v asks w.driver w.memory (wired fixed w) q k.owners k.stands k.turns.asynchronous k.turns.turns.places o (commands.Control name setup more) t.transfers off;
  }

  pub by_command : (cmd : Cmd) → IsTransferCommand cmd → IsByteCommand cmd → offered w.driver w.memory cmd ≡ Ok o
      → AsksThen g fixed member s v (asks_then w.driver cmd asks) (commanded_by w line (name_in cmd) (Ok o))
  by_command (commands.Get name len by) fits bytes is = moves name (asynchronous_command_is_accepted w.driver w.memory (commands.Get name len by) o k.turns.asynchronous tt is)
  by_command (commands.Put name data_bytes by) fits bytes is = moves name (asynchronous_command_is_accepted w.driver w.memory (commands.Put name data_bytes by) o k.turns.asynchronous tt is)
  by_command (commands.Control name setup more) fits bytes is =
      let t : TakesRequest w.driver w.memory o setup more = request_taken w.driver w.memory name setup more o k.turns.asynchronous is in
      requests name setup more fits (all_joined (λ (b : ℕ). b < 256) setup more bytes.0 bytes.1) t (g.asks t.transfers.endpoint.desc) refl
  by_command _ fits bytes is = absurd fits
