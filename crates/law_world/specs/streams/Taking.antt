-- The OUT endpoints of a world whose endpoints are bulk and control ones (EHCI 1.0, 4.6, 4.8 and 4.10; USB 2.0, 8.5 and 8.6): the bytes that the host knows to be taken are
-- those that the device took, or all of these but the last packet, whose acknowledgement wasn't heard.
--     outs_of member streams ends   the queue heads of OUT endpoints: those of bulk endpoints without a stream
--     IsTaking fixed takes member x s w     both sides of the pipe of each OUT endpoint agree, where s.acc are the bytes that were moved of it; and devices'
--                                   endpoints that aren't opened took nothing
--     HaveSides way d has           the endpoint that is being opened has one of these, if it is an IN endpoint, or an OUT endpoint where `way` is false
--     HaveTakers d takes            one that is being opened has a taker, if it is an OUT endpoint
use Rattle.std.specs.Prelude.{◌≡◌, ℕ, Bool, true, false, slice_get, Some, if◌then◌else◌}
use Rattle.std.specs.List.{concat}
use Rattle.drv_table.specs.declared.content.Endpoint.{Endpoint}
use Rattle.drv_table.specs.declared.content.Command.TheVariants as unfinished
use Rattle.drv_table.specs.DriverContent.{DriverContent}
use Rattle.law_world.specs.streams.narrowed_streams.Narrowed.{IsOnSide}
use Rattle.law_ring.specs.Told.{Endpoint as Told}
use Rattle.law_ring.specs.Pipes.{AreEndpoints}
use Rattle.law_devices.specs.scripted_takers.Takers.{taker_of}
use Rattle.bus_wire.specs.Bus.{Fixed}
use Rattle.bus_world.specs.World.{World}
use Rattle.law_world.specs.steps.Streaming.{Streams, Standing, wired}
use Rattle.law_world.specs.steps.Outs.{AreOutPiped, AreUntaken}
use Rattle.law_world.specs.streams.Feeding.{heads_of}

abbrev pub outs_of : (ℕ → Bool) → (ℕ → Bool) → (ℕ → Told) → ℕ → Bool
outs_of member streams ends n = if streams n then false else heads_of member ends n

pub record IsTaking (fixed : Fixed) (takes : ℕ → ℕ → Bool) (member : ℕ → Bool) (x : Streams) (s : Standing) (w : World) : Type 0 where
  pub ends : AreEndpoints takes member (outs_of member x.streams x.endpoint) x.endpoint
  pub piped : AreOutPiped takes taker_of member (outs_of member x.streams x.endpoint) x.endpoint (λ n. concat (s.acc n)) s.parts s.hand (wired fixed w)
  pub untaken : AreUntaken takes taker_of (outs_of member x.streams x.endpoint) x.endpoint (wired fixed w)

abbrev pub HaveSides : Bool → DriverContent → (ℕ → ℕ → Bool) → Type 0
HaveSides way d has =
    (e : ℕ) (x : Endpoint) → slice_get d.endpoints e ≡ Some x → d.command ≡ Some (unfinished.Open x.queue) → x.gone ≡ false → IsOnSide way x.desc.name.way
    → has x.desc.name.addr x.desc.name.num ≡ true

abbrev pub HaveTakers : DriverContent → (ℕ → ℕ → Bool) → Type 0
HaveTakers d takes = HaveSides false d takes
