-- An endpoint with a stream, below a hub, at each step of a queue by which the driver goes on (EHCI 1.0, 3.5, 4.6, 4.8, 4.10 and 4.12): the
-- host's side, the packet that it sends next and the qTDs stay, and what is new begins with a start-split.
--     PublishesStart d         the qTD of an unfinished command that publishes one begins with a start-split, once the others are lent
--     StepKeepsOutBehind, StepKeepsInBehind
--                              so host, hub and device stand as they must after each step, while the queue head is still met
use Rattle.std.specs.Prelude.{◌≡◌, ℕ, ◌≤◌, Bool, true, false, List, Some}
use Rattle.usb_base.specs.declared.packets.EpKind.{EpKind}
use Rattle.bus_wire.specs.Bus.{Wired}
use Rattle.qh_qtd.specs.declared.qtd.Qtd.{Qtd}
use Rattle.qh_qtd.specs.Qtd.{qtd_words, IsQtdInRange}
use Rattle.drv_table.specs.declared.content.Command.TheVariants as unfinished
use Rattle.drv_table.specs.DriverContent.{DriverContent}
use Rattle.law_driver.specs.queued_drivers.Queued.{queued}
use Rattle.law_ring.specs.Told.{Endpoint as Told}
use Rattle.law_below_hubs.specs.HostEvents.{IsOutBehind, IsInBehind}
use Rattle.law_world.specs.memory.Mixed.{Standing, IsMixedAt}
use Rattle.law_world.specs.memory.Steps.{QueueStep}
use Rattle.law_world.specs.memory.pipe_steps.Pipes.{AreByWay}
use Rattle.bus_world.specs.World.{World}
use Rattle.law_reports.specs.lines.Lined.{in_hand}

abbrev pub PublishesStart : DriverContent → Type 0
PublishesStart d = (b : ℕ) (words : List ℕ) (t : Qtd) → d.command ≡ Some (unfinished.Publish b words) → 1 ≤ d.made → words ≡ qtd_words t
    → IsQtdInRange t → t.token.split_state ≡ false

-- `outs` and `ins` are the queue heads of endpoints of a way, at whatever speed
abbrev pub StepKeepsOutBehind : Type 0
StepKeepsOutBehind = (kind : EpKind) (sends takes : ℕ → ℕ → Bool) (ins outs : ℕ → Bool) (ends : ℕ → Told) (s t : Standing)
    (w new : World) (wire : Wired) (i place : ℕ) (known : List ℕ) (n : ℕ) (x : Told) → IsMixedAt s w → QueueStep s w new t
    → AreByWay (queued w.driver) sends takes ins outs ends → PublishesStart (queued w.driver) → outs n ≡ true → s.near n ≡ true
    → t.near n ≡ true → (k : IsOutBehind kind wire i place known s.parts (in_hand s) n x)
    → (b : IsOutBehind kind wire i place known t.parts (in_hand t) n x) × (b.host.next ≡ k.host.next)

abbrev pub StepKeepsInBehind : Type 0
StepKeepsInBehind = (kind : EpKind) (packets : List (List ℕ)) (sends takes : ℕ → ℕ → Bool) (ins outs : ℕ → Bool) (ends : ℕ → Told)
    (s t : Standing) (w new : World) (wire : Wired) (i place : ℕ) (timely : Bool) (known : List ℕ) (n : ℕ) (x : Told) → IsMixedAt s w
    → QueueStep s w new t → AreByWay (queued w.driver) sends takes ins outs ends → PublishesStart (queued w.driver) → ins n ≡ true
    → s.near n ≡ true → t.near n ≡ true → IsInBehind kind packets wire i place timely known s.parts (in_hand s) n x
    → IsInBehind kind packets wire i place timely known t.parts (in_hand t) n x
