-- A complete-split of an interrupt endpoint is made again at once in a microframe only where a packet of a transaction of the walk of the
-- frames was lost or damaged in this microframe: what a translator says, and what a device lets it say, never is a reason (EHCI 1.0,
-- 4.12.2.4.2; USB 2.0, 8.5, 11.20 and 11.21).
--     has_loss row             a packet of the transaction was lost or damaged
--     is_lost fixed b ask out  so it is in this transaction of the host
--     lost_by fixed e b n      one more transaction of which a packet was lost, where the event makes one
--     losses_after ..          .. after an event of the controller of this row; a microframe begins with none
--     losses_next fixed w n    .. after the next event of the controller of a world
--     losses s k               how many transactions of the walk of the frames lost a packet in this microframe, after k events and
--                              commands of the run of a script
--     RepeatAfterLosses s      while there are none nothing was made again, at each moment of the run
use Rattle.std.specs.Prelude.{◌≡◌, ℕ, ◌+◌, Bool, true, false, List, Option, Some, None}
use Rattle.usb_base.specs.declared.packets.Ask.{Ask}
use Rattle.script_types.specs.declared.scripts.Script.{Script}
use Rattle.periodic_walk.specs.Place.{Effect}
use Rattle.periodic_walk.specs.Place.Effect.{Leaves, Asks}
use Rattle.periodic_walk.specs.Rows.{effect_of}
use Rattle.hc_core.specs.declared.controller.ControllerRow.{ControllerRow}
use Rattle.hc_core.specs.declared.controller.ControllerRow.TheVariants as rows
use Rattle.hc_core.specs.Controller.{Content, frame_place}
use Rattle.bus_wire.specs.declared.asked.Asked.{Asked}
use Rattle.bus_wire.specs.declared.who_heard.WhoHeard.{WhoHeard}
use Rattle.bus_wire.specs.declared.who_heard.WhoHeard.TheVariants.{SentUnheard, NoAnswer, AnswerUnheard, AnswerHeard, AckUnheard, AckHeard}
use Rattle.bus_wire.specs.Bus.{Bus, Fixed, asked_of, bus_row}
use Rattle.bus_world.specs.World.{World, controller_parts, controller_row}
use Rattle.claims_world.specs.Carried.{carried}
use Rattle.claims_world.specs.WithinLoad.{repeats}

abbrev pub has_loss : WhoHeard → Bool
has_loss SentUnheard = true
has_loss NoAnswer = false
has_loss AnswerUnheard = true
has_loss AnswerHeard = false
has_loss AckUnheard = true
has_loss AckHeard = false

abbrev pub is_lost_at : Fixed → Bus → Ask → List ℕ → Option Asked → Bool
is_lost_at fixed b ask out None = false
is_lost_at fixed b ask out (Some e) = has_loss (bus_row fixed b e ask out)

abbrev pub is_lost : Fixed → Bus → Ask → List ℕ → Bool
is_lost fixed b ask out = is_lost_at fixed b ask out (asked_of fixed b ask)

abbrev pub one_more_if : Bool → ℕ → ℕ
one_more_if true n = n + 1
one_more_if false n = n

abbrev pub lost_by : Fixed → Effect → Bus → ℕ → ℕ
lost_by fixed (Leaves p) b n = n
lost_by fixed (Asks ask out left_by) b n = one_more_if (is_lost fixed b ask out) n

abbrev pub losses_after : Fixed → ControllerRow → Content → Bus → ℕ → ℕ
losses_after fixed rows.Begin c b n = 0
losses_after fixed rows.Frame c b n = lost_by fixed (effect_of (frame_place c)) b n
losses_after fixed rows.Idle c b n = n
losses_after fixed rows.Enter c b n = n
losses_after fixed rows.Go c b n = n
losses_after fixed rows.End c b n = n

abbrev pub losses_next : Fixed → World → ℕ → ℕ
losses_next fixed w n = losses_after fixed (controller_row w) (controller_parts w) w.bus n

abbrev pub losses : Script → ℕ → ℕ
losses s k = carried losses_next s 0 k

abbrev pub RepeatAfterLosses : Script → Type 0
RepeatAfterLosses s = (k : ℕ) → losses s k ≡ 0 → repeats s k ≡ 0
