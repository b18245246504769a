-- Each command keeps a whole world.
use Rattle.std.proofs.Common.{◌≡◌, ℕ, Bool, Result, Ok, Err, refl}
use Rattle.usb_base.specs.declared.commands.Cmd.{Cmd}
use Rattle.usb_base.specs.declared.commands.Cmd.TheVariants as commands
use Rattle.usb_base.specs.declared.reports.OfferError.{OfferError}
use Rattle.bus_wire.specs.Bus.{Fixed}
use Rattle.drv_table.specs.Accepting.{Offered}
use Rattle.drv_table.specs.Offers.{offered, IsOffered}
use Rattle.law_driver_ring.specs.walk_members.Reached.{OpensNumbered}
use Rattle.law_driver.specs.AsynchronousScripts.{OpensAsynchronous}
use Rattle.law_driver.specs.chained_transfers.Asynchronous.{AcceptsAsynchronous}
use Rattle.law_driver.proofs.lemmas.chained_transfers.Accepting.{asynchronous_command_is_accepted}
use Rattle.bus_world.specs.World.{World, name_in, commanded_by, commanded}
use Rattle.law_world.specs.steps.Streaming.{Streams, Standing}
use Rattle.law_world.specs.streams.Feeding.{AreControlsApart, IsFeeding}
use Rattle.law_world.specs.streams.LeftLaws.{OpensNamed}
use Rattle.law_world.proofs.lemmas.streams.Names.{command_apart}
use Rattle.law_world.proofs.lemmas.streams.FeedingCommands.{command_feeds}
use Rattle.law_world.specs.streams.Left.{IsLeft}
use Rattle.law_world.specs.streams.Whole.{IsWhole}
use Rattle.law_world.specs.streams.Laws.{OpensTo, CommandKeepsWhole}
use Rattle.law_world.proofs.lemmas.streams.FedCommands.{command_keeps_left}
use Rattle.law_world.proofs.lemmas.streams.LeavingCancelled.{cancel_whole}
use Rattle.law_world.proofs.lemmas.streams.Fewer.{opens_no_stream, opens_no_taker}
use Rattle.law_world.proofs.lemmas.streams.KeptLeft.{whole_of}
use Rattle.law_world.proofs.lemmas.streams.Refused.{refused_whole}
use Rattle.law_world.proofs.lemmas.streams.Opened.{opened_whole}
use Rattle.law_world.proofs.lemmas.streams.Asked.{asked_whole, requested_whole}

-- by which no endpoint leaves
abbrev IsNoCancel : Cmd → Type 0
IsNoCancel (commands.Cancel name) = ⊥
IsNoCancel _ = Unit {0}

-- an endpoint that is opened has a stream or a taker, once its open is accepted
abbrev pub OpensToOnce : (ℕ → ℕ → Bool) → (ℕ → ℕ → Bool) → World → Cmd → Type 0
OpensToOnce stream takes w cmd = (o : Offered) → offered w.driver w.memory cmd ≡ Ok o → OpensTo stream takes cmd

-- a command that is no cancel
accepted : (fixed : Fixed) (takes : ℕ → ℕ → Bool) (member : ℕ → Bool) (x : Streams) (s : Standing) (w : World) (line : ℕ) (cmd : Cmd) (o : Offered) → IsNoCancel cmd → OpensAsynchronous cmd
    → OpensToOnce x.stream takes w cmd → OpensNumbered cmd → IsOffered w.driver.room cmd → offered w.driver w.memory cmd ≡ Ok o → AcceptsAsynchronous w.driver w.memory o cmd
    → AreControlsApart o.driver takes → IsFeeding fixed member x s (commanded_by w line (name_in cmd) (Ok o)) → IsLeft fixed takes x.packets s.acc (commanded_by w line (name_in cmd) (Ok o))
    → IsWhole fixed takes member x s w → IsWhole fixed takes member x s (commanded_by w line (name_in cmd) (Ok o))
accepted fixed takes member x s w line (commands.OpenEp desc) o kept only to fits room is why apart feeding left k =
    opened_whole fixed takes member x s w line (commands.OpenEp desc) o only (to o is) fits room is why apart feeding left k
accepted fixed takes member x s w line (commands.Get name len by) o kept only to fits room is why apart feeding left k =
    asked_whole fixed takes member x s w line name o why apart feeding left k
accepted fixed takes member x s w line (commands.Put name bytes by) o kept only to fits room is why apart feeding left k =
    asked_whole fixed takes member x s w line name o why apart feeding left k
accepted fixed takes member x s w line (commands.Control name setup bytes) o kept only to fits room is why apart feeding left k =
    requested_whole fixed takes member x s w line name o why apart feeding left k
accepted fixed takes member x s w line (commands.Cancel name) o kept only to fits room is why apart feeding left k = absurd kept
accepted fixed takes member x s w line _ o kept only to fits room is why apart feeding left k = absurd why

by_offer : (fixed : Fixed) (takes : ℕ → ℕ → Bool) (member : ℕ → Bool) (x : Streams) (s : Standing) (w : World) (line : ℕ) (cmd : Cmd) (r : Result Offered OfferError) → IsNoCancel cmd → OpensAsynchronous cmd
    → OpensToOnce x.stream takes w cmd → OpensNumbered cmd → IsOffered w.driver.room cmd → offered w.driver w.memory cmd ≡ r → IsFeeding fixed member x s (commanded_by w line (name_in cmd) r)
    → IsLeft fixed takes x.packets s.acc (commanded_by w line (name_in cmd) r) → IsWhole fixed takes member x s w
    → IsWhole fixed takes member x s (commanded_by w line (name_in cmd) r)
by_offer fixed takes member x s w line cmd (Err why) kept only to fits room is feeding left k = refused_whole fixed takes member x s w line (name_in cmd) why feeding left k
by_offer fixed takes member x s w line cmd (Ok o) kept only to fits room is feeding left k =
    accepted fixed takes member x s w line cmd o kept only to fits room is (asynchronous_command_is_accepted w.driver w.memory cmd o k.feeding.turns.asynchronous only is)
    (command_apart takes w cmd o k.feeding.turns only (λ p offer. opens_no_taker x.stream takes cmd (to p offer)) is k.controls_apart) feeding left k

other_whole : (fixed : Fixed) (takes : ℕ → ℕ → Bool) (member : ℕ → Bool) (x : Streams) (s : Standing) (w : World) (line : ℕ) (cmd : Cmd) → IsNoCancel cmd → OpensAsynchronous cmd
    → OpensToOnce x.stream takes w cmd → OpensNumbered cmd → OpensNamed cmd → IsOffered w.driver.room cmd
    → IsWhole fixed takes member x s w → IsWhole fixed takes member x s (commanded w line cmd)
other_whole fixed takes member x s w line cmd kept only to fits named room k =
    by_offer fixed takes member x s w line cmd (offered w.driver w.memory cmd) kept only to fits room refl
    (command_feeds fixed member x s w line cmd only (λ p offer. opens_no_stream x.stream takes cmd (to p offer)) room k.feeding)
    (command_keeps_left fixed takes member x s w line cmd only fits named room k.feeding k.left) k

pub whole_commanded : (fixed : Fixed) (takes : ℕ → ℕ → Bool) (member : ℕ → Bool) (x : Streams) (s : Standing) (w : World) (line : ℕ) (cmd : Cmd) → OpensAsynchronous cmd
    → OpensToOnce x.stream takes w cmd → OpensNumbered cmd → OpensNamed cmd
    → IsOffered w.driver.room cmd → IsWhole fixed takes member x s w → IsWhole fixed takes member x s (commanded w line cmd)
whole_commanded fixed takes member x s w line (commands.Cancel name) only to fits named room k = cancel_whole fixed takes member x s w line name room k
whole_commanded fixed takes member x s w line (commands.OpenEp desc) only to fits named room k = other_whole fixed takes member x s w line (commands.OpenEp desc) tt only to fits named room k
whole_commanded fixed takes member x s w line (commands.Get name len by) only to fits named room k = other_whole fixed takes member x s w line (commands.Get name len by) tt tt to fits named room k
whole_commanded fixed takes member x s w line (commands.Put name bytes by) only to fits named room k = other_whole fixed takes member x s w line (commands.Put name bytes by) tt tt to fits named room k
whole_commanded fixed takes member x s w line (commands.Control name setup bytes) only to fits named room k = other_whole fixed takes member x s w line (commands.Control name setup bytes) tt tt to fits named room k
whole_commanded fixed takes member x s w line (commands.Iso name count len seed) only to fits named room k = other_whole fixed takes member x s w line (commands.Iso name count len seed) tt tt to fits named room k
whole_commanded fixed takes member x s w line (commands.Clear name) only to fits named room k = other_whole fixed takes member x s w line (commands.Clear name) tt tt to fits named room k
whole_commanded fixed takes member x s w line (commands.Reset port) only to fits named room k = other_whole fixed takes member x s w line (commands.Reset port) tt tt to fits named room k
whole_commanded fixed takes member x s w line (commands.Give port) only to fits named room k = other_whole fixed takes member x s w line (commands.Give port) tt tt to fits named room k
whole_commanded fixed takes member x s w line (commands.DiskRead addr lba count) only to fits named room k = other_whole fixed takes member x s w line (commands.DiskRead addr lba count) tt tt to fits named room k
whole_commanded fixed takes member x s w line (commands.DiskWrite addr lba bytes) only to fits named room k = other_whole fixed takes member x s w line (commands.DiskWrite addr lba bytes) tt tt to fits named room k
whole_commanded fixed takes member x s w line (commands.Revive addr) only to fits named room k = other_whole fixed takes member x s w line (commands.Revive addr) tt tt to fits named room k

pub command_keeps_whole : CommandKeepsWhole
command_keeps_whole fixed takes member x s w line cmd only to fits named room k =
    whole_of fixed takes member x s (commanded w line cmd) (whole_commanded fixed takes member x s w line cmd only to fits named room k)
