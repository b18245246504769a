-- An event at the iTD in hand (EHCI 1.0, 4.7.1): its microframe has its transactions, then one write-back.
use Rattle.std.specs.Prelude.{ℕ, ◌-◌, Bool, true, false, nat_lt, List, ◌++◌, Option, None, Some, if◌then◌else◌}
use Rattle.usb_base.specs.declared.packets.Reply.{Reply}
use Rattle.hc_copy.specs.Buffer.{Reading, Writing}
use Rattle.hc_iso.specs.declared.held.HeldItd.{HeldItd}
use Rattle.hc_iso.specs.declared.held.IsoEnd.{IsoEnd}
use Rattle.hc_iso.specs.declared.held.IsoTransaction.{IsoTransaction}
use Rattle.hc_iso.specs.declared.held.Heard.{Heard}
use Rattle.hc_iso.specs.declared.held.Heard.TheVariants.{Packet, TooLong, Wrong}
use Rattle.hc_iso.specs.Itd.{itd_transaction, heard_in, itd_after}
use Rattle.hc_iso.specs.WriteBack.{itd_sending, itd_written, itd_raised, bytes_of}
use Rattle.async_walk.specs.declared.state.WalkStep.{WalkStep}
use Rattle.async_walk.specs.declared.state.WalkStep.TheVariants as steps
use Rattle.periodic_walk.specs.declared.itd.ItdRow.{ItdRow}
use Rattle.periodic_walk.specs.declared.itd.ItdRow.TheVariants as rows
use Rattle.periodic_walk.specs.declared.state.Hand.TheVariants as hands
use Rattle.periodic_walk.specs.Place.{FramePlace, faulted, passed, passing, Effect, sent}
use Rattle.periodic_walk.specs.Place.Effect.{Leaves}

-- ---- which row it is

abbrev pub timed_row : ℕ → IsoTransaction → ItdRow
timed_row left t = if nat_lt left t.price.0 then rows.Skip else rows.Transact t

abbrev pub open_row : ℕ → HeldItd → ItdRow
open_row left h = if h.slot.active then timed_row left (itd_transaction h) else rows.Skip

abbrev pub ended_row : ℕ → HeldItd → Option IsoEnd → ItdRow
ended_row left h None = open_row left h
ended_row left h (Some ended) = rows.WriteBack ended

abbrev pub itd_row : ℕ → HeldItd → ItdRow
itd_row left h = ended_row left h h.ended

-- ---- what stands after it

abbrev pub wrote_at : Bool → HeldItd → IsoEnd → FramePlace → FramePlace
wrote_at true h ended p = record p { walk = passed h.itd.link p.walk; registers = itd_raised h ended p.registers }
wrote_at false h ended p = faulted p

abbrev pub wrote : HeldItd → IsoEnd → FramePlace → FramePlace
wrote h ended p =
    let w : Writing = itd_written h p.walk.got p.memory in
    wrote_at w.all h ended (record p { memory = w.memory })

abbrev pub wrote_step : HeldItd → FramePlace → WalkStep
wrote_step h p = if (itd_written h p.walk.got p.memory).all then steps.WriteBack else steps.Fault

abbrev pub itd_step : ItdRow → HeldItd → FramePlace → WalkStep
itd_step rows.Skip h p = steps.Skip
itd_step (rows.Transact t) h p = if (itd_sending t h p.memory).all then steps.Transact else steps.Fault
itd_step (rows.WriteBack ended) h p = wrote_step h p

-- ---- a transaction

-- the bytes of a packet that came in order are kept for the write-back
abbrev pub with_heard : Heard → Reply → List ℕ → List ℕ
with_heard (Packet k n) reply got = got ++ bytes_of reply
with_heard TooLong reply got = got
with_heard Wrong reply got = got

abbrev pub got_after : HeldItd → Reply → List ℕ → List ℕ
got_after h reply got = if h.itd.dir_in then with_heard (heard_in h reply) reply got else got

abbrev pub itd_left_by : IsoTransaction → HeldItd → FramePlace → Reply → FramePlace
itd_left_by t h p reply = record p {
  walk = record p.walk {
    hand = Some (hands.Itd (itd_after reply h));
    reply = reply;
    got = got_after h reply p.walk.got;
    left = p.walk.left - t.price.0;
  };
}

abbrev pub itd_sent : IsoTransaction → HeldItd → FramePlace → Effect
itd_sent t h p =
    let read : Reading = itd_sending t h p.memory in
    let there : FramePlace = record p { memory = read.memory } in
    sent read.all t.ask read.bytes (itd_left_by t h there) there

-- ---- what an event does

abbrev pub itd_effect : ItdRow → HeldItd → FramePlace → Effect
itd_effect rows.Skip h p = Leaves (passing h.itd.link p)
itd_effect (rows.Transact t) h p = itd_sent t h p
itd_effect (rows.WriteBack ended) h p = Leaves (wrote h ended p)
