-- An event at the siTD in hand (EHCI 1.0, 4.12.3): each of its transactions has its write-back.
use Rattle.std.specs.Prelude.{ℕ, ◌-◌, Bool, true, false, nat_lt, Option, None, Some, if◌then◌else◌}
use Rattle.usb_base.specs.declared.packets.Reply.{Reply}
use Rattle.word_mem.specs.Memory.{Mem}
use Rattle.hc_copy.specs.Buffer.{Reading, Writing}
use Rattle.hc_interrupt.specs.Turns.{microframe_of}
use Rattle.itd_sitd.specs.declared.sitd.Sitd.{Sitd}
use Rattle.hc_iso.specs.declared.held.HeldSitd.{HeldSitd}
use Rattle.hc_iso.specs.declared.held.IsoTransaction.{IsoTransaction}
use Rattle.hc_iso.specs.declared.held.SitdTurn.{SitdTurn}
use Rattle.hc_iso.specs.declared.held.SitdTurn.TheVariants as turns
use Rattle.hc_iso.specs.declared.held.SplitOutcome.{SplitOutcome}
use Rattle.hc_iso.specs.declared.held.SplitOutcome.TheVariants.{Failed}
use Rattle.hc_iso.specs.Sitd.{sitd_turn, sitd_transaction, sitd_copy, missed_copy}
use Rattle.hc_iso.specs.WriteBack.{sitd_sending, sitd_received, sitd_written, sitd_raised}
use Rattle.async_walk.specs.declared.state.WalkStep.{WalkStep}
use Rattle.async_walk.specs.declared.state.WalkStep.TheVariants as steps
use Rattle.periodic_walk.specs.declared.sitd.SitdRow.{SitdRow}
use Rattle.periodic_walk.specs.declared.sitd.SitdRow.TheVariants as rows
use Rattle.periodic_walk.specs.declared.state.Hand.TheVariants as hands
use Rattle.periodic_walk.specs.Place.{FramePlace, faulted, passed, passing, Effect, sent}
use Rattle.periodic_walk.specs.Place.Effect.{Leaves}

-- ---- which row it is

abbrev pub timed_row : ℕ → IsoTransaction → SitdRow
timed_row left t = if nat_lt left t.price.0 then rows.Skip else rows.Transact t

abbrev pub turn_row : ℕ → Sitd → SitdTurn → SitdRow
turn_row left v turns.Rest = rows.Skip
turn_row left v turns.Work = timed_row left (sitd_transaction v)
turn_row left v turns.Miss = rows.Miss

abbrev pub settled_row : ℕ → ℕ → Sitd → Option SplitOutcome → SitdRow
settled_row left u v None = turn_row left v (sitd_turn u v)
settled_row left u v (Some outcome) = rows.WriteBack outcome

abbrev pub sitd_row : FramePlace → HeldSitd → SitdRow
sitd_row p h = settled_row p.walk.left (microframe_of p.walk.index) h.sitd h.settled

-- ---- what stands after it

abbrev pub writing : HeldSitd → SplitOutcome → Reply → Mem → Writing
writing h outcome reply m = sitd_written h.at h.sitd outcome (sitd_received h.sitd.dir_in outcome reply) m

abbrev pub wrote_at : Bool → HeldSitd → SplitOutcome → FramePlace → FramePlace
wrote_at true h outcome p = record p { walk = passed h.sitd.link p.walk; registers = sitd_raised h.sitd outcome p.registers }
wrote_at false h outcome p = faulted p

abbrev pub wrote : HeldSitd → SplitOutcome → FramePlace → FramePlace
wrote h outcome p =
    let w : Writing = writing h outcome p.walk.reply p.memory in
    wrote_at w.all h outcome (record p { memory = w.memory })

abbrev pub wrote_step : HeldSitd → SplitOutcome → FramePlace → WalkStep
wrote_step h outcome p = if (writing h outcome p.walk.reply p.memory).all then steps.WriteBack else steps.Fault

abbrev pub sitd_step : SitdRow → HeldSitd → FramePlace → WalkStep
sitd_step rows.Skip h p = steps.Skip
sitd_step (rows.Transact t) h p = if (sitd_sending t h.sitd p.memory).all then steps.Transact else steps.Fault
sitd_step rows.Miss h p = wrote_step (missed_copy h) Failed p
sitd_step (rows.WriteBack outcome) h p = wrote_step h outcome p

-- ---- a transaction

abbrev pub sitd_left_by : IsoTransaction → HeldSitd → FramePlace → Reply → FramePlace
sitd_left_by t h p reply = record p {
  walk = record p.walk {
    hand = Some (hands.Sitd (sitd_copy (microframe_of p.walk.index) reply h));
    reply = reply;
    left = p.walk.left - t.price.0;
  };
}

abbrev pub sitd_sent : IsoTransaction → HeldSitd → FramePlace → Effect
sitd_sent t h p =
    let read : Reading = sitd_sending t h.sitd p.memory in
    let there : FramePlace = record p { memory = read.memory } in
    sent read.all t.ask read.bytes (sitd_left_by t h there) there

-- ---- what an event does

abbrev pub sitd_effect : SitdRow → HeldSitd → FramePlace → Effect
sitd_effect rows.Skip h p = Leaves (passing h.sitd.link p)
sitd_effect (rows.Transact t) h p = sitd_sent t h p
sitd_effect rows.Miss h p = Leaves (wrote (missed_copy h) Failed p)
sitd_effect (rows.WriteBack outcome) h p = Leaves (wrote h outcome p)

-- where it works, as far as the time goes
abbrev pub work_effect : HeldSitd → FramePlace → Effect
work_effect h p = sitd_effect (timed_row p.walk.left (sitd_transaction h.sitd)) h p

-- where its transaction isn't made yet
abbrev pub turn_effect : HeldSitd → FramePlace → Effect
turn_effect h p = sitd_effect (turn_row p.walk.left h.sitd (sitd_turn (microframe_of p.walk.index) h.sitd)) h p
