-- Each moment of each script sends its puts whole: before the first line nothing is published, and each event and each command leaves it
-- so.
use Rattle.std.proofs.Common.{◌≡◌, ◌≢◌, ℕ, ◌*◌, Bool, true, false, if◌then◌else◌, ap, sym, subst, ◌∙◌, ⊎_elim}
use Rattle.std.specs.Prelude.{◌||◌}
use Rattle.std.proofs.lemmas.Bool.{and_parts, true≢false}
use Rattle.law_reports.proofs.Common.{none_there}
use Rattle.law_common.proofs.Numbers.{other_number}
use Rattle.law_world.proofs.Common.{lines_can}
use Rattle.script_types.specs.declared.scripts.Script.{Script}
use Rattle.script_fits.proofs.Texts.{spelled_fits}
use Rattle.usb_base.specs.declared.packets.Way.TheVariants as ways
use Rattle.drv_table.specs.declared.content.Endpoint.{Endpoint}
use Rattle.bus_world.specs.Opening.{opening_world}
use Rattle.law_reports.proofs.lemmas.pipes.Names.{IsHeadOf, head_of, by_real}
use Rattle.law_reports.proofs.lemmas.pipes.Carried.{was_met}
use Rattle.law_world.specs.memory.pipe_steps.Pipes.{AsksTheWay}
use Rattle.law_ring.specs.Told.{Endpoint as Told}
use Rattle.law_queues.specs.open_laws.Queues.{IsOpenThere, open_finished}
use Rattle.law_driver.specs.queued_drivers.Queued.{queued}
use Rattle.law_driver.specs.queued_drivers.Rows.{QueuesAlike}
use Rattle.usb_base.specs.declared.endpoints.EpDesc.{EpDesc}
use Rattle.bus_wire.specs.Bus.{Fixed, fixed_of}
use Rattle.claims_base.specs.Controller.{opening_base}
use Rattle.law_descriptors.specs.Meeting.{met}
use Rattle.law_descriptors.specs.PartLaws.{IsDescribing}
use Rattle.law_descriptors.proofs.lemmas.queue_events.Sending.{events_send_whole}
use Rattle.law_scripts.proofs.lemmas.script_bytes.Texts.{a_text_spells_bytes}
use Rattle.law_world.specs.steps.Streaming.{begins_by, transacts_by, wired}
use Rattle.law_world.specs.steps.receiving_runs.Runs.{IsKeptBy}
use Rattle.law_world.proofs.lemmas.steps.lemmas.receiving_runs.Runs.{holds_throughout}
use Rattle.law_world.specs.memory.Mixed.{Standing, IsMixedAt}
use Rattle.law_world.specs.memory.Steps.{IsMixedNext, IsMixedControlled, standing_then, HasOpened, QueueStep}
use Rattle.law_world.specs.memory.Steps.{stays, harvests, returns, lends, stores, mends, begins, opens, unlinks, narrows, goes}
use Rattle.law_world.specs.memory.pipe_steps.Laws.{IsNoOpening}
use Rattle.law_world.proofs.lemmas.memory.Driving.{driver_tells_step}
use Rattle.law_world.proofs.lemmas.memory.FittingTexts.{texts_open_fitting}
use Rattle.law_world.proofs.lemmas.memory.Texts.{texts_fit}
use Rattle.law_world.proofs.lemmas.memory.Together.{lines_fit}
use Rattle.law_reports.specs.lines.Lined.{Lines}
use Rattle.law_reports.specs.lines.TellingLaws.{IsTellingNext}
use Rattle.law_reports.proofs.lemmas.lines.Driven.{driver_keeps_telling}
use Rattle.bus_world.specs.World.{World, driver_next, controller_next, controller_parts}
use Rattle.law_reports.specs.pipes.Declared.{Sides, sides_of}
use Rattle.law_reports.specs.pipes.Piped.{Heads, asked_as, IsPiped, HasPiped}
use Rattle.law_reports.proofs.lemmas.pipes.Commanded.{commanded_piped}
use Rattle.law_reports.proofs.lemmas.pipes.Controlled.{c, controlled}
use Rattle.law_reports.proofs.lemmas.pipes.DeclaredOpens.{texts_declare}
use Rattle.law_reports.proofs.lemmas.pipes.Driven.{was_end, heads_left, driven}
use Rattle.law_reports.proofs.lemmas.pipes.Moments.{CanBe, lines_both}
use Rattle.law_reports.proofs.lemmas.pipes.Opened.{its, heads_opened, opened_piped}
use Rattle.law_reports.proofs.lemmas.pipes.Opening.{new_world_is_piped}
use Rattle.law_reports.specs.pipes.puts.Sent.{AreSent, HasSent}
use Rattle.law_reports.specs.pipes.puts.SentLaws.{NewWorldIsSent, ControllerKeepsSent, DriverKeepsSent, CommandKeepsSent, ScriptsAreSent}
use Rattle.law_reports.specs.pipes.puts.SentLaws.{TextsAreSent}
use Rattle.law_reports.proofs.lemmas.pipes.lemmas.puts.Steps.{IsThereOut, reported_at, part_at, step_sends, opened_sends}

module _ (fixed : Fixed) (x : Sides) (s : Standing) (m : Lines) (h : Heads) (w : World) (k : IsPiped fixed x s m h w)
    (sent : AreSent s h.outs) where
  out_head : (n : ℕ) → h.outs n ≡ true → IsThereOut w.driver n
  out_head n on =
      let is : IsHeadOf w.driver ways.Out n =
      head_of w.driver s.near x.sends x.takes h.ins h.outs h.ends k.mixed.queues.queues.met k.by_way ways.Out n on
      (k.pipes.out_ends.members n on) in
      record {
        number = is.head.number;
        endpoint = is.head.endpoint;
        here = is.head.here;
        there = is.head.met.there;
        way_is = is.way_is;
        at = is.head.at;
      }

  -- ---- an event of the controller

  pub controlled_sends : AreSent (standing_then s w (c fixed x s m h w k).event) h.outs
  controlled_sends n on =
      let f = k.mixed.now.framed in
      let is : IsMixedControlled fixed s w = c fixed x s m h w k in
      let describing : IsDescribing w.driver s.descs s.parts =
      record { owners = f.place.sound.owners; driven = f.driven; described = f.described } in
      let o : IsThereOut w.driver n = out_head n on in
      let r = reported_at s m w k.mixed k.telling n o in
      events_send_whole begins_by transacts_by opening_base s.member (met w.driver s.recent) w.driver s.descs s.parts s.hand s.frame
      (controller_parts w) (wired fixed w) (wired fixed (controller_next fixed w)) is.event.now is.event.later is.event.frame_later
      describing f.runs is.event.effect (s.order n) r.place (s.out n) n r.told (part_at s m w k.mixed k.telling n o)
      (k.pipes.out_pipes.pipes n on).outs r.accounts (sent n on)

  -- ---- an endpoint was opened

  module _ (at : IsOpenThere (queued w.driver) s.parts) (t : Standing) (alike : QueuesAlike (open_finished (queued w.driver))
      (queued (driver_next w).driver)) (opened : HasOpened s t at.endpoint) (mixed : IsMixedAt t (driver_next w))
      (next : IsTellingNext s m w (driver_next w) t (opens at t alike opened)) where
    abbrev own : ℕ
    own = 32 * at.endpoint.queue

    abbrev then_heads : Heads
    then_heads = heads_opened fixed x s m h w k at t alike opened mixed next

    p : IsPiped fixed x t next.lines (heads_opened fixed x s m h w k at t alike opened mixed next) (driver_next w)
    p = opened_piped fixed x s m h w k at t alike opened mixed next

    -- the others had their streams before
    outs_were : (n : ℕ) → n ≢ 32 * at.endpoint.queue → (heads_opened fixed x s m h w k at t alike opened mixed next).outs n ≡ true
        → h.outs n ≡ true
    outs_were n differs on =
        let now_near : t.near n ≡ true = p.pipes.out_ends.members n on in
        let is : IsHeadOf (driver_next w).driver ways.Out n =
        head_of (driver_next w).driver t.near x.sends x.takes then_heads.ins then_heads.outs then_heads.ends mixed.queues.queues.met
        p.by_way
        ways.Out n on now_near in
        let z : Endpoint = is.head.endpoint in
        let near : s.near n ≡ true =
        sym (ap (λ (c : Bool). c || s.near n) (other_number n own differs)) ∙ sym (ap (λ (these : ℕ → Bool). these n) opened.near)
        ∙ now_near in
        let v = was_met w.driver (driver_next w).driver s.near t.near k.mixed.now.framed.place.sound.owners k.mixed.queues.queues.met
        mixed.queues.queues.met (λ i u there its_met. was_end fixed x s m h w k i u there) is.head.number z is.head.here is.head.met
        (ap s.near (sym is.head.at) ∙ near) in
        let y : Endpoint = v.before.endpoint in
        let place : 32 * y.queue ≡ n = ap (λ (q : ℕ). 32 * q) (sym v.before.comes.queue) ∙ sym is.head.at in
        let way : y.desc.name.way ≡ ways.Out = ap (λ (c : EpDesc). c.name.way) (sym v.before.comes.desc) ∙ is.way_is in
        let asks : AsksTheWay x.sends x.takes h.ins h.outs h.ends n ways.Out =
        subst (λ (i : ℕ). AsksTheWay x.sends x.takes h.ins h.outs h.ends i ways.Out) place
        (subst (AsksTheWay x.sends x.takes h.ins h.outs h.ends (32 * y.queue)) way
        (by_real w.driver x.sends x.takes h.ins h.outs h.ends k.by_way is.head.number y v.before.here v.met)) in
        let end : then_heads.ends n ≡ h.ends n =
        ap (λ (c : Bool). if c then asked_as (its fixed x s m h w k at t alike opened mixed next).endpoint.desc else h.ends n)
        (other_number n own differs) in
        ⊎_elim (λ (was : h.outs n ≡ true). was)
        (λ (none : x.takes (h.ends n).addr (h.ends n).ep ≡ false).
        absurd (true≢false (sym (sym (ap (λ (u : Told). x.takes u.addr u.ep) end) ∙ p.pipes.out_ends.on n on) ∙ none))) asks.1

  -- ---- an event of the driver

  by_other : (t : Standing) (step : QueueStep s w (driver_next w) t) → IsNoOpening step → IsMixedAt t (driver_next w)
      → IsTellingNext s m w (driver_next w) t step → HasSent fixed x (driver_next w)
  by_other t step other mixed next = record {
    standing = t;
    lines = next.lines;
    heads = heads_left fixed x s m h w k t;
    piped = driven fixed x s m h w k t step other mixed next;
    sent = λ n on.
        let was : h.outs n ≡ true = (and_parts (h.outs n) (t.near n) on).0 in
        step_sends s m w k.mixed k.telling n (out_head n was) (sent n was) (driver_next w) t step other;
  }

  by_step : (t : Standing) (step : QueueStep s w (driver_next w) t) → IsMixedAt t (driver_next w)
      → IsTellingNext s m w (driver_next w) t step → HasSent fixed x (driver_next w)
  by_step t (opens at _ alike opened) mixed next = record {
    standing = t;
    lines = next.lines;
    heads = heads_opened fixed x s m h w k at t alike opened mixed next;
    piped = opened_piped fixed x s m h w k at t alike opened mixed next;
    sent = λ n on.
        opened_sends s w k.mixed at t opened n (λ differs. sent n (outs_were at t alike opened mixed next n differs on));
  }
  by_step t (stays _ none still) mixed next = by_other t (stays t none still) tt mixed next
  by_step t (harvests e u found due later row out) mixed next = by_other t (harvests e u found due later row out) tt mixed next
  by_step t (returns u y v row r) mixed next = by_other t (returns u y v row r) tt mixed next
  by_step t (lends q words get order out row behind) mixed next = by_other t (lends q words get order out row behind) tt mixed next
  by_step t (stores q words g is) mixed next = by_other t (stores q words g is) tt mixed next
  by_step t (mends at row) mixed next = by_other t (mends at row) tt mixed next
  by_step t (begins at row alike) mixed next = by_other t (begins at row alike) tt mixed next
  by_step t (unlinks at row) mixed next = by_other t (unlinks at row) tt mixed next
  by_step t (narrows member near row are fewer) mixed next = by_other t (narrows member near row are fewer) tt mixed next
  by_step t (goes e y d _ back is) mixed next = by_other t (goes e y d t back is) tt mixed next

pub driver_keeps_sent : DriverKeepsSent
driver_keeps_sent fixed x w k =
    let n : IsMixedNext k.standing w (driver_next w) = driver_tells_step k.standing w k.piped.mixed in
    by_step fixed x k.standing k.lines k.heads w k.piped k.sent n.standing n.step n.mixed
    (driver_keeps_telling k.standing k.lines w n.standing n.step k.piped.mixed n.mixed k.piped.telling k.piped.going)

-- ---- the controller, and commands

pub controller_keeps_sent : ControllerKeepsSent
controller_keeps_sent fixed x w k = record {
  standing = _;
  lines = _;
  heads = k.heads;
  piped = controlled fixed x k.standing k.lines k.heads w k.piped;
  sent = controlled_sends fixed x k.standing k.lines k.heads w k.piped k.sent;
}

pub command_keeps_sent : CommandKeepsSent
command_keeps_sent fixed x w line cmd fits declares room k = record {
  standing = k.standing;
  lines = k.lines;
  heads = k.heads;
  piped = commanded_piped fixed x k.standing k.lines k.heads w k.piped line cmd fits declares room;
  sent = k.sent;
}

-- ---- each moment

no_outs : (s : Script) (p : HasPiped (fixed_of s) (sides_of s) (opening_world s)) (n : ℕ) → p.heads.outs n ≡ true → ⊥
no_outs s p n on =
    let is : IsHeadOf (opening_world s).driver ways.Out n =
    head_of (opening_world s).driver p.standing.near (sides_of s).sends (sides_of s).takes p.heads.ins p.heads.outs p.heads.ends
    p.piped.mixed.queues.queues.met p.piped.by_way ways.Out n on (p.piped.pipes.out_ends.members n on) in
    none_there s is.head.number is.head.endpoint is.head.here

pub new_world_is_sent : NewWorldIsSent
new_world_is_sent s fit bytes =
    let p : HasPiped (fixed_of s) (sides_of s) (opening_world s) = new_world_is_piped s fit bytes in
    record { standing = p.standing; lines = p.lines; heads = p.heads; piped = p.piped; sent = λ n on. absurd (no_outs s p n on) }

is_kept : (s : Script) → IsKeptBy (fixed_of s) (CanBe (sides_of s)) (HasSent (fixed_of s) (sides_of s))
is_kept s = record {
  driver = λ w k. driver_keeps_sent (fixed_of s) (sides_of s) w k;
  controller = λ w k. controller_keeps_sent (fixed_of s) (sides_of s) w k;
  command = λ w line cmd can room k. command_keeps_sent (fixed_of s) (sides_of s) w line cmd can.0 can.1 room k;
}

pub scripts_are_sent : ScriptsAreSent
scripts_are_sent s fit bytes fits declares k =
    holds_throughout (CanBe (sides_of s)) (HasSent (fixed_of s) (sides_of s)) s fit
    (lines_both (sides_of s) s.lines (lines_can s.lines fits) declares) (new_world_is_sent s fit bytes) (is_kept s) k

pub texts_are_sent : TextsAreSent
texts_are_sent text s spelled =
    scripts_are_sent s (spelled_fits text s spelled) (a_text_spells_bytes text s spelled)
    (lines_fit s.lines (texts_fit text s spelled) (texts_open_fitting text s spelled)) (texts_declare text s spelled)
