-- A new world has its streams so: no endpoint is there, and nothing was moved.
use Rattle.std.proofs.Common.{◌≡◌, ◌≢◌, ℕ, ◌*◌, ◌==◌, Bool, true, false, cond, [], Some, None, refl, sym, subst, inl, inr, List}
use Rattle.std.proofs.lemmas.Bool.{eqb-true, false≢true}
use Rattle.law_common.proofs.Lists.{nothing_at}
use Rattle.script_types.specs.declared.scripts.Script.{Script}
use Rattle.script_fits.specs.Fits.{IsFit}
use Rattle.drv_table.specs.DriverContent.{DriverContent}
use Rattle.drv_table.specs.Opening.{opening}
use Rattle.drv_table.specs.Words.{head_block, opening_head}
use Rattle.bus_world.specs.Rooms.{room_of_script}
use Rattle.bus_world.specs.Opening.{opening_world}
use Rattle.law_scripts.specs.byte_answers.Bytes.{IsByteScript}
use Rattle.law_structures.specs.lent_structures.Structures.{QueueHead, Element}
use Rattle.law_ring.specs.Hand.{Empty}
use Rattle.law_ring.specs.Told.{endpoint_of}
use Rattle.law_ring.specs.OutPipeLaws.{SendsNone}
use Rattle.law_frames.specs.FrameHand.{Nothing}
use Rattle.law_driver_ring.specs.PartOpened.{no_parts, opening_parts, is_head}
use Rattle.law_descriptors.specs.Meeting.{no_recent}
use Rattle.law_driver.specs.queued_drivers.Queued.{queued}
use Rattle.law_driver.proofs.lemmas.queued_drivers.RowTurns.{new_driver_queues}
use Rattle.law_queues.proofs.lemmas.harvest_laws.Standing.{new_is_told, alike_is_told}
use Rattle.law_world.specs.steps.Outs.{IsAside}
use Rattle.law_world.specs.steps.Takers.{takes_of}
use Rattle.law_world.proofs.lemmas.steps.Beginning.{opening_is_untaken}
use Rattle.law_world.proofs.lemmas.steps.lemmas.controlled_walks.Worlds.{new_world_walks}
use Rattle.law_world.proofs.lemmas.steps.lemmas.world_bytes.Turning.{opened_bytes}
use Rattle.law_world.specs.streams.Feeding.{there_of}
use Rattle.law_world.proofs.lemmas.streams.FeedingOpening.{new_world_feeds}
use Rattle.law_world.proofs.lemmas.streams.Told.{HasBulkThere, bulk_there}
use Rattle.law_world.specs.memory.Mixed.{Standing, IsMixedAt}
use Rattle.law_world.proofs.lemmas.memory.lemmas.framed_memory.Now.{new_is_framed_now}
use Rattle.law_world.proofs.lemmas.memory.lemmas.framed_memory.Awaiting.{new_awaits_nothing}
use Rattle.law_world.proofs.lemmas.memory.lemmas.framed_memory.Masking.{new_is_masked}
use Rattle.law_world.proofs.lemmas.memory.lemmas.framed_memory.Numbering.{new_is_numbered}
use Rattle.law_reports.specs.lines.Lined.{in_hand, Lines, IsTelling}
use Rattle.usb_base.specs.declared.packets.Way.{Way}
use Rattle.bus_wire.specs.Bus.{fixed_of}
use Rattle.law_reports.specs.pipes.Declared.{sides_of}
use Rattle.law_reports.specs.pipes.Piped.{Heads, IsPiped, AreLeft}
use Rattle.law_reports.specs.pipes.PipedLaws.{NewWorldIsPiped}
use Rattle.law_reports.proofs.lemmas.pipes.NamesKept.{new_descriptors_named}

abbrev pub new_standing : Standing
new_standing = record {
  member = is_head;
  near = is_head;
  streams = λ n. false;
  ends = λ n. endpoint_of opening_head;
  recent = no_recent;
  descs = no_parts;
  parts = opening_parts;
  hand = Empty;
  frame = Nothing;
  order = λ n i. 0;
  out = λ n. [];
}

abbrev pub no_lines : Lines
no_lines = record { acc = λ n. []; reported = λ n. [] }

abbrev pub no_heads : Heads
no_heads = record { ins = λ n. false; outs = λ n. false; ends = λ n. endpoint_of opening_head }

pub new_mixed : (s : Script) → IsFit s → IsByteScript s → IsMixedAt new_standing (opening_world s)
new_mixed s fit bytes = record {
  now = new_is_framed_now s.words (room_of_script s) fit.least fit.most fit.whole_pages;
  turns = new_driver_queues s.words (room_of_script s);
  ring = record { head = refl; each = λ e x here. absurd (cc); only = λ n on. inl (eqb-true n 4096 on) };
  queues = record {
    queues = record {
      met = record { head = refl; each = λ e x here. absurd (cc); only = λ n on. inl (eqb-true n 4096 on) };
      streams_are = record { each = λ e x here. absurd (cc); only = λ n on. absurd (false≢true on) };
      fed = record { dummies = λ e x here. absurd (cc); pieces = λ t i y x here. absurd (cc); publishes = λ b words is. absurd (cc) };
      last = record {
        dummies = λ e x here. absurd (cc);
        taken = λ b words t y x is. absurd (cc);
        sorted = λ b words t y x is. absurd (cc);
      };
      out_are = λ e x here. absurd (cc);
    };
    sound = λ e x here. absurd (cc);
    tails = λ e x here. absurd (cc);
    controls = record {
      rises = λ e x here there. absurd (cc);
      sorted = λ e x here there. absurd (cc);
      stops = λ e x here met. absurd (cc);
      mends = record { queues = []; are = record { mends = refl; owed = tt; wait = tt; apart = tt } };
    };
  };
  under_way = tt;
  walking = new_world_walks s;
  numbers = new_is_numbered s.words (room_of_script s);
  masks = new_is_masked s.words (room_of_script s);
  awaiting = new_awaits_nothing s.words (room_of_script s) (opening_world s).memory;
  bytes = opened_bytes s bytes;
  owed = λ i t y x at. absurd (cc);
}

new_telling : (s : Script) → IsTelling new_standing no_lines (opening_world s)
new_telling s =
    let d : DriverContent = (opening s.words (room_of_script s)).driver in
    let none : (n : ℕ) → there_of (queued (opening_world s).driver) n ≡ true → ⊥ =
    λ n on. let b : HasBulkThere (queued (opening_world s).driver) n = bulk_there (queued (opening_world s).driver) n on in
    nothing_at b.has.number b.has.endpoint b.has.here in
    record {
      told = alike_is_told d (queued (opening_world s).driver) (in_hand new_standing) opening_parts (λ n. [])
          (record { reports = refl; store = refl; endpoints = refl; transfers = refl; notes = refl })
          (λ x there. record { linked = there.linked; kept = there.kept }) (λ x is. is)
          (new_is_told s.words (room_of_script s) (in_hand new_standing) opening_parts (λ n. []));
      moved = λ n on. absurd (none n on);
      sound = λ n on. absurd (none n on);
    }

-- the ring's own queue head sends nothing out
sends_none : SendsNone (opening_parts 4096)
sends_none a t here = by (a == 4096) here
  where
    by : (b : Bool) → cond b (Some (QueueHead opening_head)) None ≡ Some (Element t) → t.token.active ≡ true → t.token.pid ≢ 0
    by true f = absurd (cc)
    by false f = absurd (cc)

head_aside : (takes : ℕ → ℕ → Bool) (n : ℕ) → is_head n ≡ true → IsAside takes opening_parts n (endpoint_of opening_head)
head_aside takes n on =
    subst (λ (i : ℕ). IsAside takes opening_parts i (endpoint_of opening_head)) (sym (eqb-true n 4096 on))
    (record { queue = opening_head; head = refl; is = refl }, inr sends_none)

pub new_piped : (s : Script) → IsFit s → IsByteScript s → IsPiped (fixed_of s) (sides_of s) new_standing no_lines no_heads (opening_world s)
new_piped s fit bytes =
    let f = new_world_feeds s fit in
    record {
      mixed = new_mixed s fit bytes;
      telling = new_telling s;
      going = λ e x here iso kept. absurd (nothing_at e x here);
      declared = λ e y here. absurd (cc);
      descriptors = new_descriptors_named s;
      named = λ e y here. absurd (cc);
      by_way = record { each = λ e y here. absurd (cc); head = (refl, refl) };
      pipes = record {
        in_ends = f.working.streaming.ends;
        in_pipes = f.working.streaming.piped;
        out_ends = record {
          members = λ n on. absurd (false≢true on);
          on = λ n on. absurd (false≢true on);
          high = λ n on. absurd (false≢true on);
          apart = λ n i on. absurd (false≢true on);
        };
        out_pipes = record { pipes = λ n on. absurd (false≢true on); others = λ n on off. head_aside (takes_of s) n on };
      };
      new_heads = λ e y here. absurd (cc);
      fresh_ins = λ addr ep on unused. f.unopened addr ep on (λ n is. absurd (false≢true is));
      fresh_outs = λ addr ep on unused.
          opening_is_untaken s (λ n. false) (λ n. endpoint_of opening_head) addr ep on (λ n is. absurd (false≢true is));
    }

pub new_world_is_piped : NewWorldIsPiped
new_world_is_piped s fit bytes =
    record { standing = new_standing; lines = no_lines; heads = no_heads; piped = new_piped s fit bytes }

-- its ring has one queue head, of no endpoint
pub new_head : (s : Script) (fit : IsFit s) (bytes : IsByteScript s)
    → (new_world_is_piped s fit bytes).heads.ends (32 * head_block) ≡ endpoint_of opening_head
unfolding new_world_is_piped
new_head s fit bytes = refl

-- none left yet
pub none_left : (s : Script) (acc : ℕ → List (List ℕ)) (way : Way) (has : ℕ → ℕ → Bool) (P : ℕ → ℕ → List ℕ → Type 0)
    → AreLeft (opening_world s).driver acc way has P
none_left s acc way has P =
    record { unmet = λ e y here. absurd (nothing_at e y here); gone = λ e y here. absurd (nothing_at e y here) }
