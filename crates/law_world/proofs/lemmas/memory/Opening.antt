-- A new world is one with endpoints of every kind: none is there, and the walk of the ring meets its head alone.
use Rattle.std.proofs.Common.{false, [], refl, inl}
use Rattle.std.proofs.lemmas.Bool.{eqb-true, false≢true}
use Rattle.drv_table.specs.Words.{opening_head}
use Rattle.law_driver_ring.specs.PartOpened.{no_parts, opening_parts, is_head}
use Rattle.law_ring.specs.Hand.{Empty}
use Rattle.law_ring.specs.Told.{endpoint_of}
use Rattle.law_frames.specs.FrameHand.{Nothing}
use Rattle.law_descriptors.specs.Meeting.{no_recent}
use Rattle.law_driver.proofs.lemmas.queued_drivers.RowTurns.{new_driver_queues}
use Rattle.law_world.proofs.lemmas.steps.lemmas.controlled_walks.Worlds.{new_world_walks}
use Rattle.law_world.proofs.lemmas.memory.lemmas.framed_memory.Now.{new_is_framed_now}
use Rattle.law_world.proofs.lemmas.memory.lemmas.framed_memory.Awaiting.{new_awaits_nothing}
use Rattle.law_world.proofs.lemmas.memory.lemmas.framed_memory.Masking.{new_is_masked}
use Rattle.law_world.proofs.lemmas.memory.lemmas.framed_memory.Numbering.{new_is_numbered}
use Rattle.bus_world.specs.Rooms.{room_of_script}
use Rattle.bus_world.specs.Opening.{opening_world}
use Rattle.law_world.proofs.lemmas.steps.lemmas.world_bytes.Turning.{opened_bytes}
use Rattle.law_world.specs.memory.Laws.{NewWorldIsMixed}

pub new_world_is_mixed : NewWorldIsMixed
new_world_is_mixed s fit bytes = record {
  standing = record {
    member = is_head;
    near = is_head;
    streams = λ n. false;
    ends = λ n. endpoint_of opening_head;
    recent = no_recent;
    descs = no_parts;
    parts = opening_parts;
    hand = Empty;
    frame = Nothing;
    order = λ n i. 0;
    out = λ n. [];
  };
  mixed = record {
    now = new_is_framed_now s.words (room_of_script s) fit.least fit.most fit.whole_pages;
    turns = new_driver_queues s.words (room_of_script s);
    ring = record { head = refl; each = λ e x here. absurd (cc); only = λ n on. inl (eqb-true n 4096 on) };
    queues = record {
      queues = record {
        met = record { head = refl; each = λ e x here. absurd (cc); only = λ n on. inl (eqb-true n 4096 on) };
        streams_are = record { each = λ e x here. absurd (cc); only = λ n on. absurd (false≢true on) };
        fed = record { dummies = λ e x here. absurd (cc); pieces = λ t i y x here. absurd (cc); publishes = λ b words is. absurd (cc) };
        last = record { dummies = λ e x here. absurd (cc); taken = λ b words t y x is. absurd (cc); sorted = λ b words t y x is. absurd (cc) };
        out_are = λ e x here. absurd (cc);
      };
      sound = λ e x here. absurd (cc);
      tails = λ e x here. absurd (cc);
      controls = record {
        rises = λ e x here there. absurd (cc);
        sorted = λ e x here there. absurd (cc);
        stops = λ e x here met. absurd (cc);
        mends = record { queues = []; are = record { mends = refl; owed = tt; wait = tt; apart = tt } };
      };
    };
    under_way = tt;
    walking = new_world_walks s;
    numbers = new_is_numbered s.words (room_of_script s);
    masks = new_is_masked s.words (room_of_script s);
    awaiting = new_awaits_nothing s.words (room_of_script s) (opening_world s).memory;
    bytes = opened_bytes s bytes;
    owed = λ i t y x at. absurd (cc);
  };
}
