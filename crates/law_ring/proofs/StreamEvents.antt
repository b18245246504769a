-- Each event of the walk, by its effect.
use Rattle.std.proofs.Common.{ℕ, Bool, List, subst}
use Rattle.usb_base.specs.declared.packets.Ask.{Ask}
use Rattle.usb_base.specs.declared.packets.Reply.{Reply}
use Rattle.async_walk.specs.declared.state.WalkStep.{WalkStep}
use Rattle.async_walk.specs.Rows.{WalkPlace, at_event, event_row, step_of, Leads}
use Rattle.law_structures.specs.lent_structures.Structures.{StructureSets}
use Rattle.law_ring.specs.Hand.{Hand}
use Rattle.claims_base.specs.Controller.{Base}
use Rattle.law_ring.specs.Ring.{IsCopied, IsSettled, IsInHand, IsRing}
use Rattle.law_ring.specs.Effects.{Asks, Effect, Happens, AreBytesHeard}
use Rattle.law_ring.specs.Effects.Effect.{reads, passes, ends, takes, makes, writes_back}
use Rattle.law_ring.proofs.Stepping.{each_event}
use Rattle.law_ring.specs.Streams.{AreMembers, NoneBeside, StreamEffect, Streams}
use Rattle.law_ring.specs.Streams.StreamEffect.{same, grows}
use Rattle.law_ring.proofs.Keeping.{empty_unsettled, copied_unsettled, same_kept, taking_tells_the_same}
use Rattle.law_ring.proofs.QueueParts.{member_part}
use Rattle.law_ring.proofs.Growing.{asked_grows, ring_asks}
use Rattle.law_ring.proofs.Written.{writing_tells_the_same}

pub streams_by : {W : Type 0} (transacts : W → Ask → List ℕ → Reply → W → Type 0) (member : ℕ → Bool) (parts : StructureSets)
    (hand : Hand) (reply : Reply) (wire after : W) (now : StructureSets) (later : Hand) (kind : WalkStep) → AreMembers member parts
    → IsInHand member parts reply hand → Effect transacts parts hand wire after now later kind
    → StreamEffect NoneBeside transacts parts hand wire after now later
streams_by transacts member parts hand reply wire after now later kind members in_hand (reads k all quiet) = same (same_kept hand later parts now all (empty_unsettled hand k.nothing) (copied_unsettled later k.copy k.in_hand)) quiet
streams_by transacts member parts hand reply wire after now later kind members in_hand (passes k all quiet) = same (same_kept hand later parts now all k.unsettled (empty_unsettled later k.nothing)) quiet
streams_by transacts member parts hand reply wire after now later kind members in_hand (ends k all quiet) = same (same_kept hand later parts now all k.unsettled (empty_unsettled later k.nothing)) quiet
streams_by transacts member parts hand reply wire after now later kind members in_hand (takes k quiet) =
    let copied : IsCopied member parts k.copy = subst (IsInHand member parts reply) k.in_hand in_hand in
    same (taking_tells_the_same parts hand now later k copied.here) quiet
streams_by transacts member parts hand reply wire after now later kind members in_hand (makes k all) =
    let copied : IsCopied member parts k.copy = subst (IsInHand member parts reply) k.in_hand in_hand in
    let m : Asks transacts parts hand wire after later = ring_asks transacts parts hand wire after later k
    (member_part member k.copy.at (parts k.copy.at) (members k.copy.at copied.on)) copied.here in
    grows m all (asked_grows transacts parts hand wire after later m)
streams_by transacts member parts hand reply wire after now later kind members in_hand (writes_back k quiet) =
    let both : IsCopied member parts k.copy × IsSettled k.copy.queue reply k.settled = subst (IsInHand member parts reply) k.in_hand in_hand in
    same (writing_tells_the_same member parts hand now later k reply both.0 both.1 (members k.copy.at both.0.on).own) quiet

pub each_event_moves_one_stream : {W : Type 0} (transacts : W → Ask → List ℕ → Reply → W → Type 0) (base : Base) (member : ℕ → Bool) (parts : StructureSets) (hand : Hand) (p : WalkPlace) (wire : W) (new : WalkPlace) (after : W) → IsRing base member parts hand p → AreBytesHeard transacts wire after
    → Leads transacts (event_row p) (at_event p) wire new after → Streams transacts base member parts hand wire after new (step_of (event_row p) (at_event p))
each_event_moves_one_stream transacts base member parts hand p wire new after k heard lead =
    let h : Happens transacts base member parts hand wire after new (step_of (event_row p) (at_event p)) = each_event transacts base member parts hand p wire new after k heard lead in
    record { happens = h; streams = streams_by transacts member parts hand p.walk.reply wire after h.now h.later (step_of (event_row p) (at_event p)) k.members k.in_hand h.effect }
