-- Both sides of the pipe of each bulk or interrupt IN endpoint at high speed agree at each moment of a script's run.
use Rattle.std.proofs.Common.{◌≡◌, ◌≢◌, ℕ, ◌*◌, Bool, true, false, List, length, drop, take, Option, Some, None, ap, sym, subst, refl}
use Rattle.std.proofs.Common.{slice_get, ◌∙◌, inl}
use Rattle.std.specs.Prelude.{not, is_some}
use Rattle.std.specs.List.{concat}
use Rattle.std.proofs.lemmas.Bool.{cond_both, eq-eqb, and_from}
use Rattle.std.proofs.Math.Bool.{false≢true}
use Rattle.usb_base.specs.declared.endpoints.EpName.{EpName}
use Rattle.usb_base.specs.declared.packets.Way.{Way}
use Rattle.usb_base.specs.declared.packets.Way.TheVariants as ways
use Rattle.script_types.specs.declared.scripts.Script.{Script}
use Rattle.script_text.specs.Faults.{Spells}
use Rattle.endpoint_script.specs.Items.{packets_of}
use Rattle.endpoint_script.specs.Device.{endpoint_at}
use Rattle.qh_qtd.specs.declared.queue_head.Qh.{Qh}
use Rattle.hc_copy.specs.declared.held.Held.{Held}
use Rattle.hc_copy.specs.Overlay.{settled_queue}
use Rattle.periodic_walk.specs.declared.state.Hand.{Hand as FramesHand}
use Rattle.hc_core.specs.declared.controller.MicroframePart.{MicroframePart}
use Rattle.hc_core.specs.declared.controller.MicroframePart.TheVariants.{Over, Periodic, Asynchronous}
use Rattle.bus_wire.specs.Bus.{Fixed, fixed_of, opening_wired}
use Rattle.drv_table.specs.declared.content.Command.{Command}
use Rattle.drv_table.specs.declared.content.Command.TheVariants as unfinished
use Rattle.drv_table.specs.declared.content.Endpoint.{Endpoint}
use Rattle.drv_table.specs.Words.{is_high}
use Rattle.drv_periodic_table.specs.Periodic.{is_periodic}
use Rattle.claims_base.specs.Prefix.{IsPrefix}
use Rattle.claims_report.specs.Streams.{has_stream, items_of, told}
use Rattle.claims_world.specs.Streams.{report_of}
use Rattle.claims_headline.specs.Pipes.{toggle_of_copy, queue_copy, frame_copy, host_toggle, opens_now}
use Rattle.claims_headline.specs.Pipes.{IsOpenIn, InPipeAgrees, InPipesAgree}
use Rattle.bus_world.specs.Budgets.{moment}
use Rattle.bus_world.specs.World.{World}
use Rattle.law_structures.proofs.lemmas.lent_structures.Reading.{head_read}
use Rattle.law_ring.specs.Hand.{Hand, Empty, Copied, Settled, Stale, held_of}
use Rattle.law_ring.specs.Told.{Endpoint as Told, hand_toggle}
use Rattle.law_ring.specs.Bus.{Sender}
use Rattle.law_ring.specs.Pipes.{IsPipe}
use Rattle.law_frames.specs.FrameHand.{FrameHand, Nothing, OfQueue, OfSettled, OfItd, OfSitd, frame_held}
use Rattle.law_controller.specs.frame_control.Joined.{joined}
use Rattle.law_driver.specs.queued_drivers.Queued.{queued_endpoint, with_queue, queued_command, queued}
use Rattle.law_driver.proofs.Common.{of_queue, in_way}
use Rattle.law_driver.proofs.lemmas.endpoint_lives.Lives.{linked_met}
use Rattle.law_driver_ring.specs.fed_queues.Places.{IsMet}
use Rattle.law_devices.specs.Senders.{sender_of}
use Rattle.law_devices.proofs.Asking.{HasSender, sender_found}
use Rattle.law_devices.proofs.lemmas.opening_senders.Opening.{opening_sends}
use Rattle.law_world.specs.memory.Mixed.{Standing, IsMixedAt}
use Rattle.law_world.specs.steps.Streaming.{wired}
use Rattle.law_world.specs.streams.Feeding.{left_of}
use Rattle.law_world.proofs.Common.{named_in}
use Rattle.law_world.proofs.Common2.{told_first}
use Rattle.law_world.proofs.lemmas.memory.HarvestKept.{tells_of}
use Rattle.law_reports.specs.lines.Lined.{in_hand}
use Rattle.law_reports.specs.lines.TellingLaws.{IsToldWorld}
use Rattle.law_reports.specs.pipes.Declared.{Sides, sides_of, IsDeclaredBy}
use Rattle.law_reports.specs.pipes.Piped.{asked_as, IsPiped, HasFollowed}
use Rattle.law_reports.proofs.Common.{no_iso}
use Rattle.law_reports.proofs.lemmas.pipes.Begun.{on_ins, named}
use Rattle.law_reports.proofs.lemmas.pipes.FollowedMoments.{texts_are_followed}
use Rattle.law_reports.proofs.lemmas.pipes.lemmas.high_streams.Lives.{IsTold, told_then, told_none, told_there, lines_told, is_told}
use Rattle.law_reports.proofs.lemmas.pipes.lemmas.high_streams.Names.{texts_have_names}

-- ---- the toggle of the host

module _ (n : ℕ) (q : Qh) where
  ring_toggle : (hand : Hand) → toggle_of_copy n (held_of hand) q.token.toggle ≡ hand_toggle hand n q
  unfolding settled_queue
  ring_toggle Empty = refl
  ring_toggle (Copied c) = refl
  ring_toggle (Settled c s) = refl
  ring_toggle (Stale m v) = refl

  frame_toggle : (frame : FrameHand) → toggle_of_copy n (queue_copy (frame_held frame)) q.token.toggle
      ≡ hand_toggle (joined Empty frame) n q
  unfolding settled_queue
  frame_toggle Nothing = refl
  frame_toggle (OfQueue c made) = refl
  frame_toggle (OfSettled c s made) = refl
  frame_toggle (OfItd c) = refl
  frame_toggle (OfSitd c) = refl

over_apart : Over ≡ Periodic → ⊥
over_apart e = cc

ring_apart : Asynchronous ≡ Periodic → ⊥
ring_apart e = cc

module _ (w : World) (s : Standing) (mixed : IsMixedAt s w) (n : ℕ) (q : Qh) where
  abbrev by_words : Bool
  by_words = toggle_of_copy n w.control.walk.held q.token.toggle

  in_frames : w.control.part ≡ Periodic → host_toggle w n q ≡ hand_toggle (joined s.hand s.frame) n q
  in_frames is =
      let empty : s.hand ≡ Empty = mixed.now.framed.runs.between (λ e. ring_apart (sym e ∙ is)) in
      let walk = mixed.now.framed.runs.walk is in
      ap (λ (p : MicroframePart). toggle_of_copy n (frame_copy p w.control.frame.hand) by_words) is
      ∙ ap (λ (h : Option FramesHand). toggle_of_copy n (queue_copy h) by_words) walk.held
      ∙ ap (λ (o : Option Held). toggle_of_copy n (queue_copy (frame_held s.frame)) (toggle_of_copy n o q.token.toggle))
      (mixed.now.framed.runs.ring.held ∙ ap held_of empty)
      ∙ frame_toggle n q s.frame ∙ ap (λ (h : Hand). hand_toggle (joined h s.frame) n q) (sym empty)

  aside : (p : MicroframePart) → w.control.part ≡ p → (p ≡ Periodic → ⊥) → ((h : Option FramesHand) → frame_copy p h ≡ None)
      → host_toggle w n q ≡ hand_toggle (joined s.hand s.frame) n q
  aside p is other none =
      let nothing : s.frame ≡ Nothing = mixed.now.framed.runs.outside (inl (λ e. other (sym is ∙ e))) in
      ap (λ (m : MicroframePart). toggle_of_copy n (frame_copy m w.control.frame.hand) by_words) is
      ∙ ap (λ (o : Option Held). toggle_of_copy n o by_words) (none w.control.frame.hand)
      ∙ ap (λ (o : Option Held). toggle_of_copy n o q.token.toggle) mixed.now.framed.runs.ring.held
      ∙ ring_toggle n q s.hand ∙ ap (λ (f : FrameHand). hand_toggle (joined s.hand f) n q) (sym nothing)

  pub by_part : (p : MicroframePart) → w.control.part ≡ p → host_toggle w n q ≡ hand_toggle (joined s.hand s.frame) n q
  by_part Periodic is = in_frames is
  by_part Over is = aside Over is over_apart (λ h. refl)
  by_part Asynchronous is = aside Asynchronous is ring_apart (λ h. refl)

-- ---- its queue head is met

no_opening : (xs : List Endpoint) (c : Option Command) (b : ℕ) → opens_now c b ≡ false → queued_command xs c ≢ Some (unfinished.Open b)
no_opening xs None b off e = cc
no_opening xs (Some (unfinished.Open a)) b off e = let same : a ≡ b = cc in false≢true (sym off ∙ eq-eqb a b same)
no_opening xs (Some (unfinished.Publish m words)) b off e = cc
no_opening xs (Some (unfinished.Unlink m k link)) b off e = cc
no_opening xs (Some unfinished.Chain) b off e = cc
no_opening xs (Some (unfinished.Iso m t count)) b off e = cc
no_opening xs (Some (unfinished.Unchain m)) b off e = cc

module _ (w : World) (e : ℕ) (x : Endpoint) (stream : has_stream x.desc.kind ≡ true) (kept : x.gone ≡ false)
    (linked : is_periodic x.desc.kind ≡ false → x.linked ≡ true) (opened : opens_now w.driver.command x.queue ≡ false) where
  same : queued_endpoint x ≡ with_queue x
  same = of_queue x (no_iso x.desc.kind stream)

  is_linked : (queued_endpoint x).linked ≡ true
  is_linked =
      ap (λ (z : Endpoint). z.linked) same
      ∙ cond_both (is_periodic x.desc.kind) (not x.gone) x.linked (λ b. b ≡ true) (λ _. ap not kept) (λ off. linked off)

  pub is_met : IsMet (queued w.driver) e (queued_endpoint x)
  is_met = record {
    there = record {
      linked = subst (λ (b : ℕ). (queued w.driver).command ≢ Some (unfinished.Open b)) (sym (ap (λ (z : Endpoint). z.queue) same))
          (no_opening w.driver.endpoints w.driver.command x.queue opened);
      kept = ap (λ (z : Endpoint). z.gone) same ∙ kept;
    };
    near = linked_met (queued w.driver) e (queued_endpoint x) is_linked;
  }

-- ---- what is told of it

module _ (fixed : Fixed) (sides : Sides) (w : World) (f : HasFollowed fixed sides w) (e : ℕ) (x : Endpoint)
    (here : slice_get w.driver.endpoints e ≡ Some x) (stream : has_stream x.desc.kind ≡ true) (kept : x.gone ≡ false)
    (other : x.desc.name.way ≢ ways.Ctl) where
  to : IsToldWorld w
  to = record {
    standing = f.standing;
    lines = f.lines;
    mixed = f.followed.piped.mixed;
    telling = f.followed.piped.telling;
    going = f.followed.piped.going;
  }

  each : IsTold w to e x → IsPrefix (to.telling.told.told e) (concat (f.lines.acc (32 * x.queue)))
  unfolding to
  each (told_then gone is) = absurd (false≢true (sym kept ∙ gone))
  each (told_none is) =
      subst (λ (xs : List ℕ). IsPrefix xs (concat (f.lines.acc (32 * x.queue)))) (sym is) (concat (f.lines.acc (32 * x.queue)), refl)
  each (told_there there front) = front

  pub told_begins : IsPrefix (told (report_of fixed w) x.desc.name) (concat (f.lines.acc (32 * x.queue)))
  told_begins =
      told_first (told (report_of fixed w) x.desc.name) (to.telling.told.held e) (to.telling.told.told e)
      (concat (f.lines.acc (32 * x.queue))) (lines_told w to e x here stream other)
      (each (is_told w to e x here stream other))

-- ---- a moment

module _ (text : List ℕ) (s : Script) (spelled : Spells text s) (k e : ℕ) (x : Endpoint)
    (is_open : IsOpenIn (moment s k).world.driver e x) where
  abbrev w : World
  w = (moment s k).world

  abbrev n : ℕ
  n = 32 * x.queue

  abbrev name : EpName
  name = x.desc.name

  f : HasFollowed (fixed_of s) (sides_of s) (moment s k).world
  f = texts_are_followed text s spelled k

  abbrev p : IsPiped (fixed_of s) (sides_of s) f.standing f.lines f.heads (moment s k).world
  p = f.followed.piped

  way : x.desc.name.way ≡ ways.In
  way = in_way x.desc.name.way is_open.comes

  sends : (sides_of s).sends x.desc.name.addr x.desc.name.num ≡ true
  sends =
      subst (λ (v : Way). IsDeclaredBy (sides_of s) x.desc v) way (f.followed.piped.declared e x is_open.here)
      ∙ and_from (has_stream x.desc.kind) (is_high x.desc.speed) is_open.stream is_open.high

  met : IsMet (queued (moment s k).world.driver) e (queued_endpoint x)
  met = is_met w e x is_open.stream is_open.kept is_open.linked is_open.opened

  its : IsPipe ((sides_of s).packets x.desc.name.addr x.desc.name.num)
      (sender_of (wired (fixed_of s) (moment s k).world) x.desc.name.addr x.desc.name.num) (f.lines.acc (32 * x.queue)) f.standing.parts
      (in_hand f.standing) (32 * x.queue) (asked_as x.desc)
  its =
      let on = on_ins (fixed_of s) (sides_of s) f.standing f.lines f.heads w f.followed.piped e x is_open.here met way sends in
      subst (λ (u : Told). IsPipe ((sides_of s).packets u.addr u.ep) (sender_of (wired (fixed_of s) w) u.addr u.ep) (f.lines.acc n)
      f.standing.parts (in_hand f.standing) n u)
      (named (fixed_of s) (sides_of s) f.standing f.lines f.heads w f.followed.piped e x is_open.here met)
      (f.followed.piped.pipes.in_pipes.pipes n on)

  found : HasSender (wired (fixed_of s) (moment s k).world) x.desc.name.addr x.desc.name.num its.sender
  found = sender_found (wired (fixed_of s) w) x.desc.name.addr x.desc.name.num its.sender its.is

  stream_is : (sides_of s).packets x.desc.name.addr x.desc.name.num ≡ packets_of (items_of s x.desc.name)
  stream_is = by (sender_of (opening_wired s) x.desc.name.addr x.desc.name.num) refl
    where
      by : (o : Option Sender) → sender_of (opening_wired s) x.desc.name.addr x.desc.name.num ≡ o
          → left_of (sender_of (opening_wired s) x.desc.name.addr x.desc.name.num) ≡ packets_of (items_of s x.desc.name)
      by None is = absurd (false≢true (sym (ap is_some is) ∙ sends))
      by (Some z) is =
          ap left_of is
          ∙ opening_sends s x.desc.name.addr x.desc.name.num z (texts_have_names text s spelled).own is
          ∙ ap (λ (m : EpName). packets_of (items_of s m)) (named_in x.desc.name way)

  other : x.desc.name.way ≢ ways.Ctl
  other is = let no : ways.In ≡ ways.Ctl = sym way ∙ is in cc

  agrees : InPipeAgrees s (moment s k).world x
  agrees = record {
    queue = its.expects.queue;
    read = head_read w.memory f.standing.parts n n its.expects.queue (tells_of f.standing w f.followed.piped.mixed) its.expects.head;
    sender = record {
      place = found.place;
      asked = found.found;
      seat = found.seat;
      seated = found.there;
      at = found.device_place;
      owner = found.owner;
      device = found.at.device;
      there = found.at.is;
      endpoint = found.at.at.endpoint;
      found = ap (endpoint_at found.at.device.endpoints) found.at.at.is ∙ found.at.at.here;
      sending = found.at.at.part.sending;
      does = found.at.at.part.is;
    };
    known = its.half.known;
    accepted = length (f.lines.acc n);
    left = sym (ap (λ (z : Sender). z.left) found.at.at.part.sender) ∙ its.half.left ∙ ap (drop its.half.known) stream_is;
    near = its.half.agrees.near;
    sends = sym (ap (λ (z : Sender). z.sends) found.at.at.part.sender) ∙ its.half.agrees.sends_parity;
    expects = by_part w f.standing f.followed.piped.mixed n its.expects.queue w.control.part refl ∙ sym its.expects.is
        ∙ its.half.agrees.expects_parity;
    told_of = subst (λ (ps : List (List ℕ)). IsPrefix (told (report_of (fixed_of s) w) x.desc.name)
        (concat (take (length (f.lines.acc n)) ps)))
        stream_is
        (subst (λ (xs : List (List ℕ)). IsPrefix (told (report_of (fixed_of s) w) x.desc.name) (concat xs)) its.half.agrees.in_order
        (told_begins (fixed_of s) (sides_of s) w f e x is_open.here is_open.stream is_open.kept other));
  }

pub texts_keep_in_pipes : (text : List ℕ) (s : Script) → Spells text s → InPipesAgree s
texts_keep_in_pipes text s spelled k e x is_open = agrees text s spelled k e x is_open
