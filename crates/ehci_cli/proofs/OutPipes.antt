-- Both sides of the pipe of each bulk or interrupt OUT endpoint at high speed agree at each moment of a script's run.
use Rattle.std.proofs.Common.{◌≡◌, ◌≢◌, ℕ, ◌+◌, ◌-◌, ◌*◌, ◌<◌, ◌≤◌, min, Bool, true, not, List, ◌++◌, length, take, drop}
use Rattle.std.proofs.Common.{Option, Some, ap, sym, subst, refl, ◌∙◌, ⊎_elim, arith}
use Rattle.std.specs.List.{concat}
use Rattle.std.proofs.lemmas.Bool.{and_from, cases_lt}
use Rattle.std.proofs.Math.Bool.{false≢true}
use Rattle.usb_base.specs.declared.packets.Speed.{Speed}
use Rattle.usb_base.specs.declared.packets.Speed.TheVariants.{High}
use Rattle.usb_base.specs.declared.packets.Way.{Way}
use Rattle.usb_base.specs.declared.packets.Way.TheVariants as ways
use Rattle.script_types.specs.declared.scripts.Script.{Script}
use Rattle.script_text.specs.Faults.{Spells}
use Rattle.word_mem.specs.Memory.{Mem}
use Rattle.mem_bytes.specs.Bytes.{bytes_at, places}
use Rattle.endpoint_script.specs.Device.{endpoint_at}
use Rattle.endpoint_script.specs.Taking.{Taking}
use Rattle.qh_qtd.specs.declared.qtd.Qtd.{Qtd}
use Rattle.qh_qtd.specs.declared.queue_head.Qh.{Qh}
use Rattle.hc_copy.specs.Overlay.{pages_of, buffer_place}
use Rattle.bus_wire.specs.Bus.{fixed_of}
use Rattle.drv_table.specs.declared.content.Endpoint.{Endpoint}
use Rattle.drv_table.specs.Words.{is_high}
use Rattle.claims_base.specs.Prefix.{IsPrefix}
use Rattle.claims_report.specs.Streams.{has_stream, stream}
use Rattle.claims_world.specs.Streams.{report_of}
use Rattle.claims_headline.specs.Pipes.{host_toggle, next_packet, IsOpenOut, AreNear, OutPipeAgrees, PipesAgree}
use Rattle.claims_headline.specs.Pipes.AreNear.{level as near_level, ahead as near_ahead, halted as near_halted}
use Rattle.app_forms.specs.Scripts.{OfEachPlainScript}
use Rattle.ehci_cli.proofs.Each.{of_each_plain}
use Rattle.ehci_cli.proofs.Pipes.{by_part, is_met, told_begins, texts_keep_in_pipes}
use Rattle.bus_world.specs.Budgets.{moment}
use Rattle.bus_world.specs.World.{World}
use Rattle.law_structures.specs.lent_structures.Structures.{QueueHead, StructureSets, Tells}
use Rattle.law_structures.specs.lent_structures.Sound.{element_pages, buffer_name, HasBuffer, IsReady, IsWorking}
use Rattle.law_structures.proofs.lemmas.lent_structures.Altering.{found_element, found_queue}
use Rattle.law_structures.proofs.lemmas.lent_structures.Reading.{head_read, bytes_part}
use Rattle.law_ring.specs.Hand.{Hand}
use Rattle.law_ring.specs.Effects.{bytes_in, buffer_of}
use Rattle.law_ring.specs.QueueParts.{IsQueuePart}
use Rattle.law_ring.specs.Told.{Endpoint as Told}
use Rattle.law_ring.specs.OutBus.{Taker}
use Rattle.law_ring.specs.OutPipes.{IsNext, OutAgrees, level, ahead, ended, IsOutPipe}
use Rattle.law_driver.specs.queued_drivers.Queued.{queued_endpoint, queued}
use Rattle.law_driver.proofs.Common.{out_way, of_queue, get_queued}
use Rattle.law_driver_ring.specs.fed_queues.Places.{IsMet}
use Rattle.law_devices.specs.scripted_takers.Takers.{taker_of}
use Rattle.law_devices.proofs.lemmas.scripted_takers.Asking.{HasTaker, taker_found}
use Rattle.law_world.specs.steps.Streaming.{wired}
use Rattle.law_world.specs.streams.put_laws.TakenPuts.{puts_of, puts_at}
use Rattle.law_world.proofs.Common.{begins_both}
use Rattle.law_world.proofs.lemmas.memory.HarvestKept.{tells_of}
use Rattle.law_world.proofs.lemmas.streams.lemmas.put_laws.Ends.{streams_are_of_puts}
use Rattle.law_world.proofs.lemmas.streams.lemmas.put_laws.Rising.{texts_rise}
use Rattle.law_reports.specs.lines.Lined.{in_hand}
use Rattle.law_reports.specs.pipes.Declared.{sides_of, IsDeclaredBy}
use Rattle.law_reports.specs.pipes.Piped.{asked_as, HasFollowed}
use Rattle.law_reports.specs.pipes.high_streams.Reports.{IsHigh}
use Rattle.law_reports.proofs.Common.{no_iso}
use Rattle.law_reports.proofs.lemmas.pipes.Begun.{on_outs, named}
use Rattle.law_reports.proofs.lemmas.pipes.FollowedMoments.{texts_are_followed}
use Rattle.law_reports.proofs.lemmas.pipes.lemmas.puts.PaidMoments.{texts_take_what_was_put}

is_high_speed : (v : Speed) → is_high v ≡ true → v ≡ High
is_high_speed High is = refl
is_high_speed _ is = absurd (false≢true is)

-- ---- the packet that is sent next

module _ (m : Mem) (parts : StructureSets) (n : ℕ) (q : Qh) (tells : Tells m parts) (part : IsQueuePart n (parts n))
    (head : parts n n ≡ Some (QueueHead q)) (on : q.token.active ≡ true) where
  working : IsWorking (parts n) q
  working =
      let one : part.queue ≡ q = found_queue (parts n n) part.queue q part.here head in
      subst (λ (y : Qh). IsWorking (parts n) y) one (part.sound.work (ap (λ (y : Qh). y.token.active) one ∙ on))

  abbrev count : ℕ
  count = min q.max q.token.total

  sent_next : List ℕ
  sent_next = take (min q.max q.token.total) (drop (buffer_place q - working.element.offset) (buffer_of (parts n) working.element))

  few : min q.max q.token.total ≤ q.token.total
  few = omega arith

  by_buffer : (w : IsWorking (parts n) q) → 0 < count
      → next_packet m q ≡ take count (drop (buffer_place q - w.element.offset) (buffer_of (parts n) w.element))
  by_buffer w some =
      let t : Qtd = w.element in
      let fewer = w.fewer in
      let stands = w.place in
      let ready : IsReady (parts n) t = (part.elements q.current t w.here).work w.published in
      let has : HasBuffer (parts n) t t.token.total = ready.buffer (omega (arith, some, few, fewer)) in
      let size = has.size in
      let inside : buffer_place q - t.offset + count ≤ length has.bytes = omega (arith, stands, fewer, size, few) in
      let read = bytes_part m parts n (buffer_name t) (element_pages t) t.offset has.bytes (buffer_place q - t.offset) count tells has.here
      inside in
      let place : t.offset + (buffer_place q - t.offset) ≡ buffer_place q = omega (arith, stands, fewer) in
      ap (λ (ps : List ℕ). bytes_at m ps (buffer_place q) count) w.pages
      ∙ ap (λ (i : ℕ). bytes_at m (element_pages t) i count) (sym place) ∙ read
      ∙ ap (λ (bs : List ℕ). take count (drop (buffer_place q - t.offset) bs)) (sym (ap bytes_in has.here))

  by_none : (w : IsWorking (parts n) q) → count ≡ 0
      → next_packet m q ≡ take count (drop (buffer_place q - w.element.offset) (buffer_of (parts n) w.element))
  unfolding bytes_at places
  by_none w none =
      ap (λ (i : ℕ). bytes_at m (pages_of q) (buffer_place q) i) none
      ∙ sym (ap (λ (i : ℕ). take i (drop (buffer_place q - w.element.offset) (buffer_of (parts n) w.element))) none)

  pub next_is : (y : List ℕ) → IsNext (parts n) q y → y ≡ next_packet m q
  next_is y next =
      let w : IsWorking (parts n) q = working in
      let one : next.element ≡ w.element = found_element (parts n q.current) next.element w.element next.here w.here in
      next.is ∙ ap (λ (t : Qtd). take (min q.max q.token.total) (drop (buffer_place q - t.offset) (buffer_of (parts n) t))) one
      ∙ sym (⊎_elim (λ (some : 0 < min q.max q.token.total). by_buffer w some)
      (λ (none : min q.max q.token.total ≤ 0). let zero : min q.max q.token.total ≡ 0 = omega (arith, none) in by_none w zero)
      (cases_lt 0 (min q.max q.token.total)))

-- ---- how near both sides are

near_by : (m : Mem) (parts : StructureSets) (hand : Hand) (n : ℕ) (q : Qh) (h host : Bool) (known : List ℕ) (s : Taker) (t : Taking)
    → Tells m parts → IsQueuePart n (parts n) → parts n n ≡ Some (QueueHead q) → host ≡ h → s.taken ≡ t.taken → s.expects ≡ t.toggle
    → OutAgrees (parts n) hand n q h known s → AreNear m q host known t
near_by m parts hand n q h host known s t tells part head same all toggle (level expects taken) =
    near_level (sym toggle ∙ expects ∙ sym same) (sym all ∙ taken)
near_by m parts hand n q h host known s t tells part head same all toggle (ahead more expects taken own active next unmoved) =
    near_ahead (sym toggle ∙ expects ∙ ap not (sym same))
    (sym all ∙ taken ∙ ap (λ (xs : List ℕ). known ++ xs) (next_is m parts n q tells part head active more next)) active
near_by m parts hand n q h host known s t tells part head same all toggle (ended more expects taken active halted) =
    near_halted more (sym toggle ∙ expects ∙ ap not (sym same)) (sym all ∙ taken) active halted

-- ---- a moment

module _ (text : List ℕ) (s : Script) (spelled : Spells text s) (k e : ℕ) (x : Endpoint)
    (is_open : IsOpenOut (moment s k).world.driver e x) where
  abbrev w : World
  w = (moment s k).world

  abbrev n : ℕ
  n = 32 * x.queue

  f : HasFollowed (fixed_of s) (sides_of s) (moment s k).world
  f = texts_are_followed text s spelled k

  way : x.desc.name.way ≡ ways.Out
  way = out_way x.desc.name.way is_open.leaves

  other : x.desc.name.way ≢ ways.Ctl
  other is = let no : ways.Out ≡ ways.Ctl = sym way ∙ is in cc

  takes : (sides_of s).takes x.desc.name.addr x.desc.name.num ≡ true
  takes =
      subst (λ (v : Way). IsDeclaredBy (sides_of s) x.desc v) way (f.followed.piped.declared e x is_open.here)
      ∙ and_from (has_stream x.desc.kind) (is_high x.desc.speed) is_open.stream is_open.high

  met : IsMet (queued (moment s k).world.driver) e (queued_endpoint x)
  met = is_met w e x is_open.stream is_open.kept is_open.linked is_open.opened

  its : IsOutPipe (taker_of (wired (fixed_of s) (moment s k).world) x.desc.name.addr x.desc.name.num) (concat (f.lines.acc (32 * x.queue)))
      f.standing.parts (in_hand f.standing) (32 * x.queue) (asked_as x.desc)
  its =
      let on = on_outs (fixed_of s) (sides_of s) f.standing f.lines f.heads w f.followed.piped e x is_open.here met way takes in
      subst (λ (u : Told). IsOutPipe (taker_of (wired (fixed_of s) w) u.addr u.ep) (concat (f.lines.acc n)) f.standing.parts
      (in_hand f.standing) n u)
      (named (fixed_of s) (sides_of s) f.standing f.lines f.heads w f.followed.piped e x is_open.here met)
      (f.followed.piped.pipes.out_pipes.pipes n on)

  found : HasTaker (wired (fixed_of s) (moment s k).world) x.desc.name.addr x.desc.name.num its.taker
  found = taker_found (wired (fixed_of s) w) x.desc.name.addr x.desc.name.num its.taker its.is

  part : IsQueuePart (32 * x.queue) (f.standing.parts (32 * x.queue))
  part =
      subst (λ (b : ℕ). IsQueuePart (32 * b) (f.standing.parts (32 * b)))
      (ap (λ (z : Endpoint). z.queue) (of_queue x (no_iso x.desc.kind is_open.stream)))
      (f.followed.piped.mixed.queues.sound e (queued_endpoint x) (get_queued w.driver.endpoints e x is_open.here) met)

  -- ---- what was put

  high : IsHigh s x.desc
  high = record {
    on = and_from (has_stream x.desc.kind) (is_high x.desc.speed) is_open.stream is_open.high;
    stream = is_open.stream;
    speed = is_high_speed x.desc.speed is_open.high;
  }

  put : IsPrefix its.taker.taken (stream s (report_of (fixed_of s) (moment s k).world) x.desc.name)
  put =
      begins_both its.taker.taken (concat (puts_of w.driver (puts_at s k) e)) (stream s (report_of (fixed_of s) w) x.desc.name)
      (texts_take_what_was_put text s spelled k e x its.taker is_open.here high is_open.leaves its.is)
      ((streams_are_of_puts s (texts_rise text s spelled) k).begin e x is_open.here is_open.stream is_open.leaves)

  agrees : OutPipeAgrees s (moment s k).world x
  agrees = record {
    queue = its.expects.queue;
    read = head_read w.memory f.standing.parts n n its.expects.queue (tells_of f.standing w f.followed.piped.mixed) its.expects.head;
    taker = record {
      place = found.place;
      asked = found.found;
      seat = found.seat;
      seated = found.there;
      at = found.device_place;
      owner = found.owner;
      device = found.at.device;
      there = found.at.is;
      endpoint = found.at.at.endpoint;
      found = ap (endpoint_at found.at.device.endpoints) found.at.at.is ∙ found.at.at.here;
      taking = found.at.at.part.taking;
      does = found.at.at.part.is;
    };
    moved = concat (f.lines.acc n);
    near = near_by w.memory f.standing.parts (in_hand f.standing) n its.expects.queue its.toggle
        (host_toggle w n its.expects.queue) (concat (f.lines.acc n)) its.taker found.at.at.part.taking
        (tells_of f.standing w f.followed.piped.mixed) part its.expects.head
        (by_part w f.standing f.followed.piped.mixed n its.expects.queue w.control.part refl ∙ sym its.expects.is)
        (ap (λ (z : Taker). z.taken) found.at.at.part.taker) (ap (λ (z : Taker). z.expects) found.at.at.part.taker) its.agrees;
    told_of = told_begins (fixed_of s) (sides_of s) w f e x is_open.here is_open.stream is_open.kept other;
    put = subst (λ (xs : List ℕ). IsPrefix xs (stream s (report_of (fixed_of s) w) x.desc.name))
        (ap (λ (z : Taker). z.taken) found.at.at.part.taker) put;
  }

texts_keep_pipes : (text : List ℕ) (s : Script) → Spells text s → PipesAgree s
texts_keep_pipes text s spelled = record {
  ins = texts_keep_in_pipes text s spelled;
  outs = λ k e x is_open. agrees text s spelled k e x is_open;
}

pub source_keeps_pipes : (words : List (List ℕ)) (left : Option (List ℕ)) → OfEachPlainScript PipesAgree words left
source_keeps_pipes = of_each_plain PipesAgree texts_keep_pipes
