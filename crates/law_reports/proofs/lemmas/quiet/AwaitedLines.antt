-- Where all packets on the high-speed bus get through, and no request clears a buffer of a hub or resets a translator, each line that tells a
-- halt by errors is of an interrupt endpoint below a hub.
use Rattle.std.proofs.Common.{◌≡◌, ℕ, ◌*◌, ◌==◌, ◌||◌, not, Bool, true, false, if◌then◌else◌, List, ◌++◌, slice_get}
use Rattle.std.proofs.Common.{Option, Some, None, ap, refl, sym, subst, ◌∙◌, ⊎_elim, inl, inr, ◌⊎◌, arith}
use Rattle.std.specs.Prelude.{find, unwrap_or}
use Rattle.std.specs.List.{AllByRecursion}
use Rattle.std.specs.Option.{option_map_or}
use Rattle.std.proofs.lemmas.Bool.{and_parts, and_from, eq-eqb, eqb-true, false≢true, true≢false}
use Rattle.law_common.proofs.Booleans.{not_high}
use Rattle.law_common.proofs.Lists.{nth_all}
use Rattle.usb_base.specs.declared.endpoints.EpDesc.{EpDesc}
use Rattle.usb_base.specs.declared.endpoints.EndCause.TheVariants as causes
use Rattle.usb_base.specs.declared.packets.EpKind.{EpKind}
use Rattle.usb_base.specs.declared.packets.EpKind.TheVariants as kinds
use Rattle.usb_base.specs.declared.reports.What.{What}
use Rattle.usb_base.specs.declared.reports.What.TheVariants as lines
use Rattle.script_types.specs.declared.devices.HubText.{HubText}
use Rattle.script_types.specs.declared.scripts.Script.{Script}
use Rattle.script_text.specs.Faults.{Spells}
use Rattle.link_words.specs.Layout.{bits}
use Rattle.qh_qtd.specs.QueueHead.{qh_words}
use Rattle.qh_qtd.specs.declared.queue_head.Qh.{Qh}
use Rattle.qh_qtd.specs.declared.token.Token.{Token}
use Rattle.mem_queues.specs.Structures.{queue_head_at_address}
use Rattle.hub_class.specs.HubContent.{HubContent}
use Rattle.bus_wire.specs.Bus.{fixed_of}
use Rattle.claims_answers.specs.Telling.{token_of, HasReason}
use Rattle.claims_driver.specs.InPlace.{capabilities}
use Rattle.claims_driver.specs.Owners.{is_descriptor}
use Rattle.claims_driver.specs.Ring.{IsAmong}
use Rattle.claims_world.specs.BelowStreams.{has_port, has_hub, heard_clear, SparesHub, LeavesTranslator}
use Rattle.claims_world.specs.Quiet.{LeavesBuffers, is_interrupt, is_unfailing}
use Rattle.drv_periodic_table.specs.Periodic.{is_periodic}
use Rattle.drv_table.specs.declared.content.Endpoint.{Endpoint}
use Rattle.drv_table.specs.declared.content.Transfer.{Transfer}
use Rattle.drv_table.specs.Kinds.{is_iso}
use Rattle.drv_table.specs.Words.{is_high}
use Rattle.law_driver.proofs.Common.{among_later}
use Rattle.law_driver.proofs.lemmas.queued_drivers.RowEvents.{queue_of_transfer}
use Rattle.law_driver.specs.queued_drivers.Queued.{queued, with_queue}
use Rattle.law_driver.specs.endpoint_lives.Lives.{is_one_of}
use Rattle.law_driver_ring.specs.fed_queues.Places.{IsMet}
use Rattle.law_driver_ring.proofs.lemmas.walk_members.Leading.{among_front}
use Rattle.law_queues.proofs.Common2.{one_among}
use Rattle.law_ring.specs.Told.{Endpoint as Told, endpoint_of}
use Rattle.law_below_hubs.specs.Splits.{IsAtHub}
use Rattle.law_devices.proofs.Lists.{Holds, all_find, found_passes}
use Rattle.law_microframes.proofs.lemmas.visits.BelongReads.{read_fields}
use Rattle.law_world.specs.memory.Mixed.{IsMixedAt}
use Rattle.law_world.specs.steps.Streaming.{wired}
use Rattle.bus_world.specs.Budgets.{moment}
use Rattle.bus_world.specs.World.{World}
use Rattle.law_reports.specs.pipes.Declared.{sides_of}
use Rattle.law_reports.specs.pipes.Piped.{asked_as, HasPiped}
use Rattle.law_reports.specs.pipes.below_hubs.BehindLaws.{hub_of, place_of}
use Rattle.law_reports.proofs.lemmas.pipes.lemmas.below_hubs.BehindMoments.{texts_are_behind}
use Rattle.law_reports.proofs.lemmas.pipes.lemmas.below_hubs.InwardReporting.{position_passes}
use Rattle.law_reports.proofs.lemmas.pipes.lemmas.hub_setups.Moments.{lines_spare_hubs}
use Rattle.law_reports.specs.quiet.Awaiting.{is_buffered, is_buffered_below, is_buffered_asked, SparesBuffers, IsAwaitedWorld}
use Rattle.law_reports.specs.quiet.AwaitingLaws.{TextsAreAwaited, TextsSpareBuffered}
use Rattle.law_reports.specs.quiet.Errors.{key_of, TokenHasLeft}
use Rattle.law_reports.specs.quiet.Heard.{IsHeardWorld}
use Rattle.law_reports.proofs.lemmas.quiet.AwaitedDriven.{slow_buffered}
use Rattle.law_reports.proofs.lemmas.quiet.AwaitedOpens.{texts_open_awaited}
use Rattle.law_reports.proofs.lemmas.quiet.AwaitedWorlds.{texts_are_awaited as worlds_are_awaited}
use Rattle.law_reports.proofs.lemmas.quiet.Heards.{texts_are_heard}
use Rattle.law_reports.proofs.lemmas.quiet.HubsDeclared.{texts_have_hubs}
use Rattle.law_reports.proofs.lemmas.quiet.Lines.{ReadsNone, asked, error_told, reads_unfailed, lines_below, of_errors}
use Rattle.law_reports.proofs.lemmas.quiet.Tokens.{token_there, is_met, part_there, head_there, token_read, queue_is, met_as}

-- ---- a queue head of the ring has no S-mask (EHCI 1.0, 3.6.2)

unmasked : (x : EpDesc) → bits 7 0 (capabilities x) ≡ 0
unfolding qh_words
unmasked x = omega arith

ringed_by : (kind : EpKind) → is_buffered kind ≡ true → is_periodic kind ≡ false
ringed_by kinds.Bulk is = refl
ringed_by kinds.Control is = refl
ringed_by kinds.Iso is = absurd (false≢true is)
ringed_by kinds.Interrupt is = absurd (false≢true is)

or_cases : (a b : Bool) → (a || b) ≡ true → (a ≡ true) ⊎ (b ≡ true)
or_cases true b is = inl refl
or_cases false b is = inr is

module _ (s : Script) (w : World) (puts : ℕ → List ℕ) (k : IsAwaitedWorld s puts w) (t : ℕ) (y : Transfer) (x : Endpoint)
    (there : slice_get w.driver.transfers t ≡ Some y)
    (here : slice_get w.driver.endpoints y.endpoint ≡ Some x) (sort : is_descriptor y.sort ≡ false) (untold : y.reported ≡ false)
    (going : x.ended ≡ None) (below : is_buffered_below x.desc ≡ true) where
  mixed : IsMixedAt k.standing w
  mixed = k.piped.mixed

  abbrev piped : HasPiped (fixed_of s) (sides_of s) w
  piped = record { standing = k.standing; lines = k.lines; heads = k.heads; piped = k.piped }

  ringed : is_periodic x.desc.kind ≡ false
  ringed = ringed_by x.desc.kind (and_parts (is_buffered x.desc.kind) (not (is_high x.desc.speed)) below).0

  met : IsMet (queued w.driver) y.endpoint (with_queue x)
  met = is_met k.standing w k.piped.mixed t y x there here sort untold going

  abbrev q : Qh
  q = (part_there k.standing w k.piped.mixed t y x there here sort untold going).queue

  read : queue_head_at_address w.memory (32 * x.queue) ≡ Some q
  read = head_there k.standing w k.piped.mixed t y x there here sort untold going

  own : endpoint_of q ≡ asked_as x.desc
  own =
      asked s w piped y.endpoint (32 * x.queue) x q here refl
      (k.piped.mixed.queues.queues.met.each y.endpoint (with_queue x)
      (queue_is k.standing w k.piped.mixed t y x there here sort untold going) met)
      (k.piped.named y.endpoint x here (met_as k.standing w k.piped.mixed t y x there here sort untold going met)) read

  rings : (x.linked ≡ true) ⊎ IsAmong y.endpoint (w.driver.rung ++ w.driver.waiting)
  rings =
      ⊎_elim (λ (linked : (if is_periodic x.desc.kind then not x.gone else x.linked) ≡ true).
      inl (ap (λ (b : Bool). if b then not x.gone else x.linked) (sym ringed) ∙ linked))
      (λ (other : (is_one_of y.endpoint w.driver.waiting || is_one_of y.endpoint w.driver.rung) ≡ true).
      inr (⊎_elim (λ (waits : is_one_of y.endpoint w.driver.waiting ≡ true).
      among_later y.endpoint w.driver.rung w.driver.waiting (one_among y.endpoint w.driver.waiting waits))
      (λ (rung : is_one_of y.endpoint w.driver.rung ≡ true).
      among_front y.endpoint w.driver.rung w.driver.waiting (one_among y.endpoint w.driver.rung rung))
      (or_cases (is_one_of y.endpoint w.driver.waiting) (is_one_of y.endpoint w.driver.rung) other)))
      (or_cases (if is_periodic x.desc.kind then not x.gone else x.linked)
      (is_one_of y.endpoint w.driver.waiting || is_one_of y.endpoint w.driver.rung) met.near)

  smask : q.smask ≡ 0
  smask =
      (read_fields w.memory (32 * x.queue) q read).smask
      ∙ ap (bits 7 0) (k.piped.mixed.now.framed.place.fixed.each y.endpoint x here rings).capabilities ∙ unmasked x.desc

  on : is_buffered_asked (key_of q) ≡ true
  on =
      and_from (not (q.eps == 2)) (q.smask == 0) (ap not (ap (λ (z : Told). z.speed == 2) own ∙ slow_buffered x.desc below))
      (eq-eqb q.smask 0 smask)

  none_left : (get last : Bool) (what : What) → HasReason get last (token_of w.memory y.place) what → what ≡ lines.Halt causes.Error → ⊥
  none_left get last what reason is =
      let f = token_there k.standing w k.piped.mixed t y x there here sort untold going in
      let left : TokenHasLeft is_buffered_asked (key_of q) f.qtd.token = (k.left.parts (32 * x.queue)).elements q (32 * y.place) f.qtd
      (part_there k.standing w k.piped.mixed t y x there here sort untold going).here f.here in
      let same : token_of w.memory y.place ≡ f.qtd.token = token_read k.standing w k.piped.mixed t y x there here sort untold going in
      let told = error_told get last (token_of w.memory y.place) what reason is in
      left.stopped on (ap (λ (z : Token). z.halted) (sym same) ∙ told.0) (ap (λ (z : Token). z.cerr) (sym same) ∙ told.1)

-- ---- of each endpoint that none of them is told of

reads_spared : (s : Script) (w : World) (puts : ℕ → List ℕ) → IsHeardWorld s w → IsAwaitedWorld s puts w
    → ReadsNone is_unfailing (lines.Halt causes.Error) w
reads_spared s w puts heard k t y x there here sort untold going bad get last what reason is = by (is_high x.desc.speed) refl
  where
    -- a queue is no isochronous endpoint's
    buffered : (kind : EpKind) → is_iso kind ≡ false → not (is_interrupt kind) ≡ true → is_buffered kind ≡ true
    buffered kinds.Bulk queue other = refl
    buffered kinds.Control queue other = refl
    buffered kinds.Iso queue other = absurd (true≢false queue)
    buffered kinds.Interrupt queue other = absurd (false≢true other)

    slow : is_high x.desc.speed ≡ false → is_buffered_below x.desc ≡ true
    slow off = and_from (is_buffered x.desc.kind) (not (is_high x.desc.speed))
        (buffered x.desc.kind
        (queue_of_transfer w.driver t y x there here sort k.piped.mixed.now.framed.place.sound.owners.orderly)
        (ap (λ (b : Bool). b || not (is_interrupt x.desc.kind)) (sym off) ∙ bad)) (ap not off)

    by : (b : Bool) → is_high x.desc.speed ≡ b → ⊥
    by true high = reads_unfailed s w heard t y x there here sort untold going high get last what reason is
    by false off = none_left s w puts k t y x there here sort untold going (slow off) get last what reason is

-- ---- no hub hears a request that takes a key

module _ (text : List ℕ) (s : Script) (spelled : Spells text s) where
  leaves_one : LeavesBuffers s → (x : EpDesc) → has_hub s x.hub x.port ≡ true → LeavesTranslator s x
  leaves_one leaves x has hub is = by (find (λ (h : HubText). h.addr == hub) s.hubs) refl (ap (λ (o : Option ℕ). has_hub s o x.port) (sym is) ∙ has)
    where
      by : (o : Option HubText) → find (λ (h : HubText). h.addr == hub) s.hubs ≡ o → option_map_or (has_port x.port) o false ≡ true
          → AllByRecursion (λ l. SparesHub hub l.1) s.lines
      by None found passes = absurd (false≢true passes)
      by (Some h) found passes =
          subst (λ (a : ℕ). AllByRecursion (λ l. SparesHub a l.1) s.lines)
          (eqb-true h.addr hub (found_passes (λ (z : HubText). z.addr == hub) s.hubs h found))
          (subst (Holds (λ (z : HubText). AllByRecursion (λ l. SparesHub z.addr l.1) s.lines)) found
          (all_find (λ (z : HubText). AllByRecursion (λ l. SparesHub z.addr l.1) s.lines) (λ (z : HubText). z.addr == hub) s.hubs leaves))

  hub_number : (x : EpDesc) → is_high x.speed ≡ false → has_hub s x.hub x.port ≡ true → Some (asked_as x).hub ≡ x.hub
  hub_number x slow has = by x.hub refl
    where
      by : (o : Option ℕ) → x.hub ≡ o → Some (asked_as x).hub ≡ x.hub
      by None is = absurd (false≢true (ap (λ (o : Option ℕ). has_hub s o x.port) (sym is) ∙ has))
      by (Some hub) is =
          ap (λ (i : ℕ). Some i) (ap (λ (b : Bool). if b then 0 else unwrap_or x.hub 0) slow
          ∙ ap (λ (o : Option ℕ). unwrap_or o 0) is) ∙ sym is

  spares : LeavesBuffers s → (j : ℕ) → SparesBuffers s (moment s j).world
  spares leaves j x o below h here =
      let slow : is_high x.speed ≡ false = not_high (is_high x.speed) (sym (and_parts (is_buffered x.kind) (not (is_high x.speed)) below).1) in
      let has : has_hub s x.hub x.port ≡ true = texts_have_hubs text s spelled x o slow in
      let at : IsAtHub (wired (fixed_of s) (moment s j).world).bus.hubs (asked_as x).hub (asked_as x).port (hub_of s x.hub)
      (place_of s x.hub x.port) =
      (texts_are_behind text s spelled j).behind.hubs (asked_as x).hub (asked_as x).port (hub_of s x.hub) (place_of s x.hub x.port)
      (texts_open_awaited text s spelled (texts_have_hubs text s spelled) x o below).hub in
      let address : (h.address == (asked_as x).hub) ≡ true =
      position_passes (λ (c : HubContent). c.address == (asked_as x).hub) (moment s j).world.bus.hubs (hub_of s x.hub) h at.found here in
      nth_all (λ (c : HubContent). Some c.address ≡ x.hub → heard_clear c ≡ false) (moment s j).world.bus.hubs (hub_of s x.hub) h
      (lines_spare_hubs text s x spelled (leaves_one leaves x has) j) here
      (ap (λ (a : ℕ). Some a) (eqb-true h.address (asked_as x).hub address) ∙ hub_number x slow has)

pub texts_are_awaited : TextsAreAwaited
texts_are_awaited text s spelled packets sparing =
    worlds_are_awaited text s spelled packets (texts_open_awaited text s spelled (texts_have_hubs text s spelled)) sparing

pub texts_spare_buffered : TextsSpareBuffered
texts_spare_buffered text s spelled above leaves k =
    lines_below is_unfailing (lines.Halt causes.Error) of_errors s
    (λ j. reads_spared s (moment s j).world _ (texts_are_heard text s spelled above j)
    (texts_are_awaited text s spelled above.packets (spares text s spelled leaves) j)) k
