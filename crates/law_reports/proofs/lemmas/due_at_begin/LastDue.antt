-- The last complete-split of a frame is answered by what the device said, where the start-split came (EHCI 1.0, 4.12.2.1; USB 2.0, 11.18.4
-- and 11.20).
use Rattle.std.proofs.Common.{◌≡◌, ◌≢◌, ℕ, ◌*◌, true, List, slice_get, Some, ap, refl, sym, subst, ◌∙◌, arith}
use Rattle.std.proofs.Common.{[], ◌∷◌, inl, inr}
use Rattle.std.specs.Prelude.{◌==◌, ◌&&◌}
use Rattle.std.specs.List.{find}
use Rattle.std.proofs.lemmas.Bool.{and_parts, eqb-true, false≢true}
use Rattle.std.proofs.lemmas.Option.{same_Some}
use Rattle.law_devices.proofs.Lists.{Holds, all_find, found_passes}
use Rattle.usb_base.specs.declared.endpoints.EpDesc.{EpDesc}
use Rattle.usb_base.specs.declared.endpoints.EpName.{EpName}
use Rattle.usb_base.specs.declared.packets.EpKind.{EpKind}
use Rattle.usb_base.specs.declared.packets.EpKind.TheVariants as kinds
use Rattle.usb_base.specs.declared.packets.Reply.{Reply}
use Rattle.usb_base.specs.declared.packets.Way.{Way}
use Rattle.usb_base.specs.declared.packets.Way.TheVariants as ways
use Rattle.script_types.specs.declared.scripts.Script.{Script}
use Rattle.script_text.specs.Faults.{Spells}
use Rattle.hub_keys.specs.Keys.{is_same_key, is_same_direction, is_same_kind}
use Rattle.hub_keys.specs.declared.key.Key.{Key}
use Rattle.multi_tt.specs.Translators.{place_of}
use Rattle.bandwidth.specs.declared.placements.Placement.{Placement}
use Rattle.drv_periodic_table.specs.Periodic.{dir_of}
use Rattle.drv_table.specs.declared.content.Endpoint.{Endpoint}
use Rattle.hc_interrupt.specs.Turns.{microframe_of}
use Rattle.bus_wire.specs.Bus.{Fixed, fixed_of}
use Rattle.bus_world.specs.Budgets.{moment}
use Rattle.bus_world.specs.World.{World}
use Rattle.claims_world.specs.DueAtBegin.{begun}
use Rattle.claims_world.specs.QueuesMade.{QueueMade, queues_made, HasMade}
use Rattle.law_driver.specs.queued_drivers.Queued.{IsOfWay}
use Rattle.law_driver.proofs.lemmas.planned_endpoints.Laws.{what_counts_is_an_endpoint}
use Rattle.law_world.specs.memory.Mixed.{IsMixedWorld}
use Rattle.law_world.proofs.lemmas.memory.Together.{texts_stay_mixed}
use Rattle.law_microframes.specs.due.repeats.Hearing.{IsHeardOn}
use Rattle.law_microframes.specs.translators.Results.{Entry, Exchange, Ahead, Made, AnswerRow, Result, row_at, answer_row, result_of, answer_at}
use Rattle.law_microframes.specs.translators.Results.{answer_from, complete_answer, has_key, key_for, pipeline_for}
use Rattle.law_microframes.specs.translators.Results.{port_at, IsLastDue, IsAnswered, IsToldBy, LastAnswersAreThere, AnswersAreHeard}
use Rattle.law_microframes.specs.translators.Told.{IsLastIn, IsToldByLast}
use Rattle.law_microframes.proofs.lemmas.due.lemmas.repeats.AskedHeads.{no_control}
use Rattle.law_microframes.proofs.lemmas.due.lemmas.repeats.Heard.{served}
use Rattle.law_microframes.proofs.lemmas.due.lemmas.repeats.RepeatMoments.{texts_are_heard}
use Rattle.law_microframes.proofs.lemmas.translators.ToldByLast.{texts_tell_by_last}
use Rattle.law_reports.specs.lines.Lined.{in_hand}
use Rattle.law_reports.specs.pipes.Declared.{sides_of}
use Rattle.law_reports.specs.pipes.Piped.{HasFollowed}
use Rattle.law_reports.proofs.lemmas.lines.IsoGoing.{told_apart}
use Rattle.law_reports.proofs.lemmas.pipes.FollowedMoments.{texts_are_followed}
use Rattle.law_reports.proofs.lemmas.pipes.Names.{name_is}
use Rattle.law_reports.proofs.lemmas.due_at_begin.Answered.{pipeline_is}
use Rattle.law_reports.proofs.lemmas.due_at_begin.BegunMoments.{so_as_begun}
use Rattle.law_reports.proofs.lemmas.due_at_begin.SplitHeads.{not_high}

-- ---- keys

interrupt_kind : (a b : EpKind) → is_same_kind a b ≡ true → b ≡ kinds.Interrupt → a ≡ kinds.Interrupt
interrupt_kind kinds.Interrupt b same is = refl
interrupt_kind kinds.Control kinds.Interrupt same is = absurd (false≢true same)
interrupt_kind kinds.Iso kinds.Interrupt same is = absurd (false≢true same)
interrupt_kind kinds.Bulk kinds.Interrupt same is = absurd (false≢true same)
interrupt_kind a _ same is = absurd cc

one_way : (a b : Way) → a ≢ ways.Ctl → b ≢ ways.Ctl → is_same_direction (dir_of a) (dir_of b) ≡ true → a ≡ b
one_way ways.In ways.In one two same = refl
one_way ways.Out ways.Out one two same = refl
one_way ways.In ways.Out one two same = absurd (false≢true same)
one_way ways.Out ways.In one two same = absurd (false≢true same)
one_way ways.Ctl b one two same = absurd (one refl)
one_way a ways.Ctl one two same = absurd (two refl)

-- ---- a result is that of a transaction that was made

record IsMadeBy (e : Entry) : Type 0 where
  reply : Reply
  made : e.exchange ≡ Made reply
  answer : answer_from (Some e) ≡ result_of reply

made_by : (e : Entry) (x : Exchange) → e.exchange ≡ x → answer_row e ≡ Result → IsMadeBy e
made_by e (Ahead sent) is result = absurd (let never = sym (ap (λ (y : Exchange). row_at y e) is) ∙ result in cc)
made_by e (Made reply) is result = record {
  reply = reply;
  made = is;
  answer = ap (λ (r : AnswerRow). answer_at r e) result ∙ ap (λ (y : Exchange). answer_of_made y) is;
}
  where
    answer_of_made : Exchange → Reply
    answer_of_made y = answer_at Result (record e { exchange = y })

-- ---- at a moment

pub record IsThere (fixed : Fixed) (w : World) (e q : ℕ) (d : IsLastDue fixed w e q) : Type 0 where
  pub reply : Reply
  pub made : d.entry.exchange ≡ Made reply
  pub answer : complete_answer (key_for d.complete.split.there.endpoint.desc)
      (pipeline_for w.bus.hubs d.has.hub d.complete.split.there.endpoint.desc.port) ≡ result_of reply

module _ (text : List ℕ) (s : Script) (spelled : Spells text s) (k e q : ℕ) (d : IsLastDue (fixed_of s) (moment s k).world e q) where
  abbrev w : World
  w = (moment s k).world

  abbrev z : Endpoint
  z = d.complete.split.there.endpoint

  abbrev x : EpDesc
  x = d.complete.split.there.endpoint.desc

  mixed : IsMixedWorld (moment s k).world
  mixed = texts_stay_mixed text s spelled k

  interrupt_way : (n : ℕ) (y : Endpoint) → slice_get (moment s k).world.driver.endpoints n ≡ Some y → y.desc.kind ≡ kinds.Interrupt
      → y.desc.name.way ≢ ways.Ctl
  interrupt_way n y here kind is =
      off (subst (λ (way : Way). IsOfWay way y.desc.kind) is (mixed.mixed.turns.kinds_fit n y here))
    where
      off : y.desc.kind ≡ kinds.Control → ⊥
      off other = let never : kinds.Interrupt ≡ kinds.Control = sym kind ∙ other in cc

  heard : IsHeardOn (fixed_of s) (moment s k).world.bus d.complete.split.there.endpoint.desc
  heard =
      texts_are_heard text s spelled k e z d.complete.split.there.here (not_high x.speed d.complete.split.classic)
      (no_control x (mixed.mixed.turns.kinds_fit e z d.complete.split.there.here) d.complete.split.there.kind)

  found : find (has_key (key_for d.complete.split.there.endpoint.desc)) heard.translator.translator.pipeline ≡ Some d.entry
  found =
      ap (find (has_key (key_for x)))
      (sym (ap (λ (n : ℕ). pipeline_for w.bus.hubs n x.port) (same_Some d.has.hub heard.hub (sym d.has.behind ∙ heard.behind))
      ∙ pipeline_is w.bus.hubs heard.hub x.port heard.translator)) ∙ d.has.there

  at : (j : ℕ) × (slice_get heard.translator.content.translators.all j ≡ Some heard.translator.translator)
  at =
      served (place_of heard.translator.content.translators.multi x.port) x.port heard.translator.content.translators
      heard.translator.translator refl heard.translator.serves

  -- its translator tells it
  abbrev Tells : Entry → Type 0
  Tells y = IsToldByLast (moment s k).world.driver (moment s k).world.registers.frame_index heard.translator.content.address
      (port_at heard.translator.content.translators.multi at.0) y

  tells : Tells d.entry
  tells =
      subst (Holds Tells) found
      (all_find Tells (has_key (key_for x)) heard.translator.translator.pipeline
      (texts_tell_by_last text s spelled k heard.translator.place at.0 heard.translator.content heard.translator.translator
      heard.translator.here at.1))

  -- the entry is this endpoint's
  record IsOwn : Type 0 where
    kind : tells.owner.desc.kind ≡ kinds.Interrupt
    number : tells.owner.number ≡ e

  is_own : IsOwn
  is_own =
      let o = tells.owner in
      let same : is_same_key (key_for o.desc) (key_for x) ≡ true =
      ap (λ (c : Key). is_same_key c (key_for x)) o.is
      ∙ found_passes (has_key (key_for x)) heard.translator.translator.pipeline d.entry found in
      let one = and_parts (o.desc.name.addr == x.name.addr && o.desc.name.num == x.name.num
      && is_same_direction (dir_of o.desc.name.way) (dir_of x.name.way)) (is_same_kind o.desc.kind x.kind) same in
      let two = and_parts (o.desc.name.addr == x.name.addr && o.desc.name.num == x.name.num)
      (is_same_direction (dir_of o.desc.name.way) (dir_of x.name.way)) one.0 in
      let three = and_parts (o.desc.name.addr == x.name.addr) (o.desc.name.num == x.name.num) two.0 in
      let kind : o.desc.kind ≡ kinds.Interrupt = interrupt_kind o.desc.kind x.kind one.1 d.complete.split.there.kind in
      let f : HasFollowed (fixed_of s) (sides_of s) (moment s k).world = texts_are_followed text s spelled k in
      let its : o.endpoint.desc.name ≡ o.desc.name = ap (λ (y : EpDesc). y.name) o.described in
      let way : o.endpoint.desc.name.way ≡ x.name.way =
      one_way o.endpoint.desc.name.way x.name.way
      (interrupt_way o.number o.endpoint o.here (ap (λ (y : EpDesc). y.kind) o.described ∙ kind))
      (interrupt_way e z d.complete.split.there.here d.complete.split.there.kind)
      (ap (λ (n : EpName). is_same_direction (dir_of n.way) (dir_of x.name.way)) its ∙ two.1) in
      record {
        kind = kind;
        number = told_apart w.driver (in_hand f.standing) f.standing.parts f.lines.reported f.followed.piped.telling.told o.number
            e o.endpoint z o.here d.complete.split.there.here
            (name_is o.endpoint.desc.name x.name (ap (λ (n : EpName). n.addr) its ∙ eqb-true o.desc.name.addr x.name.addr three.0)
            (ap (λ (n : EpName). n.num) its ∙ eqb-true o.desc.name.num x.name.num three.1) way);
      }

  placed_as_planned : tells.owner.placement ≡ d.complete.split.placement
  placed_as_planned =
      let o = tells.owner in
      let y = what_counts_is_an_endpoint w.driver o.planned.place _ mixed.mixed.now.planned o.planned.there in
      let one : y.endpoint ≡ z =
      same_Some y.endpoint z (sym y.here ∙ ap (slice_get w.driver.endpoints) is_own.number ∙ d.complete.split.there.here) in
      same_Some o.placement d.complete.split.placement
      (sym y.placement ∙ ap (λ (u : Endpoint). u.placement) one ∙ d.complete.split.there.placed)

  last_is_there : IsThere (fixed_of s) (moment s k).world e q d
  last_is_there =
      let u : ℕ = microframe_of w.registers.frame_index in
      let result : answer_row d.entry ≡ Result =
      tells.result u is_own.kind d.has.kind d.has.whole
      (subst (λ (p : Placement). IsLastIn p.cmask u) (sym placed_as_planned) d.last) (omega arith) in
      let m : IsMadeBy d.entry = made_by d.entry d.entry.exchange refl result in
      record { reply = m.reply; made = m.made; answer = ap answer_from d.has.there ∙ m.answer }

-- ---- the law

pub last_is_begun : (text : List ℕ) (s : Script) → Spells text s → (k e q : ℕ) (d : IsLastDue (fixed_of s) (begun s k) e q)
    → IsThere (fixed_of s) (begun s k) e q d
last_is_begun text s spelled k e q d =
    so_as_begun (λ (w : World). (n b : ℕ) (due : IsLastDue (fixed_of s) w n b) → IsThere (fixed_of s) w n b due) s
    (λ n b due. let none = due.complete.split.there.here in cc) (λ j n b due. last_is_there text s spelled j n b due) k e q d

pub last_answers_are_there : (text : List ℕ) (s : Script) → Spells text s → AnswersAreHeard s → LastAnswersAreThere s
last_answers_are_there text s spelled heard k e q past few d off =
    let there : IsThere (fixed_of s) (begun s k) e q d = last_is_begun text s spelled k e q d in
    told (queues_made s k) there
    (heard k e q past few
    (record {
      complete = d.complete;
      reply = result_of there.reply;
      has = record { hub = d.has.hub; behind = d.has.behind; answer = there.answer; heard = d.heard };
    }) off)
  where
    told : (ms : List QueueMade) (there : IsThere (fixed_of s) (begun s k) e q d) → HasMade (IsAnswered (32 * q) (result_of there.reply)) ms
        → HasMade (IsToldBy (32 * q) d.entry) ms
    told [] there has = has
    told (m ∷ ms) there (inl one) = inl (record { reply = there.reply; made = there.made; answered = one })
    told (m ∷ ms) there (inr was) = inr (told ms there was)
