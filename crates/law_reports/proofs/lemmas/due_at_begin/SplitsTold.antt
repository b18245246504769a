-- By the last complete-split of its frame the host heard what the device answered, where the start-split came to the translator (EHCI 1.0,
-- 4.12.2; USB 2.0, 11.18 and 11.20).
use Rattle.std.proofs.Common.{◌≡◌, ◌≢◌, ℕ, zero, suc, ◌*◌, ◌≤◌, ◌<◌, Bool, true, false, List, [], ◌∷◌, ap, refl}
use Rattle.std.proofs.Common.{sym, subst, ◌∙◌}
use Rattle.std.proofs.Common.{arith, ⊎_elim, inl, inr, ◌⊎◌, if◌then◌else◌}
use Rattle.std.specs.Prelude.{◌-◌, nat_le, not, min, length}
use Rattle.std.proofs.lemmas.Bool.{cases_eq, true≢false}
use Rattle.usb_base.specs.declared.endpoints.EpDesc.{EpDesc}
use Rattle.usb_base.specs.declared.packets.EpKind.{EpKind}
use Rattle.usb_base.specs.declared.packets.EpKind.TheVariants.{Interrupt}
use Rattle.usb_base.specs.declared.packets.Pid.TheVariants.{Ack, Nyet}
use Rattle.usb_base.specs.declared.packets.Reply.{Reply}
use Rattle.usb_base.specs.declared.packets.Reply.TheVariants.{Bytes, Hand}
use Rattle.usb_base.specs.declared.packets.Way.{Way}
use Rattle.usb_base.specs.declared.packets.Way.TheVariants as ways
use Rattle.toggle_error.specs.Columns.{expected_pid}
use Rattle.script_types.specs.declared.scripts.Script.{Script}
use Rattle.script_text.specs.Faults.{Spells}
use Rattle.qh_qtd.specs.declared.queue_head.Qh.{Qh}
use Rattle.tt_pipeline.specs.declared.entry.Entry.{Entry}
use Rattle.tt_pipeline.specs.declared.entry.Exchange.{Exchange}
use Rattle.tt_pipeline.specs.declared.entry.Exchange.TheVariants.{Ahead, Made}
use Rattle.tt_pipeline.specs.declared.rows.AnswerRow.{AnswerRow}
use Rattle.tt_pipeline.specs.declared.rows.AnswerRow.TheVariants.{Result, NotYet}
use Rattle.tt_pipeline.specs.Answers.{made_row, row_at, answer_row, answer_at, answer_of, answer_from, result_of}
use Rattle.tt_pipeline.specs.Work.{called_for}
use Rattle.bandwidth.specs.declared.placements.Placement.{Placement}
use Rattle.bandwidth.specs.Placements.{has}
use Rattle.hc_interrupt.specs.Turns.{microframe_of}
use Rattle.bus_wire.specs.Bus.{Fixed, fixed_of}
use Rattle.bus_world.specs.Budgets.{moment}
use Rattle.bus_world.specs.World.{World}
use Rattle.claims_world.specs.DueAtBegin.{begun, IsUncancelled}
use Rattle.claims_world.specs.QueuesMade.{QueueMade, queues_made, HasMade}
use Rattle.claims_world.specs.Results.{IsNextHeard, HasAnswer as HasReply, IsAnswerDue, HasEntry, IsLastIn, IsLastDue, IsToldBy, MovesBy}
use Rattle.claims_world.specs.Results.{by_data, by_ack, IsTaken}
use Rattle.claims_world.specs.Prices.{left_bytes}
use Rattle.claims_world.specs.SplitsAtBegin.{IsStartDue, IsCompleteDue}
use Rattle.claims_world.specs.Visits.{IsPastFrames}
use Rattle.claims_world.specs.WithinLoad.{repeats}
use Rattle.law_world.specs.memory.Mixed.{IsMixedWorld}
use Rattle.law_microframes.specs.time.DataQueues.{QueuesSendData}
use Rattle.law_microframes.specs.visits.Belonging.{HeadsHaveFields}
use Rattle.claims_world.specs.SplitFrames.{IsOneFrame, IsEntryOf, HasCome, IsHeardThroughout, DevicesAreHeard, IsDoneBy}
use Rattle.claims_world.specs.SplitFrames.{IsAsFar, IsDoneOf, WasDoneOf}
use Rattle.law_reports.proofs.lemmas.due_at_begin.EntryFrames.{IsStagedIn, IsStagedFrom, staged_next}
use Rattle.law_reports.proofs.lemmas.due_at_begin.NotYet.{IsAskedOnce, asked_leaves, nyet_or_not, GoesOn, is_answered, more_on, not_yet}
use Rattle.law_reports.proofs.lemmas.due_at_begin.HubSeats.{hubs_are_zero}
use Rattle.law_reports.proofs.lemmas.due_at_begin.LastDue.{IsThere, last_is_begun}
use Rattle.law_reports.proofs.lemmas.due_at_begin.RestingMicroframes.{before_then}
use Rattle.law_reports.proofs.lemmas.due_at_begin.ResultDue.{answer_beside, heard, results_are_taken}
use Rattle.law_reports.proofs.lemmas.due_at_begin.SplitDue.{has_come_to, complete_due}
use Rattle.law_reports.proofs.lemmas.due_at_begin.SplitFrames.{Follows, had_answer, is_due, follows, its_complete, told, order_begun}
use Rattle.law_reports.proofs.lemmas.due_at_begin.SplitFrames.{packets_begun}
use Rattle.law_reports.proofs.lemmas.due_at_begin.SplitMoments.{IsDueOf}
use Rattle.law_reports.proofs.lemmas.due_at_begin.SplitRuns.{splits_are_made}
use Rattle.law_reports.proofs.lemmas.due_at_begin.SplitOrder.{StartsFirst}
use Rattle.law_reports.proofs.lemmas.due_at_begin.StartCame.{spared_of}
use Rattle.law_reports.proofs.lemmas.due_at_begin.WrittenMoments.{since_at}

-- ---- a translator answers NYET, or what the device answered

-- what the device answered, as it is told
record IsDevices (e : Entry) (reply : Reply) : Type 0 where
  answer : Reply
  made : e.exchange ≡ Made answer
  told : reply ≡ result_of answer

module _ (e : Entry) (kind : e.ask.kind ≡ Interrupt) where
  if_made : (b : Bool) (answer : Reply) → e.exchange ≡ Made answer → answer_row e ≡ (if b then Result else NotYet)
      → answer_of e ≢ Hand Nyet → IsDevices e (answer_of e)
  if_made true answer is row told = record {
    answer = answer;
    made = is;
    told = ap (λ (r : AnswerRow). answer_at r e) row ∙ ap (λ (x : Exchange). answer_at Result (record e { exchange = x })) is;
  }
  if_made false answer is row told = absurd (told (ap (λ (r : AnswerRow). answer_at r e) row))

  by_exchange : (x : Exchange) → e.exchange ≡ x → answer_of e ≢ Hand Nyet → IsDevices e (answer_of e)
  by_exchange (Ahead sent) is told =
      absurd (told (ap (λ (r : AnswerRow). answer_at r e) (ap (λ (x : Exchange). row_at x e) is)))
  by_exchange (Made answer) is told =
      if_made (nat_le (called_for e) e.done) answer is
      (ap (λ (x : Exchange). row_at x e) is ∙ ap (λ (k : EpKind). made_row k e.ask.pid answer e) kind) told

  devices : answer_of e ≢ Hand Nyet → IsDevices e (answer_of e)
  devices told = by_exchange e.exchange refl told

-- ---- a complete-split in which the host hears what the translator has

record IsAskedTold (q : Qh) (n f : ℕ) (reply : Reply) (m : QueueMade) : Type 0 where
  asked : IsAskedOnce q n f m
  heard : m.heard ≡ reply

told_due : (fixed : Fixed) (b : World) (k : IsMixedWorld b) (heads : HeadsHaveFields b.driver b.memory)
    (sends : QueuesSendData b.driver b.memory) (e q : ℕ) (d : IsAnswerDue fixed b e q)
    → IsDueOf fixed b e q d.complete.split.there.endpoint.desc (λ c. HasReply fixed c d.complete.split.there.endpoint.desc d.reply)
    (IsAskedTold d.complete.split.queue (32 * q) b.control.frame.index d.reply)
told_due fixed b k heads sends e q d =
    complete_due fixed b k heads e q d.complete (λ c. HasReply fixed c d.complete.split.there.endpoint.desc d.reply)
    (IsAskedTold d.complete.split.queue (32 * q) b.control.frame.index d.reply) d.has
    (λ u same its c hears has out last is. record {
      asked = asked_leaves fixed b k heads e q d.complete u same its c hears tt out last is;
      heard = heard fixed b k heads sends e q d u same its c hears has out last;
    })

told_made : (text : List ℕ) (s : Script) → Spells text s → (k e q : ℕ) → IsPastFrames (moment s k).world → repeats s k ≤ 4000000
    → (d : IsAnswerDue (fixed_of s) (begun s k) e q) → IsUncancelled (moment s k).world.driver e
    → HasMade (IsAskedTold d.complete.split.queue (32 * q) (begun s k).control.frame.index d.reply) (queues_made s k)
told_made text s spelled k e q past few d off =
    splits_are_made text s spelled (IsAnswerDue (fixed_of s)) (λ b x y due. due.complete.split.there.endpoint.desc)
    (λ b x y due c. HasReply (fixed_of s) c due.complete.split.there.endpoint.desc due.reply)
    (λ b x y due. IsAskedTold due.complete.split.queue (32 * y) b.control.frame.index due.reply)
    (λ b mixed heads sends x y due. told_due (fixed_of s) b mixed heads sends x y due)
    (λ sides at lines hs w piped named b x y due z here kind same c goes had.
    subst (λ (u : EpDesc). HasReply (fixed_of s) c u due.reply) same
    (answer_beside (fixed_of s) (hubs_are_zero s) sides at lines hs w piped named x z here kind due.reply c goes
    (subst (λ (u : EpDesc). HasReply (fixed_of s) w.bus u due.reply) (sym same) had)))
    (λ x y due. cc due.complete.split.there.here) k e q past few d off

-- ---- what it comes to

module _ (q : Qh) (n f : ℕ) (reply : Reply) where
  nyet_on : reply ≡ Hand Nyet → (A : Type 0) (ms : List QueueMade) → HasMade (IsAskedTold q n f reply) ms → GoesOn A q n f ms
  nyet_on nyet A [] was = absurd was
  nyet_on nyet A (m ∷ ms) (inl a) = not_yet A q n f m ms a.asked (a.heard ∙ nyet)
  nyet_on nyet A (m ∷ ms) (inr was) = more_on A A q n f m ms (λ a. a) (nyet_on nyet A ms was)

  told_by : (e : Entry) → IsDevices e reply → (ms : List QueueMade) → HasMade (IsAskedTold q n f reply) ms → HasMade (IsToldBy n e) ms
  told_by e x [] was = was
  told_by e x (m ∷ ms) (inl a) =
      inl (record { reply = x.answer; made = x.made; answered = record { at = a.asked.completed.at; heard = a.heard ∙ x.told } })
  told_by e x (m ∷ ms) (inr was) = inr (told_by e x ms was)

-- ---- of a queue head that is as far

left_as_far : (v q : Qh) → IsAsFar v q → q.max ≡ v.max → left_bytes q ≡ left_bytes v
left_as_far v q far packets = ap (λ (n : ℕ). min n q.token.total) packets ∙ ap (min v.max) far.left

moves_as : (v q : Qh) → IsAsFar v q → q.max ≡ v.max → (way : Way) (r : Reply) (n : ℕ) → MovesBy v way r n → MovesBy q way r n
moves_as v q far packets _ _ _ (by_data bytes short) =
    subst (λ (t : Bool). MovesBy q ways.In (Bytes (expected_pid t) bytes) (length bytes)) far.toggle
    (by_data bytes (subst (λ (n : ℕ). length bytes ≤ n) (sym (left_as_far v q far packets)) short))
moves_as v q far packets _ _ _ by_ack =
    subst (MovesBy q ways.Out (Hand Ack)) (left_as_far v q far packets) by_ack

taken_of : (v q : Qh) (n bytes : ℕ) → IsAsFar v q → (ms : List QueueMade) → HasMade (IsTaken q n bytes) ms → HasMade (IsTaken v n bytes) ms
taken_of v q n bytes far [] was = was
taken_of v q n bytes far (m ∷ ms) (inl a) = inl (record {
  at = a.at;
  outcome = a.outcome;
  left = a.left ∙ ap (λ (total : ℕ). total - bytes) far.left;
  toggle = a.toggle ∙ ap not far.toggle;
  starts = a.starts;
})
taken_of v q n bytes far (m ∷ ms) (inr was) = inr (taken_of v q n bytes far ms was)

no_bit : (b : Bool) → (b ≡ true → ⊥) → b ≡ false
no_bit true off = absurd (off refl)
no_bit false off = refl

module _ (text : List ℕ) (s : Script) (spelled : Spells text s) (i e q : ℕ) (past : IsPastFrames (moment s i).world)
    (d : IsStartDue (fixed_of s) (begun s i) e q) (come : HasCome (moment s i).world.bus d.split.there.endpoint.desc) where
  abbrev x : EpDesc
  x = d.split.there.endpoint.desc

  abbrev hub : ℕ
  hub = come.is.hub

  abbrev start : ℕ
  start = microframe_of (begun s i).control.frame.index

  order : StartsFirst d.split.placement
  order = order_begun text s spelled i e q d.split.placement d.split.there d.split.classic

  alone : (u : ℕ) → u < 8 → u ≢ start → has d.split.placement.smask u ≡ false
  alone u low apart = no_bit (has d.split.placement.smask u) (λ on. apart (order.once u start low (omega arith) on d.bit))

  abbrev StagedAt : ℕ → Type 0
  StagedAt k = IsStagedIn (moment s k).world (begun s k) e q start d.split.placement d.split.there.endpoint.desc come.is.hub

  module _ (end : ℕ) (one : IsOneFrame s i end) (through : IsHeardThroughout s i end d.split.there.endpoint.desc) where
    shorter : (k : ℕ) → k ≤ end → IsOneFrame s i k
    shorter k under = record {
      same = λ j from up. one.same j from (omega (arith, up, under));
      free = λ j from up. one.free j from (omega (arith, up, under));
      few = λ j from up. one.few j from (omega (arith, up, under));
    }

    -- ---- the entry

    stages : IsUncancelled (moment s i).world.driver e → StagedAt i
    stages off =
        let o = since_at text s spelled i e q d.split.placement d.split.there d.split.active off in
        record {
          frames = o.frames;
          desc = o.same d.split.there.endpoint d.split.there.here;
          stage = 0;
          count = omega arith;
          index = o.index;
          over = λ none. past;
          staged = record {
            entry = come.entry;
            there = come.is.there;
            staged = record {
              kind = come.kind;
              came = come.whole;
              before = λ some. absurd (omega (arith, some));
              heard = λ some. absurd (omega (arith, some));
            };
          };
          begun = λ some. absurd (omega (arith, some));
        }

    staged : (k : ℕ) → i ≤ k → k ≤ end → IsUncancelled (moment s k).world.driver e → StagedAt k
    staged zero less under off = subst (λ (j : ℕ). IsUncancelled (moment s j).world.driver e → StagedAt j) (zero_is less) stages off
      where
        zero_is : i ≤ 0 → i ≡ 0
        zero_is less = omega (arith, less)
    staged (suc k) less under off =
        ⊎_elim {C = StagedAt (suc k)}
        (λ (here : i ≡ suc k). subst (λ (j : ℕ). IsUncancelled (moment s j).world.driver e → StagedAt j) here stages off)
        (λ (apart : i ≢ suc k).
        let from : i ≤ k = omega (arith, less, apart) in
        let up : k ≤ end = omega (arith, under) in
        let t : StagedAt k =
        staged k from up (before_then text s spelled e q d.split.placement d.split.queue k off) in
        staged_next text s spelled e q start d.split.placement x hub alone k t
        (spared_of hub x come.is.behind (moment s k).world.bus.hubs (through.spared k from up)) i from (shorter (suc k) under) off)
        (cases_eq i (suc k))

    -- ---- its answer

    -- a microframe of its C-mask comes after that of its start-split
    after : (k : ℕ) (t : StagedAt k) → has d.split.placement.cmask (microframe_of (begun s k).control.frame.index) ≡ true → 1 ≤ t.stage
    after k t bit = by t.stage refl
      where
        by : (n : ℕ) → t.stage ≡ n → 1 ≤ t.stage
        by zero none =
            let count = t.count in
            let same : microframe_of (begun s k).control.frame.index ≡ start = omega (arith, count, none) in
            absurd (true≢false (sym bit ∙ order.none start (microframe_of (begun s k).control.frame.index) (omega arith) d.bit
            (omega (arith, same))))
        by (suc n) is = omega (arith, is)

    module _ (k : ℕ) (from : i ≤ k) (under : k ≤ end) (off : IsUncancelled (moment s k).world.driver e)
        (c : IsCompleteDue (fixed_of s) (begun s k) e q)
        (bit : has d.split.placement.cmask (microframe_of (begun s k).control.frame.index) ≡ true) where
      t : StagedAt k
      t = staged k from under off

      here : IsStagedFrom (begun s k) e t.stage d.split.there.endpoint.desc come.is.hub
      here = t.begun (after k t bit)

      desc : c.split.there.endpoint.desc ≡ d.split.there.endpoint.desc
      desc = here.its c.split.there.endpoint c.split.there.here

      abbrev entry : Entry
      entry = here.staged.entry

      entry_is : IsEntryOf (begun s k).bus d.split.there.endpoint.desc here.staged.entry
      entry_is = record { hub = come.is.hub; behind = come.is.behind; there = here.staged.there }

      reply : Reply
      reply = answer_of here.staged.entry

      has_reply : HasReply (fixed_of s) (begun s k).bus d.split.there.endpoint.desc (answer_of here.staged.entry)
      has_reply = record {
        hub = come.is.hub;
        behind = come.is.behind;
        answer = ap answer_from here.staged.there;
        heard = through.heard k from under;
      }

      answer_is_due : IsAnswerDue (fixed_of s) (begun s k) e q
      answer_is_due = record {
        complete = c;
        reply = answer_of here.staged.entry;
        has = subst (λ (y : EpDesc). HasReply (fixed_of s) (begun s k).bus y (answer_of here.staged.entry)) (sym desc) has_reply;
      }

      made : IsPastFrames (moment s k).world
          → HasMade (IsAskedTold c.split.queue (32 * q) (begun s k).control.frame.index (answer_of here.staged.entry)) (queues_made s k)
      unfolding answer_is_due
      made over = told_made text s spelled k e q over (one.few k from under) answer_is_due off

      abbrev Done : Type 0
      Done = IsDoneOf d.works (begun s k) (32 * q) d.split.there.endpoint.desc (queues_made s k)

      -- its packets are as large as those of what came as its start-split was due
      packets : c.split.queue.max ≡ d.works.max
      packets =
          packets_begun text s spelled k e q c.split.placement c.split.there c.split.queue c.split.read
          ∙ ap (λ (y : EpDesc). y.max) desc
          ∙ sym ((has_come_to (begun s i).memory d.split.queue d.works d.next).longest
          ∙ packets_begun text s spelled i e q d.split.placement d.split.there d.split.queue d.split.read)

      taken : IsPastFrames (moment s k).world → (bytes : ℕ)
          → MovesBy c.split.queue d.split.there.endpoint.desc.name.way (answer_of here.staged.entry) bytes
          → HasMade (IsTaken c.split.queue (32 * q) bytes) (queues_made s k)
      unfolding answer_is_due
      taken over bytes moves =
          results_are_taken text s spelled k e q over (one.few k from under)
          (record {
            due = answer_is_due;
            bytes = bytes;
            moves = subst (λ (y : EpDesc). MovesBy c.split.queue y.name.way (answer_of here.staged.entry) bytes) (sym desc) moves;
          }) off

      done_by : IsPastFrames (moment s k).world → IsDevices here.staged.entry (answer_of here.staged.entry)
          → IsDoneBy (begun s k) (32 * q) d.split.there.endpoint.desc (queues_made s k)
      done_by over told = record {
        entry = here.staged.entry;
        is = entry_is;
        told = told_by c.split.queue (32 * q) (begun s k).control.frame.index (answer_of here.staged.entry) here.staged.entry told
            (queues_made s k) (made over);
        queue = c.split.queue;
        read = c.split.read;
        taken = λ reply bytes exchange moves.
            taken over bytes
            (subst (λ (r : Reply). MovesBy c.split.queue d.split.there.endpoint.desc.name.way r bytes)
            (ap result_of (same_reply told.answer reply (sym exchange ∙ told.made)) ∙ sym told.told) moves);
      }
        where
          same_reply : (a r : Reply) → ◌≡◌ {A = Exchange} (Made r) (Made a) → r ≡ a
          same_reply a r is = cc

      done : IsAsFar d.works c.split.queue → IsPastFrames (moment s k).world → IsDevices here.staged.entry (answer_of here.staged.entry)
          → IsDoneOf d.works (begun s k) (32 * q) d.split.there.endpoint.desc (queues_made s k)
      unfolding done_by
      done far over told = record {
        done = done_by over told;
        far = far;
        packets = packets;
        taken = λ reply bytes exchange moves.
            taken_of d.works c.split.queue (32 * q) bytes far (queues_made s k)
            ((done_by over told).taken reply bytes exchange
            (moves_as d.works c.split.queue far packets d.split.there.endpoint.desc.name.way (result_of reply) bytes moves));
      }

      comes_to : IsAsFar d.works c.split.queue → IsPastFrames (moment s k).world → (A : Type 0) → (Done → A)
          → GoesOn A c.split.queue (32 * q) (begun s k).control.frame.index (queues_made s k)
      comes_to far over A so =
          ⊎_elim {C = GoesOn A c.split.queue (32 * q) (begun s k).control.frame.index (queues_made s k)}
          (λ (nyet : answer_of here.staged.entry ≡ Hand Nyet).
          nyet_on c.split.queue (32 * q) (begun s k).control.frame.index (answer_of here.staged.entry) nyet A (queues_made s k) (made over))
          (λ (told : answer_of here.staged.entry ≢ Hand Nyet).
          is_answered (so (done far over (devices here.staged.entry here.staged.staged.kind told))))
          (nyet_or_not (answer_of here.staged.entry))

      -- in the last microframe of the C-mask
      module _ (placed : c.split.placement ≡ d.split.placement)
          (last : IsLastIn d.split.placement.cmask (microframe_of (begun s k).control.frame.index)) where
        two : 2 ≤ t.stage
        two =
            let count = t.count in
            let gap = order.gap start (microframe_of (begun s k).control.frame.index) (omega arith) (omega arith) d.bit last.here in
            omega (arith, count, gap)

        last_due : IsLastDue (fixed_of s) (begun s k) e q
        last_due = record {
          complete = c;
          last = subst (λ (n : ℕ). IsLastIn c.split.placement.cmask (microframe_of n)) here.shows
              (subst (λ (p : Placement). IsLastIn p.cmask (microframe_of (begun s k).control.frame.index)) (sym placed) last);
          entry = here.staged.entry;
          has = subst (λ (y : EpDesc). HasEntry (begun s k).bus y here.staged.entry) (sym desc) (record {
            hub = come.is.hub;
            behind = come.is.behind;
            there = here.staged.there;
            kind = here.staged.staged.kind;
            whole = here.staged.staged.heard two;
          });
          heard = subst (λ (y : EpDesc). IsNextHeard (fixed_of s) (begun s k).bus y) (sym desc) (through.heard k from under);
        }

        last_devices : IsDevices here.staged.entry (answer_of here.staged.entry)
        unfolding last_due
        last_devices =
            let there : IsThere (fixed_of s) (begun s k) e q last_due = last_is_begun text s spelled k e q last_due in
            record { answer = there.reply; made = there.made; told = sym (ap answer_from last_due.has.there) ∙ there.answer }

    -- ---- along the frame

    abbrev Answered : ℕ → Type 0
    Answered k = IsDoneOf d.works (begun s k) (32 * q) d.split.there.endpoint.desc (queues_made s k)

    resolves : (k : ℕ) → i ≤ k → k < end → IsOneFrame s i (suc k) → IsUncancelled (moment s k).world.driver e
        → IsPastFrames (moment s k).world → (c : IsCompleteDue (fixed_of s) (begun s k) e q) → IsAsFar d.works c.split.queue
        → has d.split.placement.cmask (microframe_of (begun s k).control.frame.index) ≡ true
        → GoesOn (Answered k) c.split.queue (32 * q) (begun s k).control.frame.index (queues_made s k)
    resolves k from less so off over c far bit =
        comes_to k from (omega (arith, less)) off c bit far over (Answered k) (λ told. told)

-- ---- by the last complete-split

pub splits_are_done : (text : List ℕ) (s : Script) → Spells text s → (i k e q : ℕ) → i ≤ k → IsPastFrames (moment s i).world
    → (d : IsStartDue (fixed_of s) (begun s i) e q) → HasCome (moment s i).world.bus d.split.there.endpoint.desc → IsOneFrame s i k
    → IsHeardThroughout s i k d.split.there.endpoint.desc → IsUncancelled (moment s k).world.driver e
    → IsLastIn d.split.placement.cmask (microframe_of (begun s k).control.frame.index) → IsPastFrames (moment s k).world
    → WasDoneOf d.works s i (suc k) (32 * q) d.split.there.endpoint.desc
splits_are_done text s spelled i k e q less past d come one through off last over =
    by (follows text s spelled i e q d Kept k last.here
    (told text s spelled Kept i e q k d
    (λ j from under so off_then past_then c far bit. resolves text s spelled i e q past d come k one through j from under so off_then
    past_then c far bit) k less (omega arith) one off).story)
  where
    Kept : ℕ → Type 0
    Kept = Answered text s spelled i e q past d come k one through

    by : Follows text s spelled i e q d Kept k → WasDoneOf d.works s i (suc k) (32 * q) d.split.there.endpoint.desc
    by (had_answer at from before a) = record { at = at; from = from; before = omega (arith, before); of = a }
    by (is_due x) =
        let c : IsCompleteDue (fixed_of s) (begun s k) e q = its_complete text s spelled i e q d k less one last.here x in
        record {
          at = k;
          from = less;
          before = omega arith;
          of = done text s spelled i e q past d come k one through k less (omega arith) off c last.here x.far over
              (last_devices text s spelled i e q past d come k one through k less (omega arith) off c last.here refl last);
        }

pub devices_are_heard : (text : List ℕ) (s : Script) → Spells text s → DevicesAreHeard s
devices_are_heard text s spelled i k e q less past d come one through off last over =
    let x = splits_are_done text s spelled i k e q less past d come one through off last over in
    record { at = x.at; from = x.from; before = x.before; entry = x.of.done.entry; is = x.of.done.is; made = x.of.done.told }
