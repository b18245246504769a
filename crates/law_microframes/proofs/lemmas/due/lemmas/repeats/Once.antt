-- While no packet was lost in the microframe, no complete-split in hand was made and is to be made again.
use Rattle.std.proofs.Common.{◌≡◌, ℕ, ◌+◌, Bool, true, false, List, Option, Some, None, refl, sym, ap, subst, ◌∙◌, inl, inr, arith}
use Rattle.std.specs.Prelude.{◌==◌, ◌&&◌, not, nat_lt, if◌then◌else◌}
use Rattle.std.proofs.lemmas.Bool.{cases_Bool, true≢false, false≢true}
use Rattle.law_common.proofs.Booleans.{both_not, and_none, is_low}
use Rattle.usb_base.specs.declared.packets.Ask.{Ask}
use Rattle.usb_base.specs.declared.packets.EpKind.TheVariants.{Interrupt}
use Rattle.usb_base.specs.declared.packets.Pid.{Pid}
use Rattle.usb_base.specs.declared.packets.Reply.{Reply}
use Rattle.usb_base.specs.declared.packets.Split.{Split}
use Rattle.usb_base.specs.declared.packets.Split.TheVariants as splits
use Rattle.link_words.specs.declared.kinds.QtdLink.TheVariants as qtd_links
use Rattle.word_mem.specs.Memory.{Mem}
use Rattle.qh_qtd.specs.declared.qtd.Qtd.{Qtd}
use Rattle.qh_qtd.specs.declared.queue_head.Qh.{Qh}
use Rattle.mem_queues.specs.Structures.{qtd_at_address, reaches_queue_head}
use Rattle.toggle_error.specs.declared.host.HostSide.{HostSide}
use Rattle.toggle_error.specs.declared.host.Outcome.{Outcome}
use Rattle.transactions.specs.Asks.{start_split, ask_of}
use Rattle.hc_copy.specs.declared.held.Transaction.{Transaction}
use Rattle.hc_copy.specs.Planning.{queue_pipe, split_at}
use Rattle.hc_copy.specs.Overlay.{advanced, settled_queue, moved}
use Rattle.hc_copy.specs.Buffer.{Reading, sending}
use Rattle.hc_copy.specs.Transacting.{call_in, outcome_in, host_after}
use Rattle.hc_interrupt.specs.declared.turns.Turn.{Turn}
use Rattle.hc_interrupt.specs.declared.turns.Turn.TheVariants as turns
use Rattle.hc_interrupt.specs.Turns.{turn_of, planned, is_last_of}
use Rattle.hc_interrupt.specs.Copies.{with_split, missed_queue, failed, goes_on}
use Rattle.async_walk.specs.declared.state.WalkStep.TheVariants as walk_steps
use Rattle.periodic_walk.specs.declared.chain.ChainRow.{ChainRow}
use Rattle.periodic_walk.specs.declared.chain.ChainRow.TheVariants as chain_rows
use Rattle.periodic_walk.specs.declared.queue.QueueRow.TheVariants as rows
use Rattle.periodic_walk.specs.declared.itd.ItdRow.{ItdRow}
use Rattle.periodic_walk.specs.declared.itd.ItdRow.TheVariants as itd_rows
use Rattle.periodic_walk.specs.declared.sitd.SitdRow.{SitdRow}
use Rattle.periodic_walk.specs.declared.sitd.SitdRow.TheVariants as sitd_rows
use Rattle.periodic_walk.specs.declared.state.Hand.{Hand}
use Rattle.periodic_walk.specs.declared.state.Hand.TheVariants as hands
use Rattle.periodic_walk.specs.declared.state.HeldQueue.{HeldQueue}
use Rattle.periodic_walk.specs.Walk.{Walk}
use Rattle.periodic_walk.specs.Place.{FramePlace, reading, Effect, sent}
use Rattle.periodic_walk.specs.Place.Effect.{Leaves, Asks}
use Rattle.periodic_walk.specs.Chain.{chain_row, chain_read, chain_after}
use Rattle.periodic_walk.specs.Queue.{taken_row, turn_row, settled_row, queue_read, took, wrote_at, writing, visit_after, wrote, missed, miss_outcome, queue_step, transacted, queue_left_by, queue_sent, queue_effect}
use Rattle.hc_iso.specs.declared.held.HeldItd.{HeldItd}
use Rattle.hc_iso.specs.declared.held.HeldSitd.{HeldSitd}
use Rattle.hc_iso.specs.declared.held.IsoEnd.{IsoEnd}
use Rattle.hc_iso.specs.declared.held.SplitOutcome.{SplitOutcome}
use Rattle.hc_iso.specs.declared.held.SplitOutcome.TheVariants.{Failed}
use Rattle.hc_iso.specs.declared.held.IsoTransaction.{IsoTransaction}
use Rattle.hc_iso.specs.WriteBack.{itd_sending, sitd_sending}
use Rattle.hc_iso.specs.Sitd.{missed_copy as missed_sitd}
use Rattle.periodic_walk.specs.Itd.{itd_row}
use Rattle.periodic_walk.specs.Itd as Itds
use Rattle.periodic_walk.specs.Sitd.{sitd_row}
use Rattle.periodic_walk.specs.Sitd as Sitds
use Rattle.periodic_walk.specs.Rows.{step_at, effect_at}
use Rattle.hc_core.specs.Controller.{hc_step}
use Rattle.bus_wire.specs.Seats.{token_kind, place_for}
use Rattle.bus_wire.specs.declared.seats.TokenKind.{TokenKind}
use Rattle.bus_wire.specs.Bus.{Bus, Fixed, reply_of}
use Rattle.claims_world.specs.Prices.{cost_of}
use Rattle.claims_world.specs.WithinLoad.{is_again, repeats_at}
use Rattle.law_microframes.specs.due.repeats.Hearing.{HasTranslator, CanBeHeard, IsHeardOn, AsksFor}
use Rattle.claims_world.specs.Losses.{is_lost}
use Rattle.law_microframes.specs.time.Repeats.{is_split_word, asked_pid, IsCompleteOf}
use Rattle.law_microframes.specs.due.repeats.Words.{inward_of, BusSaysWords}
use Rattle.law_microframes.proofs.lemmas.due.lemmas.repeats.Heard.{reply_word}
use Rattle.law_microframes.proofs.lemmas.time.RepeatAnswers.{words_end_visits}

-- ---- what is in hand

abbrev OnceBy : HeldQueue → Option Outcome → Type 0
OnceBy h None = h.made ≡ 0
OnceBy h (Some outcome) = goes_on h.made h.copy.queue_head outcome ≡ false

abbrev pub IsOnce : HeldQueue → Type 0
IsOnce h = (h.copy.queue_head.eps == 2) ≡ false → OnceBy h h.copy.settled

abbrev pub StaysOnce : Option Hand → Type 0
StaysOnce None = Unit {0}
StaysOnce (Some (hands.Queue h)) = IsOnce h
StaysOnce (Some (hands.Itd h)) = Unit {0}
StaysOnce (Some (hands.Sitd h)) = Unit {0}

abbrev pub IsOnceAfter : Fixed → Bus → Effect → Type 0
IsOnceAfter fixed b (Leaves p) = StaysOnce p.walk.hand
IsOnceAfter fixed b (Asks ask out by) = is_lost fixed b ask out ≡ false → StaysOnce (by (reply_of fixed b ask out)).walk.hand

-- ---- structures that aren't queue heads

chain_once : (row : ChainRow) (p : FramePlace) → StaysOnce (chain_after row p).walk.hand
chain_once chain_rows.Fault p = tt
chain_once chain_rows.Ends p = tt
chain_once (chain_rows.Queue a q) p = λ low. refl
chain_once (chain_rows.Itd a v) p = tt
chain_once (chain_rows.Sitd a v) p = tt

-- ---- the transaction of a queue head

split_leaves : (f : ℕ) (split : Split) (q : Qh) → ((with_split f split q).eps ≡ q.eps) × ((with_split f split q).token ≡ q.token)
unfolding with_split
split_leaves f splits.Plain q = (refl, refl)
split_leaves f (splits.Start hub port part) q = (refl, refl)
split_leaves f (splits.Complete hub port) q = (refl, refl)

settled_waits : (host : HostSide) (q : Qh)
    → ((settled_queue host q).eps ≡ q.eps) × ((settled_queue host q).token.split_state ≡ host.waiting)
unfolding settled_queue
settled_waits host q = (refl, refl)

moved_eps : (q : Qh) (n : ℕ) → (moved q n).eps ≡ q.eps
unfolding moved
moved_eps q n = refl

advanced_eps : (q : Qh) (a : ℕ) (t : Qtd) → (advanced q a t).eps ≡ q.eps
unfolding advanced
advanced_eps q a t = refl

missed_idle : (q : Qh) → (missed_queue q).token.active ≡ false
unfolding missed_queue
missed_idle q = refl

missed_eps : (q : Qh) → (missed_queue q).eps ≡ q.eps
unfolding missed_queue
missed_eps q = refl

turned : (a b : Bool) → (a && b) ≡ false → (b && a) ≡ false
turned true true e = e
turned true false e = refl
turned false true e = refl
turned false false e = refl

-- below high speed the visit goes on only where the split still waits after an error
goes_by : (active low waits bad full : Bool) → low ≡ false → (waits && bad) ≡ false
    → (active && (if low then full else waits && bad)) ≡ false
goes_by active true waits bad full e none = absurd (true≢false e)
goes_by active false waits bad full e none = both_not active (waits && bad) none

inward_is : (inward : Bool) → inward_of (asked_pid inward) ≡ inward
inward_is true = refl
inward_is false = refl

module _ (fixed : Fixed) (b : Bus) (says : BusSaysWords fixed b) where
  -- a complete-split that a translator hears
  complete_once : (q : Qh) (out : List ℕ) (last : Bool) → AsksFor fixed b q → (q.eps == 2) ≡ false → q.token.split_state ≡ true
      → is_lost fixed b (call_in (planned q) out last).ask (call_in (planned q) out last).out ≡ false
      → ((host_after (planned q) out last (reply_of fixed b (call_in (planned q) out last).ask (call_in (planned q) out last).out)).waiting
      && failed (outcome_in (planned q) out last (reply_of fixed b (call_in (planned q) out last).ask
      (call_in (planned q) out last).out))) ≡ false
  complete_once q out last asks low waits none =
      let t : Transaction = planned q in
      let ask : Ask = (call_in t out last).ask in
      let split : t.split ≡ splits.Complete q.hub q.port = ap (λ (x : Bool). split_at x q.token.split_state (queue_pipe Interrupt q))
      low ∙ ap (λ (x : Bool). split_at false x (queue_pipe Interrupt q)) waits in
      let pid : ask.pid ≡ asked_pid asks.inward = ap (λ (s : Split). (ask_of s t.pipe t.host).pid) split ∙ asks.pid in
      let of : IsCompleteOf asks.inward ask = record { hub = q.hub; port = q.port; split = split; kind = refl; pid = pid } in
      let heard : IsHeardOn fixed b asks.desc = asks.heard in
      let can : CanBeHeard fixed b ask = record {
        place = heard.place;
        found = ap (λ (a : ℕ). place_for fixed.seats a q.ep (token_kind ask.pid)) asks.addr
            ∙ ap (λ (n : ℕ). place_for fixed.seats asks.desc.name.addr n (token_kind ask.pid)) asks.ep
            ∙ ap (λ (i : Pid). place_for fixed.seats asks.desc.name.addr asks.desc.name.num (token_kind i)) pid
            ∙ ap (λ (k : TokenKind). place_for fixed.seats asks.desc.name.addr asks.desc.name.num k) (sym asks.way) ∙ heard.found;
        seat = heard.seat;
        there = heard.there;
        number = heard.number;
        hub = q.hub;
        port = q.port;
        split = split;
        translator = subst (λ (a : ℕ). HasTranslator b.hubs a q.port) (sym asks.hub)
            (subst (λ (n : ℕ). HasTranslator b.hubs heard.hub n) (sym asks.port) heard.translator);
      } in
      let reply : Reply = reply_of fixed b ask (call_in t out last).out in
      let word = reply_word fixed b ask (call_in t out last).out can says refl none in
      let word' : is_split_word asks.inward reply ≡ true = subst (λ (x : Bool). is_split_word x reply ≡ true)
      (ap inward_of pid ∙ inward_is asks.inward) word in
      turned (failed (outcome_in t out last reply)) (host_after t out last reply).waiting
      (words_end_visits asks.inward ask (call_in t out last).sent last reply t.host of word')

  -- a start-split is no reason
  start_once : (q : Qh) (out : List ℕ) (last : Bool) (reply : Reply) → (q.eps == 2) ≡ false → q.token.split_state ≡ false
      → ((host_after (planned q) out last reply).waiting && failed (outcome_in (planned q) out last reply)) ≡ false
  start_once q out last reply low waits =
      let t : Transaction = planned q in
      let split : t.split ≡ start_split (queue_pipe Interrupt q) = ap (λ (x : Bool). split_at x q.token.split_state
      (queue_pipe Interrupt q)) low ∙ ap (λ (x : Bool). split_at false x (queue_pipe Interrupt q)) waits in
      let none : failed (outcome_in t out last reply) ≡ false = rw split refl in
      both_not (host_after t out last reply).waiting (failed (outcome_in t out last reply)) none

  transaction_once : (q : Qh) (out : List ℕ) (last : Bool) → AsksFor fixed b q → (q.eps == 2) ≡ false
      → is_lost fixed b (call_in (planned q) out last).ask (call_in (planned q) out last).out ≡ false
      → ((host_after (planned q) out last (reply_of fixed b (call_in (planned q) out last).ask (call_in (planned q) out last).out)).waiting
      && failed (outcome_in (planned q) out last (reply_of fixed b (call_in (planned q) out last).ask
      (call_in (planned q) out last).out))) ≡ false
  transaction_once q out last asks low none =
      elim (cases_Bool q.token.split_state) [
        | inl on ↦ complete_once q out last asks low on none
        | inr off ↦ start_once q out last (reply_of fixed b (call_in (planned q) out last).ask (call_in (planned q) out last).out) low off
      ]

  sent_once : (h : HeldQueue) (f : ℕ) (out : List ℕ) (reply : Reply)
      → ((h.copy.queue_head.eps == 2) ≡ false
      → ((host_after (planned h.copy.queue_head) out (is_last_of f h.copy.queue_head) reply).waiting
      && failed (outcome_in (planned h.copy.queue_head) out (is_last_of f h.copy.queue_head) reply)) ≡ false)
      → IsOnce (transacted f (planned h.copy.queue_head) out reply h)
  sent_once h f out reply none low =
      let q : Qh = h.copy.queue_head in
      let t : Transaction = planned q in
      let host : HostSide = host_after t out (is_last_of f q) reply in
      let outcome : Outcome = outcome_in t out (is_last_of f q) reply in
      let mid : Qh = settled_queue host q in
      let s = split_leaves f t.split mid in
      let z = settled_waits host q in
      let eps : (with_split f t.split mid).eps ≡ q.eps = s.0 ∙ z.0 in
      let waits : (with_split f t.split mid).token.split_state ≡ host.waiting = ap (λ x. x.split_state) s.1 ∙ z.1 in
      let low' : (q.eps == 2) ≡ false = ap (λ (n : ℕ). n == 2) (sym eps) ∙ low in
      goes_by (with_split f t.split mid).token.active ((with_split f t.split mid).eps == 2) (with_split f t.split mid).token.split_state
      (failed outcome) _ low
      (ap (λ (x : Bool). x && failed outcome) waits ∙ none low')

  -- ---- each event at a queue head

  written_once : (h : HeldQueue) (outcome : Outcome) (p : FramePlace)
      → ((h.copy.queue_head.eps == 2) ≡ false → goes_on h.made h.copy.queue_head outcome ≡ false)
      → StaysOnce (wrote h outcome p).walk.hand
  written_once h outcome p ends = by (writing h.copy outcome p.walk.reply p.memory).all
    where
      again : (goes : Bool) → goes_on h.made h.copy.queue_head outcome ≡ goes → (w : Walk) → StaysOnce (visit_after h outcome w).hand
      again true is w =
          rw is (λ low. absurd (false≢true (sym (ends (ap (λ (n : ℕ). n == 2) (sym (moved_eps h.copy.queue_head _)) ∙ low)) ∙ is)))
      again false is w = rw is tt

      by : (all : Bool)
          → StaysOnce (wrote_at all h outcome (record p { memory = (writing h.copy outcome p.walk.reply p.memory).memory })).walk.hand
      by true = again (goes_on h.made h.copy.queue_head outcome) refl p.walk
      by false = tt

  missed_once : (h : HeldQueue) (p : FramePlace) → StaysOnce (wrote (missed h) miss_outcome p).walk.hand
  missed_once h p =
      written_once (missed h) miss_outcome p (λ low. and_none (missed_queue h.copy.queue_head).token.active _
      (missed_idle h.copy.queue_head))

  taken_once : (h : HeldQueue) (a : ℕ) (t : Qtd) (p : FramePlace) → h.copy.settled ≡ None → IsOnce h → StaysOnce (took h a t p).walk.hand
  taken_once h a t p unset once =
      elim (cases_Bool (reaches_queue_head p.memory h.copy.at)) [
        | inl on ↦ rw on (λ low. rw unset (subst (OnceBy h) unset (once
            (ap (λ (n : ℕ). n == 2) (sym (advanced_eps h.copy.queue_head a t)) ∙ low))))
        | inr off ↦ rw off tt
      ]

  sent_by_once : (h : HeldQueue) (p : FramePlace) (out : List ℕ) (m : Mem) (all : Bool)
      → ((h.copy.queue_head.eps == 2) ≡ false → AsksFor fixed b h.copy.queue_head)
      → IsOnceAfter fixed b (sent all
      (call_in (planned h.copy.queue_head) out (is_last_of p.walk.index h.copy.queue_head)).ask
      (call_in (planned h.copy.queue_head) out (is_last_of p.walk.index h.copy.queue_head)).out
      (queue_left_by (planned h.copy.queue_head) out h (record p { memory = m })) (record p { memory = m }))
  sent_by_once h p out m true asks = λ none.
      sent_once h p.walk.index out (reply_of fixed b (call_in (planned h.copy.queue_head) out
      (is_last_of p.walk.index h.copy.queue_head)).ask (call_in (planned h.copy.queue_head) out
      (is_last_of p.walk.index h.copy.queue_head)).out)
      (λ low. transaction_once h.copy.queue_head out (is_last_of p.walk.index h.copy.queue_head) (asks low) low none)
  sent_by_once h p out m false asks = tt

  planned_once : (h : HeldQueue) (p : FramePlace) → ((h.copy.queue_head.eps == 2) ≡ false → AsksFor fixed b h.copy.queue_head)
      → IsOnceAfter fixed b (queue_sent (planned h.copy.queue_head) h p)
  planned_once h p asks =
      let read : Reading = sending (planned h.copy.queue_head) h.copy.queue_head p.memory in
      sent_by_once h p read.bytes read.memory read.all asks

  timed_once : (late : Bool) (h : HeldQueue) (p : FramePlace) → ((h.copy.queue_head.eps == 2) ≡ false → AsksFor fixed b h.copy.queue_head)
      → IsOnceAfter fixed b (queue_effect (if late then rows.Skip else rows.Transact (planned h.copy.queue_head)) h p)
  timed_once true h p asks = tt
  timed_once false h p asks = planned_once h p asks

  active_once : (active : Bool) (a : ℕ) (t : Qtd) (h : HeldQueue) (p : FramePlace) → h.copy.settled ≡ None → IsOnce h
      → IsOnceAfter fixed b (queue_effect (if active then rows.Advance a t else rows.Skip) h p)
  active_once true a t h p unset once = taken_once h a t p unset once
  active_once false a t h p unset once = tt

  found_once : (a : ℕ) (o : Option Qtd) (h : HeldQueue) (p : FramePlace) → h.copy.settled ≡ None → IsOnce h
      → IsOnceAfter fixed b (queue_effect (taken_row a o) h p)
  found_once a None h p unset once = tt
  found_once a (Some t) h p unset once = active_once t.token.active a t h p unset once

  turn_once : (m : Mem) (left : ℕ) (turn : Turn) (h : HeldQueue) (p : FramePlace) → h.copy.settled ≡ None → IsOnce h
      → ((h.copy.queue_head.eps == 2) ≡ false → turn ≡ turns.Work → AsksFor fixed b h.copy.queue_head)
      → IsOnceAfter fixed b (queue_effect (turn_row m left h.copy.queue_head turn) h p)
  turn_once m left turns.Rest h p unset once asks = tt
  turn_once m left turns.Work h p unset once asks =
      timed_once (nat_lt left (planned h.copy.queue_head).price.0) h p (λ low. asks low refl)
  turn_once m left turns.Miss h p unset once asks = missed_once h p
  turn_once m left (turns.Take qtd_links.End) h p unset once asks = tt
  turn_once m left (turns.Take (qtd_links.To a)) h p unset once asks = found_once a (qtd_at_address m a) h p unset once

  settled_once : (m : Mem) (left f : ℕ) (h : HeldQueue) (p : FramePlace) (o : Option Outcome) → h.copy.settled ≡ o → IsOnce h
      → ((h.copy.queue_head.eps == 2) ≡ false → h.copy.settled ≡ None → turn_of f h.copy.queue_head ≡ turns.Work
      → AsksFor fixed b h.copy.queue_head)
      → IsOnceAfter fixed b (queue_effect (settled_row m left f h.copy.queue_head o) h p)
  settled_once m left f h p None unset once asks =
      turn_once m left (turn_of f h.copy.queue_head) h p unset once (λ low work. asks low unset work)
  settled_once m left f h p (Some outcome) is once asks = written_once h outcome p (λ low. subst (OnceBy h) is (once low))

  -- ---- an event of the walk

  itd_wrote : (all : Bool) (h : HeldItd) (ended : IsoEnd) (p : FramePlace) → StaysOnce (Itds.wrote_at all h ended p).walk.hand
  itd_wrote true h ended p = tt
  itd_wrote false h ended p = tt

  itd_sent_once : (all : Bool) (t : IsoTransaction) (h : HeldItd) (ask : Ask) (out : List ℕ) (p there : FramePlace)
      → IsOnceAfter fixed b (sent all ask out (Itds.itd_left_by t h p) there)
  itd_sent_once true t h ask out p there = λ none. tt
  itd_sent_once false t h ask out p there = tt

  itd_once : (row : ItdRow) (h : HeldItd) (p : FramePlace) → IsOnceAfter fixed b (Itds.itd_effect row h p)
  itd_once itd_rows.Skip h p = tt
  itd_once (itd_rows.Transact t) h p =
      itd_sent_once (itd_sending t h p.memory).all t h t.ask (itd_sending t h p.memory).bytes
      (record p { memory = (itd_sending t h p.memory).memory }) (record p { memory = (itd_sending t h p.memory).memory })
  itd_once (itd_rows.WriteBack ended) h p = itd_wrote _ h ended _

  sitd_wrote : (all : Bool) (h : HeldSitd) (outcome : SplitOutcome) (p : FramePlace)
      → StaysOnce (Sitds.wrote_at all h outcome p).walk.hand
  sitd_wrote true h outcome p = tt
  sitd_wrote false h outcome p = tt

  sitd_sent_once : (all : Bool) (t : IsoTransaction) (h : HeldSitd) (ask : Ask) (out : List ℕ) (p there : FramePlace)
      → IsOnceAfter fixed b (sent all ask out (Sitds.sitd_left_by t h p) there)
  sitd_sent_once true t h ask out p there = λ none. tt
  sitd_sent_once false t h ask out p there = tt

  sitd_once : (row : SitdRow) (h : HeldSitd) (p : FramePlace) → IsOnceAfter fixed b (Sitds.sitd_effect row h p)
  sitd_once sitd_rows.Skip h p = tt
  sitd_once (sitd_rows.Transact t) h p =
      sitd_sent_once (sitd_sending t h.sitd p.memory).all t h t.ask (sitd_sending t h.sitd p.memory).bytes
      (record p { memory = (sitd_sending t h.sitd p.memory).memory }) (record p { memory = (sitd_sending t h.sitd p.memory).memory })
  sitd_once sitd_rows.Miss h p = sitd_wrote _ (missed_sitd h) Failed _
  sitd_once (sitd_rows.WriteBack outcome) h p = sitd_wrote _ h outcome _

  pub event_once : (p : FramePlace) (o : Option Hand) → StaysOnce o
      → ((h : HeldQueue) → o ≡ Some (hands.Queue h) → (h.copy.queue_head.eps == 2) ≡ false → h.copy.settled ≡ None
      → turn_of p.walk.index h.copy.queue_head ≡ turns.Work → AsksFor fixed b h.copy.queue_head)
      → IsOnceAfter fixed b (effect_at p o)
  event_once p None once asks = chain_once (chain_row p.memory p.walk.cursor) (reading (chain_read p.memory p.walk.cursor) p)
  event_once p (Some (hands.Queue h)) once asks =
      settled_once p.memory p.walk.left p.walk.index h (reading (queue_read p h) p) h.copy.settled refl once
      (λ low unset work. asks h refl low unset work)
  event_once p (Some (hands.Itd h)) once asks = itd_once (itd_row p.walk.left h) h p
  event_once p (Some (hands.Sitd h)) once asks = sitd_once (sitd_row p h) h p

-- ---- nothing is made again

wrote_free : (all : Bool) (hand : Hand) → cost_of (hc_step (if all then walk_steps.WriteBack else walk_steps.Fault)) hand ≡ 0
wrote_free true hand = refl
wrote_free false hand = refl

if_none : (again : Bool) (r cost : ℕ) → r ≡ 0 → (again ≡ true → cost ≡ 0) → (if again then r + cost else r) ≡ 0
if_none true r cost none free = omega (arith, none, free refl)
if_none false r cost none free = none

first_time : (low : Bool) (made : ℕ) → made ≡ 0 → (not low && nat_lt 0 made) ≡ true → ⊥
first_time true made none is = absurd (false≢true is)
first_time false made none is = absurd (false≢true (sym (ap (λ (n : ℕ). nat_lt 0 n) none) ∙ is))

queue_again : (p : FramePlace) (h : HeldQueue) (o : Option Outcome) → h.copy.settled ≡ o → IsOnce h → is_again (hands.Queue h) ≡ true
    → cost_of (hc_step (queue_step (settled_row p.memory p.walk.left p.walk.index h.copy.queue_head o) h (reading (queue_read p h) p)))
    (hands.Queue h) ≡ 0
queue_again p h None unset once again =
    absurd (first_time (h.copy.queue_head.eps == 2) h.made (subst (OnceBy h) unset
    (once (is_low (h.copy.queue_head.eps == 2) (nat_lt 0 h.made) again))) again)
queue_again p h (Some outcome) is once again = wrote_free _ (hands.Queue h)

pub none_again : (p : FramePlace) (o : Option Hand) (r : ℕ) → StaysOnce o → r ≡ 0 → repeats_at o (hc_step (step_at p o)) r ≡ 0
none_again p None r once none = none
none_again p (Some (hands.Queue h)) r once none =
    if_none (is_again (hands.Queue h)) r (cost_of (hc_step (step_at p (Some (hands.Queue h)))) (hands.Queue h)) none
    (λ again. queue_again p h h.copy.settled refl once again)
none_again p (Some (hands.Itd h)) r once none = none
none_again p (Some (hands.Sitd h)) r once none = none
