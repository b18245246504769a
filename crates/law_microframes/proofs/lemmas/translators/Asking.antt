-- What the walk of the frames asks: of a queue head or a siTD in hand, its next transaction; of an iTD, a plain one (EHCI 1.0, 4.7, 4.10
-- and 4.12).
use Rattle.std.proofs.Common.{◌≡◌, ℕ, Bool, true, false, if◌then◌else◌, List, Option, Some, None, refl, subst}
use Rattle.std.specs.Prelude.{nat_lt}
use Rattle.usb_base.specs.declared.packets.Ask.{Ask}
use Rattle.usb_base.specs.declared.packets.Reply.{Reply}
use Rattle.usb_base.specs.declared.packets.Split.TheVariants as splits
use Rattle.word_mem.specs.Memory.{Mem}
use Rattle.link_words.specs.declared.kinds.QtdLink.TheVariants as qtd_links
use Rattle.qh_qtd.specs.declared.qtd.Qtd.{Qtd}
use Rattle.mem_queues.specs.Structures.{qtd_at_address}
use Rattle.toggle_error.specs.declared.host.Outcome.{Outcome}
use Rattle.hc_copy.specs.Buffer.{Reading, sending}
use Rattle.hc_copy.specs.Transacting.{call_in}
use Rattle.hc_interrupt.specs.declared.turns.Turn.{Turn}
use Rattle.hc_interrupt.specs.declared.turns.Turn.TheVariants as turns
use Rattle.hc_interrupt.specs.Turns.{microframe_of, turn_of, planned, is_last_of}
use Rattle.hc_iso.specs.declared.held.HeldItd.{HeldItd}
use Rattle.hc_iso.specs.declared.held.HeldSitd.{HeldSitd}
use Rattle.hc_iso.specs.declared.held.IsoEnd.{IsoEnd}
use Rattle.hc_iso.specs.declared.held.SplitOutcome.{SplitOutcome}
use Rattle.hc_iso.specs.declared.held.SitdTurn.{SitdTurn}
use Rattle.hc_iso.specs.declared.held.SitdTurn.TheVariants as sitd_turns
use Rattle.hc_iso.specs.Itd.{itd_in, itd_out, itd_transaction}
use Rattle.hc_iso.specs.Sitd.{sitd_turn, sitd_transaction}
use Rattle.hc_iso.specs.WriteBack.{itd_sending, sitd_sending}
use Rattle.periodic_walk.specs.declared.queue.QueueRow.TheVariants as rows
use Rattle.periodic_walk.specs.declared.itd.ItdRow.TheVariants as itd_rows
use Rattle.periodic_walk.specs.declared.sitd.SitdRow.TheVariants as sitd_rows
use Rattle.periodic_walk.specs.declared.state.Hand.{Hand}
use Rattle.periodic_walk.specs.declared.state.Hand.TheVariants as hands
use Rattle.periodic_walk.specs.declared.state.HeldQueue.{HeldQueue}
use Rattle.periodic_walk.specs.Place.{FramePlace, reading, Effect, sent}
use Rattle.periodic_walk.specs.Place.Effect.{Leaves, Asks}
use Rattle.periodic_walk.specs.Queue.{taken_row, turn_row, settled_row, queue_read, queue_left_by, queue_effect}
use Rattle.periodic_walk.specs.Itd as Itds
use Rattle.periodic_walk.specs.Itd.{itd_effect}
use Rattle.periodic_walk.specs.Sitd as Sitds
use Rattle.periodic_walk.specs.Sitd.{sitd_effect}
use Rattle.periodic_walk.specs.Rows.{effect_at}

module _ (C : Ask → List ℕ → Type 0) where
  -- what is asked is so, if anything is
  abbrev pub Asking : Effect → Type 0
  Asking (Leaves p) = Unit {0}
  Asking (Asks ask out left_by) = C ask out

  sent_asking : (all : Bool) (ask : Ask) (out : List ℕ) (left_by : Reply → FramePlace) (p : FramePlace) → C ask out
      → Asking (sent all ask out left_by p)
  sent_asking true ask out left_by p c = c
  sent_asking false ask out left_by p c = tt

  -- ---- a queue head

  abbrev pub QueueAsks : HeldQueue → ℕ → Type 0
  QueueAsks h index =
      (m : Mem) → h.copy.settled ≡ None → turn_of index h.copy.queue_head ≡ turns.Work
      → C (call_in (planned h.copy.queue_head) (sending (planned h.copy.queue_head) h.copy.queue_head m).bytes
      (is_last_of index h.copy.queue_head)).ask
      (call_in (planned h.copy.queue_head) (sending (planned h.copy.queue_head) h.copy.queue_head m).bytes
      (is_last_of index h.copy.queue_head)).out

  timed_asking : (late : Bool) (h : HeldQueue) (p : FramePlace)
      → C (call_in (planned h.copy.queue_head) (sending (planned h.copy.queue_head) h.copy.queue_head p.memory).bytes
      (is_last_of p.walk.index h.copy.queue_head)).ask
      (call_in (planned h.copy.queue_head) (sending (planned h.copy.queue_head) h.copy.queue_head p.memory).bytes
      (is_last_of p.walk.index h.copy.queue_head)).out
      → Asking (queue_effect (if late then rows.Skip else rows.Transact (planned h.copy.queue_head)) h p)
  timed_asking true h p c = tt
  timed_asking false h p c =
      let read : Reading = sending (planned h.copy.queue_head) h.copy.queue_head p.memory in
      sent_asking read.all _ _ (queue_left_by (planned h.copy.queue_head) read.bytes h (record p { memory = read.memory }))
      (record p { memory = read.memory }) c

  active_asking : (active : Bool) (a : ℕ) (t : Qtd) (h : HeldQueue) (p : FramePlace)
      → Asking (queue_effect (if active then rows.Advance a t else rows.Skip) h p)
  active_asking true a t h p = tt
  active_asking false a t h p = tt

  taken_asking : (a : ℕ) (o : Option Qtd) (h : HeldQueue) (p : FramePlace) → Asking (queue_effect (taken_row a o) h p)
  taken_asking a None h p = tt
  taken_asking a (Some t) h p = active_asking t.token.active a t h p

  turn_asking : (m : Mem) (left : ℕ) (turn : Turn) (h : HeldQueue) (p : FramePlace) → h.copy.settled ≡ None
      → turn_of p.walk.index h.copy.queue_head ≡ turn → QueueAsks h p.walk.index
      → Asking (queue_effect (turn_row m left h.copy.queue_head turn) h p)
  turn_asking m left turns.Rest h p unset is asks = tt
  turn_asking m left turns.Work h p unset is asks =
      timed_asking (nat_lt left (planned h.copy.queue_head).price.0) h p (asks p.memory unset is)
  turn_asking m left turns.Miss h p unset is asks = tt
  turn_asking m left (turns.Take qtd_links.End) h p unset is asks = tt
  turn_asking m left (turns.Take (qtd_links.To a)) h p unset is asks = taken_asking a (qtd_at_address m a) h p

  pub settled_asking : (m : Mem) (left : ℕ) (h : HeldQueue) (p : FramePlace) (o : Option Outcome) → h.copy.settled ≡ o
      → QueueAsks h p.walk.index
      → Asking (queue_effect (settled_row m left p.walk.index h.copy.queue_head o) h p)
  settled_asking m left h p None unset asks =
      turn_asking m left (turn_of p.walk.index h.copy.queue_head) h p unset refl asks
  settled_asking m left h p (Some outcome) is asks = tt

  -- ---- an iTD

  abbrev pub PlainAsks : Type 0
  PlainAsks = (ask : Ask) (out : List ℕ) → ask.split ≡ splits.Plain → C ask out

  itd_plain : (h : HeldItd) → (itd_transaction h).ask.split ≡ splits.Plain
  itd_plain h = by h.itd.dir_in
    where
      by : (b : Bool) → (if b then itd_in h else itd_out h).ask.split ≡ splits.Plain
      by true = refl
      by false = refl

  itd_timed : (late : Bool) (h : HeldItd) (p : FramePlace) → PlainAsks
      → Asking (itd_effect (if late then itd_rows.Skip else itd_rows.Transact (itd_transaction h)) h p)
  itd_timed true h p plain = tt
  itd_timed false h p plain =
      let read : Reading = itd_sending (itd_transaction h) h p.memory in
      sent_asking read.all _ _ (Itds.itd_left_by (itd_transaction h) h (record p { memory = read.memory }))
      (record p { memory = read.memory }) (plain (itd_transaction h).ask read.bytes (itd_plain h))

  itd_open : (active : Bool) (left : ℕ) (h : HeldItd) (p : FramePlace) → PlainAsks
      → Asking (itd_effect (if active then Itds.timed_row left (itd_transaction h) else itd_rows.Skip) h p)
  itd_open true left h p plain = itd_timed (nat_lt left (itd_transaction h).price.0) h p plain
  itd_open false left h p plain = tt

  pub itd_asking : (left : ℕ) (h : HeldItd) (p : FramePlace) (o : Option IsoEnd) → PlainAsks
      → Asking (itd_effect (Itds.ended_row left h o) h p)
  itd_asking left h p None plain = itd_open h.slot.active left h p plain
  itd_asking left h p (Some ended) plain = tt

  -- ---- a siTD

  abbrev pub SitdAsks : HeldSitd → ℕ → Type 0
  SitdAsks h u =
      (m : Mem) → h.settled ≡ None → sitd_turn u h.sitd ≡ sitd_turns.Work
      → C (sitd_transaction h.sitd).ask (sitd_sending (sitd_transaction h.sitd) h.sitd m).bytes

  sitd_timed : (late : Bool) (h : HeldSitd) (p : FramePlace)
      → C (sitd_transaction h.sitd).ask (sitd_sending (sitd_transaction h.sitd) h.sitd p.memory).bytes
      → Asking (sitd_effect (if late then sitd_rows.Skip else sitd_rows.Transact (sitd_transaction h.sitd)) h p)
  sitd_timed true h p c = tt
  sitd_timed false h p c =
      let read : Reading = sitd_sending (sitd_transaction h.sitd) h.sitd p.memory in
      sent_asking read.all _ _ (Sitds.sitd_left_by (sitd_transaction h.sitd) h (record p { memory = read.memory }))
      (record p { memory = read.memory }) c

  sitd_turned : (left u : ℕ) (turn : SitdTurn) (h : HeldSitd) (p : FramePlace) → h.settled ≡ None → sitd_turn u h.sitd ≡ turn
      → SitdAsks h u → Asking (sitd_effect (Sitds.turn_row left h.sitd turn) h p)
  sitd_turned left u sitd_turns.Rest h p unset is asks = tt
  sitd_turned left u sitd_turns.Work h p unset is asks =
      sitd_timed (nat_lt left (sitd_transaction h.sitd).price.0) h p (asks p.memory unset is)
  sitd_turned left u sitd_turns.Miss h p unset is asks = tt

  pub sitd_asking : (left u : ℕ) (h : HeldSitd) (p : FramePlace) (o : Option SplitOutcome) → h.settled ≡ o → SitdAsks h u
      → Asking (sitd_effect (Sitds.settled_row left u h.sitd o) h p)
  sitd_asking left u h p None unset asks = sitd_turned left u (sitd_turn u h.sitd) h p unset refl asks
  sitd_asking left u h p (Some outcome) is asks = tt

  -- ---- the walk

  pub walk_asking : (p : FramePlace) (o : Option Hand) → PlainAsks
      → ((h : HeldQueue) → o ≡ Some (hands.Queue h) → QueueAsks h p.walk.index)
      → ((h : HeldSitd) → o ≡ Some (hands.Sitd h) → SitdAsks h (microframe_of p.walk.index)) → Asking (effect_at p o)
  walk_asking p None plain queues sitds = tt
  walk_asking p (Some (hands.Queue h)) plain queues sitds =
      settled_asking p.memory p.walk.left h (reading (queue_read p h) p) h.copy.settled refl (queues h refl)
  walk_asking p (Some (hands.Itd h)) plain queues sitds = itd_asking p.walk.left h p h.ended plain
  walk_asking p (Some (hands.Sitd h)) plain queues sitds =
      sitd_asking p.walk.left (microframe_of p.walk.index) h p h.settled refl (sitds h refl)

  pub asked_so : (e : Effect) (ask : Ask) (out : List ℕ) (left_by : Reply → FramePlace) → e ≡ Asks ask out left_by → Asking e → C ask out
  asked_so e ask out left_by is c = subst Asking is c
