-- Each event keeps the pipe of an OUT endpoint, by its effect.
use Rattle.std.proofs.Common.{◌≡◌, ℕ, ◌-◌, ◌==◌, min, Bool, true, false, not, if◌then◌else◌, List, [], ◌++◌, length, take, drop, Option, Some, None, ap, refl, sym, subst, ◌∙◌, inl, inr}
use Rattle.std.specs.Prelude.{◌⊎◌}
use Rattle.law_common.proofs.Booleans.{not_itself}
use Rattle.usb_base.specs.declared.packets.Ask.{Ask}
use Rattle.usb_base.specs.declared.packets.EpKind.{EpKind}
use Rattle.usb_base.specs.declared.packets.Pid.{Pid}
use Rattle.usb_base.specs.declared.packets.Pid.TheVariants as Packets
use Rattle.usb_base.specs.declared.packets.Reply.{Reply}
use Rattle.usb_base.specs.declared.packets.Speed.{Speed}
use Rattle.usb_base.specs.declared.packets.Speed.TheVariants.{High}
use Rattle.usb_base.specs.declared.packets.Split.{Split}
use Rattle.usb_base.specs.declared.packets.Split.TheVariants as Splits
use Rattle.qh_qtd.specs.declared.qtd.Qtd.{Qtd}
use Rattle.qh_qtd.specs.declared.queue_head.Qh.{Qh}
use Rattle.toggle_error.specs.declared.host.Outcome.{Outcome}
use Rattle.toggle_error.specs.declared.rows.AskToken.{AskToken}
use Rattle.toggle_error.specs.declared.rows.AskToken.TheVariants as tokens
use Rattle.toggle_error.specs.Columns.{expected_pid, out_token, token_at, token_of}
use Rattle.toggle_error.specs.Settle.{settle_row}
use Rattle.transactions.specs.Asks.{sends}
use Rattle.transactions.specs.Calls.{moving_of}
use Rattle.hc_copy.specs.Overlay.{buffer_place}
use Rattle.hc_copy.specs.Planning.{host_in, transaction_of}
use Rattle.hc_copy.specs.Transacting.{call_in}
use Rattle.hc_copy.specs.WriteBack.{moved_by}
use Rattle.law_structures.specs.lent_structures.Settles.{is_moved, Settles}
use Rattle.law_structures.proofs.lemmas.lent_structures.Moving.{Moves}
use Rattle.law_structures.proofs.lemmas.lent_structures.Settling.{a_transaction_settles}
use Rattle.law_structures.specs.lent_structures.Structures.{Structures}
use Rattle.law_ring.specs.Hand.{Copy, Settlement, Hand, Settled}
use Rattle.law_ring.specs.Effects.{buffer_of, AreSent, settlement_as, IsAskedAs}
use Rattle.law_ring.specs.Told.{Endpoint, endpoint_of}
use Rattle.law_ring.specs.Streams.{moved_bytes}
use Rattle.law_ring.specs.OutBus.{Taker, is_acknowledgement, Takes, HasTaken, IsOutAsk, IsOutBus}
use Rattle.law_ring.specs.OutPipes.{IsNext, IsUnmoved, OutAgrees}
use Rattle.law_ring.proofs.Stopping.{out_moves, OutMoves, unpinged_moves, ping_none, row_stops}
use Rattle.law_ring.proofs.OutPipeAgreeing.{out_step, still_agrees, IsOutCall, out_call, bytes_are, take_whole, out_token_as}

settled_by : (o : Outcome) (sent : ℕ) (b : Bool) → Moves o (if b then Some sent else None) → (is_moved o ≡ b) × (moved_by o ≡ (if b then sent else 0))
settled_by o sent true m = (ap is_moved m, ap moved_by m)
settled_by o sent false m = (m.1, m.0)

-- of an OUT the bytes moved are those of the buffer
moved_out : (q : Qh) (t : Qtd) (z : Settlement) (bs : List ℕ) → q.token.pid ≡ 0 → moved_bytes q t z bs ≡ take (moved_by z.outcome) (drop (buffer_place q - t.offset) bs)
moved_out q t z bs is = ap (λ (c : ℕ). if c == 1 then z.got else take (moved_by z.outcome) (drop (buffer_place q - t.offset) bs)) is

-- a transaction whose toggle didn't turn moved nothing, and halts where it ends
pub unmoved_made : (kind : EpKind) (last : Bool) (c : Copy) (q : Qh) (out : List ℕ) (reply : Reply) (n : ℕ) → q.token.active ≡ true
    → length out ≡ (transaction_of kind q).bytes → (settlement_as kind q out last reply).host.toggle ≡ q.token.toggle
    → IsUnmoved (Settled c (settlement_as kind q out last reply)) n
unmoved_made kind last c q out reply n on count same_toggle at =
    let s : Settles kind q out last reply = a_transaction_settles kind q out last reply count in
    let still : is_moved (settlement_as kind q out last reply).outcome ≡ false = by
    (is_moved (settlement_as kind q out last reply).outcome) refl s in (
      still,
      λ off. row_stops (settle_row (call_in (transaction_of kind q) out last).ask
          (moving_of (transaction_of kind q).split (transaction_of kind q).pipe.pid (host_in q) (length out)) last reply (host_in q))
          (host_in q) on still off,
    )
  where
    by : (b : Bool) → is_moved (settlement_as kind q out last reply).outcome ≡ b → Settles kind q out last reply → b ≡ false
    by false is s = refl
    by true is s = absurd (not_itself q.token.toggle (sym same_toggle ∙ s.host.toggle ∙ ap (λ (x : Bool). if x then not q.token.toggle else q.token.toggle) is))

-- ---- the transaction of the endpoint itself

module _ {W : Type 0} (transacts : W → Ask → List ℕ → Reply → W → Type 0) (stream : ℕ → ℕ → Bool) (taker : W → ℕ → ℕ → Option Taker) (bus : IsOutBus transacts stream taker) (wire after : W) (part : Structures) (hand later : Hand) (n : ℕ) (c : Copy) (q : Qh) (x : Endpoint) (is_x : x ≡ endpoint_of q) (h : Bool) (known : List ℕ) (s : Taker) (sent_is : taker wire x.addr x.ep ≡ Some s)
    (high : q.eps ≡ 2) (pid : q.token.pid ≡ 0) (on : q.token.active ≡ true) (own : h ≡ q.token.toggle)
    (streamed : stream x.addr x.ep ≡ true) (kind : EpKind) (last : Bool) (asked_as : IsAskedAs q kind last) (out : List ℕ)
    (sent : AreSent part q (transaction_of kind q).bytes out) (reply : Reply)
    (made : transacts wire (call_in (transaction_of kind q) out last).ask (call_in (transaction_of kind q) out last).out reply after)
    (later_is : later ≡ Settled c (settlement_as kind q out last reply)) where
  abbrev z : Settlement
  z = settlement_as kind q out last reply

  abbrev bs : List ℕ
  bs = buffer_of part sent.element

  abbrev asked : Ask
  asked = (call_in (transaction_of kind q) out last).ask

  pub record Made : Type 0 where
    pub taker_now : Taker
    pub is : taker after x.addr x.ep ≡ Some taker_now
    pub agrees : OutAgrees part later n q (settlement_as kind q out last reply).host.toggle
        (known ++ moved_bytes q sent.element (settlement_as kind q out last reply) (buffer_of part sent.element)) taker_now

  un : (settlement_as kind q out last reply).host.toggle ≡ h → IsUnmoved later n
  un e = subst (λ (l : Hand). IsUnmoved l n) (sym later_is) (unmoved_made kind last c q out reply n on sent.all (e ∙ own))

  settles_so : Settles kind q out last reply
  settles_so = a_transaction_settles kind q out last reply sent.all

  toggle_by : (b : Bool) → is_moved (settlement_as kind q out last reply).outcome ≡ b
      → (settlement_as kind q out last reply).host.toggle ≡ (if b then not h else h)
  toggle_by b is =
      settles_so.host.toggle ∙ ap (λ (y : Bool). if y then not q.token.toggle else q.token.toggle) is ∙ ap (λ (y : Bool). if b then not y else y) (sym own)

  pinged_made : q.token.ping ≡ true → OutAgrees part hand n q h known s → Made
  pinged_made ping k =
      let call : IsOutCall kind q out last = out_call kind q out last asked_as high pid in
      let token : asked.pid ≡ Packets.Ping = call.pid ∙ ap (λ (b : Bool). if b then Packets.Ping else Packets.Out) ping in
      let moves : Moves z.outcome None = ping_none asked
      (moving_of (transaction_of kind q).split (transaction_of kind q).pipe.pid (host_in q) (length out)) last reply
      (host_in q) call.plain (ap (λ (p : Pid). token_at p (out_token asked.speed asked.kind)) token) in
      record {
        taker_now = s;
        is = bus.others wire asked (call_in (transaction_of kind q) out last).out reply after x.addr x.ep s made streamed sent_is
            (λ a both. no_ping (sym token ∙ a.token));
        agrees = still_agrees part hand later n q h z.host.toggle known (moved_bytes q sent.element z bs) (take (min q.max q.token.total) (drop (buffer_place q - sent.element.offset) bs)) s own on
            (record { element = sent.element; here = sent.here; is = refl }) un (toggle_by false moves.1) (moved_out q sent.element z bs pid ∙ ap (λ (i : ℕ). take i (drop (buffer_place q - sent.element.offset) bs)) moves.0) k;
      }
    where
      no_ping : Packets.Ping ≡ Packets.Out → ⊥
      no_ping e = cc

  -- with a ping state or without
  token_is : IsOutCall kind q out last → asked.pid ≡ Packets.Out → (token_of asked ≡ tokens.PingedOut) ⊎ (token_of asked ≡ tokens.Out)
  token_is call token = by (out_token_as q kind last asked_as)
    where
      at : (t : AskToken) → out_token High kind ≡ t → token_of asked ≡ t
      at t is = ap (λ (p : Pid). token_at p (out_token asked.speed asked.kind)) token ∙ ap (λ (y : Speed). out_token y kind) call.speed ∙ is

      by : (out_token High kind ≡ tokens.PingedOut) ⊎ (out_token High kind ≡ tokens.Out)
          → (token_of asked ≡ tokens.PingedOut) ⊎ (token_of asked ≡ tokens.Out)
      by (inl is) = inl (at tokens.PingedOut is)
      by (inr is) = inr (at tokens.Out is)

  moved_by_reply : IsOutCall kind q out last → (token_of asked ≡ tokens.PingedOut) ⊎ (token_of asked ≡ tokens.Out)
      → OutMoves z.outcome (moving_of (transaction_of kind q).split (transaction_of kind q).pipe.pid (host_in q) (length out)) reply
  moved_by_reply call (inl sort) = record {
    heard = is_acknowledgement reply;
    moves = out_moves asked (moving_of (transaction_of kind q).split (transaction_of kind q).pipe.pid (host_in q) (length out)) last reply
        (host_in q) call.plain sort;
    acked = λ e. e;
  }
  moved_by_reply call (inr sort) = unpinged_moves asked
      (moving_of (transaction_of kind q).split (transaction_of kind q).pipe.pid (host_in q) (length out)) last reply
      (host_in q) call.plain sort

  plain_made : q.token.ping ≡ false → OutAgrees part hand n q h known s → Made
  plain_made ping k =
      let call : IsOutCall kind q out last = out_call kind q out last asked_as high pid in
      let token : asked.pid ≡ Packets.Out = call.pid ∙ ap (λ (b : Bool). if b then Packets.Ping else Packets.Out) ping in
      let is_out : IsOutAsk stream asked = record { plain = call.plain; token = token; on = ap (λ (e : Endpoint). stream e.addr e.ep) (sym is_x) ∙ streamed } in
      let here : taker wire q.addr q.ep ≡ Some s = ap (λ (e : Endpoint). taker wire e.addr e.ep) (sym is_x) ∙ sent_is in
      let answer : HasTaken asked (call_in (transaction_of kind q) out last).out s reply (taker after q.addr q.ep) = bus.asked wire asked
      (call_in (transaction_of kind q) out last).out reply after s made is_out here in
      let whole : (call_in (transaction_of kind q) out last).out ≡ out = ap (λ (y : Split). sends y asked.pid out) call.plain ∙ ap
      (λ (p : Pid). sends Splits.Plain p out) token in
      let takes : Takes asked out s reply answer.taker = subst (λ (ys : List ℕ). Takes asked ys s reply answer.taker) whole answer.takes in
      let sort : (token_of asked ≡ tokens.PingedOut) ⊎ (token_of asked ≡ tokens.Out) = token_is call token in
      let count : moving_of (transaction_of kind q).split (transaction_of kind q).pipe.pid (host_in q) (length out) ≡ length out = ap
      (λ (y : Split). moving_of y (transaction_of kind q).pipe.pid (host_in q) (length out)) call.plain in
      let known_by : OutMoves z.outcome (moving_of (transaction_of kind q).split (transaction_of kind q).pipe.pid (host_in q)
      (length out)) reply = moved_by_reply call sort in
      let b : Bool = known_by.heard in
      let moves = settled_by z.outcome (moving_of (transaction_of kind q).split (transaction_of kind q).pipe.pid (host_in q) (length out))
      b known_by.moves in
      let next : IsNext part q out = record {
        element = sent.element;
        here = sent.here;
        is = sent.are ∙ ap
            (λ (i : ℕ). take i (drop (buffer_place q - sent.element.offset) bs)) (bytes_are kind q high pid ping);
      } in
      record {
        taker_now = answer.taker;
        is = ap (λ (e : Endpoint). taker after e.addr e.ep) is_x ∙ answer.is;
        agrees = out_step part hand later n q h z.host.toggle known
            (moved_bytes q sent.element z bs) out s own on next un asked reply answer.taker b known_by.acked (ap expected_pid (sym own))
            (toggle_by b moves.0)
            (moved_out q sent.element z bs pid ∙ ap (λ (i : ℕ). take i (drop (buffer_place q - sent.element.offset) bs)) (moves.1 ∙ ap (λ (i : ℕ). if b then i else 0) count) ∙ by b) takes k;
      }
    where
      by : (y : Bool) → take (if y then length out else 0) (drop (buffer_place q - sent.element.offset) (buffer_of part sent.element)) ≡ (if y then out else [])
      by true = take_whole (transaction_of kind q).bytes out (drop (buffer_place q - sent.element.offset) (buffer_of part sent.element))
          sent.are sent.all
      by false = refl

  pub made_by : (b : Bool) → q.token.ping ≡ b → OutAgrees part hand n q h known s → Made
  made_by true ping k = pinged_made ping k
  made_by false ping k = plain_made ping k
