-- What an IN endpoint answers, what is heard of it, and what it has left.
use Rattle.std.proofs.Common.{◌≡◌, ℕ, ◌≤◌, nat_le, ◌==◌, Bool, true, false, not, ◌&&◌, ◌||◌, if◌then◌else◌, List, [], ◌∷◌, length, Option, Some, ap, refl, sym, subst, ◌∙◌}
use Rattle.std.proofs.lemmas.Bool.{false≢true, leb-true, eq-eqb}
use Rattle.law_common.proofs.Booleans.{and_right}
use Rattle.usb_base.specs.Acknowledgement.{pid_bits, is_plain, has_handshake, is_taken, acknowledges}
use Rattle.usb_base.specs.declared.packets.Ask.{Ask}
use Rattle.usb_base.specs.declared.packets.Pid.{Pid}
use Rattle.usb_base.specs.declared.packets.Pid.TheVariants as Pids
use Rattle.usb_base.specs.declared.packets.Reply.TheVariants as Replies
use Rattle.toggle_error.specs.Columns.{expected_pid}
use Rattle.script_types.specs.declared.devices.Item.{Item}
use Rattle.script_types.specs.declared.devices.Item.TheVariants.{Bytes, Nak, Stall}
use Rattle.dev_control.specs.Stages.{data_pid}
use Rattle.endpoint_script.specs.declared.endpoint.Role.TheVariants.{Sends}
use Rattle.endpoint_script.specs.Items.{nak_given, packets_of}
use Rattle.endpoint_script.specs.Sending.{Sending, sent_reply, sending_reply, sending_answered, sending_acked}
use Rattle.bus_wire.specs.declared.who_heard.WhoHeard.{WhoHeard}
use Rattle.bus_wire.specs.WhoHeard.{who_heard, asker_hears, is_answer, left_by}
use Rattle.law_ring.specs.Bus.{Sender, Answers, nothing_heard, unacknowledged, acknowledged, HasAnswered}
use Rattle.law_devices.specs.Senders.{sender_of_part}

-- the sender that the endpoint is
abbrev pub sender_in : Sending → Sender
sender_in s = record { left = packets_of s.items; sends = s.toggle }

-- and what a transaction leaves of it
abbrev pub sender_by : WhoHeard → Sending → Option Sender
sender_by row s = sender_of_part (left_by row (Sends s) (Sends (sending_answered s)) (Sends (sending_acked (sending_answered s))))

same_pid : (b : Bool) → data_pid b ≡ expected_pid b
same_pid true = refl
same_pid false = refl

used_kept : (b : Bool) (n : ℕ) (items : List Item) → packets_of (if b then items else Nak n ∷ items) ≡ packets_of items
used_kept true n items = refl
used_kept false n items = refl

packets_kept : (items : List Item) → packets_of (nak_given items) ≡ packets_of items
packets_kept [] = refl
packets_kept (Nak n ∷ items) = used_kept (nat_le n 1) _ items
packets_kept (_ ∷ items) = refl

answered_same : (s : Sending) → Some (sender_in (sending_answered s)) ≡ Some (sender_in s)
answered_same s = ap (λ (xs : List (List ℕ)). Some (record { left = xs; sends = s.toggle })) (packets_kept s.items)

or_last : (a b : Bool) → a ≡ true → (not a || b) ≡ true → b ≡ true
or_last true b on e = e
or_last false b on e = absurd (false≢true on)

-- an acknowledged packet of the toggle that the host expects is no longer than it can take
able : (ask : Ask) (toggle : Bool) (x : List ℕ) → acknowledges ask (Replies.Bytes (data_pid toggle) x) ≡ true → ask.toggle ≡ expected_pid toggle → length x ≤ ask.limit
able ask toggle x acked same =
    leb-true (length x) ask.limit
    (or_last (pid_bits (data_pid toggle) == pid_bits ask.toggle) (nat_le (length x) ask.limit)
    (eq-eqb (pid_bits (data_pid toggle)) (pid_bits ask.toggle) (ap pid_bits (same_pid toggle ∙ sym same)))
    (and_right (is_plain ask.split && (pid_bits ask.pid == pid_bits Pids.In) && has_handshake ask.kind)
    (is_taken ask (data_pid toggle) (length x)) acked))

-- ---- nothing but a handshake

hand_heard : (ask : Ask) (s : Sending) (pid : Pid) (lost unheard ack : Bool) → HasAnswered ask (sender_in s) (asker_hears (who_heard lost true unheard false ack) (Replies.Hand pid)) (sender_by (who_heard lost true unheard false ack) s)
hand_heard ask s pid true unheard ack = record { sender = sender_in s; is = refl; answers = nothing_heard Replies.Silent refl }
hand_heard ask s pid false true ack = record { sender = sender_in s; is = answered_same s; answers = nothing_heard Replies.Silent refl }
hand_heard ask s pid false false ack = record { sender = sender_in s; is = answered_same s; answers = nothing_heard (Replies.Hand pid) refl }

-- ---- a packet

-- it is heard, and its acknowledgement isn't
data_unacknowledged : (ask : Ask) (toggle : Bool) (x : List ℕ) (items : List Item) → Answers ask (sender_in (record { items = Bytes x ∷ items; toggle = toggle })) (Replies.Bytes (data_pid toggle) x) (sender_in (record { items = Bytes x ∷ items; toggle = toggle }))
data_unacknowledged ask toggle x items =
    subst (λ (pid : Pid). Answers ask (sender_in (record { items = Bytes x ∷ items; toggle = toggle })) (Replies.Bytes pid x) (sender_in (record { items = Bytes x ∷ items; toggle = toggle }))) (sym (same_pid toggle))
    (unacknowledged x (packets_of items) refl)

data_acknowledged : (ask : Ask) (toggle : Bool) (x : List ℕ) (items : List Item) → acknowledges ask (Replies.Bytes (data_pid toggle) x) ≡ true → Answers ask (sender_in (record { items = Bytes x ∷ items; toggle = toggle })) (Replies.Bytes (data_pid toggle) x) (record { left = packets_of items; sends = not toggle })
data_acknowledged ask toggle x items acked =
    subst (λ (pid : Pid). Answers ask (sender_in (record { items = Bytes x ∷ items; toggle = toggle })) (Replies.Bytes pid x) (record { left = packets_of items; sends = not toggle })) (sym (same_pid toggle))
    (acknowledged x (packets_of items) refl (able ask toggle x acked))

data_heard : (ask : Ask) (toggle : Bool) (x : List ℕ) (items : List Item) (lost unheard acked ack : Bool) → acknowledges ask (Replies.Bytes (data_pid toggle) x) ≡ acked
    → HasAnswered ask (sender_in (record { items = Bytes x ∷ items; toggle = toggle })) (asker_hears (who_heard lost true unheard acked ack) (Replies.Bytes (data_pid toggle) x)) (sender_by (who_heard lost true unheard acked ack) (record { items = Bytes x ∷ items; toggle = toggle }))
data_heard ask toggle x items true unheard acked ack is = record { sender = sender_in (record { items = Bytes x ∷ items; toggle = toggle }); is = refl; answers = nothing_heard Replies.Silent refl }
data_heard ask toggle x items false true acked ack is = record { sender = sender_in (record { items = Bytes x ∷ items; toggle = toggle }); is = refl; answers = nothing_heard Replies.Silent refl }
data_heard ask toggle x items false false false ack is = record { sender = sender_in (record { items = Bytes x ∷ items; toggle = toggle }); is = refl; answers = data_unacknowledged ask toggle x items }
data_heard ask toggle x items false false true true is = record { sender = sender_in (record { items = Bytes x ∷ items; toggle = toggle }); is = refl; answers = data_unacknowledged ask toggle x items }
data_heard ask toggle x items false false true false is = record { sender = record { left = packets_of items; sends = not toggle }; is = refl; answers = data_acknowledged ask toggle x items is }

-- ---- either

heard_at : (ask : Ask) (toggle : Bool) (items : List Item) (lost unheard ack : Bool)
    → HasAnswered ask (sender_in (record { items = items; toggle = toggle }))
    (asker_hears (who_heard lost (is_answer (sent_reply toggle items)) unheard (acknowledges ask (sent_reply toggle items)) ack) (sent_reply toggle items))
    (sender_by (who_heard lost (is_answer (sent_reply toggle items)) unheard (acknowledges ask (sent_reply toggle items)) ack) (record { items = items; toggle = toggle }))
heard_at ask toggle (Bytes x ∷ items) lost unheard ack = data_heard ask toggle x items lost unheard (acknowledges ask (Replies.Bytes (data_pid toggle) x)) ack refl
heard_at ask toggle (Nak n ∷ items) lost unheard ack = hand_heard ask (record { items = Nak n ∷ items; toggle = toggle }) Pids.Nak lost unheard ack
heard_at ask toggle (Stall ∷ items) lost unheard ack = hand_heard ask (record { items = Stall ∷ items; toggle = toggle }) Pids.Stall lost unheard ack
heard_at ask toggle items lost unheard ack = hand_heard ask (record { items = items; toggle = toggle }) Pids.Nak lost unheard ack

pub sending_heard : (ask : Ask) (s : Sending) (lost unheard ack : Bool)
    → HasAnswered ask (sender_in s) (asker_hears (who_heard lost (is_answer (sending_reply s)) unheard (acknowledges ask (sending_reply s)) ack) (sending_reply s))
    (sender_by (who_heard lost (is_answer (sending_reply s)) unheard (acknowledges ask (sending_reply s)) ack) s)
sending_heard ask s lost unheard ack = heard_at ask s.toggle s.items lost unheard ack
