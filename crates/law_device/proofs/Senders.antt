-- A bulk or interrupt IN endpoint as the sender of its pipe.
use Rattle.std.proofs.Common.{◌≡◌, ℕ, zero, suc, ◌+◌, ◌-◌, Bool, true, false, not, if◌then◌else◌, List, [], ◌∷◌, ◌++◌, take, drop, Some, refl, sym, ap, ◌∙◌, subst, add-one}
use Rattle.std.proofs.lemmas.List.{take-append-drop}
use Rattle.std.specs.Prelude.{slice_get, nat_le}
use Rattle.usb_base.specs.declared.packets.Pid.{Pid}
use Rattle.usb_base.specs.declared.packets.Reply.TheVariants as Replies
use Rattle.script_types.specs.declared.devices.Item.{Item}
use Rattle.script_types.specs.declared.devices.Item.TheVariants.{Bytes, Nak, Nyet, Stall, Request, Epoch}
use Rattle.law_pipe.specs.Pipe.{Pipe, opening, after, sent, acknowledged, alike, Heard}
use Rattle.dev_control.specs.Stages.{data_pid}
use Rattle.endpoint_script.specs.Items.{packets_of, nak_given}
use Rattle.endpoint_script.specs.Sending.{Sending, sending_at, sent_reply, sending_reply, sending_answered, sending_acked}
use Rattle.law_device.specs.Halves.{SendsFor}

-- ---- lists

slice_get-drop : {A : Type 0} (xs : List A) (n : ℕ) → slice_get xs n ≡ slice_get (drop n xs) 0
slice_get-drop [] zero = refl
slice_get-drop [] (suc n) = refl
slice_get-drop (x ∷ xs) zero = refl
slice_get-drop (x ∷ xs) (suc n) = slice_get-drop xs n

drop_next : {A : Type 0} (xs : List A) (n : ℕ) (y : A) (ys : List A) → y ∷ ys ≡ drop n xs → ys ≡ drop (suc n) xs
drop_next [] zero y ys h = absurd cc
drop_next [] (suc n) y ys h = absurd cc
drop_next (x ∷ xs) zero y ys h = cc
drop_next (x ∷ xs) (suc n) y ys h = drop_next xs n y ys h

-- ---- the endpoint

used_keeps : (last : Bool) (n : ℕ) (items : List Item) → packets_of (if last then items else Nak n ∷ items) ≡ packets_of items
used_keeps true n items = refl
used_keeps false n items = refl

-- a NAK takes no packet
nak_keeps : (items : List Item) → packets_of (nak_given items) ≡ packets_of items
nak_keeps [] = refl
nak_keeps (Bytes bytes ∷ items) = refl
nak_keeps (Nak n ∷ items) = used_keeps (nat_le n 1) (n - 1) items
nak_keeps (Nyet ∷ items) = refl
nak_keeps (Stall ∷ items) = refl
nak_keeps (Request setup bytes ∷ items) = refl
nak_keeps (Epoch ∷ items) = refl

pub in_opens : (items : List Item) → SendsFor (packets_of items) opening (sending_at items)
in_opens items = record { toggle = refl; left = refl }

pub in_stays : (packets : List (List ℕ)) (w : Pipe (List ℕ)) (s : Sending) → SendsFor packets w s → SendsFor packets w (sending_answered s)
in_stays packets w s h = record { toggle = h.toggle; left = nak_keeps s.items ∙ h.left }

-- what is sent is the first packet that is left
first_sent : (toggle : Bool) (items : List Item) (pid : Pid) (bytes : List ℕ) → sent_reply toggle items ≡ Replies.Bytes pid bytes → slice_get (packets_of items) 0 ≡ Some bytes
first_sent toggle [] pid bytes h = absurd cc
first_sent toggle (Bytes sends ∷ items) pid bytes h = cc
first_sent toggle (Nak n ∷ items) pid bytes h = absurd cc
first_sent toggle (Nyet ∷ items) pid bytes h = absurd cc
first_sent toggle (Stall ∷ items) pid bytes h = absurd cc
first_sent toggle (Request setup reply ∷ items) pid bytes h = absurd cc
first_sent toggle (Epoch ∷ items) pid bytes h = absurd cc

sent_toggle : (toggle : Bool) (items : List Item) (pid : Pid) (bytes : List ℕ) → sent_reply toggle items ≡ Replies.Bytes pid bytes → pid ≡ data_pid toggle
sent_toggle toggle [] pid bytes h = absurd cc
sent_toggle toggle (Bytes sends ∷ items) pid bytes h = cc
sent_toggle toggle (Nak n ∷ items) pid bytes h = absurd cc
sent_toggle toggle (Nyet ∷ items) pid bytes h = absurd cc
sent_toggle toggle (Stall ∷ items) pid bytes h = absurd cc
sent_toggle toggle (Request setup reply ∷ items) pid bytes h = absurd cc
sent_toggle toggle (Epoch ∷ items) pid bytes h = absurd cc

pub in_sends : (packets : List (List ℕ)) (w : Pipe (List ℕ)) (s : Sending) (pid : Pid) (bytes : List ℕ) → SendsFor packets w s → sending_reply s ≡ Replies.Bytes pid bytes → slice_get packets w.known ≡ Some bytes
in_sends packets w s pid bytes h e = slice_get-drop packets w.known ∙ ap (λ xs. slice_get xs 0) (sym h.left) ∙ first_sent s.toggle s.items pid bytes e

pub in_toggle : (packets : List (List ℕ)) (w : Pipe (List ℕ)) (s : Sending) (pid : Pid) (bytes : List ℕ) → SendsFor packets w s → sending_reply s ≡ Replies.Bytes pid bytes → pid ≡ data_pid w.sends
in_toggle packets w s pid bytes h e = sent_toggle s.toggle s.items pid bytes e ∙ ap data_pid h.toggle

-- ---- the acknowledgement

moved_on : (packets : List (List ℕ)) (n : ℕ) (toggle : Bool) (items : List Item) (pid : Pid) (bytes : List ℕ) → sent_reply toggle items ≡ Replies.Bytes pid bytes → packets_of items ≡ drop n packets → packets_of (sending_acked (sending_answered (record { items = items; toggle = toggle }))).items ≡ drop (n + 1) packets
moved_on packets n toggle [] pid bytes h k = absurd cc
moved_on packets n toggle (Bytes sends ∷ items) pid bytes h k = rw (add-one n) (drop_next packets n sends (packets_of items) k)
moved_on packets n toggle (Nak m ∷ items) pid bytes h k = absurd cc
moved_on packets n toggle (Nyet ∷ items) pid bytes h k = absurd cc
moved_on packets n toggle (Stall ∷ items) pid bytes h k = absurd cc
moved_on packets n toggle (Request setup reply ∷ items) pid bytes h k = absurd cc
moved_on packets n toggle (Epoch ∷ items) pid bytes h k = absurd cc

flipped : (toggle : Bool) (items : List Item) (pid : Pid) (bytes : List ℕ) → sent_reply toggle items ≡ Replies.Bytes pid bytes → (sending_acked (sending_answered (record { items = items; toggle = toggle }))).toggle ≡ not toggle
flipped toggle [] pid bytes h = absurd cc
flipped toggle (Bytes sends ∷ items) pid bytes h = refl
flipped toggle (Nak m ∷ items) pid bytes h = absurd cc
flipped toggle (Nyet ∷ items) pid bytes h = absurd cc
flipped toggle (Stall ∷ items) pid bytes h = absurd cc
flipped toggle (Request setup reply ∷ items) pid bytes h = absurd cc
flipped toggle (Epoch ∷ items) pid bytes h = absurd cc

-- what the receiver does is nothing to the sender
received_at : (packets : List (List ℕ)) (w : Pipe (List ℕ)) (s : Sending) (pid : Pid) (bytes : List ℕ) (fits heard : Bool) → SendsFor packets w s → sending_reply s ≡ Replies.Bytes pid bytes
    → SendsFor packets (acknowledged heard (if fits then record w { accepted = w.accepted ++ bytes ∷ []; expects = not w.expects } else w)) (if heard then sending_acked (sending_answered s) else sending_answered s)
received_at packets w s pid bytes true true h e = record { toggle = flipped s.toggle s.items pid bytes e ∙ ap not h.toggle; left = moved_on packets w.known s.toggle s.items pid bytes e h.left }
received_at packets w s pid bytes false true h e = record { toggle = flipped s.toggle s.items pid bytes e ∙ ap not h.toggle; left = moved_on packets w.known s.toggle s.items pid bytes e h.left }
received_at packets w s pid bytes true false h e = record { toggle = h.toggle; left = nak_keeps s.items ∙ h.left }
received_at packets w s pid bytes false false h e = record { toggle = h.toggle; left = nak_keeps s.items ∙ h.left }

pub in_moves : (packets : List (List ℕ)) (w : Pipe (List ℕ)) (s : Sending) (pid : Pid) (bytes : List ℕ) (heard : Bool) → SendsFor packets w s → sending_reply s ≡ Replies.Bytes pid bytes
    → SendsFor packets (after packets w (Heard heard)) (if heard then sending_acked (sending_answered s) else sending_answered s)
in_moves packets w s pid bytes heard h e =
    subst (λ o. SendsFor packets (sent heard o w) (if heard then sending_acked (sending_answered s) else sending_answered s)) (sym (in_sends packets w s pid bytes h e)) (received_at packets w s pid bytes (alike w.sends w.expects) heard h e)

pub known_packets_begin_the_stream : (packets : List (List ℕ)) (w : Pipe (List ℕ)) (s : Sending) → SendsFor packets w s → take w.known packets ++ packets_of s.items ≡ packets
known_packets_begin_the_stream packets w s h = ap (λ left. take w.known packets ++ left) h.left ∙ take-append-drop w.known packets
