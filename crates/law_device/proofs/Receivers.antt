-- A bulk or interrupt OUT endpoint as the receiver of its pipe.
use Rattle.std.proofs.Common.{◌≡◌, ℕ, Bool, true, false, not, if◌then◌else◌, List, [], ◌∷◌, ◌++◌, length, Some, refl, sym, ap, ◌∙◌, subst, arith}
use Rattle.std.proofs.Math.Bool.{false≢true}
use Rattle.std.specs.Prelude.{slice_get}
use Rattle.std.specs.List.{concat}
use Rattle.std.proofs.lemmas.Grind.{common_steps}
use Rattle.std.proofs.lemmas.List.Folds.{concat-append}
use Rattle.usb_base.specs.declared.packets.Ask.{Ask}
use Rattle.usb_base.specs.declared.packets.Speed.{Speed}
use Rattle.usb_base.specs.declared.packets.Speed.TheVariants.{Full, Low, High}
use Rattle.script_types.specs.declared.devices.Item.{Item}
use Rattle.script_types.specs.declared.devices.Item.TheVariants.{Bytes, Nak, Nyet, Stall, Request, Epoch}
use Rattle.claims_base.specs.Prefix.{IsPrefix}
use Rattle.law_pipe.proofs.Agreement.{accepted_begins}
use Rattle.law_pipe.specs.Pipe.{Pipe, PipeAgrees, opening, after, sent, received, acknowledged, alike, Heard}
use Rattle.dev_control.specs.Stages.{data_pid, sequence_of}
use Rattle.endpoint_script.specs.declared.rows.TakeRow.{TakeRow}
use Rattle.endpoint_script.specs.declared.rows.TakeRow.TheVariants.{Drops, Takes, TakesLast, HasRoom}
use Rattle.endpoint_script.specs.Taking.{Taking, taking_at, next_row, out_row, ping_row, has_room, take_row, taking_row, is_ping, row_reply, after_taking_row, taking_reply, taking_answered}
use Rattle.law_device.specs.Halves.{TakesFor, is_acknowledged}

pub out_opens : (items : List Item) (room : ℕ) → TakesFor opening (taking_at items room)
out_opens items room = record { toggle = refl; bytes = refl }

-- what a row does to what the receiver counts
record IsTaken (out : List ℕ) (before after : Taking) : Type 0 where
  toggle : after.toggle ≡ not before.toggle
  bytes : after.taken ≡ before.taken ++ out

record IsKept (before after : Taking) : Type 0 where
  toggle : after.toggle ≡ before.toggle
  bytes : after.taken ≡ before.taken

-- expected data that are acknowledged were taken
next_takes : (speed : Speed) (items : List Item) (fits : Bool) (out : List ℕ) (t : Taking) → is_acknowledged (row_reply speed (next_row items fits)) ≡ true → IsTaken out t (after_taking_row (next_row items fits) out t)
next_takes speed [] true out t h = record { toggle = refl; bytes = refl }
next_takes speed [] false out t h = absurd (false≢true h)
next_takes speed (Bytes bytes ∷ items) true out t h = record { toggle = refl; bytes = refl }
next_takes speed (Bytes bytes ∷ items) false out t h = absurd (false≢true h)
next_takes speed (Nak n ∷ items) fits out t h = absurd (false≢true h)
next_takes speed (Nyet ∷ items) true out t h = record { toggle = refl; bytes = refl }
next_takes speed (Nyet ∷ items) false out t h = absurd (false≢true h)
next_takes speed (Stall ∷ items) fits out t h = absurd (false≢true h)
next_takes speed (Request setup bytes ∷ items) true out t h = record { toggle = refl; bytes = refl }
next_takes speed (Request setup bytes ∷ items) false out t h = absurd (false≢true h)
next_takes speed (Epoch ∷ items) true out t h = record { toggle = refl; bytes = refl }
next_takes speed (Epoch ∷ items) false out t h = absurd (false≢true h)

joined : (packets : List (List ℕ)) (out : List ℕ) → concat packets ++ out ≡ concat (packets ++ out ∷ [])
joined packets out = grind (arith, common_steps, concat-append packets (out ∷ []))

-- the receiver accepted the packet, whether its acknowledgement was heard or not
taken_for : (w : Pipe (List ℕ)) (t u : Taking) (out : List ℕ) (heard : Bool) → TakesFor w t → IsTaken out t u → TakesFor (acknowledged heard (record w { accepted = w.accepted ++ out ∷ []; expects = not w.expects })) u
taken_for w t u out true h k = record { toggle = k.toggle ∙ ap not h.toggle; bytes = k.bytes ∙ ap (λ xs. xs ++ out) h.bytes ∙ joined w.accepted out }
taken_for w t u out false h k = record { toggle = k.toggle ∙ ap not h.toggle; bytes = k.bytes ∙ ap (λ xs. xs ++ out) h.bytes ∙ joined w.accepted out }

-- it dropped the packet, which it took before
dropped_for : (w : Pipe (List ℕ)) (t : Taking) (heard : Bool) → TakesFor w t → TakesFor (acknowledged heard w) t
dropped_for w t true h = record { toggle = h.toggle; bytes = h.bytes }
dropped_for w t false h = h

settles : (packets : List (List ℕ)) (w : Pipe (List ℕ)) (t : Taking) (speed : Speed) (out : List ℕ) (fits heard : Bool) (sends expects : Bool) → TakesFor w t
    → is_acknowledged (row_reply speed (out_row (sequence_of expects (data_pid sends)) t.items fits)) ≡ true
    → TakesFor (acknowledged heard (if alike sends expects then record w { accepted = w.accepted ++ out ∷ []; expects = not w.expects } else w)) (after_taking_row (out_row (sequence_of expects (data_pid sends)) t.items fits) out t)
settles packets w t speed out fits heard true true h k = taken_for w t (after_taking_row (next_row t.items fits) out t) out heard h (next_takes speed t.items fits out t k)
settles packets w t speed out fits heard false false h k = taken_for w t (after_taking_row (next_row t.items fits) out t) out heard h (next_takes speed t.items fits out t k)
settles packets w t speed out fits heard true false h k = dropped_for w t heard h
settles packets w t speed out fits heard false true h k = dropped_for w t heard h

row_is : (w : Pipe (List ℕ)) (t : Taking) (ask : Ask) (out : List ℕ) → t.toggle ≡ w.expects → ask.toggle ≡ data_pid w.sends → is_ping ask.pid ≡ false → out_row (sequence_of w.expects (data_pid w.sends)) t.items (has_room t (length out)) ≡ taking_row t ask out
row_is w t ask out h e b = sym (ap (λ ping. take_row ping t (sequence_of t.toggle ask.toggle) (length out)) b ∙ ap (λ toggle. out_row (sequence_of toggle ask.toggle) t.items (has_room t (length out))) h ∙ ap (λ pid. out_row (sequence_of w.expects pid) t.items (has_room t (length out))) e)

pub out_takes : (packets : List (List ℕ)) (w : Pipe (List ℕ)) (t : Taking) (speed : Speed) (ask : Ask) (out : List ℕ) (heard : Bool) → TakesFor w t
    → slice_get packets w.known ≡ Some out → ask.toggle ≡ data_pid w.sends → is_ping ask.pid ≡ false
    → is_acknowledged (taking_reply speed t ask out) ≡ true → TakesFor (after packets w (Heard heard)) (taking_answered t ask out)
out_takes packets w t speed ask out heard h o e b k =
    subst (λ x. TakesFor (sent heard x w) (taking_answered t ask out)) (sym o)
    (subst (λ row. TakesFor (acknowledged heard (received out w)) (after_taking_row row out t)) (row_is w t ask out h.toggle e b)
    (settles packets w t speed out (has_room t (length out)) heard w.sends w.expects h
    (subst (λ row. is_acknowledged (row_reply speed row) ≡ true) (sym (row_is w t ask out h.toggle e b)) k)))

-- ---- data that are refused

true_not_false : {A : Type 0} → true ≡ false → A
true_not_false h = absurd (false≢true (sym h))

refused_keeps : (speed : Speed) (row : TakeRow) (out : List ℕ) (t : Taking) → is_acknowledged (row_reply speed row) ≡ false → IsKept t (after_taking_row row out t)
refused_keeps speed Drops out t h = true_not_false h
refused_keeps speed Takes out t h = true_not_false h
refused_keeps High TakesLast out t h = true_not_false h
refused_keeps Full TakesLast out t h = true_not_false h
refused_keeps Low TakesLast out t h = true_not_false h
refused_keeps speed HasRoom out t h = true_not_false h
refused_keeps speed _ out t h = record { toggle = refl; bytes = refl }

kept_for : (w : Pipe (List ℕ)) (t u : Taking) → TakesFor w t → IsKept t u → TakesFor w u
kept_for w t u h k = record { toggle = k.toggle ∙ h.toggle; bytes = k.bytes ∙ h.bytes }

pub out_refuses : (w : Pipe (List ℕ)) (t : Taking) (speed : Speed) (ask : Ask) (out : List ℕ) → TakesFor w t → is_acknowledged (taking_reply speed t ask out) ≡ false → TakesFor w (taking_answered t ask out)
out_refuses w t speed ask out h k = kept_for w t (taking_answered t ask out) h (refused_keeps speed (taking_row t ask out) out t k)

-- ---- a PING

ping_keeps : (items : List Item) (out : List ℕ) (t : Taking) → IsKept t (after_taking_row (ping_row items) out t)
ping_keeps [] out t = record { toggle = refl; bytes = refl }
ping_keeps (Nak n ∷ items) out t = record { toggle = refl; bytes = refl }
ping_keeps (Stall ∷ items) out t = record { toggle = refl; bytes = refl }
ping_keeps (Bytes bytes ∷ items) out t = record { toggle = refl; bytes = refl }
ping_keeps (Nyet ∷ items) out t = record { toggle = refl; bytes = refl }
ping_keeps (Request setup bytes ∷ items) out t = record { toggle = refl; bytes = refl }
ping_keeps (Epoch ∷ items) out t = record { toggle = refl; bytes = refl }

pub out_pinged : (w : Pipe (List ℕ)) (t : Taking) (ask : Ask) (out : List ℕ) → TakesFor w t → is_ping ask.pid ≡ true → TakesFor w (taking_answered t ask out)
out_pinged w t ask out h b =
    subst (λ ping. TakesFor w (after_taking_row (take_row ping t (sequence_of t.toggle ask.toggle) (length out)) out t)) (sym b)
    (kept_for w t (after_taking_row (ping_row t.items) out t) h (ping_keeps t.items out t))

pub taken_bytes_begin_the_stream : (packets : List (List ℕ)) (w : Pipe (List ℕ)) (t : Taking) → TakesFor w t → PipeAgrees packets w → IsPrefix t.taken (concat packets)
taken_bytes_begin_the_stream packets w t h a = subst (λ bytes. IsPrefix bytes (concat packets)) (sym h.bytes) (accepted_begins packets w a)
