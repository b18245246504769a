-- What an OUT endpoint does with data, and what is heard of it.
use Rattle.std.proofs.Common.{◌≡◌, ◌≢◌, ℕ, Bool, true, false, List, ◌∷◌, length, Option, Some, ap, refl, sym, subst, ◌∙◌}
use Rattle.law_request.proofs.Common.{expected_next}
use Rattle.usb_base.specs.declared.packets.Ask.{Ask}
use Rattle.usb_base.specs.declared.packets.Pid.{Pid}
use Rattle.usb_base.specs.declared.packets.Pid.TheVariants as Pids
use Rattle.usb_base.specs.declared.packets.Reply.{Reply}
use Rattle.usb_base.specs.declared.packets.Reply.TheVariants as Replies
use Rattle.usb_base.specs.declared.packets.Speed.{Speed}
use Rattle.toggle_error.specs.Columns.{expected_pid}
use Rattle.script_types.specs.declared.devices.Item.{Item}
use Rattle.script_types.specs.declared.devices.Item.TheVariants.{Nak, Nyet, Stall}
use Rattle.dev_control.specs.declared.rows.Sequence.{Sequence}
use Rattle.dev_control.specs.declared.rows.Sequence.TheVariants.{Next, Repeat, Neither}
use Rattle.dev_control.specs.Stages.{sequence_of}
use Rattle.endpoint_script.specs.declared.endpoint.Role.TheVariants.{Takes}
use Rattle.endpoint_script.specs.declared.rows.TakeRow.{TakeRow}
use Rattle.endpoint_script.specs.Taking.{Taking, is_ping, take_row, out_row, next_row, ping_row, taking_row, row_reply, has_room, after_taking_row, taking_reply, taking_answered}
use Rattle.bus_wire.specs.declared.who_heard.WhoHeard.{WhoHeard}
use Rattle.bus_wire.specs.declared.who_heard.WhoHeard.TheVariants.{SentUnheard, NoAnswer, AnswerUnheard}
use Rattle.bus_wire.specs.WhoHeard.{asker_hears, left_by}
use Rattle.law_ring.specs.OutBus.{Taker, Takes as Took, is_acknowledgement, nothing_taken, all_taken, all_dropped, HasTaken}
use Rattle.law_devices.specs.scripted_takers.Takers.{taker_of_part}

-- the taker that the endpoint is
abbrev pub taker_in : Taking → Taker
taker_in t = record { taken = t.taken; expects = t.toggle }

-- and what an ask leaves of it
abbrev pub taker_by : WhoHeard → Ask → List ℕ → Taking → Option Taker
taker_by row ask out t = taker_of_part (left_by row (Takes t) (Takes (taking_answered t ask out)) (Takes (taking_answered t ask out)))

-- ---- which data it expects

next_is : (toggle : Bool) (pid : Pid) → sequence_of toggle pid ≡ Next → pid ≡ expected_pid toggle
next_is false Pids.Data0 e = refl
next_is true Pids.Data1 e = refl
next_is false Pids.Data1 e = absurd cc
next_is true Pids.Data0 e = absurd cc
next_is true _ e = absurd cc
next_is false _ e = absurd cc

not_expected : (toggle : Bool) (pid : Pid) → sequence_of toggle pid ≢ Next → pid ≢ expected_pid toggle
not_expected toggle pid differs e = differs (ap (sequence_of toggle) e ∙ expected_next toggle)

-- ---- data

module _ (speed : Speed) (ask : Ask) (out : List ℕ) (t : Taking) (heard : Reply) where
  abbrev IsHeardOf : TakeRow → Type 0
  IsHeardOf row = is_acknowledgement (row_reply speed row) ≡ false → is_acknowledgement heard ≡ false

  next_takes : (items : List Item) (fits : Bool) → ask.toggle ≡ expected_pid t.toggle → IsHeardOf (next_row items fits) → Took ask out (taker_in t) heard (taker_in (after_taking_row (next_row items fits) out t))
  next_takes (Nak n ∷ items) fits e none = nothing_taken heard (none refl)
  next_takes (Stall ∷ items) fits e none = nothing_taken heard (none refl)
  next_takes (Nyet ∷ items) true e none = all_taken heard e
  next_takes (Nyet ∷ items) false e none = nothing_taken heard (none refl)
  next_takes _ true e none = all_taken heard e
  next_takes _ false e none = nothing_taken heard (none refl)

  data_takes : (sequence : Sequence) → sequence_of t.toggle ask.toggle ≡ sequence → IsHeardOf (out_row sequence t.items (has_room t (length out))) → Took ask out (taker_in t) heard (taker_in (after_taking_row (out_row sequence t.items (has_room t (length out))) out t))
  data_takes Next is none = next_takes t.items (has_room t (length out)) (next_is t.toggle ask.toggle is) none
  data_takes Repeat is none = all_dropped heard (not_expected t.toggle ask.toggle (λ e. repeats (sym is ∙ e)))
    where
      repeats : Repeat ≡ Next → ⊥
      repeats e = cc
  data_takes Neither is none = all_dropped heard (not_expected t.toggle ask.toggle (λ e. neither (sym is ∙ e)))
    where
      neither : Neither ≡ Next → ⊥
      neither e = cc

  out_takes : ask.pid ≡ Pids.Out → IsHeardOf (taking_row t ask out) → Took ask out (taker_in t) heard (taker_in (taking_answered t ask out))
  out_takes is = subst (λ (pid : Pid). IsHeardOf (take_row (is_ping pid) t (sequence_of t.toggle ask.toggle) (length out)) → Took ask out (taker_in t) heard (taker_in (after_taking_row (take_row (is_ping pid) t (sequence_of t.toggle ask.toggle) (length out)) out t))) (sym is)
      (data_takes (sequence_of t.toggle ask.toggle) refl)

pub taking_heard : (speed : Speed) (ask : Ask) (out : List ℕ) (t : Taking) (row : WhoHeard) → ask.pid ≡ Pids.Out → HasTaken ask out (taker_in t) (asker_hears row (taking_reply speed t ask out)) (taker_by row ask out t)
taking_heard speed ask out t SentUnheard is = record { taker = taker_in t; is = refl; takes = nothing_taken Replies.Silent refl }
taking_heard speed ask out t NoAnswer is = record { taker = taker_in (taking_answered t ask out); is = refl; takes = out_takes speed ask out t Replies.Silent is (λ e. refl) }
taking_heard speed ask out t AnswerUnheard is = record { taker = taker_in (taking_answered t ask out); is = refl; takes = out_takes speed ask out t Replies.Silent is (λ e. refl) }
taking_heard speed ask out t _ is = record { taker = taker_in (taking_answered t ask out); is = refl; takes = out_takes speed ask out t (taking_reply speed t ask out) is (λ e. e) }

-- ---- a PING

ping_none : (items : List Item) (out : List ℕ) (t : Taking) → taker_in (after_taking_row (ping_row items) out t) ≡ taker_in t
ping_none (Nak n ∷ items) out t = refl
ping_none (Stall ∷ items) out t = refl
ping_none _ out t = refl

pinged_none : (ask : Ask) (out : List ℕ) (t : Taking) → ask.pid ≡ Pids.Ping → taker_in (taking_answered t ask out) ≡ taker_in t
pinged_none ask out t is = ap (λ (pid : Pid). taker_in (after_taking_row (take_row (is_ping pid) t (sequence_of t.toggle ask.toggle) (length out)) out t)) is ∙ ping_none t.items out t

pub pinged_stays : (ask : Ask) (out : List ℕ) (t : Taking) (row : WhoHeard) → ask.pid ≡ Pids.Ping → taker_by row ask out t ≡ Some (taker_in t)
pinged_stays ask out t SentUnheard is = refl
pinged_stays ask out t _ is = ap Some (pinged_none ask out t is)
