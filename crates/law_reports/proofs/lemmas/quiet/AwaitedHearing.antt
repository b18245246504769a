-- Where no packet on the high-speed bus is lost, what the host hears in a split transaction is the hub's answer.
use Rattle.std.proofs.Common.{◌≡◌, ℕ, ◌+◌, ◌-◌, Bool, true, false, ◌||◌, List, slice_get, Option, Some, None, ap, refl}
use Rattle.std.proofs.Common.{sym, subst, ◌∙◌, inl, inr}
use Rattle.std.specs.Prelude.{is_some, ◌⊎◌}
use Rattle.std.specs.List.{AllByRecursion}
use Rattle.std.specs.Option.{option_and_then, option_map, option_map_or}
use Rattle.usb_base.specs.Acknowledgement.{acknowledges}
use Rattle.usb_base.specs.declared.packets.Ask.{Ask}
use Rattle.usb_base.specs.declared.packets.Pid.{Pid}
use Rattle.usb_base.specs.declared.packets.Pid.TheVariants as pids
use Rattle.usb_base.specs.declared.packets.Reply.{Reply}
use Rattle.usb_base.specs.declared.packets.Split.{Split}
use Rattle.script_types.specs.declared.scripts.Script.{Script}
use Rattle.endpoint_script.specs.Device.{Device}
use Rattle.bus_wire.specs.declared.asked.Answerer.{Answerer}
use Rattle.bus_wire.specs.declared.asked.Answerer.TheVariants as answerers
use Rattle.bus_wire.specs.declared.asked.Asked.{Asked}
use Rattle.bus_wire.specs.declared.seats.Seat.{Seat}
use Rattle.bus_wire.specs.declared.seats.TokenKind.{TokenKind}
use Rattle.bus_wire.specs.declared.seats.TokenKind.TheVariants as tokens
use Rattle.bus_wire.specs.Asking.{translator_answer}
use Rattle.bus_wire.specs.Bus.{Bus, fixed_of, stuff_of, hears, asked_at, asked_of, answer_by, reply_at, reply_of}
use Rattle.bus_wire.specs.Fates.{is_unheard}
use Rattle.bus_wire.specs.Seats.{token_kind, place_for, seats_of}
use Rattle.bus_wire.specs.WhoHeard.{who_heard, asker_hears, is_answer, later, packets_before}
use Rattle.hc_copy.specs.Planning.{pid_at}
use Rattle.hub_keys.specs.Keys.{direction_of}
use Rattle.claims_report.specs.ControlSides.{Device as Side}
use Rattle.claims_world.specs.Quiet.{GetsThroughAbove}
use Rattle.drv_table.specs.Words.{is_control}
use Rattle.law_devices.specs.Senders.{sender_of_device}
use Rattle.law_devices.specs.scripted_takers.Takers.{taker_of_device}
use Rattle.law_below_hubs.specs.Awaited.{HasEnd, Asking, Moves, Controls, its_kind, IsMoving, IsCodeOf, IsSplitTo, starts, completes}
use Rattle.law_below_hubs.specs.SeatedControls.{control_in}
use Rattle.law_below_hubs.specs.Seated.{EndOf, end_in}
use Rattle.law_below_hubs.specs.Splits.{IsAtHub}
use Rattle.law_below_hubs.proofs.AwaitedSettles.{pid_cases}
use Rattle.law_below_hubs.proofs.ControlSeats.{IsControlSeated, control_seated}
use Rattle.law_below_hubs.proofs.Seating.{IsSeated, seated}
use Rattle.law_microframes.specs.due.repeats.Hearing.{HasNumber}
use Rattle.law_reports.specs.quiet.Awaiting.{AreNumbered}
use Rattle.law_reports.proofs.lemmas.quiet.BusEvents.{IsThere, there_is}
use Rattle.law_reports.proofs.lemmas.quiet.Hearing.{none_against, heard_whole}

-- ---- the endpoint has its seat

pub record HasSeat (s : Script) (addr ep : ℕ) (token : TokenKind) : Type 0 where
  pub place : ℕ
  pub found : place_for (seats_of s) addr ep token ≡ Some place
  pub seat : Seat
  pub there : slice_get (seats_of s) place ≡ Some seat

end_seat : {X : Type 0} (of_device : EndOf X) (nowhere : (addr ep : ℕ) → of_device addr ep None ≡ None) (s : Script) (devices : List Device)
    (addr ep : ℕ) (token : TokenKind) → is_some (end_in of_device token (fixed_of s) devices addr ep) ≡ true → HasSeat s addr ep token
end_seat {X} of_device nowhere s devices addr ep token some =
    let e : IsThere (end_in of_device token (fixed_of s) devices addr ep) = there_is (end_in of_device token (fixed_of s) devices addr ep) some
    in
    let h : IsSeated of_device token (fixed_of s) devices addr ep e.value =
    seated of_device token nowhere (fixed_of s) devices addr ep e.value e.is in
    record { place = h.place; found = h.found; seat = h.seat; there = h.there }

-- SETUP, IN and OUT of a control endpoint are for one seat
control_seat : (s : Script) (devices : List Device) (addr ep : ℕ) (pid : Pid)
    → (pid ≡ pids.In) ⊎ ((pid ≡ pids.Out) ⊎ (pid ≡ pids.Setup)) → is_some (control_in (fixed_of s) devices addr ep) ≡ true
    → HasSeat s addr ep (token_kind pid)
control_seat s devices addr ep pid token some =
    let e : IsThere (control_in (fixed_of s) devices addr ep) = there_is (control_in (fixed_of s) devices addr ep) some in
    let h : IsControlSeated (fixed_of s) devices addr ep e.value = control_seated (fixed_of s) devices addr ep e.value e.is in
    record { place = h.place; found = by h token; seat = h.seat; there = h.there }
  where
    by : {d : Side} (h : IsControlSeated (fixed_of s) devices addr ep d) → (pid ≡ pids.In) ⊎ ((pid ≡ pids.Out) ⊎ (pid ≡ pids.Setup))
        → place_for (seats_of s) addr ep (token_kind pid) ≡ Some h.place
    by h (inl is) = ap (λ (p : Pid). place_for (seats_of s) addr ep (token_kind p)) is ∙ h.found_in
    by h (inr (inl is)) = ap (λ (p : Pid). place_for (seats_of s) addr ep (token_kind p)) is ∙ h.found_out
    by h (inr (inr is)) = ap (λ (p : Pid). place_for (seats_of s) addr ep (token_kind p)) is ∙ h.found

-- an IN has the PID code 1, an OUT 0
data_seat : (s : Script) (devices : List Device) (code addr ep : ℕ) (pid : Pid) → (code ≡ 1) ⊎ (code ≡ 0) → pid ≡ pid_at code
    → HasEnd false (direction_of (pid_at code)) (fixed_of s) devices addr ep → HasSeat s addr ep (token_kind pid)
data_seat s devices code addr ep pid (inl one) is ends =
    subst (λ (p : Pid). HasSeat s addr ep (token_kind p)) (sym (is ∙ ap pid_at one))
    (end_seat sender_of_device (λ a n. refl) s devices addr ep tokens.In
    (subst (λ (c : ℕ). HasEnd false (direction_of (pid_at c)) (fixed_of s) devices addr ep) one ends))
data_seat s devices code addr ep pid (inr none) is ends =
    subst (λ (p : Pid). HasSeat s addr ep (token_kind p)) (sym (is ∙ ap pid_at none))
    (end_seat taker_of_device (λ a n. refl) s devices addr ep tokens.Out
    (subst (λ (c : ℕ). HasEnd false (direction_of (pid_at c)) (fixed_of s) devices addr ep) none ends))

pub its_seat : (s : Script) (devices : List Device) (a : Asking) (code addr ep : ℕ) (pid : Pid) → IsMoving a → IsCodeOf a code
    → pid ≡ pid_at code → HasEnd (is_control (its_kind a)) (direction_of (pid_at code)) (fixed_of s) devices addr ep
    → HasSeat s addr ep (token_kind pid)
its_seat s devices (Moves its) code addr ep pid moving of is ends =
    data_seat s devices code addr ep pid (by moving) is ends
  where
    by : (its ≡ 1) ⊎ (its ≡ 0) → (code ≡ 1) ⊎ (code ≡ 0)
    by (inl one) = inl (of ∙ one)
    by (inr none) = inr (of ∙ none)
its_seat s devices Controls code addr ep pid moving of is ends =
    subst (λ (p : Pid). HasSeat s addr ep (token_kind p)) (sym is) (control_seat s devices addr ep (pid_at code) (pid_cases code) ends)

-- ---- it is heard

module _ (s : Script) (packets : AllByRecursion GetsThroughAbove s.fates) (b : Bus) (numbers : AreNumbered s b) (ask : Ask) (out : List ℕ)
    (hub port i place : ℕ) (split : IsSplitTo hub port ask.split) (at : IsAtHub b.hubs hub port i place)
    (h : HasSeat s ask.addr ask.ep (token_kind ask.pid)) where
  number : HasNumber b h.place
  number = numbers h.place h.seat h.there

  abbrev who : Answerer
  who = answerers.Translator i (stuff_of h.seat.owner)

  its : Asked
  its = record { place = h.place; name = h.seat.name; packet = number.number; who = answerers.Translator i (stuff_of h.seat.owner) }

  hears_is : (x : Split) → IsSplitTo hub port x → hears b x h.seat.owner ≡ answerers.Translator i (stuff_of h.seat.owner)
  hears_is _ starts =
      ap (λ (o : Option ℕ). option_map_or (λ n. answerers.Translator n (stuff_of h.seat.owner)) o answerers.Nobody) at.found
  hears_is _ completes =
      ap (λ (o : Option ℕ). option_map_or (λ n. answerers.Translator n (stuff_of h.seat.owner)) o answerers.Nobody) at.found

  abbrev as_asked : Answerer → Option ℕ → Option Asked
  as_asked x o = option_map (λ (n : ℕ). record { place = h.place; name = h.seat.name; packet = n; who = x }) o

  asked_is : asked_of (fixed_of s) b ask ≡ Some its
  unfolding its
  asked_is =
      ap (option_and_then (asked_at (fixed_of s) b ask.split)) h.found
      ∙ ap (option_and_then (λ (x : Seat). option_map
      (λ (n : ℕ). record { place = h.place; name = x.name; packet = n; who = hears b ask.split x.owner }) (slice_get b.high h.place))) h.there
      ∙ ap (λ (x : Answerer). as_asked x (slice_get b.high h.place)) (hears_is ask.split split)
      ∙ ap (as_asked who) number.is

  good : (n : ℕ) → is_unheard s.fates h.seat.name false (later number.number n) ≡ false
  good n = none_against h.seat.name (later number.number n) s.fates packets

  abbrev answer : Reply
  answer = answer_by b (answerers.Translator i (stuff_of h.seat.owner)) ask out

  abbrev lost : ℕ → Bool
  lost n = is_unheard s.fates h.seat.name false (later number.number n)

  abbrev heard_with : Bool → Bool → Bool → Reply
  heard_with first second third =
      asker_hears (who_heard (first || second) (is_answer answer) third (acknowledges ask answer) (lost (packets_before ask + 1))) answer

  pub hub_is_heard : reply_of (fixed_of s) b ask out ≡ translator_answer (slice_get b.hubs i) ask
  unfolding its
  hub_is_heard =
      ap (reply_at (fixed_of s) b ask out) asked_is
      ∙ ap (λ (x : Bool). heard_with x (lost (packets_before ask - 1)) (lost (packets_before ask))) (good 0)
      ∙ ap (λ (x : Bool). heard_with false x (lost (packets_before ask))) (good (packets_before ask - 1))
      ∙ ap (heard_with false false) (good (packets_before ask))
      ∙ heard_whole answer (acknowledges ask answer) (lost (packets_before ask + 1))
