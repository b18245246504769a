-- Packets and lines of worked rows.
use Rattle.std.specs.Prelude.{ℕ, Bool, true, false, List, [], ◌∷◌, take, drop}
use Rattle.law_pipe.specs.Pipe.{toggle_after}
use Rattle.law_translated.specs.Lift.{Wait, Idle, Slot, Empty}
use Rattle.law_translated.specs.InPipes as inward
use Rattle.law_translated.specs.OutPipes as outward

abbrev pub one : List ℕ
one = 1 ∷ 2 ∷ []

abbrev pub two : List ℕ
two = 3 ∷ 4 ∷ []

abbrev pub three : List ℕ
three = 5 ∷ []

abbrev pub packets : List (List ℕ)
packets = one ∷ two ∷ three ∷ []

-- ---- an IN pipe of which the device knows q packets to be taken, and the host took p

abbrev pub in_line : ℕ → ℕ → inward.Line
in_line q p = record { left = drop q packets; sends = toggle_after q; accepted = take p packets; expects = toggle_after p; going = true }

abbrev pub in_split : inward.Line → Wait → Slot inward.Ask inward.Reply → inward.InSplit
in_split line wait here = record { line = line; wait = wait; here = here; aside = Empty }

abbrev pub in_at : ℕ → ℕ → Wait → Slot inward.Ask inward.Reply → inward.InSplit
in_at q p wait here = in_split (in_line q p) wait here

abbrev pub in_opened : inward.InSplit
in_opened = in_split (inward.in_opening packets) Idle Empty

-- the answers with the three packets
abbrev pub first : inward.Reply
first = inward.Data false one

abbrev pub second : inward.Reply
second = inward.Data true two

abbrev pub third : inward.Reply
third = inward.Data false three

-- ---- an OUT pipe of which the host knows q packets to be taken, and the device took p

abbrev pub out_line : ℕ → ℕ → Bool → outward.Line
out_line q p going = record {
  known = take q packets;
  rest = drop q packets;
  sends = toggle_after q;
  taken = take p packets;
  expects = toggle_after p;
  going = going;
}

abbrev pub out_split : outward.Line → Wait → Slot outward.Ask outward.Reply → outward.OutSplit
out_split line wait here = record { line = line; wait = wait; here = here; aside = Empty }

abbrev pub out_at : ℕ → ℕ → Wait → Slot outward.Ask outward.Reply → outward.OutSplit
out_at q p wait here = out_split (out_line q p true) wait here

abbrev pub out_opened : outward.OutSplit
out_opened = out_split outward.out_opening Idle Empty

-- .. to which packets were put
abbrev pub out_put : List (List ℕ) → outward.OutSplit
out_put rest = out_split (record outward.out_opening { rest = rest }) Idle Empty

-- .. that the host has ended
abbrev pub out_ended : ℕ → ℕ → Wait → Slot outward.Ask outward.Reply → outward.OutSplit
out_ended q p wait here = out_split (out_line q p false) wait here

-- the packets with their toggles
abbrev pub put_one : outward.Ask
put_one = outward.Out false one

abbrev pub put_two : outward.Ask
put_two = outward.Out true two
