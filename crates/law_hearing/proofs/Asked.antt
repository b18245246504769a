-- Which endpoint an ask is for, and which of its packets lines say are lost.
use Rattle.std.proofs.Common.{◌≡◌, ℕ, ◌<◌, ◌≤◌, Bool, true, false, List, [], ◌∷◌, get_or, Some, None, refl, ap, sym, subst, ◌∙◌, arith}
use Rattle.std.specs.Prelude.{◌==◌, ◌&&◌, ◌||◌, not, nat_lt, length, map, filter, slice_get, if◌then◌else◌}
use Rattle.std.specs.List.{list_any, position_or_len}
use Rattle.std.proofs.lemmas.Bool.Decides.{nat_tests}
use Rattle.std.proofs.lemmas.List.Quantifiers.{position-Some}
use Rattle.std.proofs.lemmas.List.Sums.{fails_before_first}
use Rattle.std.proofs.lemmas.Option.{get_or_from_slice_get, slice_get_within, same_Some}
use Rattle.usb_base.specs.declared.endpoints.EpName.{EpName}
use Rattle.usb_base.specs.declared.packets.Ask.{Ask}
use Rattle.usb_base.specs.declared.packets.Fate.{Fate}
use Rattle.usb_base.specs.declared.packets.Fate.TheVariants as fates
use Rattle.usb_base.specs.declared.packets.Pid.{Pid}
use Rattle.usb_base.specs.declared.packets.Pid.TheVariants as pids
use Rattle.usb_base.specs.declared.packets.Split.{Split}
use Rattle.usb_base.specs.declared.packets.Split.TheVariants.{Plain, Start, Complete}
use Rattle.usb_base.specs.declared.packets.Way.{Way}
use Rattle.usb_base.specs.declared.packets.Way.TheVariants as ways
use Rattle.script_types.specs.declared.scripts.FateText.{FateText}
use Rattle.bus_wire.specs.declared.seats.Seat.{Seat}
use Rattle.bus_wire.specs.Fates.{is_same_way, is_same_name, is_bad, is_against, is_unheard}
use Rattle.bus_wire.specs.Seats.{token_kind, takes_token as table_takes, suits, place_for}
use Rattle.bus_wire.specs.WhoHeard.{with_data, packets_sent}
use Rattle.claims_answers.specs.Hearing.{is_way, gets_through, says_so, is_lost, sends_data, sends, takes_token, is_for, NoneIsAsked}

-- ---- packets that are lost

same_way : (a b : Way) → is_way a b ≡ is_same_way a b
same_way ways.In ways.In = refl
same_way ways.In ways.Out = refl
same_way ways.In ways.Ctl = refl
same_way ways.Out ways.In = refl
same_way ways.Out ways.Out = refl
same_way ways.Out ways.Ctl = refl
same_way ways.Ctl ways.In = refl
same_way ways.Ctl ways.Out = refl
same_way ways.Ctl ways.Ctl = refl

same_fate : (f : Fate) → not (gets_through f) ≡ is_bad f
same_fate fates.Good = refl
same_fate fates.Lost = refl
same_fate fates.Damaged = refl

-- the tests in another order
reordered : (n d k b : Bool) → (n && (d && (k && b))) ≡ (if d && (b && n) then k else false)
reordered false false k b = refl
reordered false true k false = refl
reordered false true k true = refl
reordered true false k b = refl
reordered true true false false = refl
reordered true true true false = refl
reordered true true false true = refl
reordered true true true true = refl

module _ (name : EpName) (below : Bool) (n : ℕ) where
  one_line : (f : FateText) → says_so name below n f ≡ (if is_against name below f then f.k == n else false)
  one_line f =
      ap (λ (w : Bool). (f.name.addr == name.addr && (f.name.num == name.num && w)) &&
      ((if below then f.down else not f.down) && (f.k == n && not (gets_through f.fate))))
      (same_way f.name.way name.way)
      ∙ ap (λ (b : Bool). is_same_name f.name name && ((if below then f.down else not f.down) && (f.k == n && b))) (same_fate f.fate)
      ∙ reordered (is_same_name f.name name) (if below then f.down else not f.down) (f.k == n) (is_bad f.fate)

  more_lines : (f : FateText) (fs : List FateText) (b : Bool) → is_against name below f ≡ b
      → is_lost fs name below n ≡ is_unheard fs name below n
      → is_lost (f ∷ fs) name below n ≡ is_unheard (f ∷ fs) name below n
  more_lines f fs true is rest =
      ap (λ (c : Bool). c || is_lost fs name below n) (one_line f ∙ ap (λ (c : Bool). if c then f.k == n else false) is)
      ∙ ap (λ (c : Bool). (f.k == n) || c) rest
      ∙ sym (ap (λ (c : Bool). list_any (λ (k : ℕ). k == n)
      (map (λ (g : FateText). g.k) (if c then f ∷ filter (is_against name below) fs else filter (is_against name below) fs))) is)
  more_lines f fs false is rest =
      ap (λ (c : Bool). c || is_lost fs name below n) (one_line f ∙ ap (λ (c : Bool). if c then f.k == n else false) is)
      ∙ rest
      ∙ sym (ap (λ (c : Bool). list_any (λ (k : ℕ). k == n)
      (map (λ (g : FateText). g.k) (if c then f ∷ filter (is_against name below) fs else filter (is_against name below) fs))) is)

  pub lost_is : (fs : List FateText) → is_lost fs name below n ≡ is_unheard fs name below n
  lost_is [] = refl
  lost_is (f ∷ fs) = more_lines f fs (is_against name below f) refl (lost_is fs)

data_is : (p : Pid) → (if sends_data p then 2 else 1) ≡ with_data p
data_is pids.Out = refl
data_is pids.In = refl
data_is pids.Sof = refl
data_is pids.Setup = refl
data_is pids.Data0 = refl
data_is pids.Data1 = refl
data_is pids.Data2 = refl
data_is pids.Mdata = refl
data_is pids.Ack = refl
data_is pids.Nak = refl
data_is pids.Stall = refl
data_is pids.Nyet = refl
data_is pids.Err = refl
data_is pids.Split = refl
data_is pids.Ping = refl

pub sends_is : (split : Split) (p : Pid) → sends split p ≡ packets_sent split p
sends_is Plain p = data_is p
sends_is (Start hub port part) p = data_is p
sends_is (Complete hub port) p = refl

-- ---- which endpoint

same_token : (w : Way) (p : Pid) → takes_token w p ≡ table_takes w (token_kind p)
same_token ways.In pids.Out = refl
same_token ways.In pids.In = refl
same_token ways.In pids.Sof = refl
same_token ways.In pids.Setup = refl
same_token ways.In pids.Data0 = refl
same_token ways.In pids.Data1 = refl
same_token ways.In pids.Data2 = refl
same_token ways.In pids.Mdata = refl
same_token ways.In pids.Ack = refl
same_token ways.In pids.Nak = refl
same_token ways.In pids.Stall = refl
same_token ways.In pids.Nyet = refl
same_token ways.In pids.Err = refl
same_token ways.In pids.Split = refl
same_token ways.In pids.Ping = refl
same_token ways.Out pids.Out = refl
same_token ways.Out pids.In = refl
same_token ways.Out pids.Sof = refl
same_token ways.Out pids.Setup = refl
same_token ways.Out pids.Data0 = refl
same_token ways.Out pids.Data1 = refl
same_token ways.Out pids.Data2 = refl
same_token ways.Out pids.Mdata = refl
same_token ways.Out pids.Ack = refl
same_token ways.Out pids.Nak = refl
same_token ways.Out pids.Stall = refl
same_token ways.Out pids.Nyet = refl
same_token ways.Out pids.Err = refl
same_token ways.Out pids.Split = refl
same_token ways.Out pids.Ping = refl
same_token ways.Ctl pids.Out = refl
same_token ways.Ctl pids.In = refl
same_token ways.Ctl pids.Sof = refl
same_token ways.Ctl pids.Setup = refl
same_token ways.Ctl pids.Data0 = refl
same_token ways.Ctl pids.Data1 = refl
same_token ways.Ctl pids.Data2 = refl
same_token ways.Ctl pids.Mdata = refl
same_token ways.Ctl pids.Ack = refl
same_token ways.Ctl pids.Nak = refl
same_token ways.Ctl pids.Stall = refl
same_token ways.Ctl pids.Nyet = refl
same_token ways.Ctl pids.Err = refl
same_token ways.Ctl pids.Split = refl
same_token ways.Ctl pids.Ping = refl

module _ (seats : List Seat) (ask : Ask) where
  abbrev test : Seat → Bool
  test s = suits s.name ask.addr ask.ep (token_kind ask.pid)

  for_is : (s : Seat) → is_for ask s.name ≡ test s
  for_is s = ap (λ (b : Bool). s.name.addr == ask.addr && (s.name.num == ask.ep && b)) (same_token s.name.way ask.pid)

  past_all : (b : Bool) → nat_lt (position_or_len test seats) (length seats) ≡ b
      → (if b then Some (position_or_len test seats) else None) ≡ None → length seats ≤ position_or_len test seats
  past_all true is e = absurd (cc)
  past_all false is e = grind (arith, nat_tests)

  pub none_asked : place_for seats ask.addr ask.ep (token_kind ask.pid) ≡ None → NoneIsAsked seats ask
  none_asked none place seat there =
      let end = past_all (nat_lt (position_or_len test seats) (length seats)) refl none in
      let within = slice_get_within seats place seat there in
      for_is seat ∙ ap test (sym (get_or_from_slice_get seats place seat seat there)) ∙ fails_before_first test seats place seat
      (omega arith)

  found_in : (k place : ℕ) (b : Bool) → nat_lt k (length seats) ≡ b → (if b then Some k else None) ≡ Some place → place < length seats
  found_in k place true is e = subst (λ (j : ℕ). j < length seats) (same_Some k place e) (grind (arith, nat_tests))
  found_in k place false is e = absurd (cc)

  -- the first that takes it
  pub record IsFirst (place : ℕ) : Type 0 where
    pub within : place < length seats
    pub asked : (d : Seat) → is_for ask (get_or seats place d).name ≡ true
    pub first : (before : ℕ) (other : Seat) → before < place → slice_get seats before ≡ Some other → is_for ask other.name ≡ false

  pub first_asked : (place : ℕ) → place_for seats ask.addr ask.ep (token_kind ask.pid) ≡ Some place → IsFirst place
  first_asked place is = record {
    within = found_in (position_or_len test seats) place (nat_lt (position_or_len test seats) (length seats)) refl is;
    asked = λ d. for_is (get_or seats place d) ∙ (position-Some test seats place d is).1;
    first = λ before other less there.
        for_is other ∙ ap test (sym (get_or_from_slice_get seats before other other there)) ∙ (position-Some test seats place other is).2
        before less;
  }
