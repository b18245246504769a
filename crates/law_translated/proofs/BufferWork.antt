-- The work of a microframe over two buffers, as a key sees it (USB 2.0, 11.17 and 11.18).
use Rattle.std.proofs.Common.{◌≡◌, ℕ, ◌+◌, inl, inr, Bool, true, false, List, Option, Some, None, if◌then◌else◌, refl, sym, subst, ap, ◌∙◌}
use Rattle.std.specs.Prelude.{nat_le, is_some}
use Rattle.usb_base.specs.declared.packets.Ask.{Ask}
use Rattle.usb_base.specs.declared.packets.Pid.TheVariants as Pids
use Rattle.usb_base.specs.declared.packets.Reply.{Reply}
use Rattle.usb_base.specs.declared.packets.Reply.TheVariants as Replies
use Rattle.hub_keys.specs.Asks.{classic_of}
use Rattle.hub_keys.specs.Keys.{key_of, is_same_key}
use Rattle.hub_keys.specs.declared.key.Key.{Key}
use Rattle.tt_bulk.specs.declared.answers.Answer.{Answer}
use Rattle.tt_bulk.specs.declared.answers.Answer.TheVariants as Answers
use Rattle.tt_bulk.specs.declared.rows.BufferIndex.{BufferIndex}
use Rattle.tt_bulk.specs.declared.rows.BufferIndex.TheVariants.{First, Second}
use Rattle.tt_bulk.specs.Answers.{result_of, reply_of}
use Rattle.tt_bulk.specs.Contents.{Taken, BufferContent, Free, Pending, Ready, Old, TwoBuffers}
use Rattle.tt_bulk.specs.Work.{Turn, Tries, Rests, due, turn_of, after_result, after_turn, Asks, earlier_turn, later_turn, room_after, worked, Works}
use Rattle.law_translated.specs.Lift.{Way, Buffered, Empty, Asked, Hidden, There, Told}
use Rattle.law_translated.specs.KeySlots.{KeySlot, is_own, slot_by, slot_in, either_slot, slot_of, IsOnce}
use Rattle.law_translated.specs.KeySteps.{KeyTurn, OfOthers, none, more, TurnsOfKey}
use Rattle.law_translated.specs.KeySteps.KeyTurn.{rests, works, is_quiet, gives_dead}

-- a heard answer is the reply of the result
reply_heard : (r : Reply) (a : Answer) → result_of r ≡ Some a → r ≡ reply_of a
reply_heard (Replies.Bytes pid bytes) a h = let e : Answers.Bytes pid bytes ≡ a = cc in ap reply_of e
reply_heard (Replies.Hand Pids.Ack) a h = let e : Answers.Ack ≡ a = cc in ap reply_of e
reply_heard (Replies.Hand Pids.Nak) a h = let e : Answers.Nak ≡ a = cc in ap reply_of e
reply_heard (Replies.Hand Pids.Stall) a h = let e : Answers.Stall ≡ a = cc in ap reply_of e
reply_heard _ a h = absurd cc

-- ---- whose a buffer is stays

own_third : (k : Key) (t : Taken) (n : ℕ) (c : Bool)
    → is_own k (if c then Ready t Answers.Stall else Pending t (n + 1)) ≡ is_same_key (key_of t.ask) k
own_third k t n true = refl
own_third k t n false = refl

own_result : (k : Key) (o : Option Answer) (b : BufferContent) → is_own k (after_result o b) ≡ is_own k b
own_result k (Some a) Free = refl
own_result k (Some a) (Pending t n) = refl
own_result k (Some a) (Ready t r) = refl
own_result k (Some a) (Old t r) = refl
own_result k None Free = refl
own_result k None (Pending t n) = own_third k t n (nat_le 2 n)
own_result k None (Ready t r) = refl
own_result k None (Old t r) = refl

own_turn : (k : Key) (turn : Turn) (r : Reply) (b : BufferContent) → is_own k (after_turn turn r b) ≡ is_own k b
own_turn k (Tries t) r b = own_result k (result_of r) b
own_turn k Rests r b = refl

slot_turn : (k : Key) (turn : Turn) (r : Reply) (b : BufferContent) (own : Bool) → is_own k b ≡ own
    → slot_in k (after_turn turn r b) ≡ slot_by own (after_turn turn r b)
slot_turn k turn r b own h = ap (λ (o : Bool). slot_by o (after_turn turn r b)) (own_turn k turn r b ∙ h)

not_own : (b : BufferContent) → slot_by false b ≡ Empty
not_own Free = refl
not_own (Pending t n) = refl
not_own (Ready t a) = refl
not_own (Old t a) = refl

-- a buffer that has nothing of a key isn't the key's
empty_own : (k : Key) (b : BufferContent) (own : Bool) → is_own k b ≡ own → slot_by own b ≡ Empty → own ≡ false
empty_own k b false h e = refl
empty_own k Free true h e = let z : false ≡ true = h in absurd cc
empty_own k (Pending t n) true h e = absurd cc
empty_own k (Ready t a) true h e = absurd cc
empty_own k (Old t a) true h e = absurd cc

apart_of : (k : Key) (b : BufferContent) → slot_in k b ≡ Empty → is_own k b ≡ false
apart_of k b e = empty_own k b (is_own k b) refl e

module _ {W : Type 0} (transacts : W → Ask → List ℕ → Reply → W → Type 0) where
  -- ---- several transactions of other keys

  pub then_others : (k : Key) (w v u : W) → OfOthers transacts k w v → OfOthers transacts k v u → OfOthers transacts k w u
  then_others k w v u (none x) b = b
  then_others k w v u (more x y z ask out reply apart made rest) b = more x y u ask out reply apart made (then_others k y z u rest b)

  same_wire : (k : Key) (w v : W) → v ≡ w → OfOthers transacts k w v
  same_wire k w v e = subst (λ (x : W). OfOthers transacts k w x) (sym e) (none w)

  pub before_it : (k : Key) (way : Way) (s new : KeySlot) (w v u : W) → OfOthers transacts k w v → TurnsOfKey transacts way k s v new u
      → TurnsOfKey transacts way k s w new u
  before_it k way s new w v u others t =
      record { first = t.first; second = t.second; earlier = then_others k w v t.first others t.earlier; turn = t.turn; later = t.later }

  pub behind_it : (k : Key) (way : Way) (s new : KeySlot) (w v u : W) → TurnsOfKey transacts way k s w new v → OfOthers transacts k v u
      → TurnsOfKey transacts way k s w new u
  behind_it k way s new w v u t others =
      record { first = t.first; second = t.second; earlier = t.earlier; turn = t.turn; later = then_others k t.second v u t.later others }

  -- ---- the turn of a buffer that is another key's, or free

  tried_apart : (k : Key) (t : Taken) (b : Bool) (r : Reply) (before after : W) → is_same_key (key_of t.ask) k ≡ false
      → Asks transacts (if b then Tries t else Rests) before r after → OfOthers transacts k before after
  tried_apart k t true r before after apart asks = more before after after t.ask t.packet r apart asks (none after)
  tried_apart k t false r before after apart asks = same_wire k before after asks

  others_turn : (k : Key) (room : ℕ) (b : BufferContent) (r : Reply) (before after : W) → is_own k b ≡ false
      → Asks transacts (turn_of room b) before r after
      → OfOthers transacts k before after
  others_turn k room Free r before after apart asks = same_wire k before after asks
  others_turn k room (Pending t n) r before after apart asks = tried_apart k t (nat_le (due t) room) r before after apart asks
  others_turn k room (Ready t a) r before after apart asks = same_wire k before after asks
  others_turn k room (Old t a) r before after apart asks = same_wire k before after asks

  pub empty_turn : (k : Key) (room : ℕ) (b : BufferContent) (r : Reply) (before after : W) → slot_in k b ≡ Empty
      → Asks transacts (turn_of room b) before r after
      → OfOthers transacts k before after
  empty_turn k room b r before after e asks = others_turn k room b r before after (apart_of k b e) asks

  -- ---- the turn of the key's buffer

  abbrev KeyTurns : KeySlot → W → KeySlot → W → Type 0
  KeyTurns s before new after = KeyTurn transacts Buffered s before new after

  rested : (s : KeySlot) (before after : W) → after ≡ before → KeyTurns s before s after
  rested s before after e = subst (λ (x : W). KeyTurns s before s x) (sym e) rests

  third : (t : Taken) (n : ℕ) (c : Bool) (r : Reply) (before after : W) → transacts before (classic_of t.ask) t.packet r after
      → is_some (result_of r) ≡ false
      → KeyTurns (Asked t) before (slot_by true (if c then Ready t Answers.Stall else Pending t (n + 1))) after
  third t n true r before after made silent = gives_dead t r after refl made silent
  third t n false r before after made silent = is_quiet t r after refl refl made silent

  tried : (t : Taken) (n : ℕ) (o : Option Answer) (r : Reply) (before after : W) → result_of r ≡ o
      → transacts before (classic_of t.ask) t.packet r after
      → KeyTurns (Asked t) before (slot_by true (after_result o (Pending t n))) after
  tried t n (Some a) r before after is made =
      let e : r ≡ reply_of a = reply_heard r a is in
      subst (λ (x : Reply). KeyTurns (Asked t) before (There t x) after) e
      (works t r after refl made (ap (λ (o : Option Answer). is_some o) is))
  tried t n None r before after is made = third t n (nat_le 2 n) r before after made (ap (λ (o : Option Answer). is_some o) is)

  turn_by : (t : Taken) (n : ℕ) (b : Bool) (r : Reply) (before after : W) → Asks transacts (if b then Tries t else Rests) before r after
      → KeyTurns (Asked t) before (slot_by true (after_turn (if b then Tries t else Rests) r (Pending t n))) after
  turn_by t n true r before after asks = tried t n (result_of r) r before after refl asks
  turn_by t n false r before after asks = rested (Asked t) before after asks

  own_turns : (room : ℕ) (b : BufferContent) (r : Reply) (before after : W) → Asks transacts (turn_of room b) before r after
      → KeyTurns (slot_by true b) before (slot_by true (after_turn (turn_of room b) r b)) after
  own_turns room Free r before after asks = rested Empty before after asks
  own_turns room (Pending t n) r before after asks = turn_by t n (nat_le (due t) room) r before after asks
  own_turns room (Ready t a) r before after asks = rested (There t (reply_of a)) before after asks
  own_turns room (Old t a) r before after asks = rested (Told t (reply_of a)) before after asks

  -- ---- a buffer's turn, whosever it is

  abbrev Turns : Key → KeySlot → W → KeySlot → W → Type 0
  Turns k s before new after = TurnsOfKey transacts Buffered k s before new after

  one_turn : (k : Key) (room : ℕ) (b : BufferContent) (r : Reply) (before after : W) (own : Bool) → is_own k b ≡ own
      → Asks transacts (turn_of room b) before r after
      → Turns k (slot_by own b) before (slot_by own (after_turn (turn_of room b) r b)) after
  one_turn k room b r before after true on asks =
      record { first = before; second = after; earlier = none before; turn = own_turns room b r before after asks; later = none after }
  one_turn k room b r before after false on asks =
      let same : slot_by false (after_turn (turn_of room b) r b) ≡ slot_by false b = not_own (after_turn (turn_of room b) r b)
      ∙ sym (not_own b) in
      subst (λ (x : KeySlot). Turns k (slot_by false b) before x after) (sym same)
      (record { first = after; second = after; earlier = others_turn k room b r before after on asks; turn = rests; later = none after })

  buffer_turn : (k : Key) (room : ℕ) (b : BufferContent) (r : Reply) (before after : W) → Asks transacts (turn_of room b) before r after
      → Turns k (slot_in k b) before (slot_in k (after_turn (turn_of room b) r b)) after
  buffer_turn k room b r before after asks =
      subst (λ (x : KeySlot). Turns k (slot_in k b) before x after) (sym (slot_turn k (turn_of room b) r b (is_own k b) refl))
      (one_turn k room b r before after (is_own k b) refl asks)

  pub empty_stays : (k : Key) (room : ℕ) (b : BufferContent) (r : Reply) → slot_in k b ≡ Empty
      → slot_in k (after_turn (turn_of room b) r b) ≡ Empty
  empty_stays k room b r e = slot_turn k (turn_of room b) r b false (apart_of k b e) ∙ not_own (after_turn (turn_of room b) r b)

  -- ---- both

  pub record IsWorkedFor (k : Key) (old new : TwoBuffers) (before after : W) : Type 0 where
    pub turns : Turns k (slot_of k old) before (slot_of k new) after
    pub once : IsOnce k new

  either_empty : (x y : KeySlot) → y ≡ Empty → either_slot x y ≡ x
  either_empty Empty y e = e
  either_empty (Asked t) y e = refl
  either_empty (Hidden t r) y e = refl
  either_empty (There t r) y e = refl
  either_empty (Told t r) y e = refl

  -- what the key has stands in the second buffer, or in the first
  in_second : (k : Key) (old new : TwoBuffers) (before after : W) → slot_in k old.first ≡ Empty → slot_in k new.first ≡ Empty
      → Turns k (slot_in k old.second) before (slot_in k new.second) after → IsWorkedFor k old new before after
  in_second k old new before after e f t = record {
    turns = subst (λ (x : KeySlot). Turns k (either_slot x (slot_in k old.second)) before (slot_of k new) after) (sym e)
        (subst (λ (x : KeySlot). Turns k (slot_in k old.second) before (either_slot x (slot_in k new.second)) after) (sym f) t);
    once = inl f;
  }

  in_first : (k : Key) (old new : TwoBuffers) (before after : W) → slot_in k old.second ≡ Empty → slot_in k new.second ≡ Empty
      → Turns k (slot_in k old.first) before (slot_in k new.first) after → IsWorkedFor k old new before after
  in_first k old new before after e f t = record {
    turns = subst (λ (x : KeySlot). Turns k x before (slot_of k new) after)
        (sym (either_empty (slot_in k old.first) (slot_in k old.second) e))
        (subst (λ (x : KeySlot). Turns k (slot_in k old.first) before x after)
        (sym (either_empty (slot_in k new.first) (slot_in k new.second) f)) t);
    once = inr f;
  }

  both_turns : (k : Key) (x y : BufferContent) (latest : BufferIndex) (room : ℕ) (before between after : W) (e l : Reply)
      → Asks transacts (earlier_turn room (record { first = x; second = y; latest = latest })) before e between
      → Asks transacts (later_turn room (record { first = x; second = y; latest = latest })) between l after
      → IsOnce k (record { first = x; second = y; latest = latest })
      → IsWorkedFor k (record { first = x; second = y; latest = latest })
      (worked room e l (record { first = x; second = y; latest = latest })) before after
  both_turns k x y First room before between after e l asks behind (inl none_here) =
      let room' : ℕ = room_after room (turn_of room y) in
      in_second k (record { first = x; second = y; latest = First })
      (worked room e l (record { first = x; second = y; latest = First })) before after none_here
      (empty_stays k room' x l none_here)
      (behind_it k Buffered _ _ before between after (buffer_turn k room y e before between asks)
      (empty_turn k room' x l between after none_here behind))
  both_turns k x y First room before between after e l asks behind (inr none_here) =
      let room' : ℕ = room_after room (turn_of room y) in
      in_first k (record { first = x; second = y; latest = First })
      (worked room e l (record { first = x; second = y; latest = First })) before after none_here
      (empty_stays k room y e none_here)
      (before_it k Buffered _ _ before between after (empty_turn k room y e before between none_here asks)
      (buffer_turn k room' x l between after behind))
  both_turns k x y Second room before between after e l asks behind (inl none_here) =
      let room' : ℕ = room_after room (turn_of room x) in
      in_second k (record { first = x; second = y; latest = Second })
      (worked room e l (record { first = x; second = y; latest = Second })) before after none_here
      (empty_stays k room x e none_here)
      (before_it k Buffered _ _ before between after (empty_turn k room x e before between none_here asks)
      (buffer_turn k room' y l between after behind))
  both_turns k x y Second room before between after e l asks behind (inr none_here) =
      let room' : ℕ = room_after room (turn_of room x) in
      in_first k (record { first = x; second = y; latest = Second })
      (worked room e l (record { first = x; second = y; latest = Second })) before after none_here
      (empty_stays k room' y l none_here)
      (behind_it k Buffered _ _ before between after (buffer_turn k room x e before between asks)
      (empty_turn k room' y l between after none_here behind))

  pub own_work : (k : Key) (room : ℕ) (old : TwoBuffers) (before : W) (new : TwoBuffers) (after : W) → IsOnce k old
      → Works transacts room old before new after
      → IsWorkedFor k old new before after
  own_work k room old before new after once w =
      subst (λ (x : TwoBuffers). IsWorkedFor k old x before after) (sym w.becomes)
      (both_turns k old.first old.second old.latest room before w.between after w.earlier w.later w.asks_earlier w.asks_later once)

  -- ---- a key that neither buffer has

  pub record IsNone (k : Key) (new : TwoBuffers) (before after : W) : Type 0 where
    pub others : OfOthers transacts k before after
    pub first : slot_in k new.first ≡ Empty
    pub second : slot_in k new.second ≡ Empty

  both_none : (k : Key) (x y : BufferContent) (latest : BufferIndex) (room : ℕ) (before between after : W) (e l : Reply)
      → Asks transacts (earlier_turn room (record { first = x; second = y; latest = latest })) before e between
      → Asks transacts (later_turn room (record { first = x; second = y; latest = latest })) between l after
      → slot_in k x ≡ Empty → slot_in k y ≡ Empty
      → IsNone k (worked room e l (record { first = x; second = y; latest = latest })) before after
  both_none k x y First room before between after e l asks behind p q = record {
    others = then_others k before between after (empty_turn k room y e before between q asks)
        (empty_turn k (room_after room (turn_of room y)) x l between after p behind);
    first = empty_stays k (room_after room (turn_of room y)) x l p;
    second = empty_stays k room y e q;
  }
  both_none k x y Second room before between after e l asks behind p q = record {
    others = then_others k before between after (empty_turn k room x e before between p asks)
        (empty_turn k (room_after room (turn_of room x)) y l between after q behind);
    first = empty_stays k room x e p;
    second = empty_stays k (room_after room (turn_of room x)) y l q;
  }

  pub none_work : (k : Key) (room : ℕ) (old : TwoBuffers) (before : W) (new : TwoBuffers) (after : W) → slot_in k old.first ≡ Empty
      → slot_in k old.second ≡ Empty
      → Works transacts room old before new after → IsNone k new before after
  none_work k room old before new after p q w =
      subst (λ (x : TwoBuffers). IsNone k x before after) (sym w.becomes)
      (both_none k old.first old.second old.latest room before w.between after w.earlier w.later w.asks_earlier w.asks_later p q)
