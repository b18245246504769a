-- Two turns, one after the other, are the work of a microframe.
use Rattle.std.proofs.Common.{◌≡◌, ℕ, List, subst, sym, refl}
use Rattle.usb_base.specs.declared.packets.Ask.{Ask}
use Rattle.usb_base.specs.declared.packets.Reply.{Reply}
use Rattle.tt_bulk.specs.declared.rows.BufferIndex.{BufferIndex}
use Rattle.tt_bulk.specs.declared.rows.BufferIndex.TheVariants.{First, Second}
use Rattle.tt_bulk.specs.Contents.{BufferContent}
use Rattle.tt_bulk.specs.Work.{TakesTurn, Works, turn_of, room_after}

-- the second buffer took its packet before the first
pub second_then_first : {W : Type 0} (transacts : W → Ask → List ℕ → Reply → W → Type 0) (room left : ℕ) (latest : BufferIndex) (a b a' b' : BufferContent) (before between after : W) → latest ≡ First → left ≡ room_after room (turn_of room b) → TakesTurn transacts room b before b' between → TakesTurn transacts left a between a' after → Works transacts room (record { first = a; second = b; latest = latest }) before (record { first = a'; second = b'; latest = latest }) after
second_then_first transacts room left latest a b a' b' before between after e h earlier later =
    subst (λ l. Works transacts room (record { first = a; second = b; latest = l }) before (record { first = a'; second = b'; latest = l }) after) (sym e)
    (subst (λ k. TakesTurn transacts k a between a' after → Works transacts room (record { first = a; second = b; latest = First }) before (record { first = a'; second = b'; latest = First }) after) (sym h)
    (λ (then : TakesTurn transacts (room_after room (turn_of room b)) a between a' after). record {
      earlier = earlier.reply;
      between = between;
      later = then.reply;
      asks_earlier = earlier.asks;
      asks_later = then.asks;
      becomes = rw (earlier.becomes, then.becomes) refl;
    }) later)

-- the first buffer took its packet before the second
pub first_then_second : {W : Type 0} (transacts : W → Ask → List ℕ → Reply → W → Type 0) (room left : ℕ) (latest : BufferIndex) (a b a' b' : BufferContent) (before between after : W) → latest ≡ Second → left ≡ room_after room (turn_of room a) → TakesTurn transacts room a before a' between → TakesTurn transacts left b between b' after → Works transacts room (record { first = a; second = b; latest = latest }) before (record { first = a'; second = b'; latest = latest }) after
first_then_second transacts room left latest a b a' b' before between after e h earlier later =
    subst (λ l. Works transacts room (record { first = a; second = b; latest = l }) before (record { first = a'; second = b'; latest = l }) after) (sym e)
    (subst (λ k. TakesTurn transacts k b between b' after → Works transacts room (record { first = a; second = b; latest = Second }) before (record { first = a'; second = b'; latest = Second }) after) (sym h)
    (λ (then : TakesTurn transacts (room_after room (turn_of room a)) b between b' after). record {
      earlier = earlier.reply;
      between = between;
      later = then.reply;
      asks_earlier = earlier.asks;
      asks_later = then.asks;
      becomes = rw (earlier.becomes, then.becomes) refl;
    }) later)
