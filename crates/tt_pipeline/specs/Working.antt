-- The work of a microframe over the whole pipeline (USB 2.0, 11.18.4): the entries take their turns in order of
-- arrival, 188 byte-times in all, and at the begin of a frame all of them are dropped after the work.
--     budget                  the byte-times of a microframe
--     used_by room es         the byte-times that these entries take of the room
--     Works .. room es        their turns on the wire, and what becomes of them
--     IsWorked                the work of a microframe
use Rattle.std.specs.Prelude.{◌≡◌, ℕ, ◌+◌, ◌-◌, ◌%◌, ◌==◌, Bool, true, false, if◌then◌else◌, List, [], ◌∷◌}
use Rattle.usb_base.specs.declared.packets.Ask.{Ask}
use Rattle.usb_base.specs.declared.packets.Reply.{Reply}
use Rattle.usb_base.specs.declared.packets.Reply.TheVariants.{Silent}
use Rattle.usb_base.specs.Limits.{byte_times_of_microframe}
use Rattle.hub_keys.specs.Asks.{classic_of}
use Rattle.tt_pipeline.specs.declared.entry.Entry.{Entry}
use Rattle.tt_pipeline.specs.Work.{aged, used, moved, is_due, sent_of, answered, Turn}

abbrev pub budget : ℕ
budget = byte_times_of_microframe

-- the byte-times that an entry takes at its turn
abbrev pub used_at : ℕ → Entry → ℕ
used_at room e = used room (aged e)

abbrev pub used_by : ℕ → List Entry → ℕ
used_by room [] = 0
used_by room (e ∷ es) = used_at room e + used_by (room - used_at room e) es

-- the turns of these entries, one after the other, each in the room that the earlier ones left
abbrev pub Works : {W : Type 0} → (W → Ask → List ℕ → Reply → W → Type 0) → ℕ → List Entry → W → W → List Entry → Type 0
Works transacts room [] before after new = (after ≡ before) × (new ≡ [])
Works {W} transacts room (e ∷ es) before after new =
    (mid : W) × (first : Entry) × (rest : List Entry) × Turn transacts room e before mid first × Works transacts (room - used_at room e) es mid after rest × (new ≡ first ∷ rest)

-- the entries that stay after the work of the microframe with this frame index
abbrev pub kept : ℕ → List Entry → List Entry
kept frindex es = if frindex % 8 == 0 then [] else es

-- the work of the microframe before the one with this frame index
pub record IsWorked {W : Type 0} (transacts : W → Ask → List ℕ → Reply → W → Type 0) (frindex : ℕ) (es : List Entry) (before after : W) (new : List Entry) : Type 0 where
  pub worked : List Entry  -- the entries after their turns
  pub works : Works transacts budget es before after worked
  pub stays : new ≡ kept frindex worked

-- ---- the same as functions

-- an entry after its turn, where this is heard if its transaction is made
abbrev pub turned : ℕ → Reply → Entry → Entry
turned room reply e = answered (is_due (moved room e)) reply (moved room e)

abbrev pub first_reply : List Reply → Reply
first_reply [] = Silent
first_reply (reply ∷ _) = reply

abbrev pub later_replies : List Reply → List Reply
later_replies [] = []
later_replies (_ ∷ replies) = replies

-- the entries after their turns, with a reply for each entry; only those whose transaction is made hear it
abbrev pub turned_all : ℕ → List Reply → List Entry → List Entry
turned_all room replies [] = []
turned_all room replies (e ∷ es) =
    turned room (first_reply replies) e ∷ turned_all (room - used_at room e) (later_replies replies) es

-- the entries after the work of the microframe before the one with this frame index
abbrev pub worked_with : ℕ → List Reply → List Entry → List Entry
worked_with frindex replies es = kept frindex (turned_all budget replies es)

-- over a wire that answers and changes by functions of its content
module _ {W : Type 0} (reply_of : W → Ask → List ℕ → Reply) (wire_after : W → Ask → List ℕ → W) where
  -- the answer at an entry's turn
  abbrev pub reply_at : ℕ → Entry → W → Reply
  reply_at room e w = reply_of w (classic_of (moved room e).ask) (sent_of (moved room e))

  abbrev pub wire_at : Bool → Entry → W → W
  wire_at true e w = wire_after w (classic_of e.ask) (sent_of e)
  wire_at false e w = w

  -- the wire after an entry's turn
  abbrev pub wire_turned : ℕ → Entry → W → W
  wire_turned room e w = wire_at (is_due (moved room e)) (moved room e) w

  abbrev pub entries_after : ℕ → List Entry → W → List Entry
  entries_after room [] w = []
  entries_after room (e ∷ es) w =
      turned room (reply_at room e w) e ∷ entries_after (room - used_at room e) es (wire_turned room e w)

  abbrev pub wire_worked : ℕ → List Entry → W → W
  wire_worked room [] w = w
  wire_worked room (e ∷ es) w = wire_worked (room - used_at room e) es (wire_turned room e w)
