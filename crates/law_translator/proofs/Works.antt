-- The work of a pipeline over a wire, as functions.
use Rattle.std.proofs.Common.{◌≡◌, ℕ, ◌-◌, Bool, true, false, List, [], ◌∷◌, refl, ◌∙◌, ap, subst}
use Rattle.usb_base.specs.declared.packets.Ask.{Ask}
use Rattle.usb_base.specs.declared.packets.Reply.{Reply}
use Rattle.hub_keys.specs.Asks.{classic_of}
use Rattle.tt_pipeline.specs.declared.entry.Entry.{Entry}
use Rattle.tt_pipeline.specs.Work.{moved, is_due, sent_of, answered, Asks}
use Rattle.tt_pipeline.specs.Working.{used_at, Works, turned, reply_at, wire_at, wire_turned, entries_after, wire_worked}

module _ {W : Type 0} (transacts : W → Ask → List ℕ → Reply → W → Type 0) where
  module _ (reply_of : W → Ask → List ℕ → Reply) (wire_after : W → Ask → List ℕ → W) (is_function : (w : W) (ask : Ask) (out : List ℕ) (reply : Reply) (v : W) → transacts w ask out reply v → (reply ≡ reply_of w ask out) × (v ≡ wire_after w ask out)) where
    entry_told : (b : Bool) (m : Entry) (before after : W) (reply : Reply) → Asks transacts b m before reply after → answered b reply m ≡ answered b (reply_of before (classic_of m.ask) (sent_of m)) m
    entry_told true m before after reply asks =
        ap (λ (r : Reply). answered true r m) (is_function before (classic_of m.ask) (sent_of m) reply after asks).0
    entry_told false m before after reply asks = refl

    wire_told : (b : Bool) (m : Entry) (before after : W) (reply : Reply) → Asks transacts b m before reply after → after ≡ wire_at reply_of wire_after b m before
    wire_told true m before after reply asks = (is_function before (classic_of m.ask) (sent_of m) reply after asks).1
    wire_told false m before after reply asks = asks

    -- over a wire that answers and changes by functions, the work is a function
    pub works_told : (room : ℕ) (es : List Entry) (before after : W) (new : List Entry) → Works transacts room es before after new → (new ≡ entries_after reply_of wire_after room es before) × (after ≡ wire_worked reply_of wire_after room es before)
    works_told room [] before after new (same, none) = (none, same)
    works_told room (e ∷ es) before after new (mid, first, rest, turn, works, is) =
        let m : Entry = moved room e in
        let f : first ≡ turned room (reply_at reply_of wire_after room e before) e = turn.becomes ∙ entry_told (is_due m) m before mid turn.reply turn.asks in
        let w : mid ≡ wire_turned reply_of wire_after room e before = wire_told (is_due m) m before mid turn.reply turn.asks in
        let r = works_told (room - used_at room e) es mid after rest works in
        let r0 = subst (λ (v : W). rest ≡ entries_after reply_of wire_after (room - used_at room e) es v) w r.0 in
        let r1 = subst (λ (v : W). after ≡ wire_worked reply_of wire_after (room - used_at room e) es v) w r.1 in
        (is ∙ (ap (λ (x : Entry). x ∷ rest) f ∙ ap (λ (xs : List Entry). turned room (reply_at reply_of wire_after room e before) e ∷ xs) r0), r1)
