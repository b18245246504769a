-- A complete-split of the key, and the work of a microframe over the pipeline, as a key sees it (USB 2.0, 11.18 and 11.20).
use Rattle.std.proofs.Common.{◌≡◌, ℕ, ◌-◌, inl, inr, Bool, true, false, List, [], ◌∷◌, Option, Some, None, if◌then◌else◌, refl, sym, subst, ap, ◌∙◌}
use Rattle.std.specs.Prelude.{◌%◌, ◌==◌}
use Rattle.std.specs.List.{find}
use Rattle.usb_base.specs.declared.packets.Ask.{Ask}
use Rattle.usb_base.specs.declared.packets.Reply.{Reply}
use Rattle.hub_keys.specs.Keys.{key_of, is_same_key}
use Rattle.hub_keys.specs.declared.key.Key.{Key}
use Rattle.tt_bulk.specs.Contents.{Taken}
use Rattle.tt_pipeline.specs.declared.entry.Entry.{Entry}
use Rattle.tt_pipeline.specs.declared.entry.Exchange.{Exchange}
use Rattle.tt_pipeline.specs.declared.entry.Exchange.TheVariants.{Ahead, Made}
use Rattle.tt_pipeline.specs.Answers.{answer_from, complete_answer, completed}
use Rattle.tt_pipeline.specs.Starting.{has_key, is_there}
use Rattle.tt_pipeline.specs.Working.{budget, used_at, Works, IsWorked}
use Rattle.tt_pipeline.proofs.Places.{on_or_off}
use Rattle.law_translated.specs.Lift.{Piped, Empty, told}
use Rattle.law_translated.specs.KeySlots.{KeySlot, shown, exchange_slot, entry_slot, slot_if, slot_at, IsOnceIn, IsOfAsk, IsWhole, AreEntries}
use Rattle.law_translated.specs.KeySteps.{given_reply, TurnsOfKey, OfOthers, none, Showing, WorkOfKey}
use Rattle.law_translated.specs.KeySteps.KeyTurn.{rests}
use Rattle.law_translated.specs.KeySteps.Showing.{stays}
use Rattle.law_translated.proofs.BufferWork.{then_others, before_it}
use Rattle.law_translated.proofs.EntryTurns.{entry_turn, other_turn, same_ask}
use Rattle.law_translated.proofs.PipelineCalls.{find_here, find_later, there_later, not_there, once_here, once_later, to_once_here, to_once_later, own_of, to_other, to_own, given_by_row}

-- ---- a complete-split of the key

told_shown : (c is_told : Bool) (a : Taken) (r : Reply) → shown c true a r ≡ told (shown c is_told a r)
told_shown false is_told a r = refl
told_shown true false a r = refl
told_shown true true a r = refl

told_exchange : (is_told : Bool) (packet : List ℕ) (e : Entry) (x : Exchange)
    → exchange_slot true packet x e ≡ told (exchange_slot is_told packet x e)
told_exchange is_told packet e (Ahead sent) = refl
told_exchange is_told packet e (Made r) = told_shown _ is_told _ _

-- once the result was told
pub told_slot : (is_told : Bool) (packet : List ℕ) (o : Option Entry) → slot_if true packet o ≡ told (slot_if is_told packet o)
told_slot is_told packet None = refl
told_slot is_told packet (Some e) = told_exchange is_told packet e e.exchange

-- it changes nothing
pub own_complete : (k : Key) (es : List Entry) → AreEntries k es → completed k es ≡ es
own_complete k [] are = refl
own_complete k (e ∷ es) are =
    elim (on_or_off (has_key k e)) [
      | inl on ↦
          let w : IsWhole e = own_of k e on are.1 in
          rw on (ap (λ (x : Entry). x ∷ es) (given_by_row false [] e e.exchange refl w.kind).same)
      | inr off ↦ rw off (ap (λ (xs : List Entry). e ∷ xs) (own_complete k es are.2))
    ]

pub own_answer : (k : Key) (es : List Entry) (is_told : Bool) (packet : List ℕ) → AreEntries k es
    → complete_answer k es ≡ given_reply Piped (slot_at is_told packet k es)
own_answer k [] is_told packet are = refl
own_answer k (e ∷ es) is_told packet are =
    elim (on_or_off (has_key k e)) [
      | inl on ↦
          let w : IsWhole e = own_of k e on are.1 in
          let here : find (has_key k) (e ∷ es) ≡ Some e = find_here k e es on in
          ap answer_from here
          ∙ ((given_by_row is_told packet e e.exchange refl w.kind).answer
          ∙ sym (ap (λ (o : Option Entry). given_reply Piped (slot_if is_told packet o)) here))
      | inr off ↦
          let later : find (has_key k) (e ∷ es) ≡ find (has_key k) es = find_later k e es off in
          ap answer_from later
          ∙ (own_answer k es is_told packet are.2
          ∙ sym (ap (λ (o : Option Entry). given_reply Piped (slot_if is_told packet o)) later))
    ]

-- ---- the work of a microframe

module _ {W : Type 0} (transacts : W → Ask → List ℕ → Reply → W → Type 0) where
  -- .. over entries of other keys
  pub record IsOther (k : Key) (new : List Entry) (before after : W) : Type 0 where
    pub others : OfOthers transacts k before after
    pub entries : AreEntries k new
    pub none : is_there k new ≡ false

  stands : (k : Key) (e new : Entry) → IsOfAsk e → new.key ≡ e.key → new.ask ≡ e.ask → IsOfAsk new
  stands k e new of key ask = record { key = key ∙ (of.key ∙ sym (ap key_of ask)) }

  pub other_work : (k : Key) (room : ℕ) (es : List Entry) (before after : W) (new : List Entry) → is_there k es ≡ false → AreEntries k es
      → Works transacts room es before after new → IsOther k new before after
  other_work k room [] before after new none_here are (same, is) =
      subst (λ (xs : List Entry). IsOther k xs before after) (sym is)
      (record { others = subst (λ (x : W). OfOthers transacts k before x) (sym same) (none before); entries = tt; none = refl })
  other_work k room (e ∷ es) before after new none_here are (mid, first, rest, turn, works, is) =
      let n = not_there k e es none_here in
      let t = other_turn transacts k room e before mid first are.0 n.0 turn in
      let r : IsOther k rest mid after = other_work k (room - used_at room e) es mid after rest n.1 are.2 works in
      let off : has_key k first ≡ false = ap (λ (c : Key). is_same_key c k) t.key ∙ n.0 in
      subst (λ (xs : List Entry). IsOther k xs before after) (sym is)
      (record {
        others = then_others transacts k before mid after t.others r.others;
        entries = (stands k e first are.0 t.key t.ask, to_other k first off, r.entries);
        none = there_later k first rest off ∙ r.none;
      })

  -- .. over those of which at most one is the key's
  pub record IsPiped (k : Key) (s : KeySlot) (before : W) (new : List Entry) (after : W) : Type 0 where
    pub is_told : Bool
    pub packet : List ℕ
    pub made : KeySlot
    pub turns : TurnsOfKey transacts Piped k s before made after
    pub shows : Showing Piped made (slot_at is_told packet k new)
    pub once : IsOnceIn k new
    pub entries : AreEntries k new

  pub own_work : (k : Key) (is_told : Bool) (packet : List ℕ) (room : ℕ) (es : List Entry) (before after : W) (new : List Entry)
      → IsOnceIn k es → AreEntries k es
      → Works transacts room es before after new → IsPiped k (slot_at is_told packet k es) before new after
  own_work k is_told packet room [] before after new once are (same, is) =
      subst (λ (xs : List Entry). IsPiped k Empty before xs after) (sym is)
      (record {
        is_told = is_told;
        packet = packet;
        made = Empty;
        turns = record {
          first = before;
          second = before;
          earlier = none before;
          turn = rests;
          later = subst (λ (x : W). OfOthers transacts k before x) (sym same) (none before);
        };
        shows = stays;
        once = tt;
        entries = tt;
      })
  own_work k is_told packet room (e ∷ es) before after new once are (mid, first, rest, turn, works, is) =
      elim (on_or_off (has_key k e)) [
        | inl on ↦
            let s = same_ask transacts room e before mid first turn in
            let t = entry_turn transacts is_told packet room e before mid first (own_of k e on are.1) turn in
            let r : IsOther k rest mid after =
            other_work k (room - used_at room e) es mid after rest (once_here k e es on once) are.2 works in
            let here : has_key k first ≡ true = ap (λ (c : Key). is_same_key c k) s.0 ∙ on in
            let slot : slot_at is_told packet k (e ∷ es) ≡ entry_slot is_told packet e =
            ap (λ (o : Option Entry). slot_if is_told packet o) (find_here k e es on) in
            let later : slot_at t.is_told t.packet k (first ∷ rest) ≡ entry_slot t.is_told t.packet first =
            ap (λ (o : Option Entry). slot_if t.is_told t.packet o) (find_here k first rest here) in
            subst (λ (x : KeySlot). IsPiped k x before new after) (sym slot)
            (subst (λ (xs : List Entry). IsPiped k (entry_slot is_told packet e) before xs after) (sym is)
            (record {
              is_told = t.is_told;
              packet = t.packet;
              made = t.made;
              turns = record { first = before; second = mid; earlier = none before; turn = t.turn; later = r.others };
              shows = subst (λ (x : KeySlot). Showing Piped t.made x) (sym later) t.shows;
              once = to_once_here k first rest here r.none;
              entries = (stands k e first are.0 s.0 s.1, to_own k first (has_key k first) t.whole, r.entries);
            }))
        | inr off ↦
            let t = other_turn transacts k room e before mid first are.0 off turn in
            let r : IsPiped k (slot_at is_told packet k es) mid rest after =
            own_work k is_told packet (room - used_at room e) es mid after rest (once_later k e es off once) are.2 works in
            let off' : has_key k first ≡ false = ap (λ (c : Key). is_same_key c k) t.key ∙ off in
            let slot : slot_at is_told packet k (e ∷ es) ≡ slot_at is_told packet k es =
            ap (λ (o : Option Entry). slot_if is_told packet o) (find_later k e es off) in
            let later : slot_at r.is_told r.packet k (first ∷ rest) ≡ slot_at r.is_told r.packet k rest =
            ap (λ (o : Option Entry). slot_if r.is_told r.packet o) (find_later k first rest off') in
            subst (λ (x : KeySlot). IsPiped k x before new after) (sym slot)
            (subst (λ (xs : List Entry). IsPiped k (slot_at is_told packet k es) before xs after) (sym is)
            (record {
              is_told = r.is_told;
              packet = r.packet;
              made = r.made;
              turns = before_it transacts k Piped _ _ before mid after t.others r.turns;
              shows = subst (λ (x : KeySlot). Showing Piped r.made x) (sym later) r.shows;
              once = to_once_later k first rest off' r.once;
              entries = (stands k e first are.0 t.key t.ask, to_other k first off', r.entries);
            }))
      ]

  -- ---- .. and the end of a frame

  kept_there : (k : Key) (b : Bool) (es : List Entry) → is_there k es ≡ false → is_there k (if b then [] else es) ≡ false
  kept_there k true es h = refl
  kept_there k false es h = h

  kept_once : (k : Key) (b : Bool) (es : List Entry) → IsOnceIn k es → IsOnceIn k (if b then [] else es)
  kept_once k true es h = tt
  kept_once k false es h = h

  kept_entries : (k : Key) (b : Bool) (es : List Entry) → AreEntries k es → AreEntries k (if b then [] else es)
  kept_entries k true es h = tt
  kept_entries k false es h = h

  kept_slot : (k : Key) (b is_told : Bool) (packet : List ℕ) (es : List Entry)
      → slot_at is_told packet k (if b then [] else es) ≡ (if b then Empty else slot_at is_told packet k es)
  kept_slot k true is_told packet es = refl
  kept_slot k false is_told packet es = refl

  -- the work as the key of an entry sees it
  pub record IsPipedWork (k : Key) (frindex : ℕ) (s : KeySlot) (before : W) (new : List Entry) (after : W) : Type 0 where
    pub is_told : Bool
    pub packet : List ℕ
    pub work : WorkOfKey transacts Piped k frindex s before (slot_at is_told packet k new) after
    pub once : IsOnceIn k new
    pub entries : AreEntries k new

  pub piped_work : (k : Key) (is_told : Bool) (packet : List ℕ) (frindex : ℕ) (es : List Entry) (before after : W) (new : List Entry)
      → IsOnceIn k es → AreEntries k es
      → IsWorked transacts frindex es before after new → IsPipedWork k frindex (slot_at is_told packet k es) before new after
  piped_work k is_told packet frindex es before after new once are w =
      let p : IsPiped k (slot_at is_told packet k es) before w.worked after =
      own_work k is_told packet budget es before after w.worked once are w.works in
      let drops : Bool = frindex % 8 == 0 in
      subst (λ (xs : List Entry). IsPipedWork k frindex (slot_at is_told packet k es) before xs after) (sym w.stays)
      (record {
        is_told = p.is_told;
        packet = p.packet;
        work = record {
          made = p.made;
          turns = p.turns;
          seen = slot_at p.is_told p.packet k w.worked;
          shows = p.shows;
          leaves = kept_slot k drops p.is_told p.packet w.worked;
        };
        once = kept_once k drops w.worked p.once;
        entries = kept_entries k drops w.worked p.entries;
      })

  pub others_piped : (k : Key) (frindex : ℕ) (es : List Entry) (before after : W) (new : List Entry) → is_there k es ≡ false
      → AreEntries k es
      → IsWorked transacts frindex es before after new → IsOther k new before after
  others_piped k frindex es before after new none_here are w =
      let p : IsOther k w.worked before after = other_work k budget es before after w.worked none_here are w.works in
      let drops : Bool = frindex % 8 == 0 in
      subst (λ (xs : List Entry). IsOther k xs before after) (sym w.stays)
      (record { others = p.others; entries = kept_entries k drops w.worked p.entries; none = kept_there k drops w.worked p.none })
