-- An interrupt's entry at its turn in a microframe, as its key sees it (USB 2.0, 11.18).
use Rattle.std.proofs.Common.{◌≡◌, ℕ, ◌+◌, ◌-◌, ◌*◌, ◌/◌, ◌≤◌, min, ◌⊎◌, inl, inr, Bool, true, false, ◌&&◌, List, [], ◌∷◌, length, take, refl, sym, subst, ap, ◌∙◌, arith}
use Rattle.std.specs.Prelude.{nat_le, nat_lt}
use Rattle.std.proofs.lemmas.Bool.{leb-true, le-leb}
use Rattle.usb_base.specs.declared.packets.Ask.{Ask}
use Rattle.usb_base.specs.declared.packets.EpKind.{EpKind}
use Rattle.usb_base.specs.declared.packets.EpKind.TheVariants.{Interrupt}
use Rattle.usb_base.specs.declared.packets.Pid.{Pid}
use Rattle.usb_base.specs.declared.packets.Pid.TheVariants as Pids
use Rattle.usb_base.specs.declared.packets.Reply.{Reply}
use Rattle.usb_base.specs.declared.packets.Reply.TheVariants.{Silent, Bytes, Hand}
use Rattle.hub_keys.specs.Asks.{classic_of, stuffed}
use Rattle.hub_keys.specs.Keys.{key_of, is_same_key}
use Rattle.hub_keys.specs.declared.key.Key.{Key}
use Rattle.tt_bulk.specs.Contents.{Taken}
use Rattle.tt_pipeline.specs.declared.entry.Brought.{Brought}
use Rattle.tt_pipeline.specs.declared.entry.Entry.{Entry}
use Rattle.tt_pipeline.specs.declared.entry.Exchange.{Exchange}
use Rattle.tt_pipeline.specs.declared.entry.Exchange.TheVariants.{Ahead, Made}
use Rattle.tt_pipeline.specs.Answers.{result_of}
use Rattle.tt_pipeline.specs.Work.{called, called_for, nothing_brought, is_iso_out, is_ripe, is_ahead, is_due, sent_at, sent_of, moved, used, answered, aged, Asks, Turn}
use Rattle.law_translated.specs.Lift.{Piped, Asked, Hidden}
use Rattle.law_translated.specs.KeySlots.{KeySlot, shown, exchange_slot, entry_slot, IsOfAsk, IsNew, IsWorking, IsAllSent, IsWhole}
use Rattle.law_translated.specs.KeySteps.{KeyTurn, OfOthers, none, more, Showing}
use Rattle.law_translated.specs.KeySteps.KeyTurn.{rests, works, gives_dead}
use Rattle.law_translated.specs.KeySteps.Showing.{stays, shows}

-- ---- what the turn makes of the entry

-- nothing is called for where nothing came two microframes ago
none_called : (e : Entry) → e.heard ≡ nothing_brought → called_for e ≡ 0
none_called e h = ap (λ (b : Brought). stuffed (called e.ask b) e.stuff) h ∙ none_stuffed e.stuff
  where
    none_stuffed : (n : ℕ) → 0 + 0 * n / 36 ≡ 0
    none_stuffed n = omega arith

not_iso_out : (kind : EpKind) (pid : Pid) → kind ≡ Interrupt → is_iso_out kind pid ≡ false
not_iso_out kind pid h = ap (λ (k : EpKind). is_iso_out k pid) h

-- an interrupt's transaction is made with its first byte-time
due_is : (e : Entry) → e.ask.kind ≡ Interrupt → is_due e ≡ (is_ahead e.exchange && nat_lt 0 e.done)
due_is e kind = ap (λ (b : Bool). is_ahead e.exchange && is_ripe b e) (not_iso_out e.ask.kind e.ask.pid kind)

-- byte-times are worked, none of them undone
shown_stays : (e : Entry) (room : ℕ) → nat_le (called_for e) e.done ≡ true → nat_le (called_for e) (e.done + used room e) ≡ true
shown_stays e room h = le-leb _ _ (more_worked (called_for e) e.done (used room e) (leb-true _ _ h))
  where
    more_worked : (a b c : ℕ) → a ≤ b → a ≤ b + c
    more_worked a b c h = omega arith

taken_at : Entry → List ℕ → Taken
taken_at e packet = record { ask = e.ask; packet = packet; stuff = e.stuff }

slot_made : (told : Bool) (packet : List ℕ) (e : Entry) (r : Reply) → e.exchange ≡ Made r
    → entry_slot told packet e
    ≡ shown (nat_le (called_for e) e.done) told (record { ask = e.ask; packet = packet; stuff = e.stuff }) (result_of r)
slot_made told packet e r h = ap (λ (x : Exchange). exchange_slot told packet x e) h

slot_ahead : (told : Bool) (packet sent : List ℕ) (e : Entry) → e.exchange ≡ Ahead sent
    → entry_slot told packet e ≡ Asked (record { ask = e.ask; packet = sent; stuff = e.stuff })
slot_ahead told packet sent e h = ap (λ (x : Exchange). exchange_slot told packet x e) h

take_all : (xs : List ℕ) (n : ℕ) → length xs ≡ n → take n xs ≡ xs
take_all xs n h = subst (λ (m : ℕ). take m xs ≡ xs) h (whole xs)
  where
    whole : (ys : List ℕ) → take (length ys) ys ≡ ys
    whole [] = refl
    whole (y ∷ ys) = ap (λ (zs : List ℕ). y ∷ zs) (whole ys)

module _ {W : Type 0} (transacts : W → Ask → List ℕ → Reply → W → Type 0) where
  abbrev KeyTurns : KeySlot → W → KeySlot → W → Type 0
  KeyTurns s before new after = KeyTurn transacts Piped s before new after

  -- what a turn leaves of the slot and the entry
  pub record IsTurned (s : KeySlot) (before : W) (new : Entry) (after : W) : Type 0 where
    pub is_told : Bool
    pub packet : List ℕ
    pub made : KeySlot
    pub turn : KeyTurns s before made after
    pub shows : Showing Piped made (entry_slot is_told packet new)
    pub whole : IsWhole new

  rested : (s : KeySlot) (before after : W) → after ≡ before → KeyTurns s before s after
  rested s before after e = subst (λ (x : W). KeyTurns s before s x) (sym e) rests

  -- ---- a result that was made is shown

  goes_on : (old new : Bool) (told : Bool) (a : Taken) (r : Reply) → (old ≡ true → new ≡ true)
      → (later : Bool) × Showing Piped (shown old told a r) (shown new later a r)
  goes_on false false told a r keeps = (told, stays)
  goes_on false true told a r keeps = (false, shows a r refl refl)
  goes_on true false told a r keeps = absurd (let z : false ≡ true = keeps refl in cc)
  goes_on true true told a r keeps = (told, stays)

  made_turn : (told : Bool) (packet : List ℕ) (room : ℕ) (e : Entry) (x : Reply) (before after : W) (new : Entry) → IsWhole e
      → IsWorking e → e.exchange ≡ Made x
      → Turn transacts room e before after new → IsTurned (entry_slot told packet e) before new after
  made_turn told packet room e x before after new whole working is turn =
      let m : Entry = moved room e in
      let off : is_due m ≡ false = due_is m whole.kind ∙ ap (λ (y : Exchange). is_ahead y && nat_lt 0 m.done) is in
      let same : new ≡ m = turn.becomes ∙ ap (λ (b : Bool). answered b turn.reply m) off in
      let quiet : after ≡ before = subst (λ (b : Bool). Asks transacts b m before turn.reply after) off turn.asks in
      let heard : e.before ≡ e.heard = working.before ∙ sym working.heard in
      let calls : called_for (aged e) ≡ called_for e = ap (λ (b : Brought). stuffed (called e.ask b) e.stuff) heard in
      let keeps : nat_le (called_for e) e.done ≡ true → nat_le (called_for m) m.done ≡ true =
      λ h. subst (λ (n : ℕ). nat_le n m.done ≡ true) (sym calls)
      (le-leb _ _ (grows (called_for e) e.done (used room (aged e)) (leb-true _ _ h))) in
      let g = goes_on (nat_le (called_for e) e.done) (nat_le (called_for m) m.done) told
      (record { ask = e.ask; packet = packet; stuff = e.stuff }) (result_of x) keeps in
      let all : IsWhole m =
      record {
        kind = whole.kind;
        came = whole.came;
        sent = whole.sent;
        age =
            inr (record { before = refl; heard = working.before });
      } in
      let shown_now : Showing Piped (entry_slot told packet e) (entry_slot g.0 packet m) =
      subst (λ (y : KeySlot). Showing Piped y (entry_slot g.0 packet m)) (sym (slot_made told packet e x is))
      (subst (λ (y : KeySlot). Showing Piped
      (shown (nat_le (called_for e) e.done) told (record { ask = e.ask; packet = packet; stuff = e.stuff }) (result_of x)) y)
      (sym (slot_made g.0 packet m x is)) g.1) in
      subst (λ (y : Entry). IsTurned (entry_slot told packet e) before y after) (sym same)
      (record {
        is_told = g.0;
        packet = packet;
        made = entry_slot told packet e;
        turn =
            rested (entry_slot told packet e) before after quiet;
        shows = shown_now;
        whole = all;
      })
    where
      grows : (a b c : ℕ) → a ≤ b → a ≤ b + c
      grows a b c h = omega arith

  -- ---- one whose transaction isn't made yet

  waits_turn : (told : Bool) (packet sent : List ℕ) (room : ℕ) (e : Entry) (before after : W) (new : Entry) → IsWhole e
      → e.exchange ≡ Ahead sent
      → is_due (moved room e) ≡ false → IsNew (moved room e) ⊎ IsWorking (moved room e)
      → Turn transacts room e before after new → IsTurned (entry_slot told packet e) before new after
  waits_turn told packet sent room e before after new whole is off age turn =
      let m : Entry = moved room e in
      let same : new ≡ m = turn.becomes ∙ ap (λ (b : Bool). answered b turn.reply m) off in
      let quiet : after ≡ before = subst (λ (b : Bool). Asks transacts b m before turn.reply after) off turn.asks in
      let a : KeySlot = Asked (record { ask = e.ask; packet = sent; stuff = e.stuff }) in
      let all : IsWhole m = record { kind = whole.kind; came = whole.came; sent = whole.sent; age = age } in
      let shown_now : Showing Piped (entry_slot told packet e) (entry_slot told packet m) =
      subst (λ (y : KeySlot). Showing Piped (entry_slot told packet e) y)
      (slot_ahead told packet sent e is ∙ sym (slot_ahead told packet sent m is)) stays in
      subst (λ (y : Entry). IsTurned (entry_slot told packet e) before y after) (sym same)
      (record {
        is_told = told;
        packet = packet;
        made = entry_slot told packet e;
        turn =
            rested (entry_slot told packet e) before after quiet;
        shows = shown_now;
        whole = all;
      })

  -- the answer that the asker hears, or its own
  hears : (a : Taken) (r : Reply) (before after : W) → transacts before (classic_of a.ask) a.packet r after
      → KeyTurns (Asked a) before (Hidden a (result_of r)) after
  hears a Silent before after made = gives_dead a Silent after refl made refl
  hears a (Bytes pid bytes) before after made = works a (Bytes pid bytes) after refl made refl
  hears a (Hand Pids.Err) before after made = gives_dead a (Hand Pids.Err) after refl made refl
  hears a (Hand _) before after made = works a (Hand _) after refl made refl

  first_shown : (c : Bool) (a : Taken) (r : Reply) → Showing Piped (Hidden a r) (shown c false a r)
  first_shown false a r = stays
  first_shown true a r = shows a r refl refl

  tries_turn : (told : Bool) (packet sent : List ℕ) (room : ℕ) (e : Entry) (before after : W) (new : Entry) → IsWhole e
      → e.exchange ≡ Ahead sent → e.before ≡ e.came
      → is_due (moved room e) ≡ true → Turn transacts room e before after new → IsTurned (entry_slot told packet e) before new after
  tries_turn told packet sent room e before after new whole is full on turn =
      let m : Entry = moved room e in
      let r : Reply = turn.reply in
      let same : new ≡ record m { exchange = Made r } = turn.becomes ∙ ap (λ (b : Bool). answered b r m) on in
      let made : transacts before (classic_of e.ask) (sent_of m) r after =
      subst (λ (b : Bool). Asks transacts b m before r after) on turn.asks in
      let size : length sent ≡ e.came.bytes = subst (λ (x : Exchange). IsAllSent e.came.bytes x) is whole.sent in
      let out : sent_of m ≡ sent =
      ap (λ (x : Exchange). sent_at e.before.bytes x) is
      ∙ take_all sent e.before.bytes (size ∙ sym (ap (λ (b : Brought). b.bytes) full)) in
      let a : Taken = record { ask = e.ask; packet = sent; stuff = e.stuff } in
      let goes : transacts before (classic_of e.ask) sent r after =
      subst (λ (xs : List ℕ). transacts before (classic_of e.ask) xs r after) out made in
      let all : IsWhole (record m { exchange = Made r }) =
      record { kind = whole.kind; came = whole.came; sent = tt; age = inr (record { before = refl; heard = full }) } in
      subst (λ (y : Entry). IsTurned (entry_slot told packet e) before y after) (sym same)
      (record {
        is_told = false;
        packet = sent;
        made = Hidden a (result_of r);
        turn = subst (λ (y : KeySlot). KeyTurns y before (Hidden a (result_of r)) after) (sym (slot_ahead told packet sent e is))
            (hears a r before after goes);
        shows = first_shown (nat_le (called_for m) m.done) a (result_of r);
        whole = all;
      })

  -- ---- any

  ready_turn : (told : Bool) (packet sent : List ℕ) (room : ℕ) (e : Entry) (before after : W) (new : Entry) (due : Bool) → IsWhole e
      → e.exchange ≡ Ahead sent
      → e.before ≡ e.came → is_due (moved room e) ≡ due → Turn transacts room e before after new
      → IsTurned (entry_slot told packet e) before new after
  ready_turn told packet sent room e before after new true whole is full on turn =
      tries_turn told packet sent room e before after new whole is full on turn
  ready_turn told packet sent room e before after new false whole is full off turn =
      waits_turn told packet sent room e before after new whole is off (inr (record { before = refl; heard = full })) turn

  new_turn : (told : Bool) (packet : List ℕ) (room : ℕ) (e : Entry) (before after : W) (new : Entry) → IsWhole e → IsNew e
      → Turn transacts room e before after new → IsTurned (entry_slot told packet e) before new after
  new_turn told packet room e before after new whole fresh turn =
      elim fresh.before [
        | inl nothing ↦
            let m : Entry = moved room e in
            let calls : called_for (aged e) ≡ 0 = none_called (aged e) nothing in
            let none_used : m.done ≡ 0 = idle (called_for (aged e)) e.done room calls fresh.done in
            let off : is_due m ≡ false =
            due_is m whole.kind ∙
            (ap (λ (y : Exchange). is_ahead y && nat_lt 0 m.done) fresh.ahead.1 ∙ ap (λ (n : ℕ). nat_lt 0 n) none_used) in
            waits_turn told packet fresh.ahead.0 room e before after new whole fresh.ahead.1 off
            (inl (record { heard = nothing; done = none_used; ahead = fresh.ahead; before = inr refl })) turn
        | inr full ↦ ready_turn told packet fresh.ahead.0 room e before after new (is_due (moved room e)) whole fresh.ahead.1 full refl turn
      ]
    where
      idle : (calls done room : ℕ) → calls ≡ 0 → done ≡ 0 → done + min room (calls - done) ≡ 0
      idle calls done room c d = rw (c, d) (nothing room)
        where
          nothing : (n : ℕ) → 0 + min n (0 - 0) ≡ 0
          nothing n = omega arith

  working_turn : (told : Bool) (packet : List ℕ) (room : ℕ) (e : Entry) (x : Exchange) (before after : W) (new : Entry) → IsWhole e
      → IsWorking e → e.exchange ≡ x
      → Turn transacts room e before after new → IsTurned (entry_slot told packet e) before new after
  working_turn told packet room e (Ahead sent) before after new whole working is turn =
      ready_turn told packet sent room e before after new (is_due (moved room e)) whole is working.before refl turn
  working_turn told packet room e (Made r) before after new whole working is turn =
      made_turn told packet room e r before after new whole working is turn

  pub entry_turn : (told : Bool) (packet : List ℕ) (room : ℕ) (e : Entry) (before after : W) (new : Entry) → IsWhole e
      → Turn transacts room e before after new → IsTurned (entry_slot told packet e) before new after
  entry_turn told packet room e before after new whole turn =
      elim whole.age [
        | inl fresh ↦ new_turn told packet room e before after new whole fresh turn
        | inr working ↦ working_turn told packet room e e.exchange before after new whole working refl turn
      ]

  -- ---- the turn of any other entry

  -- it stands where its start put it, and asks nothing of the key
  pub record IsApart (k : Key) (e new : Entry) (before after : W) : Type 0 where
    pub others : OfOthers transacts k before after
    pub key : new.key ≡ e.key
    pub ask : new.ask ≡ e.ask

  apart_turn : (k : Key) (due : Bool) (m : Entry) (r : Reply) (before after : W) → is_same_key (key_of m.ask) k ≡ false
      → Asks transacts due m before r after
      → IsApart k m (answered due r m) before after
  apart_turn k true m r before after apart asks =
      record { others = more before after after m.ask (sent_of m) r apart asks (none after); key = refl; ask = refl }
  apart_turn k false m r before after apart asks =
      record { others = subst (λ (x : W). OfOthers transacts k before x) (sym asks) (none before); key = refl; ask = refl }

  pub other_turn : (k : Key) (room : ℕ) (e : Entry) (before after : W) (new : Entry) → IsOfAsk e → is_same_key e.key k ≡ false
      → Turn transacts room e before after new → IsApart k e new before after
  other_turn k room e before after new stood apart turn =
      let m : Entry = moved room e in
      let off : is_same_key (key_of e.ask) k ≡ false = subst (λ (c : Key). is_same_key c k ≡ false) stood.key apart in
      subst (λ (x : Entry). IsApart k e x before after) (sym turn.becomes)
      (same (apart_turn k (is_due m) m turn.reply before after off turn.asks))
    where
      same : IsApart k (moved room e) (answered (is_due (moved room e)) turn.reply (moved room e)) before after
          → IsApart k e (answered (is_due (moved room e)) turn.reply (moved room e)) before after
      same a = record { others = a.others; key = a.key; ask = a.ask }

  -- the key's own stands there too
  made_same : (due : Bool) (r : Reply) (m : Entry) → ((answered due r m).key ≡ m.key) × ((answered due r m).ask ≡ m.ask)
  made_same true r m = (refl, refl)
  made_same false r m = (refl, refl)

  pub same_ask : (room : ℕ) (e : Entry) (before after : W) (new : Entry) → Turn transacts room e before after new
      → (new.key ≡ e.key) × (new.ask ≡ e.ask)
  same_ask room e before after new turn =
      let s = made_same (is_due (moved room e)) turn.reply (moved room e) in
      (ap (λ (x : Entry). x.key) turn.becomes ∙ s.0, ap (λ (x : Entry). x.ask) turn.becomes ∙ s.1)
