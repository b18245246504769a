-- Starts, complete-splits and the work of a microframe over the pipeline, as a key sees it (USB 2.0, 11.18 to 11.21).
use Rattle.std.proofs.Common.{◌≡◌, ℕ, ◌⊎◌, inl, inr, Bool, true, false, List, [], ◌∷◌, ◌++◌, length, Option, Some, None, if◌then◌else◌, refl, sym, subst, ap, ◌∙◌, arith}
use Rattle.std.specs.Prelude.{nat_le, nat_lt, ◌+◌, ◌||◌}
use Rattle.std.specs.List.{find}
use Rattle.usb_base.specs.declared.packets.Ask.{Ask}
use Rattle.usb_base.specs.declared.packets.EpKind.{EpKind}
use Rattle.usb_base.specs.declared.packets.EpKind.TheVariants.{Interrupt}
use Rattle.usb_base.specs.declared.packets.Reply.TheVariants.{Silent}
use Rattle.hub_keys.specs.Keys.{key_of, is_same_key}
use Rattle.hub_keys.specs.declared.key.Key.{Key}
use Rattle.tt_bulk.specs.Contents.{Taken}
use Rattle.tt_pipeline.specs.declared.entry.Entry.{Entry}
use Rattle.tt_pipeline.specs.declared.entry.Exchange.{Exchange}
use Rattle.tt_pipeline.specs.declared.entry.Exchange.TheVariants.{Ahead, Made}
use Rattle.tt_pipeline.specs.declared.rows.AnswerRow.{AnswerRow}
use Rattle.tt_pipeline.specs.declared.rows.AnswerRow.TheVariants.{NotYet, Result, Unheard, More, Last}
use Rattle.tt_pipeline.specs.declared.rows.StartRow.{StartRow}
use Rattle.tt_pipeline.specs.declared.rows.StartRow.TheVariants.{Enters, Joins, Forgotten}
use Rattle.tt_pipeline.specs.Answers.{result_of, result_at, row_at, made_row, answer_row, answer_at, given_at, answer_of, given, completed}
use Rattle.tt_pipeline.specs.Starting.{has_key, at_key, without, is_there, first_row, row_of_part, start_row, after_start, started}
use Rattle.tt_pipeline.specs.Work.{called_for, nothing_brought, brought_by, part_at, fresh, joined}
use Rattle.tt_pipeline.proofs.Places.{on_or_off, find_none}
use Rattle.law_translated.specs.Lift.{Piped, Empty, Asked, Hidden, There, Told}
use Rattle.law_translated.specs.KeySlots.{KeySlot, all_at_once, shown, exchange_slot, entry_slot, slot_if, slot_at, IsOnceBy, IsOnceIn, IsOfAsk, IsWhole, IfOwn, AreEntries}
use Rattle.law_translated.specs.KeySteps.{OwnStart, given_reply}
use Rattle.law_translated.specs.KeySteps.OwnStart.{starts, replaces, starts_none}
use Rattle.law_translated.proofs.Keys.{same_as_itself, not_both}

-- ---- lists

pub find_here : (k : Key) (e : Entry) (es : List Entry) → has_key k e ≡ true → find (has_key k) (e ∷ es) ≡ Some e
find_here k e es h = rw h refl

pub find_later : (k : Key) (e : Entry) (es : List Entry) → has_key k e ≡ false → find (has_key k) (e ∷ es) ≡ find (has_key k) es
find_later k e es h = rw h refl

pub there_later : (k : Key) (e : Entry) (es : List Entry) → has_key k e ≡ false → is_there k (e ∷ es) ≡ is_there k es
there_later k e es h = rw h refl

pub not_there : (k : Key) (e : Entry) (es : List Entry) → is_there k (e ∷ es) ≡ false → (has_key k e ≡ false) × (is_there k es ≡ false)
not_there k e es h =
    elim (on_or_off (has_key k e)) [
      | inl on ↦ let z = rw on at h in absurd cc
      | inr off ↦ (off, sym (there_later k e es off) ∙ h)
    ]

pub once_here : (k : Key) (e : Entry) (es : List Entry) → has_key k e ≡ true → IsOnceIn k (e ∷ es) → is_there k es ≡ false
once_here k e es h once = subst (λ (b : Bool). IsOnceBy b (is_there k es ≡ false) (IsOnceIn k es)) h once

pub once_later : (k : Key) (e : Entry) (es : List Entry) → has_key k e ≡ false → IsOnceIn k (e ∷ es) → IsOnceIn k es
once_later k e es h once = subst (λ (b : Bool). IsOnceBy b (is_there k es ≡ false) (IsOnceIn k es)) h once

pub to_once_here : (k : Key) (e : Entry) (es : List Entry) → has_key k e ≡ true → is_there k es ≡ false → IsOnceIn k (e ∷ es)
to_once_here k e es h once = subst (λ (b : Bool). IsOnceBy b (is_there k es ≡ false) (IsOnceIn k es)) (sym h) once

pub to_once_later : (k : Key) (e : Entry) (es : List Entry) → has_key k e ≡ false → IsOnceIn k es → IsOnceIn k (e ∷ es)
to_once_later k e es h once = subst (λ (b : Bool). IsOnceBy b (is_there k es ≡ false) (IsOnceIn k es)) (sym h) once

pub none_once : (k : Key) (es : List Entry) → is_there k es ≡ false → IsOnceIn k es
none_once k [] h = tt
none_once k (e ∷ es) h = let n = not_there k e es h in to_once_later k e es n.0 (none_once k es n.1)

pub own_of : (k : Key) (e : Entry) → has_key k e ≡ true → IfOwn (has_key k e) (IsWhole e) → IsWhole e
own_of k e h w = subst (λ (b : Bool). IfOwn b (IsWhole e)) h w

pub to_other : (k : Key) (e : Entry) → has_key k e ≡ false → IfOwn (has_key k e) (IsWhole e)
to_other k e h = subst (λ (b : Bool). IfOwn b (IsWhole e)) (sym h) tt

pub to_own : (k : Key) (e : Entry) (b : Bool) → IsWhole e → IfOwn b (IsWhole e)
to_own k e true w = w
to_own k e false w = tt

-- ---- a start of the key

same_key_fresh : (ask : Ask) (bytes : List ℕ) (stuff : ℕ) → has_key (key_of ask) (fresh ask bytes stuff) ≡ true
same_key_fresh ask bytes stuff = same_as_itself (key_of ask)

whole_fresh : (ask : Ask) (bytes : List ℕ) (stuff : ℕ) → ask.kind ≡ Interrupt → IsWhole (fresh ask bytes stuff)
whole_fresh ask bytes stuff kind = record {
  kind = kind;
  came = subst (λ (e : EpKind). brought_by (part_at e ask.pid ask.split) (length bytes) nothing_brought
      ≡ all_at_once (brought_by (part_at e ask.pid ask.split) (length bytes) nothing_brought).bytes) (sym kind) refl;
  sent = subst (λ (e : EpKind). length bytes ≡ (brought_by (part_at e ask.pid ask.split) (length bytes) nothing_brought).bytes) (sym kind)
      (plus (length bytes));
  age = inl (record { heard = refl; done = refl; ahead = (bytes, refl); before = inl refl });
}
  where
    plus : (n : ℕ) → n ≡ 0 + n
    plus n = omega arith

without_none : (k : Key) (es : List Entry) → IsOnceIn k es → is_there k (without k es) ≡ false
without_none k [] once = refl
without_none k (e ∷ es) once =
    elim (on_or_off (has_key k e)) [
      | inl on ↦ rw on (once_here k e es on once)
      | inr off ↦ rw off (there_later k e (without k es) off ∙ without_none k es (once_later k e es off once))
    ]

find_last : (k : Key) (es : List Entry) (e : Entry) → is_there k es ≡ false → has_key k e ≡ true → find (has_key k) (es ++ e ∷ []) ≡ Some e
find_last k [] e h on = find_here k e [] on
find_last k (x ∷ xs) e h on = let n = not_there k x xs h in find_later k x (xs ++ e ∷ []) n.0 ∙ find_last k xs e n.1 on

once_last : (k : Key) (es : List Entry) (e : Entry) → is_there k es ≡ false → has_key k e ≡ true → IsOnceIn k (es ++ e ∷ [])
once_last k [] e h on = to_once_here k e [] on refl
once_last k (x ∷ xs) e h on = let n = not_there k x xs h in to_once_later k x (xs ++ e ∷ []) n.0 (once_last k xs e n.1 on)

entries_last : (k : Key) (es : List Entry) (e : Entry) → AreEntries k es → IsOfAsk e → IfOwn (has_key k e) (IsWhole e)
    → AreEntries k (es ++ e ∷ [])
entries_last k [] e are of own = (of, own, tt)
entries_last k (x ∷ xs) e are of own = (are.0, are.1, entries_last k xs e are.2 of own)

entries_without : (k a : Key) (es : List Entry) → AreEntries k es → AreEntries k (without a es)
entries_without k a [] are = tt
entries_without k a (e ∷ es) are =
    elim (on_or_off (has_key a e)) [
      | inl on ↦ rw on are.2
      | inr off ↦ rw off (are.0, are.1, entries_without k a es are.2)
    ]

-- what the key has after its start
pub record IsEntered (k : Key) (a : Taken) (s : KeySlot) (new : List Entry) : Type 0 where
  pub slot : KeySlot
  pub has : (is_told : Bool) (packet : List ℕ) → slot_at is_told packet k new ≡ slot
  pub start : OwnStart Piped a s Silent slot
  pub once : IsOnceIn k new
  pub entries : AreEntries k new

entering : (a : Taken) (s : KeySlot) → OwnStart Piped a s Silent (Asked a)
entering a Empty = starts tt
entering a (Asked b) = replaces refl (λ q. q)
entering a (Hidden b r) = replaces refl (λ q. q)
entering a (There b r) = replaces refl (λ q. q)
entering a (Told b r) = starts tt

first_row_is : (k : Key) (es : List Entry) (there short : Bool) → is_there k es ≡ there → nat_lt (length es) 256 ≡ short
    → (first_row k es ≡ Enters) ⊎ ((first_row k es ≡ Forgotten) × (there ≡ false))
first_row_is k es true short t s = inl (ap (λ (b : Bool). if b || nat_lt (length es) 256 then Enters else Forgotten) t)
first_row_is k es false true t s =
    inl (ap (λ (b : Bool). if b || nat_lt (length es) 256 then Enters else Forgotten) t
    ∙ ap (λ (b : Bool). if b then Enters else Forgotten) s)
first_row_is k es false false t s =
    inr (
      ap (λ (b : Bool). if b || nat_lt (length es) 256 then Enters else Forgotten) t
          ∙ ap (λ (b : Bool). if b then Enters else Forgotten) s,
      refl,
    )

row_of_interrupt : (ask : Ask) (n : ℕ) (es : List Entry) → ask.kind ≡ Interrupt → start_row ask n es ≡ first_row (key_of ask) es
row_of_interrupt ask n es kind = ap (λ (e : EpKind). row_of_part (part_at e ask.pid ask.split) (key_of ask) n es) kind

pub own_start : (ask : Ask) (bytes : List ℕ) (stuff : ℕ) (es : List Entry) (is_told : Bool) (packet : List ℕ) → ask.kind ≡ Interrupt
    → IsOnceIn (key_of ask) es → AreEntries (key_of ask) es
    → IsEntered (key_of ask) (record { ask = ask; packet = bytes; stuff = stuff }) (slot_at is_told packet (key_of ask) es)
    (started ask bytes stuff es)
own_start ask bytes stuff es is_told packet kind once are =
    let k : Key = key_of ask in
    let a : Taken = record { ask = ask; packet = bytes; stuff = stuff } in
    let s : KeySlot = slot_at is_told packet k es in
    let row : start_row ask (length bytes) es ≡ first_row k es = row_of_interrupt ask (length bytes) es kind in
    let on : has_key k (fresh ask bytes stuff) ≡ true = same_key_fresh ask bytes stuff in
    elim (first_row_is k es (is_there k es) (nat_lt (length es) 256) refl refl) [
      | inl enters ↦
          let is : started ask bytes stuff es ≡ without k es ++ fresh ask bytes stuff ∷ [] =
          ap (λ (r : StartRow). after_start r ask bytes stuff es) (row ∙ enters) in
          let gone : is_there k (without k es) ≡ false = without_none k es once in
          subst (λ (x : List Entry). IsEntered k a s x) (sym is)
          (record {
            slot = Asked a;
            has = λ t p. ap (λ (o : Option Entry). slot_if t p o) (find_last k (without k es) (fresh ask bytes stuff) gone on);
            start = entering a s;
            once = once_last k (without k es) (fresh ask bytes stuff) gone on;
            entries = entries_last k (without k es) (fresh ask bytes stuff) (entries_without k k es are) (record { key = refl })
                (to_own k (fresh ask bytes stuff) (has_key k (fresh ask bytes stuff)) (whole_fresh ask bytes stuff kind));
          })
      | inr forgets ↦
          let is : started ask bytes stuff es ≡ es = ap (λ (r : StartRow). after_start r ask bytes stuff es) (row ∙ forgets.0) in
          let empty : find (has_key k) es ≡ None = find_none (has_key k) es forgets.1 in
          subst (λ (x : List Entry). IsEntered k a s x) (sym is)
          (record {
            slot = s;
            has = λ t p. ap (λ (o : Option Entry). slot_if t p o) empty ∙ sym (ap (λ (o : Option Entry). slot_if is_told packet o) empty);
            start = starts_none refl (ap (λ (o : Option Entry). slot_if is_told packet o) empty);
            once = once;
            entries = are;
          })
    ]

-- ---- where an entry of another key changes

-- the key has what it had
pub record IsLeft (k : Key) (old new : List Entry) : Type 0 where
  pub same : find (has_key k) new ≡ find (has_key k) old
  pub there : is_there k new ≡ is_there k old
  pub once : IsOnceIn k old → IsOnceIn k new
  pub entries : AreEntries k old → AreEntries k new

itself : (k : Key) (es : List Entry) → IsLeft k es es
itself k es = record { same = refl; there = refl; once = λ o. o; entries = λ a. a }

-- an entry of the other key isn't the key's
apart_at : (k a : Key) (e : Entry) → is_same_key a k ≡ false → has_key a e ≡ true → has_key k e ≡ false
apart_at k a e apart at = by (has_key k e) refl
  where
    by : (b : Bool) → has_key k e ≡ b → has_key k e ≡ false
    by true on = not_both k a e.key apart on at
    by false off = off

left_behind : (k : Key) (e new : Entry) (old later : List Entry) → new.key ≡ e.key → new.ask ≡ e.ask → (has_key k e ≡ true → new ≡ e)
    → IsLeft k old later
    → IsLeft k (e ∷ old) (new ∷ later)
left_behind k e new old later key ask same l =
    elim (on_or_off (has_key k e)) [
      | inl on ↦
          subst (λ (x : Entry). IsLeft k (e ∷ old) (x ∷ later)) (sym (same on))
          (record {
            same = find_here k e later on ∙ sym (find_here k e old on);
            there = rw on refl;
            once = λ o. to_once_here k e later on (l.there ∙ once_here k e old on o);
            entries = λ a. (a.0, a.1, l.entries a.2);
          })
      | inr off ↦
          let off' : has_key k new ≡ false = ap (λ (c : Key). is_same_key c k) key ∙ off in
          record {
            same = find_later k new later off' ∙ l.same ∙ sym (find_later k e old off);
            there = there_later k new later off' ∙ l.there ∙ sym (there_later k e old off);
            once = λ o. to_once_later k new later off' (l.once (once_later k e old off o));
            entries = λ a. (record { key = key ∙ (a.0).key ∙ sym (ap key_of ask) }, to_other k new off', l.entries a.2);
          }
    ]

pub with_other : (k a : Key) (f : Entry → Entry) (es : List Entry) → is_same_key a k ≡ false
    → ((e : Entry) → ((f e).key ≡ e.key) × ((f e).ask ≡ e.ask))
    → IsLeft k es (at_key a f es)
with_other k a f [] apart keeps = itself k []
with_other k a f (e ∷ es) apart keeps =
    elim (on_or_off (has_key a e)) [
      | inl on ↦
          let off : has_key k e ≡ false = apart_at k a e apart on in
          rw on (left_behind k e (f e) es es (keeps e).0 (keeps e).1 (λ at. absurd (let z : true ≡ false = sym at ∙ off in cc))
          (itself k es))
      | inr off ↦ rw off (left_behind k e e es (at_key a f es) refl refl (λ at. refl) (with_other k a f es apart keeps))
    ]

without_other : (k a : Key) (es : List Entry) → is_same_key a k ≡ false → IsLeft k es (without a es)
without_other k a [] apart = itself k []
without_other k a (e ∷ es) apart =
    elim (on_or_off (has_key a e)) [
      | inl on ↦
          let off : has_key k e ≡ false = apart_at k a e apart on in
          rw on (record {
            same = sym (find_later k e es off);
            there = sym (there_later k e es off);
            once = λ o. once_later k e es off o;
            entries = λ x. x.2;
          })
      | inr off ↦ rw off (left_behind k e e es (without a es) refl refl (λ at. refl) (without_other k a es apart))
    ]

last_other : (k : Key) (es : List Entry) (e : Entry) → has_key k e ≡ false → IsOfAsk e → IsLeft k es (es ++ e ∷ [])
last_other k [] e off of = record {
  same = find_later k e [] off;
  there = there_later k e [] off;
  once = λ o. to_once_later k e [] off tt;
  entries = λ a. (of, to_other k e off, tt);
}
last_other k (x ∷ xs) e off of = left_behind k x x xs (xs ++ e ∷ []) refl refl (λ at. refl) (last_other k xs e off of)

and_then : (k : Key) (old mid new : List Entry) → IsLeft k old mid → IsLeft k mid new → IsLeft k old new
and_then k old mid new a b = record {
  same = b.same ∙ a.same;
  there = b.there ∙ a.there;
  once = λ o. b.once (a.once o);
  entries = λ x. b.entries (a.entries x);
}

pub other_start : (k : Key) (ask : Ask) (bytes : List ℕ) (stuff : ℕ) (es : List Entry) → is_same_key (key_of ask) k ≡ false
    → IsLeft k es (started ask bytes stuff es)
other_start k ask bytes stuff es apart = by_row (start_row ask (length bytes) es)
  where
    by_row : (row : StartRow) → IsLeft k es (after_start row ask bytes stuff es)
    by_row Enters =
        and_then k es (without (key_of ask) es) (without (key_of ask) es ++ fresh ask bytes stuff ∷ [])
        (without_other k (key_of ask) es apart)
        (last_other k (without (key_of ask) es) (fresh ask bytes stuff) apart (record { key = refl }))
    by_row Joins = with_other k (key_of ask) (joined ask bytes) es apart (λ e. (refl, refl))
    by_row Forgotten = itself k es

-- ---- a complete-split

given_keeps : (row : AnswerRow) (e : Entry) → ((given_at row e).key ≡ e.key) × ((given_at row e).ask ≡ e.ask)
given_keeps NotYet e = (refl, refl)
given_keeps Result e = (refl, refl)
given_keeps Unheard e = (refl, refl)
given_keeps More e = (refl, refl)
given_keeps Last e = (refl, refl)

pub other_complete : (k a : Key) (es : List Entry) → is_same_key a k ≡ false → IsLeft k es (completed a es)
other_complete k a es apart = with_other k a given es apart (λ e. given_keeps (answer_row e) e)

-- an interrupt's entry isn't changed by what it tells
pub record IsGiven (is_told : Bool) (packet : List ℕ) (e : Entry) : Type 0 where
  pub same : given e ≡ e
  pub answer : answer_of e ≡ given_reply Piped (entry_slot is_told packet e)

pub given_by_row : (is_told : Bool) (packet : List ℕ) (e : Entry) (x : Exchange) → e.exchange ≡ x → e.ask.kind ≡ Interrupt
    → IsGiven is_told packet e
given_by_row is_told packet e (Ahead sent) is kind =
    let row : answer_row e ≡ NotYet = ap (λ (y : Exchange). row_at y e) is in
    record {
      same = ap (λ (r : AnswerRow). given_at r e) row;
      answer = ap (λ (r : AnswerRow). answer_at r e) row
          ∙ sym (ap (λ (y : Exchange). given_reply Piped (exchange_slot is_told packet y e)) is);
    }
given_by_row is_told packet e (Made reply) is kind = by (nat_le (called_for e) e.done) is_told refl
  where
    by : (c t : Bool) → nat_le (called_for e) e.done ≡ c → IsGiven t packet e
    by c t at =
        let row : answer_row e ≡ (if c then Result else NotYet) =
        ap (λ (y : Exchange). row_at y e) is
        ∙ ap (λ (y : EpKind). made_row y e.ask.pid reply e) kind
        ∙ ap (λ (b : Bool). if b then Result else NotYet) at in
        let slot : entry_slot t packet e ≡ shown c t (record { ask = e.ask; packet = packet; stuff = e.stuff }) (result_of reply) =
        ap (λ (y : Exchange). exchange_slot t packet y e) is
        ∙ ap (λ (b : Bool). shown b t (record { ask = e.ask; packet = packet; stuff = e.stuff }) (result_of reply)) at in
        let r = by_shown c t in
        record {
          same = ap (λ (r : AnswerRow). given_at r e) row ∙ r.0;
          answer = ap (λ (r : AnswerRow). answer_at r e) row ∙ r.1 ∙ sym (ap (λ (s : KeySlot). given_reply Piped s) slot);
        }
      where
        by_shown : (c t : Bool) → (given_at (if c then Result else NotYet) e ≡ e)
            × (answer_at (if c then Result else NotYet) e
            ≡ given_reply Piped (shown c t (record { ask = e.ask; packet = packet; stuff = e.stuff }) (result_of reply)))
        by_shown false t = (refl, refl)
        by_shown true false = (refl, ap (λ (y : Exchange). result_at y) is)
        by_shown true true = (refl, ap (λ (y : Exchange). result_at y) is)
