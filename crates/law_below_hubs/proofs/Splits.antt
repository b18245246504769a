-- The host's split transactions, key by key.
use Rattle.std.proofs.Common.{◌≡◌, ℕ, zero, suc, ◌==◌, false, List, [], ◌∷◌, slice_get, Option, Some, None, refl, sym, subst, ap, ◌∙◌, position}
use Rattle.std.specs.Option.{option_map_or}
use Rattle.usb_base.specs.declared.packets.Ask.{Ask}
use Rattle.usb_base.specs.declared.packets.DataPart.{DataPart}
use Rattle.usb_base.specs.declared.packets.Reply.{Reply}
use Rattle.usb_base.specs.declared.packets.Reply.TheVariants.{Silent}
use Rattle.usb_base.specs.declared.packets.Split.{Split}
use Rattle.usb_base.specs.declared.packets.Split.TheVariants.{Start, Complete}
use Rattle.hub_keys.specs.Keys.{key_of, is_same_key}
use Rattle.hub_keys.specs.declared.key.Key.{Key}
use Rattle.multi_tt.specs.Translators.{place_of, translator_at}
use Rattle.multi_tt.specs.Single.{start_answer, complete_answer}
use Rattle.multi_tt.specs.Calls.{Starts, Completes, hub_after, port_of}
use Rattle.hub_class.specs.HubContent.{HubContent}
use Rattle.hub_class.specs.Translating.{split_reply, after_split, transact_reply, transacted}
use Rattle.bus_wire.specs.declared.asked.Answerer.{Answerer}
use Rattle.bus_wire.specs.declared.asked.Answerer.TheVariants as Answerers
use Rattle.bus_wire.specs.declared.asked.Asked.{Asked}
use Rattle.bus_wire.specs.declared.who_heard.WhoHeard.{WhoHeard}
use Rattle.bus_wire.specs.declared.who_heard.WhoHeard.TheVariants as Rows
use Rattle.bus_wire.specs.Seats.{token_kind, place_for}
use Rattle.bus_wire.specs.WhoHeard.{asker_hears}
use Rattle.bus_wire.specs.Asking.{translator_after, translator_answer, put_at, changed_at}
use Rattle.bus_wire.specs.Bus.{Bus, Wired, Fixed, stuff_of, hears_split, hears, asked_of, answer_by, bus_row, changed_by, reply_at, after_at, transact_after}
use Rattle.law_devices.specs.scripted_requests.Controls.{transacts_by}
use Rattle.law_devices.proofs.Asking.{who_place}
use Rattle.law_translated.specs.Lift.{Way, told}
use Rattle.law_translated.specs.KeySlots.{KeySlot, way_of}
use Rattle.law_translated.specs.KeySteps.{OtherStart, given_reply}
use Rattle.law_translated.specs.KeySteps.OtherStart.{stays}
use Rattle.law_translated.specs.KeyLaws.{start_of}
use Rattle.law_translated.specs.KeyHubs.{HaveNone, HasAt, HubStartsOwn, HubCompletesOwn, LeavesOther}
use Rattle.law_translated.proofs.HubCalls.{hub_start_by_key, hub_complete_by_key, none_started, none_completed}
use Rattle.law_below_hubs.specs.HubsKeys.{HubsHaveNone, HubsHave}
use Rattle.law_below_hubs.specs.Splits.{IsAtHub, StartHeard, StartsAtHub, LeavesKey, CompleteHeard, CompletesAtHub}
use Rattle.law_below_hubs.specs.Splits.StartHeard.{lost as start_lost, heard as start_heard, unheard as start_unheard}
use Rattle.law_below_hubs.specs.Splits.CompleteHeard.{lost as complete_lost, heard as complete_heard, unheard as complete_unheard}

-- ---- one hub of a list changes

pub put_later : (o : Option HubContent) (i : ℕ) (f : HubContent → HubContent) (h : HubContent) (hs : List HubContent)
    → put_at o (suc i) f (h ∷ hs) ≡ h ∷ put_at o i f hs
put_later None i f h hs = refl
put_later (Some x) i f h hs = refl

module _ (way : Way) (k : Key) where
  own_hub : (f : HubContent → HubContent) (i place : ℕ) (hubs : List HubContent) (h : HubContent) (s new : KeySlot)
      → HubsHave way k i place hubs s → slice_get hubs i ≡ Some h
      → (HasAt way k place h.translators.all s → HasAt way k place (f h).translators.all new)
      → HubsHave way k i place (put_at (slice_get hubs i) i f hubs) new
  own_hub f i place [] h s new has there each = absurd has
  own_hub f zero place (x ∷ hs) h s new has there each =
      let same : x ≡ h = cc in (
        subst (λ (y : HubContent). HasAt way k place (f y).translators.all new) (sym same)
            (each (subst (λ (y : HubContent). HasAt way k place y.translators.all s) same has.0)),
        has.1,
      )
  own_hub f (suc i) place (x ∷ hs) h s new has there each =
      subst (λ (xs : List HubContent). HubsHave way k (suc i) place xs new) (sym (put_later (slice_get hs i) i f x hs))
      (has.0, own_hub f i place hs h s new has.1 there each)

  -- where the key is in it, and the same hub is found
  pub own_has : (i place : ℕ) (hubs : List HubContent) (h : HubContent) (s : KeySlot) → HubsHave way k i place hubs s
      → slice_get hubs i ≡ Some h → HasAt way k place h.translators.all s
  own_has i place [] h s has there = absurd has
  own_has zero place (x ∷ hs) h s has there = let same : x ≡ h =
      cc in subst (λ (y : HubContent). HasAt way k place y.translators.all s) same has.0
  own_has (suc i) place (x ∷ hs) h s has there = own_has i place hs h s has.1 there

  -- a change that leaves the key, or takes what was told
  record Spares (f : HubContent → HubContent) : Type 0 where
    nones : (h : HubContent) → HaveNone way k h.translators.all → HaveNone way k (f h).translators.all
    slots : (h : HubContent) (place : ℕ) (s : KeySlot) → HasAt way k place h.translators.all s
        → LeavesOther way k place s (f h).translators.all

  record IsSpared (i place : ℕ) (s : KeySlot) (hubs : List HubContent) : Type 0 where
    slot : KeySlot
    has : HubsHave way k i place hubs slot
    step : OtherStart way s slot

  none_hubs : (f : HubContent → HubContent) (j : ℕ) (hubs : List HubContent) → Spares f → HubsHaveNone way k hubs
      → HubsHaveNone way k (put_at (slice_get hubs j) j f hubs)
  none_hubs f j [] spares has = has
  none_hubs f zero (x ∷ hs) spares has = (spares.nones x has.0, has.1)
  none_hubs f (suc j) (x ∷ hs) spares has =
      subst (λ (xs : List HubContent). HubsHaveNone way k xs) (sym (put_later (slice_get hs j) j f x hs))
      (has.0, none_hubs f j hs spares has.1)

  other_hub : (f : HubContent → HubContent) (j i place : ℕ) (hubs : List HubContent) (s : KeySlot) → Spares f
      → HubsHave way k i place hubs s
      → IsSpared i place s (put_at (slice_get hubs j) j f hubs)
  other_hub f j i place [] s spares has = absurd has
  other_hub f zero zero place (x ∷ hs) s spares has =
      let r = spares.slots x place s has.0 in
      record { slot = r.slot; has = (r.has, has.1); step = r.step }
  other_hub f zero (suc i) place (x ∷ hs) s spares has = record { slot = s; has = (spares.nones x has.0, has.1); step = stays }
  other_hub f (suc j) zero place (x ∷ hs) s spares has =
      subst (λ (xs : List HubContent). IsSpared zero place s xs) (sym (put_later (slice_get hs j) j f x hs))
      (record { slot = s; has = (has.0, none_hubs f j hs spares has.1); step = stays })
  other_hub f (suc j) (suc i) place (x ∷ hs) s spares has =
      let r = other_hub f j i place hs s spares has.1 in
      subst (λ (xs : List HubContent). IsSpared (suc i) place s xs) (sym (put_later (slice_get hs j) j f x hs))
      (record { slot = r.slot; has = (has.0, r.has); step = r.step })

-- ---- what a split does to a hub

start_after : (hub port : ℕ) (part : DataPart) (ask : Ask) (out : List ℕ) (stuff : ℕ) (h : HubContent) → ask.split ≡ Start hub port part
    → transacted ask out stuff h ≡ record h { translators = hub_after (Starts ask out stuff) h.translators }
start_after hub port part ask out stuff h is = ap (λ (split : Split). after_split split ask out stuff h) is

pub complete_after : (hub port : ℕ) (ask : Ask) (out : List ℕ) (stuff : ℕ) (h : HubContent) → ask.split ≡ Complete hub port
    → transacted ask out stuff h ≡ record h { translators = hub_after (Completes ask) h.translators }
complete_after hub port ask out stuff h is = ap (λ (split : Split). after_split split ask out stuff h) is

pub start_says : (hub port : ℕ) (part : DataPart) (ask : Ask) (h : HubContent) → ask.split ≡ Start hub port part
    → transact_reply ask h ≡ option_map_or (start_answer ask) (translator_at (port_of ask.split) h.translators) Silent
start_says hub port part ask h is = ap (λ (split : Split). split_reply split ask h) is

pub complete_says : (hub port : ℕ) (ask : Ask) (h : HubContent) → ask.split ≡ Complete hub port
    → transact_reply ask h ≡ option_map_or (complete_answer ask) (translator_at (port_of ask.split) h.translators) Silent
complete_says hub port ask h is = ap (λ (split : Split). split_reply split ask h) is

some_of : (x y : Reply) → Some x ≡ Some y → x ≡ y
some_of x y e = cc

-- ---- a start of the key

module _ (way : Way) (i place hub port : ℕ) (part : DataPart) (ask : Ask) (out : List ℕ) (s : KeySlot) (hubs : List HubContent)
    (split_is : ask.split ≡ Start hub port part)
    (kind : way_of ask.kind ≡ Some way) (at : IsAtHub hubs hub port i place) (has : HubsHave way (key_of ask) i place hubs s) where
  record StartsIn (reply : Reply) (new : List HubContent) : Type 0 where
    stuff : ℕ
    slot : KeySlot
    keeps : HubsHave way (key_of ask) i place new slot
    step : StartHeard way (start_of ask out stuff) s reply slot

  own_place : place_of at.content.translators.multi (port_of ask.split) ≡ Some place
  own_place = ap (λ (split : Split). place_of at.content.translators.multi (port_of split)) split_is ∙ at.place_is

  start_row : (stuff : ℕ) (row : WhoHeard)
      → StartsIn (asker_hears row (translator_answer (slice_get hubs i) ask)) (changed_at i (translator_after row ask out stuff) hubs)
  start_row stuff row = by row
    where
      r : HubStartsOwn way ask out stuff place at.content.translators s
      r = hub_start_by_key.own way ask out stuff place at.content.translators s kind own_place
          (own_has way (key_of ask) i place hubs at.content s has at.there)

      answer_is : translator_answer (slice_get hubs i) ask ≡ r.reply
      answer_is = ap (λ (o : Option HubContent). translator_answer o ask) at.there ∙ start_says hub port part ask at.content split_is
          ∙ some_of _ _ r.answer

      after : HubsHave way (key_of ask) i place (put_at (slice_get hubs i) i (transacted ask out stuff) hubs) r.slot
      after =
          own_hub way (key_of ask) (transacted ask out stuff) i place hubs at.content s r.slot has at.there
          (λ own. subst (λ (h : HubContent). HasAt way (key_of ask) place h.translators.all r.slot)
          (sym (start_after hub port part ask out stuff at.content split_is)) r.has)

      same : HubsHave way (key_of ask) i place (put_at (slice_get hubs i) i (λ h. h) hubs) s
      same = own_hub way (key_of ask) (λ h. h) i place hubs at.content s s has at.there (λ own. own)

      told_it : StartsIn (translator_answer (slice_get hubs i) ask) (put_at (slice_get hubs i) i (transacted ask out stuff) hubs)
      told_it = subst (λ (x : Reply). StartsIn x (put_at (slice_get hubs i) i (transacted ask out stuff) hubs)) (sym answer_is)
          (record { stuff = stuff; slot = r.slot; keeps = after; step = start_heard r.reply r.slot r.step })

      silent : StartsIn Silent (put_at (slice_get hubs i) i (transacted ask out stuff) hubs)
      silent = record { stuff = stuff; slot = r.slot; keeps = after; step = start_unheard r.reply r.slot r.step }

      by : (row : WhoHeard)
          → StartsIn (asker_hears row (translator_answer (slice_get hubs i) ask)) (changed_at i (translator_after row ask out stuff) hubs)
      by Rows.SentUnheard = record { stuff = stuff; slot = s; keeps = same; step = start_lost }
      by Rows.NoAnswer = silent
      by Rows.AnswerUnheard = silent
      by Rows.AnswerHeard = told_it
      by Rows.AckUnheard = told_it
      by Rows.AckHeard = told_it

-- ---- a complete-split of the key

module _ (way : Way) (i place hub port : ℕ) (ask : Ask) (out : List ℕ) (s : KeySlot) (hubs : List HubContent)
    (split_is : ask.split ≡ Complete hub port)
    (kind : way_of ask.kind ≡ Some way) (at : IsAtHub hubs hub port i place) (has : HubsHave way (key_of ask) i place hubs s) where
  record CompletesIn (reply : Reply) (new : List HubContent) : Type 0 where
    slot : KeySlot
    keeps : HubsHave way (key_of ask) i place new slot
    step : CompleteHeard way s reply slot

  its_place : place_of at.content.translators.multi (port_of ask.split) ≡ Some place
  its_place = ap (λ (split : Split). place_of at.content.translators.multi (port_of split)) split_is ∙ at.place_is

  complete_row : (stuff : ℕ) (row : WhoHeard)
      → CompletesIn (asker_hears row (translator_answer (slice_get hubs i) ask)) (changed_at i (translator_after row ask out stuff) hubs)
  complete_row stuff row = by row
    where
      r : HubCompletesOwn way ask place at.content.translators s
      r = hub_complete_by_key.own way ask place at.content.translators s kind its_place
          (own_has way (key_of ask) i place hubs at.content s has at.there)

      answer_is : translator_answer (slice_get hubs i) ask ≡ given_reply way s
      answer_is = ap (λ (o : Option HubContent). translator_answer o ask) at.there ∙ complete_says hub port ask at.content split_is
          ∙ some_of _ _ r.answer

      after : HubsHave way (key_of ask) i place (put_at (slice_get hubs i) i (transacted ask out stuff) hubs) (told s)
      after =
          own_hub way (key_of ask) (transacted ask out stuff) i place hubs at.content s (told s) has at.there
          (λ own. subst (λ (h : HubContent). HasAt way (key_of ask) place h.translators.all (told s))
          (sym (complete_after hub port ask out stuff at.content split_is)) r.has)

      same : HubsHave way (key_of ask) i place (put_at (slice_get hubs i) i (λ h. h) hubs) s
      same = own_hub way (key_of ask) (λ h. h) i place hubs at.content s s has at.there (λ own. own)

      told_it : CompletesIn (translator_answer (slice_get hubs i) ask) (put_at (slice_get hubs i) i (transacted ask out stuff) hubs)
      told_it = subst (λ (x : Reply). CompletesIn x (put_at (slice_get hubs i) i (transacted ask out stuff) hubs)) (sym answer_is)
          (record { slot = told s; keeps = after; step = complete_heard })

      silent : CompletesIn Silent (put_at (slice_get hubs i) i (transacted ask out stuff) hubs)
      silent = record { slot = told s; keeps = after; step = complete_unheard }

      by : (row : WhoHeard)
          → CompletesIn (asker_hears row (translator_answer (slice_get hubs i) ask))
          (changed_at i (translator_after row ask out stuff) hubs)
      by Rows.SentUnheard = record { slot = s; keeps = same; step = complete_lost }
      by Rows.NoAnswer = silent
      by Rows.AnswerUnheard = silent
      by Rows.AnswerHeard = told_it
      by Rows.AckUnheard = told_it
      by Rows.AckHeard = told_it

-- ---- a split of another key

module _ (way : Way) (k : Key) (ask : Ask) (out : List ℕ) (kind : way_of k.kind ≡ Some way)
    (apart : is_same_key (key_of ask) k ≡ false) where
  same_spares : Spares way k (λ h. h)
  same_spares = record { nones = λ h none. none; slots = λ h place s has. record { slot = s; has = has; step = stays } }

  start_spares : (hub port : ℕ) (part : DataPart) (stuff : ℕ) → ask.split ≡ Start hub port part → Spares way k (transacted ask out stuff)
  start_spares hub port part stuff is = record {
    nones = λ h none.
        subst (λ (x : HubContent). HaveNone way k x.translators.all) (sym (start_after hub port part ask out stuff h is))
        (none_started way k ask out stuff h.translators kind apart none);
    slots = λ h place s has.
        subst (λ (x : HubContent). LeavesOther way k place s x.translators.all) (sym (start_after hub port part ask out stuff h is))
        (hub_start_by_key.other way k ask out stuff place h.translators s kind apart has);
  }

  complete_spares : (hub port : ℕ) (stuff : ℕ) → ask.split ≡ Complete hub port → Spares way k (transacted ask out stuff)
  complete_spares hub port stuff is = record {
    nones = λ h none.
        subst (λ (x : HubContent). HaveNone way k x.translators.all) (sym (complete_after hub port ask out stuff h is))
        (none_completed way k ask h.translators kind apart none);
    slots = λ h place s has.
        subst (λ (x : HubContent). LeavesOther way k place s x.translators.all) (sym (complete_after hub port ask out stuff h is))
        (record { slot = s; has = hub_complete_by_key.other way k ask place h.translators s kind apart has; step = stays });
  }

  row_spares : (stuff : ℕ) → Spares way k (transacted ask out stuff) → (row : WhoHeard) → Spares way k (translator_after row ask out stuff)
  row_spares stuff spares Rows.SentUnheard = same_spares
  row_spares stuff spares Rows.NoAnswer = spares
  row_spares stuff spares Rows.AnswerUnheard = spares
  row_spares stuff spares Rows.AnswerHeard = spares
  row_spares stuff spares Rows.AckUnheard = spares
  row_spares stuff spares Rows.AckHeard = spares

  -- whichever hub hears it
  who_spares : (b : Bus) (row : WhoHeard) (i place : ℕ) (s : KeySlot) (stuff : ℕ) (o : Option ℕ)
      → ((stuff : ℕ) → Spares way k (transacted ask out stuff))
      → HubsHave way k i place b.hubs s
      → IsSpared way k i place s
      (changed_by row (option_map_or (λ (j : ℕ). Answerers.Translator j stuff) o Answerers.Nobody) ask out b).hubs
  who_spares b row i place s stuff None spares has = record { slot = s; has = has; step = stays }
  who_spares b row i place s stuff (Some j) spares has =
      other_hub way k (translator_after row ask out stuff) j i place b.hubs s (row_spares stuff (spares stuff) row) has

  record HasWho (b : Bus) (e : Asked) : Type 0 where
    stuff : ℕ
    place : Option ℕ
    is : e.who ≡ option_map_or (λ (j : ℕ). Answerers.Translator j stuff) place Answerers.Nobody

  asked_spares : (fixed : Fixed) (b : Bus) (i place : ℕ) (s : KeySlot) (o : Option Asked) → ((e : Asked) → o ≡ Some e → HasWho b e)
      → ((stuff : ℕ) → Spares way k (transacted ask out stuff)) → HubsHave way k i place b.hubs s
      → IsSpared way k i place s (after_at fixed b ask out o).hubs
  asked_spares fixed b i place s None who spares has = record { slot = s; has = has; step = stays }
  asked_spares fixed b i place s (Some e) who spares has =
      let h = who e refl in
      subst (λ (x : Answerer). IsSpared way k i place s (changed_by (bus_row fixed b e ask out) x ask out b).hubs) (sym h.is)
      (who_spares b (bus_row fixed b e ask out) i place s h.stuff h.place spares has)

-- ---- who hears a split

start_who : (fixed : Fixed) (b : Bus) (ask : Ask) (hub port : ℕ) (part : DataPart) (e : Asked) → ask.split ≡ Start hub port part
    → asked_of fixed b ask ≡ Some e
    → (stuff : ℕ) × (e.who ≡ hears_split b.hubs hub stuff)
start_who fixed b ask hub port part e is asked =
    let k = who_place fixed b ask.split (place_for fixed.seats ask.addr ask.ep (token_kind ask.pid)) e asked in
    (stuff_of k.owner, k.is ∙ ap (λ (split : Split). hears b split k.owner) is)

pub complete_who : (fixed : Fixed) (b : Bus) (ask : Ask) (hub port : ℕ) (e : Asked) → ask.split ≡ Complete hub port
    → asked_of fixed b ask ≡ Some e
    → (stuff : ℕ) × (e.who ≡ hears_split b.hubs hub stuff)
complete_who fixed b ask hub port e is asked =
    let k = who_place fixed b ask.split (place_for fixed.seats ask.addr ask.ep (token_kind ask.pid)) e asked in
    (stuff_of k.owner, k.is ∙ ap (λ (split : Split). hears b split k.owner) is)

translator_is : (hubs : List HubContent) (hub stuff i : ℕ) → position (λ h. h.address == hub) hubs ≡ Some i
    → hears_split hubs hub stuff ≡ Answerers.Translator i stuff
translator_is hubs hub stuff i found =
    ap (λ (o : Option ℕ). option_map_or (λ (place : ℕ). Answerers.Translator place stuff) o Answerers.Nobody) found

-- ---- the law

starts_by : (way : Way) (i place hub port : ℕ) (part : DataPart) (fixed : Fixed) (b : Bus) (ask : Ask) (out : List ℕ) (s : KeySlot)
    (split_is : ask.split ≡ Start hub port part)
    (kind : way_of ask.kind ≡ Some way) (at : IsAtHub b.hubs hub port i place) (has : HubsHave way (key_of ask) i place b.hubs s)
    (o : Option Asked) → asked_of fixed b ask ≡ o
    → StartsIn way i place hub port part ask out s b.hubs split_is kind at has (reply_at fixed b ask out o)
    (after_at fixed b ask out o).hubs
starts_by way i place hub port part fixed b ask out s split_is kind at has None asked =
    record { stuff = 0; slot = s; keeps = has; step = start_lost }
starts_by way i place hub port part fixed b ask out s split_is kind at has (Some e) asked =
    let w = start_who fixed b ask hub port part e split_is asked in
    let who : e.who ≡ Answerers.Translator i w.0 = w.1 ∙ translator_is b.hubs hub w.0 i at.found in
    let row : WhoHeard = bus_row fixed b e ask out in
    subst (λ (x : Answerer). StartsIn way i place hub port part ask out s b.hubs split_is kind at has
    (asker_hears row (answer_by b x ask out)) (changed_by row x ask out b).hubs) (sym who)
    (start_row way i place hub port part ask out s b.hubs split_is kind at has w.0 row)

completes_by : (way : Way) (i place hub port : ℕ) (fixed : Fixed) (b : Bus) (ask : Ask) (out : List ℕ) (s : KeySlot)
    (split_is : ask.split ≡ Complete hub port)
    (kind : way_of ask.kind ≡ Some way) (at : IsAtHub b.hubs hub port i place) (has : HubsHave way (key_of ask) i place b.hubs s)
    (o : Option Asked) → asked_of fixed b ask ≡ o
    → CompletesIn way i place hub port ask out s b.hubs split_is kind at has (reply_at fixed b ask out o) (after_at fixed b ask out o).hubs
completes_by way i place hub port fixed b ask out s split_is kind at has None asked = record { slot = s; keeps = has; step = complete_lost }
completes_by way i place hub port fixed b ask out s split_is kind at has (Some e) asked =
    let w = complete_who fixed b ask hub port e split_is asked in
    let who : e.who ≡ Answerers.Translator i w.0 = w.1 ∙ translator_is b.hubs hub w.0 i at.found in
    let row : WhoHeard = bus_row fixed b e ask out in
    subst (λ (x : Answerer). CompletesIn way i place hub port ask out s b.hubs split_is kind at has
    (asker_hears row (answer_by b x ask out)) (changed_by row x ask out b).hubs) (sym who)
    (complete_row way i place hub port ask out s b.hubs split_is kind at has w.0 row)

pub starts_law : (way : Way) (i place : ℕ) (hub port : ℕ) (part : DataPart) (w : Wired) (ask : Ask) (out : List ℕ) (reply : Reply)
    (v : Wired) (s : KeySlot)
    → ask.split ≡ Start hub port part → way_of ask.kind ≡ Some way → IsAtHub w.bus.hubs hub port i place
    → HubsHave way (key_of ask) i place w.bus.hubs s
    → transacts_by w ask out reply v → StartsAtHub way i place ask out s reply v
starts_law way i place hub port part w ask out reply v s split_is kind at has made =
    let r = starts_by way i place hub port part w.fixed w.bus ask out s split_is kind at has (asked_of w.fixed w.bus ask) refl in
    subst (λ (x : Wired). StartsAtHub way i place ask out s reply x) (sym made.1)
    (subst (λ (x : Reply). StartsAtHub way i place ask out s x (record w { bus = transact_after w.fixed w.bus ask out })) (sym made.0)
    (record { stuff = r.stuff; slot = r.slot; has = r.keeps; step = r.step }))

pub completes_law : (way : Way) (i place : ℕ) (hub port : ℕ) (w : Wired) (ask : Ask) (out : List ℕ) (reply : Reply) (v : Wired)
    (s : KeySlot)
    → ask.split ≡ Complete hub port → way_of ask.kind ≡ Some way → IsAtHub w.bus.hubs hub port i place
    → HubsHave way (key_of ask) i place w.bus.hubs s
    → transacts_by w ask out reply v → CompletesAtHub way i place ask s reply v
completes_law way i place hub port w ask out reply v s split_is kind at has made =
    let r = completes_by way i place hub port w.fixed w.bus ask out s split_is kind at has (asked_of w.fixed w.bus ask) refl in
    subst (λ (x : Wired). CompletesAtHub way i place ask s reply x) (sym made.1)
    (subst (λ (x : Reply). CompletesAtHub way i place ask s x (record w { bus = transact_after w.fixed w.bus ask out })) (sym made.0)
    (record { slot = r.slot; has = r.keeps; step = r.step }))

pub starts_other_law : (way : Way) (k : Key) (i place : ℕ) (hub port : ℕ) (part : DataPart) (w : Wired) (ask : Ask) (out : List ℕ)
    (reply : Reply) (v : Wired) (s : KeySlot)
    → ask.split ≡ Start hub port part → way_of k.kind ≡ Some way → is_same_key (key_of ask) k ≡ false → HubsHave way k i place w.bus.hubs s
    → transacts_by w ask out reply v → LeavesKey way k i place s v
starts_other_law way k i place hub port part w ask out reply v s split_is kind apart has made =
    let r = asked_spares way k ask out kind apart w.fixed w.bus i place s (asked_of w.fixed w.bus ask)
    (λ e asked. let z = start_who w.fixed w.bus ask hub port part e split_is asked in record
    { stuff = z.0; place = position (λ h. h.address == hub) w.bus.hubs; is = z.1 })
    (λ stuff. start_spares way k ask out kind apart hub port part stuff split_is) has in
    subst (λ (x : Wired). LeavesKey way k i place s x) (sym made.1) (record { slot = r.slot; has = r.has; step = r.step })
