-- The hubs of a bus keep their addresses and their translators, and its endpoints their numbers.
use Rattle.std.proofs.Common.{◌≡◌, ℕ, zero, suc, ◌+◌, Bool, true, false, cond, nat_lt, List, [], ◌∷◌, length, slice_get, slice_set, Option, Some, None, refl, sym, ap, subst, ◌∙◌, inl, inr}
use Rattle.std.specs.Prelude.{◌==◌, if◌then◌else◌}
use Rattle.std.specs.List.{position, position_or_len}
use Rattle.std.specs.Option.{option_and_then}
use Rattle.std.proofs.lemmas.Bool.{cases_Bool}
use Rattle.std.proofs.lemmas.List.{length-set}
use Rattle.usb_base.specs.declared.packets.Ask.{Ask}
use Rattle.usb_base.specs.declared.packets.Split.{Split}
use Rattle.usb_base.specs.declared.packets.Split.TheVariants as splits
use Rattle.hub_ports.specs.declared.rows.HubRequest.{HubRequest}
use Rattle.hub_ports.specs.declared.rows.HubRequest.TheVariants as requests
use Rattle.multi_tt.specs.Translators.{Translator, opening, place_of, put_if, changed_place, changed_at}
use Rattle.multi_tt.specs.Single.{started, completed, cleared}
use Rattle.multi_tt.specs.Calls.{port_of}
use Rattle.hub_class.specs.HubContent.{HubContent}
use Rattle.hub_class.specs.EndpointZero.{suits, acts_on, row_at, acted_with, reply_under, hub_answered_at, hub_answered, hub_acked}
use Rattle.hub_class.specs.Requesting.{request_at, effect, effect_if}
use Rattle.hub_class.specs.Translating.{after_split}
use Rattle.hub_class.specs.Microframe.{wire_of_translator, translators_worked}
use Rattle.dev_control.specs.Stages.{stages_after, stages_acked}
use Rattle.bus_wire.specs.declared.asked.Answerer.{Answerer}
use Rattle.bus_wire.specs.declared.asked.Answerer.TheVariants as Answerers
use Rattle.bus_wire.specs.declared.asked.Asked.{Asked}
use Rattle.bus_wire.specs.declared.who_heard.WhoHeard.{WhoHeard}
use Rattle.bus_wire.specs.declared.who_heard.WhoHeard.TheVariants as heard
use Rattle.bus_wire.specs.Asking.{hub_after, translator_after, packet_after, put_at, changed_at as changed_in}
use Rattle.bus_wire.specs.Below.{Floor, Below, below_at, below_reply, below_after, floor_left, hubs_worked}
use Rattle.bus_wire.specs.Bus.{Bus, Fixed, floor_of, begin_after, asked_of, bus_row, changed_by, after_at, transact_after}
use Rattle.law_microframes.specs.due.repeats.Hearing.{HasTranslator, HasNumber}

pub record IsAlike (h k : HubContent) : Type 0 where
  pub address : k.address ≡ h.address
  pub multi : k.translators.multi ≡ h.translators.multi
  pub count : length k.translators.all ≡ length h.translators.all

abbrev pub AreAlike : List HubContent → List HubContent → Type 0
AreAlike [] [] = Unit {0}
AreAlike [] (k ∷ ks) = ⊥
AreAlike (h ∷ hs) [] = ⊥
AreAlike (h ∷ hs) (k ∷ ks) = IsAlike h k × AreAlike hs ks

alike_itself : (h : HubContent) → IsAlike h h
alike_itself h = record { address = refl; multi = refl; count = refl }

alike_then : (h k l : HubContent) → IsAlike h k → IsAlike k l → IsAlike h l
alike_then h k l a b = record { address = b.address ∙ a.address; multi = b.multi ∙ a.multi; count = b.count ∙ a.count }

all_itself : (hs : List HubContent) → AreAlike hs hs
all_itself [] = tt
all_itself (h ∷ hs) = (alike_itself h, all_itself hs)

set_alike : (hs : List HubContent) (i : ℕ) (h k : HubContent) → slice_get hs i ≡ Some h → IsAlike h k → AreAlike hs (slice_set hs i k)
set_alike [] zero h k here a = absurd cc
set_alike [] (suc i) h k here a = absurd cc
set_alike (x ∷ xs) zero h k here a = (subst (λ (o : Option HubContent). Told o k) (sym here) a, all_itself xs)
  where
    Told : Option HubContent → HubContent → Type 0
    Told None k = Unit {0}
    Told (Some y) k = IsAlike y k
set_alike (x ∷ xs) (suc i) h k here a = (alike_itself x, set_alike xs i h k here a)

changed_alike : (hs : List HubContent) (place : ℕ) (f : HubContent → HubContent) → ((h : HubContent) → IsAlike h (f h))
    → AreAlike hs (changed_in place f hs)
changed_alike hs place f keeps = by (slice_get hs place) refl
  where
    by : (o : Option HubContent) → slice_get hs place ≡ o → AreAlike hs (put_at o place f hs)
    by None here = all_itself hs
    by (Some h) here = set_alike hs place h (f h) here (keeps h)

-- ---- one hub

place_count : (o : Option ℕ) (f : Translator → Translator) (ts : List Translator) → length (changed_place o f ts) ≡ length ts
place_count None f ts = refl
place_count (Some place) f ts = by (slice_get ts place)
  where
    by : (o : Option Translator) → length (put_if o place f ts) ≡ length ts
    by None = refl
    by (Some t) = length-set ts place (f t)

translator_alike : (port : ℕ) (f : Translator → Translator) (h : HubContent)
    → IsAlike h (record h { translators = changed_at port f h.translators })
translator_alike port f h =
    record { address = refl; multi = refl; count = place_count (place_of h.translators.multi port) f h.translators.all }

split_alike : (split : Split) (ask : Ask) (out : List ℕ) (stuff : ℕ) (h : HubContent) → IsAlike h (after_split split ask out stuff h)
split_alike splits.Plain ask out stuff h = alike_itself h
split_alike (splits.Start hub port part) ask out stuff h = translator_alike (port_of ask.split) (started ask out stuff) h
split_alike (splits.Complete hub port) ask out stuff h = translator_alike (port_of ask.split) (completed ask) h

translated_alike : (row : WhoHeard) (ask : Ask) (out : List ℕ) (stuff : ℕ) (h : HubContent)
    → IsAlike h (translator_after row ask out stuff h)
translated_alike heard.SentUnheard ask out stuff h = alike_itself h
translated_alike _ ask out stuff h = split_alike ask.split ask out stuff h

effect_alike : (request : HubRequest) (h : HubContent) → IsAlike h (effect request h)
effect_alike requests.HubStatus h = alike_itself h
effect_alike (requests.PortStatus port) h = alike_itself h
effect_alike (requests.ChangePort port change) h = record { address = refl; multi = refl; count = refl }
effect_alike (requests.ClearBuffer port key) h = translator_alike port (cleared key) h
effect_alike (requests.ResetTranslator port) h = translator_alike port (λ t. opening) h

effect_if_alike : (o : Option HubRequest) (h : HubContent) → IsAlike h (effect_if o h)
effect_if_alike None h = alike_itself h
effect_if_alike (Some request) h = effect_alike request h

acted_alike : (o : Option (List ℕ)) (h : HubContent) → IsAlike h (acted_with o h)
acted_alike None h = alike_itself h
acted_alike (Some setup) h = effect_if_alike (request_at setup h) h

answered_alike : (ask : Ask) (out : List ℕ) (h : HubContent) → IsAlike h (hub_answered ask out h)
answered_alike ask out h = by (suits ask h)
  where
    by : (is : Bool) → IsAlike h (if is then hub_answered_at ask out h else h)
    by true =
        let mid : HubContent = record h { control = stages_after (reply_under h) h.control ask out } in
        alike_then h mid _ (record { address = refl; multi = refl; count = refl })
        (acted_alike (acts_on (row_at ask out h) h.control.request) mid)
    by false = alike_itself h

acked_alike : (ask : Ask) (h : HubContent) → IsAlike h (hub_acked ask h)
acked_alike ask h = by (suits ask h)
  where
    by : (is : Bool) → IsAlike h (if is then record h { control = stages_acked (reply_under h) h.control } else h)
    by true = record { address = refl; multi = refl; count = refl }
    by false = alike_itself h

hub_alike : (row : WhoHeard) (ask : Ask) (out : List ℕ) (h : HubContent) → IsAlike h (hub_after row ask out h)
hub_alike heard.SentUnheard ask out h = alike_itself h
hub_alike heard.AckHeard ask out h =
    alike_then h (hub_answered ask out h) _ (answered_alike ask out h) (acked_alike ask (hub_answered ask out h))
hub_alike _ ask out h = answered_alike ask out h

worked_count : (frindex : ℕ) (ts : List Translator) (w : Below)
    → length (translators_worked below_reply below_after frindex ts w) ≡ length ts
worked_count frindex [] w = refl
worked_count frindex (t ∷ ts) w = ap suc (worked_count frindex ts (wire_of_translator below_reply below_after t w))

pub worked_alike : (fixed : Fixed) (frindex : ℕ) (hs : List HubContent) (floor : Floor) → AreAlike hs (hubs_worked fixed frindex hs floor)
worked_alike fixed frindex [] floor = tt
worked_alike fixed frindex (h ∷ hs) floor = (
  record { address = refl; multi = refl; count = worked_count frindex h.translators.all (below_at fixed h floor) },
  worked_alike fixed
      frindex hs (floor_left fixed h floor),
)

-- ---- a bus

changed_by_alike : (row : WhoHeard) (who : Answerer) (ask : Ask) (out : List ℕ) (b : Bus)
    → AreAlike b.hubs (changed_by row who ask out b).hubs
changed_by_alike row (Answerers.Device place) ask out b = all_itself b.hubs
changed_by_alike row (Answerers.Hub place) ask out b = changed_alike b.hubs place (hub_after row ask out) (λ h. hub_alike row ask out h)
changed_by_alike row (Answerers.Translator place stuff) ask out b =
    changed_alike b.hubs place (translator_after row ask out stuff) (λ h. translated_alike row ask out stuff h)
changed_by_alike row Answerers.Nobody ask out b = all_itself b.hubs

pub asks_alike_at : (fixed : Fixed) (b : Bus) (ask : Ask) (out : List ℕ) (o : Option Asked)
    → AreAlike b.hubs (after_at fixed b ask out o).hubs
asks_alike_at fixed b ask out None = all_itself b.hubs
asks_alike_at fixed b ask out (Some e) = changed_by_alike (bus_row fixed b e ask out) e.who ask out b

changed_high : (row : WhoHeard) (who : Answerer) (ask : Ask) (out : List ℕ) (b : Bus) → (changed_by row who ask out b).high ≡ b.high
changed_high row (Answerers.Device place) ask out b = refl
changed_high row (Answerers.Hub place) ask out b = refl
changed_high row (Answerers.Translator place stuff) ask out b = refl
changed_high row Answerers.Nobody ask out b = refl

-- ---- what that says

same_at : {A : Type 0} (xs ys : List A) (i : ℕ) (x : A) → length ys ≡ length xs → slice_get xs i ≡ Some x
    → (y : A) × (slice_get ys i ≡ Some y)
same_at [] ys i x long here = absurd cc
same_at (z ∷ zs) [] i x long here = absurd cc
same_at (z ∷ zs) (y ∷ ys) zero x long here = (y, refl)
same_at (z ∷ zs) (y ∷ ys) (suc i) x long here = same_at zs ys i x (less long) here
  where
    less : {m n : ℕ} → suc m ≡ suc n → m ≡ n
    less e = cc

pub at_alike : (hs ks : List HubContent) (i : ℕ) (h : HubContent) → AreAlike hs ks → slice_get hs i ≡ Some h
    → (k : HubContent) × (slice_get ks i ≡ Some k) × IsAlike h k
at_alike [] [] i h all here = absurd cc
at_alike [] (k ∷ ks) i h all here = absurd all
at_alike (x ∷ xs) [] i h all here = absurd all
at_alike (x ∷ xs) (y ∷ ys) zero h all here = (y, refl, subst (λ (o : Option HubContent). Told o y) here all.0)
  where
    Told : Option HubContent → HubContent → Type 0
    Told None k = Unit {0}
    Told (Some z) k = IsAlike z k
at_alike (x ∷ xs) (y ∷ ys) (suc i) h all here = at_alike xs ys i h all.1 here

long_alike : (hs ks : List HubContent) → AreAlike hs ks → length ks ≡ length hs
long_alike [] [] all = refl
long_alike [] (k ∷ ks) all = absurd all
long_alike (h ∷ hs) [] all = absurd all
long_alike (h ∷ hs) (k ∷ ks) all = ap suc (long_alike hs ks all.1)

first_alike : (hub : ℕ) (hs ks : List HubContent) → AreAlike hs ks
    → position_or_len (λ h. h.address == hub) ks ≡ position_or_len (λ h. h.address == hub) hs
first_alike hub [] [] all = refl
first_alike hub [] (k ∷ ks) all = absurd all
first_alike hub (h ∷ hs) [] all = absurd all
first_alike hub (h ∷ hs) (k ∷ ks) all =
    elim (cases_Bool (h.address == hub)) [
      | inl on ↦ let there : (k.address == hub) ≡ true = ap (λ (a : ℕ). a == hub) all.0.address ∙ on in rw (on, there) refl
      | inr off ↦ let there : (k.address == hub) ≡ false =
          ap (λ (a : ℕ). a == hub) all.0.address ∙ off in rw (off, there) (ap (λ (n : ℕ). 1 + n) (first_alike hub hs ks all.1))
    ]

pub found_alike : (hub : ℕ) (hs ks : List HubContent) → AreAlike hs ks
    → position (λ h. h.address == hub) ks ≡ position (λ h. h.address == hub) hs
found_alike hub hs ks all =
    ap (λ (n : ℕ). cond (nat_lt n (length ks)) (Some n) None) (first_alike hub hs ks all)
    ∙ ap (λ (n : ℕ). cond (nat_lt (position_or_len (λ h. h.address == hub) hs) n) (Some (position_or_len (λ h. h.address == hub) hs))
    None) (long_alike hs ks all)

serves_by : (o : Option ℕ) (xs ys : List Translator) (t : Translator) → length ys ≡ length xs
    → option_and_then (λ place. slice_get xs place) o ≡ Some t
    → (u : Translator) × (option_and_then (λ place. slice_get ys place) o ≡ Some u)
serves_by None xs ys t long is = absurd cc
serves_by (Some place) xs ys t long is = same_at xs ys place t long is

pub keeps_translator : (hs ks : List HubContent) (hub port : ℕ) → AreAlike hs ks → HasTranslator hs hub port → HasTranslator ks hub port
keeps_translator hs ks hub port all h =
    let k = at_alike hs ks h.place h.content all h.here in
    let u = serves_by (place_of h.content.translators.multi port) h.content.translators.all k.0.translators.all h.translator k.2.count
    h.serves in
    record {
      place = h.place;
      found = found_alike hub hs ks all ∙ h.found;
      content = k.0;
      here = k.1;
      translator = u.0;
      serves = ap (λ (m : Bool). option_and_then (λ place. slice_get k.0.translators.all place) (place_of m port)) k.2.multi ∙ u.1;
    }

keeps_multi : (hs ks : List HubContent) (hub port : ℕ) (all : AreAlike hs ks) (h : HasTranslator hs hub port)
    → (keeps_translator hs ks hub port all h).content.translators.multi ≡ h.content.translators.multi
unfolding keeps_translator
keeps_multi hs ks hub port all h = (at_alike hs ks h.place h.content all h.here).2.multi

pub begins_keep_translators : (fixed : Fixed) (frindex : ℕ) (b : Bus) (hub port : ℕ) → HasTranslator b.hubs hub port
    → HasTranslator (begin_after fixed frindex b).hubs hub port
begins_keep_translators fixed frindex b hub port h = keeps_translator b.hubs _ hub port (worked_alike fixed frindex b.hubs (floor_of b)) h

pub asks_keep_translators : (fixed : Fixed) (b : Bus) (ask : Ask) (out : List ℕ) (hub port : ℕ) → HasTranslator b.hubs hub port
    → HasTranslator (transact_after fixed b ask out).hubs hub port
asks_keep_translators fixed b ask out hub port h =
    keeps_translator b.hubs _ hub port (asks_alike_at fixed b ask out (asked_of fixed b ask)) h

pub begins_keep_multi : (fixed : Fixed) (frindex : ℕ) (b : Bus) (hub port : ℕ) (h : HasTranslator b.hubs hub port)
    → (begins_keep_translators fixed frindex b hub port h).content.translators.multi ≡ h.content.translators.multi
unfolding begins_keep_translators
begins_keep_multi fixed frindex b hub port h = keeps_multi b.hubs _ hub port (worked_alike fixed frindex b.hubs (floor_of b)) h

pub asks_keep_multi : (fixed : Fixed) (b : Bus) (ask : Ask) (out : List ℕ) (hub port : ℕ) (h : HasTranslator b.hubs hub port)
    → (asks_keep_translators fixed b ask out hub port h).content.translators.multi ≡ h.content.translators.multi
unfolding asks_keep_translators
asks_keep_multi fixed b ask out hub port h =
    keeps_multi b.hubs _ hub port (asks_alike_at fixed b ask out (asked_of fixed b ask)) h

number_at : (fixed : Fixed) (b : Bus) (ask : Ask) (out : List ℕ) (place : ℕ) (o : Option Asked) → HasNumber b place
    → HasNumber (after_at fixed b ask out o) place
number_at fixed b ask out place None h = h
number_at fixed b ask out place (Some e) h =
    let s = same_at b.high (slice_set b.high e.place (packet_after (bus_row fixed b e ask out) e ask)) place h.number
    (length-set b.high e.place (packet_after (bus_row fixed b e ask out) e ask)) h.is in
    record { number = s.0; is = s.1 }

pub asks_keep_number : (fixed : Fixed) (b : Bus) (ask : Ask) (out : List ℕ) (place : ℕ) → HasNumber b place
    → HasNumber (transact_after fixed b ask out) place
asks_keep_number fixed b ask out place h = number_at fixed b ask out place (asked_of fixed b ask) h
