-- A complete-split of an interrupt endpoint that a translator can hear is answered by a word, unless a packet is lost.
use Rattle.std.proofs.Common.{◌≡◌, ℕ, Bool, true, false, List, slice_get, Option, Some, None, refl, sym, ap, subst, ◌∙◌}
use Rattle.std.specs.Option.{option_map, option_map_or, option_and_then}
use Rattle.std.proofs.lemmas.Bool.{false≢true, true≢false}
use Rattle.usb_base.specs.Acknowledgement.{acknowledges}
use Rattle.usb_base.specs.declared.packets.Ask.{Ask}
use Rattle.usb_base.specs.declared.packets.EpKind.{EpKind}
use Rattle.usb_base.specs.declared.packets.EpKind.TheVariants.{Interrupt}
use Rattle.usb_base.specs.declared.packets.Reply.{Reply}
use Rattle.usb_base.specs.declared.packets.Reply.TheVariants.{Silent, Bytes, Hand}
use Rattle.usb_base.specs.declared.packets.Split.{Split}
use Rattle.usb_base.specs.declared.packets.Split.TheVariants.{Complete}
use Rattle.hub_keys.specs.Keys.{key_of}
use Rattle.tt_pipeline.specs.Answers as Piped
use Rattle.multi_tt.specs.Translators.{Translator, Translators, place_of, translator_at}
use Rattle.multi_tt.specs.Single.{is_buffered, complete_answer_by, complete_answer}
use Rattle.multi_tt.specs.Calls.{port_of}
use Rattle.hub_class.specs.HubContent.{HubContent}
use Rattle.hub_class.specs.Translating.{split_reply, transact_reply}
use Rattle.bus_wire.specs.declared.asked.Answerer.{Answerer}
use Rattle.bus_wire.specs.declared.asked.Answerer.TheVariants as Answerers
use Rattle.bus_wire.specs.declared.asked.Asked.{Asked}
use Rattle.bus_wire.specs.declared.asked.Losses.{Losses}
use Rattle.bus_wire.specs.declared.seats.Seat.{Seat}
use Rattle.bus_wire.specs.WhoHeard.{who_heard, packets_before, asker_hears, is_answer}
use Rattle.bus_wire.specs.Asking.{losses_of, translator_answer}
use Rattle.bus_wire.specs.Bus.{Bus, Fixed, stuff_of, hears, asked_at, asked_of, reply_at, reply_of}
use Rattle.law_microframes.specs.due.repeats.Hearing.{CanBeHeard}
use Rattle.claims_world.specs.Losses.{has_loss, is_lost_at, is_lost}
use Rattle.law_microframes.specs.time.Repeats.{is_split_word}
use Rattle.law_microframes.specs.due.repeats.Words.{inward_of, TranslatorSaysWords, HubSaysWords, BusSaysWords}
use Rattle.law_microframes.proofs.lemmas.due.lemmas.repeats.Lists.{all_get}
use Rattle.law_microframes.proofs.lemmas.due.lemmas.repeats.PipelineWords.{completes_word}

-- ---- who heard what

answers : (inward : Bool) (reply : Reply) → is_split_word inward reply ≡ true → is_answer reply ≡ true
answers inward Silent word = absurd (false≢true word)
answers inward (Bytes pid bytes) word = refl
answers inward (Hand pid) word = refl

heard_word : (sent unheard acked lost inward : Bool) (answer : Reply) → is_split_word inward answer ≡ true
    → has_loss (who_heard sent true unheard acked lost) ≡ false
    → is_split_word inward (asker_hears (who_heard sent true unheard acked lost) answer) ≡ true
heard_word true unheard acked lost inward answer word none = absurd (true≢false none)
heard_word false true acked lost inward answer word none = absurd (true≢false none)
heard_word false false true true inward answer word none = word
heard_word false false true false inward answer word none = word
heard_word false false false lost inward answer word none = word

row_word : (l : Losses) (ask : Ask) (inward there : Bool) (answer : Reply) → is_answer answer ≡ there → there ≡ true
    → is_split_word inward answer ≡ true
    → has_loss (who_heard l.sent there l.answer (acknowledges ask answer) l.acknowledgement) ≡ false
    → is_split_word inward (asker_hears (who_heard l.sent there l.answer (acknowledges ask answer) l.acknowledgement) answer) ≡ true
row_word l ask inward true answer is on word none =
    heard_word l.sent l.answer (acknowledges ask answer) l.acknowledgement inward answer word none
row_word l ask inward false answer is on word none = absurd (false≢true on)

-- ---- the translator

pub served : (o : Option ℕ) (port : ℕ) (ts : Translators) (t : Translator) → place_of ts.multi port ≡ o
    → option_and_then (λ place. slice_get ts.all place) o ≡ Some t → (place : ℕ) × (slice_get ts.all place ≡ Some t)
served None port ts t is e = absurd cc
served (Some place) port ts t is e = (place, e)

pub answer_is : (ask : Ask) (h : HubContent) (t : Translator) (hub port : ℕ) → ask.split ≡ Complete hub port → ask.kind ≡ Interrupt
    → translator_at port h.translators ≡ Some t
    → transact_reply ask h ≡ Piped.complete_answer (key_of ask) t.pipeline
answer_is ask h t hub port split kind serves =
    ap (λ (s : Split). split_reply s ask h) split
    ∙ ap (λ (s : Split). option_map_or (complete_answer ask) (translator_at (port_of s) h.translators) Silent) split
    ∙ ap (λ (o : Option Translator). option_map_or (complete_answer ask) o Silent) serves
    ∙ ap (λ (k : EpKind). complete_answer_by (is_buffered k) ask t) kind

translator_word : (ask : Ask) (h : HubContent) (t : Translator) (hub port : ℕ) → ask.split ≡ Complete hub port → ask.kind ≡ Interrupt
    → translator_at port h.translators ≡ Some t → HubSaysWords h
    → is_split_word (inward_of ask.pid) (transact_reply ask h) ≡ true
translator_word ask h t hub port split kind serves says =
    let s = served (place_of h.translators.multi port) port h.translators t refl serves in
    subst (λ (r : Reply). is_split_word (inward_of ask.pid) r ≡ true) (sym (answer_is ask h t hub port split kind serves))
    (completes_word ask t.pipeline kind (all_get TranslatorSaysWords h.translators.all s.0 t says s.1))

-- ---- the bus

module _ (fixed : Fixed) (b : Bus) (ask : Ask) (out : List ℕ) (can : CanBeHeard fixed b ask) where
  abbrev pub who : Answerer
  who = Answerers.Translator can.translator.place (stuff_of can.seat.owner)

  abbrev pub asked : Asked
  asked = record { place = can.place; name = can.seat.name; packet = can.number.number; who = who }

  hears_is : hears b ask.split can.seat.owner ≡ who
  hears_is =
      ap (λ (s : Split). hears b s can.seat.owner) can.split
      ∙ ap (λ (o : Option ℕ). option_map_or (λ place. Answerers.Translator place (stuff_of can.seat.owner)) o Answerers.Nobody)
      can.translator.found

  abbrev with_who : Answerer → Option Asked
  with_who a = Some (record { place = can.place; name = can.seat.name; packet = can.number.number; who = a })

  pub asked_is : asked_of fixed b ask ≡ Some asked
  asked_is =
      ap (λ (o : Option ℕ). option_and_then (asked_at fixed b ask.split) o) can.found
      ∙ ap (λ (o : Option Seat). option_and_then (λ seat. option_map (λ packet. record
      { place = can.place; name = seat.name; packet = packet; who = hears b ask.split seat.owner }) (slice_get b.high
      can.place)) o) can.there
      ∙ ap (λ (o : Option ℕ). option_map (λ packet. record {
        place = can.place;
        name = can.seat.name;
        packet = packet;
        who = hears b
            ask.split can.seat.owner;
      }) o) can.number.is
      ∙ ap with_who hears_is

  abbrev answer : Reply
  answer = translator_answer (slice_get b.hubs can.translator.place) ask

  answer_word : BusSaysWords fixed b → ask.kind ≡ Interrupt → is_split_word (inward_of ask.pid) answer ≡ true
  answer_word says kind =
      subst (λ (o : Option HubContent). is_split_word (inward_of ask.pid) (translator_answer o ask) ≡ true) (sym can.translator.here)
      (translator_word ask can.translator.content can.translator.translator can.hub can.port can.split kind can.translator.serves
      (all_get HubSaysWords b.hubs can.translator.place can.translator.content says.hubs can.translator.here))

  -- what the host hears
  pub reply_word : BusSaysWords fixed b → ask.kind ≡ Interrupt → is_lost fixed b ask out ≡ false
      → is_split_word (inward_of ask.pid) (reply_of fixed b ask out) ≡ true
  reply_word says kind none =
      let word = answer_word says kind in
      let none' : is_lost_at fixed b ask out (Some asked) ≡ false = subst (λ (o : Option Asked). is_lost_at fixed b ask out o ≡ false)
      asked_is none in
      subst (λ (o : Option Asked). is_split_word (inward_of ask.pid) (reply_at fixed b ask out o) ≡ true) (sym asked_is)
      (row_word (losses_of fixed.fates false asked (packets_before ask)) ask (inward_of ask.pid) (is_answer answer) answer refl
      (answers (inward_of ask.pid) answer word) word none')
