-- What each event of a bus leaves of the words of its translators, and what the host hears of them (USB 2.0, 11.18 to 11.21).
--     BeginsKeepWords, AsksKeepWords     they are told as words after each begin of a microframe, and after each transaction
--     CompletesAreAnswered               a complete-split of an interrupt endpoint that a translator can hear is answered by a word, unless
--                                        a packet of the transaction is lost or damaged
--     BeginsKeepTranslators, AsksKeepTranslators     a hub keeps its translators
use Rattle.std.specs.Prelude.{◌≡◌, ℕ, false, true, List}
use Rattle.usb_base.specs.declared.packets.Ask.{Ask}
use Rattle.usb_base.specs.declared.packets.EpKind.TheVariants.{Interrupt}
use Rattle.bus_wire.specs.Bus.{Bus, Fixed, begin_after, transact_after, reply_of}
use Rattle.law_microframes.specs.due.repeats.Hearing.{HasTranslator, CanBeHeard}
use Rattle.claims_world.specs.Losses.{is_lost}
use Rattle.law_microframes.specs.time.Repeats.{is_split_word}
use Rattle.law_microframes.specs.due.repeats.Words.{inward_of, BusSaysWords}

abbrev pub BeginsKeepWords : Type 0
BeginsKeepWords = (fixed : Fixed) → (frindex : ℕ) → (b : Bus) → BusSaysWords fixed b → BusSaysWords fixed (begin_after fixed frindex b)

abbrev pub AsksKeepWords : Type 0
AsksKeepWords = (fixed : Fixed) → (b : Bus) → (ask : Ask) → (out : List ℕ) → BusSaysWords fixed b
    → BusSaysWords fixed (transact_after fixed b ask out)

abbrev pub CompletesAreAnswered : Type 0
CompletesAreAnswered = (fixed : Fixed) → (b : Bus) → (ask : Ask) → (out : List ℕ) → CanBeHeard fixed b ask → BusSaysWords fixed b
    → ask.kind ≡ Interrupt
    → is_lost fixed b ask out ≡ false → is_split_word (inward_of ask.pid) (reply_of fixed b ask out) ≡ true

abbrev pub BeginsKeepTranslators : Type 0
BeginsKeepTranslators = (fixed : Fixed) → (frindex : ℕ) → (b : Bus) → (hub : ℕ) → (port : ℕ) → HasTranslator b.hubs hub port
    → HasTranslator (begin_after fixed frindex b).hubs hub port

abbrev pub AsksKeepTranslators : Type 0
AsksKeepTranslators = (fixed : Fixed) → (b : Bus) → (ask : Ask) → (out : List ℕ) → (hub : ℕ) → (port : ℕ) → HasTranslator b.hubs hub port
    → HasTranslator (transact_after fixed b ask out).hubs hub port
