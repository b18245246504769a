-- After a translator's word no complete-split of an interrupt endpoint is made again at once.
use Rattle.std.proofs.Common.{◌≡◌, ℕ, Bool, true, false, refl, ap, sym, subst, ◌∙◌}
use Rattle.std.specs.Prelude.{◌&&◌, nat_le, [], length, if◌then◌else◌}
use Rattle.std.proofs.lemmas.Bool.{false≢true}
use Rattle.law_common.proofs.Booleans.{and_false}
use Rattle.usb_base.specs.declared.packets.Ask.{Ask}
use Rattle.usb_base.specs.declared.packets.EpKind.{EpKind}
use Rattle.usb_base.specs.declared.packets.EpKind.TheVariants.{Interrupt}
use Rattle.usb_base.specs.declared.packets.Pid.{Pid}
use Rattle.usb_base.specs.declared.packets.Pid.TheVariants as pids
use Rattle.usb_base.specs.declared.packets.Reply.{Reply}
use Rattle.usb_base.specs.declared.packets.Reply.TheVariants.{Silent, Bytes, Hand}
use Rattle.usb_base.specs.declared.packets.Speed.{Speed}
use Rattle.usb_base.specs.declared.packets.Speed.TheVariants as speeds
use Rattle.usb_base.specs.declared.packets.Split.{Split}
use Rattle.usb_base.specs.declared.packets.Split.TheVariants.{Complete}
use Rattle.toggle_error.specs.declared.host.HostSide.{HostSide}
use Rattle.usb_base.specs.declared.endpoints.EndCause.TheVariants.{Error}
use Rattle.toggle_error.specs.declared.host.Outcome.TheVariants.{Halt, Error as Wrong}
use Rattle.toggle_error.specs.declared.rows.AskToken.{AskToken}
use Rattle.toggle_error.specs.declared.rows.AskToken.TheVariants as tokens
use Rattle.toggle_error.specs.declared.rows.Heard.{Heard}
use Rattle.toggle_error.specs.declared.rows.Heard.TheVariants as heards
use Rattle.toggle_error.specs.Columns.{out_token, token_at, limit_of, fitting, heard_data, heard_hand, heard_of}
use Rattle.toggle_error.specs.PlainRows.{plain_row, error_outcome, is_last_error}
use Rattle.toggle_error.specs.SplitRows.{complete_row, complete_outcome, after_complete}
use Rattle.toggle_error.specs.Settle.{row_at, outcome_of_row, after_settle_row}
use Rattle.hc_interrupt.specs.Copies.{failed}
use Rattle.tt_pipeline.specs.declared.entry.Entry.{Entry}
use Rattle.tt_pipeline.specs.declared.entry.Exchange.{Exchange}
use Rattle.tt_pipeline.specs.declared.entry.Exchange.TheVariants.{Ahead, Made}
use Rattle.tt_pipeline.specs.declared.rows.AnswerRow.TheVariants.{NotYet, Result}
use Rattle.tt_pipeline.specs.Answers.{made_row, row_at as entry_row, answer_at, result_at, result_of}
use Rattle.tt_pipeline.specs.Work.{called_for}
use Rattle.law_microframes.specs.time.Repeats.{is_told, is_said, is_split_word, IsSaidBy, IsSaidTo, asked_pid, IsCompleteOf, asks_again, TranslatorsSayWords, WordsEndVisits, SilenceAsksAgain}

-- ---- the translator

told_word : (inward : Bool) (pid : Pid) → is_told inward pid ≡ true → is_split_word inward (Hand pid) ≡ true
told_word inward pids.Nak told = refl
told_word inward pids.Stall told = refl
told_word false pids.Ack told = refl
told_word true pids.Ack told = absurd (false≢true told)
told_word inward pids.Nyet told = refl
told_word inward pids.Err told = refl
told_word inward pids.Out told = told
told_word inward pids.In told = told
told_word inward pids.Sof told = told
told_word inward pids.Setup told = told
told_word inward pids.Data0 told = told
told_word inward pids.Data1 told = told
told_word inward pids.Data2 told = told
told_word inward pids.Mdata told = told
told_word inward pids.Split told = told
told_word inward pids.Ping told = told

-- a silence is told as ERR
result_word : (inward : Bool) (reply : Reply) → is_said inward reply ≡ true → is_split_word inward (result_of reply) ≡ true
result_word inward Silent said = refl
result_word inward (Bytes pid bytes) said = said
result_word inward (Hand pid) said = told_word inward pid said

made_word : (inward : Bool) (e : Entry) (reply : Reply) (there : Bool) → e.exchange ≡ Made reply → is_said inward reply ≡ true
    → is_split_word inward (answer_at (if there then Result else NotYet) e) ≡ true
made_word inward e reply false is said = refl
made_word inward e reply true is said = ap (λ (x : Exchange). is_split_word inward (result_at x)) is ∙ result_word inward reply said

exchange_word : (inward : Bool) (e : Entry) (x : Exchange) → e.exchange ≡ x → e.ask.kind ≡ Interrupt → IsSaidBy inward x
    → is_split_word inward (answer_at (entry_row x e) e) ≡ true
exchange_word inward e (Ahead bytes) is kind said = refl
exchange_word inward e (Made reply) is kind said =
    ap (λ (k : EpKind). is_split_word inward (answer_at (made_row k e.ask.pid reply e) e)) kind
    ∙ made_word inward e reply (nat_le (called_for e) e.done) is said

pub translators_say_words : TranslatorsSayWords
translators_say_words inward e k =
    subst (λ (x : Exchange). is_split_word inward (answer_at (entry_row x e) e) ≡ true) refl
    (exchange_word inward e e.exchange refl k.kind k.said)

-- ---- the host

-- the token of an IN, and of an OUT of an interrupt endpoint
abbrev asked_token : Bool → AskToken
asked_token true = tokens.In
asked_token false = tokens.Out

abbrev Again : Bool → Bool → ℕ → Heard → HostSide → Bool
Again inward last sent heard host =
    failed (complete_outcome (complete_row Interrupt last heard (plain_row (asked_token inward) heard sent)) host)
    && (after_complete (complete_row Interrupt last heard (plain_row (asked_token inward) heard sent)) host).waiting

hand_ends : (inward last : Bool) (sent : ℕ) (pid : Pid) (host : HostSide) → is_split_word inward (Hand pid) ≡ true
    → Again inward last sent (heard_hand pid) host ≡ false
hand_ends inward true sent pids.Nyet host word = and_false (failed (error_outcome host))
hand_ends inward false sent pids.Nyet host word = refl
hand_ends inward true sent pids.Err host word = and_false (failed (error_outcome host))
hand_ends inward false sent pids.Err host word = and_false (failed (error_outcome host))
hand_ends true true sent pids.Nak host word = refl
hand_ends true false sent pids.Nak host word = refl
hand_ends false true sent pids.Nak host word = refl
hand_ends false false sent pids.Nak host word = refl
hand_ends true true sent pids.Stall host word = refl
hand_ends true false sent pids.Stall host word = refl
hand_ends false true sent pids.Stall host word = refl
hand_ends false false sent pids.Stall host word = refl
hand_ends false true sent pids.Ack host word = refl
hand_ends false false sent pids.Ack host word = refl
hand_ends _ _ sent _ host word = absurd (false≢true word)

-- data fit, or are too long; or they came before
fits_end : (last fits : Bool) (sent n : ℕ) (host : HostSide) → Again true last sent (if fits then heards.Fitting n else heards.TooLong) host ≡ false
fits_end true true sent n host = refl
fits_end true false sent n host = refl
fits_end false true sent n host = refl
fits_end false false sent n host = refl

repeat_ends : (last : Bool) (sent : ℕ) (host : HostSide) → Again true last sent heards.Repeat host ≡ false
repeat_ends true sent host = refl
repeat_ends false sent host = refl

data_ends : (last toggle : Bool) (sent n : ℕ) (pid : Pid) (host : HostSide) → is_split_word true (Bytes pid []) ≡ true
    → Again true last sent (heard_data toggle pid (fitting n (limit_of host))) host ≡ false
data_ends last false sent n pids.Data0 host word = fits_end last (nat_le n (limit_of host)) sent n host
data_ends last true sent n pids.Data0 host word = repeat_ends last sent host
data_ends last true sent n pids.Data1 host word = fits_end last (nat_le n (limit_of host)) sent n host
data_ends last false sent n pids.Data1 host word = repeat_ends last sent host
data_ends _ _ sent n _ host word = absurd (false≢true word)

reply_ends : (inward last : Bool) (sent : ℕ) (reply : Reply) (host : HostSide) → is_split_word inward reply ≡ true
    → Again inward last sent (heard_of host reply) host ≡ false
reply_ends inward last sent Silent host word = absurd (false≢true word)
reply_ends inward last sent (Hand pid) host word = hand_ends inward last sent pid host word
reply_ends true last sent (Bytes pid bytes) host word = data_ends last host.toggle sent (length bytes) pid host word
reply_ends false last sent (Bytes pid bytes) host word = absurd (false≢true word)

token_is : (inward : Bool) (speed : Speed) → token_at (asked_pid inward) (out_token speed Interrupt) ≡ asked_token inward
token_is true speed = refl
token_is false speeds.High = refl
token_is false speeds.Full = refl
token_is false speeds.Low = refl

-- the ask is that of a complete-split
module _ (inward : Bool) (ask : Ask) (sent : ℕ) (last : Bool) (reply : Reply) (host : HostSide) (is : IsCompleteOf inward ask) where
  abbrev AgainAs : Split → EpKind → AskToken → Bool
  AgainAs split kind token =
      failed (outcome_of_row (row_at split kind last (heard_of host reply) (plain_row token (heard_of host reply) sent)) host)
      && (after_settle_row (row_at split kind last (heard_of host reply) (plain_row token (heard_of host reply) sent)) host).waiting

  same_again : asks_again ask sent last reply host ≡ Again inward last sent (heard_of host reply) host
  same_again =
      ap (λ (s : Split). AgainAs s ask.kind (token_at ask.pid (out_token ask.speed ask.kind))) is.split
      ∙ ap (λ (k : EpKind). AgainAs (Complete is.hub is.port) k (token_at ask.pid (out_token ask.speed k))) is.kind
      ∙ ap (λ (p : Pid). AgainAs (Complete is.hub is.port) Interrupt (token_at p (out_token ask.speed Interrupt))) is.pid
      ∙ ap (λ (t : AskToken). AgainAs (Complete is.hub is.port) Interrupt t) (token_is inward ask.speed)

pub words_end_visits : WordsEndVisits
words_end_visits inward ask sent last reply host is word = same_again inward ask sent last reply host is ∙ reply_ends inward last sent reply host word

error_failed : (host : HostSide) → is_last_error host ≡ false → failed (error_outcome host) ≡ true
error_failed host left = ap (λ (b : Bool). failed (if b then Halt Error else Wrong)) left

silent_again : (inward last : Bool) (sent : ℕ) (host : HostSide) → is_last_error host ≡ false → host.waiting ≡ true
    → Again inward last sent heards.Nothing host ≡ true
silent_again true true sent host left waits = ap (λ (b : Bool). b && host.waiting) (error_failed host left) ∙ waits
silent_again true false sent host left waits = ap (λ (b : Bool). b && host.waiting) (error_failed host left) ∙ waits
silent_again false true sent host left waits = ap (λ (b : Bool). b && host.waiting) (error_failed host left) ∙ waits
silent_again false false sent host left waits = ap (λ (b : Bool). b && host.waiting) (error_failed host left) ∙ waits

pub silence_asks_again : SilenceAsksAgain
silence_asks_again inward ask sent last host is left waits = same_again inward ask sent last Silent host is ∙ silent_again inward last sent host left waits
