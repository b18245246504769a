-- What starts, complete-splits and the work of a microframe leave of the words of a pipeline.
use Rattle.std.proofs.Common.{◌≡◌, ℕ, ◌-◌, Bool, true, false, List, [], ◌∷◌, length, Option, Some, None, refl, sym, ap, subst, ◌∙◌, inl, inr}
use Rattle.std.specs.Prelude.{◌==◌, ◌%◌, ◌&&◌, nat_le, if◌then◌else◌}
use Rattle.std.specs.List.{AllByRecursion, find}
use Rattle.std.proofs.lemmas.Bool.{cases_Bool, and_parts}
use Rattle.usb_base.specs.declared.packets.Ask.{Ask}
use Rattle.usb_base.specs.declared.packets.EpKind.{EpKind}
use Rattle.usb_base.specs.declared.packets.EpKind.TheVariants.{Control, Iso, Bulk, Interrupt}
use Rattle.usb_base.specs.declared.packets.Pid.{Pid}
use Rattle.usb_base.specs.declared.packets.Pid.TheVariants as pids
use Rattle.usb_base.specs.declared.packets.Reply.{Reply}
use Rattle.hub_keys.specs.Asks.{classic_of}
use Rattle.hub_keys.specs.Keys.{direction_of, key_of, is_same_direction, is_same_kind, is_same_key}
use Rattle.hub_keys.specs.declared.key.Key.{Key}
use Rattle.tt_pipeline.specs.declared.entry.Entry.{Entry}
use Rattle.tt_pipeline.specs.declared.entry.Exchange.{Exchange}
use Rattle.tt_pipeline.specs.declared.entry.Exchange.TheVariants.{Ahead, Made}
use Rattle.tt_pipeline.specs.declared.rows.AnswerRow.{AnswerRow}
use Rattle.tt_pipeline.specs.declared.rows.AnswerRow.TheVariants as rows
use Rattle.tt_pipeline.specs.declared.rows.StartRow.{StartRow}
use Rattle.tt_pipeline.specs.declared.rows.StartRow.TheVariants.{Enters, Joins, Forgotten}
use Rattle.tt_pipeline.specs.Answers.{result_at, made_row, row_at, answer_at, answer_of, answer_row, given_at, given, answer_from, complete_answer, completed}
use Rattle.tt_pipeline.specs.Starting.{has_key, with_first, without_first, without, start_row, after_start, started}
use Rattle.tt_pipeline.specs.Work.{called_for, fresh, appended, joined, moved, is_due, sent_of, answered}
use Rattle.tt_pipeline.specs.Working.{used_at, turned, kept, reply_at, wire_at, wire_turned, entries_after, wire_worked}
use Rattle.law_microframes.specs.time.Repeats.{is_split_word}
use Rattle.law_microframes.specs.due.repeats.Words.{inward_of, IsToldAs, SaysWord, SayWords}
use Rattle.law_microframes.proofs.lemmas.due.lemmas.repeats.Lists.{all_found, all_after}
use Rattle.law_microframes.proofs.lemmas.due.lemmas.repeats.DeviceWords.{Word}

-- ---- lists with one changed, or left out

module _ {A : Type 0} (P : A → Type 0) (t : A → Bool) where
  all_with_first : (f : A → A) (xs : List A) → ((x : A) → P x → P (f x)) → AllByRecursion P xs → AllByRecursion P (with_first t f xs)
  all_with_first f [] keeps all = tt
  all_with_first f (x ∷ xs) keeps all =
      elim (cases_Bool (t x)) [
        | inl on ↦ rw on (keeps x all.0, all.1)
        | inr off ↦ rw off (all.0, all_with_first f xs keeps all.1)
      ]

  all_without_first : (xs : List A) → AllByRecursion P xs → AllByRecursion P (without_first t xs)
  all_without_first [] all = tt
  all_without_first (x ∷ xs) all =
      elim (cases_Bool (t x)) [
        | inl on ↦ rw on all.1
        | inr off ↦ rw off (all.0, all_without_first xs all.1)
      ]

-- ---- starts

appended_told : (inward : Bool) (bytes : List ℕ) (x : Exchange) → IsToldAs inward x → IsToldAs inward (appended bytes x)
appended_told inward bytes (Ahead sent) told = tt
appended_told inward bytes (Made reply) told = told

joined_says : (ask : Ask) (bytes : List ℕ) (e : Entry) → SaysWord e → SaysWord (joined ask bytes e)
joined_says ask bytes e s = record { key = s.key; told = λ kind. appended_told (inward_of e.ask.pid) bytes e.exchange (s.told kind) }

start_says : (row : StartRow) (ask : Ask) (bytes : List ℕ) (stuff : ℕ) (es : List Entry) → SayWords es
    → SayWords (after_start row ask bytes stuff es)
start_says Enters ask bytes stuff es all =
    all_after SaysWord (without (key_of ask) es) (fresh ask bytes stuff ∷ []) (all_without_first SaysWord (has_key (key_of ask)) es all)
    (record { key = refl; told = λ kind. tt }, tt)
start_says Joins ask bytes stuff es all =
    all_with_first SaysWord (has_key (key_of ask)) (joined ask bytes) es (λ e s. joined_says ask bytes e s) all
start_says Forgotten ask bytes stuff es all = all

pub started_say : (ask : Ask) (bytes : List ℕ) (stuff : ℕ) (es : List Entry) → SayWords es → SayWords (started ask bytes stuff es)
started_say ask bytes stuff es all = start_says (start_row ask (length bytes) es) ask bytes stuff es all

-- ---- complete-splits

given_says : (row : AnswerRow) (e : Entry) → SaysWord e → SaysWord (given_at row e)
given_says rows.NotYet e s = s
given_says rows.Result e s = s
given_says rows.Unheard e s = s
given_says rows.More e s = record { key = s.key; told = s.told }
given_says rows.Last e s = record { key = s.key; told = s.told }

pub completed_say : (k : Key) (es : List Entry) → SayWords es → SayWords (completed k es)
completed_say k es all = all_with_first SaysWord (has_key k) given es (λ e s. given_says (answer_row e) e s) all

not_yet : (inward : Bool) (e : Entry) → is_split_word inward (answer_at rows.NotYet e) ≡ true
not_yet true e = refl
not_yet false e = refl

result_word : (inward : Bool) (x : Exchange) → IsToldAs inward x → is_split_word inward (result_at x) ≡ true
result_word true (Ahead bytes) told = refl
result_word false (Ahead bytes) told = refl
result_word inward (Made reply) told = told

made_word : (inward : Bool) (e : Entry) (there : Bool) → IsToldAs inward e.exchange
    → is_split_word inward (answer_at (if there then rows.Result else rows.NotYet) e) ≡ true
made_word inward e true told = result_word inward e.exchange told
made_word inward e false told = not_yet inward e

exchange_word : (inward : Bool) (e : Entry) (x : Exchange) → e.ask.kind ≡ Interrupt → IsToldAs inward e.exchange
    → is_split_word inward (answer_at (row_at x e) e) ≡ true
exchange_word inward e (Ahead bytes) kind told = not_yet inward e
exchange_word inward e (Made reply) kind told =
    ap (λ (k : EpKind). is_split_word inward (answer_at (made_row k e.ask.pid reply e) e)) kind ∙ made_word inward e
    (nat_le (called_for e) e.done) told

-- an interrupt's answer is a word
entry_word : (e : Entry) → SaysWord e → e.ask.kind ≡ Interrupt → is_split_word (inward_of e.ask.pid) (answer_of e) ≡ true
entry_word e s kind = exchange_word (inward_of e.ask.pid) e e.exchange kind (s.told kind)

same_kind : (a b : EpKind) → is_same_kind a b ≡ true → b ≡ Interrupt → a ≡ Interrupt
same_kind Interrupt b e is = refl
same_kind Control Control e is = absurd cc
same_kind Iso Iso e is = absurd cc
same_kind Bulk Bulk e is = absurd cc
same_kind _ _ e is = absurd cc

same_way : (a b : Pid) → is_same_direction (direction_of a) (direction_of b) ≡ true → inward_of a ≡ inward_of b
same_way pids.In pids.In e = refl
same_way pids.In _ e = absurd cc
same_way _ pids.In e = absurd cc
same_way _ _ e = refl

from_word : (ask : Ask) (es : List Entry) (o : Option Entry) → ask.kind ≡ Interrupt → SayWords es → find (has_key (key_of ask)) es ≡ o
    → is_split_word (inward_of ask.pid) (answer_from o) ≡ true
from_word ask es None kind all found = nyet (inward_of ask.pid)
  where
    nyet : (inward : Bool) → is_split_word inward (answer_from None) ≡ true
    nyet true = refl
    nyet false = refl
from_word ask es (Some e) kind all found =
    let f = all_found SaysWord (has_key (key_of ask)) es e all found in
    let k : is_same_key (key_of e.ask) (key_of ask) ≡ true = ap (λ (x : Key). is_same_key x (key_of ask)) (sym f.0.key) ∙ f.1 in
    let kinds = and_parts (e.ask.addr == ask.addr && e.ask.ep == ask.ep && is_same_direction (direction_of e.ask.pid)
    (direction_of ask.pid)) (is_same_kind e.ask.kind ask.kind) k in
    let ways = and_parts (e.ask.addr == ask.addr && e.ask.ep == ask.ep)
    (is_same_direction (direction_of e.ask.pid) (direction_of ask.pid)) kinds.0 in
    subst (λ (b : Bool). is_split_word b (answer_of e) ≡ true) (same_way e.ask.pid ask.pid ways.1)
    (entry_word e f.0 (same_kind e.ask.kind ask.kind kinds.1 kind))

-- what a complete-split of an interrupt transaction is answered
pub completes_word : (ask : Ask) (es : List Entry) → ask.kind ≡ Interrupt → SayWords es
    → is_split_word (inward_of ask.pid) (complete_answer (key_of ask) es) ≡ true
completes_word ask es kind all = from_word ask es (find (has_key (key_of ask)) es) kind all refl

-- ---- the work of a microframe

module _ {W : Type 0} (holds : W → Type 0) (reply_of : W → Ask → List ℕ → Reply) (wire_after : W → Ask → List ℕ → W)
    (word : (w : W) (ask : Ask) (out : List ℕ) → holds w → Word (inward_of ask.pid) (reply_of w ask out))
    (keeps : (w : W) (ask : Ask) (out : List ℕ) → holds w → holds (wire_after w ask out)) where
  answered_says : (b : Bool) (reply : Reply) (m : Entry) → Word (inward_of m.ask.pid) reply → SaysWord m → SaysWord (answered b reply m)
  answered_says true reply m word s = record { key = s.key; told = λ kind. word }
  answered_says false reply m word s = s

  moved_says : (room : ℕ) (e : Entry) → SaysWord e → SaysWord (moved room e)
  moved_says room e s = record { key = s.key; told = s.told }

  turned_says : (room : ℕ) (e : Entry) (w : W) → holds w → SaysWord e → SaysWord (turned room (reply_at reply_of wire_after room e w) e)
  turned_says room e w h s =
      answered_says (is_due (moved room e)) (reply_at reply_of wire_after room e w) (moved room e)
      (word w (classic_of (moved room e).ask) (sent_of (moved room e)) h) (moved_says room e s)

  wire_keeps : (b : Bool) (e : Entry) (w : W) → holds w → holds (wire_at reply_of wire_after b e w)
  wire_keeps true e w h = keeps w (classic_of e.ask) (sent_of e) h
  wire_keeps false e w h = h

  pub worked_say : (room : ℕ) (es : List Entry) (w : W) → holds w → SayWords es → SayWords (entries_after reply_of wire_after room es w)
  worked_say room [] w h all = tt
  worked_say room (e ∷ es) w h all = (
    turned_says room e w h all.0,
    worked_say (room - used_at room e) es (wire_turned reply_of wire_after room e w)
        (wire_keeps (is_due (moved room e)) (moved room e) w h) all.1,
  )

  pub wire_holds : (room : ℕ) (es : List Entry) (w : W) → holds w → holds (wire_worked reply_of wire_after room es w)
  wire_holds room [] w h = h
  wire_holds room (e ∷ es) w h =
      wire_holds (room - used_at room e) es (wire_turned reply_of wire_after room e w)
      (wire_keeps (is_due (moved room e)) (moved room e) w h)

pub kept_say : (frindex : ℕ) (es : List Entry) → SayWords es → SayWords (kept frindex es)
kept_say frindex es all =
    elim (cases_Bool (frindex % 8 == 0)) [ inl on ↦ rw on tt | inr off ↦ rw off all ]
