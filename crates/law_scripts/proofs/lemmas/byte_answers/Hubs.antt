-- What a hub and its translator have to say is bytes, and stays so, whatever they are asked; over a bus below that says bytes their work leaves it so.
use Rattle.std.proofs.Common.{ℕ, zero, suc, ◌+◌, ◌-◌, ◌≤◌, Bool, true, false, if◌then◌else◌, List, [], ◌∷◌, length, drop, replicate, slice_get, Option, Some, None, arith}
use Rattle.std.specs.Prelude.{◌==◌, ◌%◌}
use Rattle.std.specs.List.{AllByRecursion, find}
use Rattle.std.specs.Option.{option_and_then, option_map_or}
use Rattle.std.proofs.lemmas.Bool.{cond_both}
use Rattle.law_common.proofs.Lists.{all_both, all_set}
use Rattle.usb_base.specs.declared.packets.Ask.{Ask}
use Rattle.usb_base.specs.declared.packets.Pid.{Pid}
use Rattle.usb_base.specs.declared.packets.Pid.TheVariants as Pids
use Rattle.usb_base.specs.declared.packets.Reply.{Reply}
use Rattle.usb_base.specs.declared.packets.Reply.TheVariants as replies
use Rattle.usb_base.specs.declared.packets.Split.{Split}
use Rattle.usb_base.specs.declared.packets.Split.TheVariants.{Plain, Start, Complete}
use Rattle.script_types.specs.declared.devices.HubText.{HubText}
use Rattle.law_scripts.specs.script_spelling.Spelling.{AreBytes}
use Rattle.dev_control.specs.Stages.{setup_of, stages_reply, stages_after, stages_acked}
use Rattle.hub_keys.specs.declared.key.Key.{Key}
use Rattle.hub_keys.specs.Keys.{key_of}
use Rattle.hub_keys.specs.Asks.{classic_of}
use Rattle.tt_bulk.specs.declared.answers.Answer.{Answer}
use Rattle.tt_bulk.specs.declared.answers.Answer.TheVariants as answers
use Rattle.tt_bulk.specs.declared.rows.BufferIndex.{BufferIndex}
use Rattle.tt_bulk.specs.declared.rows.BufferIndex.TheVariants.{First, Second}
use Rattle.tt_bulk.specs.declared.rows.StartRow.{StartRow as BulkStartRow}
use Rattle.tt_bulk.specs.declared.rows.StartRow.TheVariants as bulk_starts
use Rattle.tt_bulk.specs.declared.rows.CompleteRow.{CompleteRow}
use Rattle.tt_bulk.specs.declared.rows.CompleteRow.TheVariants as bulk_completes
use Rattle.tt_bulk.specs.Answers.{result_of, reply_of as answer_reply}
use Rattle.tt_bulk.specs.Contents.{Taken, BufferContent, Free, Pending, Ready, Old, TwoBuffers, buffer_content, with_place}
use Rattle.tt_bulk.specs.Rows.{start_row_of, start_reply, after_start as after_bulk_start, complete_row_of, given_by, once_given, complete_reply, after_complete, is_cleared_by, cleared_buffer}
use Rattle.tt_bulk.specs.Work.{Turn, Tries, Rests, other, silent_after, after_result, after_turn, earlier_turn, later_turn, worked}
use Rattle.tt_pipeline.specs.declared.entry.Entry.{Entry}
use Rattle.tt_pipeline.specs.declared.entry.Exchange.{Exchange}
use Rattle.tt_pipeline.specs.declared.entry.Exchange.TheVariants.{Ahead, Made}
use Rattle.tt_pipeline.specs.declared.rows.AnswerRow.{AnswerRow}
use Rattle.tt_pipeline.specs.declared.rows.AnswerRow.TheVariants as piped
use Rattle.tt_pipeline.specs.declared.rows.StartRow.{StartRow}
use Rattle.tt_pipeline.specs.declared.rows.StartRow.TheVariants as starts
use Rattle.tt_pipeline.specs.Answers.{answer_row, result_of as heard_result, reply_bytes, bytes_of, result_at, answer_at, given_at, given, answer_from}
use Rattle.tt_pipeline.specs.Starting.{has_key, with_first, without_first, start_row, after_start}
use Rattle.tt_pipeline.specs.Work.{appended, joined, fresh, unstuffed_done, moved, is_due, sent_of, answered}
use Rattle.tt_pipeline.specs.Working.{budget, used_at, kept, reply_at, wire_at, wire_turned, entries_after, wire_worked}
use Rattle.hub_ports.specs.declared.port.Port.{Port}
use Rattle.hub_ports.specs.declared.rows.HubRequest.{HubRequest}
use Rattle.hub_ports.specs.declared.rows.HubRequest.TheVariants.{HubStatus, PortStatus, ChangePort, ClearBuffer, ResetTranslator}
use Rattle.hub_ports.specs.Ports.{bit_at, is_low, status_bytes, port_at, status_of, reply_of as ports_reply}
use Rattle.multi_tt.specs.Translators.{Translator, opening as new_translator, place_of, translator_at, put_if, changed_place, changed_at}
use Rattle.multi_tt.specs.Single.{is_buffered, start_answer_by, start_answer, started_by, started, complete_answer_by, complete_answer, completed_by, completed, cleared, room_left}
use Rattle.multi_tt.specs.Calls.{port_of}
use Rattle.hub_class.specs.HubContent.{HubContent, opening}
use Rattle.hub_class.specs.Requesting.{request_at, effect, effect_if, reply_if}
use Rattle.hub_class.specs.EndpointZero.{reply_bytes as hub_reply_bytes, reply_to, reply_under, suits, acts_on, acted_with, row_at, hub_reply, hub_answered_at, hub_answered, hub_acked}
use Rattle.hub_class.specs.Translating.{split_reply, after_split, transact_reply, transacted}
use Rattle.hub_class.specs.Microframe.{turn_hears, wire_tried, wire_half, buffers_worked, wire_between, translator_worked, wire_of_translator, translators_worked, hub_worked}
use Rattle.hub_class.proofs.Microframe.{translator_keeps}
use Rattle.law_scripts.specs.byte_answers.Bytes.{IsByteReply, IsByteAnswer, IsByteBuffer, AreByteBuffers, IsByteExchange, IsByteEntry, IsByteTranslator, IsByteHub}
use Rattle.law_scripts.proofs.lemmas.byte_answers.Lists.{Holds, all_drop, all_get, all_take, found}
use Rattle.law_scripts.proofs.lemmas.byte_answers.Devices.{stages_bytes}

-- ---- the two buffers

content_bytes : (place : BufferIndex) (b : TwoBuffers) → AreByteBuffers b → IsByteBuffer (buffer_content place b)
content_bytes First b h = h.first
content_bytes Second b h = h.second

placed_bytes : (place : BufferIndex) (c : BufferContent) (b : TwoBuffers) → IsByteBuffer c → AreByteBuffers b → AreByteBuffers (with_place place c b)
placed_bytes First c b k h = record { first = k; second = h.second }
placed_bytes Second c b k h = record { first = h.first; second = k }

bulk_started : (row : BulkStartRow) (taken : Taken) (b : TwoBuffers) → AreByteBuffers b → AreByteBuffers (after_bulk_start row taken b)
bulk_started (bulk_starts.Takes place) taken b h = let k = placed_bytes place (Pending taken 0) b tt h in record { first = k.first; second = k.second }
bulk_started _ taken b h = h

start_bytes : (row : BulkStartRow) → IsByteReply (start_reply row)
start_bytes bulk_starts.Repeated = tt
start_bytes _ = tt

told_bytes : (answer : Answer) → IsByteAnswer answer → IsByteReply (answer_reply answer)
told_bytes (answers.Bytes pid bytes) h = h
told_bytes _ h = tt

given_bytes : (c : BufferContent) → IsByteBuffer c → IsByteReply (given_by c)
given_bytes (Ready taken answer) h = told_bytes answer h
given_bytes (Old taken answer) h = told_bytes answer h
given_bytes _ h = tt

once_bytes : (c : BufferContent) → IsByteBuffer c → IsByteBuffer (once_given c)
once_bytes Free h = h
once_bytes _ h = h

complete_bytes : (row : CompleteRow) (b : TwoBuffers) → AreByteBuffers b → IsByteReply (complete_reply row b)
complete_bytes (bulk_completes.Gives place) b h = given_bytes (buffer_content place b) (content_bytes place b h)
complete_bytes _ b h = tt

bulk_completed : (row : CompleteRow) (b : TwoBuffers) → AreByteBuffers b → AreByteBuffers (after_complete row b)
bulk_completed (bulk_completes.Gives place) b h = placed_bytes place (once_given (buffer_content place b)) b (once_bytes (buffer_content place b) (content_bytes place b h)) h
bulk_completed _ b h = h

cleared_bytes : (key : Key) (c : BufferContent) → IsByteBuffer c → IsByteBuffer (cleared_buffer key c)
cleared_bytes key Free h = tt
cleared_bytes key (Pending taken silences) h = cond_both (is_cleared_by key (key_of taken.ask)) Free (Pending taken silences) IsByteBuffer (λ _. tt) (λ _. tt)
cleared_bytes key (Ready taken answer) h = cond_both (is_cleared_by key (key_of taken.ask)) Free (Ready taken answer) IsByteBuffer (λ _. tt) (λ _. h)
cleared_bytes key (Old taken answer) h = cond_both (is_cleared_by key (key_of taken.ask)) Free (Old taken answer) IsByteBuffer (λ _. tt) (λ _. h)

-- ---- what the buffers hear below

hand_bytes : (pid : Pid) → Holds IsByteAnswer (result_of (replies.Hand pid))
hand_bytes Pids.Out = tt
hand_bytes _ = tt

result_bytes : (reply : Reply) → IsByteReply reply → Holds IsByteAnswer (result_of reply)
result_bytes replies.Silent h = tt
result_bytes (replies.Bytes pid bytes) h = h
result_bytes (replies.Hand pid) h = hand_bytes pid

silent_bytes : (c : BufferContent) → IsByteBuffer c → IsByteBuffer (silent_after c)
silent_bytes (Pending taken silences) h = cond_both _ (Ready taken answers.Stall) (Pending taken (silences + 1)) IsByteBuffer (λ _. tt) (λ _. tt)
silent_bytes _ h = h

after_bytes : (answer : Option Answer) (c : BufferContent) → Holds IsByteAnswer answer → IsByteBuffer c → IsByteBuffer (after_result answer c)
after_bytes None c k h = silent_bytes c h
after_bytes (Some answer) Free k h = h
after_bytes (Some answer) (Pending taken silences) k h = k
after_bytes (Some answer) (Ready taken old) k h = h
after_bytes (Some answer) (Old taken old) k h = h

turn_bytes : (t : Turn) (reply : Reply) (c : BufferContent) → IsByteReply reply → IsByteBuffer c → IsByteBuffer (after_turn t reply c)
turn_bytes (Tries taken) reply c k h = after_bytes (result_of reply) c (result_bytes reply k) h
turn_bytes Rests reply c k h = h

worked_bytes : (room : ℕ) (earlier later : Reply) (b : TwoBuffers) → IsByteReply earlier → IsByteReply later → AreByteBuffers b → AreByteBuffers (worked room earlier later b)
worked_bytes room earlier later b e l h =
    placed_bytes (other b.latest) (after_turn (earlier_turn room b) earlier (buffer_content (other b.latest) b)) (with_place b.latest (after_turn (later_turn room b) later (buffer_content b.latest b)) b)
    (turn_bytes (earlier_turn room b) earlier (buffer_content (other b.latest) b) e (content_bytes (other b.latest) b h))
    (placed_bytes b.latest (after_turn (later_turn room b) later (buffer_content b.latest b)) b (turn_bytes (later_turn room b) later (buffer_content b.latest b) l (content_bytes b.latest b h)) h)

-- ---- the pipeline

abbrev AreByteEntries : List Entry → Type 0
AreByteEntries es = AllByRecursion IsByteEntry es

first_changed : (p : Entry → Bool) (f : Entry → Entry) (es : List Entry) → ((e : Entry) → IsByteEntry e → IsByteEntry (f e)) → AreByteEntries es → AreByteEntries (with_first p f es)
first_changed p f [] g h = tt
first_changed p f (e ∷ es) g h = cond_both (p e) (f e ∷ es) (e ∷ with_first p f es) AreByteEntries (λ _. (g e h.0, h.1)) (λ _. (h.0, first_changed p f es g h.1))

first_dropped : (p : Entry → Bool) (es : List Entry) → AreByteEntries es → AreByteEntries (without_first p es)
first_dropped p [] h = tt
first_dropped p (e ∷ es) h = cond_both (p e) es (e ∷ without_first p es) AreByteEntries (λ _. h.1) (λ _. (h.0, first_dropped p es h.1))

appended_bytes : (bytes : List ℕ) (x : Exchange) → IsByteExchange x → IsByteExchange (appended bytes x)
appended_bytes bytes (Ahead sent) h = tt
appended_bytes bytes (Made reply) h = h

entry_started : (row : StartRow) (ask : Ask) (bytes : List ℕ) (stuff : ℕ) (es : List Entry) → AreByteEntries es
    → AreByteEntries (after_start row ask bytes stuff es)
entry_started starts.Enters ask bytes stuff es h =
    all_both IsByteEntry _ (fresh ask bytes stuff ∷ []) (first_dropped (has_key (key_of ask)) es h) (tt, tt)
entry_started starts.Joins ask bytes stuff es h =
    first_changed (has_key (key_of ask)) (joined ask bytes) es (λ e k. appended_bytes bytes e.exchange k) h
entry_started starts.Forgotten ask bytes stuff es h = h

given_row_bytes : (row : AnswerRow) (e : Entry) → IsByteEntry e → IsByteEntry (given_at row e)
given_row_bytes piped.NotYet e h = h
given_row_bytes _ e h = h

heard_bytes : (reply : Reply) → IsByteReply reply → IsByteReply (heard_result reply)
heard_bytes (replies.Bytes pid bytes) h = h
heard_bytes _ h = tt

result_at_bytes : (x : Exchange) → IsByteExchange x → IsByteReply (result_at x)
result_at_bytes (Ahead sent) h = tt
result_at_bytes (Made reply) h = heard_bytes reply h

data_bytes : (reply : Reply) → IsByteReply reply → AreBytes (reply_bytes reply)
data_bytes (replies.Bytes pid bytes) h = h
data_bytes _ h = tt

exchange_bytes : (x : Exchange) → IsByteExchange x → AreBytes (bytes_of x)
exchange_bytes (Ahead sent) h = tt
exchange_bytes (Made reply) h = data_bytes reply h

answer_row_bytes : (row : AnswerRow) (e : Entry) → IsByteEntry e → IsByteReply (answer_at row e)
answer_row_bytes piped.Result e h = result_at_bytes e.exchange h
answer_row_bytes piped.More e h =
    all_take _ (unstuffed_done e - 9 - e.delivered) (drop e.delivered (bytes_of e.exchange)) (all_drop _ e.delivered (bytes_of e.exchange) (exchange_bytes e.exchange h))
answer_row_bytes piped.Last e h = all_drop _ e.delivered (bytes_of e.exchange) (exchange_bytes e.exchange h)
answer_row_bytes _ e h = tt

from_bytes : (e : Option Entry) → Holds IsByteEntry e → IsByteReply (answer_from e)
from_bytes None h = tt
from_bytes (Some e) h = answer_row_bytes (answer_row e) e h

-- ---- one translator

start_by_bytes : (buffered : Bool) (ask : Ask) (t : Translator) → IsByteReply (start_answer_by buffered ask t)
start_by_bytes true ask t = start_bytes (start_row_of (key_of ask) t.bulk)
start_by_bytes false ask t = tt

complete_by_bytes : (buffered : Bool) (ask : Ask) (t : Translator) → IsByteTranslator t → IsByteReply (complete_answer_by buffered ask t)
complete_by_bytes true ask t h = complete_bytes (complete_row_of (key_of ask) t.bulk) t.bulk h.bulk
complete_by_bytes false ask t h = from_bytes (find (has_key (key_of ask)) t.pipeline) (found IsByteEntry (has_key (key_of ask)) t.pipeline h.pipeline)

started_left : (buffered : Bool) (ask : Ask) (out : List ℕ) (stuff : ℕ) (t : Translator) → IsByteTranslator t
    → IsByteTranslator (started_by buffered ask out stuff t)
started_left true ask out stuff t h =
    record { bulk = bulk_started (start_row_of (key_of ask) t.bulk) _ t.bulk h.bulk; pipeline = h.pipeline }
started_left false ask out stuff t h =
    record { bulk = h.bulk; pipeline = entry_started (start_row ask (length out) t.pipeline) ask out stuff t.pipeline h.pipeline }

completed_left : (buffered : Bool) (ask : Ask) (t : Translator) → IsByteTranslator t → IsByteTranslator (completed_by buffered ask t)
completed_left true ask t h =
    record { bulk = bulk_completed (complete_row_of (key_of ask) t.bulk) t.bulk h.bulk; pipeline = h.pipeline }
completed_left false ask t h =
    record { bulk = h.bulk; pipeline = first_changed (has_key (key_of ask)) given t.pipeline (λ e k. given_row_bytes (answer_row e) e k) h.pipeline }

cleared_left : (key : Key) (t : Translator) → IsByteTranslator t → IsByteTranslator (cleared key t)
cleared_left key t h = record {
  bulk = record { first = cleared_bytes key t.bulk.first h.bulk.first; second = cleared_bytes key t.bulk.second h.bulk.second };
  pipeline = h.pipeline;
}

new_bytes : IsByteTranslator new_translator
new_bytes = record { bulk = record { first = tt; second = tt }; pipeline = tt }

-- ---- those of a hub

abbrev AreByteTranslators : List Translator → Type 0
AreByteTranslators ts = AllByRecursion IsByteTranslator ts

there_bytes : (place : Option ℕ) (ts : List Translator) → AreByteTranslators ts
    → Holds IsByteTranslator (option_and_then (λ n. slice_get ts n) place)
there_bytes None ts h = tt
there_bytes (Some place) ts h = all_get IsByteTranslator ts place h

by_one_bytes : (answer : Translator → Reply) (o : Option Translator) → ((t : Translator) → IsByteTranslator t → IsByteReply (answer t))
    → Holds IsByteTranslator o → IsByteReply (option_map_or answer o replies.Silent)
by_one_bytes answer None g h = tt
by_one_bytes answer (Some t) g h = g t h

put_bytes : (o : Option Translator) (place : ℕ) (f : Translator → Translator) (ts : List Translator)
    → ((t : Translator) → IsByteTranslator t → IsByteTranslator (f t)) → AreByteTranslators ts → Holds IsByteTranslator o
    → AreByteTranslators (put_if o place f ts)
put_bytes None place f ts g h k = h
put_bytes (Some t) place f ts g h k = all_set IsByteTranslator ts place (f t) h (g t k)

place_bytes : (place : Option ℕ) (f : Translator → Translator) (ts : List Translator)
    → ((t : Translator) → IsByteTranslator t → IsByteTranslator (f t)) → AreByteTranslators ts
    → AreByteTranslators (changed_place place f ts)
place_bytes None f ts g h = h
place_bytes (Some place) f ts g h = put_bytes (slice_get ts place) place f ts g h (all_get IsByteTranslator ts place h)

port_left : (port : ℕ) (f : Translator → Translator) (x : HubContent) → ((t : Translator) → IsByteTranslator t → IsByteTranslator (f t))
    → IsByteHub x → IsByteHub (record x { translators = changed_at port f x.translators })
port_left port f x g h = record { translators = place_bytes (place_of x.translators.multi port) f x.translators.all g h.translators }

-- ---- a split transaction

split_bytes : (split : Split) (ask : Ask) (x : HubContent) → IsByteHub x → IsByteReply (split_reply split ask x)
split_bytes (Start hub port part) ask x h =
    by_one_bytes (start_answer ask) (translator_at (port_of ask.split) x.translators) (λ t k. start_by_bytes (is_buffered ask.kind) ask t)
    (there_bytes (place_of x.translators.multi (port_of ask.split)) x.translators.all h.translators)
split_bytes (Complete hub port) ask x h =
    by_one_bytes (complete_answer ask) (translator_at (port_of ask.split) x.translators) (complete_by_bytes (is_buffered ask.kind) ask)
    (there_bytes (place_of x.translators.multi (port_of ask.split)) x.translators.all h.translators)
split_bytes Plain ask x h = tt

split_left : (split : Split) (ask : Ask) (out : List ℕ) (stuff : ℕ) (x : HubContent) → IsByteHub x
    → IsByteHub (after_split split ask out stuff x)
split_left (Start hub port part) ask out stuff x h =
    port_left (port_of ask.split) (started ask out stuff) x (started_left (is_buffered ask.kind) ask out stuff) h
split_left (Complete hub port) ask out stuff x h =
    port_left (port_of ask.split) (completed ask) x (completed_left (is_buffered ask.kind) ask) h
split_left Plain ask out stuff x h = h

pub translator_bytes : (ask : Ask) (x : HubContent) → IsByteHub x → IsByteReply (transact_reply ask x)
translator_bytes ask x h = split_bytes ask.split ask x h

pub translator_left : (ask : Ask) (out : List ℕ) (stuff : ℕ) (x : HubContent) → IsByteHub x → IsByteHub (transacted ask out stuff x)
translator_left ask out stuff x h = split_left ask.split ask out stuff x h

-- ---- endpoint 0

bit_bytes : (value : ℕ) (b : Bool) → bit_at value b ≤ value
bit_bytes value true = omega arith
bit_bytes value false = omega arith

status_are_bytes : (p : Port) → AreBytes (status_bytes p)
status_are_bytes p =
    let connected = bit_bytes 1 p.connection in
    let enabled = bit_bytes 2 p.enable in
    let powered = bit_bytes 1 p.power in
    let slow = bit_bytes 2 (is_low p) in
    let new = bit_bytes 1 p.connection_changed in
    let reset = bit_bytes 16 p.reset_changed in
    (omega (arith, connected, enabled), (omega (arith, powered, slow), (omega (arith, new, reset), (omega arith, tt))))

status_of_bytes : (p : Option Port) → Holds AreBytes (hub_reply_bytes (status_of p))
status_of_bytes None = tt
status_of_bytes (Some p) = status_are_bytes p

request_bytes : (request : HubRequest) (ports : List Port) → Holds AreBytes (hub_reply_bytes (ports_reply request ports))
request_bytes HubStatus ports = (omega arith, (omega arith, (omega arith, (omega arith, tt))))
request_bytes (PortStatus port) ports = status_of_bytes (port_at port ports)
request_bytes _ ports = tt

reply_if_bytes : (request : Option HubRequest) (x : HubContent) → Holds AreBytes (hub_reply_bytes (reply_if request x))
reply_if_bytes None x = tt
reply_if_bytes (Some request) x = request_bytes request x.ports

reply_to_bytes : (setup : Option (List ℕ)) (x : HubContent) → Holds AreBytes (reply_to setup x)
reply_to_bytes None x = tt
reply_to_bytes (Some setup) x = reply_if_bytes (request_at setup x) x

pub hub_bytes : (ask : Ask) (out : List ℕ) (x : HubContent) → IsByteReply (hub_reply ask out x)
hub_bytes ask out x =
    cond_both (suits ask x) (stages_reply (reply_under x) x.control ask out) replies.Silent IsByteReply
    (λ _. stages_bytes (reply_under x) x.control ask out (reply_to_bytes (setup_of x.control.request) x)) (λ _. tt)

effect_left : (request : HubRequest) (x : HubContent) → IsByteHub x → IsByteHub (effect request x)
effect_left (ChangePort port change) x h = record { translators = h.translators }
effect_left (ClearBuffer port key) x h = port_left port (cleared key) x (cleared_left key) h
effect_left (ResetTranslator port) x h = port_left port (λ t. new_translator) x (λ t k. new_bytes) h
effect_left _ x h = h

effect_if_left : (request : Option HubRequest) (x : HubContent) → IsByteHub x → IsByteHub (effect_if request x)
effect_if_left None x h = h
effect_if_left (Some request) x h = effect_left request x h

acted_left : (setup : Option (List ℕ)) (x : HubContent) → IsByteHub x → IsByteHub (acted_with setup x)
acted_left None x h = h
acted_left (Some setup) x h = effect_if_left (request_at setup x) x h

pub hub_left : (ask : Ask) (out : List ℕ) (x : HubContent) → IsByteHub x → IsByteHub (hub_answered ask out x)
hub_left ask out x h =
    cond_both (suits ask x) (hub_answered_at ask out x) x IsByteHub
    (λ _. acted_left (acts_on (row_at ask out x) x.control.request) (record x { control = stages_after (reply_under x) x.control ask out }) (record { translators = h.translators }))
    (λ _. h)

pub hub_acked_left : (ask : Ask) (x : HubContent) → IsByteHub x → IsByteHub (hub_acked ask x)
hub_acked_left ask x h =
    cond_both (suits ask x) (record x { control = stages_acked (reply_under x) x.control }) x IsByteHub (λ _. record { translators = h.translators }) (λ _. h)

new_ones : (n : ℕ) → AreByteTranslators (replicate n new_translator)
new_ones zero = tt
new_ones (suc n) = (new_bytes, new_ones n)

pub hub_opens : (text : HubText) → IsByteHub (opening text)
hub_opens text = record { translators = new_ones (if text.multi then length text.attached else 1) }

-- ---- the work of a microframe

module _ {W : Type 0} (reply_of : W → Ask → List ℕ → Reply) (wire_after : W → Ask → List ℕ → W) (P : W → Type 0) (keeps : (w : W) (ask : Ask) (out : List ℕ) → P w → P (wire_after w ask out)) (heard : (w : W) (ask : Ask) (out : List ℕ) → P w → IsByteReply (reply_of w ask out)) where
  at_keeps : (b : Bool) (e : Entry) (w : W) → P w → P (wire_at reply_of wire_after b e w)
  at_keeps true e w p = keeps w (classic_of e.ask) (sent_of e) p
  at_keeps false e w p = p

  turned_keeps : (room : ℕ) (e : Entry) (w : W) → P w → P (wire_turned reply_of wire_after room e w)
  turned_keeps room e w p = at_keeps (is_due (moved room e)) (moved room e) w p

  pipeline_keeps : (room : ℕ) (es : List Entry) (w : W) → P w → P (wire_worked reply_of wire_after room es w)
  pipeline_keeps room [] w p = p
  pipeline_keeps room (e ∷ es) w p = pipeline_keeps (room - used_at room e) es (wire_turned reply_of wire_after room e w) (turned_keeps room e w p)

  tried_keeps : (t : Turn) (w : W) → P w → P (wire_tried reply_of wire_after t w)
  tried_keeps (Tries taken) w p = keeps w (classic_of taken.ask) taken.packet p
  tried_keeps Rests w p = p

  tried_hears : (t : Turn) (w : W) → P w → IsByteReply (turn_hears reply_of wire_after t w)
  tried_hears (Tries taken) w p = heard w (classic_of taken.ask) taken.packet p
  tried_hears Rests w p = tt

  entry_answered : (due : Bool) (reply : Reply) (e : Entry) → IsByteReply reply → IsByteEntry e → IsByteEntry (answered due reply e)
  entry_answered true reply e k h = k
  entry_answered false reply e k h = h

  entries_worked : (room : ℕ) (es : List Entry) (w : W) → P w → AreByteEntries es → AreByteEntries (entries_after reply_of wire_after room es w)
  entries_worked room [] w p h = tt
  entries_worked room (e ∷ es) w p h =
      let m : Entry = moved room e in (
        entry_answered (is_due m) (reply_at reply_of wire_after room e w) m (heard w (classic_of m.ask) (sent_of m) p) h.0,
        entries_worked (room - used_at room e) es (wire_turned reply_of wire_after room e w) (turned_keeps room e w p) h.1,
      )

  kept_bytes : (frindex : ℕ) (es : List Entry) → AreByteEntries es → AreByteEntries (kept frindex es)
  kept_bytes frindex es h = cond_both (frindex % 8 == 0) [] es AreByteEntries (λ _. tt) (λ _. h)

  buffers_bytes : (room : ℕ) (b : TwoBuffers) (w : W) → P w → AreByteBuffers b → AreByteBuffers (buffers_worked reply_of wire_after room b w)
  buffers_bytes room b w p h =
      worked_bytes room (turn_hears reply_of wire_after (earlier_turn room b) w) (turn_hears reply_of wire_after (later_turn room b) (wire_half reply_of wire_after room b w)) b
      (tried_hears (earlier_turn room b) w p)
      (tried_hears (later_turn room b) (wire_half reply_of wire_after room b w) (tried_keeps (earlier_turn room b) w p)) h

  one_worked : (frindex : ℕ) (t : Translator) (w : W) → P w → IsByteTranslator t → IsByteTranslator (translator_worked reply_of wire_after frindex t w)
  one_worked frindex t w p h = record {
    bulk = buffers_bytes (room_left t) t.bulk (wire_between reply_of wire_after t w) (pipeline_keeps budget t.pipeline w p) h.bulk;
    pipeline = kept_bytes frindex (entries_after reply_of wire_after budget t.pipeline w) (entries_worked budget t.pipeline w p h.pipeline);
  }

  all_worked : (frindex : ℕ) (ts : List Translator) (w : W) → P w → AreByteTranslators ts → AreByteTranslators (translators_worked reply_of wire_after frindex ts w)
  all_worked frindex [] w p h = tt
  all_worked frindex (t ∷ ts) w p h = (
    one_worked frindex t w p h.0,
    all_worked frindex ts (wire_of_translator reply_of wire_after t w) (translator_keeps reply_of wire_after P keeps t w p) h.1,
  )

  pub work_bytes : (frindex : ℕ) (x : HubContent) (w : W) → P w → IsByteHub x → IsByteHub (hub_worked reply_of wire_after frindex x w)
  work_bytes frindex x w p h = record { translators = all_worked frindex x.translators.all w p h.translators }
