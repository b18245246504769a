-- One command further in bytes that are obeyed.
use Rattle.std.proofs.Common.{◌≡◌, ◌≤◌, ◌+◌, ◌-◌, ◌*◌, ℕ, Bool, true, false, ◌&&◌, List, [], ◌∷◌, ◌++◌, length, take, drop, Some, None, refl, ap, sym, ◌∙◌, arith, length-drop, append_assoc}
use Rattle.std.proofs.lemmas.List.{drop-drop, append-nil}
use Rattle.bulk_only.specs.declared.command_block.CommandBlock.{CommandBlock}
use Rattle.bulk_only.specs.Blocks.{block_size, data_length}
use Rattle.bulk_only.specs.Commands.{DiskCommand, whole_block, with_data, size_of, follows, commands_of, rest_of}
use Rattle.bulk_only.specs.Contents.{Stored, contents, answers, answer, after_command, data_packets, obeyed, obeyed_one, passes, reply_length, reply_lengths, sent_by, status_packet, stores, with_packets}
use Rattle.bulk_only.specs.Replies.{bytes_in, with_packet}
use Rattle.bulk_only.proofs.Packets.{bytes_in_both, bytes_of_data}
use Rattle.bulk_only.proofs.Parsing.{more_commands, no_commands, all_rest}
use Rattle.bulk_only.proofs.Answered.{bytes_of_answer}

pub record Step (bytes : List ℕ) (at : ℕ) (c : CommandBlock) : Type 0 where
  pub whole : at + size_of c ≤ length bytes
  pub commands : commands_of (drop at bytes) ≡ with_data (drop at bytes) c ∷ commands_of (drop (at + size_of c) bytes)
  pub rest : rest_of (drop at bytes) ≡ rest_of (drop (at + size_of c) bytes)
  pub lengths : reply_lengths (commands_of (drop at bytes)) ≡ reply_length c + reply_lengths (commands_of (drop (at + size_of c) bytes))

lengths_more : (c : DiskCommand) (cs : List DiskCommand) → reply_lengths (c ∷ cs) ≡ reply_length c.block + reply_lengths cs
unfolding reply_lengths
lengths_more c cs = refl

no_lengths : reply_lengths [] ≡ 0
unfolding reply_lengths
no_lengths = refl

pub step : (bytes : List ℕ) (at : ℕ) (c : CommandBlock) → at ≤ length bytes → whole_block (drop at bytes) ≡ Some c → Step bytes at c
step bytes at c h e =
    let s = more_commands (drop at bytes) c e in
    let l : length (drop at bytes) ≡ length bytes - at = length-drop at bytes in
    let d : drop (size_of c) (drop at bytes) ≡ drop (at + size_of c) bytes = drop-drop (size_of c) at bytes in
    let all = s.commands ∙ ap (λ t. with_data (drop at bytes) c ∷ commands_of t) d in
    record {
      whole = let w = s.whole in omega (arith, w, l, h);
      commands = all;
      rest = s.rest ∙ ap rest_of d;
      lengths = ap reply_lengths all ∙ lengths_more (with_data (drop at bytes) c) (commands_of (drop (at + size_of c) bytes));
    }

pub record Stop (bytes : List ℕ) (at : ℕ) : Type 0 where
  pub commands : commands_of (drop at bytes) ≡ []
  pub rest : rest_of (drop at bytes) ≡ drop at bytes
  pub lengths : reply_lengths (commands_of (drop at bytes)) ≡ 0

pub stop : (bytes : List ℕ) (at : ℕ) → whole_block (drop at bytes) ≡ None → Stop bytes at
stop bytes at e = record {
  commands = no_commands (drop at bytes) e;
  rest = all_rest (drop at bytes) e;
  lengths = ap reply_lengths (no_commands (drop at bytes) e) ∙ no_lengths;
}

pub obeyed_more : (c : DiskCommand) (cs : List DiskCommand) (s : Stored) → obeyed (c ∷ cs) s ≡ obeyed cs (obeyed_one c s)
unfolding contents answers
obeyed_more c cs s = ap (λ t. record { bytes = contents (after_command s.bytes c) cs; replies = record s.replies { packets = t } })
    (sym (append_assoc s.replies.packets (answer s.bytes c) (answers (after_command s.bytes c) cs)))

pub obeyed_none : (s : Stored) → obeyed [] s ≡ s
unfolding contents answers
obeyed_none s = ap (λ t. record { bytes = s.bytes; replies = record s.replies { packets = t } }) (append-nil s.replies.packets)

-- the data of a command in two parts
pub data_is : (bytes front back : List ℕ) (at end : ℕ) (c : CommandBlock) → end ≡ at + size_of c → front ++ back ≡ take (end - (at + 31)) (drop (at + 31) bytes)
    → record { block = c; bytes = front ++ back } ≡ with_data (drop at bytes) c
data_is bytes front back at end c h e =
    let n : end - (at + 31) ≡ follows c = omega arith in
    ap (λ t. record { block = c; bytes = t }) (e ∙ ap (λ k. take k (drop (at + 31) bytes)) n ∙ ap (λ t. take (follows c) t) (sym (drop-drop 31 at bytes)))

-- a command's answer fits the room that it is due
pub room_after : (c : DiskCommand) (s : Stored) → bytes_in (obeyed_one c s).replies.packets ≡ bytes_in s.replies.packets + reply_length c.block
room_after c s = bytes_in_both s.replies.packets (answer s.bytes c) ∙ ap (λ n. bytes_in s.replies.packets + n) (bytes_of_answer s.bytes c)

-- a command obeyed in three parts: its data are sent, its blocks stored, its status sent
abbrev pub by_parts : Bool → DiskCommand → Stored → Stored
by_parts p c s = record {
  bytes = stores c.block.operation p (block_size * c.block.lba) c.bytes s.bytes;
  replies = with_packet (status_packet p c.block) (with_packets (data_packets c.block.operation p s.bytes c.block) s.replies);
}

pub by_parts_is : (p : Bool) (c : DiskCommand) (s : Stored) → p ≡ passes s.bytes c.block → by_parts p c s ≡ obeyed_one c s
by_parts_is p c s h = ap (λ q. by_parts q c s) h
    ∙ ap (λ t. record { bytes = after_command s.bytes c; replies = record s.replies { packets = t } })
    (append_assoc s.replies.packets (data_packets c.block.operation (passes s.bytes c.block) s.bytes c.block) (status_packet (passes s.bytes c.block) c.block ∷ []))

-- the bytes of the data that were sent
pub data_sent : (p : Bool) (c : CommandBlock) (s : Stored) → p ≡ passes s.bytes c
    → bytes_in (s.replies.packets ++ data_packets c.operation p s.bytes c) ≡ bytes_in s.replies.packets + sent_by c.operation (data_length c)
data_sent p c s h = bytes_in_both s.replies.packets (data_packets c.operation p s.bytes c)
    ∙ ap (λ n. bytes_in s.replies.packets + n) (ap (λ q. bytes_in (data_packets c.operation q s.bytes c)) h ∙ bytes_of_data s.bytes c)

pub and_true : (b : Bool) → b ≡ (b && true)
and_true true = refl
and_true false = refl
