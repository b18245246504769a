-- How many bytes the disk says to a command.
use Rattle.std.proofs.Common.{◌≡◌, ◌+◌, ℕ, Bool, true, false, List, [], ◌∷◌, length, refl, ap, ◌∙◌}
use Rattle.bulk_only.specs.declared.command_block.CommandBlock.{CommandBlock}
use Rattle.bulk_only.specs.Blocks.{data_length}
use Rattle.bulk_only.specs.Commands.{DiskCommand}
use Rattle.bulk_only.specs.Contents.{answer, data_packets, passes, reply_length, sent_by, status_packet}
use Rattle.bulk_only.specs.Replies.{bytes_in}
use Rattle.bulk_only.proofs.Packets.{bytes_in_both, bytes_of_data}

status_length : (b : Bool) (c : CommandBlock) → length (status_packet b c) ≡ 13
status_length true c = refl
status_length false c = refl

pub bytes_of_answer : (bytes : List ℕ) (c : DiskCommand) → bytes_in (answer bytes c) ≡ reply_length c.block
bytes_of_answer bytes c =
    let p = passes bytes c.block in
    let one : bytes_in (status_packet p c.block ∷ []) ≡ 13 = ap (λ n. n + 0) (status_length p c.block) in
    bytes_in_both (data_packets c.block.operation p bytes c.block) (status_packet p c.block ∷ [])
    ∙ ap (λ n. n + bytes_in (status_packet p c.block ∷ [])) (bytes_of_data bytes c.block) ∙ ap (λ n. sent_by c.block.operation (data_length c.block) + n) one
