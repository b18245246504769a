-- Commands written as bytes, cut anywhere, and read back.
use Rattle.std.proofs.Common.{rules, ◌≡◌, ◌≤◌, ◌<◌, ◌+◌, ◌-◌, ◌^◌, ℕ, zero, suc, true, ◌&&◌, ◌==◌, nat_le, nat_lt, List, [], ◌∷◌, ◌++◌, length, take, drop, Option, Some, None, refl, ap, sym, subst, ◌∙◌, arith, length-append, length-drop, append_assoc}
use Rattle.std.proofs.lemmas.Bool.{and_parts, and_from, leb-true, le-leb, ltb-true, eqb-true, agree_below_at, cond-true}
use Rattle.std.proofs.lemmas.List.{take-append-le, drop-append-le, drop_at, take-append-drop, length-take-le, append-nil}
use Rattle.std.proofs.lemmas.Nat.{from_le_bytes-to_le_bytes_4, from_be_bytes-to_be_bytes_4, from_be_bytes-to_be_bytes_2}
use Rattle.bulk_only.specs.declared.command_block.CommandBlock.{CommandBlock}
use Rattle.bulk_only.specs.declared.command_block.Operation.{Operation}
use Rattle.bulk_only.specs.declared.command_block.Operation.TheVariants.{Read, Write}
use Rattle.bulk_only.specs.Blocks.{command_bytes, command_of, is_within}
use Rattle.bulk_only.specs.Commands.{DiskCommand, bytes_of, block_of, with_room, whole_block, with_data, size_of, follows, commands_of, rest_of, could_go_on}
use Rattle.bulk_only.specs.Contents.{DiskContent, Stored, contents, answers, answer, after_command, fits, takes, disk_took, obeyed, reply_length, reply_lengths}
use Rattle.bulk_only.specs.Fronts.{is_front, is_block, command_rows, nothing_seen}
use Rattle.bulk_only.specs.Laws.{is_command, are_commands, stream, is_none, is_part, Obeyed}
use Rattle.bulk_only.specs.Replies.{bytes_in}
use Rattle.bulk_only.proofs.Allowed.{fewer_fit, block_of_head}
use Rattle.bulk_only.proofs.Lists.{take_exact, drop_exact}
use Rattle.bulk_only.proofs.Answered.{bytes_of_answer}
use Rattle.bulk_only.proofs.Packets.{bytes_in_both}
use Rattle.bulk_only.proofs.Parsing.{Whole, Part, begins, whole_has, more_commands, no_commands, all_rest, fewer_left, chosen, nothing_is_no_block}

-- a command block of 1 to 40 blocks is allowed
front_of : (tag lba : ℕ) (o : Operation) (n : ℕ) (more : List ℕ) → n < 40
    → is_front (command_bytes (record { tag = tag; operation = o; lba = lba; blocks = suc n }) ++ more) ≡ true
unfolding is_front
front_of tag lba Read n more h = agree_below_at (λ k. is_front (command_bytes (record { tag = tag; operation = Read; lba = lba; blocks = suc k }) ++ more)) (λ k. true) 40 n refl h
front_of tag lba Write n more h = agree_below_at (λ k. is_front (command_bytes (record { tag = tag; operation = Write; lba = lba; blocks = suc k }) ++ more)) (λ k. true) 40 n refl h

pub record Within (c : CommandBlock) : Type 0 where
  pub tag : c.tag < 2 ^ 32
  pub lba : c.lba < 2 ^ 32
  pub some : 1 ≤ c.blocks
  pub few : c.blocks ≤ 40

pub within : (c : CommandBlock) → is_within c ≡ true → Within c
within c h =
    let a = and_parts (nat_lt c.tag (2 ^ 32) && nat_lt c.lba (2 ^ 32) && nat_le 1 c.blocks) (nat_le c.blocks 40) h in
    let b = and_parts (nat_lt c.tag (2 ^ 32) && nat_lt c.lba (2 ^ 32)) (nat_le 1 c.blocks) a.0 in
    let d = and_parts (nat_lt c.tag (2 ^ 32)) (nat_lt c.lba (2 ^ 32)) b.0 in
    record { tag = ltb-true c.tag (2 ^ 32) d.0; lba = ltb-true c.lba (2 ^ 32) d.1; some = leb-true 1 c.blocks b.1; few = leb-true c.blocks 40 a.1 }

front_of_block : (c : CommandBlock) (more : List ℕ) → Within c → is_front (command_bytes c ++ more) ≡ true
front_of_block c more w =
    let n : suc (c.blocks - 1) ≡ c.blocks = let s = w.some in omega arith in
    let few : c.blocks - 1 < 40 = let s = w.some in let f = w.few in omega arith in
    subst (λ (k : ℕ). is_front (command_bytes (record { tag = c.tag; operation = c.operation; lba = c.lba; blocks = k }) ++ more) ≡ true) n
    (front_of c.tag c.lba c.operation (c.blocks - 1) more few)

operation_back : (c : CommandBlock) (o : Operation) (more : List ℕ) → (command_of (command_bytes (record c { operation = o }) ++ more)).operation ≡ o
operation_back c Read more = refl
operation_back c Write more = refl

block_back : (c : CommandBlock) (more : List ℕ) → Within c → command_of (command_bytes c ++ more) ≡ c
block_back c more w =
    ap (λ t. record { tag = t; operation = (command_of (command_bytes c ++ more)).operation; lba = (command_of (command_bytes c ++ more)).lba; blocks = (command_of (command_bytes c ++ more)).blocks })
    (from_le_bytes-to_le_bytes_4 c.tag w.tag)
    ∙ ap (λ t. record { tag = c.tag; operation = t; lba = (command_of (command_bytes c ++ more)).lba; blocks = (command_of (command_bytes c ++ more)).blocks })
    (operation_back c c.operation more)
    ∙ ap (λ t. record { tag = c.tag; operation = c.operation; lba = t; blocks = (command_of (command_bytes c ++ more)).blocks })
    (from_be_bytes-to_be_bytes_4 c.lba w.lba)
    ∙ ap (λ t. record { tag = c.tag; operation = c.operation; lba = c.lba; blocks = t })
    (from_be_bytes-to_be_bytes_2 c.blocks (let f = w.few in omega arith))

pub read_back : (c : CommandBlock) (more : List ℕ) → is_within c ≡ true → block_of (command_bytes c ++ more) ≡ Some c
unfolding block_of
read_back c more h =
    let w = within c h in
    let f = front_of_block c more w in
    let long : nat_le 31 (length (command_bytes c ++ more)) ≡ true = le-leb 31 (length (command_bytes c ++ more)) (rw (length-append (command_bytes c) more) (omega arith)) in
    cond-true (is_block (command_bytes c ++ more)) _ _ (and_from _ _ long f) ∙ ap Some (block_back c more w)

-- a whole command at the front of bytes
pub record Leads (c : DiskCommand) (more : List ℕ) : Type 0 where
  pub whole : whole_block (bytes_of c ++ more) ≡ Some c.block
  pub same : with_data (bytes_of c ++ more) c.block ≡ c
  pub behind : drop (size_of c.block) (bytes_of c ++ more) ≡ more

room_for : (n : ℕ) (c : CommandBlock) → size_of c ≤ n → with_room n (Some c) ≡ Some c
room_for n c h = cond-true (nat_le (size_of c) n) _ _ (le-leb (size_of c) n h)

pub leads : (c : DiskCommand) (more : List ℕ) → is_command c ≡ true → Leads c more
leads c more h =
    let parts = and_parts (is_within c.block) (length c.bytes == follows c.block) h in
    let l : length c.bytes ≡ follows c.block = eqb-true (length c.bytes) (follows c.block) parts.1 in
    let j : bytes_of c ++ more ≡ command_bytes c.block ++ (c.bytes ++ more) = append_assoc (command_bytes c.block) c.bytes more in
    let n : size_of c.block ≤ length (command_bytes c.block ++ (c.bytes ++ more))
    = rw (length-append (command_bytes c.block) (c.bytes ++ more)) (rw (length-append c.bytes more) (omega arith)) in
    let t : take (follows c.block) (drop 31 (bytes_of c ++ more)) ≡ c.bytes
    = ap (λ u. take (follows c.block) (drop 31 u)) j ∙ take_exact c.bytes more (follows c.block) l in
    record {
      whole = ap (λ u. whole_block u) j ∙ ap (with_room (length (command_bytes c.block ++ (c.bytes ++ more)))) (read_back c.block (c.bytes ++ more) parts.0)
          ∙ room_for _ c.block n;
      same = ap (λ u. record { block = c.block; bytes = u }) t;
      behind = ap (λ u. drop (size_of c.block) u) j ∙ drop_exact (command_bytes c.block) (c.bytes ++ more) 31 (follows c.block) refl ∙ drop_at c.bytes more (follows c.block) l;
    }

none_from : (o : Option CommandBlock) → is_none o ≡ true → o ≡ None
none_from None h = refl
none_from (Some c) h = absurd (search rules)

pub found_commands : (cs : List DiskCommand) (part : List ℕ) → are_commands cs ≡ true → is_part part ≡ true → commands_of (stream cs ++ part) ≡ cs
found_commands [] part h p = no_commands part (none_from (whole_block part) (and_parts (is_none (whole_block part)) (is_front part) p).0)
found_commands (c ∷ cs) part h p =
    let parts = and_parts (is_command c) (are_commands cs) h in
    let l = leads c (stream cs ++ part) parts.0 in
    let step = more_commands (bytes_of c ++ (stream cs ++ part)) c.block l.whole in
    ap commands_of (append_assoc (bytes_of c) (stream cs) part) ∙ step.commands
    ∙ ap (λ t. t ∷ commands_of (drop (size_of c.block) (bytes_of c ++ (stream cs ++ part)))) l.same
    ∙ ap (λ t. c ∷ t) (ap commands_of l.behind ∙ found_commands cs part parts.1 p)

pub found_rest : (cs : List DiskCommand) (part : List ℕ) → are_commands cs ≡ true → is_part part ≡ true → rest_of (stream cs ++ part) ≡ part
found_rest [] part h p = all_rest part (none_from (whole_block part) (and_parts (is_none (whole_block part)) (is_front part) p).0)
found_rest (c ∷ cs) part h p =
    let parts = and_parts (is_command c) (are_commands cs) h in
    let l = leads c (stream cs ++ part) parts.0 in
    let step = more_commands (bytes_of c ++ (stream cs ++ part)) c.block l.whole in
    ap rest_of (append_assoc (bytes_of c) (stream cs) part) ∙ step.rest ∙ ap rest_of l.behind ∙ found_rest cs part parts.1 p

-- a disk that takes bytes
pub took : (xs : List ℕ) (d : DiskContent) → takes xs d ≡ true
    → disk_took xs d ≡ record { stored = obeyed (commands_of (d.begun ++ xs)) d.stored; begun = rest_of (d.begun ++ xs) }
took xs d h = cond-true (takes xs d) _ _ h

abbrev pub after_of : List DiskCommand → List ℕ → DiskContent → DiskContent
after_of cs part d = record { stored = obeyed cs d.stored; begun = part }

pub obeyed_all : (cs : List DiskCommand) (part : List ℕ) (d : DiskContent) → are_commands cs ≡ true → is_part part ≡ true
    → d.begun ≡ [] → fits cs d.stored.replies ≡ true → Obeyed cs part d (disk_took (stream cs ++ part) d)
obeyed_all cs part d h p b f =
    let all : d.begun ++ (stream cs ++ part) ≡ stream cs ++ part = ap (λ t. t ++ (stream cs ++ part)) b in
    let c : commands_of (d.begun ++ (stream cs ++ part)) ≡ cs = ap commands_of all ∙ found_commands cs part h p in
    let r : rest_of (d.begun ++ (stream cs ++ part)) ≡ part = ap rest_of all ∙ found_rest cs part h p in
    let front : could_go_on (d.begun ++ (stream cs ++ part)) ≡ true
    = ap is_front r ∙ (and_parts (is_none (whole_block part)) (is_front part) p).1 in
    let fit : fits (commands_of (d.begun ++ (stream cs ++ part))) d.stored.replies ≡ true = ap (λ t. fits t d.stored.replies) c ∙ f in
    let e : disk_took (stream cs ++ part) d ≡ after_of cs part d
    = took (stream cs ++ part) d (and_from _ _ front fit) ∙ ap (λ t. after_of t (rest_of (d.begun ++ (stream cs ++ part))) d) c ∙ ap (λ t. after_of cs t d) r in
    record {
      bytes = ap (λ t. t.stored.bytes) e;
      replies = ap (λ t. t.stored.replies.packets) e;
      room = ap (λ t. t.stored.replies.room) e;
      begun = ap (λ t. t.begun) e;
    }

-- more bytes behind a whole command
longer_block : (xs ys : List ℕ) → 31 ≤ length xs → block_of (xs ++ ys) ≡ block_of xs
longer_block xs ys h = sym (block_of_head (xs ++ ys)) ∙ ap block_of (take-append-le 31 xs ys h) ∙ block_of_head xs

some_block : (n : ℕ) (o : Option CommandBlock) (c : CommandBlock) → with_room n o ≡ Some c → o ≡ Some c
some_block n None c h = absurd (search rules)
some_block n (Some x) c h = ap Some (chosen (nat_le (size_of x) n) x c h).1

longer_whole : (xs ys : List ℕ) (c : CommandBlock) → whole_block xs ≡ Some c → whole_block (xs ++ ys) ≡ Some c
longer_whole xs ys c e =
    let has = whole_has xs c e in
    let b : block_of (xs ++ ys) ≡ Some c = longer_block xs ys (omega arith) ∙ some_block (length xs) (block_of xs) c e in
    ap (with_room (length (xs ++ ys))) b ∙ room_for (length (xs ++ ys)) c (rw (length-append xs ys) (omega arith))

longer_data : (xs ys : List ℕ) (c : CommandBlock) → size_of c ≤ length xs → with_data (xs ++ ys) c ≡ with_data xs c
longer_data xs ys c h =
    ap (λ t. record { block = c; bytes = t })
    (ap (λ u. take (follows c) u) (drop-append-le 31 xs ys (omega arith)) ∙ take-append-le (follows c) (drop 31 xs) ys (rw (length-drop 31 xs) (omega arith)))

-- bytes behind others: the commands of both
pub record Joins (xs ys : List ℕ) : Type 0 where
  pub commands : commands_of (xs ++ ys) ≡ commands_of xs ++ commands_of (rest_of xs ++ ys)
  pub rest : rest_of (xs ++ ys) ≡ rest_of (rest_of xs ++ ys)

joins_part : (xs ys : List ℕ) → whole_block xs ≡ None → Joins xs ys
joins_part xs ys e = record {
  commands = sym (ap (λ t. t ++ commands_of (rest_of xs ++ ys)) (no_commands xs e) ∙ ap (λ t. commands_of (t ++ ys)) (all_rest xs e));
  rest = sym (ap (λ t. rest_of (t ++ ys)) (all_rest xs e));
}

joins_in : (n : ℕ) (xs ys : List ℕ) → length xs ≤ n → Joins xs ys
joins_in zero [] ys h = joins_part [] ys nothing_is_no_block
joins_in zero (x ∷ xs) ys h = absurd (omega arith)
joins_in (suc n) xs ys h = elim (begins xs) [
  | Part e ↦ joins_part xs ys e
  | Whole c e ↦
      let has = whole_has xs c e in
      let low = more_commands xs c e in
      let high = more_commands (xs ++ ys) c (longer_whole xs ys c e) in
      let left : drop (size_of c) (xs ++ ys) ≡ drop (size_of c) xs ++ ys = drop-append-le (size_of c) xs ys has in
      let more = joins_in n (drop (size_of c) xs) ys (fewer_left xs c n e h) in
      record {
        commands = high.commands ∙ ap (λ t. t ∷ commands_of (drop (size_of c) (xs ++ ys))) (longer_data xs ys c has)
            ∙ ap (λ t. with_data xs c ∷ t) (ap commands_of left ∙ more.commands ∙ ap (λ t. commands_of (drop (size_of c) xs) ++ commands_of (t ++ ys)) (sym low.rest))
            ∙ ap (λ t. t ++ commands_of (rest_of xs ++ ys)) (sym low.commands);
        rest = high.rest ∙ ap rest_of left ∙ more.rest ∙ ap (λ t. rest_of (t ++ ys)) (sym low.rest);
      }
]

pub joins : (xs ys : List ℕ) → Joins xs ys
joins xs ys = joins_in (length xs) xs ys (omega arith)

-- fewer bytes could go on too
front_of_some : (bs : List ℕ) (c : CommandBlock) → block_of bs ≡ Some c → is_front bs ≡ true
unfolding block_of
front_of_some bs c e = (and_parts (nat_le 31 (length bs)) (is_front bs) (chosen (is_block bs) (command_of bs) c e).0).1

fewer_front : (xs ys : List ℕ) → is_front (xs ++ ys) ≡ true → is_front xs ≡ true
unfolding is_front
fewer_front xs ys h = fewer_fit command_rows nothing_seen xs ys h

part_goes_on : (r ys : List ℕ) → is_front (rest_of (r ++ ys)) ≡ true → is_front r ≡ true
part_goes_on r ys h = elim (begins (r ++ ys)) [
  | Whole c e ↦ fewer_front r ys (front_of_some (r ++ ys) c (some_block (length (r ++ ys)) (block_of (r ++ ys)) c e))
  | Part e ↦ fewer_front r ys (ap is_front (sym (all_rest (r ++ ys) e)) ∙ h)
]

pub fewer_go_on : (xs ys : List ℕ) → could_go_on (xs ++ ys) ≡ true → could_go_on xs ≡ true
fewer_go_on xs ys h = part_goes_on (rest_of xs) ys (ap is_front (sym (joins xs ys).rest) ∙ h)

-- commands behind others
pub contents_both : (bytes : List ℕ) (cs ds : List DiskCommand) → contents bytes (cs ++ ds) ≡ contents (contents bytes cs) ds
unfolding contents
contents_both bytes [] ds = refl
contents_both bytes (c ∷ cs) ds = contents_both (after_command bytes c) cs ds

pub answers_both : (bytes : List ℕ) (cs ds : List DiskCommand) → answers bytes (cs ++ ds) ≡ answers bytes cs ++ answers (contents bytes cs) ds
unfolding answers contents
answers_both bytes [] ds = refl
answers_both bytes (c ∷ cs) ds =
    ap (λ t. answer bytes c ++ t) (answers_both (after_command bytes c) cs ds)
    ∙ sym (append_assoc (answer bytes c) (answers (after_command bytes c) cs) (answers (contents (after_command bytes c) cs) ds))

pub lengths_both : (cs ds : List DiskCommand) → reply_lengths (cs ++ ds) ≡ reply_lengths cs + reply_lengths ds
unfolding reply_lengths
lengths_both [] ds = omega arith
lengths_both (c ∷ cs) ds =
    let e : reply_lengths (cs ++ ds) ≡ reply_lengths cs + reply_lengths ds = lengths_both cs ds in
    ap (λ n. reply_length c.block + n) e ∙ (let s : reply_length c.block + (reply_lengths cs + reply_lengths ds) ≡ reply_length c.block + reply_lengths cs + reply_lengths ds = omega arith in s)

pub bytes_of_answers : (bytes : List ℕ) (cs : List DiskCommand) → bytes_in (answers bytes cs) ≡ reply_lengths cs
unfolding answers reply_lengths
bytes_of_answers bytes [] = refl
bytes_of_answers bytes (c ∷ cs) =
    bytes_in_both (answer bytes c) (answers (after_command bytes c) cs)
    ∙ ap (λ n. n + bytes_in (answers (after_command bytes c) cs)) (bytes_of_answer bytes c)
    ∙ ap (λ n. reply_length c.block + n) (bytes_of_answers (after_command bytes c) cs)

pub obeyed_both : (cs ds : List DiskCommand) (s : Stored) → obeyed ds (obeyed cs s) ≡ obeyed (cs ++ ds) s
obeyed_both cs ds s =
    ap (λ t. record { bytes = t; replies = record s.replies { packets = (s.replies.packets ++ answers s.bytes cs) ++ answers (contents s.bytes cs) ds } }) (sym (contents_both s.bytes cs ds))
    ∙ ap (λ t. record { bytes = contents s.bytes (cs ++ ds); replies = record s.replies { packets = t } })
    (append_assoc s.replies.packets (answers s.bytes cs) (answers (contents s.bytes cs) ds) ∙ ap (λ t. s.replies.packets ++ t) (sym (answers_both s.bytes cs ds)))

-- Bytes in two parts, of which both are taken together.
pub record Parted (xs ys : List ℕ) (d : DiskContent) : Type 0 where
  pub first : takes xs d ≡ true
  pub second : takes ys (disk_took xs d) ≡ true
  pub same : disk_took ys (disk_took xs d) ≡ disk_took (xs ++ ys) d

module _ (xs ys : List ℕ) (d : DiskContent) (h : takes (xs ++ ys) d ≡ true) where
  abbrev all : List ℕ
  all = d.begun ++ xs

  abbrev middle : DiskContent
  middle = record { stored = obeyed (commands_of all) d.stored; begun = rest_of all }

  whole : d.begun ++ (xs ++ ys) ≡ all ++ ys
  whole = sym (append_assoc d.begun xs ys)

  goes : could_go_on (all ++ ys) ≡ true
  goes = ap could_go_on (sym whole) ∙ (and_parts (could_go_on (d.begun ++ (xs ++ ys))) (fits (commands_of (d.begun ++ (xs ++ ys))) d.stored.replies) h).0

  sum : commands_of (d.begun ++ (xs ++ ys)) ≡ commands_of all ++ commands_of (rest_of all ++ ys)
  sum = ap commands_of whole ∙ (joins all ys).commands

  room : bytes_in d.stored.replies.packets + (reply_lengths (commands_of all) + reply_lengths (commands_of (rest_of all ++ ys))) ≤ d.stored.replies.room
  room =
      let fit = leb-true (bytes_in d.stored.replies.packets + reply_lengths (commands_of (d.begun ++ (xs ++ ys)))) d.stored.replies.room
      (and_parts (could_go_on (d.begun ++ (xs ++ ys))) (fits (commands_of (d.begun ++ (xs ++ ys))) d.stored.replies) h).1 in
      let e : reply_lengths (commands_of (d.begun ++ (xs ++ ys))) ≡ reply_lengths (commands_of all) + reply_lengths (commands_of (rest_of all ++ ys))
      = ap reply_lengths sum ∙ lengths_both (commands_of all) (commands_of (rest_of all ++ ys)) in
      omega (arith, fit, e)

  first_taken : takes xs d ≡ true
  first_taken = and_from _ _ (fewer_go_on all ys goes) (le-leb _ d.stored.replies.room (let r = room in omega (arith, r)))

  middle_is : disk_took xs d ≡ middle
  middle_is = took xs d first_taken

  second_taken : takes ys middle ≡ true
  second_taken =
      let goes_on : could_go_on (rest_of all ++ ys) ≡ true = ap is_front (sym (joins all ys).rest) ∙ goes in
      let size : bytes_in (d.stored.replies.packets ++ answers d.stored.bytes (commands_of all)) ≡ bytes_in d.stored.replies.packets + reply_lengths (commands_of all)
      = bytes_in_both d.stored.replies.packets (answers d.stored.bytes (commands_of all)) ∙ ap (λ n. bytes_in d.stored.replies.packets + n) (bytes_of_answers d.stored.bytes (commands_of all)) in
      and_from _ _ goes_on (le-leb _ d.stored.replies.room (let r = room in omega (arith, r, size)))

  pub parted : Parted xs ys d
  parted = record {
    first = first_taken;
    second = ap (takes ys) middle_is ∙ second_taken;
    same = ap (disk_took ys) middle_is ∙ took ys middle second_taken
        ∙ ap (λ t. record { stored = t; begun = rest_of (rest_of all ++ ys) }) (obeyed_both (commands_of all) (commands_of (rest_of all ++ ys)) d.stored ∙ ap (λ t. obeyed t d.stored) (sym sum))
        ∙ ap (λ t. record { stored = obeyed (commands_of (d.begun ++ (xs ++ ys))) d.stored; begun = t }) (sym (joins all ys).rest ∙ ap rest_of (sym whole))
        ∙ sym (took (xs ++ ys) d h);
  }

  pub grown : (more : List (List ℕ)) × ((disk_took (xs ++ ys) d).stored.replies.packets ≡ (disk_took xs d).stored.replies.packets ++ more)
  grown = (
    answers middle.stored.bytes (commands_of (rest_of all ++ ys)),
    ap (λ t. t.stored.replies.packets) (sym parted.same ∙ ap (disk_took ys) middle_is ∙ took ys middle second_taken)
        ∙ ap (λ t. t.stored.replies.packets ++ answers middle.stored.bytes (commands_of (rest_of all ++ ys))) (sym middle_is),
  )

some_same : (x y : CommandBlock) → Some x ≡ Some y → x ≡ y
some_same x y h = cc

-- each front part of a command
pub front_part : (c : DiskCommand) (n : ℕ) → is_command c ≡ true → n < length (bytes_of c) → is_part (take n (bytes_of c)) ≡ true
front_part c n h k =
    let bs = bytes_of c in
    let whole : whole_block bs ≡ Some c.block = ap (λ t. whole_block t) (sym (append-nil bs)) ∙ (leads c [] h).whole in
    let split : take n bs ++ drop n bs ≡ bs = take-append-drop n bs in
    let f : is_front bs ≡ true = front_of_some bs c.block (some_block (length bs) (block_of bs) c.block whole) in
    let front = fewer_front (take n bs) (drop n bs) (ap is_front split ∙ f) in
    elim (begins (take n bs)) [
      | Part e ↦ and_from _ _ (ap is_none e) front
      | Whole b e ↦
          let same : b ≡ c.block = some_same b c.block (sym (longer_whole (take n bs) (drop n bs) b e) ∙ ap (λ t. whole_block t) split ∙ whole) in
          let has : size_of c.block ≤ length (take n bs) = subst (λ (t : CommandBlock). size_of t ≤ length (take n bs)) same (whole_has (take n bs) b e) in
          let short : length (take n bs) ≡ n = length-take-le n bs (omega arith) in
          let size_is : length c.bytes ≡ follows c.block = eqb-true (length c.bytes) (follows c.block) (and_parts (is_within c.block) (length c.bytes == follows c.block) h).1 in
          let size : length bs ≡ 31 + length c.bytes = length-append (command_bytes c.block) c.bytes in
          absurd (omega (arith, has, short, size_is, size, k))
    ]
