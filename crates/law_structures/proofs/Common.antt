-- Lemmas that several files need.
use Rattle.std.proofs.Common.{Bool, if◌then◌else◌, ◌≤◌, true, arith, false, length, ◌≡◌, Option, Some, List, ℕ, ◌+◌, ap, ◌&&◌, ◌∙◌, ◌-◌, ◌%◌, ◌/◌, refl, ◌<◌}
use Rattle.std.proofs.lemmas.List.{length-drop, take_all}
use Rattle.std.proofs.lemmas.Bool.{le-leb}
use Rattle.std.specs.Prelude.{nat_le}
use Rattle.std.proofs.lemmas.Option.{slice_get_within}
use Rattle.usb_base.specs.declared.packets.Split.{Split}
use Rattle.usb_base.specs.declared.packets.Pid.{Pid}
use Rattle.word_mem.specs.declared.blocks.BlockState.{BlockState}
use Rattle.word_mem.specs.declared.blocks.BlockState.TheVariants.{Kept, Lent}
use Rattle.word_mem.specs.Memory.{Mem, refused, IsShaped, reaches}
use Rattle.word_mem.proofs.Frames.{lent_if_reached}
use Rattle.mem_bytes.specs.Bytes.{all_reached, bytes_at, AreReached, with_bytes, stored}
use Rattle.mem_bytes.proofs.Reach.{stored_all, all_reached_if}
use Rattle.toggle_error.specs.declared.host.HostSide.{HostSide}
use Rattle.toggle_error.specs.Columns.{limit_of}
use Rattle.qh_qtd.specs.declared.queue_head.Qh.{Qh}
use Rattle.qh_qtd.specs.QueueHead.{qh_words, IsQhInRange}
use Rattle.qh_qtd.proofs.QhLaws.{qh_words-length}
use Rattle.qh_qtd.specs.declared.qtd.Qtd.{Qtd}
use Rattle.mem_queues.specs.Structures.{overlay_words}
use Rattle.transactions.specs.Asks.{token_pid}
use Rattle.hc_copy.specs.Buffer.{size_of, bytes_read, bytes_written, placed}
use Rattle.hc_copy.specs.Overlay.{buffer_place}
use Rattle.law_structures.specs.lent_structures.Structures.{Element}
use Rattle.usb_base.specs.declared.packets.Pid.TheVariants as Packets
use Rattle.usb_base.specs.declared.packets.Split.TheVariants as Splits

pub few_if : (b : Bool) (host : HostSide) → (if b then limit_of host else 0) ≤ host.left
few_if true host = omega arith
few_if false host = omega arith

pub nine_words : (q : Qh) → length (overlay_words q) ≡ 9
nine_words q = let l = length-drop 3 (qh_words q) in let n = qh_words-length q in omega (arith, l, n)

pub kept_no_lent : (o : Option BlockState) → o ≡ Some Kept → o ≡ Some Lent → ⊥
kept_no_lent o kept lent = cc

pub read_whole : (pages : List ℕ) (from n : ℕ) (m : Mem) (bs : List ℕ) → from + n ≤ size_of pages → all_reached m pages from n ≡ true
    → bytes_at m pages from n ≡ bs → bytes_read pages from n m ≡ record { bytes = bs; memory = m; all = true }
read_whole pages from n m bs within reached bytes =
    let inside = le-leb (from + n) (size_of pages) within in
    ap (λ (xs : List ℕ). record {
      bytes = xs;
      memory =
          if nat_le (from + n) (size_of pages) then (if all_reached m pages from n then m else refused m) else m;
      all =
          nat_le (from + n) (size_of pages) && all_reached m pages from n;
    }) bytes
    ∙ ap (λ (b : Bool). record {
      bytes = bs;
      memory = if b then (if all_reached m pages from n then m else refused m) else m;
      all =
          b && all_reached m pages from n;
    }) inside
    ∙ ap (λ (b : Bool). record { bytes = bs; memory = if b then m else refused m; all = b }) reached

pub wrote_bytes : (m : Mem) (pages : List ℕ) (from : ℕ) (got : List ℕ) → from + length got ≤ size_of pages
    → AreReached m pages from (length got) → bytes_written pages from got m ≡ record { memory = with_bytes m pages from got; all = true }
wrote_bytes m pages from got fits reached =
    let all : placed pages from got ≡ got = take_all (size_of pages - from) got (omega (arith, fits)) in
    ap (λ (bs : List ℕ). record {
      memory = stored m pages from bs;
      all =
          all_reached m pages from (length bs) && nat_le (from + length got) (size_of pages);
    }) all
    ∙ ap (λ (x : Mem). record { memory = x; all = all_reached m pages from (length got) && nat_le (from + length got) (size_of pages) })
    (stored_all m pages from got reached)
    ∙ ap (λ (b : Bool). record { memory = with_bytes m pages from got; all = b && nat_le (from + length got) (size_of pages) })
    (all_reached_if m pages from (length got) reached)
    ∙ ap (λ (b : Bool). record { memory = with_bytes m pages from got; all = b }) (le-leb (from + length got) (size_of pages) fits)

pub element_is : (t u : Qtd) → Element t ≡ Element u → t ≡ u
element_is t u same = cc

pub block_inside : (m : Mem) (a : ℕ) → IsShaped m → a % 32 ≡ 0 → reaches m a ≡ true → a / 4 + 8 ≤ length m.words
block_inside m a shape aligned reached =
    let inside = slice_get_within m.states (a / 32) Lent (lent_if_reached m a reached) in
    omega (arith, inside, shape.eight_each, aligned)

pub in_token : (split : Split) (out : Pid) → token_pid split Packets.In out ≡ Packets.In
in_token Splits.Plain out = refl
in_token _ out = refl

pub place_few : (q : Qh) → IsQhInRange q → buffer_place q < 20480
place_few q (link, (chars, (caps, (current, (next, (alternate, ((total, (page, (errors, pid))), ((page0, (offset, _)), rest)))))))) =
    omega (arith, page, offset)
