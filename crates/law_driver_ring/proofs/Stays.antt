-- The controller leaves a transfer that is to be lent.
use Rattle.std.proofs.Common.{◌≡◌, ℕ, ◌+◌, ◌*◌, ◌/◌, false, List, [], ◌∷◌, ◌∙◌, arith}
use Rattle.std.specs.List.{AllByRecursion}
use Rattle.law_driver_ring.proofs.Common.{not_reached}
use Rattle.word_mem.specs.Memory.{Mem, word_at, reaches}
use Rattle.word_mem.specs.Views.{words_at}
use Rattle.word_mem.proofs.Words.{words_in_same}
use Rattle.mem_runs.specs.Book.{Holding, holding, slot_of, Stands}
use Rattle.mem_runs.proofs.Standing.{keeps_at, keeps_all}
use Rattle.drv_table.specs.declared.content.QtdNote.{QtdNote}
use Rattle.drv_table.specs.declared.content.Stage.{Stage}
use Rattle.drv_table.specs.Harvests.{note_at}
use Rattle.law_driver_ring.specs.Written.{IsPageRun, next_blocks, AreWritten}
use Rattle.law_driver_ring.specs.TransferLaws.{WrittenStays}

block_stays : (h : Holding) (new : Mem) (c : ℕ) → Stands h → ((at : ℕ) → reaches h.memory at ≡ false → word_at new at ≡ word_at h.memory at) → IsPageRun (slot_of h.book.slots c) 1 → words_at new (32 * c) 8 ≡ words_at h.memory (32 * c) 8
block_stays h new c stands same run =
    let first = (keeps_at h c run.run stands run.is).0 in
    let blocks = run.blocks in
    words_in_same h.memory.words new.words (32 * c) 8
    (λ i below. same (32 * c + 4 * i) (not_reached h.memory (32 * c + 4 * i) (keeps_all h c run.run stands run.is ((32 * c + 4 * i) / 32) (omega (arith, first)) (omega (arith, first, blocks, below)))))

chain_stays : (h : Holding) (new : Mem) (notes : List QtdNote) (dummy : ℕ) (ss : List Stage) (b : ℕ) → Stands h → ((at : ℕ) → reaches h.memory at ≡ false → word_at new at ≡ word_at h.memory at) → AllByRecursion (λ c. IsPageRun (slot_of h.book.slots c) 1) (b ∷ next_blocks notes ss b) → AreWritten h.memory notes dummy ss b → AreWritten new notes dummy ss b
chain_stays h new notes dummy [] b stands same kept written = block_stays h new b stands same kept.0 ∙ written
chain_stays h new notes dummy (s ∷ ss) b stands same kept written =
    (block_stays h new b stands same kept.0 ∙ written.0, chain_stays h new notes dummy ss (note_at notes b).next stands same kept.1 written.1)

pub written_stays : WrittenStays
written_stays d m new t y x s ss k stands same = record {
  here = k.here;
  qtds = k.qtds;
  first = k.first;
  taken = k.taken;
  apart = k.apart;
  ends = k.ends;
  qtds_kept = k.qtds_kept;
  noted = k.noted;
  words = chain_stays (holding d.book m) new d.notes x.dummy ss (note_at d.notes y.first).next stands same k.qtds_kept k.words;
  short = k.short;
  pids = k.pids;
}
