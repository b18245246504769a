use Rattle.std.proofs.Common.{◌≡◌, ℕ, ◌≤◌, length, slice_index}
use Rattle.std.specs.Prelude.{◌⊎◌}
use Rattle.link_words.specs.Links.{IsQtdAligned}
use Rattle.image_show.specs.Shown.{queue, units}
use Rattle.image_show.proofs.Listing.{Stage, unmarked}
use Rattle.image_show.proofs.queue.put_queue.Given as goal

abbrev pub invariant-loop-ending : goal.invariant-loop-ending
invariant-loop-ending g l = record {
  whole : length l.marks ≡ units l.words;
  aligned : IsQtdAligned l.link;
  stage : (k : ℕ) × Stage (queue l.base l.words) l.fn.first l.head l.marks l.link k (g.K.Sink.written l.fn.sink) (g.K.Sink.written l.sink) l.fn.page l.page;
  counted : g.K.Sink.faults l.fn.sink ≤ g.K.Sink.faults l.sink;
  same : g.K.Sink.faults l.sink ≡ g.K.Sink.faults l.fn.sink;
  marks : (u : ℕ) → (slice_index l.marks u ≡ l.head) ⊎ (slice_index l.marks u ≡ slice_index l.fn.marks u);
}

abbrev pub decreases-loop-ending : goal.decreases-loop-ending
decreases-loop-ending g l = unmarked l.head l.marks
