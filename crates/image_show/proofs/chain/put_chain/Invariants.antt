use Rattle.std.proofs.Common.{◌≡◌, ℕ, ◌≤◌, length, ltb}
use Rattle.link_words.specs.Links.{IsAligned}
use Rattle.image_show.specs.Shown.{chain, seen_before, units}
use Rattle.image_show.proofs.Listing.{Stage, unmarked}
use Rattle.image_show.proofs.Marking.{InList}
use Rattle.image_show.proofs.chain.put_chain.Given as goal

abbrev pub invariant-loop-ending : goal.invariant-loop-ending
invariant-loop-ending g l = record {
  aligned : IsAligned l.link;
  lists_whole : length l.lists ≡ units l.image.words;
  queues_whole : length l.queues ≡ units l.image.words;
  stage : (k : ℕ) × (Stage (chain l.image.base l.image.words l.place.home (seen_before l.image l.place.frames)) l.fn.first l.number l.lists l.link k (g.K.Sink.written l.fn.sink) (g.K.Sink.written l.sink) l.fn.page l.page × (ltb 0 k ≡ l.begun));
  marks : InList l.lists l.queues l.number (seen_before l.image l.place.frames);
  counted : g.K.Sink.faults l.fn.sink ≤ g.K.Sink.faults l.sink;
  same : g.K.Sink.faults l.sink ≡ g.K.Sink.faults l.fn.sink;
}

abbrev pub decreases-loop-ending : goal.decreases-loop-ending
decreases-loop-ending g l = unmarked l.number l.lists
