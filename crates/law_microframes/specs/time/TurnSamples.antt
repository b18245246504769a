-- How many events are ahead in the script with a keyboard and a disk of `law_world_memory` (EHCI 1.0, 4.4, 4.6, 4.8 and 4.8.3).
--     typed_ahead k        the count, k events and commands after the open of the keyboard's endpoint was accepted
use Rattle.std.specs.Prelude.{ℕ}
use Rattle.law_world.specs.memory.Samples.{typed_at}
use Rattle.law_microframes.specs.visits.VisitSamples.{typed_visits}
use Rattle.law_microframes.specs.time.RoundSamples.{typed_rounds}
use Rattle.law_microframes.specs.time.HeadSamples.{typed_heads}
use Rattle.law_microframes.specs.time.Ahead.{events_ahead}

abbrev pub typed_ahead : ℕ → ℕ
typed_ahead k = events_ahead (typed_at k).control (typed_visits k) (typed_rounds k) (typed_heads k)
