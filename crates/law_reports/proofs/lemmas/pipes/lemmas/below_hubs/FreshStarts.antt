-- No start-split of a script that a text spells finds what was told.
use Rattle.std.proofs.Common.{sym, ap, ◌∙◌}
use Rattle.std.proofs.lemmas.Option.{same_Some}
use Rattle.multi_tt.specs.Translators.{place_of}
use Rattle.bus_wire.specs.Bus.{fixed_of}
use Rattle.law_below_hubs.proofs.HostFinds.{unworked_is_untold}
use Rattle.law_world.specs.steps.Streaming.{wired}
use Rattle.law_microframes.specs.translators.Fresh.{key_started}
use Rattle.law_microframes.proofs.lemmas.translators.Fresh.{starts_find_none_worked}
use Rattle.bus_world.specs.Budgets.{moment}
use Rattle.law_reports.specs.pipes.below_hubs.BehindLaws.{TextsFindNoneTold}

pub texts_find_none_told : TextsFindNoneTold
texts_find_none_told text s spelled k h start i place at =
    unworked_is_untold (key_started h.copy.queue_head) i place (wired (fixed_of s) (moment s k).world) (λ hub t e here there found.
    let same = same_Some at.content hub (sym at.there ∙ here) in
    starts_find_none_worked text s spelled k h start i place hub t e at.found here
    (ap (λ x. place_of x.translators.multi h.copy.queue_head.port) (sym same) ∙ at.place_is) there found)
