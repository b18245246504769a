-- What the run of each script that a text spells keeps of the visits of both walks.
use Rattle.law_world.proofs.lemmas.memory.Reasons.{texts_keep_reasons}
use Rattle.law_microframes.specs.visits.Keeps.{TextsKeepVisits}
use Rattle.law_microframes.proofs.lemmas.visits.VisitsKept.{texts_visit_each, texts_visit_each_once}
use Rattle.law_microframes.proofs.lemmas.visits.ReasonHeld.{texts_keep_held_time}
use Rattle.law_microframes.proofs.lemmas.visits.ReasonTexts.{texts_keep_place_of_ring, texts_keep_frame_reasons}

pub texts_keep_visits : TextsKeepVisits
texts_keep_visits text s spelled = record {
  once = texts_visit_each_once text s spelled;
  each = texts_visit_each text s spelled;
  held = texts_keep_held_time text s spelled;
  place = texts_keep_place_of_ring text s spelled;
  ring = texts_keep_reasons text s spelled;
  frames = texts_keep_frame_reasons text s spelled;
}
