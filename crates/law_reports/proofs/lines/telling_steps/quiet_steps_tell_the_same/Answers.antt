use Rattle.law_reports.proofs.lemmas.lines.ToldStays.{still_tells, bell_telling, status_telling, narrow_telling}
use Rattle.law_reports.proofs.lemmas.lines.FrameLines.{frame_tells}
use Rattle.law_reports.proofs.lines.telling_steps.quiet_steps_tell_the_same.Goals as goal

pub returns-clause-still : goal.returns-clause-still
returns-clause-still c = still_tells

pub returns-clause-frames : goal.returns-clause-frames
returns-clause-frames c = frame_tells

pub returns-clause-bell : goal.returns-clause-bell
returns-clause-bell c = bell_telling

pub returns-clause-status : goal.returns-clause-status
returns-clause-status c = status_telling

pub returns-clause-narrow : goal.returns-clause-narrow
returns-clause-narrow c = narrow_telling
