use Rattle.law_descriptors.proofs.Storing.{read_frame_drives, read_status_drives, advance_drives, bell_drives}
use Rattle.law_descriptors.proofs.row_laws.readings_leave_the_frames.Goals as goal

pub returns : goal.returns
returns c = record { frame = read_frame_drives; status = read_status_drives; advance = advance_drives; bell = bell_drives }
