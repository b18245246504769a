use Rattle.law_frames.proofs.ItdBackSampled.{told, itd_met, copied, all_written, bytes_written, word_written, link_left, next_left}
use Rattle.law_frames.proofs.itd_back_worked.a_microframe_is_written_back.Goals as goal

pub returns : goal.returns
returns c = record { told = told; met = itd_met; copied = copied; all = all_written; bytes = bytes_written; word = word_written; link = link_left; next = next_left }
