use Rattle.law_frames.proofs.Backs.{counted, all_written, told_back, met_again, others_stay}
use Rattle.law_frames.proofs.sitd_back_laws.a_write_back_of_a_sitd_is_told.Goals as goal

pub returns : goal.returns
returns c = record {
  counted = counted;
  whole = λ met parts m reply c o into k settled received. all_written met parts m reply c o into k received;
  left = told_back;
  met = met_again;
  others = others_stay;
}
